-- The ends of a trial.
use Rattle.std.proofs.Common.{◌≡◌, ℕ, suc, ◌+◌, ◌*◌, ◌<◌, ◌≤◌, ℤ, Bool, true, false, cond, List, [], ◌∷◌, ◌++◌, length, refl, sym, ap, ◌∙◌}
use Rattle.std.proofs.Common.{subst, arith, inl, inr, Option, Some, None}
use Rattle.std.specs.Prelude.{slice_get}
use Rattle.std.proofs.lemmas.List.{length-map}
use Rattle.std.proofs.lemmas.Bool.{eqb-true}
use Rattle.fcp_model.specs.Places.{Variable, own}
use Rattle.fcp_model.specs.Terms.{Term, Bindings}
use Rattle.fcp_model.specs.Programs.{Goal, Program, Clause, rename_goal}
use Rattle.fcp_model.specs.Decisions.{Decision, commits}
use Rattle.fcp_model.specs.Cells.{clause_used}
use Rattle.fcp_model.specs.Events.{vars_of, body_of}
use Rattle.heap_words.specs.Cells.{decoded}
use Rattle.heap_words.specs.declared.cell.Cell.TheVariants.{Raw, Small, Status}
use Rattle.heap_words.specs.declared.cell.Stand.TheVariants.{Ready}
use Rattle.word_states.specs.Words.{Words, AreDistinct}
use Rattle.word_states.specs.Denoting.{Addresses}
use Rattle.word_states.specs.Pieces.{StartsAt, IsPiece, a_place, a_pair, a_tuple, a_wide, a_process, is_process, process_words, with_own}
use Rattle.word_states.specs.Pieces.{with_variables}
use Rattle.word_states.specs.Trials.{WaitSays}
use Rattle.word_states.proofs.Pieces.{nine_is}
use Rattle.machine_code.specs.Instructions.{Op, Commit}
use Rattle.machine_code.specs.Machine.{Trying, Meaning, follow, obey, untried}
use Rattle.machine_code.specs.Correct.{body_used, children_by}
use Rattle.trial_laws.specs.AtHand.{AtHand, end_of, ArePieces, GoalsSay, StandsForTry, Gives}
use Rattle.trial_laws.specs.Endings.{IsOfSource}
use Rattle.trial_laws.proofs.EndLaws.{commit_says}
use Rattle.trial_laws.proofs.WaitLaws.{fail_says, wait_says}
use Rattle.steady_tries.specs.Steady.{arguments_of}
use Rattle.steady_tries.specs.Ends.{SteadyCommit, BetweenFail, BetweenWait}
use Rattle.steady_tries.proofs.FinalPieces.{not_nine}
use Rattle.steady_tries.proofs.Places.{places_many}
use Rattle.steady_tries.proofs.Going.{the_store}

-- what the code gives from a position on is what the clauses decide
on_way : (m : Program) (bound : Bindings) (g : Goal Variable) (ops : List Op) (args : List (Term Variable)) (start at : ℕ) (t u : Trying)
    → IsOfSource m bound g ops args start t → ((d : Meaning) → Gives bound ops args at u d → Gives bound ops args start t d)
    → IsOfSource m bound g ops args at u
on_way m bound g ops args start at t u h gives d k = h d (gives d k)

-- goals at addresses are as many
as_many : (u : Words) (us : Addresses) (bs : Bindings) (qs : List ℕ) (gs : List (Goal Variable)) → GoalsSay u us bs qs gs
    → length qs ≡ length gs
as_many u us bs [] [] h = refl
as_many u us bs (q ∷ qs) (g ∷ gs) h = ap suc (as_many u us bs qs gs h.1)
as_many u us bs [] (g ∷ gs) h = absurd h
as_many u us bs (q ∷ qs) [] h = absurd h

no_raw : (x n : ℕ) → decoded x ≡ Some (Raw n) → x ≡ 9 → ⊥
no_raw x n d e = let k : Some (Raw n) ≡ Some (Status Ready) = sym d ∙ (ap decoded e ∙ nine_is) in cc

no_small : (x : ℕ) (z : ℤ) → decoded x ≡ Some (Small z) → x ≡ 9 → ⊥
no_small x z d e = let k : Some (Small z) ≡ Some (Status Ready) = sym d ∙ (ap decoded e ∙ nine_is) in cc

-- a process has at least four words
process_long : (p : List ℕ) → IsPiece p → is_process p ≡ true → 4 ≤ length p
process_long p (a_place x e f) h = let k : false ≡ true = sym (ap is_process e) ∙ h in cc
process_long p (a_pair x y e f g n) h = absurd (not_nine x f (eqb-true x 9 (sym (ap is_process e) ∙ h)))
process_long p (a_tuple r n xs e d l f) h = absurd (no_raw r n d (eqb-true r 9 (sym (ap is_process e) ∙ h)))
process_long p (a_wide x z e d) h = absurd (no_small x z d (eqb-true x 9 (sym (ap is_process e) ∙ h)))
process_long p (a_process f g r n xs e d i l k) h = subst (λ q. 4 ≤ length q) (sym e) (omega arith)

-- so many processes among pieces
processes_few : (b : ℕ) (ps : List (List ℕ)) → ((a : ℕ) (p : List ℕ) → StartsAt b ps a p → IsPiece p)
    → b + 4 * length (process_words b ps) ≤ end_of b ps
processes_few b [] h = omega arith
processes_few b (p ∷ ps) h = go (is_process p) refl (processes_few (b + length p) ps (λ a q s. h a q (inr s)))
  where
    go : (o : Bool) → is_process p ≡ o → b + length p + 4 * length (process_words (b + length p) ps) ≤ end_of (b + length p) ps
        → b + 4 * length (cond o (b ∷ process_words (b + length p) ps) (process_words (b + length p) ps)) ≤ end_of (b + length p) ps
    go true e k = let l = process_long p (h b p (inl (refl, refl))) e in omega (arith, k, l)
    go false e k = omega (arith, k)

body_long : (o : Option Clause) → length (body_used o) ≡ length (body_of o)
body_long None = refl
body_long (Some c) = length-map c.body (rename_goal own)

-- the clause by which a try commits has few goals, since each has a process among few words
few_goals : (m : Program) (w : Words) (vs : Addresses) (bound : Bindings) (g : Goal Variable) (ops : List Op) (args : List (Term Variable))
    (at : ℕ) (r : AtHand) (t : Trying) → StandsForTry w vs bound r t → ArePieces r.pieces → slice_get ops at ≡ Some Commit
    → IsOfSource m bound g ops args at t → end_of 4000000000 r.pieces ≤ 4268435456 → length (body_of (clause_used m g r.clause)) < 268435455
few_goals m w vs bound g ops args at r t s formed e source few =
    let k = source (record { decision = commits t.clause t.bound (t.earlier ++ t.read); children = t.children })
    (1, ap (λ o. obey (follow 0 bound ops args) 0 bound args at t o) e) in
    let p = processes_few 4000000000 r.pieces formed.each in
    let l = as_many (with_own r.pieces w) (with_variables r.pieces vs) t.bound (process_words 4000000000 r.pieces) t.children s.children in
    let b : length t.children ≡ length (body_of (clause_used m g r.clause)) =
    of_decision k.0 (ap (λ d. d.children) k.2) (ap (λ d. d.decision) k.2) in
    omega (arith, few, p, l, b)
  where
    of_decision : (d : Decision) → t.children ≡ children_by m g d → commits t.clause t.bound (t.earlier ++ t.read) ≡ d
        → length t.children ≡ length (body_of (clause_used m g r.clause))
    of_decision d f i =
        let c : children_by m g d ≡ body_used (clause_used m g t.clause) = ap (children_by m g) (sym i) in
        ap length (f ∙ c) ∙ (body_long (clause_used m g t.clause) ∙ ap (λ (n : ℕ). length (body_of (clause_used m g n))) (sym s.clause))

pub commit_steady : SteadyCommit
commit_steady c kept at n r course h m program e vars few w vs bound g t =
    let f = h.follows w vs bound g t in
    let store = the_store kept c.process w vs bound g t in
    let source = on_way m bound g c.ops (arguments_of g) c.start at untried f.state (program.source w vs bound g t) f.gives in
    let same : c.vars r.clause ≡ vars_of (clause_used m g r.clause) = program.vars w vs bound g t r.clause in
    commit_says w vs bound c.ops (arguments_of g) at r f.state store h.safe.led.pieces f.stands m g e source
    (ap length h.places ∙ (places_many (c.vars r.clause) 4000000000 ∙ same))
    (omega (arith, vars, same), few_goals m w vs bound g c.ops (arguments_of g) at r f.state f.stands h.safe.led.pieces e source few)

no_pieces_formed : (ps : List (List ℕ)) → ps ≡ [] → ArePieces ps
no_pieces_formed ps e = subst ArePieces (sym e) (record { each = λ a p s. absurd s; few = omega arith })

pub fail_between : BetweenFail
fail_between c kept at r course h m program e behind w vs bound g t =
    let f = h.follows w vs bound g t in
    fail_says w vs bound c.ops (arguments_of g) at f.hand f.state (the_store kept c.process w vs bound g t)
    (no_pieces_formed f.hand.pieces f.no_pieces) f.stands m g e
    (on_way m bound g c.ops (arguments_of g) c.start at untried f.state (program.source w vs bound g t) f.gives) (f.same_behind ∙ behind)

pub wait_between : BetweenWait
wait_between c kept at r course h m program e behind w vs bound g t =
    let f = h.follows w vs bound g t in
    subst (λ ws. WaitSays m w vs bound g ws) f.same_waits
    (wait_says w vs bound c.ops (arguments_of g) at f.hand f.state (the_store kept c.process w vs bound g t)
    (no_pieces_formed f.hand.pieces f.no_pieces) f.stands m g e
    (on_way m bound g c.ops (arguments_of g) c.start at untried f.state (program.source w vs bound g t) f.gives) (f.same_behind ∙ behind)
    (subst AreDistinct (sym f.same_waits) h.safe.waits_apart))
