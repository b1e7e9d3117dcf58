-- The trial of a process that assigns.
use Rattle.std.proofs.Common.{◌≡◌, ℕ, zero, suc, ◌+◌, ◌<◌, ℤ, true, false, List, [], ◌∷◌, ◌++◌, refl, sym, ap, ◌∙◌, subst}
use Rattle.std.proofs.Common.{⊎_elim, arith, Option, Some, None}
use Rattle.std.specs.Prelude.{unwrap_or, slice_get}
use Rattle.std.proofs.lemmas.Option.{same_Some}
use Rattle.fcp_model.specs.Places.{Variable}
use Rattle.fcp_model.specs.Terms.{Term, number, Bindings}
use Rattle.fcp_model.specs.Expressions.{Expr}
use Rattle.fcp_model.specs.Programs.{Goal, user, true', unifies, assigns, Program}
use Rattle.fcp_model.specs.declared.goal.TheConstants.{TRUE_PROCEDURE, UNIFY_PROCEDURE, ASSIGN_PROCEDURE}
use Rattle.fcp_model.specs.Cells.{clause_used}
use Rattle.fcp_model.specs.Events.{vars_of}
use Rattle.heap_words.specs.Trails.{WordList, word_at, Says, AreOnce}
use Rattle.heap_words.specs.WordsLaws.{WordsLaws}
use Rattle.ro_unify.specs.Walks.{first_some, Tame}
use Rattle.ro_unify.proofs.Ending.{tame_free}
use Rattle.word_states.specs.Words.{Words, IsIn}
use Rattle.word_states.specs.Denoting.{Addresses, Arguments, ExprSays}
use Rattle.word_states.specs.Trials.{IsTried, FailSays, WaitSays, IsReadWait}
use Rattle.unify_terms.specs.WordsOfTries.{memory_of}
use Rattle.guard_tests.specs.declared.number.Evaluated.{Evaluated}
use Rattle.guard_tests.specs.declared.number.Evaluated.TheVariants as came
use Rattle.guard_tests.specs.Opened.{WasSeenOpen, ReadsOpen}
use Rattle.machine_code.specs.Fresh.{no_tops, IsFresh}
use Rattle.machine_code.specs.Instructions.{Try, PutWord}
use Rattle.machine_code.specs.Machine.{untried}
use Rattle.trial_laws.specs.BuiltIns.{assign_code}
use Rattle.trial_laws.specs.Endings.{IsOfSource}
use Rattle.trial_laws.specs.Laws as laws
use Rattle.trial_laws.proofs.BuiltInLaws.{assign_so, bad_so, unready_so}
use Rattle.safe_tries.specs.Stored.{IsStored}
use Rattle.stored_tries.proofs.Handing.{wait}
use Rattle.stored_tries.proofs.Stores.{none_own}
use Rattle.stored_expressions.specs.Laws.{ComesTo}
use Rattle.stored_expressions.specs.Storing.{IsEvaluated}
use Rattle.stored_expressions.proofs.Stores.{stored_so}
use Rattle.steady_tries.specs.Steady.{arguments_of}
use Rattle.steady_tries.specs.Ends.{IsOfProgram}
use Rattle.steady_tries.proofs.Going.{the_store, tried_less}
use Rattle.steady_tries.proofs.Testing.{each_one}
use Rattle.trial_machine.specs.declared.machine.Machine.{Machine}
use Rattle.trial_machine.specs.declared.decide.Trial.{Trial}
use Rattle.trial_machine.specs.declared.decide.Trial.TheVariants.{Wait, Fails}
use Rattle.trial_machine.specs.Assigning.{ExpressionSays, WereOpen}
use Rattle.trial_machine.specs.Deciding.{Concludes, DecidesAll}
use Rattle.trial_machine.specs.Goals.{Calls, NoGoal, AreKept, HoldsArguments, ArgumentsRead}
use Rattle.trial_machine.specs.Machines.{Frame, course, words_of, at_machine, IsResting, IsOnWay, StepsOn, HasLeft, LeftSafe}
use Rattle.trial_machine.specs.Running.{IsLast}
use Rattle.trial_machine.proofs.Arguments.{none_kept}
use Rattle.trial_machine.proofs.Calling.{calls_on}
use Rattle.trial_machine.proofs.GoalWords.{same_number}
use Rattle.trial_machine.proofs.Loading.{holds_free}
use Rattle.trial_machine.proofs.Readiness.{rests_at, are_arguments, arguments_say}

-- a process that assigns
pub record AssignGoal (w : Words) (vs : Addresses) (p n : ℕ) (g : Goal Variable) : Type 0 where
  pub target : Term Variable
  pub expression : Expr Variable
  pub is : g ≡ assigns target expression
  pub count : 2 ≡ n
  pub says : Arguments w vs (p + 4) (target ∷ [])

pub assign_goal : (kept : WordList) (p n : ℕ) → Calls kept p ASSIGN_PROCEDURE n → (w : Words) (vs : Addresses) (bound : Bindings)
    (g : Goal Variable) → IsTried kept p w vs bound g → AssignGoal w vs p n g
assign_goal kept p n c w vs bound (user h ts) t =
    let s : h ≡ ASSIGN_PROCEDURE = same_number kept p w vs bound (user h ts) t (p + 2) ASSIGN_PROCEDURE h c.name t.goal.0 in
    let l = t.goal.3 in absurd (omega (arith, s, l))
assign_goal kept p n c w vs bound true' t =
    let s : TRUE_PROCEDURE ≡ ASSIGN_PROCEDURE = same_number kept p w vs bound true' t (p + 2) ASSIGN_PROCEDURE TRUE_PROCEDURE c.name
    t.goal.0 in absurd (omega (arith, s))
assign_goal kept p n c w vs bound (unifies u v) t =
    let s : UNIFY_PROCEDURE ≡ ASSIGN_PROCEDURE = same_number kept p w vs bound (unifies u v) t (p + 2) ASSIGN_PROCEDURE UNIFY_PROCEDURE
    c.name
    t.goal.0 in absurd (omega (arith, s))
assign_goal kept p n c w vs bound (assigns u e) t = record {
  target = u;
  expression = e;
  is = refl;
  count = same_number kept p w vs bound (assigns u e) t (p + 3) n 2 c.count t.goal.1;
  says = (t.goal.2.0, t.goal.2.2, t.goal.2.3, tt);
}

-- two arguments or no goal
pub not_assigned : (kept : WordList) (p n : ℕ) → Calls kept p ASSIGN_PROCEDURE n → (n ≡ 2 → ⊥) → NoGoal kept p
not_assigned kept p n c other w vs bound g t = other (sym (assign_goal kept p n c w vs bound g t).count)

-- what its expression comes to
expression_comes : (kept : WordList) (p n : ℕ) (d : Evaluated) (rs : List ℕ) → Calls kept p ASSIGN_PROCEDURE n → ExpressionSays kept p d rs
    → (w : Words) (vs : Addresses) (bound : Bindings) (g : Goal Variable) (t : IsTried kept p w vs bound g)
    → (a : AssignGoal w vs p n g) × ComesTo vs bound a.expression [] d rs
expression_comes kept p n d rs c says w vs bound g t =
    let a = assign_goal kept p n c w vs bound g t in
    (a, says w vs bound a.target a.expression (subst (IsTried kept p w vs bound) a.is t))

-- what the trial follows, where the expression comes to a number
abbrev pub assign_frame : ℤ → ℕ → Frame
assign_frame z p = record { ops = assign_code z; start = 0; process = p; vars = λ k. 0 }

-- no variable occurs in its code
assign_fresh : (z : ℤ) → IsFresh (assign_code z) 0 no_tops 0
assign_fresh z zero = tt
assign_fresh z (suc zero) = (tt, λ υ q. tt)
assign_fresh z (suc (suc zero)) = (tt, λ υ q. tt)
assign_fresh z (suc (suc (suc zero))) = (tt, λ υ q. tt)
assign_fresh z (suc (suc (suc (suc n)))) = (tt, λ υ q. tt)

-- its code is that of each program
assign_of : (kept : WordList) (p n : ℕ) (z : ℤ) (rs : List ℕ) → Calls kept p ASSIGN_PROCEDURE n → ExpressionSays kept p (came.Value z) rs
    → (m : Machine) (prog : Program) → IsOfProgram (course (assign_frame z p) m) kept prog
assign_of kept p n z rs c says m prog = record {
  source = λ w vs bound g t.
      let a = expression_comes kept p n (came.Value z) rs c says w vs bound g t in
      subst (λ h. IsOfSource prog bound h (assign_code z) (arguments_of h) 0 untried) (sym a.0.is)
      (assign_so prog bound a.0.target a.0.expression z a.1.value);
  vars = λ w vs bound g t k.
      let a = assign_goal kept p n c w vs bound g t in
      subst (λ h. 0 ≡ vars_of (clause_used prog h k)) (sym a.is) refl;
}

-- so it is decided at the end of the trial, by what was kept before
pub assign_decided : (kept : WordList) (p n : ℕ) (z : ℤ) (rs : List ℕ) (old new : Machine) (d : Trial) → Calls kept p ASSIGN_PROCEDURE n
    → ExpressionSays kept p (came.Value z) rs → ((a x : ℕ) → word_at kept a ≡ Some x → word_at old.trail.kept a ≡ Some x)
    → Concludes (assign_frame z p) old new d → DecidesAll new p d
assign_decided kept p n z rs old new d c says grows h = record {
  says = λ prog. h.says prog (assign_of old.trail.kept p n z rs (calls_on kept old.trail.kept p ASSIGN_PROCEDURE n grows c)
      (λ w vs bound t e tried. says w vs bound t e (tried_less kept old.trail.kept p w vs bound (assigns t e) grows tried)) old prog);
  handed = h.handed;
}

-- the expression comes to no number
pub bad_decided : (m : Machine) (p n : ℕ) (rs : List ℕ) → Calls m.trail.kept p ASSIGN_PROCEDURE n
    → ExpressionSays m.trail.kept p came.Bad rs → DecidesAll m p Fails
bad_decided m p n rs c says = record {
  says = λ prog w vs bound g t.
      let a = expression_comes m.trail.kept p n came.Bad rs c says w vs bound g t in
      subst (FailSays prog bound) (sym a.0.is) (bad_so prog bound a.0.target a.0.expression a.1.value);
  handed = tt;
}

-- each place that is waited for was read
noted_open : (kept : WordList) (rs waits : List ℕ) → WereOpen kept rs → laws.AreNoted [] rs waits → WereOpen kept waits
noted_open kept rs waits opened noted a i =
    ⊎_elim (λ k. absurd k) (λ (k : IsIn a rs × (a < 4000000000)). opened a k.0) ((noted a).0 i)

-- or it waits for the places that it read
pub wait_decided : (old new : Machine) (p n : ℕ) → Calls old.trail.kept p ASSIGN_PROCEDURE n
    → ExpressionSays old.trail.kept p came.Wait old.trail.reads.items → WereOpen old.trail.kept old.trail.reads.items → old.waits ≡ []
    → old.desk.slots.args ≡ [] → HasLeft old new false → LeftSafe old new → AreOnce new.trail.kept → DecidesAll new p Wait
wait_decided old new p n c says opened none no_args left safe once = record {
  says = λ prog w vs bound g t.
      let a = expression_comes old.trail.kept p n came.Wait old.trail.reads.items c says w vs bound g
      (subst (λ k. IsTried k p w vs bound g) left.kept t) in
      subst (λ h. WaitSays prog w vs bound h new.waits) (sym a.0.is)
      (unready_so prog w vs bound a.0.target a.0.expression a.1.more new.waits a.1.variables
      (the_store new.trail.kept p w vs bound g t) a.1.value a.1.called (subst (λ l. laws.AreNoted [] l new.waits) a.1.read noted)
      handed.distinct);
  handed = handed;
}
  where
    noted : laws.AreNoted [] old.trail.reads.items new.waits
    noted = subst (λ l. laws.AreNoted l old.trail.reads.items new.waits) none left.noted

    handed : IsReadWait new.trail.kept new.waits
    handed = wait new.trail.kept (at_machine new) no_tops 0
        (safe (are_arguments old.trail.kept p 0 old.desk.slots.args (none_kept old.trail.kept p old.desk.slots.args no_args))
        (noted_open old.trail.kept old.trail.reads.items new.waits opened noted)) once

module _ {S : Type 0} {addresses : S → ℕ} {sound : S → Type 0} {knows : S → ℕ → Type 0} {had : S → ℕ → ℕ → Type 0} {leads : S → ℕ → Type 0}
    {own shown : S → ℕ → Option ℕ} {later : S → S → Type 0} {gave : S → S → ℕ → ℕ → Type 0}
    (laws' : WordsLaws {S = S} addresses sound knows had leads own shown later gave) where
  -- before the try the first argument is in a slot
  pub assign_ready : (m : Machine) (w : S) (p n : ℕ) (z : ℤ) → IsStored addresses sound had shown later m.trail.kept w
      → Calls m.trail.kept p ASSIGN_PROCEDURE n → AreKept m.trail.kept p 1 m.desk.slots.args → HoldsArguments m
      → IsResting (assign_frame z p) 0 m
  assign_ready m w p n z stored c kept holds = rests_at laws' m w (assign_frame z p) stored holds (record {
    kept_words = are_arguments m.trail.kept p 1 m.desk.slots.args kept;
    named = λ v vs bound g t.
        let a = assign_goal m.trail.kept p n c v vs bound g t in
        subst (λ h. laws.AreArguments v vs (arguments_of h) (words_of m.desk.slots.args)) (sym a.is)
        (arguments_say m.trail.kept v vs p 1 m.desk.slots.args (a.target ∷ []) kept t.has refl a.says);
  }) (assign_fresh z)

  -- and then the try has begun, with the number in the second slot
  pub assign_begun : (kept : WordList) (m b n : Machine) (w : S) (p k : ℕ) (z : ℤ) → IsStored addresses sound had shown later m.trail.kept w
      → Calls kept p ASSIGN_PROCEDURE k → ((a x : ℕ) → word_at kept a ≡ Some x → word_at m.trail.kept a ≡ Some x)
      → ArgumentsRead m p 1 true → ((f : Frame) (at : ℕ) → IsResting f at m → slice_get f.ops at ≡ Some (Try 0 4) → f.vars 0 ≡ 0
      → IsOnWay f (suc at) b) → StepsOn b n (PutWord 1 (number z)) → n.desk.next ≡ 4 → IsLast (assign_frame z p) 2 n
  assign_begun kept m b n w p k z stored c grows read begins puts next = record {
    on_way = puts (assign_frame z p) 1 (begins (assign_frame z p) 0
        (assign_ready m w p k z stored (calls_on kept m.trail.kept p ASSIGN_PROCEDURE k grows c) read.0 read.1) refl refl) refl;
    unifies = refl;
    commits = refl;
    ends = ap (slice_get (assign_code z)) next;
  }

  -- where nothing is bound, walks over what was kept end
  pub free_tame : (kept bs : WordList) (w : S) → IsStored addresses sound had shown later kept w → bs ≡ [] → Tame bs kept (own w)
      (addresses w)
  free_tame kept bs w stored free = subst (λ (l : WordList). Tame l kept (own w) (addresses w)) (sym free)
      (tame_free laws' stored.sound (holds_free laws' kept [] w stored refl))

  -- what the word of the expression comes to, it comes to in each store that has what was kept
  pub expression_says : (kept bs : WordList) (qs : List ℕ) (w : S) (p x : ℕ) (d : Evaluated) (rs : List ℕ)
      → IsStored addresses sound had shown later kept w → bs ≡ [] → qs ≡ [] → word_at kept (p + 5) ≡ Some x
      → Says (own w) kept (λ m. IsEvaluated m bs qs x d rs) → ExpressionSays kept p d rs
  expression_says kept bs qs w p x d rs stored no_binds no_reads there says v vs bound t e tried =
      let z = tried.goal.2 in
      let same : z.1 ≡ x = same_Some z.1 x (sym z.4 ∙ tried.has (p + 5) x there) in
      stored_so (memory_of v) v vs bound (the_store kept p v vs bound (assigns t e) tried)
      (λ a y i. ap (λ (o : Option ℕ). unwrap_or o 12) i) x e (subst (λ y. ExprSays v vs y e) same z.5) [] d rs
      (subst (λ (l : List ℕ). IsEvaluated (memory_of v) [] l x d rs) no_reads
      (subst (λ (l : WordList). IsEvaluated (memory_of v) l qs x d rs) no_binds (says (memory_of v) (record {
        kept_same = λ a y i. ap (λ (o : Option ℕ). unwrap_or o 12) (tried.has a y i);
        own_same = λ a y i. let k : None ≡ Some y = sym (none_own laws' kept w stored a) ∙ i in cc;
      }))))

  -- what it read was unbound
  pub reads_were_open : (kept bs : WordList) (qs : List ℕ) (w : S) (rs : List ℕ) → IsStored addresses sound had shown later kept w
      → qs ≡ [] → ReadsOpen bs kept (own w) qs rs → WereOpen kept rs
  reads_were_open kept bs qs w rs stored no_reads h a i =
      let more : rs ≡ h.more = h.read ∙ ap (λ (l : List ℕ). l ++ h.more) no_reads in
      let s = each_one (WasSeenOpen bs kept (own w)) h.more a h.each_open (subst (IsIn a) more i) in
      (s.word, s.unbound.0, go (word_at kept a) refl s.seen, s.unbound.1)
    where
      go : {x : ℕ} (o : Option ℕ) → word_at kept a ≡ o → first_some (word_at kept a) (own w a) ≡ Some x → word_at kept a ≡ Some x
      go (Some y) e f = e ∙ (sym (ap (λ (q : Option ℕ). first_some q (own w a)) e) ∙ f)
      go {x} None e f =
          let k : None ≡ Some x = sym (none_own laws' kept w stored a) ∙ (sym (ap (λ (q : Option ℕ). first_some q (own w a)) e) ∙ f) in cc
