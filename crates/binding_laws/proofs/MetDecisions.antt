-- What a commit binds: over variables that were met, by a clause of the program or by a built-in process.
use Rattle.std.proofs.Common.{◌≡◌, ℕ, zero, suc, ◌+◌, Bool, true, false, cond, List, [], ◌∷◌, ◌++◌}
use Rattle.std.proofs.Common.{length, Option, Some, None, refl, sym, ap, ◌∙◌, subst, arith}
use Rattle.std.specs.Prelude.{slice_get, option_map, nat_eq}
use Rattle.std.proofs.lemmas.List.{append-nil}
use Rattle.fcp_model.specs.declared.run.Place.{Place}
use Rattle.fcp_model.specs.Places.{Variable, own}
use Rattle.fcp_model.specs.Terms.{Term, number, Bindings}
use Rattle.fcp_model.specs.Unification.{Ended, done, clash, wait, unify}
use Rattle.fcp_model.specs.Expressions.{Evaluated, gives, bad, unready, eval}
use Rattle.fcp_model.specs.Tests.{Test, rename_test, Tested, holds, fails, pauses, test}
use Rattle.fcp_model.specs.Programs.{Goal, user, true', unifies, assigns, Clause, Procedure, Program, clauses_of}
use Rattle.fcp_model.specs.HeadPairs.{head_pairs}
use Rattle.fcp_model.specs.Trials.{Tried, succeeds, try_fails, try_waits, test_on, tests, guard_on, attempt}
use Rattle.fcp_model.specs.Decisions.{commits, choose_on, choose, built_in, assign_on, decide}
use Rattle.fcp_model.specs.Cells.{clause_used}
use Rattle.fcp_model.specs.Events.{vars_of}
use Rattle.fcp_model.specs.ClosedPrograms.{Over, AllOver, GoalOver, IsClosedClause, AreClosed, IsClosed}
use Rattle.binding_laws.proofs.MetTerms.{IsMet, met_in_met, met_is_marked}
use Rattle.binding_laws.proofs.MetBindings.{AreMetBindings}
use Rattle.binding_laws.proofs.MetUnification.{IsMetTry, try_above, unify_keeps}
use Rattle.binding_laws.proofs.HeadMarks.{head_pairs_marked}

-- a clause of a closed program is closed
pub closed_at : (cs : List Clause) (j : ℕ) (c : Clause) → AreClosed cs → slice_get cs j ≡ Some c → IsClosedClause c
closed_at [] j c f e = cc
closed_at (d ∷ cs) zero c f e = let same : d ≡ c = cc in subst IsClosedClause same f.0
closed_at (d ∷ cs) (suc j) c f e = closed_at cs j c f.1 e

procedure_closed : (m : Program) (p : ℕ) (d : Procedure) → IsClosed m → slice_get m p ≡ Some d → AreClosed d.clauses
procedure_closed [] p d f e = cc
procedure_closed (x ∷ m) zero d f e = let same : x ≡ d = cc in subst (λ y. AreClosed y.clauses) same f.0
procedure_closed (x ∷ m) (suc p) d f e = procedure_closed m p d f.1 e

pub clauses_closed : (m : Program) (p n : ℕ) → IsClosed m → AreClosed (clauses_of m p n)
clauses_closed m p n f = go (slice_get m p) refl
  where
    fitting : (d : Procedure) → AreClosed d.clauses → (c : Bool) → AreClosed (cond c d.clauses [])
    fitting d g true = g
    fitting d g false = tt

    go : (o : Option Procedure) → slice_get m p ≡ o → AreClosed
        (elim o as (λ x. List Clause) [ None ↦ [] | Some d ↦ cond (nat_eq d.arity n) d.clauses [] ])
    go None e = tt
    go (Some d) e = fitting d (procedure_closed m p d f e) (nat_eq d.arity n)

pub used_closed : (m : Program) (g : Goal Variable) (k : ℕ) (c : Clause) → IsClosed m → clause_used m g k ≡ Some c → IsClosedClause c
used_closed m (user p args) (suc j) c f e = closed_at (clauses_of m p (length args)) j c (clauses_closed m p (length args) f) e
used_closed m (user p args) zero c f e = cc
used_closed m true' k c f e = cc
used_closed m (unifies t u) k c f e = cc
used_closed m (assigns t x) k c f e = cc

-- tests bind nothing
tests_bind_none : (n : ℕ) (s bs to : Bindings) (behind : Bool) (read : List Variable) (ts : List (Test ℕ)) (rs : List Variable)
    → tests n s bs behind rs ts ≡ Some (succeeds to read) → bs ≡ to
tests_bind_none n s bs to behind read [] rs e = cc
tests_bind_none n s bs to behind read (t ∷ ts) rs e =
    go (tests_bind_none n s bs to behind read ts) (test n (s ++ bs) behind (rename_test own t)) e
  where
    go : ((qs : List Variable) → tests n s bs behind qs ts ≡ Some (succeeds to read) → bs ≡ to) → (o : Option Tested)
        → test_on (λ qs. tests n s bs behind qs ts) rs o ≡ Some (succeeds to read) → bs ≡ to
    go rec None h = cc
    go rec (Some (holds qs)) h = rec (rs ++ qs) h
    go rec (Some (fails qs)) h = cc
    go rec (Some (pauses qs)) h = cc

-- the clause that a choice takes, which is number `taken` where the first one is number k
record IsChosen (n : ℕ) (s : Bindings) (args : List (Term Variable)) (k : ℕ) (cs : List Clause) (taken : ℕ) (bs : Bindings) : Type 0 where
  position : ℕ
  clause : Clause
  counted : taken ≡ k + position
  there : slice_get cs position ≡ Some clause
  behind : Bool
  reads : List Variable
  succeeded : attempt n s clause args behind ≡ Some (succeeds bs reads)

module _ (n : ℕ) (s : Bindings) (args : List (Term Variable)) (taken : ℕ) (bs : Bindings) (read : List Variable) where
  abbrev Chosen : ℕ → List Clause → Type 0
  Chosen k cs = (behind : Bool) (rs : List Variable) → choose n s args k behind rs cs ≡ Some (commits taken bs read)
      → IsChosen n s args k cs taken bs

  later : (k : ℕ) (c : Clause) (cs : List Clause) → IsChosen n s args (suc k) cs taken bs → IsChosen n s args k (c ∷ cs) taken bs
  later k c cs h =
      record {
        position = suc h.position;
        clause = h.clause;
        counted = omega (arith, h.counted);
        there = h.there;
        behind = h.behind;
        reads = h.reads;
        succeeded = h.succeeded;
      }

  chosen : (k : ℕ) (cs : List Clause) → Chosen k cs
  chosen k [] true rs e = cc
  chosen k [] false rs e = cc
  chosen k (c ∷ cs) behind rs e = go (chosen (suc k) cs) (attempt n s c args behind) refl e
    where
      go : Chosen (suc k) cs → (o : Option Tried) → attempt n s c args behind ≡ o
          → choose_on (λ b qs. choose n s args (suc k) b qs cs) k behind rs o ≡ Some (commits taken bs read)
          → IsChosen n s args k (c ∷ cs) taken bs
      go rec None h i = cc
      go rec (Some (succeeds to qs)) h i =
          let same : to ≡ bs = cc in
          let first : k ≡ taken = cc in
          record {
            position = 0;
            clause = c;
            counted = omega (arith, first);
            there = refl;
            behind = behind;
            reads = qs;
            succeeded = h ∙ ap (λ x. Some (succeeds x qs)) same;
          }
      go rec (Some (try_fails qs)) h i = later k c cs (rec behind (rs ++ qs) i)
      go rec (Some (try_waits qs)) h i = later k c cs (rec false (rs ++ qs) i)

module _ (K : Place → Type 0) (s : Bindings) (b : AreMetBindings K 0 s) where
  -- before the first binding
  pub try_first : IsMetTry K 0 s []
  try_first = record { bindings = rw append-nil b; each = tt }

  -- the head of a closed clause, unified with arguments over places
  pub head_keeps : (n : ℕ) (c : Clause) (args : List (Term Variable)) (bs : Bindings) (rs : List Variable) → IsClosedClause c
      → AllOver (IsMet K 0) args → unify n s [] [] (head_pairs 0 args c.args) ≡ Some (done bs rs) → IsMetTry K c.vars s bs
  head_keeps n c args bs rs f g e =
      let ps = head_pairs_marked K c.vars 0 args c.args (omega arith) g f.args in
      try_above K _ c.vars s bs ps.within (unify_keeps K s bs rs n 0 [] [] (head_pairs 0 args c.args) try_first ps.marked e)

  -- the try of a closed clause for arguments over places
  pub attempt_keeps : (n : ℕ) (c : Clause) (args : List (Term Variable)) (behind : Bool) (bs : Bindings) (read : List Variable)
      → IsClosedClause c → AllOver (IsMet K 0) args → attempt n s c args behind ≡ Some (succeeds bs read) → IsMetTry K c.vars s bs
  attempt_keeps n c args behind bs read f g e = go (unify n s [] [] (head_pairs 0 args c.args)) refl e
    where
      go : (o : Option Ended) → unify n s [] [] (head_pairs 0 args c.args) ≡ o
          → guard_on (λ to rs. tests n s to behind rs c.guard) o ≡ Some (succeeds bs read) → IsMetTry K c.vars s bs
      go None h i = cc
      go (Some (done to rs)) h i =
          subst (IsMetTry K c.vars s) (tests_bind_none n s to bs behind read c.guard rs i) (head_keeps n c args to rs f g h)
      go (Some (clash rs)) h i = cc
      go (Some (wait rs)) h i = cc

  -- the unification of two terms over places
  unify_places : (n : ℕ) (t u : Term Variable) (bs : Bindings) (read : List Variable) → Over (IsMet K 0) t → Over (IsMet K 0) u
      → unify n s [] [] ((t, u) ∷ []) ≡ Some (done bs read) → IsMetTry K 0 s bs
  unify_places n t u bs read f g e =
      subst (λ x. IsMetTry K x s bs) (met_in_met K 0 u g)
      (unify_keeps K s bs read n 0 [] [] ((t, u) ∷ []) try_first (f, met_is_marked K 0 u g, tt) e)

  built_in_keeps : (n : ℕ) (t u : Term Variable) (k : ℕ) (bs : Bindings) (read : List Variable) → Over (IsMet K 0) t → Over (IsMet K 0) u
      → option_map (built_in []) (unify n s [] [] ((t, u) ∷ [])) ≡ Some (commits k bs read) → IsMetTry K 0 s bs
  built_in_keeps n t u k bs read f g e = go (unify n s [] [] ((t, u) ∷ [])) refl e
    where
      go : (o : Option Ended) → unify n s [] [] ((t, u) ∷ []) ≡ o → option_map (built_in []) o ≡ Some (commits k bs read)
          → IsMetTry K 0 s bs
      go None h i = cc
      go (Some (done to rs)) h i = let same : to ≡ bs = cc in subst (IsMetTry K 0 s) same (unify_places n t u to rs f g h)
      go (Some (clash rs)) h i = cc
      go (Some (wait rs)) h i = cc

  call_keeps : (m : Program) (n p : ℕ) (args : List (Term Variable)) (k : ℕ) (bs : Bindings) → IsClosed m → AllOver (IsMet K 0) args
      → IsChosen n s args 1 (clauses_of m p (length args)) k bs → IsMetTry K (vars_of (clause_used m (user p args) k)) s bs
  call_keeps m n p args k bs f g h =
      let next : k ≡ suc h.position = omega (arith, h.counted) in
      let used : clause_used m (user p args) k ≡ Some h.clause = ap (clause_used m (user p args)) next ∙ h.there in
      subst (λ x. IsMetTry K (vars_of x) s bs) (sym used)
      (attempt_keeps n h.clause args h.behind bs h.reads
      (closed_at _ h.position h.clause (clauses_closed m p (length args) f) h.there) g h.succeeded)

  -- what is bound by a commit of a goal over places
  pub commit_meets : (m : Program) (n : ℕ) (g : Goal Variable) (k : ℕ) (bs : Bindings) (read : List Variable) → IsClosed m
      → GoalOver (IsMet K 0) g → decide n m s g ≡ Some (commits k bs read) → IsMetTry K (vars_of (clause_used m g k)) s bs
  commit_meets m n (user p args) k bs read f g e =
      call_keeps m n p args k bs f g (chosen n s args k bs read 1 (clauses_of m p (length args)) true [] e)
  commit_meets m n true' k bs read f g e = let same : [] ≡ bs = cc in subst (IsMetTry K 0 s) same try_first
  commit_meets m n (unifies t u) k bs read f g e = built_in_keeps n t u k bs read g.0 g.1 e
  commit_meets m n (assigns t x) k bs read f g e = go (eval n s x) e
    where
      go : (o : Option Evaluated)
          → assign_on (λ z. option_map (built_in []) (unify n s [] [] ((t, number z) ∷ []))) o ≡ Some (commits k bs read)
          → IsMetTry K 0 s bs
      go None h = cc
      go (Some (gives z)) h = built_in_keeps n t (number z) k bs read g.0 tt h
      go (Some bad) h = cc
      go (Some (unready rs)) h = cc
