-- The goals of the live processes, before and after a move.
use Rattle.std.proofs.Common.{◌≡◌, ℕ, suc, Bool, true, false, cond, List, [], ◌∷◌, ◌++◌, map, Some, refl, sym, ap, ◌∙◌, subst}
use Rattle.std.specs.Prelude.{not}
use Rattle.std.proofs.lemmas.Bool.{true≢false}
use Rattle.std.proofs.lemmas.List.{map-append}
use Rattle.std.proofs.lemmas.List.Elements.{filter-append}
use Rattle.fcp_model.specs.declared.run.Place.{Place}
use Rattle.fcp_model.specs.declared.run.Proc.{Proc}
use Rattle.fcp_model.specs.Places.{Variable, is_same_process, is_older_process}
use Rattle.fcp_model.specs.Terms.{Bindings}
use Rattle.fcp_model.specs.Programs.{Goal}
use Rattle.fcp_model.specs.States.{Status, ready, waiting, finished, Process, is_finished, process_named, processes_of}
use Rattle.fcp_model.specs.Events.{binds_one, is_woken, made_ready, wake, with_status}
use Rattle.fcp_model.specs.LawfulStates.{Each, NamesRise}
use Rattle.fcp_laws.proofs.ProcessNames.{picked, each_so, older_apart}
use Rattle.transition_laws.specs.Transitions.{live, live_goals}

-- one process more, by whether it is finished
abbrev pub with_goal : Bool → Goal Variable → List (Goal Variable) → List (Goal Variable)
with_goal true g gs = gs
with_goal false g gs = g ∷ gs

pub live_cons : (p : Process) (ps : List Process) → live_goals (p ∷ ps) ≡ with_goal (is_finished p.status) p.goal (live_goals ps)
live_cons p ps = go (is_finished p.status)
  where
    go : (b : Bool) → map (λ q. q.goal) (cond (not b) (p ∷ live ps) (live ps)) ≡ with_goal b p.goal (live_goals ps)
    go true = refl
    go false = refl

pub live_append : (ps qs : List Process) → live_goals (ps ++ qs) ≡ live_goals ps ++ live_goals qs
live_append ps qs =
    ap (map (λ p. p.goal)) (filter-append (λ p. not (is_finished p.status)) ps qs) ∙ map-append (λ p. p.goal) (live ps) (live qs)

-- new processes are live
pub live_children : (n k : ℕ) (gs : List (Goal Variable)) → live_goals (processes_of n k gs) ≡ gs
live_children n k [] = refl
live_children n k (g ∷ gs) = ap (λ hs. g ∷ hs) (live_children n (suc k) gs)

-- a process stays live, or finished, with its goal
record IsAsLive (p q : Process) : Type 0 where
  status : is_finished q.status ≡ is_finished p.status
  goal : q.goal ≡ p.goal

as_live : (p q : Process) (ps qs : List Process) → IsAsLive p q → live_goals qs ≡ live_goals ps →
    live_goals (q ∷ qs) ≡ live_goals (p ∷ ps)
as_live p q ps qs h e =
    live_cons q qs
    ∙ (ap (λ b. with_goal b q.goal (live_goals qs)) h.status
    ∙ (ap (λ g. with_goal (is_finished p.status) g (live_goals qs)) h.goal
    ∙ (ap (with_goal (is_finished p.status) p.goal) e ∙ sym (live_cons p ps))))

live_kept : (f : Process → Process) (ps : List Process) → Each (λ p. IsAsLive p (f p)) ps → live_goals (map f ps) ≡ live_goals ps
live_kept f [] h = refl
live_kept f (p ∷ ps) h = as_live p (f p) ps (map f ps) h.0 (live_kept f ps h.1)

-- a process that is woken was live
wake_live : (bs : Bindings) (q : Process) → is_finished (wake bs q).status ≡ is_finished q.status
wake_live bs q = go q.status refl
  where
    at : (vs : List Place) → q.status ≡ waiting vs → (b : Bool) → is_finished (cond b (made_ready q) q).status ≡ is_finished q.status
    at vs e true = sym (ap is_finished e)
    at vs e false = refl

    go : (st : Status) → q.status ≡ st → is_finished (cond (is_woken bs st) (made_ready q) q).status ≡ is_finished q.status
    go ready e = refl
    go finished e = refl
    go (waiting vs) e = at vs e (binds_one bs vs)

wake_goal : (bs : Bindings) (q : Process) → (wake bs q).goal ≡ q.goal
wake_goal bs q = go (is_woken bs q.status)
  where
    go : (b : Bool) → (cond b (made_ready q) q).goal ≡ q.goal
    go true = refl
    go false = refl

-- the processes after a commit by the process of a name
abbrev pub committed : Proc → Bindings → Process → Process
committed name bs q = wake bs (with_status name finished q)

others_live : (name : Proc) (bs : Bindings) (q : Process) → is_same_process q.name name ≡ false → IsAsLive q (committed name bs q)
others_live name bs q e =
    let same : committed name bs q ≡ wake bs q = ap (λ b. wake bs (cond b (record q { status = finished }) q)) e in
    record {
      status = ap (λ (x : Process). is_finished x.status) same ∙ wake_live bs q;
      goal = ap (λ (x : Process). x.goal) same
          ∙ wake_goal bs q;
    }

-- the goal of a Ready process among the live ones: a commit takes it out, and leaves the others
pub record IsAmong (p : Process) (bs : Bindings) (ps : List Process) : Type 0 where
  pub front : List (Goal Variable)
  pub back : List (Goal Variable)
  pub before : live_goals ps ≡ front ++ p.goal ∷ back
  pub after : live_goals (map (committed p.name bs) ps) ≡ front ++ back

with_goal-append : (b : Bool) (g : Goal Variable) (xs ys : List (Goal Variable)) → with_goal b g (xs ++ ys) ≡ with_goal b g xs ++ ys
with_goal-append true g xs ys = refl
with_goal-append false g xs ys = refl

module _ (p : Process) (bs : Bindings) (at_ready : p.status ≡ ready) where
  among_here : (ps : List Process) → Each (λ q. is_older_process p.name q.name ≡ true) ps → is_same_process p.name p.name ≡ true →
      IsAmong p bs (p ∷ ps)
  among_here ps younger same = record {
    front = [];
    back = live_goals ps;
    before = live_cons p ps ∙ ap (λ st. with_goal (is_finished st) p.goal (live_goals ps)) at_ready;
    after = live_cons (committed p.name bs p) (map (committed p.name bs) ps)
        ∙ (ap (λ b. with_goal (is_finished (wake bs (cond b (record p { status = finished }) p)).status) (committed p.name bs p).goal
        (live_goals (map (committed p.name bs) ps))) same
        ∙ live_kept (committed p.name bs) ps
        (each_so (λ q. is_older_process p.name q.name ≡ true) (λ q. IsAsLive q (committed p.name bs q))
        (λ q o. others_live p.name bs q (older_apart p.name q.name o)) ps younger));
  }

  among_later : (q : Process) (ps : List Process) → is_same_process q.name p.name ≡ false → IsAmong p bs ps → IsAmong p bs (q ∷ ps)
  among_later q ps e h =
      let kept = others_live p.name bs q e in
      record {
        front = with_goal (is_finished q.status) q.goal h.front;
        back = h.back;
        before =
            live_cons q ps ∙
            (ap (with_goal (is_finished q.status) q.goal) h.before ∙ with_goal-append (is_finished q.status) q.goal h.front
            (p.goal ∷ h.back));
        after = live_cons (committed p.name bs q) (map (committed p.name bs) ps)
            ∙ (ap (λ b. with_goal b (committed p.name bs q).goal (live_goals (map (committed p.name bs) ps))) kept.status
            ∙ (ap (λ g. with_goal (is_finished q.status) g (live_goals (map (committed p.name bs) ps))) kept.goal
            ∙ (ap (with_goal (is_finished q.status) q.goal) h.after ∙ with_goal-append (is_finished q.status) q.goal h.front h.back)));
      }

  pub among : (ps : List Process) → NamesRise ps → process_named ps p.name ≡ Some p → IsAmong p bs ps
  among [] r e = absurd cc
  among (q ∷ ps) r e = go (is_same_process q.name p.name) refl (among ps r.1) e
    where
      go : (b : Bool) → is_same_process q.name p.name ≡ b → (process_named ps p.name ≡ Some p → IsAmong p bs ps) →
          picked b q (process_named ps p.name) ≡ Some p → IsAmong p bs (q ∷ ps)
      go true f rec i =
          let same : q ≡ p = cc in
          subst (λ x. IsAmong p bs (x ∷ ps)) (sym same)
          (among_here ps (subst (λ (x : Process). Each (λ y. is_older_process x.name y.name ≡ true) ps) same r.0)
          (subst (λ (x : Process). is_same_process x.name p.name ≡ true) same f))
      go false f rec i = among_later q ps f (rec i)

-- a hang leaves the live goals: the process of its name is Ready, and so not finished
module _ (p : Process) (at_ready : p.status ≡ ready) (vs : List Place) where
  hung_live : (q : Process) → (is_same_process q.name p.name ≡ true → is_finished q.status ≡ false) →
      IsAsLive q (with_status p.name (waiting vs) q)
  hung_live q h = go (is_same_process q.name p.name) refl
    where
      go : (b : Bool) → is_same_process q.name p.name ≡ b → IsAsLive q (cond b (record q { status = waiting vs }) q)
      go true e = record { status = sym (h e); goal = refl }
      go false e = record { status = refl; goal = refl }

  abbrev NotFinished : List Process → Type 0
  NotFinished ps = Each (λ q. is_same_process q.name p.name ≡ true → is_finished q.status ≡ false) ps

  none_finished : (ps : List Process) → NamesRise ps → process_named ps p.name ≡ Some p → NotFinished ps
  none_finished [] r e = tt
  none_finished (q ∷ ps) r e = go (is_same_process q.name p.name) refl (none_finished ps r.1) e
    where
      go : (b : Bool) → is_same_process q.name p.name ≡ b → (process_named ps p.name ≡ Some p → NotFinished ps) →
          picked b q (process_named ps p.name) ≡ Some p → NotFinished (q ∷ ps)
      go true f rec i =
          let same : q ≡ p = cc in (
            (λ j. ap (λ (x : Process). is_finished x.status) same ∙ ap is_finished at_ready),
            each_so (λ x. is_older_process q.name x.name ≡ true) (λ x. is_same_process x.name p.name ≡ true → is_finished x.status ≡ false)
                (λ x o j. absurd
                (true≢false
                (sym j ∙ subst (λ (y : Process). is_same_process x.name y.name ≡ false) same (older_apart q.name x.name o)))) ps r.0,
          )
      go false f rec i = ((λ j. absurd (true≢false (sym j ∙ f))), rec i)

  pub hung_goals : (ps : List Process) → NamesRise ps → process_named ps p.name ≡ Some p →
      live_goals (map (with_status p.name (waiting vs)) ps) ≡ live_goals ps
  hung_goals ps r e =
      live_kept (with_status p.name (waiting vs)) ps
      (each_so (λ q. is_same_process q.name p.name ≡ true → is_finished q.status ≡ false)
      (λ q. IsAsLive q (with_status p.name (waiting vs) q)) hung_live ps (none_finished ps r e))
