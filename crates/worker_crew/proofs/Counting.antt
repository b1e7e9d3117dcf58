-- Where a run stands, by words, queues and counts that are the same.
use Rattle.std.proofs.Common.{◌≡◌, ℕ, ◌+◌, List, [], ◌∷◌, ◌++◌, length, drop, sym, ap, ◌∙◌, subst, arith}
use Rattle.std.proofs.lemmas.List.{map-append}
use Rattle.fcp_model.specs.declared.run.Entry.{Entry}
use Rattle.fcp_model.specs.Events.{Event}
use Rattle.fcp_model.specs.Runs.{entries_of}
use Rattle.fcp_model.specs.OneWorker.{Schedule}
use Rattle.word_states.specs.Standing.{Book}
use Rattle.commit_engine.specs.declared.plain_hall.PlainHall.{PlainHall}
use Rattle.commit_engine.specs.PlainHalls.{IsPlain, holds_of}
use Rattle.run_laws.specs.Running.{Setting, Counts, StandsAt}
use Rattle.worker_crew.specs.declared.task.Task.{Task}
use Rattle.worker_crew.specs.declared.engine.Engine.{Engine}
use Rattle.worker_crew.specs.Reached.{IsAtRest}

-- counts are the same where each of them is
pub same_counts : (a b : Counts) → a.passed ≡ b.passed → a.asleep ≡ b.asleep → a.entries ≡ b.entries → a.moved ≡ b.moved
    → a.commits ≡ b.commits → a.moves ≡ b.moves → a.cells ≡ b.cells → a.mode ≡ b.mode → a.controls ≡ b.controls → a ≡ b
same_counts a b p q r s t u v w x = λ i. record {
  passed = p i;
  asleep = q i;
  entries = r i;
  moved = s i;
  commits = t i;
  moves = u i;
  cells = v i;
  mode = w i;
  controls = x i;
}

-- the run stands at other words, another queue and other counts that are the same
pub stands_same : (r : Setting) (ws ws' queue queue' : List ℕ) (c c' : Counts) (evs : List Event) (at : Schedule) (book : Book)
    → StandsAt r ws queue c evs at book → ws ≡ ws' → queue ≡ queue' → c ≡ c' → StandsAt r ws' queue' c' evs at book
stands_same r ws ws' queue queue' c c' evs at book s e f g =
    subst (λ x. StandsAt r ws' queue' x evs at book) g
    (subst (λ x. StandsAt r ws' x c evs at book) f (subst (λ x. StandsAt r x queue c evs at book) e s))

-- the entries of one event more
pub entries_more : (evs : List Event) (ev : Event) → entries_of (evs ++ ev ∷ []) ≡ entries_of evs ++ ev.entry ∷ []
entries_more evs ev = map-append (λ (x : Event). x.entry) evs (ev ∷ [])

-- the log of one event more
pub log_more : (log log' : List Entry) (e : Entry) (evs : List Event) (ev : Event) → log ≡ entries_of evs → log' ≡ log ++ e ∷ []
    → ev.entry ≡ e → log' ≡ entries_of (evs ++ ev ∷ [])
log_more log log' e evs ev is more same =
    more ∙ ap (λ (x : List Entry). x ++ e ∷ []) is ∙ ap (λ (x : Entry). entries_of evs ++ x ∷ []) (sym same) ∙ sym (entries_more evs ev)

pub length_more : (xs : List Entry) (x : Entry) → length (xs ++ x ∷ []) ≡ length xs + 1
length_more [] x = omega arith
length_more (y ∷ xs) x = let k = length_more xs x in omega arith

-- an engine with the same hall and as many controls made is at rest as before
pub rest_same : (t : Task) (e new : Engine) → new.hall ≡ e.hall → new.made ≡ e.made → IsAtRest t e → IsAtRest t new
rest_same t e new hall made r = record {
  plain = subst IsPlain (sym hall) r.plain;
  free = λ p. ap (λ (h : PlainHall). holds_of h p) hall ∙ r.free p;
  idle = ap (λ (h : PlainHall). h.due) hall ∙ r.idle;
  room =
      let a = ap (λ (h : PlainHall). h.quota.moves) hall in
      let b = ap (λ (h : PlainHall). h.spare) hall in
      let c = ap (λ (n : ℕ). length (drop n t.controls.now)) made in
      let d = r.room in
      omega arith;
  few =
      let a = ap (λ (h : PlainHall). length h.log.items) hall in
      let b = ap (λ (h : PlainHall). h.spare) hall in
      let d = r.few in
      omega arith;
  within = let d = r.within in omega (arith, made);
}
