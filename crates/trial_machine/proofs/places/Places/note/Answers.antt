use Rattle.std.proofs.Common.{subst, sym, List, ℕ, ◌↔◌, ◌⊎◌, ◌≡◌, ◌∙◌}
use Rattle.std.proofs.Common.{nat_eq}
use Rattle.indexmap.specs.IndexSet.{insert_key}
use Rattle.word_states.specs.Words.{IsIn}
use Rattle.trial_machine.proofs.Noting.{inserted, on_ok, on_err}
use Rattle.trial_machine.proofs.places.Places.note.Goals.{in-Ok, in-Err}
use Rattle.trial_machine.proofs.places.Places.note.Goals as goal

pub returns : goal.returns
returns c = elim c.match-insert.branch [
  | in-Ok w ↦ on_ok _ _ _ _ w.result-is (λ a. subst (λ (z : List ℕ). IsIn a z ↔ (IsIn a c.args.self.now ⊎ (a ≡ c.args.place)))
      (sym w.in-Ok.ensures.keys) (subst (λ (z : List ℕ). IsIn a (insert_key nat_eq z c.args.place) ↔ (IsIn a c.args.self.now ⊎ (a ≡
      c.args.place)))
      (sym c.self.view_is) (inserted c.args.self.now c.args.place a)))
  | in-Err w ↦ on_err _ _ _ _ w.result-is (w.in-Err.ensures.err ∙ c.self.view_is)
]
