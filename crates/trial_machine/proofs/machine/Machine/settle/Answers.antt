use Rattle.std.proofs.Common.{◌≡◌, ◌+◌, ℕ, Some, length, sym, ap, ◌∙◌, subst, arith}
use Rattle.std.specs.List.{concat}
use Rattle.heap_words.specs.Trails.{WordList, word_at}
use Rattle.trial_laws.specs.AtHand.{end_of}
use Rattle.trial_laws.specs.Endings.{settled}
use Rattle.trial_laws.specs.Leading.{IsTermWord}
use Rattle.trial_machine.proofs.Settling.{end_all}
use Rattle.trial_machine.proofs.machine.Machine.settle.Goals as goal

pub returns-then-not-are_terms-clause-few : goal.returns-then-not-are_terms-clause-few
returns-then-not-are_terms-clause-few c =
    let size : length c.words.result.now ≡ length (concat c.args.self.now.desk.pieces) = ap length c.words.ensures.all in
    let end_ : end_of 4000000000 c.args.self.now.desk.pieces ≡ 4000000000 + length (concat c.args.self.now.desk.pieces) =
    end_all 4000000000 c.args.self.now.desk.pieces in
    omega (arith, size, end_, c.words.ensures.few)

pub settle-requires-clause-places : goal.settle-requires-clause-places
settle-requires-clause-places c a x e =
    c.requires a x (sym (ap (λ (l : WordList). word_at l a) c.bound_words-2.ensures) ∙ e)
    (λ b y f. c.are_terms.ensures.all c.if-not-are_terms.false b y (ap (λ (l : WordList). word_at l b) c.bound_words.ensures ∙ f))

pub returns-clause-settles : goal.returns-clause-settles
returns-clause-settles c = (
  λ b y f. c.are_terms.ensures.all c.if-not-are_terms.false b y (ap (λ (l : WordList). word_at l b) c.bound_words.ensures ∙ f),
  c.settle.ensures ∙ ap (λ (l : WordList). settled l 4000000000 c.args.self.now.desk.pieces) c.bound_words-2.ensures,
)

pub returns-clause-few : goal.returns-clause-few
returns-clause-few c =
    let size : length c.words.result.now ≡ length (concat c.args.self.now.desk.pieces) = ap length c.words.ensures.all in
    let end_ : end_of 4000000000 c.args.self.now.desk.pieces ≡ 4000000000 + length (concat c.args.self.now.desk.pieces) =
    end_all 4000000000 c.args.self.now.desk.pieces in
    omega (arith, size, end_, c.words.ensures.few)
