-- Words are answered in one way.
use Rattle.std.proofs.Common.{◌≡◌, ℕ, ◌<◌, ◌≤◌, List, length, Option, Some, ap, sym, ◌∙◌, subst, arith}
use Rattle.std.specs.Prelude.{IsSomeAnd}
use Rattle.command_words.specs.Readings.{file_of}
use Rattle.command_words.proofs.Answering.{one-reading}
use Rattle.fcp_model.specs.Spelling.{Bytes}
use Rattle.logix_edge.specs.Causes.{Rose}
use Rattle.logix_edge.specs.Shelves.{Entries, bytes_of}
use Rattle.logix_app.specs.declared.status.Status.{Status}
use Rattle.logix_app.specs.declared.status.Status.TheVariants as status
use Rattle.logix_app.specs.Answers.{AnswersOrder}
use Rattle.logix_app.specs.Headline.{IsAnswered, IsTooLong}
use Rattle.logix_app.proofs.KindsOfAnswers.{CallAnswer, any-answer}
use Rattle.logix_app.proofs.KindsOfAnswers as kinds
use Rattle.answer_laws.specs.OneAnswers.{CallsHaveOneAnswer}
use Rattle.answer_laws.proofs.OneOrder.{Same, one-answer}

one-some : (xs ys : Bytes) (o : Option Bytes) → o ≡ Some xs → o ≡ Some ys → xs ≡ ys
one-some xs ys o e d = let g : Some xs ≡ Some ys = sym e ∙ d in cc

-- bytes within the limit are not above it
within-above : (o : Option Bytes) (file : Bytes) → o ≡ Some file → length file ≤ 1048576 → IsSomeAnd o (λ bytes. 1048576 < length bytes) → ⊥
within-above o file e within above =
    let long : 1048576 < length file = subst (λ x. IsSomeAnd x (λ bytes. 1048576 < length bytes)) e above in
    omega (arith, long, within)

-- a file that is fetched is not too long
fetched-too-long : (words : List Bytes) (entries : Entries) (b n c d : ℕ) (s : Status) (x y : Bytes)
    → IsAnswered words (Some entries) b n s x
    → IsTooLong words (Some entries) c d y → ⊥
fetched-too-long words entries b n c d s x y a t =
    let o : a.order ≡ t.order = one-reading words a.order t.order a.reading t.reading in
    within-above (bytes_of entries (file_of a.order)) a.file a.fetched.told a.fetched.within
    (subst (λ p. IsSomeAnd (bytes_of entries (file_of p)) (λ bytes. 1048576 < length bytes)) (sym o) t.above)

module _ (words : List Bytes) (entries : Entries) (b n : ℕ) (last : Option Bytes) (b' n' : ℕ) (last' : Option Bytes) (s s' : Status)
    (text text' : Bytes) where
  same-answers : (s ≡ status.NoMemory → ⊥) → (s' ≡ status.NoMemory → ⊥) → IsAnswered words (Some entries) b n s text
      → IsAnswered words (Some entries) b' n' s' text' → Same s s' text text'
  same-answers enough enough' a a' =
      let o : a.order ≡ a'.order = one-reading words a.order a'.order a.reading a'.reading in
      let there : bytes_of entries (file_of a'.order) ≡ Some a.file = ap (λ p. bytes_of entries (file_of p)) (sym o) ∙ a.fetched.told in
      let f : a.file ≡ a'.file = one-some a.file a'.file (bytes_of entries (file_of a'.order)) there a'.fetched.told in
      one-answer a'.order a'.file s s' text text' enough enough'
      (subst (λ p. AnswersOrder p a'.file s text) o (subst (λ x. AnswersOrder a.order x s text) f a.answers)) a'.answers

  one-call : ¬ Rose b n → ¬ Rose b' n' → (s ≡ status.NoMemory → ⊥) → (s' ≡ status.NoMemory → ⊥)
      → CallAnswer words (Some entries) b n last s text → CallAnswer words (Some entries) b' n' last' s' text' → Same s s' text text'
  one-call quiet quiet' enough enough' (kinds.shelf e a) x = absurd (quiet a.rose)
  one-call quiet quiet' enough enough' (kinds.usage e a) (kinds.shelf e' a') = absurd (quiet' a'.rose)
  one-call quiet quiet' enough enough' (kinds.too_long e a) (kinds.shelf e' a') = absurd (quiet' a'.rose)
  one-call quiet quiet' enough enough' (kinds.answered a) (kinds.shelf e' a') = absurd (quiet' a'.rose)
  one-call quiet quiet' enough enough' (kinds.usage e a) (kinds.usage e' a') = (e ∙ sym e', a.line ∙ sym a'.line)
  one-call quiet quiet' enough enough' (kinds.usage e a) (kinds.too_long e' a') = absurd (a.none a'.order a'.reading)
  one-call quiet quiet' enough enough' (kinds.usage e a) (kinds.answered a') = absurd (a.none a'.order a'.reading)
  one-call quiet quiet' enough enough' (kinds.too_long e a) (kinds.usage e' a') = absurd (a'.none a.order a.reading)
  one-call quiet quiet' enough enough' (kinds.too_long e a) (kinds.too_long e' a') = (e ∙ sym e', a.line ∙ sym a'.line)
  one-call quiet quiet' enough enough' (kinds.too_long e a) (kinds.answered a') =
      absurd (fetched-too-long words entries b' n' b n s' text' text a' a)
  one-call quiet quiet' enough enough' (kinds.answered a) (kinds.usage e' a') = absurd (a'.none a.order a.reading)
  one-call quiet quiet' enough enough' (kinds.answered a) (kinds.too_long e' a') =
      absurd (fetched-too-long words entries b n b' n' s text text' a a')
  one-call quiet quiet' enough enough' (kinds.answered a) (kinds.answered a') = same-answers enough enough' a a'

pub calls_have_one_answer : CallsHaveOneAnswer
calls_have_one_answer words entries s s' text text' a a' =
    one-call words entries a.before a.now a.last a'.before a'.now a'.last s s' text text' a.quiet a'.quiet a.enough a'.enough
    (any-answer words (Some entries) a.before a.now a.last s text a.answers a.enough)
    (any-answer words (Some entries) a'.before a'.now a'.last s' text' a'.answers a'.enough)
