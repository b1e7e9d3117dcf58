-- The kind of a word is that of its term.
use Rattle.std.proofs.Common.{◌≡◌, ℕ, Bool, true, false, ℤ, [], ◌∷◌, Some, refl, ap, ◌∙◌}
use Rattle.heap_words.specs.Cells.{decoded}
use Rattle.heap_words.specs.Trails.{Memory}
use Rattle.heap_words.specs.declared.cell.Cell.{Cell}
use Rattle.heap_words.specs.declared.cell.Cell.TheVariants as cell
use Rattle.fcp_model.specs.Places.{Variable}
use Rattle.fcp_model.specs.Terms.{Term, number, string, nil, cons, tuple, var, ro, first, Terms}
use Rattle.fcp_model.specs.Tests.{is_kind, kind_open, decided}
use Rattle.unify_terms.specs.Denotes.{Naming, Denotes, NumberIn}
use Rattle.unify_terms.proofs.AlikeInWords.{is_plain}
use Rattle.guard_tests.specs.declared.form.ValueKind.{ValueKind}
use Rattle.guard_tests.specs.declared.form.ValueKind.TheVariants as value
use Rattle.guard_tests.specs.Forms.{truth, word_is, place_is}
use Rattle.guard_tests.specs.Guards.{kind_of, test_answer, tested_reads}

small_kind : (k : ValueKind) (y z : ℤ) → word_is k (Some (cell.Small y)) ≡ is_kind (kind_of k) (number z)
small_kind value.Integer y z = refl
small_kind value.String y z = refl
small_kind value.Constant y z = refl
small_kind value.List y z = refl
small_kind value.Tuple y z = refl
small_kind value.Known y z = refl
small_kind value.Unknown y z = refl

wide_kind : (k : ValueKind) (a h : ℕ) (z : ℤ) → word_is k (Some (cell.Wide a h)) ≡ is_kind (kind_of k) (number z)
wide_kind value.Integer a h z = refl
wide_kind value.String a h z = refl
wide_kind value.Constant a h z = refl
wide_kind value.List a h z = refl
wide_kind value.Tuple a h z = refl
wide_kind value.Known a h z = refl
wide_kind value.Unknown a h z = refl

string_kind : (k : ValueKind) (n : _) (s : ℕ) → word_is k (Some (cell.Str n)) ≡ is_kind (kind_of k) (string s)
string_kind value.Integer n s = refl
string_kind value.String n s = refl
string_kind value.Constant n s = refl
string_kind value.List n s = refl
string_kind value.Tuple n s = refl
string_kind value.Known n s = refl
string_kind value.Unknown n s = refl

nil_kind : (k : ValueKind) → word_is k (Some cell.Nil) ≡ is_kind (kind_of k) nil
nil_kind value.Integer = refl
nil_kind value.String = refl
nil_kind value.Constant = refl
nil_kind value.List = refl
nil_kind value.Tuple = refl
nil_kind value.Known = refl
nil_kind value.Unknown = refl

pair_kind : (k : ValueKind) (a : ℕ) (t u : Term Variable) → word_is k (Some (cell.Cons a)) ≡ is_kind (kind_of k) (cons t u)
pair_kind value.Integer a t u = refl
pair_kind value.String a t u = refl
pair_kind value.Constant a t u = refl
pair_kind value.List a t u = refl
pair_kind value.Tuple a t u = refl
pair_kind value.Known a t u = refl
pair_kind value.Unknown a t u = refl

tuple_kind : (k : ValueKind) (a : ℕ) (ts : Terms Variable) → word_is k (Some (cell.Tuple a)) ≡ is_kind (kind_of k) (tuple ts)
tuple_kind value.Integer a ts = refl
tuple_kind value.String a ts = refl
tuple_kind value.Constant a ts = refl
tuple_kind value.List a ts = refl
tuple_kind value.Tuple a ts = refl
tuple_kind value.Known a ts = refl
tuple_kind value.Unknown a ts = refl

module _ (p : Naming) (m : Memory) where
  number_kind : (k : ValueKind) (c : Cell) (z : ℤ) → NumberIn m c z → word_is k (Some c) ≡ is_kind (kind_of k) (number z)
  number_kind k (cell.Small y) z n = small_kind k y z
  number_kind k (cell.Wide a h) z n = wide_kind k a h z
  number_kind k (cell.Unbound b) z n = absurd n
  number_kind k (cell.Ref a) z n = absurd n
  number_kind k (cell.RoRef a) z n = absurd n
  number_kind k (cell.Str s) z n = absurd n
  number_kind k cell.Nil z n = absurd n
  number_kind k (cell.Cons a) z n = absurd n
  number_kind k (cell.Tuple a) z n = absurd n
  number_kind k (cell.Status d) z n = absurd n
  number_kind k (cell.Raw b) z n = absurd n
  number_kind k (cell.Top a) z n = absurd n

  -- of a term that is no variable
  pub word_kind : (k : ValueKind) (t : Term Variable) (w : ℕ) → is_plain t ≡ true → Denotes p m t w
      → word_is k (decoded w) ≡ is_kind (kind_of k) t
  word_kind k (number z) w i d = ap (word_is k) d.1 ∙ number_kind k d.0 z d.2
  word_kind k (string s) w i d = ap (word_is k) d.1 ∙ string_kind k d.0 s
  word_kind k nil w i d = ap (word_is k) d ∙ nil_kind k
  word_kind k (cons t u) w i d = ap (word_is k) d.1 ∙ pair_kind k d.0 t u
  word_kind k (tuple ts) w i d = ap (word_is k) d.1 ∙ tuple_kind k d.0 ts
  word_kind k (var v) w i d = absurd (let h : false ≡ true = i in cc)
  word_kind k (ro v) w i d = absurd (let h : false ≡ true = i in cc)
  word_kind k (first j) w i d = absurd d

-- of an unbound variable
pub open_answer : (k : ValueKind) (v : Variable) → test_answer (kind_open (kind_of k) v) ≡ place_is k
open_answer value.Integer v = refl
open_answer value.String v = refl
open_answer value.Constant v = refl
open_answer value.List v = refl
open_answer value.Tuple v = refl
open_answer value.Known v = refl
open_answer value.Unknown v = refl

pub open_reads : (k : ValueKind) (v : Variable) → tested_reads (kind_open (kind_of k) v) ≡ v ∷ []
open_reads value.Integer v = refl
open_reads value.String v = refl
open_reads value.Constant v = refl
open_reads value.List v = refl
open_reads value.Tuple v = refl
open_reads value.Known v = refl
open_reads value.Unknown v = refl

-- of a yes or a no
pub decided_answer : (b : Bool) → test_answer (decided b) ≡ truth b
decided_answer true = refl
decided_answer false = refl

pub decided_reads : (b : Bool) → tested_reads (decided b) ≡ []
decided_reads true = refl
decided_reads false = refl
