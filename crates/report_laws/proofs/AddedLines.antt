-- Texts that are put after a text, one after another.
use Rattle.std.proofs.Common.{◌≡◌, ℕ, ◌+◌, [], ◌++◌, Option, Some, None, refl, sym, ap, ◌∙◌, append_assoc, append-nil, arith}
use Rattle.std.specs.Prelude.{option_map}
use Rattle.fcp_model.specs.Spelling.{Bytes}
use Rattle.fcp_model.specs.LogText.{both_texts}
use Rattle.entry_lines.specs.Additions.{Gives, Adds}

pub gives_known : {A : Type 0} (a : A) → Gives (λ n. Some a) a
gives_known a = (0, λ k h. refl)

pub gives_both : (f g : ℕ → Option Bytes) (a b : Bytes) → Gives f a → Gives g b → Gives (λ n. both_texts (f n) (g n)) (a ++ b)
gives_both f g a b (n, h) (m, i) = (n + m, λ k j. go (f k) (g k) (h k (omega arith)) (i k (omega arith)))
  where
    go : (x y : Option Bytes) → x ≡ Some a → y ≡ Some b → both_texts x y ≡ Some (a ++ b)
    go x y e f' = rw (e, f') refl

pub gives_map : (f : ℕ → Option Bytes) (t : Bytes → Bytes) (a : Bytes) → Gives f a → Gives (λ n. option_map t (f n)) (t a)
gives_map f t a (n, h) = (n, λ k j. ap (option_map t) (h k j))

pub gives_same : (f g : ℕ → Option Bytes) (a : Bytes) → ((n : ℕ) → f n ≡ g n) → Gives f a → Gives g a
gives_same f g a e (n, h) = (n, λ k j. sym (e k) ∙ h k j)

-- a text that is known
pub adds_known : (f : ℕ → Option Bytes) (one a : Bytes) → ((n : ℕ) → Some a ≡ f n) → Adds one (one ++ a) f
adds_known f one a e = record { added = a; behind = refl; given = gives_same (λ n. Some a) f a e (gives_known a) }

-- one text and then another
pub adds_both : (f g h : ℕ → Option Bytes) (one two three : Bytes) → Adds one two f → Adds two three g
    → ((n : ℕ) → both_texts (f n) (g n) ≡ h n) → Adds one three h
adds_both f g h one two three a b e = record {
  added = a.added ++ b.added;
  behind = b.behind ∙ (ap (λ l. l ++ b.added) a.behind ∙ append_assoc one a.added b.added);
  given = gives_same (λ n. both_texts (f n) (g n)) h _ e (gives_both f g _ _ a.given b.given);
}

-- texts group both ways, and nothing may stand on either side
pub both_assoc : (a b c : Option Bytes) → both_texts (both_texts a b) c ≡ both_texts a (both_texts b c)
both_assoc None b c = refl
both_assoc (Some a) None c = refl
both_assoc (Some a) (Some b) None = refl
both_assoc (Some a) (Some b) (Some c) = ap Some (append_assoc a b c)

pub both_nothing : (o : Option Bytes) → both_texts (Some []) o ≡ both_texts o (Some [])
both_nothing None = refl
both_nothing (Some a) = ap Some (sym (append-nil a))
