-- What terminals say, of which none is marked: the parts that they spell are small and writable, and their variables stand in order.
use Rattle.std.proofs.Common.{◌≡◌, ℕ, Bool, true, false, List, [], ◌∷◌, ◌++◌, refl, ◌∙◌, sym, ap, subst, flat_map}
use Rattle.std.specs.Prelude.{◌&&◌, ◌||◌}
use Rattle.std.specs.List.{list_all}
use Rattle.std.proofs.lemmas.List.{flat_map_more}
use Rattle.fcp_text.proofs.Choices.{and-first, and-second}
use Rattle.fcp_grammar.specs.declared.terminals.Terminal.{Terminal}
use Rattle.fcp_grammar.specs.Grammar.{Marked}
use Rattle.fcp_reader.specs.Texts.{clean}
use Rattle.reading_laws.specs.PieceTerminals.{with_number, is_next}
use Rattle.reading_laws.specs.Variables.{count_behind, are_next}
use Rattle.reading_laws.specs.TerminalOrder.{terminal_fits, count_after, terminals_fit}

-- ---- tests that are joined

pub and-both : (a b : Bool) → a ≡ true → b ≡ true → (a && b) ≡ true
and-both true b h k = k
and-both false b h k = absurd (cc)

pub and-none : (a : Bool) → (a && true) ≡ a
and-none true = refl
and-none false = refl

pub and-assoc : (a b c : Bool) → ((a && b) && c) ≡ (a && (b && c))
and-assoc true b c = refl
and-assoc false b c = refl

pub or-first : (a b : Bool) → (a || b) ≡ false → a ≡ false
or-first true b h = h
or-first false b h = refl

pub or-second : (a b : Bool) → (a || b) ≡ false → b ≡ false
or-second true b h = absurd (cc)
or-second false b h = h

-- ---- lists with one more element

pub all-last : {A : Type 0} (p : A → Bool) (xs : List A) (x : A) → list_all p (xs ++ x ∷ []) ≡ (list_all p xs && p x)
all-last p [] x = and-none (p x)
all-last p (y ∷ ys) x = ap (λ b. p y && b) (all-last p ys x) ∙ sym (and-assoc (p y) (list_all p ys) (p x))

pub each-last : {A B : Type 0} (f : A → List B) (xs : List A) (x : A) → flat_map f (xs ++ x ∷ []) ≡ flat_map f xs ++ f x
each-last f xs x = sym (flat_map_more f [] xs x)

-- ---- the order of variables, of two lists

pub count-append : (n : ℕ) (xs ys : List ℕ) → count_behind n (xs ++ ys) ≡ count_behind (count_behind n xs) ys
count-append n [] ys = refl
count-append n (x ∷ xs) ys = count-append (with_number n x) xs ys

pub next-append : (n : ℕ) (xs ys : List ℕ) → are_next n xs ≡ true → are_next (count_behind n xs) ys ≡ true → are_next n (xs ++ ys) ≡ true
next-append n [] ys h k = k
next-append n (x ∷ xs) ys h k =
    and-both (is_next n x) _ (and-first (is_next n x) _ h) (next-append (with_number n x) xs ys (and-second (is_next n x) _ h) k)

-- ---- terminals

-- no terminal is marked, and each fits behind n variables
abbrev pub Sound : ℕ → List Marked → Type 0
Sound n [] = Unit {0}
Sound n (w ∷ ws) = (w.1 ≡ false) × (terminal_fits n w.0 ≡ true) × Sound (count_after n w.0) ws

pub terminals-sound : (n : ℕ) (ws : List Terminal) → terminals_fit n ws ≡ true → Sound n (clean ws [])
terminals-sound n [] h = tt
terminals-sound n (w ∷ ws) h =
    (refl, and-first (terminal_fits n w) _ h, terminals-sound (count_after n w) ws (and-second (terminal_fits n w) _ h))

-- ---- parts

-- a part behind n variables: whether it is small and writable, its variables, and the terminals behind it
pub record Reads (n : ℕ) (small writable : Bool) (variables : List ℕ) (rest : List Marked) : Type 0 where
  pub is_small : small ≡ true
  pub is_writable : writable ≡ true
  pub in_order : are_next n variables ≡ true
  pub behind : Sound (count_behind n variables) rest

-- two parts
pub two-read : {n : ℕ} {s t w v : Bool} {xs ys : List ℕ} {more rest : List Marked}
    → Reads n s w xs more → Reads (count_behind n xs) t v ys rest → Reads n (s && t) (w && v) (xs ++ ys) rest
two-read {n = n} {s = s} {t = t} {w = w} {v = v} {xs = xs} {ys = ys} {rest = rest} a b = record {
  is_small = and-both s t a.is_small b.is_small;
  is_writable = and-both w v a.is_writable b.is_writable;
  in_order = next-append n xs ys a.in_order b.in_order;
  behind = subst (λ k. Sound k rest) (sym (count-append n xs ys)) b.behind;
}

-- the same part, said otherwise
pub reads-as : {n : ℕ} {s t w v : Bool} {xs ys : List ℕ} {rest : List Marked}
    → (s ≡ true → t ≡ true) → (w ≡ true → v ≡ true) → ys ≡ xs → Reads n s w xs rest → Reads n t v ys rest
reads-as {n = n} {rest = rest} e f g a = record {
  is_small = e a.is_small;
  is_writable = f a.is_writable;
  in_order = ap (are_next n) g ∙ a.in_order;
  behind = subst (λ zs. Sound (count_behind n zs) rest) (sym g) a.behind;
}

pub reads-same : {n : ℕ} {s t w v : Bool} {xs ys : List ℕ} {rest : List Marked}
    → t ≡ s → v ≡ w → ys ≡ xs → Reads n s w xs rest → Reads n t v ys rest
reads-same e f g a = reads-as (λ h. e ∙ h) (λ h. f ∙ h) g a

-- a part and a terminal behind it that is no variable and no `.`
pub past : {n : ℕ} {s v : Bool} {xs : List ℕ} {w : Marked} {rest : List Marked}
    → ((k : ℕ) → count_after k w.0 ≡ k) → Reads n s v xs (w ∷ rest) → Reads n s v xs rest
past {n = n} {xs = xs} {rest = rest} e a = record {
  is_small = a.is_small;
  is_writable = a.is_writable;
  in_order = a.in_order;
  behind = subst (λ k. Sound k rest) (e (count_behind n xs)) a.behind.2;
}
