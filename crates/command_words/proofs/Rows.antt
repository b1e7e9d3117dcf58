-- What the parser has found after a use of an argument.
use Rattle.std.proofs.Common.{◌≡◌, ℕ, Bool, true, false, List, [], ◌∷◌, ◌++◌, Option, Some, None, ap, sym, ◌∙◌, subst, refl, ◌⊎◌, inl, inr}
use Rattle.std.specs.Prelude.{◌||◌, cond, find, if◌then◌else◌, option_and_then, slice_get}
use Rattle.std.specs.List.{list_all}
use Rattle.std.specs.Option.{option_map_or}
use Rattle.std.specs.Str.{bytes_eq}
use Rattle.std.proofs.lemmas.List.{append-nil}
use Rattle.std.proofs.lemmas.Slice.Eq.{bytes_eq-Decides}
use Rattle.std.proofs.lemmas.Bool.{and_from, and_parts, cases_Bool, or_parts}
use Rattle.fcp_model.specs.Spelling.{Bytes}
use Rattle.clap.specs.declared.parser.matches.ValueSource.TheVariants.{CommandLine}
use Rattle.clap.specs.Walk.{Row, Rule, at_row, first_of, has_row, more_values, reading_by, used}
use Rattle.command_words.proofs.Forms.{is_word}
use Rattle.command_words.proofs.Levels.{given_rule}

-- the values of an argument
abbrev pub texts_at : Bytes → List Row → List Bytes
texts_at i rows = option_map_or (λ r. r.values) (find (λ r. bytes_eq r.id i) rows) []

abbrev is_one : List Bytes → Bool
is_one (v ∷ []) = true
is_one _ = false

-- each argument has one value
abbrev pub are_single : List Row → Bool
are_single rows = list_all (λ r. is_one r.values) rows

-- ---- one row more

new_row : Rule → Bytes → Row
new_row a v = record { id = a.id; values = v ∷ []; count = None; source = Some CommandLine; reading = reading_by a }

row-added : (i : Bytes) (change : Row → List Row) (missing rows : List Row) → has_row i rows ≡ false
    → at_row i change missing rows ≡ rows ++ missing
row-added i change missing [] e = refl
row-added i change missing (r ∷ rs) e =
    let b = or_parts (bytes_eq r.id i) (has_row i rs) e in
    rw (b.0) (ap (λ x. r ∷ x) (row-added i change missing rs b.1))

use-adds : (id : Bytes) (long : Option Bytes) (index : Option ℕ) (v : Bytes) (rows : List Row) → has_row id rows ≡ false
    → used (given_rule id long index) (v ∷ []) rows ≡ rows ++ new_row (given_rule id long index) v ∷ []
unfolding new_row
use-adds id long index v rows e =
    let a = given_rule id long index in
    ap (at_row id (more_values CommandLine (v ∷ [])) (new_row a v ∷ [])) (row-added id (λ _. []) [] rows e ∙ append-nil rows)
    ∙ row-added id (more_values CommandLine (v ∷ [])) (new_row a v ∷ []) rows e

apart-ids : (a b i : Bytes) → bytes_eq a i ≡ true → bytes_eq a b ≡ false → bytes_eq b i ≡ false
apart-ids a b i s n = go (cases_Bool (bytes_eq b i))
  where
    go : (bytes_eq b i ≡ true) ⊎ (bytes_eq b i ≡ false) → bytes_eq b i ≡ false
    go (inr f) = f
    go (inl t) =
        let same : a ≡ b = is_word a i s ∙ sym (is_word b i t) in
        let bad : true ≡ false = sym ((bytes_eq-Decides a b).1 same) ∙ n in
        cc

texts-added : (row : Row) (rows : List Row) (i : Bytes) → has_row row.id rows ≡ false
    → texts_at i (rows ++ row ∷ []) ≡ (if bytes_eq row.id i then row.values else texts_at i rows)
texts-added row [] i e = go (bytes_eq row.id i)
  where
    go : (b : Bool) → option_map_or (λ (r : Row). r.values) (cond b (Some row) None) [] ≡ (if b then row.values else [])
    go true = refl
    go false = refl
texts-added row (r ∷ rs) i e =
    let b = or_parts (bytes_eq r.id row.id) (has_row row.id rs) e in
    go (cases_Bool (bytes_eq r.id i)) b.0 (texts-added row rs i b.1)
  where
    go : (bytes_eq r.id i ≡ true) ⊎ (bytes_eq r.id i ≡ false) → bytes_eq r.id row.id ≡ false
        → texts_at i (rs ++ row ∷ []) ≡ (if bytes_eq row.id i then row.values else texts_at i rs)
        → texts_at i ((r ∷ rs) ++ row ∷ []) ≡ (if bytes_eq row.id i then row.values else texts_at i (r ∷ rs))
    go (inl t) n ih = rw (t, apart-ids r.id row.id i t n)
    go (inr f) n ih = rw f ih

has-added : (row : Row) (rows : List Row) (i : Bytes) → has_row i (rows ++ row ∷ []) ≡ (bytes_eq row.id i || has_row i rows)
has-added row [] i = refl
has-added row (r ∷ rs) i = go (bytes_eq r.id i) (bytes_eq row.id i) (has-added row rs i)
  where
    go : (a b : Bool) → has_row i (rs ++ row ∷ []) ≡ (b || has_row i rs) → (a || has_row i (rs ++ row ∷ [])) ≡ (b || (a || has_row i rs))
    go true true ih = refl
    go true false ih = refl
    go false b ih = ih

single-added : (row : Row) (rows : List Row) → is_one row.values ≡ true → are_single rows ≡ true → are_single (rows ++ row ∷ []) ≡ true
single-added row [] o s = and_from (is_one row.values) true o refl
single-added row (r ∷ rs) o s =
    let p = and_parts (is_one r.values) (are_single rs) s in
    and_from (is_one r.values) (are_single (rs ++ row ∷ [])) p.0 (single-added row rs o p.1)

-- ---- a use of an argument that has no value yet

pub record IsUsed (id v : Bytes) (rows after : List Row) : Type 0 where
  pub texts : (i : Bytes) → texts_at i after ≡ (if bytes_eq id i then v ∷ [] else texts_at i rows)
  pub has : (i : Bytes) → has_row i after ≡ (bytes_eq id i || has_row i rows)
  pub single : are_single rows ≡ true → are_single after ≡ true

pub is-used : (id : Bytes) (long : Option Bytes) (index : Option ℕ) (v : Bytes) (rows : List Row) → has_row id rows ≡ false
    → IsUsed id v rows (used (given_rule id long index) (v ∷ []) rows)
unfolding new_row
is-used id long index v rows e =
    let row = new_row (given_rule id long index) v in
    subst (IsUsed id v rows) (sym (use-adds id long index v rows e)) (record {
      texts = λ i. texts-added row rows i e;
      has = λ i. has-added row rows i;
      single = λ s. single-added row rows refl s;
    })

-- ---- the values that stand

pub none-texts : (i : Bytes) (rows : List Row) → has_row i rows ≡ false → texts_at i rows ≡ []
none-texts i [] e = refl
none-texts i (r ∷ rs) e =
    let b = or_parts (bytes_eq r.id i) (has_row i rs) e in
    rw (b.0) (none-texts i rs b.1)

is-one : (vs : List Bytes) → is_one vs ≡ true → (v : Bytes) × (vs ≡ v ∷ [])
is-one [] e = cc
is-one (v ∷ []) e = (v, refl)
is-one (v ∷ w ∷ vs) e = cc

-- one row more in front, of another argument
one-behind : (i : Bytes) (r : Row) (rs : List Row) → bytes_eq r.id i ≡ false → (v : Bytes) × (texts_at i rs ≡ v ∷ [])
    → (v : Bytes) × (texts_at i (r ∷ rs) ≡ v ∷ [])
one-behind i r rs f k = (k.0, rw f k.1)

pub one-text : (i : Bytes) (rows : List Row) → are_single rows ≡ true → has_row i rows ≡ true → (v : Bytes) × (texts_at i rows ≡ v ∷ [])
one-text i [] s e = cc
one-text i (r ∷ rs) s e =
    let p = and_parts (is_one r.values) (are_single rs) s in
    go (cases_Bool (bytes_eq r.id i)) e (is-one r.values p.0) (one-text i rs p.1)
  where
    go : (bytes_eq r.id i ≡ true) ⊎ (bytes_eq r.id i ≡ false) → (bytes_eq r.id i || has_row i rs) ≡ true
        → (v : Bytes) × (r.values ≡ v ∷ [])
        → (has_row i rs ≡ true → (v : Bytes) × (texts_at i rs ≡ v ∷ []))
        → (v : Bytes) × (texts_at i (r ∷ rs) ≡ v ∷ [])
    go (inl t) h own rest = (own.0, rw t own.1)
    go (inr f) h own rest = one-behind i r rs f (rest (ap (λ b. b || has_row i rs) (sym f) ∙ h))

pub no-row : (i : Bytes) (rows : List Row) → are_single rows ≡ true → texts_at i rows ≡ [] → has_row i rows ≡ false
no-row i rows s e = go (cases_Bool (has_row i rows))
  where
    go : (has_row i rows ≡ true) ⊎ (has_row i rows ≡ false) → has_row i rows ≡ false
    go (inr f) = f
    go (inl t) = let one = one-text i rows s t in let bad : [] ≡ one.0 ∷ [] = sym e ∙ one.1 in cc

-- what the getter reads
pub first-text : (i : Bytes) (rows : List Row) → first_of i rows ≡ slice_get (texts_at i rows) 0
first-text i rows = go (find (λ r. bytes_eq r.id i) rows)
  where
    go : (o : Option Row) → option_and_then (λ (r : Row). slice_get r.values 0) o ≡ slice_get (option_map_or (λ (r : Row). r.values) o []) 0
    go None = refl
    go (Some r) = refl

-- the values with more behind them, before and after a use
pub more-texts : (id v : Bytes) (rows after : List Row) → IsUsed id v rows after → has_row id rows ≡ false → (i : Bytes) (vs : List Bytes)
    → texts_at i after ++ vs ≡ texts_at i rows ++ (if bytes_eq id i then v ∷ vs else vs)
more-texts id v rows after u e i vs = go (cases_Bool (bytes_eq id i))
  where
    go : (bytes_eq id i ≡ true) ⊎ (bytes_eq id i ≡ false)
        → texts_at i after ++ vs ≡ texts_at i rows ++ (if bytes_eq id i then v ∷ vs else vs)
    go (inl t) =
        let none : texts_at i rows ≡ [] = subst (λ x. texts_at x rows ≡ []) (is_word id i t) (none-texts id rows e) in
        let one : texts_at i after ≡ v ∷ [] = u.texts i ∙ rw t in
        rw (t, none, one)
    go (inr f) =
        let same : texts_at i after ≡ texts_at i rows = u.texts i ∙ rw f in
        rw (f, same)
