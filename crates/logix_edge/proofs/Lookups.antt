-- Look-ups in names with their texts beside them.
use Rattle.std.proofs.Common.{◌≡◌, length, ℕ, ◌+◌, suc, List, [], ◌∷◌, Bool, true, false, cond, Option, Some, None, map, refl, sym, ◌∙◌, ap, subst, arith, zero-add, Bor, IsTrue, not}
use Rattle.std.specs.Prelude.{option_and_then, slice_get, position}
use Rattle.std.specs.List.{AllZip, list_any, zip, position_from}
use Rattle.std.specs.Str.{bytes_eq}
use Rattle.std.specs.Map.{lookup}
use Rattle.std.specs.Option.{option_map, option_copied}
use Rattle.std.specs.Slice.{IsItemAt}
use Rattle.std.proofs.lemmas.Slice.Eq.{bytes_eq-Decides}
use Rattle.logix_edge.specs.MemoryShelves.{names_differ}
use Rattle.std.proofs.lemmas.Bool.{and_parts, not-true, or_parts}
use Rattle.std.proofs.lemmas.Option.{slice_get_past, slice_get_read}
use Rattle.std.proofs.lemmas.Iterator.Adapters.{position_from-zero}

-- where there is no text, none is found
lookup-zip_none : {K X : Type 0} (test : K → Bool) (names : List K) → lookup test (zip {X = X} names []) ≡ None
lookup-zip_none test [] = refl
lookup-zip_none test (name ∷ names) = refl

-- what `get` lends, as a value
pub option_copied-get : {X : Type 0} (xs : List X) (i : ℕ) (lent : Option (Bor X)) → IsItemAt xs i lent
    → option_copied lent ≡ slice_get xs i
option_copied-get xs i None h = sym (slice_get_past xs i h.3)
option_copied-get xs i (Some x) h = sym (slice_get_read xs (length xs) i x.now refl h.3.0 h.1)

pub option_map-copied : {A B : Type 0} (f : A → B) (lent : Option (Bor A))
    → option_map (λ x. f x.now) lent ≡ option_map f (option_copied lent)
option_map-copied f None = refl
option_map-copied f (Some x) = refl

module _ {A B K X : Type 0} (v : A → K) (w : B → X) (test : K → Bool) where
  -- The first place at which a name passes, counted from i on, leads to the text at that place.
  lookup-zip : (names : List A) (texts : List B) (i : ℕ) (f : ℕ → Option X) → ((j : ℕ) → f (i + j) ≡ option_map w (slice_get texts j))
      → lookup test (zip (map v names) (map w texts)) ≡ option_and_then f (position_from (λ name. test (v name)) i names)
  lookup-zip [] texts i f h = refl
  lookup-zip (name ∷ names) [] i f h =
      elim (test (v name)) as (λ b. None ≡ option_and_then f (cond b (Some i) (position_from (λ n. test (v n)) (i + 1) names))) [
        | true ↦ sym (subst (λ k. f k ≡ None) (omega arith) (h 0))
        | false ↦ sym (lookup-zip_none test (map v names))
            ∙ lookup-zip names [] (i + 1) f (λ j. subst (λ k. f k ≡ None) (omega arith) (h (suc j)))
      ]
  lookup-zip (name ∷ names) (text ∷ texts) i f h =
      elim (test (v name)) as (λ b. cond b (Some (w text)) (lookup test (zip (map v names) (map w texts))) ≡ option_and_then f
      (cond b (Some i) (position_from (λ n. test (v n)) (i + 1) names))) [
        | true ↦ sym (subst (λ k. f k ≡ Some (w text)) (omega arith) (h 0))
        | false ↦ lookup-zip names texts (i + 1) f (λ j. subst (λ k. f k ≡ option_map w (slice_get texts j)) (omega arith) (h (suc j)))
      ]

  -- the text that is found stands at the first place of the name
  pub lookup-position : (names : List A) (texts : List B)
      → lookup test (zip (map v names) (map w texts)) ≡ option_and_then (λ k. option_map w (slice_get texts k))
      (position (λ name. test (v name)) names)
  lookup-position names texts =
      lookup-zip names texts 0 (λ k. option_map w (slice_get texts k)) (λ j. ap (λ k. option_map w (slice_get texts k)) (zero-add j))
      ∙ ap (option_and_then (λ k. option_map w (slice_get texts k))) (sym (position_from-zero (λ name. test (v name)) names))

module _ {X : Type 0} where
  -- an entry before, of another name, changes no look-up
  AllZip-bytes_of_tail : (first : List ℕ) (value : X) (entries : List (List ℕ × X)) (names : List (List ℕ)) (texts : List X)
      → list_any (bytes_eq first) names ≡ false
      → AllZip (λ name text. lookup (λ held. bytes_eq held name) entries ≡ Some text) names texts
      → AllZip (λ name text. lookup (λ held. bytes_eq held name) ((first, value) ∷ entries) ≡ Some text) names texts
  AllZip-bytes_of_tail first value entries [] [] other found = found
  AllZip-bytes_of_tail first value entries [] (text ∷ texts) other found = found
  AllZip-bytes_of_tail first value entries (name ∷ names) [] other found = found
  AllZip-bytes_of_tail first value entries (name ∷ names) (text ∷ texts) other found =
      let apart = or_parts (bytes_eq first name) (list_any (bytes_eq first) names) other in (
        ap (λ b. cond b (Some value) (lookup (λ held. bytes_eq held name) entries)) apart.0
            ∙ found.0,
        AllZip-bytes_of_tail first value entries names texts apart.1 found.1,
      )

  -- where the names differ, each leads to its own text
  pub AllZip-bytes_of : (names : List (List ℕ)) (texts : List X) → length names ≡ length texts → IsTrue (names_differ names)
      → AllZip (λ name text. lookup (λ held. bytes_eq held name) (zip names texts) ≡ Some text) names texts
  AllZip-bytes_of [] [] paired distinct = tt
  AllZip-bytes_of [] (text ∷ texts) paired distinct = absurd (omega (arith, paired))
  AllZip-bytes_of (name ∷ names) [] paired distinct = absurd (omega (arith, paired))
  AllZip-bytes_of (name ∷ names) (text ∷ texts) paired distinct =
      let along : length names ≡ length texts = omega (arith, paired) in
      let apart = and_parts (not (list_any (bytes_eq name) names)) (names_differ names) distinct in (
        ap (λ b. cond b (Some text) (lookup (λ held. bytes_eq held name) (zip names texts))) ((bytes_eq-Decides name name).1 refl),
        AllZip-bytes_of_tail name text (zip names texts) names texts (not-true (list_any (bytes_eq name) names) apart.0)
            (AllZip-bytes_of names texts along apart.1),
      )
