-- The terms for which words stand.
use Rattle.std.specs.Prelude.{◌≡◌, ◌⊎◌, ℕ, ◌+◌, ◌-◌, ◌*◌, ◌<◌, Bool, true, false, ℤ}
use Rattle.std.specs.Prelude.{List, [], ◌∷◌, ◌++◌, map, Option, Some, None, nat_eq}
use Rattle.heap_words.specs.Cells.{decoded}
use Rattle.heap_words.specs.Trails.{WordList, Memory, word_at}
use Rattle.heap_words.specs.declared.cell.Cell.{Cell}
use Rattle.heap_words.specs.declared.cell.Cell.TheVariants as cell
use Rattle.ro_unify.specs.declared.look.Look.{Look}
use Rattle.ro_unify.specs.declared.look.Look.TheVariants as look
use Rattle.ro_unify.specs.Value.{is_unbound}
use Rattle.ro_unify.specs.Table.{older_of}
use Rattle.fcp_model.specs.Places.{Variable, own, is_same, is_older}
use Rattle.fcp_model.specs.Terms.{Term, number, string, nil, cons, tuple, var, ro, first, Terms, none, more, Bindings, find}
use Rattle.fcp_model.specs.Value.{writable, read_only, solid, value_of}
use Rattle.fcp_model.specs.Value as terms
use Rattle.fcp_model.specs.Unification as endings
use Rattle.fcp_model.specs.Unification.{unify}
use Rattle.ro_unify.specs.Unify as words
use Rattle.fcp_model.specs.Pair.{Pair}
use Rattle.word_states.specs.Numbers.{bits, low_bits, IsLong, part_count}

-- which addresses are those of places, and what they are called
pub record Naming : Type 0 where
  pub is_place : ℕ → Bool
  pub name : ℕ → Variable

-- The number of a cell. One outside the range of small numbers has its upper eight bits in the cell, and the lower 56 as a small
-- number at another address.
abbrev pub NumberIn : Memory → Cell → ℤ → Type 0
NumberIn m (cell.Small y) z = y ≡ z
NumberIn m (cell.Wide a h) z =
    (low : ℤ) × (decoded (m a) ≡ Some (cell.Small low)) × (bits z ≡ h * 0x100000000000000 + low_bits low) × IsLong z
NumberIn m _ z = ⊥

-- the word has the number
abbrev pub IsNumber : Memory → ℤ → ℕ → Type 0
IsNumber m z w = (c : Cell) × (decoded w ≡ Some c) × NumberIn m c z

module _ (p : Naming) (m : Memory) where
  -- the place with this address has this name
  abbrev pub IsPlace : ℕ → Variable → Type 0
  IsPlace a v = (p.is_place a ≡ true) × (p.name a ≡ v)

  -- the word stands for the term
  abbrev mutual
    pub Denotes : Term Variable → ℕ → Type 0
    Denotes (number z) w = IsNumber m z w
    Denotes (string s) w = (n : _) × (decoded w ≡ Some (cell.Str n)) × (n.0 ≡ s)
    Denotes nil w = decoded w ≡ Some cell.Nil
    Denotes (cons t u) w = (a : ℕ) × (decoded w ≡ Some (cell.Cons a)) × Denotes t (m a) × Denotes u (m (a + 1))
    Denotes (tuple ts) w =
        (a : ℕ) × (decoded w ≡ Some (cell.Tuple a)) × (decoded (m a) ≡ Some (cell.Raw (part_count ts))) × (part_count ts < 66)
        × DenotesAll ts a
    Denotes (var v) w = (a : ℕ) × (decoded w ≡ Some (cell.Ref a)) × IsPlace a v
    Denotes (ro v) w = (a : ℕ) × (decoded w ≡ Some (cell.RoRef a)) × IsPlace a v
    Denotes (first k) w = ⊥

    -- the words after an address stand for the terms
    pub DenotesAll : Terms Variable → ℕ → Type 0
    DenotesAll none a = Unit {0}
    DenotesAll (more t ts) a = Denotes t (m (a + 1)) × DenotesAll ts (a + 1)

  -- words stand for terms, one by one
  abbrev pub DenotesList : Terms Variable → List ℕ → Type 0
  DenotesList none [] = Unit {0}
  DenotesList (more t ts) (w ∷ ws) = Denotes t w × DenotesList ts ws
  DenotesList _ _ = ⊥

  -- and pairs of words for pairs of terms
  abbrev pub DenotesPairs : List Pair → List (ℕ × ℕ) → Type 0
  DenotesPairs [] [] = Unit {0}
  DenotesPairs (t ∷ ts) (w ∷ ws) = Denotes t.0 w.0 × Denotes t.1 w.1 × DenotesPairs ts ws
  DenotesPairs _ _ = ⊥

  -- the words under private bindings stand for the map
  pub record Stands (bs : WordList) (s : Bindings) : Type 0 where
    pub privately : (a x : ℕ) → p.is_place a ≡ true → word_at bs a ≡ Some x
        → (t : Term Variable) × (find s (p.name a) ≡ Some t) × Denotes t x
    pub bound : (a : ℕ) → p.is_place a ≡ true → word_at bs a ≡ None → is_unbound (decoded (m a)) ≡ false
        → (t : Term Variable) × (find s (p.name a) ≡ Some t) × Denotes t (m a)
    pub unbound : (a : ℕ) → p.is_place a ≡ true → word_at bs a ≡ None → is_unbound (decoded (m a)) ≡ true → find s (p.name a) ≡ None

  -- places have small addresses, and names tell them apart and give their ages
  pub record Names : Type 0 where
    pub below : (a : ℕ) → p.is_place a ≡ true → a < 0x100000000
    pub same : (a b : ℕ) → p.is_place a ≡ true → p.is_place b ≡ true → is_same (p.name a) (p.name b) ≡ nat_eq a b
    pub older : (a b : ℕ) → p.is_place a ≡ true → p.is_place b ≡ true → nat_eq a b ≡ false
        → is_older (p.name a) (p.name b) ≡ older_of a b (m (a - 1)) (m (b - 1))

  -- the value of a term, of which a read-only mark was met before
  abbrev pub value_as : ℕ → Bindings → Bool → Term Variable → Option terms.Look
  value_as n s only (var v) = value_of n s only v
  value_as n s only (ro v) = value_of n s true v
  value_as n s only (first k) = value_of n s only (own k)
  value_as n s only t = Some (solid t)

  -- the value of a word is the value of a term
  abbrev pub LookIs : Look → terms.Look → Type 0
  LookIs (look.Writable a) (writable v) = IsPlace a v
  LookIs (look.ReadOnly a) (read_only v) = IsPlace a v
  LookIs (look.Solid x) (solid t) = Denotes t x
  LookIs _ _ = ⊥

  pub record HasValue (s : Bindings) (only : Bool) (t : Term Variable) (l : Look) : Type 0 where
    pub look : terms.Look
    pub is : LookIs l look
    pub steps : ℕ
    pub value : value_as steps s only t ≡ Some look

  -- how a unification of words ends, and how one of terms does; the reads are the same places
  pub data EndsAs (s : Bindings) : words.Ended → endings.Ended → Type 0 where
    finished : (bs : WordList) (rs : List ℕ) (ts : Bindings) → Stands bs (s ++ ts)
        → EndsAs s (words.done bs rs) (endings.done ts (map p.name rs))
    clashed : (rs : List ℕ) → EndsAs s (words.clash rs) (endings.clash (map p.name rs))
    paused : (rs : List ℕ) → EndsAs s (words.stop rs) (endings.wait (map p.name rs))

  -- the variable is the name of a place
  abbrev pub HasPlace : Variable → Type 0
  HasPlace v = (a : ℕ) × IsPlace a v

  -- where a unification over s is done, each variable that it bound was bound before, or is the name of a place and unbound in s
  abbrev pub BindsNamed : Bindings → Bindings → endings.Ended → Type 0
  BindsNamed s ts (endings.done us rs) = (v : Variable) (t : Term Variable) → find us v ≡ Some t
      → (find ts v ≡ Some t) ⊎ (HasPlace v × (find s v ≡ None))
  BindsNamed s ts (endings.clash rs) = Unit {0}
  BindsNamed s ts (endings.wait rs) = Unit {0}

  -- these places, one by one, have the names that are bound here
  abbrev pub AreNames : WordList → Bindings → Type 0
  AreNames [] [] = Unit {0}
  AreNames (x ∷ xs) (u ∷ us) = IsPlace x.0 u.0 × AreNames xs us
  AreNames _ _ = ⊥

  -- where a unification is done, it bound places and their names in the same order, after those that were bound before
  abbrev pub BindsInOrder : WordList → Bindings → words.Ended → endings.Ended → Type 0
  BindsInOrder bs ts (words.done bs' rs) (endings.done ts' qs) =
      (xs : WordList) × (us : Bindings) × (bs' ≡ bs ++ xs) × (ts' ≡ ts ++ us) × AreNames xs us
  BindsInOrder bs ts _ _ = Unit {0}

  -- the definitions unify the pairs so, by some number of steps
  pub record UnifiesAs (bs : WordList) (s ts : Bindings) (rs : List ℕ) (ps : List Pair) (e : words.Ended) : Type 0 where
    pub steps : ℕ
    pub end : endings.Ended
    pub by_steps : unify steps s ts (map p.name rs) ps ≡ Some end
    pub alike : EndsAs s e end
    pub named : BindsNamed s ts end
    pub order : BindsInOrder bs ts e end

-- Wherever the pairs stand for pairs of terms, and the bindings with the memory for a map, the definitions unify the
-- terms over that map, by some number of steps, as the words were.
abbrev pub AreUnified : Memory → WordList → List ℕ → List (ℕ × ℕ) → words.Ended → Type 0
AreUnified m bs rs ps e =
    (p : Naming) → Names p m → (s ts : Bindings) (tps : List Pair) → Stands p m bs
    (s ++ ts) → DenotesPairs p m tps ps → UnifiesAs p m bs s ts rs tps e
