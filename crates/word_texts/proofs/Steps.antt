-- What the steps of a text need: known addresses, what comes next, and a measure.
use Rattle.std.proofs.Common.{◌≡◌, ℕ, zero, suc, ◌+◌, ◌-◌, ◌<◌, ◌≤◌, List, [], ◌∷◌, ◌++◌, codes}
use Rattle.std.proofs.Common.{Option, Some, None, refl, sym, ap, ◌∙◌, subst, arith, inl, inr}
use Rattle.std.specs.Prelude.{◌⊎◌, Result, Ok, Err, OnErr}
use Rattle.heap_words.specs.Cells.{encoded, decoded}
use Rattle.heap_words.specs.WordsLaws.{WordsLaws}
use Rattle.heap_words.specs.Trails.{WordList, Memory}
use Rattle.heap_words.specs.declared.cell.Cell.{Cell}
use Rattle.heap_words.specs.declared.cell.Cell.TheVariants as cell
use Rattle.heap_words.proofs.Encodings.{encoded_decoded, decoded_encoded}
use Rattle.ro_unify.specs.declared.look.Look.{Look}
use Rattle.ro_unify.specs.declared.look.Look.TheVariants as look
use Rattle.ro_unify.specs.declared.occurrence.Whole.TheVariants as whole
use Rattle.ro_unify.specs.Value.{look_word}
use Rattle.ro_unify.specs.Occurs.{whole_of, count_of, Each, stack}
use Rattle.ro_unify.proofs.Leads.{is_pair, is_tuple_at, parts_known, tuple_known}
use Rattle.ro_unify.proofs.Stacks.{Each-more}
use Rattle.word_texts.specs.declared.leaf.Leaf.TheVariants as leaf
use Rattle.word_texts.specs.declared.items.Item.{Item}
use Rattle.word_texts.specs.declared.items.Item.TheVariants.{Term, Rest, Parts, Close}
use Rattle.word_texts.specs.declared.turns.Tail.TheVariants as tail
use Rattle.word_texts.specs.Leaves.{leaf_of}
use Rattle.fcp_model.specs.declared.names.Sym.{Sym}
use Rattle.fcp_model.specs.Spelling.{Bytes, string_text, name_at}
use Rattle.word_texts.specs.declared.items.Bracket.TheVariants.{Round, Curly}
use Rattle.word_texts.specs.Turns.{Leads, whole_look, tail_look, tail_in, count_at, part_items, Functor, round, curly, Opened, Turned}
use Rattle.word_texts.specs.Turns.{Writes, still, on}

-- what holds anyway holds after want of memory
pub on_err : {T E : Type 0} (P : Type 0) (r : Result T E) → P → OnErr r P
on_err P (Ok x) h = tt
on_err P (Err e) h = h

-- the cell of a long number, and of a pair that goes on with a list
pub long_cell : (o : Option Cell) (a h : ℕ) → leaf_of o ≡ leaf.Long a h → o ≡ Some (cell.Wide a h)
long_cell (Some (cell.Wide b k)) a h e = cc
long_cell None a h e = cc
long_cell (Some (cell.Unbound k)) a h e = cc
long_cell (Some (cell.Ref b)) a h e = cc
long_cell (Some (cell.RoRef b)) a h e = cc
long_cell (Some (cell.Small z)) a h e = cc
long_cell (Some (cell.Str s)) a h e = cc
long_cell (Some cell.Nil) a h e = cc
long_cell (Some (cell.Cons b)) a h e = cc
long_cell (Some (cell.Tuple b)) a h e = cc
long_cell (Some (cell.Status d)) a h e = cc
long_cell (Some (cell.Raw k)) a h e = cc
long_cell (Some (cell.Top b)) a h e = cc

further_cell : (o : Option Cell) (a : ℕ) → tail_in o ≡ tail.Pair a → o ≡ Some (cell.Cons a)
further_cell (Some (cell.Cons b)) a e = cc
further_cell None a e = cc
further_cell (Some (cell.Unbound k)) a e = cc
further_cell (Some (cell.Ref b)) a e = cc
further_cell (Some (cell.RoRef b)) a e = cc
further_cell (Some (cell.Small z)) a e = cc
further_cell (Some (cell.Wide b h)) a e = cc
further_cell (Some (cell.Str s)) a e = cc
further_cell (Some cell.Nil) a e = cc
further_cell (Some (cell.Tuple b)) a e = cc
further_cell (Some (cell.Status d)) a e = cc
further_cell (Some (cell.Raw k)) a e = cc
further_cell (Some (cell.Top b)) a e = cc

-- the cell of a value that is a pair or a tuple
pub pair_cell : (l : Look) (a : ℕ) → whole_look l ≡ whole.Pair a → decoded (look_word l) ≡ Some (cell.Cons a)
pair_cell (look.Solid x) a e = is_pair (decoded x) a e
pair_cell (look.Writable b) a e = cc
pair_cell (look.ReadOnly b) a e = cc

pub tuple_cell : (l : Look) (a : ℕ) → whole_look l ≡ whole.Tuple a → decoded (look_word l) ≡ Some (cell.Tuple a)
tuple_cell (look.Solid x) a e = is_tuple_at (decoded x) a e
tuple_cell (look.Writable b) a e = cc
tuple_cell (look.ReadOnly b) a e = cc

pub tail_cell : (l : Look) (a : ℕ) → tail_look l ≡ tail.Pair a → decoded (look_word l) ≡ Some (cell.Cons a)
tail_cell (look.Solid x) a e = further_cell (decoded x) a e
tail_cell (look.Writable b) a e = cc
tail_cell (look.ReadOnly b) a e = cc

module _ {S : Type 0} {addresses : S → ℕ} {sound : S → Type 0} {knows : S → ℕ → Type 0} {had : S → ℕ → ℕ → Type 0} {leads : S → ℕ → Type 0}
    {own shown : S → ℕ → Option ℕ} {later : S → S → Type 0} {gave : S → S → ℕ → ℕ → Type 0}
    (laws : WordsLaws {S = S} addresses sound knows had leads own shown later gave) where
  pub long_known : (w : S) (x a h : ℕ) → sound w → leads w x → leaf_of (decoded x) ≡ leaf.Long a h → knows w a
  long_known w x a h so l e = laws.reaches w x a (cell.Wide a h) so l (long_cell (decoded x) a h e) refl

  before : (a : ℕ) → (a - 1 ≡ a) ⊎ (suc (a - 1) ≡ a)
  before zero = inl refl
  before (suc n) = inr (omega arith)

  -- the name of an unbound place
  pub writable_named : (w : S) (a : ℕ) → sound w → a < 0x100000000 → leads w (encoded (cell.Ref a)) → knows w (a - 1)
  writable_named w a so f l = laws.reaches w (encoded (cell.Ref a)) (a - 1) (cell.Ref a) so l (decoded_encoded (cell.Ref a) f) (before a)

  pub read_only_named : (w : S) (a : ℕ) → sound w → a < 0x100000000 → leads w (encoded (cell.RoRef a)) → knows w (a - 1)
  read_only_named w a so f l =
      laws.reaches w (encoded (cell.RoRef a)) (a - 1) (cell.RoRef a) so l (decoded_encoded (cell.RoRef a) f) (before a)

  -- the parts of a pair
  pub cons_known : (w : S) (x a : ℕ) → sound w → leads w x → decoded x ≡ Some (cell.Cons a) → knows w a × knows w (a + 1)
  cons_known w x a so l e =
      (laws.reaches w x a (cell.Cons a) so l e (inl refl), laws.reaches w x (a + 1) (cell.Cons a) so l e (inr (omega arith)))

  -- a value that is a tuple has its word
  pub tuple_leads : (w : S) (x a : ℕ) → leads w x → decoded x ≡ Some (cell.Tuple a) → leads w (encoded (cell.Tuple a))
  tuple_leads w x a l e = subst (leads w) (sym (encoded_decoded x (cell.Tuple a) e).1) l

  pub count_known : (w : S) (a : ℕ) → sound w → a < 0x100000000 → leads w (encoded (cell.Tuple a)) → knows w a
  count_known w a so f l = tuple_known laws w (encoded (cell.Tuple a)) a so l (ap whole_of (decoded_encoded (cell.Tuple a) f))

  pub tuple_parts_known : (w : S) (a y b : ℕ) → sound w → a < 0x100000000 → leads w (encoded (cell.Tuple a)) → had w a y → a < b
      → b ≤ a + count_of (decoded y) → knows w b
  tuple_parts_known w a y b so f l h lo hi =
      parts_known laws w (encoded (cell.Tuple a)) y a b so l (ap whole_of (decoded_encoded (cell.Tuple a) f)) h lo hi

  -- items lead to known addresses while loads are made
  item_stays : (v w : S) (i : Item) → later v w → Leads (knows v) (leads v) i → Leads (knows w) (leads w) i
  item_stays v w (Term x) e l = laws.stays_leading v w x e l
  item_stays v w (Rest x) e l = laws.stays_leading v w x e l
  item_stays v w (Parts a n) e l = λ b lo hi. laws.stays_known v w b e (l b lo hi)
  item_stays v w (Close b) e l = tt

  pub items_stay : (v w : S) (is : List Item) → later v w → Each (Leads (knows v) (leads v)) is → Each (Leads (knows w) (leads w)) is
  items_stay v w is e h =
      Each-more (Leads (knows v) (leads v)) (Leads (knows w) (leads w)) is (λ i l. item_stays v w i e l) h

-- a tuple that is opened, with its number of parts known
pub round_opened : {bs : WordList} {m : Memory} {names : List Bytes} (k a n : ℕ) (o : Option Sym) (s : Sym) (is is' : List Item)
    (old new : Bytes)
    → count_at m a ≡ n → Functor bs m k n a o → o ≡ Some s → new ≡ old ++ (string_text (name_at names s.0) ++ codes "(")
    → is' ≡ (part_items m (a + 1) (n - 1) ++ Close Round ∷ []) ++ is → Opened bs m names k a is old (k - 1) is' new
round_opened {bs = bs} {m = m} {names = names} k a n o s is is' old new c f e x i = record {
  text = string_text (name_at names s.0) ++ codes "(";
  first = part_items m (a + 1) (count_at m a - 1) ++ Close Round ∷ [];
  opens = round k a s (subst (λ (q : Option Sym). Functor bs m k (count_at m a) a q) e (subst (λ (z : ℕ). Functor bs m k z a o) (sym c) f));
  items = i ∙ ap (λ (z : ℕ). (part_items m (a + 1) (z - 1) ++ Close Round ∷ []) ++ is) (sym c);
  appended = x;
}

pub curly_opened : {bs : WordList} {m : Memory} {names : List Bytes} (k a n : ℕ) (o : Option Sym) (is is' : List Item) (old new : Bytes)
    → count_at m a ≡ n → Functor bs m k n a o → o ≡ None → new ≡ old ++ codes "{"
    → is' ≡ (part_items m a n ++ Close Curly ∷ []) ++ is → Opened bs m names k a is old k is' new
curly_opened {bs = bs} {m = m} k a n o is is' old new c f e x i = record {
  text = codes "{";
  first = part_items m a (count_at m a) ++ Close Curly ∷ [];
  opens = curly k a (subst (λ (q : Option Sym). Functor bs m k (count_at m a) a q) e (subst (λ (z : ℕ). Functor bs m k z a o) (sym c) f));
  items = i ∙ ap (λ (z : ℕ). (part_items m a z ++ Close Curly ∷ []) ++ is) (sym c);
  appended = x;
}

-- the end of the items, and the next one
pub writes_none : {bs : WordList} {m : Memory} {names : List Bytes} (k : ℕ) (is : List Item) (text : Bytes) → is ≡ []
    → Writes bs m names k (stack is) text k [] text
writes_none {bs = bs} {m = m} {names = names} k is text e =
    subst (λ (js : List Item). Writes bs m names k (stack js) text k [] text) (sym e) (still k [] text)

pub writes_on : {bs : WordList} {m : Memory} {names : List Bytes} (k : ℕ) (i : Item) (is : List Item) (old : Bytes) (j : ℕ)
    (is' : List Item) (mid : Bytes) (l : ℕ) (ls : List Item) (new : Bytes) → Turned bs m names k i is old j is' mid
    → Writes bs m names j is' mid l ls new → Writes bs m names k (i ∷ is) old l ls new
writes_on {bs = bs} {m = m} {names = names} k i is old j is' mid l ls new t w =
    on k i is old t.text j t.first l ls new t.turns
    (subst (λ (x : Bytes). Writes bs m names j (t.first ++ is) x l ls new) t.appended
    (subst (λ (js : List Item). Writes bs m names j js mid l ls new) t.items w))
