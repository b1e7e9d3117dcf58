-- The text of a value without parts is that of the term's value.
use Rattle.std.proofs.Common.{◌≡◌, ℕ, suc, ◌+◌, ◌-◌, ◌*◌, ◌/◌, ◌%◌, ◌<◌, ◌≤◌, Bool, true, false, cond, ℤ, pos, negsuc, List, ◌++◌, codes}
use Rattle.std.proofs.Common.{Some, None, refl, sym, ap, ap₂, ◌∙◌, subst, arith}
use Rattle.std.specs.Prelude.{nat_lt, option_map}
use Rattle.std.specs.Fmt.{signed_decimal}
use Rattle.std.proofs.lemmas.Bool.Decides.{nat_tests}
use Rattle.heap_words.specs.Cells.{decoded}
use Rattle.heap_words.specs.Trails.{WordList, Memory}
use Rattle.heap_words.specs.declared.cell.Cell.{Cell}
use Rattle.heap_words.specs.declared.cell.Cell.TheVariants as cell
use Rattle.ro_unify.specs.declared.look.Look.{Look}
use Rattle.ro_unify.specs.declared.look.Look.TheVariants as look
use Rattle.ro_unify.specs.declared.occurrence.Whole.TheVariants as whole
use Rattle.ro_unify.specs.Value.{Values, leads_on}
use Rattle.ro_unify.specs.Occurs.{whole_of, count_of}
use Rattle.heap_words.specs.Refers.{parts}
use Rattle.ro_unify.proofs.Chains.{value_no_ref}
use Rattle.unify_terms.specs.Denotes.{Naming, Denotes, DenotesAll, Stands, LookIs, value_as, NumberIn}
use Rattle.word_states.specs.Numbers.{IsLong, bits, part_count}
use Rattle.unify_terms.proofs.ValuesOfWords.{values_so}
use Rattle.fcp_model.specs.declared.run.Place.{Place}
use Rattle.fcp_model.specs.declared.names.Sym.{Sym}
use Rattle.fcp_model.specs.Places.{Variable, made, place}
use Rattle.fcp_model.specs.Terms.{Term, number, string, nil, cons, tuple, var, ro, first, Terms, Bindings}
use Rattle.fcp_model.specs.Value.{writable, read_only, solid, value}
use Rattle.fcp_model.specs.Value as terms
use Rattle.fcp_model.specs.Spelling.{Bytes, variable_text}
use Rattle.fcp_model.specs.TermText.{leaf_text, string_of}
use Rattle.fcp_model.proofs.MoreSteps.{at_least, value_more}
use Rattle.word_texts.specs.Leaves.{signed, long_number, leaf_of, solid_text, place_of, open_text, look_text}
use Rattle.word_texts.specs.Turns.{whole_look, tail_look, tail_in, string_look, string_in, count_at}
use Rattle.word_texts.specs.Shown.{Labels}
use Rattle.word_texts.specs.declared.turns.Tail.TheVariants as tail

-- a long number has its bits
signed_bits : (z : ℤ) → IsLong z → signed (bits z) ≡ z
signed_bits (pos n) l = let h : n < 0x8000000000000000 = l.1 in grind (arith, nat_tests)
signed_bits (negsuc n) l =
    let h : n < 0x8000000000000000 = l.1 in
    let low : nat_lt (0x10000000000000000 - suc n) 0x8000000000000000 ≡ false = grind (arith, nat_tests) in
    let back : 0xffffffffffffffff - (0x10000000000000000 - suc n) ≡ n = omega arith in
    ap (λ (b : Bool). cond b (pos (0x10000000000000000 - suc n)) (negsuc (0xffffffffffffffff - (0x10000000000000000 - suc n)))) low
    ∙ ap negsuc back

-- a name's number gives its place
pub place_back : (j : Place) → j.number < 268435456
    → place ((268435456 * j.entry + j.number) / 268435456) ((268435456 * j.entry + j.number) % 268435456) ≡ j
place_back j h =
    let e : (268435456 * j.entry + j.number) / 268435456 ≡ j.entry = omega arith in
    let k : (268435456 * j.entry + j.number) % 268435456 ≡ j.number = omega arith in
    ap₂ place e k

module _ (m : Memory) (names : List Bytes) where
  number_text : (c : Cell) (z : ℤ) → NumberIn m c z → solid_text m names (leaf_of (Some c)) ≡ signed_decimal z
  number_text (cell.Small y) z n = ap signed_decimal n
  number_text (cell.Wide a h) z n =
      ap signed_decimal (ap (long_number h) n.1 ∙ (ap signed (sym n.2) ∙ signed_bits z n.3))
  number_text (cell.Unbound r) z n = absurd n
  number_text (cell.Ref r) z n = absurd n
  number_text (cell.RoRef r) z n = absurd n
  number_text (cell.Str r) z n = absurd n
  number_text cell.Nil z n = absurd n
  number_text (cell.Cons r) z n = absurd n
  number_text (cell.Tuple r) z n = absurd n
  number_text (cell.Status r) z n = absurd n
  number_text (cell.Raw r) z n = absurd n
  number_text (cell.Top r) z n = absurd n

  number_whole : (c : Cell) (z : ℤ) → NumberIn m c z → whole_of (Some c) ≡ whole.Atom
  number_whole (cell.Small y) z n = refl
  number_whole (cell.Wide a h) z n = refl
  number_whole (cell.Unbound r) z n = absurd n
  number_whole (cell.Ref r) z n = absurd n
  number_whole (cell.RoRef r) z n = absurd n
  number_whole (cell.Str r) z n = absurd n
  number_whole cell.Nil z n = absurd n
  number_whole (cell.Cons r) z n = absurd n
  number_whole (cell.Tuple r) z n = absurd n
  number_whole (cell.Status r) z n = absurd n
  number_whole (cell.Raw r) z n = absurd n
  number_whole (cell.Top r) z n = absurd n

  number_tail : (c : Cell) (z : ℤ) → NumberIn m c z → tail_in (Some c) ≡ tail.Other
  number_tail (cell.Small y) z n = refl
  number_tail (cell.Wide a h) z n = refl
  number_tail (cell.Unbound r) z n = absurd n
  number_tail (cell.Ref r) z n = absurd n
  number_tail (cell.RoRef r) z n = absurd n
  number_tail (cell.Str r) z n = absurd n
  number_tail cell.Nil z n = absurd n
  number_tail (cell.Cons r) z n = absurd n
  number_tail (cell.Tuple r) z n = absurd n
  number_tail (cell.Status r) z n = absurd n
  number_tail (cell.Raw r) z n = absurd n
  number_tail (cell.Top r) z n = absurd n

  number_string : (c : Cell) (z : ℤ) → NumberIn m c z → string_in (Some c) ≡ None
  number_string (cell.Small y) z n = refl
  number_string (cell.Wide a h) z n = refl
  number_string (cell.Unbound r) z n = absurd n
  number_string (cell.Ref r) z n = absurd n
  number_string (cell.RoRef r) z n = absurd n
  number_string (cell.Str r) z n = absurd n
  number_string cell.Nil z n = absurd n
  number_string (cell.Cons r) z n = absurd n
  number_string (cell.Tuple r) z n = absurd n
  number_string (cell.Status r) z n = absurd n
  number_string (cell.Raw r) z n = absurd n
  number_string (cell.Top r) z n = absurd n

-- a value that ends no list and goes on with none
abbrev pub Other : terms.Look → Type 0
Other (solid nil) = ⊥
Other (solid (cons t u)) = ⊥
Other _ = Unit {0}

-- a term that a value can be
pub data Plain : Term Variable → Type 0 where
  is_number : (z : ℤ) → Plain (number z)
  is_string : (s : ℕ) → Plain (string s)
  is_nil : Plain nil
  is_cons : (t u : Term Variable) → Plain (cons t u)
  is_tuple : (ts : Terms Variable) → Plain (tuple ts)

module _ (p : Naming) (bs : WordList) (m : Memory) (s : Bindings) (names : List Bytes) (labels : Labels p m)
    (stands : Stands p m bs s) where
  -- the value of a term, from some number of steps on
  pub record Found (t : Term Variable) (l : Look) : Type 0 where
    pub look : terms.Look
    pub is : LookIs p m l look
    pub steps : ℕ
    pub value_is : (n : ℕ) → steps ≤ n → value n s t ≡ Some look
    pub plain : (u : Term Variable) → look ≡ solid u → Plain u

  same_value : (n : ℕ) (t : Term Variable) → value_as p m n s false t ≡ value n s t
  same_value n (var v) = refl
  same_value n (ro v) = refl
  same_value n (first k) = refl
  same_value n (number z) = refl
  same_value n (string c) = refl
  same_value n nil = refl
  same_value n (cons t u) = refl
  same_value n (tuple ts) = refl

  -- a word that is no reference stands for no variable
  no_variable : (x : ℕ) (u : Term Variable) → leads_on false (decoded x) ≡ None → Denotes p m u x → Plain u
  no_variable x (number z) e d = is_number z
  no_variable x (string c) e d = is_string c
  no_variable x nil e d = is_nil
  no_variable x (cons t u) e d = is_cons t u
  no_variable x (tuple ts) e d = is_tuple ts
  no_variable x (var v) e d = absurd (let h : Some (false, d.0) ≡ None = sym (ap (leads_on false) d.1) ∙ e in cc)
  no_variable x (ro v) e d = absurd (let h : Some (true, d.0) ≡ None = sym (ap (leads_on false) d.1) ∙ e in cc)
  no_variable x (first k) e d = absurd d

  plain_look : (w : ℕ) (l : Look) (v : terms.Look) (u : Term Variable) → Values bs m false w l → LookIs p m l v → v ≡ solid u → Plain u
  plain_look w (look.Solid x) (solid t) u i d e =
      let q : t ≡ u = cc in
      no_variable x u (value_no_ref bs m false w (look.Solid x) x i refl) (subst (λ (y : Term Variable). Denotes p m y x) q d)
  plain_look w (look.Solid x) (writable v) u i d e = absurd d
  plain_look w (look.Solid x) (read_only v) u i d e = absurd d
  plain_look w (look.Writable a) (solid t) u i d e = absurd d
  plain_look w (look.Writable a) (writable v) u i d e = cc
  plain_look w (look.Writable a) (read_only v) u i d e = cc
  plain_look w (look.ReadOnly a) (solid t) u i d e = absurd d
  plain_look w (look.ReadOnly a) (writable v) u i d e = cc
  plain_look w (look.ReadOnly a) (read_only v) u i d e = cc

  pub found : (w : ℕ) (l : Look) (t : Term Variable) → Values bs m false w l → Denotes p m t w → Found t l
  found w l t v d =
      let h = values_so p bs m s stands false w l v t d in
      record {
        look = h.look;
        is = h.is;
        steps = h.steps;
        value_is = λ n i. at_least (λ n. value n s t) (value_more s t) h.steps n i h.look (sym (same_value h.steps t) ∙ h.value);
        plain = λ u e. plain_look w l h.look u v h.is e;
      }

  open_is : (a : ℕ) (v : Variable) → p.is_place a ≡ true → p.name a ≡ v → variable_text v ≡ open_text m a
  open_is a v h e =
      let i : v ≡ made (labels.place a) = sym e ∙ labels.named a h in
      let k : place_of (decoded (m (a - 1))) ≡ labels.place a =
      ap place_of (labels.word a h) ∙ place_back (labels.place a) (labels.below a h) in
      ap variable_text i ∙ ap (λ (j : Place). variable_text (made j)) (sym k)

  solid_leaf : (x : ℕ) (u : Term Variable) → Plain u → Denotes p m u x → whole_of (decoded x) ≡ whole.Atom
      → leaf_text names (solid u) ≡ Some (solid_text m names (leaf_of (decoded x)))
  solid_leaf x _ (is_number z) d e = ap Some (sym (ap (λ c. solid_text m names (leaf_of c)) d.1 ∙ number_text m names d.0 z d.2))
  solid_leaf x _ (is_string c) d e =
      ap Some (sym (ap (λ o. solid_text m names (leaf_of o)) d.1
      ∙ ap (λ (k : ℕ). solid_text m names (leaf_of (Some (cell.Str (record { 0 = k }))))) d.2))
  solid_leaf x _ is_nil d e = ap Some (sym (ap (λ c. solid_text m names (leaf_of c)) d))
  solid_leaf x _ (is_cons t u) d e = absurd (let h : whole.Pair d.0 ≡ whole.Atom = sym (ap whole_of d.1) ∙ e in cc)
  solid_leaf x _ (is_tuple ts) d e = absurd (let h : whole.Tuple d.0 ≡ whole.Atom = sym (ap whole_of d.1) ∙ e in cc)

  -- a value without parts
  pub leaf_is : (l : Look) (v : terms.Look) → LookIs p m l v → ((u : Term Variable) → v ≡ solid u → Plain u) → whole_look l ≡ whole.Atom
      → leaf_text names v ≡ Some (look_text m names l)
  leaf_is (look.Writable a) (writable v) i q e = ap Some (open_is a v i.0 i.1)
  leaf_is (look.ReadOnly a) (read_only v) i q e = ap (λ (x : Bytes). Some (x ++ codes "?")) (open_is a v i.0 i.1)
  leaf_is (look.Solid x) (solid u) i q e = solid_leaf x u (q u refl) i e
  leaf_is (look.Solid x) (writable v) i q e = absurd i
  leaf_is (look.Solid x) (read_only v) i q e = absurd i
  leaf_is (look.Writable a) (solid t) i q e = absurd i
  leaf_is (look.Writable a) (read_only v) i q e = absurd i
  leaf_is (look.ReadOnly a) (solid t) i q e = absurd i
  leaf_is (look.ReadOnly a) (writable v) i q e = absurd i

  -- the value of a pair
  pub record IsPair (v : terms.Look) (a : ℕ) : Type 0 where
    pub head : Term Variable
    pub tail : Term Variable
    pub is : v ≡ solid (cons head tail)
    pub head_is : Denotes p m head (m a)
    pub tail_is : Denotes p m tail (m (a + 1))

  cons_pair : (x a : ℕ) (t u : Term Variable) (d : Denotes p m (cons t u) x) → d.0 ≡ a → IsPair (solid (cons t u)) a
  cons_pair x a t u d k = record {
    head = t;
    tail = u;
    is = refl;
    head_is = subst (λ (b : ℕ). Denotes p m t (m b)) k d.2;
    tail_is = subst (λ (b : ℕ). Denotes p m u (m (b + 1))) k d.3;
  }

  whole_pair : (x a : ℕ) (u : Term Variable) → Plain u → Denotes p m u x → whole_of (decoded x) ≡ whole.Pair a → IsPair (solid u) a
  whole_pair x a _ (is_cons t u) d e =
      cons_pair x a t u d (let h : whole.Pair d.0 ≡ whole.Pair a = sym (ap whole_of d.1) ∙ e in let k : d.0 ≡ a = cc in k)
  whole_pair x a _ (is_number z) d e =
      absurd (let h : whole.Atom ≡ whole.Pair a = sym (ap whole_of d.1 ∙ number_whole m names d.0 z d.2) ∙ e in cc)
  whole_pair x a _ (is_string c) d e = absurd (let h : whole.Atom ≡ whole.Pair a = sym (ap whole_of d.1) ∙ e in cc)
  whole_pair x a _ is_nil d e = absurd (let h : whole.Atom ≡ whole.Pair a = sym (ap whole_of d) ∙ e in cc)
  whole_pair x a _ (is_tuple ts) d e = absurd (let h : whole.Tuple d.0 ≡ whole.Pair a = sym (ap whole_of d.1) ∙ e in cc)

  tail_pair : (x a : ℕ) (u : Term Variable) → Plain u → Denotes p m u x → tail_in (decoded x) ≡ tail.Pair a → IsPair (solid u) a
  tail_pair x a _ (is_cons t u) d e =
      cons_pair x a t u d (let h : tail.Pair d.0 ≡ tail.Pair a = sym (ap tail_in d.1) ∙ e in let k : d.0 ≡ a = cc in k)
  tail_pair x a _ (is_number z) d e =
      absurd (let h : tail.Other ≡ tail.Pair a = sym (ap tail_in d.1 ∙ number_tail m names d.0 z d.2) ∙ e in cc)
  tail_pair x a _ (is_string c) d e = absurd (let h : tail.Other ≡ tail.Pair a = sym (ap tail_in d.1) ∙ e in cc)
  tail_pair x a _ is_nil d e = absurd (let h : tail.End ≡ tail.Pair a = sym (ap tail_in d) ∙ e in cc)
  tail_pair x a _ (is_tuple ts) d e = absurd (let h : tail.Other ≡ tail.Pair a = sym (ap tail_in d.1) ∙ e in cc)

  pub pair_is : (l : Look) (v : terms.Look) (a : ℕ) → LookIs p m l v → ((u : Term Variable) → v ≡ solid u → Plain u)
      → whole_look l ≡ whole.Pair a → IsPair v a
  pair_is (look.Solid x) (solid u) a i q e = whole_pair x a u (q u refl) i e
  pair_is (look.Solid x) (writable v) a i q e = absurd i
  pair_is (look.Solid x) (read_only v) a i q e = absurd i
  pair_is (look.Writable b) v a i q e = cc
  pair_is (look.ReadOnly b) v a i q e = cc

  pub further_is : (l : Look) (v : terms.Look) (a : ℕ) → LookIs p m l v → ((u : Term Variable) → v ≡ solid u → Plain u)
      → tail_look l ≡ tail.Pair a → IsPair v a
  further_is (look.Solid x) (solid u) a i q e = tail_pair x a u (q u refl) i e
  further_is (look.Solid x) (writable v) a i q e = absurd i
  further_is (look.Solid x) (read_only v) a i q e = absurd i
  further_is (look.Writable b) v a i q e = cc
  further_is (look.ReadOnly b) v a i q e = cc

  -- the end of a list, and any other rest
  solid_end : (x : ℕ) (u : Term Variable) → Plain u → Denotes p m u x → tail_in (decoded x) ≡ tail.End → u ≡ nil
  solid_end x _ is_nil d e = refl
  solid_end x _ (is_cons t u) d e = absurd (let h : tail.Pair d.0 ≡ tail.End = sym (ap tail_in d.1) ∙ e in cc)
  solid_end x _ (is_number z) d e =
      absurd (let h : tail.Other ≡ tail.End = sym (ap tail_in d.1 ∙ number_tail m names d.0 z d.2) ∙ e in cc)
  solid_end x _ (is_string c) d e = absurd (let h : tail.Other ≡ tail.End = sym (ap tail_in d.1) ∙ e in cc)
  solid_end x _ (is_tuple ts) d e = absurd (let h : tail.Other ≡ tail.End = sym (ap tail_in d.1) ∙ e in cc)

  pub end_is : (l : Look) (v : terms.Look) → LookIs p m l v → ((u : Term Variable) → v ≡ solid u → Plain u) → tail_look l ≡ tail.End
      → v ≡ solid nil
  end_is (look.Solid x) (solid u) i q e = ap solid (solid_end x u (q u refl) i e)
  end_is (look.Solid x) (writable v) i q e = absurd i
  end_is (look.Solid x) (read_only v) i q e = absurd i
  end_is (look.Writable b) v i q e = cc
  end_is (look.ReadOnly b) v i q e = cc

  solid_other : (x : ℕ) (u : Term Variable) → Plain u → Denotes p m u x → tail_in (decoded x) ≡ tail.Other → Other (solid u)
  solid_other x _ is_nil d e = let h : tail.End ≡ tail.Other = sym (ap tail_in d) ∙ e in cc
  solid_other x _ (is_cons t u) d e = let h : tail.Pair d.0 ≡ tail.Other = sym (ap tail_in d.1) ∙ e in cc
  solid_other x _ (is_number z) d e = tt
  solid_other x _ (is_string c) d e = tt
  solid_other x _ (is_tuple ts) d e = tt

  pub other_is : (l : Look) (v : terms.Look) → LookIs p m l v → ((u : Term Variable) → v ≡ solid u → Plain u) → tail_look l ≡ tail.Other
      → Other v
  other_is (look.Solid x) (solid u) i q e = solid_other x u (q u refl) i e
  other_is (look.Solid x) (writable v) i q e = absurd i
  other_is (look.Solid x) (read_only v) i q e = absurd i
  other_is (look.Writable b) (writable v) i q e = tt
  other_is (look.Writable b) (read_only v) i q e = absurd i
  other_is (look.Writable b) (solid u) i q e = absurd i
  other_is (look.ReadOnly b) (read_only v) i q e = tt
  other_is (look.ReadOnly b) (writable v) i q e = absurd i
  other_is (look.ReadOnly b) (solid u) i q e = absurd i

  -- the string that a value is
  solid_string : (x : ℕ) (u : Term Variable) → Plain u → Denotes p m u x
      → string_of (Some (solid u)) ≡ option_map (λ (c : Sym). c.0) (string_in (decoded x))
  solid_string x _ is_nil d = sym (ap (λ o. option_map (λ (c : Sym). c.0) (string_in o)) d)
  solid_string x _ (is_cons t u) d = sym (ap (λ o. option_map (λ (c : Sym). c.0) (string_in o)) d.1)
  solid_string x _ (is_number z) d =
      sym (ap (λ o. option_map (λ (c : Sym). c.0) (string_in o)) d.1 ∙ ap (option_map (λ (c : Sym). c.0)) (number_string m names d.0 z d.2))
  solid_string x _ (is_string c) d = sym (ap (λ o. option_map (λ (c : Sym). c.0) (string_in o)) d.1 ∙ ap Some d.2)
  solid_string x _ (is_tuple ts) d = sym (ap (λ o. option_map (λ (c : Sym). c.0) (string_in o)) d.1)

  pub string_is : (l : Look) (v : terms.Look) → LookIs p m l v → ((u : Term Variable) → v ≡ solid u → Plain u)
      → string_of (Some v) ≡ option_map (λ (c : Sym). c.0) (string_look l)
  string_is (look.Solid x) (solid u) i q = solid_string x u (q u refl) i
  string_is (look.Solid x) (writable v) i q = absurd i
  string_is (look.Solid x) (read_only v) i q = absurd i
  string_is (look.Writable b) (writable v) i q = refl
  string_is (look.Writable b) (read_only v) i q = refl
  string_is (look.Writable b) (solid u) i q = absurd i
  string_is (look.ReadOnly b) (read_only v) i q = refl
  string_is (look.ReadOnly b) (writable v) i q = refl
  string_is (look.ReadOnly b) (solid u) i q = absurd i

  -- the value of a tuple
  pub record IsTuple (v : terms.Look) (a : ℕ) : Type 0 where
    pub parts : Terms Variable
    pub is : v ≡ solid (tuple parts)
    pub count : count_at m a ≡ part_count parts
    pub parts_are : DenotesAll p m parts a

  tuple_at : (x a : ℕ) (ts : Terms Variable) (d : Denotes p m (tuple ts) x) → d.0 ≡ a → IsTuple (solid (tuple ts)) a
  tuple_at x a ts d k =
      let small : part_count ts < 66 = d.3 in
      let here : decoded (m a) ≡ Some (cell.Raw (part_count ts)) = ap (λ (b : ℕ). decoded (m b)) (sym k) ∙ d.2 in
      record {
        parts = ts;
        is = refl;
        count = ap count_of here ∙ few_parts (part_count ts) small;
        parts_are = subst (λ (b : ℕ). DenotesAll p m ts b) k d.4;
      }
    where
      few_parts : (n : ℕ) → n < 66 → parts n ≡ n
      few_parts n h = grind (arith, nat_tests)

  whole_tuple : (x a : ℕ) (u : Term Variable) → Plain u → Denotes p m u x → whole_of (decoded x) ≡ whole.Tuple a → IsTuple (solid u) a
  whole_tuple x a _ (is_tuple ts) d e =
      tuple_at x a ts d (let h : whole.Tuple d.0 ≡ whole.Tuple a = sym (ap whole_of d.1) ∙ e in let k : d.0 ≡ a = cc in k)
  whole_tuple x a _ (is_number z) d e =
      absurd (let h : whole.Atom ≡ whole.Tuple a = sym (ap whole_of d.1 ∙ number_whole m names d.0 z d.2) ∙ e in cc)
  whole_tuple x a _ (is_string c) d e = absurd (let h : whole.Atom ≡ whole.Tuple a = sym (ap whole_of d.1) ∙ e in cc)
  whole_tuple x a _ is_nil d e = absurd (let h : whole.Atom ≡ whole.Tuple a = sym (ap whole_of d) ∙ e in cc)
  whole_tuple x a _ (is_cons t u) d e = absurd (let h : whole.Pair d.0 ≡ whole.Tuple a = sym (ap whole_of d.1) ∙ e in cc)

  pub tuple_is : (l : Look) (v : terms.Look) (a : ℕ) → LookIs p m l v → ((u : Term Variable) → v ≡ solid u → Plain u)
      → whole_look l ≡ whole.Tuple a → IsTuple v a
  tuple_is (look.Solid x) (solid u) a i q e = whole_tuple x a u (q u refl) i e
  tuple_is (look.Solid x) (writable v) a i q e = absurd i
  tuple_is (look.Solid x) (read_only v) a i q e = absurd i
  tuple_is (look.Writable b) v a i q e = cc
  tuple_is (look.ReadOnly b) v a i q e = cc
