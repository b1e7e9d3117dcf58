-- Words that lead on go on to do so with more reads and more pieces, and new pieces have their forms.
use Rattle.std.proofs.Common.{◌≡◌, ℕ, zero, suc, ◌+◌, ◌<◌, ◌≤◌, Bool, true, false, cond, List, [], ◌∷◌, ◌++◌, length, refl, sym, ap, ◌∙◌}
use Rattle.std.proofs.Common.{subst, inl, inr, ⊎_elim, arith, Some, None}
use Rattle.std.specs.Prelude.{slice_get, nat_eq}
use Rattle.std.proofs.lemmas.Bool.{lt-ltb, le-ltb}
use Rattle.std.proofs.lemmas.Option.{same_Some}
use Rattle.fcp_model.specs.declared.term.ArithOp.{ArithOp}
use Rattle.fcp_model.specs.declared.term.ArithOp.TheVariants.{Add, Sub, Mul, Div, Mod}
use Rattle.heap_words.specs.Cells.{decoded, is_final_word, is_final_in}
use Rattle.heap_words.specs.Refers.{Refers, HasPart, teller, parts}
use Rattle.heap_words.specs.Trails.{WordList, word_at}
use Rattle.heap_words.specs.declared.cell.Cell.{Cell}
use Rattle.heap_words.specs.declared.cell.Cell.TheVariants.{Unbound, Ref, RoRef, Small, Wide, Str, Nil, Cons, Tuple, Status, Raw, Top}
use Rattle.word_states.specs.Words.{Among}
use Rattle.word_states.specs.Denoting.{operator_code}
use Rattle.word_states.specs.Pieces.{rows, IsPiece, AreFinal, a_pair, RefersOwn}
use Rattle.word_states.specs.Led.{IsKnown, read_at, reached, reached_by, of_process, IsLed, was_read, of_known, LeadsOn}
use Rattle.word_states.proofs.Pieces.{in_rows, rows_in}
use Rattle.trial_laws.specs.AtHand.{AtHand, term_word}
use Rattle.trial_laws.specs.NewPieces.{with_piece, HasRoom, term_words}
use Rattle.trial_laws.specs.Leading.{IsTermWord, IsLedOn, LedByMore, LedSlot, LedLeft}
use Rattle.trial_laws.proofs.Pieces.{starts_left, starts_split, end_last}
use Rattle.trial_laws.proofs.Slots.{nil_is}

pub refers_more : (ps qs : List (List ℕ)) (c : Cell) → RefersOwn ps c → RefersOwn (ps ++ qs) c
refers_more ps qs (Ref a) h = (h.0, h.1, h.2, starts_left 4000000000 ps qs _ _ h.3)
refers_more ps qs (RoRef a) h = (h.0, h.1, h.2, starts_left 4000000000 ps qs _ _ h.3)
refers_more ps qs (Cons a) h = (h.0, h.1, starts_left 4000000000 ps qs _ _ h.2, h.3, h.4)
refers_more ps qs (Tuple a) h = (h.0, h.1, h.2, starts_left 4000000000 ps qs _ _ h.3, h.4, h.5)
refers_more ps qs (Wide a k) h = (h.0, starts_left 4000000000 ps qs _ _ h.1)
refers_more ps qs (Unbound a) h = absurd h
refers_more ps qs (Small z) h = absurd h
refers_more ps qs (Str s) h = absurd h
refers_more ps qs Nil h = absurd h
refers_more ps qs (Status d) h = absurd h
refers_more ps qs (Raw n) h = absurd h
refers_more ps qs (Top a) h = absurd h

pub leads_more : (read : WordList) (ps qs : List (List ℕ)) (x : ℕ) → LeadsOn read ps x → LeadsOn read (ps ++ qs) x
leads_more read ps qs x (inl h) = inl h
leads_more read ps qs x (inr h) = inr (h.0, h.1, refers_more ps qs h.0 h.2)

-- with more reads
module _ (read read' : WordList) (more : (z : ℕ × ℕ) → Among read z → Among read' z) where
  known_more : (b : ℕ) → IsKnown read b → IsKnown read' b
  known_more b (read_at x h) = read_at x (more _ h)
  known_more b (reached a x c h d e) = reached a x c (more _ h) d e
  known_more b (reached_by a x t y n c h d e i j k) = reached_by a x t y n c (more _ h) d e (more _ i) j k
  known_more b (of_process p x d h e i j) = of_process p x d (more _ h) e i j

  led_more : (x : ℕ) → IsLed read x → IsLed read' x
  led_more x (was_read a h) = was_read a (more _ h)
  led_more x (of_known h) = of_known (λ c e. let k = h c e in (k.0, k.1, (λ b f. known_more b (k.2 b f))))

  pub read_more : (ps : List (List ℕ)) (x : ℕ) → LeadsOn read ps x → LeadsOn read' ps x
  read_more ps x (inl h) = inl (led_more x h)
  read_more ps x (inr h) = inr h

-- with no pieces and no bindings, and with the goal's arguments in the slots
pub led_left : LedLeft
led_left read r h behind waits words led terms = (
  record {
    pieces = record { each = λ a p s. absurd s; few = omega arith };
    slots = λ i. inl (led i);
    terms = terms;
    bound = λ a x e. let g : None ≡ Some x = e in cc;
    places = λ a x e. let g : None ≡ Some x = e in cc;
    own = λ a x e f. let g : None ≡ Some x = e in cc;
  },
  record {
    pieces = h.pieces;
    slots = λ i. inl (led i);
    terms = terms;
    bound = h.bound;
    places = h.places;
    own = h.own;
  },
)

pub led_by_more : LedByMore
led_by_more read r h read' more = record {
  pieces = h.pieces;
  slots = λ i. read_more read read' more r.pieces (r.slots i) (h.slots i);
  terms = h.terms;
  bound = λ a x e. read_more read read' more r.pieces x (h.bound a x e);
  places = λ a x e. let k = h.places a x e in (read_more read read' more r.pieces _ k.0, read_more read read' more r.pieces _ k.1);
  own = λ a x e f. read_more read read' more r.pieces x (h.own a x e f);
}

pub led_slot : LedSlot
led_slot read r h i x o leads term = record {
  pieces = h.pieces;
  slots = λ j. at_slot j (nat_eq j i);
  terms = λ j. of_slot j (nat_eq j i);
  bound = h.bound;
  places = h.places;
  own = h.own;
}
  where
    at_slot : (j : ℕ) (b : Bool) → LeadsOn read r.pieces (cond b x (r.slots j))
    at_slot j true = leads
    at_slot j false = h.slots j

    of_slot : (j : ℕ) (b : Bool) → IsTermWord (cond b x (r.slots j))
    of_slot j true = term
    of_slot j false = h.terms j

-- a part is referred to
part_refers : (c : Cell) (b : ℕ) → HasPart c b → Refers c b
part_refers (Ref a) b h = absurd h
part_refers (RoRef a) b h = absurd h
part_refers (Unbound a) b h = h
part_refers (Small z) b h = h
part_refers (Wide a k) b h = h
part_refers (Str s) b h = h
part_refers Nil b h = h
part_refers (Cons a) b h = h
part_refers (Tuple a) b h = h
part_refers (Status d) b h = h
part_refers (Raw n) b h = h
part_refers (Top a) b h = h

-- a word that refers to nothing
pub leads_alone : (read : WordList) (ps : List (List ℕ)) (x : ℕ) (c : Cell) → decoded x ≡ Some c → teller c ≡ None
    → ((b : ℕ) → Refers c b → ⊥) → LeadsOn read ps x
leads_alone read ps x c e t none =
    inl (of_known (λ d f. let same : c ≡ d = same_Some c d (sym e ∙ f) in (
      subst (λ (z : Cell). teller z ≡ None) same t,
      (λ b g. none b (part_refers c b (subst (λ (z : Cell). HasPart z b) (sym same) g))),
      (λ b g. absurd (none b (subst (λ (z : Cell). Refers z b) (sym same) g))),
    )))

pub nil_leads : (read : WordList) (ps : List (List ℕ)) → LeadsOn read ps 6
nil_leads read ps = leads_alone read ps 6 Nil nil_is refl (λ b h. absurd h)

pub term_of_cell : (x : ℕ) (c : Cell) → decoded x ≡ Some c → is_final_in (Some c) ≡ true → ((n : ℕ) → c ≡ Raw n → ⊥) → IsTermWord x
term_of_cell x c e f none = (ap is_final_in e ∙ f, (λ n g. none n (same_Some c (Raw n) (sym e ∙ g))))

pub nil_term : IsTermWord 6
nil_term = term_of_cell 6 Nil nil_is refl (λ n e. let h : Nil ≡ Raw n = e in cc)

-- a slot as a term
pub slot_leads : (read : WordList) (r : AtHand) → IsLedOn read r → (i : ℕ)
    → LeadsOn read r.pieces (term_word r i) × IsTermWord (term_word r i)
slot_leads read r h i = go (r.operators i)
  where
    go : (b : Bool) → LeadsOn read r.pieces (cond b 6 (r.slots i)) × IsTermWord (cond b 6 (r.slots i))
    go true = (nil_leads read r.pieces, nil_term)
    go false = (h.slots i, h.terms i)

-- one piece more
pub with_led_piece : (read : WordList) (r : AtHand) → IsLedOn read r → (p : List ℕ) → IsPiece p → HasRoom r (length p)
    → ((d x : ℕ) → slice_get p d ≡ Some x → is_final_word x ≡ true → LeadsOn read r.pieces x) → IsLedOn read (with_piece r p)
with_led_piece read r h p is room words = record {
  pieces = record {
    each = λ a q s. ⊎_elim (λ i. h.pieces.each a q i) (λ i. subst (λ (z : List ℕ). IsPiece z) (sym i.1) is)
        (starts_split 4000000000 r.pieces p a q s);
    few = subst (λ (e : ℕ). e ≤ 0x100000000) (sym (end_last 4000000000 r.pieces p)) room;
  };
  slots = λ i. leads_more read r.pieces (p ∷ []) (r.slots i) (h.slots i);
  terms = h.terms;
  bound = λ a x e. leads_more read r.pieces (p ∷ []) x (h.bound a x e);
  places = λ a x e. let k = h.places a x e in (leads_more read r.pieces (p ∷ []) _ k.0, leads_more read r.pieces (p ∷ []) _ k.1);
  own = own_one;
}
  where
    own_one : (a x : ℕ) → word_at (rows 4000000000 (r.pieces ++ p ∷ [])) a ≡ Some x → is_final_word x ≡ true
        → LeadsOn read (r.pieces ++ p ∷ []) x
    own_one a x e f =
        let q = in_rows 4000000000 a x (r.pieces ++ p ∷ []) e in
        leads_more read r.pieces (p ∷ []) x
        (⊎_elim
        (λ i. h.own (q.0 + q.1) x (rows_in 4000000000 q.0 q.1 x r.pieces q.2 i q.6) f)
        (λ i. words q.1 x (subst (λ (z : List ℕ). slice_get z q.1 ≡ Some x) i.1 q.6) f)
        (starts_split 4000000000 r.pieces p q.0 q.2 q.3))

-- a word of a cell that refers to the new piece
pub new_leads : (read : WordList) (r : AtHand) (p : List ℕ) (x : ℕ) (c : Cell) → decoded x ≡ Some c → RefersOwn (r.pieces ++ p ∷ []) c
    → LeadsOn read (r.pieces ++ p ∷ []) x
new_leads read r p x c e h = inr (c, e, h)

-- the forms of new pieces
pub pair_form : (x y : ℕ) → IsTermWord x → IsTermWord y → IsPiece (x ∷ y ∷ [])
pair_form x y h k = a_pair x y refl h.0 k.0 h.1

pub parts_few : (n : ℕ) → n < 66 → parts n ≡ n
parts_few n l = ap (λ (b : Bool). cond b n 2) (lt-ltb n 66 l)

pub parts_many : (n : ℕ) → 66 ≤ n → parts n ≡ 2
parts_many n l = ap (λ (b : Bool). cond b n 2) (le-ltb n 66 l)

pub operator_small : (o : ArithOp) → operator_code o < 5
operator_small Add = omega arith
operator_small Sub = omega arith
operator_small Mul = omega arith
operator_small Div = omega arith
operator_small Mod = omega arith

pub words_length : (r : AtHand) (i n : ℕ) → length (term_words r i n) ≡ n
words_length r i zero = refl
words_length r i (suc n) = ap suc (words_length r (suc i) n)

pub words_final : (read : WordList) (r : AtHand) → IsLedOn read r → (i n : ℕ) → AreFinal (term_words r i n)
words_final read r h i zero = tt
words_final read r h i (suc n) = ((slot_leads read r h i).1.0, words_final read r h (suc i) n)

-- the words of slots lead on
pub words_lead : (read : WordList) (r : AtHand) → IsLedOn read r → (i n d x : ℕ) → slice_get (term_words r i n) d ≡ Some x
    → LeadsOn read r.pieces x
words_lead read r h i zero d x e = let k : None ≡ Some x = e in cc
words_lead read r h i (suc n) zero x e = subst (LeadsOn read r.pieces) (same_Some _ _ e) (slot_leads read r h i).0
words_lead read r h i (suc n) (suc d) x e = words_lead read r h (suc i) n d x e
