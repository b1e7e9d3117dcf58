-- The laws of the instructions that put a new pair, tuple, operation, wide number or child.
use Rattle.std.proofs.Common.{◌≡◌, ℕ, zero, suc, ◌+◌, ◌<◌, ◌≤◌, max, Bool, true, false, cond, List, [], ◌∷◌, ◌++◌, length, refl, sym}
use Rattle.std.proofs.Common.{ap, ◌∙◌, Option, subst, ⊎_elim, arith, Some, None}
use Rattle.std.specs.Prelude.{slice_get, nat_eq, unwrap_or}
use Rattle.std.proofs.lemmas.Option.{same_Some}
use Rattle.fcp_model.specs.declared.goal.TheConstants.{TRUE_PROCEDURE, UNIFY_PROCEDURE, ASSIGN_PROCEDURE}
use Rattle.heap_words.specs.Cells.{decoded, encoded, is_final_word}
use Rattle.heap_words.specs.Refers.{parts}
use Rattle.heap_words.specs.Trails.{WordList, word_at}
use Rattle.heap_words.specs.declared.cell.Cell.{Cell}
use Rattle.heap_words.specs.declared.cell.Cell.TheVariants.{Unbound, Ref, RoRef, Small, Wide, Str, Nil, Cons, Tuple, Status, Raw, Top}
use Rattle.heap_words.specs.declared.cell.Stand.TheVariants.{Ready}
use Rattle.heap_words.proofs.Encodings.{decoded_encoded, encoded_decoded}
use Rattle.ro_unify.specs.Occurs.{count_of}
use Rattle.ro_unify.specs.Value.{leads_on}
use Rattle.ro_unify.specs.Walks.{Node, place, part, count, address, node_word, IsPlaceOf, Goes, Edge}
use Rattle.ro_unify.proofs.Seeing.{nil_goes}
use Rattle.word_states.specs.Denoting.{operator_code}
use Rattle.word_states.specs.Pieces.{is_place}
use Rattle.word_states.specs.Words.{first_of}
use Rattle.word_states.proofs.Pieces.{rows_in, rows_above, not_zero, not_place, nine_is, zero_is, raw_final}
use Rattle.machine_code.specs.Fresh.{Tops, top_of}
use Rattle.trial_laws.specs.AtHand.{AtHand, term_word}
use Rattle.trial_laws.specs.NewPieces.{next_piece, with_piece, term_words, process_piece, true_piece, unify_piece, assign_piece}
use Rattle.trial_laws.specs.NewPieces.{taken, marked_word, marked, passed_in, passed, passed_words}
use Rattle.trial_laws.specs.Leading.{IsLedOn}
use Rattle.trial_laws.proofs.Passing.{only_final_is}
use Rattle.trial_laws.proofs.Pieces.{starts_last}
use Rattle.trial_laws.proofs.LedPieces.{parts_few, parts_many, operator_small, words_length, slot_leads}
use Rattle.trial_laws.proofs.LedLaws.{led_pair, led_tuple, led_operation, led_wide, led_child}
use Rattle.safe_tries.specs.Safe.{IsSafe, seen, own_words}
use Rattle.safe_tries.specs.Puts.{SafePair, SafeTuple, SafeOperation, SafeWide, SafeChild}
use Rattle.safe_tries.proofs.Steps.{From, goes_from, goes_nowhere, end_above, seen_own}
use Rattle.safe_tries.proofs.NewPieces.{safe_piece, safe_piece_held}

module _ (kept : WordList) (r : AtHand) (τ : Tops) (q : ℕ) (s : IsSafe kept r τ q) where
  -- walks from a word lead to older ones, up to the variable k or to released ones
  abbrev pub Leads : ℕ → ℕ → Type 0
  Leads x k = (b : Node) → Goes (seen kept r) x b → (address b < next_piece r) × (s.topped.high (address b) ≤ max k q)

  from_slot : (i k : ℕ) → τ i ≤ k → Leads (r.slots i) k
  from_slot i k l b g = (s.topped.near i b g, omega (arith, s.topped.slots i b g))

  from_term : (i k : ℕ) → τ i ≤ k → Leads (term_word r i) k
  from_term i k l b g = go (r.operators i) g
    where
      go : (o : Bool) → Goes (seen kept r) (cond o 6 (r.slots i)) b → (address b < next_piece r) × (s.topped.high (address b) ≤ max k q)
      go true h = absurd (nil_goes (seen kept r) b h)
      go false h = from_slot i k l b h

  from_raw : (x n k : ℕ) → decoded x ≡ Some (Raw n) → Leads x k
  from_raw x n k e b g = absurd (goes_nowhere (seen kept r) x (Raw n) b e refl refl g)

  -- each word of these
  abbrev pub AllLead : List ℕ → ℕ → Type 0
  AllLead xs k = (d x : ℕ) → slice_get xs d ≡ Some x → Leads x k

  lead_none : (k : ℕ) → AllLead [] k
  lead_none k d x e = let f : None ≡ Some x = e in cc

  lead_more : (x k : ℕ) (xs : List ℕ) → Leads x k → AllLead xs k → AllLead (x ∷ xs) k
  lead_more x k xs h hs zero y e b g = h b (subst (λ (z : ℕ). Goes (seen kept r) z b) (sym (same_Some _ _ e)) g)
  lead_more x k xs h hs (suc d) y e b g = hs d y e b g

  lead_terms : (i n k : ℕ) → top_of τ i n ≤ k → AllLead (term_words r i n) k
  lead_terms i zero k l = lead_none k
  lead_terms i (suc n) k l =
      lead_more (term_word r i) k (term_words r (suc i) n) (from_term i k (omega (arith, l))) (lead_terms (suc i) n k (omega (arith, l)))

  -- from what a place took a walk goes on as from the place
  from_taken : (a y k : ℕ) → s.topped.high a ≤ max k q → taken r a ≡ Some y → Leads y k
  from_taken a y k l e b g =
      let edge : Edge r.binds (seen kept r) (place a) b =
      subst (λ (z : ℕ). Goes (seen kept r) z b) (sym (there (word_at r.binds a) refl found.0)) g in
      let climbs : s.topped.high (address b) ≤ max (s.topped.high a) q = s.topped.climbs (place a) b edge in
      (s.tame.within (place a) b edge, omega (arith, l, climbs))
    where
      found : (first_of (word_at r.binds a) (own_words r.pieces a) ≡ Some y) × (is_final_word y ≡ true)
      found = only_final_is (first_of (word_at r.binds a) (own_words r.pieces a)) y e

      there : (o : Option ℕ) → word_at r.binds a ≡ o → first_of (word_at r.binds a) (own_words r.pieces a) ≡ Some y
          → node_word r.binds (seen kept r) (place a) ≡ y
      there (Some z) i f =
          let same : Some z ≡ Some y = sym (ap (λ (o : Option ℕ). first_of o (own_words r.pieces a)) i) ∙ f in
          ap (λ (o : Option ℕ). unwrap_or o (seen kept r a)) (i ∙ same)
      there None i f =
          let own : own_words r.pieces a ≡ Some y = sym (ap (λ (o : Option ℕ). first_of o (own_words r.pieces a)) i) ∙ f in
          ap (λ (o : Option ℕ). unwrap_or o (seen kept r a)) i
          ∙ ap (λ (o : Option ℕ). unwrap_or o 6)
          (seen_own kept r.pieces s.below a (rows_above 4000000000 a y r.pieces own) ∙ own)

  -- and a mark changes nothing of it
  from_marked : (y k : ℕ) → Leads y k → Leads (marked_word y (decoded y)) k
  from_marked y k h = go (decoded y) refl
    where
      read_only : (c : ℕ) → decoded y ≡ Some (Ref c) → decoded (encoded (RoRef c)) ≡ Some (RoRef c)
      read_only c e = decoded_encoded (RoRef c) (encoded_decoded y (Ref c) e).0

      behind : (c : ℕ) → decoded y ≡ Some (Ref c) → (b : Node) → From (seen kept r) (Some (RoRef c)) b → Goes (seen kept r) y b
      behind c e (place d) g = subst (λ (o : Option Cell). IsPlaceOf (leads_on false o) d) (sym e) g
      behind c e (part d) g = absurd g
      behind c e (count d) g = absurd g

      go : (o : Option Cell) → decoded y ≡ o → Leads (marked_word y o) k
      go (Some (Ref c)) e =
          λ b g. h b (behind c e b (goes_from (seen kept r) (encoded (RoRef c)) (RoRef c) b (read_only c e) g))
      go None e = h
      go (Some (Unbound c)) e = h
      go (Some (RoRef c)) e = h
      go (Some (Small z)) e = h
      go (Some (Wide c z)) e = h
      go (Some (Str n)) e = h
      go (Some Nil) e = h
      go (Some (Cons c)) e = h
      go (Some (Tuple c)) e = h
      go (Some (Status d)) e = h
      go (Some (Raw n)) e = h
      go (Some (Top n)) e = h

  from_passed : (x k : ℕ) → Leads x k → Leads (passed r x) k
  from_passed x k h = go (decoded x) refl
    where
      at_place : (a : ℕ) (c : Cell) → decoded x ≡ Some c → IsPlaceOf (leads_on false (Some c)) a → s.topped.high a ≤ max k q
      at_place a c e l = (h (place a) (subst (λ (o : Option Cell). IsPlaceOf (leads_on false o) a) (sym e) l)).1

      plain : (a : ℕ) (o : Option ℕ) → s.topped.high a ≤ max k q → taken r a ≡ o → Leads (unwrap_or o x) k
      plain a None l e = h
      plain a (Some y) l e = from_taken a y k l e

      read_only : (a : ℕ) (o : Option ℕ) → s.topped.high a ≤ max k q → taken r a ≡ o → Leads (marked x o) k
      read_only a None l e = h
      read_only a (Some y) l e = from_marked y k (from_taken a y k l e)

      go : (o : Option Cell) → decoded x ≡ o → Leads (passed_in (taken r) x o) k
      go (Some (Ref a)) e = plain a (taken r a) (at_place a (Ref a) e refl) refl
      go (Some (RoRef a)) e = read_only a (taken r a) (at_place a (RoRef a) e refl) refl
      go None e = h
      go (Some (Unbound c)) e = h
      go (Some (Small z)) e = h
      go (Some (Wide c z)) e = h
      go (Some (Str n)) e = h
      go (Some Nil) e = h
      go (Some (Cons c)) e = h
      go (Some (Tuple c)) e = h
      go (Some (Status d)) e = h
      go (Some (Raw n)) e = h
      go (Some (Top n)) e = h

  -- so each word that a child takes for a slot's
  lead_passed : (i n k : ℕ) → top_of τ i n ≤ k → AllLead (passed_words r i n) k
  lead_passed i zero k l = lead_none k
  lead_passed i (suc n) k l =
      lead_more (passed r (term_word r i)) k (passed_words r (suc i) n)
      (from_passed (term_word r i) k (from_term i k (omega (arith, l)))) (lead_passed (suc i) n k (omega (arith, l)))

  -- the first word of a new piece
  first_word : (x : ℕ) (xs : List ℕ) → seen kept (with_piece r (x ∷ xs)) (next_piece r) ≡ x
  first_word x xs =
      ap (λ (o : Option ℕ). unwrap_or o 6)
      (seen_own kept (r.pieces ++ (x ∷ xs) ∷ []) s.below (next_piece r) (end_above 4000000000 r.pieces) ∙ here)
    where
      here : own_words (r.pieces ++ (x ∷ xs) ∷ []) (next_piece r) ≡ Some x
      here =
          subst (λ (a : ℕ). own_words (r.pieces ++ (x ∷ xs) ∷ []) a ≡ Some x) (let e : next_piece r + 0 ≡ next_piece r = omega arith in e)
          (rows_in 4000000000 (next_piece r) 0 x (r.pieces ++ (x ∷ xs) ∷ []) (x ∷ xs) (starts_last 4000000000 r.pieces (x ∷ xs)) refl)

  -- a pair goes on to its piece
  from_pair : (x y : ℕ) (b : Node) → next_piece r < 0x100000000
      → Goes (seen kept (with_piece r (x ∷ y ∷ []))) (encoded (Cons (next_piece r))) b
      → (next_piece r ≤ address b) × (address b < next_piece r + 2)
  from_pair x y b l g =
      go b (goes_from (seen kept (with_piece r (x ∷ y ∷ []))) (encoded (Cons (next_piece r))) (Cons (next_piece r)) b
      (decoded_encoded (Cons (next_piece r)) l) g)
    where
      go : (b : Node) → From (seen kept (with_piece r (x ∷ y ∷ []))) (Some (Cons (next_piece r))) b
          → (next_piece r ≤ address b) × (address b < next_piece r + 2)
      go (place c) h = absurd h
      go (part c) h = ⊎_elim (λ e. (omega (arith, e), omega (arith, e))) (λ e. (omega (arith, e), omega (arith, e))) h
      go (count c) h = absurd h

  -- and a tuple to its
  from_tuple : (x n : ℕ) (xs : List ℕ) (b : Node) → next_piece r < 0x100000000 → decoded x ≡ Some (Raw n) → length xs ≡ parts n
      → Goes (seen kept (with_piece r (x ∷ xs))) (encoded (Tuple (next_piece r))) b
      → (next_piece r ≤ address b) × (address b < next_piece r + suc (length xs))
  from_tuple x n xs b l is size g =
      go b (goes_from (seen kept (with_piece r (x ∷ xs))) (encoded (Tuple (next_piece r))) (Tuple (next_piece r)) b
      (decoded_encoded (Tuple (next_piece r)) l) g)
    where
      number : count_of (decoded (seen kept (with_piece r (x ∷ xs)) (next_piece r))) ≡ length xs
      number = ap (λ (z : ℕ). count_of (decoded z)) (first_word x xs) ∙ (ap count_of is ∙ sym size)

      go : (b : Node) → From (seen kept (with_piece r (x ∷ xs))) (Some (Tuple (next_piece r))) b
          → (next_piece r ≤ address b) × (address b < next_piece r + suc (length xs))
      go (place c) h = absurd h
      go (part c) h = (omega (arith, h.0), omega (arith, h.1, number))
      go (count c) h = (omega (arith, h), omega (arith, h))

pub safe_pair : SafePair
safe_pair kept r τ q s i left right room =
    safe_piece_held kept r τ q s (term_word r left ∷ term_word r right ∷ []) (max (τ left) (τ right)) no_place words i
    (encoded (Cons (next_piece r))) false (led_pair kept r s.led i left right room)
    (λ b g. from_pair kept r τ q s (term_word r left) (term_word r right) b (omega (arith, room)) g)
  where
    no_place : is_place (term_word r left ∷ term_word r right ∷ []) ≡ false
    no_place = not_place (term_word r left) (term_word r right ∷ []) (not_zero (term_word r left) (slot_leads kept r s.led left).1.0)

    words : AllLead kept r τ q s (term_word r left ∷ term_word r right ∷ []) (max (τ left) (τ right))
    words =
        lead_more kept r τ q s (term_word r left) (max (τ left) (τ right)) (term_word r right ∷ [])
        (from_term kept r τ q s left (max (τ left) (τ right)) (omega arith))
        (lead_more kept r τ q s (term_word r right) (max (τ left) (τ right)) []
        (from_term kept r τ q s right (max (τ left) (τ right)) (omega arith)) (lead_none kept r τ q s (max (τ left) (τ right))))

pub safe_wide : SafeWide
safe_wide kept r τ q s i x h low is upper room =
    safe_piece_held kept r τ q s (x ∷ []) 0 refl words i (encoded (Wide (next_piece r) h)) false
    (led_wide kept r s.led i x h low is upper room)
    (λ b g. absurd (goes_nowhere (seen kept (with_piece r (x ∷ []))) (encoded (Wide (next_piece r) h)) (Wide (next_piece r) h) b
    (decoded_encoded (Wide (next_piece r) h) ((omega (arith, room)), upper)) refl refl g))
  where
    words : AllLead kept r τ q s (x ∷ []) 0
    words =
        lead_more kept r τ q s x 0 [] (λ b g. absurd (goes_nowhere (seen kept r) x (Small low) b is refl refl g))
        (lead_none kept r τ q s 0)

pub safe_tuple : SafeTuple
safe_tuple kept r τ q s i from n few room =
    safe_piece_held kept r τ q s (encoded (Raw n) ∷ term_words r from n) (top_of τ from n) no_place words i
    (encoded (Tuple (next_piece r))) false (led_tuple kept r s.led i from n few room)
    (λ b g. from_tuple kept r τ q s (encoded (Raw n)) n (term_words r from n) b (omega (arith, room)) is
    (words_length r from n ∙ sym (parts_few n few)) g)
  where
    is : decoded (encoded (Raw n)) ≡ Some (Raw n)
    is = decoded_encoded (Raw n) (omega (arith, few))

    no_place : is_place (encoded (Raw n) ∷ term_words r from n) ≡ false
    no_place = not_place (encoded (Raw n)) (term_words r from n) (not_zero (encoded (Raw n)) (raw_final (encoded (Raw n)) n is))

    words : AllLead kept r τ q s (encoded (Raw n) ∷ term_words r from n) (top_of τ from n)
    words =
        lead_more kept r τ q s (encoded (Raw n)) (top_of τ from n) (term_words r from n)
        (from_raw kept r τ q s (encoded (Raw n)) n (top_of τ from n) is) (lead_terms kept r τ q s from n (top_of τ from n) (omega arith))

pub safe_operation : SafeOperation
safe_operation kept r τ q s i from o room =
    safe_piece_held kept r τ q s (encoded (Raw (66 + operator_code o)) ∷ r.slots from ∷ r.slots (suc from) ∷ []) (top_of τ from 2) refl
    words i (encoded (Tuple (next_piece r))) true (led_operation kept r s.led i from o room)
    (λ b g. from_tuple kept r τ q s (encoded (Raw (66 + operator_code o))) (66 + operator_code o) (r.slots from ∷ r.slots (suc from) ∷ []) b
    (omega (arith, room)) is (sym (parts_many (66 + operator_code o) (omega arith))) g)
  where
    is : decoded (encoded (Raw (66 + operator_code o))) ≡ Some (Raw (66 + operator_code o))
    is = decoded_encoded (Raw (66 + operator_code o)) (omega (arith, operator_small o))

    words : AllLead kept r τ q s (encoded (Raw (66 + operator_code o)) ∷ r.slots from ∷ r.slots (suc from) ∷ []) (top_of τ from 2)
    words =
        lead_more kept r τ q s (encoded (Raw (66 + operator_code o))) (top_of τ from 2) (r.slots from ∷ r.slots (suc from) ∷ [])
        (from_raw kept r τ q s (encoded (Raw (66 + operator_code o))) (66 + operator_code o) (top_of τ from 2) is)
        (lead_more kept r τ q s (r.slots from) (top_of τ from 2) (r.slots (suc from) ∷ [])
        (from_slot kept r τ q s from (top_of τ from 2) (omega arith))
        (lead_more kept r τ q s (r.slots (suc from)) (top_of τ from 2) []
        (from_slot kept r τ q s (suc from) (top_of τ from 2) (omega arith)) (lead_none kept r τ q s (top_of τ from 2))))

-- a process with arguments from slots
safe_process : (kept : WordList) (r : AtHand) (τ : Tops) (q : ℕ) (s : IsSafe kept r τ q) (f k : ℕ) (xs : List ℕ) → f < 0x100000000
    → length xs < 0x100000000 → AllLead kept r τ q s xs k → IsLedOn kept (with_piece r (process_piece f xs))
    → IsSafe kept (with_piece r (process_piece f xs)) τ q
safe_process kept r τ q s f k xs lf lx words led =
    safe_piece kept r τ q s (process_piece f xs) k refl
    (lead_more kept r τ q s 9 k (0 ∷ encoded (Raw f) ∷ encoded (Raw (length xs)) ∷ xs)
    (λ b g. absurd (goes_nowhere (seen kept r) 9 (Status Ready) b nine_is refl refl g))
    (lead_more kept r τ q s 0 k (encoded (Raw f) ∷ encoded (Raw (length xs)) ∷ xs)
    (λ b g. absurd (goes_nowhere (seen kept r) 0 (Unbound 0) b zero_is refl refl g))
    (lead_more kept r τ q s (encoded (Raw f)) k (encoded (Raw (length xs)) ∷ xs)
    (from_raw kept r τ q s (encoded (Raw f)) f k (decoded_encoded (Raw f) lf))
    (lead_more kept r τ q s (encoded (Raw (length xs))) k xs
    (from_raw kept r τ q s (encoded (Raw (length xs))) (length xs) k (decoded_encoded (Raw (length xs)) lx)) words))))
    led

passed_length : (r : AtHand) (i n : ℕ) → length (passed_words r i n) ≡ n
passed_length r i zero = refl
passed_length r i (suc n) = ap suc (passed_length r (suc i) n)

pub safe_child : SafeChild
safe_child kept r τ q s p i n l few room =
    go (nat_eq p TRUE_PROCEDURE) (nat_eq p UNIFY_PROCEDURE) (nat_eq p ASSIGN_PROCEDURE) (led_child kept r s.led p i n l few room)
  where
    truth : IsLedOn kept (with_piece r true_piece) → IsSafe kept (with_piece r true_piece) τ q
    truth led = safe_process kept r τ q s TRUE_PROCEDURE 0 [] (omega arith) (omega arith) (lead_none kept r τ q s 0) led

    equals : (n : ℕ) → IsLedOn kept (with_piece r (unify_piece r i n)) → IsSafe kept (with_piece r (unify_piece r i n)) τ q
    equals zero led = truth led
    equals (suc zero) led = truth led
    equals (suc (suc n)) led =
        safe_process kept r τ q s UNIFY_PROCEDURE (top_of τ i 2) (passed_words r i 2) (omega arith) (omega arith)
        (lead_passed kept r τ q s i 2 (top_of τ i 2) (omega arith)) led

    assigns : (n : ℕ) → IsLedOn kept (with_piece r (assign_piece r i n)) → IsSafe kept (with_piece r (assign_piece r i n)) τ q
    assigns zero led = truth led
    assigns (suc zero) led = truth led
    assigns (suc (suc n)) led =
        safe_process kept r τ q s ASSIGN_PROCEDURE (top_of τ i 2) (passed r (term_word r i) ∷ passed r (r.slots (suc i)) ∷ [])
        (omega arith) (omega arith)
        (lead_more kept r τ q s (passed r (term_word r i)) (top_of τ i 2) (passed r (r.slots (suc i)) ∷ [])
        (from_passed kept r τ q s (term_word r i) (top_of τ i 2) (from_term kept r τ q s i (top_of τ i 2) (omega arith)))
        (lead_more kept r τ q s (passed r (r.slots (suc i))) (top_of τ i 2) []
        (from_passed kept r τ q s (r.slots (suc i)) (top_of τ i 2) (from_slot kept r τ q s (suc i) (top_of τ i 2) (omega arith)))
        (lead_none kept r τ q s (top_of τ i 2)))) led

    user : IsLedOn kept (with_piece r (process_piece p (passed_words r i n)))
        → IsSafe kept (with_piece r (process_piece p (passed_words r i n))) τ q
    user led =
        safe_process kept r τ q s p (top_of τ i n) (passed_words r i n) (omega arith)
        (subst (λ (k : ℕ). k < 0x100000000) (sym (passed_length r i n)) few) (lead_passed kept r τ q s i n (top_of τ i n) (omega arith)) led

    go : (a b c : Bool)
        → IsLedOn kept (with_piece r
        (cond a true_piece (cond b (unify_piece r i n) (cond c (assign_piece r i n) (process_piece p (passed_words r i n))))))
        → IsSafe kept (with_piece r
        (cond a true_piece (cond b (unify_piece r i n) (cond c (assign_piece r i n) (process_piece p (passed_words r i n)))))) τ q
    go true b c led = truth led
    go false true c led = equals n led
    go false false true led = assigns n led
    go false false false led = user led
