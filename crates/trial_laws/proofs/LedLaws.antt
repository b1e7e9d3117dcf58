-- What each instruction leaves at hand leads on.
use Rattle.std.proofs.Common.{◌≡◌, ℕ, zero, suc, ◌+◌, ◌<◌, ◌≤◌, Bool, true, false, cond, List, [], ◌∷◌, length, refl, sym, ap, ◌∙◌}
use Rattle.std.proofs.Common.{subst, inl, inr, ⊎_elim, arith, true≢false, Some, None}
use Rattle.std.specs.Prelude.{slice_get, nat_eq}
use Rattle.std.proofs.lemmas.Option.{same_Some}
use Rattle.fcp_model.specs.declared.goal.TheConstants.{TRUE_PROCEDURE, UNIFY_PROCEDURE, ASSIGN_PROCEDURE}
use Rattle.fcp_model.specs.Places.{own}
use Rattle.heap_words.specs.Cells.{decoded, encoded, is_final_word, is_final_in}
use Rattle.heap_words.specs.Refers.{parts}
use Rattle.heap_words.specs.Trails.{WordList, word_at}
use Rattle.heap_words.specs.declared.cell.Cell.{Cell}
use Rattle.heap_words.specs.declared.cell.Cell.TheVariants.{Unbound, Ref, RoRef, Small, Wide, Str, Nil, Cons, Tuple, Status, Raw, Top}
use Rattle.heap_words.proofs.Encodings.{decoded_encoded}
use Rattle.word_states.specs.Denoting.{operator_code}
use Rattle.word_states.specs.Pieces.{rows, StartsAt, IsPiece, AreFinal, a_place, a_tuple, a_wide, a_process, RefersOwn}
use Rattle.word_states.specs.Led.{LeadsOn}
use Rattle.word_states.proofs.Lists.{nat_same}
use Rattle.word_states.proofs.Pieces.{in_rows, rows_in, nine_is, zero_is}
use Rattle.trial_laws.specs.AtHand.{AtHand, term_word}
use Rattle.trial_laws.specs.Laws.{holding, IsFilled, places_for}
use Rattle.trial_laws.specs.NewPieces.{next_piece, with_piece, HasRoom, term_words, process_piece, true_piece, unify_piece, assign_piece}
use Rattle.trial_laws.specs.NewPieces.{passed, passed_words}
use Rattle.trial_laws.proofs.LedPassing.{led_passed}
use Rattle.trial_laws.specs.Leading.{IsLedOn, LedVariable, LedPair, LedTuple, LedOperation, LedWide, LedChild, LedFirst, LedTry}
use Rattle.trial_laws.proofs.Pieces.{starts_last, starts_once, not_empty}
use Rattle.trial_laws.proofs.Slots.{own_place}
use Rattle.trial_laws.proofs.TryLaws.{place_only, end_places}
use Rattle.trial_laws.proofs.LedPieces.{led_slot, slot_leads, with_led_piece, new_leads, leads_alone, term_of_cell, pair_form}
use Rattle.trial_laws.proofs.LedPieces.{parts_few, parts_many, operator_small, words_length, words_final, words_lead}

pub led_variable : LedVariable
led_variable read r h i k a l =
    let p = own_place r.pieces h.pieces (own k) a l in
    let at : (s x : ℕ) × (a ≡ suc s) × StartsAt 4000000000 r.pieces s (0 ∷ x ∷ []) = (p.1, p.2, p.4, p.5) in (
      led_slot read r h i (encoded (Ref a)) false (inr (Ref a, decoded_encoded (Ref a) p.6, at))
          (term_of_cell _ (Ref a) (decoded_encoded (Ref a) p.6) refl (λ n e. let g : Ref a ≡ Raw n = e in cc)),
      led_slot read r h i (encoded (RoRef a)) false (inr (RoRef a, decoded_encoded (RoRef a) p.6, at))
          (term_of_cell _ (RoRef a) (decoded_encoded (RoRef a) p.6) refl (λ n e. let g : RoRef a ≡ Raw n = e in cc)),
    )

pub led_pair : LedPair
led_pair read r h i left right room =
    let x = slot_leads read r h left in
    let y = slot_leads read r h right in
    let here : decoded (encoded (Cons (next_piece r)))
    ≡ Some (Cons (next_piece r)) = decoded_encoded (Cons (next_piece r)) (omega (arith, room)) in
    led_slot read (with_piece r (term_word r left ∷ term_word r right ∷ []))
    (with_led_piece read r h (term_word r left ∷ term_word r right ∷ [])
    (pair_form (term_word r left) (term_word r right) x.1 y.1) room words)
    i (encoded (Cons (next_piece r))) false
    (new_leads read r (term_word r left ∷ term_word r right ∷ []) (encoded (Cons (next_piece r))) (Cons (next_piece r)) here
    (term_word r left, term_word r right, starts_last 4000000000 r.pieces (term_word r left ∷ term_word r right ∷ []), x.1.0, x.1.1))
    (term_of_cell _ (Cons (next_piece r)) here refl (λ n e. let g : Cons (next_piece r) ≡ Raw n = e in cc))
  where
    words : (d z : ℕ) → slice_get (term_word r left ∷ term_word r right ∷ []) d ≡ Some z → is_final_word z ≡ true → LeadsOn read r.pieces z
    words zero z e f = subst (LeadsOn read r.pieces) (same_Some _ _ e) (slot_leads read r h left).0
    words (suc zero) z e f = subst (LeadsOn read r.pieces) (same_Some _ _ e) (slot_leads read r h right).0
    words (suc (suc d)) z e f = let g : None ≡ Some z = e in cc

raw_leads : (read : WordList) (ps : List (List ℕ)) (x n : ℕ) → decoded x ≡ Some (Raw n) → LeadsOn read ps x
raw_leads read ps x n e = leads_alone read ps x (Raw n) e refl (λ b g. absurd g)

-- a tuple or an operation after the others
led_parts : (read : WordList) (r : AtHand) → IsLedOn read r → (i k n : ℕ) (xs : List ℕ) (o : Bool)
    → decoded k ≡ Some (Raw n) → IsPiece (k ∷ xs) → length xs ≡ parts n → HasRoom r (suc (length xs))
    → ((d z : ℕ) → slice_get xs d ≡ Some z → LeadsOn read r.pieces z)
    → IsLedOn read (holding (with_piece r (k ∷ xs)) i (encoded (Tuple (next_piece r))) o)
led_parts read r h i k n xs o is form size room words =
    let here : decoded (encoded (Tuple (next_piece r))) ≡ Some (Tuple (next_piece r)) =
    decoded_encoded (Tuple (next_piece r)) (omega (arith, room)) in
    led_slot read (with_piece r (k ∷ xs)) (with_led_piece read r h (k ∷ xs) form room all) i (encoded (Tuple (next_piece r))) o
    (new_leads read r (k ∷ xs) (encoded (Tuple (next_piece r))) (Tuple (next_piece r)) here
    (k, n, xs, starts_last 4000000000 r.pieces (k ∷ xs), is, size))
    (term_of_cell _ (Tuple (next_piece r)) here refl (λ m e. let g : Tuple (next_piece r) ≡ Raw m = e in cc))
  where
    all : (d z : ℕ) → slice_get (k ∷ xs) d ≡ Some z → is_final_word z ≡ true → LeadsOn read r.pieces z
    all zero z e f = subst (LeadsOn read r.pieces) (same_Some _ _ e) (raw_leads read r.pieces k n is)
    all (suc d) z e f = words d z e

pub led_tuple : LedTuple
led_tuple read r h i from n few room =
    let is : decoded (encoded (Raw n)) ≡ Some (Raw n) = decoded_encoded (Raw n) (omega (arith, few)) in
    let size = words_length r from n ∙ sym (parts_few n few) in
    led_parts read r h i (encoded (Raw n)) n (term_words r from n) false is
    (a_tuple (encoded (Raw n)) n (term_words r from n) refl is size (words_final read r h from n)) size
    (subst (λ (m : ℕ). HasRoom r (suc m)) (sym (words_length r from n)) room) (words_lead read r h from n)

pub led_operation : LedOperation
led_operation read r h i from o room =
    let small = operator_small o in
    let is : decoded (encoded (Raw (66 + operator_code o))) ≡ Some (Raw (66 + operator_code o)) =
    decoded_encoded (Raw (66 + operator_code o)) (omega (arith, small)) in
    let size = sym (parts_many (66 + operator_code o) (omega arith)) in
    led_parts read r h i (encoded (Raw (66 + operator_code o))) (66 + operator_code o) (r.slots from ∷ r.slots (suc from) ∷ []) true is
    (a_tuple (encoded (Raw (66 + operator_code o))) (66 + operator_code o) (r.slots from ∷ r.slots (suc from) ∷ []) refl is size
    ((h.terms from).0, ((h.terms (suc from)).0, tt))) size room words
  where
    words : (d z : ℕ) → slice_get (r.slots from ∷ r.slots (suc from) ∷ []) d ≡ Some z → LeadsOn read r.pieces z
    words zero z e = subst (LeadsOn read r.pieces) (same_Some _ _ e) (h.slots from)
    words (suc zero) z e = subst (LeadsOn read r.pieces) (same_Some _ _ e) (h.slots (suc from))
    words (suc (suc d)) z e = let g : None ≡ Some z = e in cc

pub led_wide : LedWide
led_wide read r h i x k low is upper room =
    let here : decoded (encoded (Wide (next_piece r) k)) ≡ Some (Wide (next_piece r) k) =
    decoded_encoded (Wide (next_piece r) k) ((omega (arith, room)), upper) in
    led_slot read (with_piece r (x ∷ [])) (with_led_piece read r h (x ∷ []) (a_wide x low refl is) room words) i
    (encoded (Wide (next_piece r) k)) false
    (new_leads read r (x ∷ []) (encoded (Wide (next_piece r) k)) (Wide (next_piece r) k) here (x, starts_last 4000000000 r.pieces (x ∷ [])))
    (term_of_cell _ (Wide (next_piece r) k) here refl (λ m e. let g : Wide (next_piece r) k ≡ Raw m = e in cc))
  where
    words : (d z : ℕ) → slice_get (x ∷ []) d ≡ Some z → is_final_word z ≡ true → LeadsOn read r.pieces z
    words zero z e f =
        subst (LeadsOn read r.pieces) (same_Some _ _ e) (leads_alone read r.pieces x (Small low) is refl (λ b g. absurd g))
    words (suc d) z e f = let g : None ≡ Some z = e in cc

-- a process after the others
led_process : (read : WordList) (r : AtHand) → IsLedOn read r → (f : ℕ) (xs : List ℕ) → f < 0x100000000 → length xs < 0x100000000
    → AreFinal xs → HasRoom r (length (process_piece f xs)) → ((d z : ℕ) → slice_get xs d ≡ Some z → LeadsOn read r.pieces z)
    → IsLedOn read (with_piece r (process_piece f xs))
led_process read r h f xs lf lx final room words =
    with_led_piece read r h (process_piece f xs)
    (a_process (encoded (Raw f)) f (encoded (Raw (length xs))) (length xs) xs refl (decoded_encoded (Raw f) lf)
    (decoded_encoded (Raw (length xs)) lx) refl final) room all
  where
    all : (d z : ℕ) → slice_get (process_piece f xs) d ≡ Some z → is_final_word z ≡ true → LeadsOn read r.pieces z
    all zero z e g = absurd (true≢false (sym g ∙ (ap is_final_word (sym (same_Some _ _ e)) ∙ ap is_final_in nine_is)))
    all (suc zero) z e g = absurd (true≢false (sym g ∙ (ap is_final_word (sym (same_Some _ _ e)) ∙ ap is_final_in zero_is)))
    all (suc (suc zero)) z e g =
        subst (LeadsOn read r.pieces) (same_Some _ _ e) (raw_leads read r.pieces (encoded (Raw f)) f (decoded_encoded (Raw f) lf))
    all (suc (suc (suc zero))) z e g =
        subst (LeadsOn read r.pieces) (same_Some _ _ e)
        (raw_leads read r.pieces (encoded (Raw (length xs))) (length xs) (decoded_encoded (Raw (length xs)) lx))
    all (suc (suc (suc (suc d)))) z e g = words d z e

pub led_child : LedChild
led_child read r h p i n l few room = go (nat_eq p TRUE_PROCEDURE) (nat_eq p UNIFY_PROCEDURE) (nat_eq p ASSIGN_PROCEDURE) room
  where
    truth : HasRoom r (length true_piece) → IsLedOn read (with_piece r true_piece)
    truth m = led_process read r h TRUE_PROCEDURE [] (omega arith) (omega arith) tt m (λ d z e. let g : None ≡ Some z = e in cc)

    two : (x y : ℕ) → LeadsOn read r.pieces x → LeadsOn read r.pieces y → (d z : ℕ) → slice_get (x ∷ y ∷ []) d ≡ Some z
        → LeadsOn read r.pieces z
    two x y u v zero z e = subst (LeadsOn read r.pieces) (same_Some _ _ e) u
    two x y u v (suc zero) z e = subst (LeadsOn read r.pieces) (same_Some _ _ e) v
    two x y u v (suc (suc d)) z e = let g : None ≡ Some z = e in cc

    passes : (j : ℕ) → LeadsOn read r.pieces (passed r (term_word r j)) × (is_final_word (passed r (term_word r j)) ≡ true)
    passes j = let x = slot_leads read r h j in led_passed read r h (term_word r j) x.0 x.1.0

    equals : (n : ℕ) → HasRoom r (length (unify_piece r i n)) → IsLedOn read (with_piece r (unify_piece r i n))
    equals zero m = truth m
    equals (suc zero) m = truth m
    equals (suc (suc n)) m =
        let x = passes i in
        let y = passes (suc i) in
        led_process read r h UNIFY_PROCEDURE (passed r (term_word r i) ∷ passed r (term_word r (suc i)) ∷ []) (omega arith) (omega arith)
        (x.1, (y.1, tt)) m (two (passed r (term_word r i)) (passed r (term_word r (suc i))) x.0 y.0)

    assigns : (n : ℕ) → HasRoom r (length (assign_piece r i n)) → IsLedOn read (with_piece r (assign_piece r i n))
    assigns zero m = truth m
    assigns (suc zero) m = truth m
    assigns (suc (suc n)) m =
        let x = passes i in
        let y = led_passed read r h (r.slots (suc i)) (h.slots (suc i)) (h.terms (suc i)).0 in
        led_process read r h ASSIGN_PROCEDURE (passed r (term_word r i) ∷ passed r (r.slots (suc i)) ∷ []) (omega arith) (omega arith)
        (x.1, (y.1, tt)) m (two (passed r (term_word r i)) (passed r (r.slots (suc i))) x.0 y.0)

    count : (j k : ℕ) → length (passed_words r j k) ≡ k
    count j zero = refl
    count j (suc k) = ap suc (count (suc j) k)

    all_final : (j k : ℕ) → AreFinal (passed_words r j k)
    all_final j zero = tt
    all_final j (suc k) = ((passes j).1, all_final (suc j) k)

    all_lead : (j k d z : ℕ) → slice_get (passed_words r j k) d ≡ Some z → LeadsOn read r.pieces z
    all_lead j zero d z e = let g : None ≡ Some z = e in cc
    all_lead j (suc k) zero z e = subst (LeadsOn read r.pieces) (same_Some _ _ e) (passes j).0
    all_lead j (suc k) (suc d) z e = all_lead (suc j) k d z e

    user : HasRoom r (length (process_piece p (passed_words r i n))) → IsLedOn read (with_piece r (process_piece p (passed_words r i n)))
    user m =
        led_process read r h p (passed_words r i n) (omega arith) (subst (λ (k : ℕ). k < 0x100000000) (sym (count i n)) few)
        (all_final i n) m (all_lead i n)

    go : (a b c : Bool)
        → HasRoom r (length
        (cond a true_piece (cond b (unify_piece r i n) (cond c (assign_piece r i n) (process_piece p (passed_words r i n))))))
        → IsLedOn read (with_piece r
        (cond a true_piece (cond b (unify_piece r i n) (cond c (assign_piece r i n) (process_piece p (passed_words r i n))))))
    go true b c m = truth m
    go false true c m = equals n m
    go false false true m = assigns n m
    go false false false m = user m

-- the own place after s takes a word
module _ (read : WordList) (r : AtHand) (h : IsLedOn read r) (i s : ℕ) (ps : List (List ℕ)) (f : IsFilled s
    (term_word r i) r.pieces ps) where
  abbrev x : ℕ
  x = term_word r i

  only : (p : List ℕ) → StartsAt 4000000000 r.pieces s p → p ≡ 0 ∷ 0 ∷ []
  only p k = starts_once 4000000000 r.pieces s p (0 ∷ 0 ∷ []) (not_empty p (h.pieces.each s p k)) (omega arith) k f.was

  apart : (a : ℕ) (p : List ℕ) → StartsAt 4000000000 r.pieces a p → (p ≡ 0 ∷ 0 ∷ [] → ⊥) → a ≡ s → ⊥
  apart a p k n e = n (only p (subst (λ (z : ℕ). StartsAt 4000000000 r.pieces z p) e k))

  to_place : (a : ℕ) → (q y : ℕ) × (a ≡ suc q) × StartsAt 4000000000 r.pieces q (0 ∷ y ∷ [])
      → (q y : ℕ) × (a ≡ suc q) × StartsAt 4000000000 ps q (0 ∷ y ∷ [])
  to_place a k =
      ⊎_elim (λ e. (s, x, k.2 ∙ ap suc e, f.now)) (λ e. (k.0, k.1, k.2, f.others k.0 _ e k.3)) (nat_same k.0 s)

  zero_final : is_final_word 0 ≡ true → ⊥
  zero_final g = true≢false (sym g ∙ ap is_final_in zero_is)

  refers_on : (c : Cell) → RefersOwn r.pieces c → RefersOwn ps c
  refers_on (Ref a) k = to_place a k
  refers_on (RoRef a) k = to_place a k
  refers_on (Cons a) k = (
    k.0,
    k.1,
    f.others a _ (apart a _ k.2 (λ e. let z : k.0 ≡ 0 = cc in zero_final (subst (λ (y : ℕ). is_final_word y ≡ true) z k.3))) k.2,
    k.3,
    k.4,
  )
  refers_on (Tuple a) k = (
    k.0,
    k.1,
    k.2,
    f.others a _ (apart a _ k.3 (λ e. let z : k.0 ≡ 0 = cc in
        let d : Some (Raw k.1) ≡ Some (Unbound 0) = sym k.4 ∙ (ap decoded z ∙ zero_is) in cc)) k.3,
    k.4,
    k.5,
  )
  refers_on (Wide a m) k = (k.0, f.others a _ (apart a _ k.1 (λ e. let l : 1 ≡ 2 = ap length e in omega arith)) k.1)
  refers_on (Unbound a) k = absurd k
  refers_on (Small z) k = absurd k
  refers_on (Str n) k = absurd k
  refers_on Nil k = absurd k
  refers_on (Status d) k = absurd k
  refers_on (Raw n) k = absurd k
  refers_on (Top a) k = absurd k

  leads_on : (y : ℕ) → LeadsOn read r.pieces y → LeadsOn read ps y
  leads_on y (inl k) = inl k
  leads_on y (inr k) = inr (k.0, k.1, refers_on k.0 k.2)

  pub first_led : IsLedOn read (record r { pieces = ps })
  first_led = record {
    pieces = record { each = each; few = subst (λ (e : ℕ). e ≤ 0x100000000) (sym f.same_end) h.pieces.few };
    slots = λ j. leads_on (r.slots j) (h.slots j);
    terms = h.terms;
    bound = λ a y e. leads_on y (h.bound a y e);
    places = λ a y e. let k = h.places a y e in (leads_on _ k.0, leads_on _ k.1);
    own = own_one;
  }
    where
      each : (a : ℕ) (p : List ℕ) → StartsAt 4000000000 ps a p → IsPiece p
      each a p k = ⊎_elim here (λ e. h.pieces.each a p (f.back a p e k)) (nat_same a s)
        where
          here : a ≡ s → IsPiece p
          here e =
              subst IsPiece
              (starts_once 4000000000 ps s (0 ∷ x ∷ []) p (omega arith) (f.no_empty a p k) f.now
              (subst (λ (z : ℕ). StartsAt 4000000000 ps z p) e k)) (a_place x refl (inr (slot_leads read r h i).1.0))

      own_one : (a y : ℕ) → word_at (rows 4000000000 ps) a ≡ Some y → is_final_word y ≡ true → LeadsOn read ps y
      own_one a y e g =
          let q = in_rows 4000000000 a y ps e in
          ⊎_elim (λ k. of_place q.1 (subst (λ (p : List ℕ). slice_get p q.1 ≡ Some y)
          (starts_once 4000000000 ps s q.2 (0 ∷ x ∷ []) (f.no_empty q.0 q.2 q.3) (omega arith)
          (subst (λ (z : ℕ). StartsAt 4000000000 ps z q.2) k q.3) f.now) q.6))
          (λ k. leads_on y (h.own (q.0 + q.1) y (rows_in 4000000000 q.0 q.1 y r.pieces q.2 (f.back q.0 q.2 k q.3) q.6) g))
          (nat_same q.0 s)
        where
          of_place : (d : ℕ) → slice_get (0 ∷ x ∷ []) d ≡ Some y → LeadsOn read ps y
          of_place zero o = absurd (zero_final (subst (λ (z : ℕ). is_final_word z ≡ true) (sym (same_Some _ _ o)) g))
          of_place (suc zero) o = subst (LeadsOn read ps) (same_Some _ _ o) (leads_on x (slot_leads read r h i).0)
          of_place (suc (suc d)) o = let k : None ≡ Some y = o in cc

pub led_first : LedFirst
led_first read r h i s ps f = first_led read r h i s ps f

pub led_try : LedTry
led_try read r h k next n words few led terms = record {
  pieces = record {
    each = λ a p s. a_place 0 (place_only n 4000000000 a p s) (inl refl);
    few = let e = end_places n 4000000000 in omega (arith, few);
  };
  slots = λ i. inl (led i);
  terms = terms;
  bound = λ a x e. let g : None ≡ Some x = e in cc;
  places = λ a x e. let g : None ≡ Some x = e in cc;
  own = λ a x e g. absurd (zeros a x e g);
}
  where
    zeros : (a x : ℕ) → word_at (rows 4000000000 (places_for n)) a ≡ Some x → is_final_word x ≡ true → ⊥
    zeros a x e g =
        let q = in_rows 4000000000 a x (places_for n) e in
        none q.1 (ap (λ (l : List ℕ). slice_get l q.1) (sym (place_only n 4000000000 q.0 q.2 q.3)) ∙ q.6)
      where
        not_final : 0 ≡ x → ⊥
        not_final z = true≢false (sym g ∙ (ap is_final_word (sym z) ∙ ap is_final_in zero_is))

        none : (d : ℕ) → slice_get (0 ∷ 0 ∷ []) d ≡ Some x → ⊥
        none zero o = not_final (same_Some _ _ o)
        none (suc zero) o = not_final (same_Some _ _ o)
        none (suc (suc d)) o = let k : None ≡ Some x = o in cc
