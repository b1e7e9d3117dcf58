-- The laws of the instructions that put a new pair, tuple, operation or wide number.
use Rattle.std.proofs.Common.{◌≡◌, ℕ, zero, suc, ◌+◌, ◌<◌, true, false, List, [], ◌∷◌, ◌++◌, refl, sym, ◌∙◌, ap, subst, inr, arith}
use Rattle.std.proofs.Common.{Some, None}
use Rattle.std.specs.Prelude.{slice_get}
use Rattle.fcp_model.specs.declared.term.ArithOp.{ArithOp}
use Rattle.fcp_model.specs.declared.term.ArithOp.TheVariants.{Add, Sub, Mul, Div, Mod}
use Rattle.fcp_model.specs.Places.{Variable}
use Rattle.fcp_model.specs.Terms.{Term, number, cons, tuple, Bindings}
use Rattle.fcp_model.specs.Expressions.{Expr, leaf, op}
use Rattle.heap_words.specs.Cells.{decoded, encoded, is_final_word, is_final_in}
use Rattle.heap_words.specs.declared.cell.Cell.TheVariants.{Wide, Cons, Tuple, Raw}
use Rattle.heap_words.proofs.Encodings.{decoded_encoded}
use Rattle.word_states.specs.Words.{Words}
use Rattle.word_states.specs.Denoting.{Addresses, operator_code, Denotes, DenotesAll, ExprSays}
use Rattle.word_states.specs.Numbers.{part_count}
use Rattle.word_states.specs.Pieces.{is_place, with_own, with_variables}
use Rattle.word_states.proofs.Persisting.{denotes_final, denotes_on, expr_on}
use Rattle.word_states.proofs.Pieces.{not_zero, not_nine, raw_final, not_place}
use Rattle.machine_code.specs.Slots.{Slots, hold, as_term, parts_from}
use Rattle.machine_code.specs.Instructions.{PutWord, PutCons, PutTuple}
use Rattle.machine_code.specs.Machine.{Trying}
use Rattle.trial_laws.specs.AtHand.{AtHand, term_word, IsStore, StandsForTry}
use Rattle.trial_laws.specs.NewPieces.{next_piece, with_piece, term_words, LawOfPair, LawOfTuple, LawOfOperation, LawOfWide}
use Rattle.trial_laws.proofs.Pieces.{starts_last, word_of_piece}
use Rattle.trial_laws.proofs.Growing.{grows_by, listed_on, grown}
use Rattle.trial_laws.proofs.Slots.{step, put_stands, term_says}

-- a piece, whose first word is final
module _ (w : Words) (vs : Addresses) (bound : Bindings) (r : AtHand) (t : Trying) (store : IsStore w vs bound)
    (s : StandsForTry w vs bound r t) (x : ℕ) (xs : List ℕ) (final : is_final_word x ≡ true) where
  abbrev U' : Words
  U' = with_own (r.pieces ++ (x ∷ xs) ∷ []) w

  abbrev V' : Addresses
  V' = with_variables (r.pieces ++ (x ∷ xs) ∷ []) vs

  no_place : is_place (x ∷ xs) ≡ false
  no_place = not_place x xs (not_zero x final)

  pub with_more : StandsForTry w vs bound (with_piece r (x ∷ xs)) t
  with_more = grown w vs bound r t store s (x ∷ xs) no_place (not_nine x final)

  pub term_on : (z : ℕ) (u : Term Variable) → Denotes (with_own r.pieces w) (with_variables r.pieces vs) z u
      → Denotes (with_own (r.pieces ++ (x ∷ xs) ∷ []) w) (with_variables (r.pieces ++ (x ∷ xs) ∷ []) vs) z u
  term_on = denotes_on _ _ _ _ (grows_by w vs bound r t store s (x ∷ xs) no_place) (listed_on w vs bound r t store s (x ∷ xs) no_place)

  pub content_on : (z : ℕ) (u : Expr Variable) → ExprSays (with_own r.pieces w) (with_variables r.pieces vs) z u
      → ExprSays (with_own (r.pieces ++ (x ∷ xs) ∷ []) w) (with_variables (r.pieces ++ (x ∷ xs) ∷ []) vs) z u
  content_on = expr_on _ _ _ _ (grows_by w vs bound r t store s (x ∷ xs) no_place) (listed_on w vs bound r t store s (x ∷ xs) no_place)

  pub slot_term : (i : ℕ) → Denotes (with_own (r.pieces ++ (x ∷ xs) ∷ []) w) (with_variables (r.pieces ++ (x ∷ xs) ∷ []) vs) (term_word r i)
      (as_term (t.slots i))
  slot_term i = term_on (term_word r i) (as_term (t.slots i)) (term_says w vs bound r t i s)

  -- the word at a distance from its begin
  pub word_here : (d y : ℕ) → slice_get (x ∷ xs) d ≡ Some y → (a : ℕ) → a ≡ next_piece r + d
      → with_own (r.pieces ++ (x ∷ xs) ∷ []) w a ≡ Some y
  word_here d y f a e =
      subst (λ (c : ℕ). U' c ≡ Some y) (sym e)
      (word_of_piece w (r.pieces ++ (x ∷ xs) ∷ []) (next_piece r) d y (x ∷ xs) (starts_last 4000000000 r.pieces (x ∷ xs)) f)

  -- the parts of a tuple, from the slots
  pub parts_here : (i n d : ℕ) → ((k y : ℕ) → slice_get (term_words r i n) k ≡ Some y → slice_get (x ∷ xs) (d + k) ≡ Some y)
      → DenotesAll (with_own (r.pieces ++ (x ∷ xs) ∷ []) w) (with_variables (r.pieces ++ (x ∷ xs) ∷ []) vs) (next_piece r + d)
      (parts_from t.slots i n)
  parts_here i zero d h = tt
  parts_here i (suc n) d h = (
    term_word r i,
    word_here (d + 0) (term_word r i) (h 0 (term_word r i) refl) (next_piece r + d) (omega arith),
    slot_term i,
    subst (λ (a : ℕ). DenotesAll U' V' a (parts_from t.slots (suc i) n)) (omega arith)
        (parts_here (suc i) n (suc d) (λ k y f. subst (λ (c : ℕ). slice_get (x ∷ xs) c ≡ Some y) (omega arith) (h (suc k) y f))),
  )

pub pair_leads : LawOfPair
pair_leads w vs bound ops args at r t store formed s i left right e room =
    let d = term_says w vs bound r t left s in
    let f = denotes_final _ _ (term_word r left) _ d in
    record {
      slots = hold t.slots i (leaf (cons (as_term (t.slots left)) (as_term (t.slots right))));
      stands = put_stands w vs bound (with_piece r (term_word r left ∷ term_word r right ∷ [])) t i (encoded (Cons (next_piece r)))
          (leaf (cons (as_term (t.slots left)) (as_term (t.slots right))))
          (with_more w vs bound r t store s (term_word r left) (term_word r right ∷ []) f) (
            next_piece r,
            term_word r left,
            term_word r right,
            decoded_encoded (Cons (next_piece r)) (omega (arith, room)),
            word_here w vs bound r t store s (term_word r left) (term_word r right ∷ []) f 0 (term_word r left) refl _ (omega arith),
            slot_term w vs bound r t store s (term_word r left) (term_word r right ∷ []) f left,
            word_here w vs bound r t store s (term_word r left) (term_word r right ∷ []) f 1 (term_word r right) refl _ (omega arith),
            slot_term w vs bound r t store s (term_word r left) (term_word r right ∷ []) f right,
          );
      gives = λ m g. step bound ops args at (suc at) t _ (PutCons i left right) m e (λ n. refl) g;
    }

part_count_from : (σ : Slots) (i n : ℕ) → part_count (parts_from σ i n) ≡ n
part_count_from σ i zero = refl
part_count_from σ i (suc n) = ap suc (part_count_from σ (suc i) n)

pub tuple_leads : LawOfTuple
tuple_leads w vs bound ops args at r t store formed s i from n e few room =
    let is : decoded (encoded (Raw n)) ≡ Some (Raw n) = decoded_encoded (Raw n) (omega (arith, few)) in
    let f = raw_final (encoded (Raw n)) n is in
    let same = part_count_from t.slots from n in
    record {
      slots = hold t.slots i (leaf (tuple (parts_from t.slots from n)));
      stands = put_stands w vs bound (with_piece r (encoded (Raw n) ∷ term_words r from n)) t i (encoded (Tuple (next_piece r)))
          (leaf (tuple (parts_from t.slots from n)))
          (with_more w vs bound r t store s (encoded (Raw n)) (term_words r from n) f) (
            next_piece r,
            decoded_encoded (Tuple (next_piece r)) (omega (arith, room)),
            (
              encoded (Raw n),
              word_here w vs bound r t store s (encoded (Raw n)) (term_words r from n) f 0 (encoded (Raw n)) refl _ (omega arith),
              is ∙ ap (λ (k : ℕ). Some (Raw k)) (sym same),
            ),
            subst (λ (k : ℕ). k < 66) (sym same) few,
            subst
                (λ (a : ℕ). DenotesAll (with_own (r.pieces ++ (encoded (Raw n) ∷ term_words r from n) ∷ []) w)
                (with_variables (r.pieces ++ (encoded (Raw n) ∷ term_words r from n) ∷ []) vs) a (parts_from t.slots from n)) (omega arith)
                (parts_here w vs bound r t store s (encoded (Raw n)) (term_words r from n) f from n 1
                (λ k y g. subst (λ (c : ℕ). slice_get (encoded (Raw n) ∷ term_words r from n) c ≡ Some y) (further k) g)),
          );
      gives = λ m g. step bound ops args at (suc at) t _ (PutTuple i from n None) m e (λ k. refl) g;
    }
  where
    further : (k : ℕ) → suc k ≡ 1 + k
    further k = omega arith

operator_small : (o : ArithOp) → operator_code o < 5
operator_small Add = omega arith
operator_small Sub = omega arith
operator_small Mul = omega arith
operator_small Div = omega arith
operator_small Mod = omega arith

pub operation_leads : LawOfOperation
operation_leads w vs bound ops args at r t store formed s i from n o e room =
    let few = operator_small o in
    let is : decoded (encoded (Raw (66 + operator_code o))) ≡ Some (Raw (66 + operator_code o)) =
    decoded_encoded (Raw (66 + operator_code o)) (omega (arith, few)) in
    let f = raw_final (encoded (Raw (66 + operator_code o))) (66 + operator_code o) is in
    record {
      slots = hold t.slots i (op o (t.slots from) (t.slots (suc from)));
      stands = put_stands w vs bound (with_piece r (encoded (Raw (66 + operator_code o)) ∷ r.slots from ∷ r.slots (suc from) ∷ [])) t i
          (encoded (Tuple (next_piece r))) (op o (t.slots from) (t.slots (suc from)))
          (with_more w vs bound r t store s (encoded (Raw (66 + operator_code o))) (r.slots from ∷ r.slots (suc from) ∷ []) f) (
            next_piece r,
            r.slots from,
            r.slots (suc from),
            decoded_encoded (Tuple (next_piece r)) (omega (arith, room)),
            (
              encoded (Raw (66 + operator_code o)),
              word_here w vs bound r t store s (encoded (Raw (66 + operator_code o))) (r.slots from ∷ r.slots (suc from) ∷ []) f 0 _ refl _
                  (omega arith),
              is,
            ),
            word_here w vs bound r t store s (encoded (Raw (66 + operator_code o))) (r.slots from ∷ r.slots
                (suc from) ∷ []) f 1 _ refl _ refl,
            content_on w vs bound r t store s (encoded (Raw (66 + operator_code o))) (r.slots from ∷ r.slots (suc from) ∷ []) f
                (r.slots from)
                (t.slots from) (s.slots from),
            word_here w vs bound r t store s (encoded (Raw (66 + operator_code o))) (r.slots from ∷ r.slots
                (suc from) ∷ []) f 2 _ refl _ refl,
            content_on w vs bound r t store s (encoded (Raw (66 + operator_code o))) (r.slots from ∷ r.slots (suc from) ∷ []) f
                (r.slots (suc from)) (t.slots (suc from)) (s.slots (suc from)),
          );
      gives = λ m g. step bound ops args at (suc at) t _ (PutTuple i from n (Some o)) m e (λ k. refl) g;
    }

pub wide_leads : LawOfWide
wide_leads w vs bound ops args at r t store formed s i x h z low e is parts long upper room =
    let f : is_final_word x ≡ true = ap is_final_in is in
    record {
      slots = hold t.slots i (leaf (number z));
      stands = put_stands w vs bound (with_piece r (x ∷ [])) t i (encoded (Wide (next_piece r) h)) (leaf (number z))
          (with_more w vs bound r t store s x [] f)
          (inr (
            next_piece r,
            h,
            low,
            decoded_encoded (Wide (next_piece r) h) ((omega (arith, room)), upper),
            (x, word_here w vs bound r t store s x [] f 0 x refl _ (omega arith), is),
            parts,
            long,
          ));
      gives = λ m g. step bound ops args at (suc at) t _ (PutWord i (number z)) m e (λ k. refl) g;
    }
