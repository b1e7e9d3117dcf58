-- The forms of pieces, by the words that stand in them.
use Rattle.std.proofs.Common.{◌≡◌, ◌⊎◌, ℕ, zero, suc, true, List, [], ◌∷◌, length, refl, sym, ap, ◌∙◌, subst, inl, inr, arith}
use Rattle.std.proofs.Common.{true≢false, Some, None}
use Rattle.std.specs.Prelude.{slice_get}
use Rattle.std.proofs.lemmas.Option.{same_Some}
use Rattle.heap_words.specs.Cells.{decoded, is_final_word, is_final_in}
use Rattle.heap_words.specs.declared.cell.Cell.TheVariants.{Unbound, Status, Raw}
use Rattle.heap_words.specs.declared.cell.Stand.{Stand}
use Rattle.word_states.specs.Pieces.{IsPiece, AreFinal, a_place, a_pair, a_tuple, a_wide, a_process}
use Rattle.word_states.proofs.Pieces.{zero_is, nine_is, raw_final}

-- the piece is a process
pub record IsProcess (p : List ℕ) : Type 0 where
  pub third : ℕ
  pub fourth : ℕ
  pub count : ℕ
  pub rest : List ℕ
  pub is : p ≡ 9 ∷ 0 ∷ third ∷ fourth ∷ rest
  pub number : decoded fourth ≡ Some (Raw count)
  pub size : length rest ≡ count

-- A word of a piece is 0, or the status at the begin of a process, or final.
pub data Kind (p : List ℕ) (d x : ℕ) : Type 0 where
  empty : x ≡ 0 → Kind p d x
  status : x ≡ 9 → d ≡ 0 → IsProcess p → Kind p d x
  final : is_final_word x ≡ true → Kind p d x

none_some : (x : ℕ) → None ≡ Some x → ⊥
none_some x e = cc

finals_at : (xs : List ℕ) → AreFinal xs → (d x : ℕ) → slice_get xs d ≡ Some x → is_final_word x ≡ true
finals_at [] h d x e = absurd (none_some x e)
finals_at (y ∷ xs) h zero x e = subst (λ (z : ℕ). is_final_word z ≡ true) (same_Some _ _ e) h.0
finals_at (y ∷ xs) h (suc d) x e = finals_at xs h.1 d x e

pub kind_at : (p : List ℕ) → IsPiece p → (d x : ℕ) → slice_get p d ≡ Some x → Kind p d x
kind_at p (a_place y q h) d x e = go d (ap (λ (l : List ℕ). slice_get l d) (sym q) ∙ e) h
  where
    go : (d : ℕ) → slice_get (0 ∷ y ∷ []) d ≡ Some x → (y ≡ 0) ⊎ (is_final_word y ≡ true) → Kind p d x
    go zero f k = empty (sym (same_Some _ _ f))
    go (suc zero) f (inl k) = empty (sym (same_Some _ _ f) ∙ k)
    go (suc zero) f (inr k) = final (subst (λ (z : ℕ). is_final_word z ≡ true) (same_Some _ _ f) k)
    go (suc (suc d)) f k = absurd (none_some x f)
kind_at p (a_pair y z q f g n) d x e = go d (ap (λ (l : List ℕ). slice_get l d) (sym q) ∙ e)
  where
    go : (d : ℕ) → slice_get (y ∷ z ∷ []) d ≡ Some x → Kind p d x
    go zero k = final (subst (λ (z : ℕ). is_final_word z ≡ true) (same_Some _ _ k) f)
    go (suc zero) k = final (subst (λ (z : ℕ). is_final_word z ≡ true) (same_Some _ _ k) g)
    go (suc (suc d)) k = absurd (none_some x k)
kind_at p (a_tuple r n xs q i l f) d x e = go d (ap (λ (l : List ℕ). slice_get l d) (sym q) ∙ e)
  where
    go : (d : ℕ) → slice_get (r ∷ xs) d ≡ Some x → Kind p d x
    go zero k = final (subst (λ (z : ℕ). is_final_word z ≡ true) (same_Some _ _ k) (raw_final r n i))
    go (suc d) k = final (finals_at xs f d x k)
kind_at p (a_wide y z q i) d x e = go d (ap (λ (l : List ℕ). slice_get l d) (sym q) ∙ e)
  where
    go : (d : ℕ) → slice_get (y ∷ []) d ≡ Some x → Kind p d x
    go zero k = final (subst (λ (z : ℕ). is_final_word z ≡ true) (same_Some _ _ k) (ap is_final_in i))
    go (suc d) k = absurd (none_some x k)
kind_at p (a_process f g r n xs q i j l h) d x e = go d (ap (λ (l : List ℕ). slice_get l d) (sym q) ∙ e)
  where
    this : IsProcess p
    this = record { third = f; fourth = r; count = n; rest = xs; is = q; number = j; size = l }

    go : (d : ℕ) → slice_get (9 ∷ 0 ∷ f ∷ r ∷ xs) d ≡ Some x → Kind p d x
    go zero k = status (sym (same_Some _ _ k)) refl this
    go (suc zero) k = empty (sym (same_Some _ _ k))
    go (suc (suc zero)) k = final (subst (λ (z : ℕ). is_final_word z ≡ true) (same_Some _ _ k) (raw_final f g i))
    go (suc (suc (suc zero))) k = final (subst (λ (z : ℕ). is_final_word z ≡ true) (same_Some _ _ k) (raw_final r n j))
    go (suc (suc (suc (suc d)))) k = final (finals_at xs h d x k)

-- a status stands at the begin of a process
pub status_at : (p : List ℕ) → IsPiece p → (d x : ℕ) (q : Stand) → slice_get p d ≡ Some x → decoded x ≡ Some (Status q)
    → (d ≡ 0) × IsProcess p
status_at p is d x q e f = go (kind_at p is d x e)
  where
    go : Kind p d x → (d ≡ 0) × IsProcess p
    go (empty i) = absurd (let k : Some (Unbound 0) ≡ Some (Status q) = sym zero_is ∙ (ap decoded (sym i) ∙ f) in cc)
    go (status i j k) = (j, k)
    go (final i) = absurd (true≢false (sym i ∙ ap is_final_in f))

-- a word after a final first word is final
pub after_final : (x : ℕ) (xs : List ℕ) → IsPiece (x ∷ xs) → is_final_word x ≡ true → (d y : ℕ) → slice_get (x ∷ xs) d ≡ Some y
    → is_final_word y ≡ true
after_final x xs (a_place z q h) f d y e =
    absurd (let k : x ≡ 0 = cc in true≢false (sym f ∙ (ap is_final_word k ∙ ap is_final_in zero_is)))
after_final x xs (a_pair u v q f' g n) f d y e = go d (ap (λ (l : List ℕ). slice_get l d) (sym q) ∙ e)
  where
    go : (d : ℕ) → slice_get (u ∷ v ∷ []) d ≡ Some y → is_final_word y ≡ true
    go zero k = subst (λ (z : ℕ). is_final_word z ≡ true) (same_Some _ _ k) f'
    go (suc zero) k = subst (λ (z : ℕ). is_final_word z ≡ true) (same_Some _ _ k) g
    go (suc (suc d)) k = absurd (none_some y k)
after_final x xs (a_tuple r n ys q i l h) f d y e = go d (ap (λ (l : List ℕ). slice_get l d) (sym q) ∙ e)
  where
    go : (d : ℕ) → slice_get (r ∷ ys) d ≡ Some y → is_final_word y ≡ true
    go zero k = subst (λ (z : ℕ). is_final_word z ≡ true) (same_Some _ _ k) (raw_final r n i)
    go (suc d) k = finals_at ys h d y k
after_final x xs (a_wide z u q i) f d y e = go d (ap (λ (l : List ℕ). slice_get l d) (sym q) ∙ e)
  where
    go : (d : ℕ) → slice_get (z ∷ []) d ≡ Some y → is_final_word y ≡ true
    go zero k = subst (λ (z : ℕ). is_final_word z ≡ true) (same_Some _ _ k) (ap is_final_in i)
    go (suc d) k = absurd (none_some y k)
after_final x xs (a_process g h r n ys q i j l k) f d y e =
    absurd (let m : x ≡ 9 = cc in true≢false (sym f ∙ (ap is_final_word m ∙ ap is_final_in nine_is)))

-- the one word of a piece is final
pub one_final : (x : ℕ) → IsPiece (x ∷ []) → is_final_word x ≡ true
one_final x (a_place z q h) = absurd (let l : 1 ≡ 2 = ap length q in omega arith)
one_final x (a_pair u v q f g n) = absurd (let l : 1 ≡ 2 = ap length q in omega arith)
one_final x (a_tuple r n ys q i l h) = let k : r ≡ x = cc in subst (λ (z : ℕ). is_final_word z ≡ true) k (raw_final r n i)
one_final x (a_wide z u q i) = let k : z ≡ x = cc in subst (λ (z : ℕ). is_final_word z ≡ true) k (ap is_final_in i)
one_final x (a_process g h r n ys q i j l k) =
    absurd (let l : 1 ≡ suc (suc (suc (suc (length ys)))) = ap length q in omega arith)
