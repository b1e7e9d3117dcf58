-- Pieces in which the own places take what they are bound to, and the bindings of the store's places.
use Rattle.std.proofs.Common.{◌≡◌, ◌⊎◌, ℕ, zero, suc, ◌+◌, ◌<◌, Bool, true, false, cond, List, [], ◌∷◌, length, refl, sym, ap, ◌∙◌, subst}
use Rattle.std.proofs.Common.{inl, inr}
use Rattle.std.proofs.Common.{arith, true≢false, Option, Some, None}
use Rattle.std.specs.Prelude.{slice_get, nat_eq, nat_lt, unwrap_or}
use Rattle.std.proofs.lemmas.Bool.{eqb-true, ltb-true, lt-ltb}
use Rattle.heap_words.specs.Cells.{decoded, is_final_word, is_final_in}
use Rattle.heap_words.specs.Trails.{WordList, word_at}
use Rattle.heap_words.specs.declared.cell.Cell.TheVariants.{Unbound, Raw}
use Rattle.word_states.specs.Pieces.{StartsAt, is_place, is_process, place_words, process_words, IsPiece, a_place, a_pair, a_tuple, a_wide}
use Rattle.word_states.specs.Pieces.{a_process}
use Rattle.word_states.proofs.Pieces.{zero_is, not_zero, raw_final}
use Rattle.trial_laws.specs.Endings.{settled_piece, settled, of_store}

same_length : (bs : WordList) (s : ℕ) (p : List ℕ) → length (settled_piece bs s p) ≡ length p
same_length bs s [] = refl
same_length bs s (x ∷ []) = refl
same_length bs s (x ∷ y ∷ []) = go (nat_eq x 0)
  where
    go : (b : Bool) → length (cond b (x ∷ unwrap_or (word_at bs (suc s)) y ∷ []) (x ∷ y ∷ [])) ≡ 2
    go true = refl
    go false = refl
same_length bs s (x ∷ y ∷ z ∷ zs) = refl

pub starts_on : (bs : WordList) (b : ℕ) (ps : List (List ℕ)) (s : ℕ) (p : List ℕ) → StartsAt b ps s p
    → StartsAt b (settled bs b ps) s (settled_piece bs s p)
starts_on bs b [] s p h = absurd h
starts_on bs b (q ∷ ps) s p (inl h) = inl (h.0, ap (λ (c : ℕ). settled_piece bs c q) h.0 ∙ ap (settled_piece bs s) h.1)
starts_on bs b (q ∷ ps) s p (inr h) =
    inr (subst (λ (n : ℕ). StartsAt (b + n) (settled bs (b + length q) ps) s (settled_piece bs s p)) (sym (same_length bs b q))
    (starts_on bs (b + length q) ps s p h))

pub starts_back : (bs : WordList) (b : ℕ) (ps : List (List ℕ)) (s : ℕ) (q : List ℕ) → StartsAt b (settled bs b ps) s q
    → (p : List ℕ) × StartsAt b ps s p × (q ≡ settled_piece bs s p)
starts_back bs b [] s q h = absurd h
starts_back bs b (x ∷ ps) s q (inl h) = (x, inl (h.0, refl), sym h.1 ∙ ap (λ (c : ℕ). settled_piece bs c x) h.0)
starts_back bs b (x ∷ ps) s q (inr h) =
    let r = starts_back bs (b + length x) ps s q
    (subst (λ (n : ℕ). StartsAt (b + n) (settled bs (b + length x) ps) s q) (same_length bs b x) h) in
    (r.0, inr r.1, r.2)

same_place : (bs : WordList) (s : ℕ) (p : List ℕ) → is_place (settled_piece bs s p) ≡ is_place p
same_place bs s [] = refl
same_place bs s (x ∷ []) = refl
same_place bs s (x ∷ y ∷ []) = go (nat_eq x 0)
  where
    go : (b : Bool) → is_place (cond b (x ∷ unwrap_or (word_at bs (suc s)) y ∷ []) (x ∷ y ∷ [])) ≡ nat_eq x 0
    go true = refl
    go false = refl
same_place bs s (x ∷ y ∷ z ∷ zs) = refl

same_process : (bs : WordList) (s : ℕ) (p : List ℕ) → is_process (settled_piece bs s p) ≡ is_process p
same_process bs s [] = refl
same_process bs s (x ∷ []) = refl
same_process bs s (x ∷ y ∷ []) = go (nat_eq x 0)
  where
    go : (b : Bool) → is_process (cond b (x ∷ unwrap_or (word_at bs (suc s)) y ∷ []) (x ∷ y ∷ [])) ≡ nat_eq x 9
    go true = refl
    go false = refl
same_process bs s (x ∷ y ∷ z ∷ zs) = refl

pub same_places : (bs : WordList) (b : ℕ) (ps : List (List ℕ)) → place_words b (settled bs b ps) ≡ place_words b ps
same_places bs b [] = refl
same_places bs b (p ∷ ps) =
    ap (λ (n : ℕ). cond (is_place (settled_piece bs b p)) (suc b ∷ place_words (b + n) (settled bs (b + length p) ps))
    (place_words (b + n) (settled bs (b + length p) ps))) (same_length bs b p)
    ∙ (ap (λ (l : List ℕ). cond (is_place (settled_piece bs b p)) (suc b ∷ l) l) (same_places bs (b + length p) ps)
    ∙ ap (λ (c : Bool). cond c (suc b ∷ place_words (b + length p) ps) (place_words (b + length p) ps)) (same_place bs b p))

pub same_processes : (bs : WordList) (b : ℕ) (ps : List (List ℕ)) → process_words b (settled bs b ps) ≡ process_words b ps
same_processes bs b [] = refl
same_processes bs b (p ∷ ps) =
    ap (λ (n : ℕ). cond (is_process (settled_piece bs b p)) (b ∷ process_words (b + n) (settled bs (b + length p) ps))
    (process_words (b + n) (settled bs (b + length p) ps))) (same_length bs b p)
    ∙ (ap (λ (l : List ℕ). cond (is_process (settled_piece bs b p)) (b ∷ l) l) (same_processes bs (b + length p) ps)
    ∙ ap (λ (c : Bool). cond c (b ∷ process_words (b + length p) ps) (process_words (b + length p) ps)) (same_process bs b p))

-- a word that is not bound stays
pub get_settled : (bs : WordList) (s : ℕ) (p : List ℕ) (d y : ℕ) → slice_get p d ≡ Some y → word_at bs (s + d) ≡ None
    → slice_get (settled_piece bs s p) d ≡ Some y
get_settled bs s [] d y e n = e
get_settled bs s (x ∷ []) d y e n = e
get_settled bs s (x ∷ z ∷ []) d y e n = go (nat_eq x 0) d e n
  where
    go : (b : Bool) (d : ℕ) → slice_get (x ∷ z ∷ []) d ≡ Some y → word_at bs (s + d) ≡ None
        → slice_get (cond b (x ∷ unwrap_or (word_at bs (suc s)) z ∷ []) (x ∷ z ∷ [])) d ≡ Some y
    go false d f m = f
    go true zero f m = f
    go true (suc zero) f m = ap (λ (o : Option ℕ). Some (unwrap_or o z)) (subst (λ (c : ℕ). word_at bs c ≡ None) (omega arith) m) ∙ f
    go true (suc (suc d)) f m = f
get_settled bs s (x ∷ y' ∷ z ∷ zs) d y e n = e

-- the bindings of the store's places
pub in_store : (bs : WordList) (a : ℕ) → a < 4000000000 → word_at (of_store bs) a ≡ word_at bs a
in_store [] a l = refl
in_store (b ∷ bs) a l = go (nat_lt b.0 4000000000) refl (nat_eq a b.0) refl (in_store bs a l)
  where
    go : (c : Bool) → nat_lt b.0 4000000000 ≡ c → (e : Bool) → nat_eq a b.0 ≡ e → word_at (of_store bs) a ≡ word_at bs a
        → word_at (cond c (b ∷ of_store bs) (of_store bs)) a ≡ cond (nat_eq a b.0) (Some b.1) (word_at bs a)
    go true i e j h = ap (λ (o : Option ℕ). cond (nat_eq a b.0) (Some b.1) o) h
    go false i true j h =
        absurd (let k : a ≡ b.0 = eqb-true a b.0 j in true≢false (sym (lt-ltb b.0 4000000000 (omega arith)) ∙ i))
    go false i false j h = h ∙ sym (ap (λ (c : Bool). cond c (Some b.1) (word_at bs a)) j)

pub store_low : (bs : WordList) (a x : ℕ) → word_at (of_store bs) a ≡ Some x → a < 4000000000
store_low [] a x e = let h : None ≡ Some x = e in cc
store_low (b ∷ bs) a x e = go (nat_lt b.0 4000000000) refl (store_low bs a x) e
  where
    go : (c : Bool) → nat_lt b.0 4000000000 ≡ c → (word_at (of_store bs) a ≡ Some x → a < 4000000000)
        → word_at (cond c (b ∷ of_store bs) (of_store bs)) a ≡ Some x → a < 4000000000
    go false i rec f = rec f
    go true i rec f = at (nat_eq a b.0) refl f
      where
        at : (d : Bool) → nat_eq a b.0 ≡ d → cond d (Some b.1) (word_at (of_store bs) a) ≡ Some x → a < 4000000000
        at true j g = let k : a ≡ b.0 = eqb-true a b.0 j in let l : b.0 < 4000000000 = ltb-true b.0 4000000000 i in omega arith
        at false j g = rec g

-- the word of an unbound own place
pub place_zero : (y e : ℕ) → IsPiece (0 ∷ y ∷ []) → decoded y ≡ Some (Unbound e) → decoded y ≡ Some (Unbound 0)
place_zero y e (a_place x q (inl z)) d = let h : y ≡ 0 = (let k : y ≡ x = cc in k ∙ z) in ap decoded h ∙ zero_is
place_zero y e (a_place x q (inr z)) d =
    absurd (let h : y ≡ x = cc in true≢false (sym z ∙ (ap is_final_word (sym h) ∙ ap is_final_in d)))
place_zero y e (a_pair x z q f g n) d =
    absurd (let h : 0 ≡ x = cc in true≢false (sym f ∙ (ap is_final_word (sym h) ∙ ap is_final_in zero_is)))
place_zero y e (a_tuple r n xs q f l g) d =
    absurd (let h : 0 ≡ r = cc in let k : Some (Raw n) ≡ Some (Unbound 0) = sym f ∙ (ap decoded (sym h) ∙ zero_is) in cc)
place_zero y e (a_wide x z q f) d = absurd (let l : 2 ≡ 1 = ap length q in omega arith)
place_zero y e (a_process f g r n xs q _ _ _ _) d =
    absurd (let l : 2 ≡ suc (suc (suc (suc (length xs)))) = ap length q in omega arith)

-- what is no place stays
kept_other : (bs : WordList) (s : ℕ) (x : ℕ) (xs : List ℕ) → nat_eq x 0 ≡ false → settled_piece bs s (x ∷ xs) ≡ x ∷ xs
kept_other bs s x [] e = refl
kept_other bs s x (y ∷ []) e = ap (λ (b : Bool). cond b (x ∷ unwrap_or (word_at bs (suc s)) y ∷ []) (x ∷ y ∷ [])) e
kept_other bs s x (y ∷ z ∷ zs) e = refl

pub kept_pair : (bs : WordList) (s x y : ℕ) → is_final_word x ≡ true → settled_piece bs s (x ∷ y ∷ []) ≡ x ∷ y ∷ []
kept_pair bs s x y f = kept_other bs s x (y ∷ []) (not_zero x f)

pub kept_tuple : (bs : WordList) (s r n : ℕ) (xs : List ℕ) → decoded r ≡ Some (Raw n) → settled_piece bs s (r ∷ xs) ≡ r ∷ xs
kept_tuple bs s r n xs e = kept_other bs s r xs (not_zero r (raw_final r n e))

-- a settled piece is one, where the bindings are final
pub settled_is : (bs : WordList) (s : ℕ) (p : List ℕ) → ((x : ℕ) → word_at bs (suc s) ≡ Some x → is_final_word x ≡ true) → IsPiece p
    → IsPiece (settled_piece bs s p)
settled_is bs s p f (a_place x e h) =
    subst (λ (z : List ℕ). IsPiece (settled_piece bs s z)) (sym e) (a_place (unwrap_or (word_at bs (suc s)) x) refl
    (go (word_at bs (suc s)) refl))
  where
    go : (o : Option ℕ) → word_at bs (suc s) ≡ o
        → (unwrap_or (word_at bs (suc s)) x ≡ 0) ⊎ (is_final_word (unwrap_or (word_at bs (suc s)) x) ≡ true)
    go None i = subst (λ (o : Option ℕ). (unwrap_or o x ≡ 0) ⊎ (is_final_word (unwrap_or o x) ≡ true)) (sym i) h
    go (Some y) i = subst (λ (o : Option ℕ). (unwrap_or o x ≡ 0) ⊎ (is_final_word (unwrap_or o x) ≡ true)) (sym i) (inr (f y i))
settled_is bs s p f (a_pair x y e g h n) =
    subst (λ (z : List ℕ). IsPiece (settled_piece bs s z)) (sym e)
    (subst IsPiece (sym (kept_pair bs s x y g)) (a_pair x y refl g h n))
settled_is bs s p f (a_tuple r n xs e d l g) =
    subst (λ (z : List ℕ). IsPiece (settled_piece bs s z)) (sym e)
    (subst IsPiece (sym (kept_tuple bs s r n xs d)) (a_tuple r n xs refl d l g))
settled_is bs s p f (a_wide x z e d) = subst (λ (z : List ℕ). IsPiece (settled_piece bs s z)) (sym e) (a_wide x z refl d)
settled_is bs s p f (a_process g h r n xs e d d' l k) =
    subst (λ (z : List ℕ). IsPiece (settled_piece bs s z)) (sym e) (a_process g h r n xs refl d d' l k)

-- a word of a settled piece was the piece's, or is a binding
pub from_settled : (bs : WordList) (s : ℕ) (p : List ℕ) (d x : ℕ) → slice_get (settled_piece bs s p) d ≡ Some x
    → (slice_get p d ≡ Some x) ⊎ (word_at bs (suc s) ≡ Some x)
from_settled bs s [] d x e = inl e
from_settled bs s (y ∷ []) d x e = inl e
from_settled bs s (y ∷ z ∷ []) d x e = go (nat_eq y 0) d (word_at bs (suc s)) refl e
  where
    go : (b : Bool) (d : ℕ) (o : Option ℕ) → word_at bs (suc s) ≡ o
        → slice_get (cond b (y ∷ unwrap_or (word_at bs (suc s)) z ∷ []) (y ∷ z ∷ [])) d ≡ Some x
        → (slice_get (y ∷ z ∷ []) d ≡ Some x) ⊎ (word_at bs (suc s) ≡ Some x)
    go false d o i f = inl f
    go true zero o i f = inl f
    go true (suc zero) None i f = inl (sym (ap (λ (o : Option ℕ). Some (unwrap_or o z)) i) ∙ f)
    go true (suc zero) (Some v) i f = inr (i ∙ (sym (ap (λ (o : Option ℕ). Some (unwrap_or o z)) i) ∙ f))
    go true (suc (suc d)) o i f = inl f
from_settled bs s (y ∷ z ∷ z' ∷ zs) d x e = inl e
