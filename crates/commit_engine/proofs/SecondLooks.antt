-- Words of a list one after another, and what a second look at them says.
use Rattle.std.proofs.Common.{◌≡◌, ◌⊎◌, ℕ, zero, suc, ◌+◌, ◌<◌, ◌≤◌, false, List, [], ◌∷◌}
use Rattle.std.proofs.Common.{length, drop, get_or, Some, None, refl, sym, ap, ◌∙◌, subst}
use Rattle.std.proofs.Common.{⊎_elim, inl, inr, arith}
use Rattle.std.proofs.lemmas.List.{at_drop_more, at_drop_all}
use Rattle.heap_words.specs.Cells.{is_final_word}
use Rattle.heap_words.specs.Trails.{WordList}
use Rattle.word_states.specs.Words.{Among, IsIn}
use Rattle.commit_engine.specs.declared.change.Change.{Change}
use Rattle.commit_engine.specs.Making.{LookSays, LooksSay}

pub among_at : (xs : WordList) (i : ℕ) (d : ℕ × ℕ) → i < length xs → Among xs (get_or xs i d)
among_at [] i d lt = absurd (omega arith)
among_at (x ∷ xs) zero d lt = inl refl
among_at (x ∷ xs) (suc i) d lt = inr (among_at xs i d (omega arith))

pub among_first : (xs : WordList) (i : ℕ) (d z : ℕ × ℕ) → i < length xs → Among (drop i xs) z
    → (get_or xs i d ≡ z) ⊎ Among (drop (i + 1) xs) z
among_first xs i d z lt h = subst (λ (k : WordList). Among k z) (at_drop_more (λ (k : WordList). k) xs i d lt) h

pub among_none : (xs : WordList) (i : ℕ) (z : ℕ × ℕ) → length xs ≤ i → Among (drop i xs) z → ⊥
among_none xs i z le h = subst (λ (k : WordList). Among k z) (at_drop_all (λ (k : WordList). k) xs i le) h

pub in_at : (xs : List ℕ) (i : ℕ) → i < length xs → IsIn (get_or xs i 0) xs
in_at [] i lt = absurd (omega arith)
in_at (x ∷ xs) zero lt = inl refl
in_at (x ∷ xs) (suc i) lt = inr (in_at xs i (omega arith))

pub in_first : (xs : List ℕ) (i a : ℕ) → i < length xs → IsIn a (drop i xs) → (get_or xs i 0 ≡ a) ⊎ IsIn a (drop (i + 1) xs)
in_first xs i a lt h = subst (λ (k : List ℕ). IsIn a k) (at_drop_more (λ (k : List ℕ). k) xs i 0 lt) h

pub in_none : (xs : List ℕ) (i a : ℕ) → length xs ≤ i → IsIn a (drop i xs) → ⊥
in_none xs i a le h = subst (λ (k : List ℕ). IsIn a k) (at_drop_all (λ (k : List ℕ). k) xs i le) h

-- what was not final stands, up to those that are left
abbrev pub SeenBefore : {S : Type 0} → (S → ℕ → ℕ → Type 0) → S → WordList → WordList → Type 0
SeenBefore stands w reads left = (a x : ℕ) → Among reads (a, x) → (is_final_word x ≡ false → stands w a x) ⊎ Among left (a, x)

pub seen_more : {S : Type 0} (stands : S → ℕ → ℕ → Type 0) (gave : S → S → ℕ → ℕ → Type 0) (v w : S) (reads : WordList) (i : ℕ)
    (r d : ℕ × ℕ) → r ≡ get_or reads i d → ((a x : ℕ) → stands v a x → stands w a x) → SeenBefore stands v reads (drop i reads)
    → i < length reads → LookSays stands gave v w r.0 r.1 None → SeenBefore stands w reads (drop (i + 1) reads)
seen_more stands gave v w reads i r d e stay seen lt says = λ a x h.
    ⊎_elim (λ (k : is_final_word x ≡ false → stands v a x). inl (λ f. stay a x (k f)))
    (λ (k : Among (drop i reads) (a, x)).
    ⊎_elim (λ (n : get_or reads i d ≡ (a, x)).
    let m : r ≡ (a, x) = e ∙ n in
    inl (λ f. subst (λ (z : ℕ × ℕ). stands w z.0 z.1) m (says (ap (λ (z : ℕ × ℕ). is_final_word z.1) m ∙ f))))
    (λ (m : Among (drop (i + 1) reads) (a, x)). inr m)
    (among_first reads i d (a, x) lt k)) (seen a x h)

pub seen_all : {S : Type 0} (stands : S → ℕ → ℕ → Type 0) (gave : S → S → ℕ → ℕ → Type 0) (v w : S) (reads : WordList) (i : ℕ)
    → length reads ≤ i → SeenBefore stands w reads (drop i reads) → LooksSay stands gave v w reads None
seen_all stands gave v w reads i le seen = λ a x h f.
    ⊎_elim (λ (k : is_final_word x ≡ false → stands w a x). k f)
    (λ (k : Among (drop i reads) (a, x)). absurd (among_none reads i (a, x) le k)) (seen a x h)

-- a word that has changed is one of all that were read
pub changed_one : {S : Type 0} (stands : S → ℕ → ℕ → Type 0) (gave : S → S → ℕ → ℕ → Type 0) (u v w : S) (reads : WordList)
    (r : ℕ × ℕ) (c : Change) → ((a x : ℕ) → gave v w a x → gave u w a x) → Among reads r → LookSays stands gave v w r.0 r.1 (Some c)
    → LooksSay stands gave u w reads (Some c)
changed_one stands gave u v w reads r c before h says = (
  subst (λ (z : ℕ × ℕ). Among reads z) (ap (λ (a : ℕ). (a, r.1)) (sym says.0) ∙ ap (λ (x : ℕ). (c.addr, x)) (sym says.1)) h,
  subst (λ (a : ℕ). gave u w a c.found) (sym says.0) (before r.0 c.found says.2),
  λ e. says.3 (sym says.1 ∙ e),
)
