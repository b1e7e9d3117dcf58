-- The heads and the entries of a hang, place by place.
use Rattle.std.proofs.Common.{◌≡◌, ℕ, zero, suc, ◌+◌, ◌*◌, Bool, true, false, cond, List, [], ◌∷◌, ◌++◌, refl, sym, ap, ◌∙◌, subst, inl}
use Rattle.std.proofs.Common.{inr, arith, append_assoc}
use Rattle.std.specs.Prelude.{nat_eq}
use Rattle.std.proofs.lemmas.Bool.{eqb-true, eq-eqb}
use Rattle.heap_words.specs.Cells.{encoded}
use Rattle.heap_words.specs.Trails.{WordList}
use Rattle.heap_words.specs.declared.cell.Cell.TheVariants.{Unbound, Status}
use Rattle.heap_words.specs.declared.cell.Stand.TheVariants.{Waiting}
use Rattle.word_states.specs.Words.{Among, AreApart, row}
use Rattle.word_states.specs.Layouts.{entry_words}
use Rattle.word_states.specs.Planning.{head_words, entry_rows, hang_writes}
use Rattle.page_layout.specs.Laying.{moved_to, total}
use Rattle.page_layout.specs.Hangs.{threes, entry_in, entry_of, heads_at, entries_at}

pub total_threes : (n : ℕ) → total (threes n) ≡ 3 * n
total_threes zero = refl
total_threes (suc n) = let e = total_threes n in omega arith

entry_here : (table : List ℕ) (i : ℕ) (l : ℕ × ℕ) (ls : WordList) → entry_in table i (l ∷ ls) l.0 ≡ moved_to table (4000000000 + i)
entry_here table i l ls =
    ap (λ (b : Bool). cond b (moved_to table (4000000000 + i)) (entry_in table (i + 3) ls l.0)) (eq-eqb l.0 l.0 refl)

entry_after : (table : List ℕ) (i : ℕ) (l : ℕ × ℕ) (ls : WordList) (a x : ℕ) → AreApart (l ∷ ls) → Among ls (a, x)
    → entry_in table i (l ∷ ls) a ≡ entry_in table (i + 3) ls a
entry_after table i l ls a x p h = go (nat_eq l.0 a) refl
  where
    go : (t : Bool) → nat_eq l.0 a ≡ t → cond t (moved_to table (4000000000 + i)) (entry_in table (i + 3) ls a) ≡ entry_in table
        (i + 3) ls a
    go true e = absurd (p.0 x (subst (λ (b : ℕ). Among ls (b, x)) (sym (eqb-true l.0 a e)) h))
    go false e = refl

-- the map gives each of the places its entry
abbrev GivesEntries : List ℕ → ℕ → WordList → (ℕ → ℕ) → Type 0
GivesEntries table i ls f = (a x : ℕ) → Among ls (a, x) → f a ≡ entry_in table i ls a

gives_after : (table : List ℕ) (i : ℕ) (l : ℕ × ℕ) (ls : WordList) (f : ℕ → ℕ) → AreApart (l ∷ ls) → GivesEntries table i (l ∷ ls) f
    → GivesEntries table (i + 3) ls f
gives_after table i l ls f p g a x h = g a x (inr h) ∙ entry_after table i l ls a x p h

gives_here : (table : List ℕ) (i : ℕ) (l : ℕ × ℕ) (ls : WordList) (f : ℕ → ℕ) → GivesEntries table i (l ∷ ls) f
    → moved_to table (4000000000 + i) ≡ f l.0
gives_here table i l ls f g = sym (g l.0 l.1 (inl refl) ∙ entry_here table i l ls)

heads_by : (table : List ℕ) (i : ℕ) (ls : WordList) (f : ℕ → ℕ) → AreApart ls → GivesEntries table i ls f
    → heads_at table i ls ≡ head_words f ls
heads_by table i [] f p g = refl
heads_by table i (l ∷ ls) f p g =
    ap (λ (e : ℕ). (l.0, encoded (Unbound e)) ∷ heads_at table (i + 3) ls) (gives_here table i l ls f g)
    ∙ ap (λ (ws : WordList). (l.0, encoded (Unbound (f l.0))) ∷ ws) (heads_by table (i + 3) ls f p.1 (gives_after table i l ls f p g))

entries_by : (table : List ℕ) (n p i : ℕ) (ls : WordList) (f : ℕ → ℕ) → AreApart ls → GivesEntries table i ls f
    → entries_at table n p i ls ≡ entry_rows f n p ls
entries_by table n p i [] f q g = refl
entries_by table n p i (l ∷ ls) f q g =
    ap (λ (e : ℕ). row e (entry_words n p l.1) ++ entries_at table n p (i + 3) ls) (gives_here table i l ls f g)
    ∙ ap (λ (ws : WordList). row (f l.0) (entry_words n p l.1) ++ ws)
    (entries_by table n p (i + 3) ls f q.1 (gives_after table i l ls f q g))

-- the heads and the entries of a hang
pub heads_are : (table : List ℕ) (ls : WordList) → AreApart ls → heads_at table 0 ls ≡ head_words (entry_of table ls) ls
heads_are table ls p = heads_by table 0 ls (entry_of table ls) p (λ a x h. refl)

pub entries_are : (table : List ℕ) (n p : ℕ) (ls : WordList) → AreApart ls
    → entries_at table n p 0 ls ≡ entry_rows (entry_of table ls) n p ls
entries_are table n p ls q = entries_by table n p 0 ls (entry_of table ls) q (λ a x h. refl)

-- the writes of a hang, put in turn
pub hang_put : (f : ℕ → ℕ) (n p : ℕ) (ls tops heads entries a b c d e : WordList) → a ≡ [] → b ≡ a ++ (p, 41 + 16 * n) ∷ []
    → c ≡ b ++ heads → d ≡ c ++ tops → e ≡ d ++ entries → heads ≡ head_words f ls → entries ≡ entry_rows f n p ls
    → e ≡ hang_writes f n p ls tops
hang_put f n p ls tops heads entries a b c d e g h i j k q r =
    let status : 41 + 16 * n ≡ encoded (Status (Waiting n)) = omega arith in
    let first : b ≡ (p, encoded (Status (Waiting n))) ∷ [] = h ∙ ap (λ (ws : WordList). ws ++ (p, 41 + 16 * n) ∷ []) g
    ∙ ap (λ (w : ℕ). (p, w) ∷ []) status in
    let second : c ≡ (p, encoded (Status (Waiting n))) ∷ head_words f ls = i ∙ ap (λ (ws : WordList). ws ++ heads) first
    ∙ ap (λ (ws : WordList). (p, encoded (Status (Waiting n))) ∷ ws) q in
    k ∙ ap (λ (ws : WordList). ws ++ entries) (j ∙ ap (λ (ws : WordList). ws ++ tops) second)
    ∙ ap (λ (ws : WordList). ((p, encoded (Status (Waiting n))) ∷ (head_words f ls ++ tops)) ++ ws) r
    ∙ ap (λ (ws : WordList). (p, encoded (Status (Waiting n))) ∷ ws) (append_assoc (head_words f ls) tops (entry_rows f n p ls))
