-- Histories that grow by an entry, and what stays as it was.
use Rattle.std.proofs.Common.{◌≡◌, ◌⊎◌, ℕ, suc, ◌+◌, ◌<◌, List, [], ◌∷◌, ◌++◌, length, set}
use Rattle.std.proofs.Common.{true≢false, refl, sym, ap, ◌∙◌, subst, ⊎_elim, inl, inr, arith, get_or-set_same, get_or-set_other}
use Rattle.std.proofs.Common.{length-set}
use Rattle.std.specs.Prelude.{slice_index}
use mathlib.Core.Logic.{dite}
use native.Mathlib.Decide.{ℕ_discrete}
use Rattle.atomic_table.proofs.Lists.{at_longer}
use Rattle.word_commit.specs.declared.view.Numbered.{Numbered}
use Rattle.word_commit.specs.declared.view.Given.{Given}
use Rattle.word_commit.specs.Meanings.{Meaning, Among}
use Rattle.word_commit.specs.Histories.{start_of, applied, Distinct, Inside, MayWrite, MayFollow, Lawful}
use Rattle.word_commit.specs.Histories.{world}
use Rattle.word_commit.specs.Kept.{words_of, IsLogged, Plain, IsBetween, IsShown}
use Rattle.word_commit.proofs.Lists.{among_left}
use Rattle.word_commit.proofs.Sights.{length-applied}

-- words after writes, at an address that is not written, and at one that is
pub applied_else : (w : List ℕ) (ws : List (ℕ × ℕ)) (a : ℕ) → ((y : ℕ) → Among ws (a, y) → ⊥) → slice_index (applied w ws) a
    ≡ slice_index w a
applied_else w [] a none_there = refl
applied_else w (x ∷ xs) a none_there = applied_else (set w x.0 x.1) xs a (λ y h. none_there y (inr h)) ∙ get_or-set_other w x.0 a x.1 0
    (λ e. none_there x.1 (inl (λ i. (sym e i, x.1))))

pub applied_here : (w : List ℕ) (ws : List (ℕ × ℕ)) (x : ℕ × ℕ) → Distinct ws → Among ws x → x.0 < length w
    → slice_index (applied w ws) x.0 ≡ x.1
applied_here w [] x d h inside = absurd h
applied_here w (y ∷ ys) x d (inl e) inside = subst (λ (z : ℕ × ℕ). slice_index (applied (set w y.0 y.1) ys) z.0 ≡ z.1) e
    (applied_else (set w y.0 y.1) ys y.0 d.0 ∙ get_or-set_same w y.0 y.1 0 (subst (λ (z : ℕ × ℕ). z.0 < length w) (sym e) inside))
applied_here w (y ∷ ys) x d (inr h) inside = applied_here (set w y.0 y.1) ys x d.1 h
    (subst (λ (n : ℕ). x.0 < n) (sym (length-set w y.0 y.1)) inside)

-- whether an address is written
pub written : (ws : List (ℕ × ℕ)) (a : ℕ) → ((x : ℕ) × Among ws (a, x)) ⊎ ((y : ℕ) → Among ws (a, y) → ⊥)
written [] a = inr (λ y h. h)
written (x ∷ xs) a = dite (ℕ_discrete x.0 a) (λ e. inl (x.1, inl (λ i. (e i, x.1))))
    (λ ne. ⊎_elim (λ (t : (y : ℕ) × Among xs (a, y)). inl (t.0, inr t.1))
    (λ (t : (y : ℕ) → Among xs (a, y) → ⊥). inr (λ y h. ⊎_elim (λ (e : x ≡ (a, y)). ne (ap (λ (z : ℕ × ℕ). z.0) e))
    (λ (r : Among xs (a, y)). t y r) h)) (written xs a))

module _ {E : Type 0} (m : Meaning E) where
  pub world_snoc : (n : ℕ) (w : List ℕ) (es : List E) (e : E) → world m n w (es ++ e ∷ [])
      ≡ applied (world m n w es) (m.writes e (n + length es))
  world_snoc n w [] e = ap (λ (k : ℕ). applied w (m.writes e k)) (let h : n ≡ n + 0 = omega arith in h)
  world_snoc n w (d ∷ es) e = world_snoc (suc n) (applied w (m.writes d n)) es e
      ∙ ap (λ (k : ℕ). applied (world m (suc n) (applied w (m.writes d n)) es) (m.writes e k))
      (let h : suc n + length es ≡ n + suc (length es) = omega arith in h)

  pub lawful_snoc : (n : ℕ) (w : List ℕ) (es : List E) (e : E) → Lawful m n w es → MayFollow m (n + length es) (world m n w es) e
      → Lawful m n w (es ++ e ∷ [])
  lawful_snoc n w [] e law may = (subst (λ (k : ℕ). MayFollow m k w e) (let h : n + 0 ≡ n = omega arith in h) may, tt)
  lawful_snoc n w (d ∷ es) e law may = (
    law.0,
    lawful_snoc (suc n) (applied w (m.writes d n)) es e law.1
        (subst (λ (k : ℕ). MayFollow m k (world m (suc n) (applied w (m.writes d n)) es) e)
        (let h : n + suc (length es) ≡ suc n + length es = omega arith in h) may),
  )

  pub inside_after : (w : List ℕ) (ws : List (ℕ × ℕ)) (a : ℕ) → MayWrite m.words w ws → Inside m.words w a
      → Inside m.words (applied w ws) a
  inside_after w ws a may inside = ⊎_elim (λ (t : a ≡ start_of a). inl t)
      (λ (t : a < m.words.top (slice_index w (start_of a))). let r = may.rises (start_of a)
      (let h : start_of a ≡ start_of (start_of a) = omega arith in h) in inr (omega arith)) inside

  pub still_plain : (ever more : List (ℕ × ℕ)) (x : ℕ × ℕ) → Plain m ever x → Plain m (ever ++ more) x
  still_plain ever ws x (inl h) = inl (among_left ever ws x h)
  still_plain ever ws x (inr h) = inr h

  pub still_logged : (log more : List E) (x : Numbered E) → IsLogged log x → IsLogged (log ++ more) x
  still_logged log more x h = (h.0, h.1, at_longer log more h.0 x.entry h.2)

  module _ (g : Given) where
    pub still_between : (w : List ℕ) (ws : List (ℕ × ℕ)) (x : ℕ × ℕ) → MayWrite m.words w ws → IsBetween m (words_of g) w x
        → IsBetween m (words_of g) (applied w ws) x
    still_between w ws x may h start = let r = may.rises x.0 start in let a = h start in let b = a.1 in (a.0, (omega arith))

    pub still_shown : (ever : List (ℕ × ℕ)) (w : List ℕ) (ws : List (ℕ × ℕ)) (x : ℕ × ℕ) → MayWrite m.words w ws
        → IsShown m (words_of g) ever w x → IsShown m (words_of g) (ever ++ ws) (applied w ws) x
    still_shown ever w ws x may h = record {
      plain = still_plain ever ws x h.plain;
      inside = inside_after w ws x.0 may h.inside;
      there = let l = length-applied w ws in let t = h.there in omega arith;
      final = λ final. ⊎_elim
          (λ (t : (y : ℕ) × Among ws (x.0, y)). absurd (true≢false
          (sym final ∙ ap m.words.is_final (sym (h.final final)) ∙ may.soft (x.0, t.0) t.1 h.inside)))
          (λ (t : (y : ℕ) → Among ws (x.0, y) → ⊥). applied_else w ws x.0 t ∙ h.final final) (written ws x.0);
      top = still_between w ws x may h.top;
    }
