-- Words of which another writer binds one place are a store, and a goal that was laid gives such words.
use Rattle.std.proofs.Common.{◌≡◌, ℕ, ◌<◌, Bool, true, false, [], length, Some, refl, sym, ap, ◌∙◌, subst, cond, inl, inr}
use Rattle.std.specs.Prelude.{ℤ, nat_eq}
use Rattle.std.proofs.lemmas.Bool.{eqb-true}
use Rattle.heap_words.specs.Cells.{decoded, is_final_word, is_final_in}
use Rattle.heap_words.specs.Heaps.{inside_at, final_at}
use Rattle.heap_words.specs.HeapLaws.{inside_known}
use Rattle.heap_words.specs.declared.cell.Cell.TheVariants.{Unbound, Small}
use Rattle.laid_texts.specs.declared.goals.LaidGoal.{LaidGoal}
use Rattle.safe_tries.specs.Stored.{IsStored}
use Rattle.safe_tries.proofs.LowWords.{shown_low}
use Rattle.stored_heaps.proofs.Stores.{final_is}
use Rattle.trial_rows.specs.Turns.{Picture, picture, MayTurn, IsGiven, shown_in}
use Rattle.trial_rows.specs.TurnLaws.{turn_laws}
use Rattle.trial_rows.specs.Prepared.{IsPrepared}

-- what is shown may be given
shown_given : (p : Picture) (a x : ℕ) → shown_in p a ≡ Some x → IsGiven p a x
shown_given p a x e = go (nat_eq a p.place) refl e
  where
    go : (b : Bool) → nat_eq a p.place ≡ b → cond b (Some p.bound) (final_at p.words a) ≡ Some x → IsGiven p a x
    go true i h = inr (eqb-true a p.place i, (let k : p.bound ≡ x = cc in sym k))
    go false i h = inl (final_is (inside_at p.words a) x h)

pub turn_stored : {S : Type 0} (pic : S → Picture) (s : S) → MayTurn (pic s)
    → IsStored {S = S} (λ t. length (pic t).words) (λ t. MayTurn (pic t)) (λ t a x. IsGiven (pic t) a x) (λ t. shown_in (pic t))
    (λ t u. pic t ≡ pic u) [] s
turn_stored pic s m = record {
  sound = m;
  few = m.heap.small;
  low = λ v l.
      let t : MayTurn (pic v) = subst MayTurn l m in shown_low (turn_laws pic) v t t.heap.small (λ a x e. shown_given (pic v) a x e);
  had = λ a x e. cc;
}

-- the word of an unbound place is not final
not_final : (x e : ℕ) → decoded x ≡ Some (Unbound e) → is_final_word x ≡ false
not_final x e d = ap is_final_in d

-- the first place of a goal may be bound to a number
pub may_turn : (l : LaidGoal) (x : ℕ) (n : ℤ) → IsPrepared l → 0 < l.variables → decoded x ≡ Some (Small n)
    → MayTurn (picture l.heap.words.items 2 x)
may_turn l x n p some d =
    let u = p.place some in
    record {
      heap = p.heap;
      there = inside_known l.heap.words.items 2 u.1.0 u.1.1;
      free = λ y e. not_final y u.0 (let k : u.1.0 ≡ y = (let h : Some u.1.0 ≡ Some y = sym u.1.1 ∙ e in cc) in ap decoded (sym k) ∙ u.1.2);
      number = (n, d);
    }
