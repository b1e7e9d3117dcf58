-- Sleepers that are gathered entry by entry, and place by place.
use Rattle.std.proofs.Common.{◌≡◌, ℕ, zero, suc, ◌+◌, ◌<◌, Bool, true, false, List, [], ◌∷◌, ◌++◌, length, Option, Some, None, refl}
use Rattle.std.proofs.Common.{sym, subst, arith}
use Rattle.std.proofs.Common.{inl, inr, ⊎_elim, take, get_or}
use Rattle.std.specs.Prelude.{◌⊎◌}
use Rattle.std.proofs.lemmas.List.{take_more}
use Rattle.word_states.specs.Words.{Words, IsIn}
use Rattle.suspension_lists.specs.Cells.{number_of, waits_by}
use Rattle.suspension_lists.specs.Waking.{Within}
use Rattle.suspension_lists.specs.Entries.{IsOneOf, ListHas}
use Rattle.suspension_lists.specs.Sleepers.{HangsBy, IsSleeper, Judges, pushed, Adds, AddsPlace, AreWaiting}
use Rattle.suspension_lists.specs.declared.entries.Entry.{Entry}
use Rattle.suspension_lists.specs.declared.sleepers.Sleeper.{Sleeper}
use Rattle.suspension_lists.proofs.Lists.{tells_on, list_on, one_of_old, one_of_new, one_of_split}

module _ {w w' : Words} (on : Within w w') where
  pub hangs_on : (a : Entry) (b : Bool) → HangsBy w a b → HangsBy w' a b
  hangs_on a b h = record {
    number = h.number;
    hang = tells_on on number_of (a.at + 1) h.number h.hang;
    status = tells_on on (waits_by h.number) a.process b h.status;
  }

  pub sleeper_on : (a : Entry) (s : Sleeper) → IsSleeper w a s → IsSleeper w' a s
  sleeper_on a s i =
      record { same = i.same; hangs = hangs_on a true i.hangs; name = tells_on on number_of (a.process + 1) s.name i.name }

  pub found_on : (a : Entry) (ss : List Sleeper) → ((s : Sleeper) × IsOneOf s ss × IsSleeper w a s) ⊎ HangsBy w a false
      → ((s : Sleeper) × IsOneOf s ss × IsSleeper w' a s) ⊎ HangsBy w' a false
  found_on a ss f = ⊎_elim (λ i. inl (i.0, i.1, sleeper_on a i.0 i.2)) (λ i. inr (hangs_on a false i)) f

pub found_more : (w : Words) (a : Entry) (ss ts : List Sleeper) → ((s : Sleeper) → IsOneOf s ss → IsOneOf s ts)
    → ((s : Sleeper) × IsOneOf s ss × IsSleeper w a s) ⊎ HangsBy w a false
    → ((s : Sleeper) × IsOneOf s ts × IsSleeper w a s) ⊎ HangsBy w a false
found_more w a ss ts more f = ⊎_elim (λ i. inl (i.0, more i.0 i.1, i.2)) (λ i. inr i) f

-- nothing yet, and an entry more
pub adds_none : (w : Words) (ss : List Sleeper) → Adds w [] ss ss
adds_none w ss = record { keeps = λ s i. i; all = λ a i. absurd i; only = λ s i. inl i }

pushed_keeps : (o : Option Sleeper) (ss : List Sleeper) (s : Sleeper) → IsOneOf s ss → IsOneOf s (pushed o ss)
pushed_keeps None ss s i = i
pushed_keeps (Some t) ss s i = one_of_old ss s t i

judged : (w : Words) (a : Entry) (o : Option Sleeper) (ss : List Sleeper) → Judges w a o
    → ((s : Sleeper) × IsOneOf s (pushed o ss) × IsSleeper w a s) ⊎ HangsBy w a false
judged w a None ss j = inr j
judged w a (Some s) ss j = inl (s, one_of_new ss s, j)

pushed_only : (w : Words) (a : Entry) (o : Option Sleeper) (ss : List Sleeper) → Judges w a o → (s : Sleeper)
    → IsOneOf s (pushed o ss) → IsOneOf s ss ⊎ IsSleeper w a s
pushed_only w a None ss j s i = inl i
pushed_only w a (Some t) ss j s i =
    ⊎_elim (λ k. inl k) (λ k. inr (subst (λ (u : Sleeper). IsSleeper w a u) k j)) (one_of_split ss s t i)

pub adds_more : {w w' : Words} → Within w w' → (as' : List Entry) (a : Entry) (old mid : List Sleeper) (o : Option Sleeper)
    → Adds w as' old mid → Judges w' a o → Adds w' (as' ++ a ∷ []) old (pushed o mid)
adds_more {w' = w'} on as' a old mid o h j = record {
  keeps = λ s i. pushed_keeps o mid s (h.keeps s i);
  all = λ b i. ⊎_elim (λ k. found_more w' b mid (pushed o mid) (pushed_keeps o mid) (found_on on b mid (h.all b k)))
      (λ k. subst (λ (c : Entry). ((s : Sleeper) × IsOneOf s (pushed o mid) × IsSleeper w' c s) ⊎ HangsBy w' c false) k
      (judged w' a o mid j)) (one_of_split as' b a i);
  only = λ s i. ⊎_elim
      (λ k. ⊎_elim (λ l. inl l) (λ l. inr (l.0, one_of_old as' l.0 a l.1, sleeper_on on l.0 s l.2)) (h.only s k))
      (λ k. inr (a, one_of_new as' a, k)) (pushed_only w' a o mid j s i);
}

-- what stands at a position of a list is one of it
pub one_there : {A : Type 0} (xs : List A) (i : ℕ) (d : A) → i < length xs → IsOneOf (get_or xs i d) xs
one_there [] i d l = absurd (omega (arith, l))
one_there (x ∷ xs) zero d l = inl refl
one_there (x ∷ xs) (suc i) d l = inr (one_there xs i d (omega (arith, l)))

-- the step of a loop over entries
pub adds_next : {w w' : Words} → Within w w' → (es : List Entry) (i : ℕ) (d : Entry) (old mid : List Sleeper) (o : Option Sleeper)
    → i < length es → Adds w (take i es) old mid → Judges w' (get_or es i d) o → Adds w' (take (i + 1) es) old (pushed o mid)
adds_next {w' = w'} on es i d old mid o l h j =
    subst (λ (as' : List Entry). Adds w' as' old (pushed o mid)) (sym (take_more es i d l))
    (adds_more on (take i es) (get_or es i d) old mid o h j)

in_old : (bs : List ℕ) (b c : ℕ) → IsIn c bs → IsIn c (bs ++ b ∷ [])
in_old [] b c i = absurd i
in_old (d ∷ ds) b c i = ⊎_elim (λ j. inl j) (λ j. inr (in_old ds b c j)) i

in_new : (bs : List ℕ) (b : ℕ) → IsIn b (bs ++ b ∷ [])
in_new [] b = inl refl
in_new (d ∷ ds) b = inr (in_new ds b)

in_split : (bs : List ℕ) (b c : ℕ) → IsIn c (bs ++ b ∷ []) → IsIn c bs ⊎ (b ≡ c)
in_split [] b c i = ⊎_elim (λ j. inr j) (λ j. absurd j) i
in_split (d ∷ ds) b c i = ⊎_elim (λ j. inl (inl j)) (λ j. ⊎_elim (λ l. inl (inr l)) (λ l. inr l) (in_split ds b c j)) i

-- what stands at a position of a list of addresses is in it
pub in_there : (bs : List ℕ) (i : ℕ) → i < length bs → IsIn (get_or bs i 0) bs
in_there [] i l = absurd (omega (arith, l))
in_there (b ∷ bs) zero l = inl refl
in_there (b ∷ bs) (suc i) l = inr (in_there bs i (omega (arith, l)))

-- no place yet, and a place more
pub waiting_none : (w : Words) → AreWaiting w [] []
waiting_none w = record { all = λ b i. absurd i; only = λ s i. absurd i }

waiting_more : {w w' : Words} → Within w w' → (bs : List ℕ) (b : ℕ) (old new : List Sleeper) → AreWaiting w bs old
    → AddsPlace w' b old new → AreWaiting w' (bs ++ b ∷ []) new
waiting_more {w' = w'} on bs b old new h j = record {
  all = λ c i. ⊎_elim (λ l.
      let r = h.all c l in
      (r.0, list_on on c r.0 r.1, λ a o. found_more w' a old new j.adds.keeps (found_on on a old (r.2 a o))))
      (λ l. subst (λ (c : ℕ). (as' : List Entry) × ListHas w' c as'
      × ((a : Entry) → IsOneOf a as' → ((s : Sleeper) × IsOneOf s new × IsSleeper w' a s) ⊎ HangsBy w' a false)) l
      (j.entries, j.list, j.adds.all)) (in_split bs b c i);
  only = λ s i. ⊎_elim (λ l.
      let r = h.only s l in
      (r.0, in_old bs b r.0 r.1, (r.2.0, list_on on r.0 r.2.0 r.2.1, (r.2.2.0, r.2.2.1, sleeper_on on r.2.2.0 s r.2.2.2))))
      (λ l. (b, in_new bs b, (j.entries, j.list, l))) (j.adds.only s i);
}

-- the step of a loop over places
pub waiting_next : {w w' : Words} → Within w w' → (bs : List ℕ) (i : ℕ) (old new : List Sleeper) → i < length bs
    → AreWaiting w (take i bs) old → AddsPlace w' (get_or bs i 0) old new → AreWaiting w' (take (i + 1) bs) new
waiting_next {w' = w'} on bs i old new l h j =
    subst (λ (cs : List ℕ). AreWaiting w' cs new) (sym (take_more bs i 0 l))
    (waiting_more on (take i bs) (get_or bs i 0) old new h j)

-- the same sleepers in another order
pub waiting_same : {w : Words} {bs : List ℕ} {old new : List Sleeper} → ((s : Sleeper) → (IsOneOf s old → IsOneOf s new)
    × (IsOneOf s new → IsOneOf s old)) → AreWaiting w bs old → AreWaiting w bs new
waiting_same {w = w} {old = old} {new = new} same h = record {
  all = λ b i. let r = h.all b i in (r.0, r.1, λ a o. found_more w a old new (λ s j. (same s).0 j) (r.2 a o));
  only = λ s i. h.only s ((same s).1 i);
}
