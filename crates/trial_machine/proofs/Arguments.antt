-- The arguments of a process, one after another.
use Rattle.std.proofs.Common.{◌≡◌, ℕ, zero, suc, ◌+◌, ◌<◌, true, List, [], ◌∷◌, ◌++◌, length, refl, sym, ap, ◌∙◌, subst}
use Rattle.std.proofs.Common.{◌⊎◌, ⊎_elim, inl, inr, arith, Option, Some, None}
use Rattle.std.specs.Prelude.{slice_get}
use Rattle.std.proofs.lemmas.List.{length-append}
use Rattle.std.proofs.lemmas.Option.{same_Some}
use Rattle.heap_words.specs.WordsLaws.{WordsLaws}
use Rattle.heap_words.specs.Trails.{WordList, word_at}
use Rattle.trial_laws.specs.AtHand.{AtHand}
use Rattle.trial_laws.specs.Leading.{IsTermWord}
use Rattle.stored_tries.proofs.Stores.{known_low}
use Rattle.try_desk.specs.Desks.{put_away, Becomes}
use Rattle.trial_machine.specs.Machines.{words_of}
use Rattle.trial_machine.specs.declared.machine.Machine.{Machine}
use Rattle.trial_machine.specs.Goals.{HasStatus, HasArguments, AreKept, IsIdle, HoldsArguments}
use Rattle.trial_machine.specs.Stores.{Loads}

-- the last of a list, and those before it
get_last : (xs : List ℕ) (x i y : ℕ) → slice_get (xs ++ x ∷ []) i ≡ Some y → ((i ≡ length xs) × (x ≡ y)) ⊎ (slice_get xs i ≡ Some y)
get_last [] x zero y e = inl (refl, same_Some x y e)
get_last [] x (suc i) y e = let h : None ≡ Some y = e in cc
get_last (z ∷ xs) x zero y e = inr e
get_last (z ∷ xs) x (suc i) y e =
    ⊎_elim (λ (h : (i ≡ length xs) × (x ≡ y)). inl (ap suc h.0, h.1)) (λ (h : slice_get xs i ≡ Some y). inr h) (get_last xs x i y e)

-- no argument was kept yet
pub none_kept : (kept : WordList) (p : ℕ) (args : List ℕ) → args ≡ [] → AreKept kept p 0 args
none_kept kept p args e = subst (AreKept kept p 0) (sym e) (record {
  count = refl;
  words = λ i x f. let h : None ≡ Some x = f in cc;
  terms = λ i x f. let h : None ≡ Some x = f in cc;
})

-- and one more
pub one_kept : (kept kept' : WordList) (p i x : ℕ) (args args' : List ℕ) → AreKept kept p i args
    → ((a y : ℕ) → word_at kept a ≡ Some y → word_at kept' a ≡ Some y) → word_at kept' (p + 4 + i) ≡ Some x → IsTermWord x
    → args' ≡ args ++ x ∷ [] → AreKept kept' p (i + 1) args'
one_kept kept kept' p i x args args' h grows e term is = subst (AreKept kept' p (i + 1)) (sym is) (record {
  count = let k = h.count in let l = length-append args (x ∷ []) in omega arith;
  words = λ j y f. ⊎_elim
      (λ (k : (j ≡ length args) × (x ≡ y)). let at : i ≡ j = sym (k.0 ∙ h.count) in
      subst (λ (n : ℕ). word_at kept' (p + 4 + n) ≡ Some y) at (e ∙ ap Some k.1))
      (λ (k : slice_get args j ≡ Some y). grows (p + 4 + j) y (h.words j y k)) (get_last args x j y f);
  terms = λ j y f. ⊎_elim (λ (k : (j ≡ length args) × (x ≡ y)). subst IsTermWord k.1 term) (λ (k : slice_get args j ≡ Some y). h.terms
      j y k)
      (get_last args x j y f);
})

module _ {S : Type 0} {addresses : S → ℕ} {sound : S → Type 0} {knows : S → ℕ → Type 0} {had : S → ℕ → ℕ → Type 0} {leads : S → ℕ → Type 0}
    {own shown : S → ℕ → Option ℕ} {later : S → S → Type 0} {gave : S → S → ℕ → ℕ → Type 0}
    (laws : WordsLaws {S = S} addresses sound knows had leads own shown later gave) where
  -- the words of arguments stand at known addresses
  pub argument_known : (kept kept' : WordList) (w w' : S) (p i n : ℕ) → HasStatus had w p → later w w' → HasArguments kept p n
      → Loads addresses sound had shown later gave kept w kept' w' → i < n → knows w' (p + 4 + i) × (p + 4 + i < 4000000000)
  argument_known kept kept' w w' p i n status l has loads below =
      let y = has.1 in
      let least = has.2 in
      let s = loads.stored in
      let known : knows w' (p + 4 + i) = laws.arguments w' p status.0 y.0 has.0 (p + 4 + i) status.1 s.sound
      (laws.stays_had w w' p status.0 l status.2) status.3
      (s.had (p + 3) y.0 (loads.grows (p + 3) y.0 y.1)) y.2 (omega arith) (omega arith) in
      (known, known_low laws kept' w' (p + 4 + i) s.sound s.few known)

-- the slots hold the arguments
pub arguments_held : (m n : Machine) → IsIdle m → n.desk.slots.args ≡ m.desk.slots.args → n.trail ≡ m.trail → n.waits ≡ m.waits
    → Becomes m.desk n.desk (put_away m.desk.slots.args true) → HoldsArguments n
arguments_held m n h args trail waits b = record {
  idle = record {
    pieces = ap (λ (q : AtHand). q.pieces) (b [] [] []);
    behind = ap (λ (q : AtHand). q.behind) (b [] [] []);
    binds = ap (λ t. t.binds) trail ∙ h.binds;
    reads = ap (λ t. t.reads.items) trail ∙ h.reads;
    waits = waits ∙ h.waits;
  };
  slots = λ i. ap (λ (q : AtHand). q.slots i) (b [] [] []) ∙ ap (λ (l : List ℕ). words_of l i) (sym args);
  operators = λ i. ap (λ (q : AtHand). q.operators i) (b [] [] []);
}

-- a number that was kept stays
pub has_on : (kept kept' : WordList) (p n : ℕ) → ((a x : ℕ) → word_at kept a ≡ Some x → word_at kept' a ≡ Some x)
    → HasArguments kept p n → HasArguments kept' p n
has_on kept kept' p n grows h = (h.0, (h.1.0, grows (p + 3) h.1.0 h.1.1, h.1.2), h.2)
