-- What single loads read.
use Rattle.std.proofs.Common.{◌≡◌, ℕ, zero, suc, ◌+◌, ◌<◌, List, [], ◌∷◌, ◌++◌, length, take, refl, sym, ap, ◌∙◌, subst, inl, inr, ⊎_elim}
use Rattle.std.proofs.Common.{Option, Some, None, get_or, arith}
use Rattle.std.proofs.lemmas.List.{take_more}
use Rattle.std.proofs.lemmas.Option.{same_Some}
use Rattle.heap_words.specs.Cells.{decoded}
use Rattle.heap_words.specs.Trails.{WordList, word_at, AreOnce}
use Rattle.heap_words.specs.WordsLaws.{WordsLaws}
use Rattle.heap_words.specs.declared.cell.Cell.TheVariants.{Unbound}
use Rattle.heap_words.specs.declared.cell.Stand.TheVariants.{Ready}
use Rattle.word_states.specs.Led.{ReadsPlace}
use Rattle.word_states.specs.Trials.{AreReads}
use Rattle.word_states.specs.Words.{At, Among, IsIn, addresses_of}
use Rattle.word_states.proofs.Lists.{among_word, apart_word, among_either}
use Rattle.machine_code.specs.Compiling.{Tables}
use Rattle.page_layout.specs.Hangs.{threes}
use Rattle.safe_tries.specs.Stored.{IsStored}
use Rattle.stored_tries.proofs.Lists.{once_apart, once_word}
use Rattle.stored_tries.proofs.Stores.{kept_low}
use Rattle.suspension_lists.specs.Cells.{list_of}
use Rattle.trial_machine.specs.Goals.{NumberRead, HasStatus}
use Rattle.word_moves.specs.Planned.{ReadsProcess}
use Rattle.move_plans.specs.declared.mover.Mover.{Mover}
use Rattle.move_plans.specs.declared.mover.Mover.TheVariants.{Named, Other, Nowhere}
use Rattle.move_plans.specs.Movers.{MoverSays, MoverRead}
use Rattle.move_plans.specs.Places.{PutsPlace, HasPlaces}
use Rattle.move_plans.specs.Sizes.{CellsRead}
use Rattle.move_plans.proofs.Rereading.{Grows}

-- the process, by the words of its status and of its name
pub mover_read : (kept : WordList) (p x y : ℕ) (r : Mover) → word_at kept p ≡ Some x → word_at kept (p + 1) ≡ Some y
    → MoverSays (decoded x) (decoded y) r → MoverRead kept p r
mover_read kept p x y (Named z) h k s = (record { status = (x, h, s.0); name = (y, k, s.1) }, s.2)
mover_read kept p x y (Other d) h k s = (x, h, s.0, s.1)
mover_read kept p x y Nowhere h k s = tt

-- a number that was read stays
pub number_more : (kept kept' : WordList) (a : ℕ) (o : Option ℕ) → Grows kept kept' → NumberRead kept a o → NumberRead kept' a o
number_more kept kept' a None grows r = (r.0, grows a r.0 r.1, r.2)
number_more kept kept' a (Some n) grows r = (r.0, grows a r.0 r.1, r.2)

-- and so do the cells
pub cells_more : (t : Tables) (kept kept' : WordList) (p k cells : ℕ) → Grows kept kept' → CellsRead t kept p k cells
    → CellsRead t kept' p k cells
cells_more t kept kept' p k cells grows r =
    (r.0, r.1, number_more kept kept' (p + 2) r.0 grows r.2, number_more kept kept' (p + 3) r.1 grows r.3, r.4)

-- and a process
pub process_more : (kept kept' : WordList) (p z : ℕ) → Grows kept kept' → ReadsProcess kept p z → ReadsProcess kept' p z
process_more kept kept' p z grows r = record {
  status = (r.status.0, grows p r.status.0 r.status.1, r.status.2);
  name = (r.name.0, grows (p + 1) r.name.0 r.name.1, r.name.2);
}

module _ {S : Type 0} {addresses : S → ℕ} {sound : S → Type 0} {knows : S → ℕ → Type 0} {had : S → ℕ → ℕ → Type 0} {leads : S → ℕ → Type 0}
    {own shown : S → ℕ → Option ℕ} {later : S → S → Type 0} {gave : S → S → ℕ → ℕ → Type 0}
    (laws : WordsLaws {S = S} addresses sound knows had leads own shown later gave) where
  -- what a trail kept is a list of reads
  pub are_reads : (kept : WordList) (w : S) → IsStored addresses sound had shown later kept w → AreOnce kept → AreReads kept
  are_reads kept w s once = record {
    apart = once_apart kept once;
    below = λ a x h. kept_low laws kept w s a x (once_word kept once a x h);
  }

  -- the status of a process that was read was loaded
  pub status_had : (kept : WordList) (w : S) (p z : ℕ) → IsStored addresses sound had shown later kept w → ReadsProcess kept p z
      → HasStatus had w p
  status_had kept w p z s r = (r.status.0, Ready, s.had p r.status.0 r.status.1, r.status.2)

  -- a place that was read is known
  pub place_known : (kept : WordList) (w : S) (a : ℕ) → IsStored addresses sound had shown later kept w
      → (e : ℕ) × ReadsPlace kept a e → knows w a
  place_known kept w a s r = let m = among_word kept a r.1.0 r.1.1 in laws.had_known w a m.0 s.sound (s.had a m.0 m.1)

-- a place at a position is among them
pub is_there : (bs : List ℕ) (i : ℕ) → i < length bs → IsIn (get_or bs i 0) bs
is_there [] i l = absurd (omega (arith, l))
is_there (b ∷ bs) zero l = inl refl
is_there (b ∷ bs) (suc i) l = inr (is_there bs i (omega arith))

-- places, one after another
pub no_places : (kept : WordList) → HasPlaces kept [] []
no_places kept = record { same = refl; each = λ a e h. absurd h }

pub places_more : (kept kept' : WordList) (places : List ℕ) (lists lists' : WordList) (i : ℕ) → Grows kept kept' → i < length places
    → HasPlaces kept (take i places) lists → PutsPlace kept' (get_or places i 0) lists lists' → HasPlaces kept' (take (i + 1) places) lists'
places_more kept kept' places lists lists' i grows below h put = record {
  same = ap addresses_of put.2 ∙ ends lists ∙ ap (λ (l : List ℕ). l ++ get_or places i 0 ∷ []) h.same ∙ sym (take_more places i 0 below);
  each = λ a e m. ⊎_elim
      (λ (k : Among lists (a, e)). let r = h.each a e k in (r.0, grows a r.0 r.1, r.2))
      (λ (k : Among ((get_or places i 0, list_of (decoded put.0)) ∷ []) (a, e)). last a e k)
      (among_either lists _ (a, e) (subst (λ (l : WordList). Among l (a, e)) put.2 m));
}
  where
    ends : (ls : WordList)
        → addresses_of (ls ++ (get_or places i 0, list_of (decoded put.0)) ∷ []) ≡ addresses_of ls ++ get_or places i 0 ∷ []
    ends [] = refl
    ends (l ∷ ls) = ap (λ (k : List ℕ). l.0 ∷ k) (ends ls)

    last : (a e : ℕ) → Among ((get_or places i 0, list_of (decoded put.0)) ∷ []) (a, e)
        → (x : ℕ) × (word_at kept' a ≡ Some x) × (e ≡ list_of (decoded x))
    last a e (inl q) =
        let same : get_or places i 0 ≡ a = ap (λ (z : ℕ × ℕ). z.0) q in
        (put.0, subst (λ (b : ℕ). word_at kept' b ≡ Some put.0) same put.1, sym (ap (λ (z : ℕ × ℕ). z.1) q))
    last a e (inr n) = absurd n

-- the list of an unbound place
pub place_unbound : (kept : WordList) (a e : ℕ) → AreReads kept → (d : ℕ) × ReadsPlace kept a d
    → (x : ℕ) × (word_at kept a ≡ Some x) × (e ≡ list_of (decoded x)) → At (word_at kept) a (Unbound e)
place_unbound kept a e reads r h =
    let there : word_at kept a ≡ Some r.1.0 = apart_word kept a r.1.0 reads.apart r.1.1 in
    let same : h.0 ≡ r.1.0 = same_Some h.0 r.1.0 (sym h.1 ∙ there) in
    let first : e ≡ r.0 = h.2 ∙ ap (λ (x : ℕ). list_of (decoded x)) same ∙ ap list_of r.1.2 in
    (r.1.0, there, r.1.2 ∙ ap (λ (f : ℕ). Some (Unbound f)) (sym first))

-- one more waiting entry
pub threes_more : (n : ℕ) → threes n ++ 3 ∷ [] ≡ threes (suc n)
threes_more zero = refl
threes_more (suc n) = ap (λ (l : List ℕ). 3 ∷ l) (threes_more n)
