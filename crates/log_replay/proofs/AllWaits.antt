-- The places on which several processes wait, and the lines of the processes of a state.
use Rattle.std.proofs.Common.{◌≡◌, ℕ, suc, ◌+◌, ◌-◌, ◌<◌, true, List, [], ◌∷◌, ◌++◌, length, take, map, get_or, Some, refl, sym, ap, ◌∙◌, subst}
use Rattle.std.specs.List.{AllZip}
use Rattle.std.proofs.lemmas.List.{take_more}
use Rattle.fcp_model.specs.Programs.{Program}
use Rattle.fcp_model.specs.States.{Process, State}
use Rattle.fcp_model.specs.LawfulStates.{IsOrdered, IsLawfulState}
use Rattle.heap_words.specs.Heaps.{is_inside, inside_at}
use Rattle.heap_words.specs.HeapLaws.{inside_known}
use Rattle.ro_unify.specs.Occurs.{Each}
use Rattle.word_states.specs.Words.{IsIn}
use Rattle.word_states.specs.Standing.{Book, StandsFor}
use Rattle.word_states.specs.Going.{AllAt}
use Rattle.machine_code.specs.Compiling.{Tables}
use Rattle.trial_machine.specs.Deciding.{IsCodeOf}
use Rattle.ready_lists.specs.Ready.{AreLive}
use Rattle.ready_lists.specs.Laws.{LiveAreThoseOfTheState}
use Rattle.process_texts.specs.Lines.{AreWaits, HasGiven, AreProcessesThere}
use Rattle.commit_engine.specs.declared.plain_hall.PlainHall.{PlainHall}
use Rattle.commit_engine.specs.PlainHalls.{IsSame}
use Rattle.commit_engine.specs.PlainLaws.{plain_words}
use Rattle.log_replay.specs.Replays.{IsAtRest}
use Rattle.log_replay.specs.Waits.{IsProcess, AreTold}
use Rattle.log_replay.proofs.FirstReplays.{rest_same}

-- a hall is at rest still where nothing changed
pub rest_later : (g h : PlainHall) → IsAtRest g → IsSame g h → IsAtRest h
rest_later g h rest same = rest_same g h same (plain_words.stays_sound g h rest.plain same) rest.free rest.idle

-- one more of each of two lists
zip_push : {A B : Type 0} (R : A → B → Type 0) (xs : List A) (ys : List B) (x : A) (y : B) → AllZip R xs ys → R x y
    → AllZip R (xs ++ x ∷ []) (ys ++ y ∷ [])
zip_push R [] [] x y h r = (r, tt)
zip_push R [] (v ∷ ys) x y h r = absurd h
zip_push R (u ∷ xs) [] x y h r = absurd h
zip_push R (u ∷ xs) (v ∷ ys) x y h r = (h.0, zip_push R xs ys x y h.1 r)

pub zip_next : {A B : Type 0} (R : A → B → Type 0) (xs : List A) (ys zs : List B) (i : ℕ) (d : A) (y : B) → i < length xs
    → AllZip R (take i xs) ys → R (get_or xs i d) y → zs ≡ ys ++ y ∷ [] → AllZip R (take (i + 1) xs) zs
zip_next R xs ys zs i d y l h r e =
    subst (λ us. AllZip R us zs) (sym (take_more xs i d l))
    (subst (AllZip R (take i xs ++ get_or xs i d ∷ [])) (sym e) (zip_push R (take i xs) ys (get_or xs i d) y h r))

pub zip_long : {A B : Type 0} (R : A → B → Type 0) (xs : List A) (ys : List B) → AllZip R xs ys → length ys ≡ length xs
zip_long R [] [] h = refl
zip_long R [] (y ∷ ys) h = absurd h
zip_long R (x ∷ xs) [] h = absurd h
zip_long R (x ∷ xs) (y ∷ ys) h = ap suc (zip_long R xs ys h.1)

-- the status of each live process stands at its address
pub live_process : (ws qs : List ℕ) → AreLive ws qs → (q : ℕ) → IsIn q qs → IsProcess ws q
live_process ws qs live q i = let r = live.only q i in (r.0, r.2)

pub process_inside : (ws : List ℕ) (q : ℕ) → IsProcess ws q → is_inside ws q ≡ true
process_inside ws q h = inside_known ws q h.1.0 h.1.1

-- lists of places, one for each process
module _ {V : Type 0} (items : V → List ℕ) (t : Tables) (ws : List ℕ) where
  abbrev pub AllTold : List ℕ → List V → Type 0
  AllTold qs vs = AllZip (λ q v. AreTold t ws q (items v)) qs vs

  pub names_known : (qs : List ℕ) (vs : List V) → AllTold qs vs
      → Each (λ v. (a : ℕ) → IsIn a (items v) → (0 < a) × (is_inside ws (a - 1) ≡ true)) vs
  names_known [] [] h = tt
  names_known [] (v ∷ vs) h = absurd h
  names_known (q ∷ qs) [] h = absurd h
  names_known (q ∷ qs) (v ∷ vs) h =
      (λ a i. let u = h.0.known a i in (u.0, u.2), names_known qs vs h.1)

  -- they are those of the processes of a lawful state
  all_wait : (m : Program) (book : Book) (s : State) (qs : List ℕ) (vs : List V) (ys : List Process) → IsCodeOf t m
      → StandsFor book (inside_at ws) s → IsLawfulState m s → AllTold qs vs → AllAt book s qs ys
      → AllZip (λ as' y. AreWaits book as' y.status) (map items vs) ys
  all_wait m book s [] [] [] code stands lawful told at = tt
  all_wait m book s [] [] (y ∷ ys) code stands lawful told at = absurd at
  all_wait m book s [] (v ∷ vs) ys code stands lawful told at = absurd told
  all_wait m book s (q ∷ qs) [] ys code stands lawful told at = absurd told
  all_wait m book s (q ∷ qs) (v ∷ vs) [] code stands lawful told at = absurd at
  all_wait m book s (q ∷ qs) (v ∷ vs) (y ∷ ys) code stands lawful told at =
      (told.0.waits m book s y code stands at.0 lawful, all_wait m book s qs vs ys code stands lawful told.1 at.1)

  -- so these are the live processes of the state, with the places on which they wait
  pub processes_there : LiveAreThoseOfTheState → (m : Program) (book : Book) (s : State) (qs : List ℕ) (vs : List V) → IsCodeOf t m
      → StandsFor book (inside_at ws) s → IsOrdered s → IsLawfulState m s → AreLive ws qs → AllTold qs vs
      → AreProcessesThere (inside_at ws) book s qs (map items vs)
  processes_there law m book s qs vs code stands ordered lawful live told =
      let at = law ws qs book s live stands ordered in record {
        stands = stands;
        at = at;
        places = all_wait m book s qs vs _ code stands lawful told at;
      }

-- what the loads of a plain hall gave stands there
pub given_there : (ws : List ℕ) (g h : PlainHall) → g.words.items ≡ ws → IsSame g h
    → HasGiven (λ a x. IsSame g h × (inside_at h.words.items a ≡ Some x)) (inside_at ws)
given_there ws g h words same a x given low =
    subst (λ (xs : List ℕ). inside_at xs a ≡ Some x) (same.words ∙ words) given.1
