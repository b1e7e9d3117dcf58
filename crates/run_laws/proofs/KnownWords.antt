-- Addresses in use: those of places, of processes and of the front.
use Rattle.std.proofs.Common.{◌≡◌, ℕ, ◌+◌, ◌-◌, List, [], ◌∷◌, subst, ⊎_elim, arith}
use Rattle.fcp_model.specs.declared.run.Place.{Place}
use Rattle.fcp_model.specs.Places.{made}
use Rattle.fcp_model.specs.States.{Process, State, Status, ready}
use Rattle.fcp_model.specs.Events.{Event}
use Rattle.fcp_model.specs.OneWorker.{Schedule}
use Rattle.heap_words.specs.Heaps.{IsHeap, inside_at}
use Rattle.heap_words.specs.HeapLaws.{inside_known, inside_below}
use Rattle.heap_words.specs.declared.cell.Cell.TheVariants as cell
use Rattle.heap_words.specs.declared.cell.Stand.TheVariants as stand
use Rattle.word_states.specs.Words.{At, IsIn}
use Rattle.word_states.specs.Standing.{Book, StandsFor, StatusSays, PlaceAt, ProcessAt}
use Rattle.word_states.specs.Trials.{AreAt}
use Rattle.word_states.specs.Going.{AllAt}
use Rattle.run_laws.specs.Running.{Setting, Counts, StandsAt, IsPlaceInUse, IsProcessInUse}
use Rattle.run_laws.proofs.Fronts.{front_of}
use Rattle.run_laws.proofs.Steps.{sound}
use Rattle.fcp_laws.proofs.SoundSchedules.{front_is_ready}

pub place_known : (ws : List ℕ) (book : Book) (s : State) (j : Place) (a : ℕ) → StandsFor book (inside_at ws) s → PlaceAt book j a
    → IsPlaceInUse ws a
place_known ws book s j a stands h =
    let n = stands.says.name (made j) a h in
    let w = stands.says.word (made j) a h in
    (n.0, inside_known ws a w.0 w.1, inside_known ws (a - 1) n.1.0 n.1.1)

pub process_known : (ws : List ℕ) (book : Book) (s : State) (q : ℕ) (x : Process) → IsHeap ws → StandsFor book (inside_at ws) s
    → ProcessAt book s q x → IsProcessInUse ws q
process_known ws book s q x heap stands h =
    let n = (stands.process q x h).name in
    let k = inside_known ws (q + 1) n.0 n.1 in
    (omega (arith, inside_below ws (q + 1) k, heap.small), k)

pub places_known : (ws : List ℕ) (book : Book) (s : State) (as' : List ℕ) (js : List Place) → StandsFor book (inside_at ws) s
    → AreAt book.places as' js → (a : ℕ) → IsIn a as' → IsPlaceInUse ws a
places_known ws book s [] js stands h a i = absurd i
places_known ws book s (b ∷ bs) [] stands h a i = absurd h
places_known ws book s (b ∷ bs) (j ∷ js) stands h a i = ⊎_elim
    (λ (e : b ≡ a). subst (IsPlaceInUse ws) e (place_known ws book s j b stands h.0))
    (λ (k : IsIn a bs). places_known ws book s bs js stands h.1 a k) i

pub processes_known : (ws : List ℕ) (book : Book) (s : State) (as' : List ℕ) (xs : List Process) → IsHeap ws
    → StandsFor book (inside_at ws) s → AllAt book s as' xs → (q : ℕ) → IsIn q as' → IsProcessInUse ws q
processes_known ws book s [] xs heap stands h q i = absurd i
processes_known ws book s (b ∷ bs) [] heap stands h q i = absurd h
processes_known ws book s (b ∷ bs) (x ∷ xs) heap stands h q i = ⊎_elim
    (λ (e : b ≡ q). subst (IsProcessInUse ws) e (process_known ws book s b x heap stands h.0))
    (λ (k : IsIn q bs). processes_known ws book s bs xs heap stands h.1 q k) i

-- the status at the front
ready_word : (limit x : ℕ) (st : Status) → StatusSays limit x st → st ≡ ready → StatusSays limit x ready
ready_word limit x st h e = subst (StatusSays limit x) e h

pub front_ready : (r : Setting) (ws rest : List ℕ) (p : ℕ) (c : Counts) (evs : List Event) (at : Schedule) (book : Book)
    → StandsAt r ws (p ∷ rest) c evs at book → At (inside_at ws) p (cell.Status stand.Ready)
front_ready r ws rest p c evs at book here =
    let f = front_of book at.state p rest at.queue here.queued in
    let found = front_is_ready at (sound r ws (p ∷ rest) c evs at book here) f.process f.behind f.queue in
    let s = (here.stands.process p f.process f.at_front).status in
    (s.0, s.1, ready_word at.state.entries s.0 f.process.status s.2 found.1)
