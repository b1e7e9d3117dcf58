-- A plain heap as a store, and a process and places that were laid.
use Rattle.std.proofs.Common.{◌≡◌, ℕ, ◌*◌, ◌≤◌, List, [], ◌∷◌, length, slice_get, Option, Some, None, refl, subst}
use Rattle.std.proofs.Common.{inl, Bool, true, false, cond}
use Rattle.fcp_model.specs.declared.source.GoalText.{GoalText}
use Rattle.fcp_model.specs.declared.source.Module.{Module}
use Rattle.fcp_model.specs.Places.{Variable, made, place}
use Rattle.fcp_model.specs.Terms.{Term, find}
use Rattle.fcp_model.specs.States.{Status, ready, waiting, finished, Process}
use Rattle.fcp_model.specs.Translation.{start_of}
use Rattle.heap_words.specs.Cells.{decoded, is_final_word}
use Rattle.heap_words.specs.Heaps.{IsHeap, inside_at, only_final}
use Rattle.heap_words.specs.HeapLaws.{heap_laws}
use Rattle.heap_words.specs.declared.cell.Cell.TheVariants.{Unbound}
use Rattle.heap_words.specs.declared.cell.Cell.TheVariants as cell
use Rattle.heap_words.specs.declared.cell.Stand.TheVariants as stand
use Rattle.heap_words.specs.declared.cell.Stand.{Stand}
use Rattle.heap_words.specs.declared.heap.PlainHeap.{PlainHeap}
use Rattle.word_states.specs.Words.{At}
use Rattle.word_states.specs.Standing.{StandsAt, StatusSays, PlaceSays}
use Rattle.word_states.proofs.Leading.{open_short}
use Rattle.goal_layout.specs.Goals.{LaysGoal}
use Rattle.safe_tries.proofs.LowWords.{shown_low}
use Rattle.trial_machine.specs.Goals.{HasStatus}
use Rattle.stored_heaps.specs.Laws.{IsStoredHeap, gives}

-- a final word stands there
pub final_is : (o : Option ℕ) (x : ℕ) → only_final o ≡ Some x → o ≡ Some x
final_is None x e = cc
final_is (Some y) x e = go (is_final_word y) e
  where
    go : (b : Bool) → cond b (Some y) None ≡ Some x → Some y ≡ Some x
    go true f = f
    go false f = cc

-- a heap is a store
pub heap_stored : (h : PlainHeap) → IsHeap h.words.items → IsStoredHeap h
heap_stored h s = record {
  sound = s;
  few = s.small;
  low = λ v l.
      let t : IsHeap v.words.items = subst IsHeap l s in
      shown_low heap_laws v t t.small (λ a x e. final_is (inside_at v.words.items a) x e);
  had = λ a x e. cc;
}

-- the word of a status decodes to one
status_of : (limit x : ℕ) (s : Status) → StatusSays limit x s → (d : Stand) × (decoded x ≡ Some (cell.Status d))
status_of limit x ready e = (stand.Ready, e)
status_of limit x finished e = (stand.Done, e)
status_of limit x (waiting ps) e = (stand.Waiting e.0, e.1)

-- the first of the addresses is that of some process, where there are as many of both
first_stands : (ps : List ℕ) (qs : List Process) (p : ℕ) → length ps ≡ length qs → slice_get ps 0 ≡ Some p
    → (q : Process) × StandsAt ps qs p q
first_stands [] qs p n e = cc
first_stands (a ∷ ps) [] p n e = cc
first_stands (a ∷ ps) (q ∷ qs) p n e = (q, inl ((let h : a ≡ p = cc in h), refl))

-- and has a status
pub first_status : (h : PlainHeap) (m : Module) (g : GoalText) (p : ℕ) (ws : List ℕ) → LaysGoal m g p ws h.words.items
    → HasStatus gives h p
first_status h m g p ws l =
    let s = start_of m g in
    let f = first_stands l.book.processes s.processes p l.stands.processes l.first in
    let k = (l.stands.process p f.0 f.1).status in
    let d = status_of s.entries k.0 f.0.status k.2 in
    (k.0, d.0, k.1, d.1)

-- the place of a variable is not bound
pub place_unbound : (h : PlainHeap) (m : Module) (g : GoalText) (p : ℕ) (ws : List ℕ) (k : ℕ) → LaysGoal m g p ws h.words.items → 1 ≤ k
    → k ≤ length g.names → (e : ℕ) × At (inside_at h.words.items) (2 * k) (Unbound e)
place_unbound h m g p ws k l low high =
    let s = start_of m g in
    let r = l.stands.says.word (made (place 0 k)) (2 * k) (l.places k low high) in
    let free : find l.stands.short (made (place 0 k)) ≡ None =
    open_short s.bound s.bound l.stands.short (made (place 0 k)) l.stands.shortened refl in
    let said : PlaceSays (inside_at h.words.items) l.book.places r.0 None =
    subst (λ (o : Option (Term Variable)). PlaceSays (inside_at h.words.items) l.book.places r.0 o) free r.2 in
    (said.0, (r.0, r.1, said.1))
