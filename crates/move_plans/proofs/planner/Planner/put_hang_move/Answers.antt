use Rattle.std.proofs.Common.{◌≡◌, ℕ, List, sym, subst, Some}
use Rattle.std.specs.Prelude.{slice_get}
use Rattle.heap_words.specs.Trails.{WordList}
use Rattle.word_states.specs.Words.{AreApart}
use Rattle.page_layout.specs.declared.rooms.Room.{Room}
use Rattle.page_layout.specs.Laying.{IsRoom}
use Rattle.page_layout.specs.Looking.{Rise}
use Rattle.word_moves.proofs.Finding.{finds_hang}
use Rattle.move_plans.proofs.planner.Planner.put_hang_move.Goals as goal

pub put_hang-requires-clause-once : goal.put_hang-requires-clause-once
put_hang-requires-clause-once c =
    subst (λ (ls : WordList). AreApart ls) (sym c.as_slice-lists.ensures.value) (finds_hang c.requires.planned).once

pub first_open-self-requires-clause-rooms : goal.first_open-self-requires-clause-rooms
first_open-self-requires-clause-rooms c =
    subst (λ (rs : List Room). (k : ℕ) (r : Room) → slice_get rs k ≡ Some r → IsRoom r) (sym c.as_slice-4.ensures.value)
    c.requires.planned.laid.pages.each

pub first_open-self-requires-clause-rise : goal.first_open-self-requires-clause-rise
first_open-self-requires-clause-rise c = subst (λ (rs : List Room). Rise rs) (sym c.as_slice-4.ensures.value) c.requires.rise
