-- What an entry makes of a hall's words.
use Rattle.std.proofs.Common.{◌≡◌, ℕ, sym, ap, ◌∙◌}
use Rattle.heap_words.specs.Heaps.{inside_at}
use Rattle.word_states.specs.Words.{over}
use Rattle.word_states.specs.Going.{Move}
use Rattle.sound_entries.proofs.Heaps.{after_words}
use Rattle.word_moves.specs.declared.word_move.WordMove.{WordMove}
use Rattle.word_moves.specs.Planned.{IsCarried}
use Rattle.commit_engine.specs.declared.plain_hall.PlainHall.{PlainHall}
use Rattle.commit_engine.specs.Halls.{writes_of}
use Rattle.commit_engine.specs.PlainHalls.{IsAdded}

-- the words that an entry leaves are those that the move writes over the words before
pub moved_words : (g h : PlainHall) (e : WordMove) (n : ℕ) (v : Move) → IsAdded g h e n → IsCarried e v
    → inside_at h.words.items ≡ over (v.writes n) (inside_at g.words.items)
moved_words g h e n v a k =
    ap (λ ws. inside_at ws) a.words ∙ after_words g.words.items (writes_of e n) a.may
    ∙ ap (λ xs. over xs (inside_at g.words.items)) (sym (k.writes n))
