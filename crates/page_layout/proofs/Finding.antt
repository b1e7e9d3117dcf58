-- What an entry finds among words that were kept, it finds among all words that have them.
use Rattle.std.proofs.Common.{ℕ}
use Rattle.heap_words.specs.declared.cell.Cell.{Cell}
use Rattle.heap_words.specs.Trails.{WordList, word_at}
use Rattle.word_states.specs.Words.{Words, At, HasAll}
use Rattle.word_states.proofs.Lists.{word_among}
use Rattle.page_layout.specs.Plans.{KeptIsFound}

pub at_kept : (kept : WordList) (w : Words) (a : ℕ) (c : Cell) → HasAll kept w → At (word_at kept) a c → At w a c
at_kept kept w a c has h = (h.0, has a h.0 (word_among kept a h.0 h.1), h.2)

pub kept_found : KeptIsFound
kept_found kept w has = record {
  tops = λ rooms tops k r e. at_kept kept w _ _ has (tops k r e);
  commit = λ p binds wakes f. record {
    process = at_kept kept w p _ has f.process;
    bound = λ a x h. (let u = f.bound a x h in (u.0, at_kept kept w a _ has u.1));
    woken = λ q h. (let u = f.woken q h in (u.0, at_kept kept w q _ has u.1));
    binds_once = f.binds_once;
    wakes_once = f.wakes_once;
  };
  hang = λ p lists f. record {
    process = at_kept kept w p _ has f.process;
    places = λ a e h. at_kept kept w a _ has (f.places a e h);
    once = f.once;
  };
}
