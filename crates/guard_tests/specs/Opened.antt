-- What a test reads: places that were seen unbound.
use Rattle.std.specs.Prelude.{◌≡◌, ℕ, List, ◌++◌, Option, Some, None}
use Rattle.heap_words.specs.Cells.{decoded}
use Rattle.heap_words.specs.Trails.{WordList, word_at}
use Rattle.heap_words.specs.declared.cell.Cell.TheVariants.{Unbound}
use Rattle.ro_unify.specs.Occurs.{Each}
use Rattle.ro_unify.specs.Walks.{seen_at}

-- the word of an unbound place was seen at the address, and no private binding is there
pub record WasSeenOpen (binds kept : WordList) (own : ℕ → Option ℕ) (a : ℕ) : Type 0 where
  -- no private binding
  pub free : word_at binds a ≡ None
  -- the word, and that it was seen
  pub word : ℕ
  pub seen : seen_at kept own a ≡ Some word
  -- it is that of an unbound place
  pub unbound : (e : ℕ) × (decoded word ≡ Some (Unbound e))

-- the reads grew by addresses of places that were seen unbound
pub record ReadsOpen (binds kept : WordList) (own : ℕ → Option ℕ) (rs rs' : List ℕ) : Type 0 where
  -- what was read besides
  pub more : List ℕ
  pub read : rs' ≡ rs ++ more
  -- each of these places was seen unbound
  pub each_open : Each (WasSeenOpen binds kept own) more
