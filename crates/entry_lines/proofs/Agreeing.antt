-- Words that have those that were kept, and a trail that reads a store.
use Rattle.std.proofs.Common.{◌≡◌, ℕ, ◌<◌, ◌≤◌, [], Option, Some, sym, ap, ◌∙◌, subst, arith}
use Rattle.std.specs.Prelude.{unwrap_or}
use Rattle.fcp_model.specs.States.{State}
use Rattle.heap_words.specs.WordsLaws.{WordsLaws}
use Rattle.heap_words.specs.Trails.{WordList, word_at, Agrees, KeepsLoads}
use Rattle.ro_unify.proofs.Starting.{starts_holding, starts_tame}
use Rattle.ro_unify.proofs.Ending.{tame_later}
use Rattle.word_states.specs.Words.{Words}
use Rattle.word_states.specs.Standing.{Book}
use Rattle.unify_terms.specs.WordsOfTries.{memory_of}
use Rattle.entry_lines.specs.Lines.{HasKept}
use Rattle.entry_lines.specs.Reading.{ReadsStore, Wherever}

-- what words have their memory has
pub in_memory : (u : Words) (a x : ℕ) → u a ≡ Some x → memory_of u a ≡ x
in_memory u a x e = ap (λ (o : Option ℕ). unwrap_or o 12) e

-- what is so of words that have what was kept is so of those that have what was kept later
pub wherever_later : (P : Book → State → Type 0) (kept kept' : WordList)
    → ((a x : ℕ) → word_at kept a ≡ Some x → word_at kept' a ≡ Some x) → Wherever kept P → Wherever kept' P
wherever_later P kept kept' up h w book s has stands = h w book s (λ a x e. has a x (up a x e)) stands

module _ {S : Type 0} {addresses : S → ℕ} {sound : S → Type 0} {knows : S → ℕ → Type 0} {had : S → ℕ → ℕ → Type 0} {leads : S → ℕ → Type 0}
    {own shown : S → ℕ → Option ℕ} {later : S → S → Type 0} {gave : S → S → ℕ → ℕ → Type 0}
    (laws : WordsLaws {S = S} addresses sound knows had leads own shown later gave) where
  -- a store has no words of a try
  no_own : {w : S} (a x : ℕ) → sound w → addresses w ≤ 4000000000 → own w a ≡ Some x → ⊥
  no_own {w = w} a x s few e =
      let low : a < addresses w = laws.in_range w a s (laws.had_known w a x s (laws.own_had w a x s e)) in
      let high : 4000000000 ≤ a = laws.own_range w a x e in
      omega arith

  pub agrees_with : {kept : WordList} {w : S} (u : Words) → sound w → addresses w ≤ 4000000000 → HasKept kept u
      → Agrees (own w) kept (memory_of u)
  agrees_with u s few has = record {
    kept_same = λ a x e. in_memory u a x (has a x e);
    own_same = λ a x e. absurd (no_own a x s few e);
  }

  -- while only loads are made
  pub still_store : {v w : S} → later v w → addresses v ≤ 4000000000 → addresses w ≤ 4000000000
  still_store {v = v} {w = w} b few = subst (λ (n : ℕ). n ≤ 4000000000) (sym (laws.fixed v w b)) few

  pub reads_later : {kept binds kept' binds' : WordList} {v w : S} → KeepsLoads sound had leads later gave kept binds v kept' binds' w
      → binds' ≡ binds → ReadsStore sound had leads own addresses kept binds v → ReadsStore sound had leads own addresses kept' binds' w
  reads_later l e r = record {
    sound = l.sound;
    store = still_store l.went.between r.store;
    free = e ∙ r.free;
    holds = l.holds;
    tame = tame_later laws l e r.tame;
  }

  -- with nothing on the trail
  pub reads_none : (kept binds : WordList) (w : S) → kept ≡ [] → binds ≡ [] → sound w → addresses w ≤ 4000000000
      → ReadsStore sound had leads own addresses kept binds w
  reads_none kept binds w e f s few = record {
    sound = s;
    store = few;
    free = f;
    holds = starts_holding laws kept binds w e f;
    tame = starts_tame laws kept binds w e f s;
  }

  -- what was loaded since the trail was cleared
  pub loaded_cleared : {kept binds kept' binds' : WordList} {v w : S} → kept ≡ [] → binds ≡ []
      → KeepsLoads sound had leads later gave kept binds v kept' binds' w → KeepsLoads sound had leads later gave [] [] v kept' binds' w
  loaded_cleared {kept = kept} {kept' = kept'} {binds' = binds'} {v = v} {w = w} e f l =
      subst (λ (ks : WordList). KeepsLoads sound had leads later gave ks [] v kept' binds' w) e
      (subst (λ (bs : WordList). KeepsLoads sound had leads later gave kept bs v kept' binds' w) f l)
