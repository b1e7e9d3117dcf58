-- A safe try beside its store: what a call over both asks, and what is so after it.
use Rattle.std.specs.Prelude.{◌≡◌, ◌⊎◌, ℕ, ◌+◌, ◌<◌, List, [], length, Option, Some}
use Rattle.heap_words.specs.Trails.{WordList, word_at, AreOnce, KeepsLoads}
use Rattle.ro_unify.specs.Walks.{Tame}
use Rattle.machine_code.specs.Fresh.{Tops}
use Rattle.trial_laws.specs.AtHand.{AtHand, term_word, end_of}
use Rattle.beside_words.specs.Besides.{own_at, SoundBeside, HadBeside, LeadsBeside}
use Rattle.beside_words.specs.Loads.{LaterBeside, GaveBeside}
use Rattle.beside_words.specs.declared.beside.Beside.{Beside}
use Rattle.safe_tries.specs.Safe.{IsSafe, own_words}
use Rattle.safe_tries.specs.Stored.{IsStored}
use Rattle.safe_tries.specs.Loads.{Kept}

-- the list has the words of the pieces, one after another
pub record AreOwn (ps : List (List ℕ)) (own : List ℕ) : Type 0 where
  -- by address
  pub words : (a : ℕ) → own_at own a ≡ own_words ps a
  -- and no more
  pub ends : 4000000000 + length own ≡ end_of 4000000000 ps

module _ {S : Type 0} (addresses : S → ℕ) (is_sound : S → Type 0) (knows : S → ℕ → Type 0) (was_had : S → ℕ → ℕ → Type 0)
    (leads : S → ℕ → Type 0) (shown : S → ℕ → Option ℕ) (later : S → S → Type 0) where
  -- all that a call over the store w with these own words asks
  pub record MayCall (kept : WordList) (r : AtHand) (w : S) (own : List ℕ) : Type 0 where
    -- store and own words fit together
    pub sound : SoundBeside addresses is_sound knows leads shown later w own
    -- what was kept was loaded, and is the store's
    pub kept_had : (a x : ℕ) → word_at kept a ≡ Some x → HadBeside was_had w own a x
    pub kept_below : (a x : ℕ) → word_at kept a ≡ Some x → a < 4000000000
    -- what is bound leads on, and so do the words of slots
    pub bound : (a x : ℕ) → word_at r.binds a ≡ Some x → LeadsBeside knows leads w own x
    pub slots : (i : ℕ) → LeadsBeside knows leads w own (r.slots i)
    pub terms : (i : ℕ) → LeadsBeside knows leads w own (term_word r i)
    -- and walks end
    pub tame : Tame r.binds kept (own_at own) (4000000000 + length own)

  -- a safe try may make such a call
  abbrev pub StandsBeside : Type 0
  StandsBeside = (kept : WordList) (r : AtHand) (τ : Tops) (released : ℕ) (w : S) (own : List ℕ)
      → IsStored addresses is_sound was_had shown later kept w → AreOnce kept → IsSafe kept r τ released → AreOwn r.pieces own
      → MayCall kept r w own

  module _ (gave : S → S → ℕ → ℕ → Type 0) where
    -- the loads of such a call
    abbrev pub KeepsBeside : WordList → WordList → Beside S → WordList → WordList → Beside S → Type 0
    KeepsBeside kept binds b kept' binds' b' = KeepsLoads {S = Beside S}
        (λ b. SoundBeside addresses is_sound knows leads shown later b.words.now b.own.now)
        (λ b a x. HadBeside was_had b.words.now b.own.now a x) (λ b x. LeadsBeside knows leads b.words.now b.own.now x)
        (λ x y. LaterBeside later x y) (λ x y a v. GaveBeside later gave x y a v) kept binds b kept' binds' b'

    -- Loads led from the store w to w': more words of the store are kept, with which what was safe is safe.
    pub record IsLoaded (kept : WordList) (r : AtHand) (w : S) (kept' : WordList) (w' : S) : Type 0 where
      pub between : later w w'
      pub stored : IsStored addresses is_sound was_had shown later kept' w'
      pub more : Kept kept r kept'
      -- each kept word was kept before, or was loaded
      pub given : (a x : ℕ) → word_at kept' a ≡ Some x → (word_at kept a ≡ Some x) ⊎ gave w w' a x

    -- so it is after such a call
    abbrev pub AfterBeside : Type 0
    AfterBeside = (kept : WordList) (r : AtHand) (τ : Tops) (released : ℕ) (b b' : Beside S) (kept' binds' : WordList)
        → IsStored addresses is_sound was_had shown later kept b.words.now → AreOnce kept → IsSafe kept r τ released
        → AreOwn r.pieces b.own.now → KeepsBeside kept r.binds b kept' binds' b' → IsLoaded kept r b.words.now kept' b'.words.now

    -- and after loads from the store alone, where the try has no pieces
    abbrev pub AfterLoads : Type 0
    AfterLoads = (kept : WordList) (r : AtHand) (τ : Tops) (released : ℕ) (w w' : S) (kept' : WordList)
        → IsStored addresses is_sound was_had shown later kept w → AreOnce kept → IsSafe kept r τ released → r.pieces ≡ []
        → KeepsLoads is_sound was_had leads later gave kept r.binds w kept' r.binds w' → IsLoaded kept r w kept' w'

    -- or nothing is put or bound yet
    abbrev pub AfterFirstLoads : Type 0
    AfterFirstLoads = (kept : WordList) (r : AtHand) (w w' : S) (kept' binds' : WordList)
        → IsStored addresses is_sound was_had shown later kept w → AreOnce kept → r.pieces ≡ [] → r.binds ≡ []
        → KeepsLoads is_sound was_had leads later gave kept r.binds w kept' binds' w' → IsLoaded kept r w kept' w'
