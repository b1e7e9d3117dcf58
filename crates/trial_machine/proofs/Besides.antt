-- A call over a store and the try's own words: what it asks, and what is so after it.
use Rattle.std.proofs.Common.{◌≡◌, ℕ, ◌+◌, List, [], ◌∷◌, length, sym, ap, subst, ◌∙◌, arith, Option}
use Rattle.std.specs.List.{concat}
use Rattle.std.proofs.lemmas.List.{length-append}
use Rattle.heap_words.specs.Trails.{WordList, Memory, Agrees, Says, AreOnce, word_at}
use Rattle.ro_unify.specs.Walks.{Tame}
use Rattle.word_states.specs.Pieces.{rows}
use Rattle.machine_code.specs.Instructions.{Op}
use Rattle.trial_laws.specs.AtHand.{end_of}
use Rattle.beside_words.specs.Besides.{own_at}
use Rattle.beside_words.specs.declared.beside.Beside.{Beside}
use Rattle.safe_tries.specs.Safe.{own_words}
use Rattle.safe_tries.specs.Stored.{IsStored}
use Rattle.stored_tries.specs.Calls.{AreOwn, MayCall, StandsBeside, AfterBeside, KeepsBeside, IsLoaded}
use Rattle.stored_tries.proofs.Calling.{same_words, tame_pieces}
use Rattle.trial_machine.specs.declared.machine.Machine.{Machine}
use Rattle.trial_machine.specs.Machines.{Meets, at_machine}
use Rattle.trial_machine.specs.Stores.{Loads}

end_words : (ps : List (List ℕ)) (b : ℕ) → end_of b ps ≡ b + length (concat ps)
end_words [] b = omega arith
end_words (p ∷ ps) b =
    let e = end_words ps (b + length p) in
    let l = length-append p (concat ps) in
    omega (arith, e, l)

-- the words of pieces, as the desk gives them
pub own_pieces : (ps : List (List ℕ)) (own : List ℕ) → own ≡ concat ps
    → ((a : ℕ) → own_at own a ≡ word_at (rows 4000000000 ps) a) → AreOwn ps own
own_pieces ps own e placed = record {
  words = placed;
  ends = ap (λ (l : List ℕ). 4000000000 + length l) e ∙ sym (end_words ps 4000000000);
}

-- what is said of memories that have the own words of the call is so of those that have the pieces'
pub says_pieces : (P : Memory → Type 0) (ps : List (List ℕ)) (own own' : List ℕ) (kept : WordList) → AreOwn ps own → own' ≡ own
    → Says (own_at own') kept P → (m : Memory) → Agrees (own_words ps) kept m → P m
says_pieces P ps own own' kept are same says m h = says m record {
  kept_same = h.kept_same;
  own_same = λ a x e. h.own_same a x (sym (are.words a) ∙ (sym (ap (λ (l : List ℕ). own_at l a) same) ∙ e));
}

-- also where the own words are spoken of
pub says_own : (P : (ℕ → Option ℕ) → Memory → Type 0) (ps : List (List ℕ)) (own own' : List ℕ) (kept : WordList) → AreOwn ps own
    → own' ≡ own → Says (own_at own') kept (P (own_at own')) → (m : Memory) → Agrees (own_words ps) kept m → P (own_words ps) m
says_own P ps own own' kept are same says =
    subst (λ (f : ℕ → Option ℕ). Says f kept (P f)) (ap own_at same ∙ same_words ps own are) says

-- and walks end so
pub tame_call : (bs kept : WordList) (ps : List (List ℕ)) (own own' : List ℕ) → AreOwn ps own → own' ≡ own
    → Tame bs kept (own_at own') (4000000000 + length own') → Tame bs kept (own_words ps) (end_of 4000000000 ps)
tame_call bs kept ps own own' are same t =
    tame_pieces bs kept ps own' (subst (λ (l : List ℕ). AreOwn ps l) (sym same) are) t

module _ {S : Type 0} {addresses : S → ℕ} {sound : S → Type 0} {knows : S → ℕ → Type 0} {had : S → ℕ → ℕ → Type 0}
    {leads : S → ℕ → Type 0} {shown : S → ℕ → Option ℕ} {later : S → S → Type 0} where
  -- a try on its way may make the call
  pub before_call : StandsBeside addresses sound knows had leads shown later → (m : Machine) (o : Op) (w : S) (own : List ℕ)
      → IsStored addresses sound had shown later m.trail.kept w → AreOnce m.trail.kept → Meets m o → AreOwn m.desk.pieces own
      → MayCall addresses sound knows had leads shown later m.trail.kept (at_machine m) w own
  before_call law m o w own stored once meets are =
      law m.trail.kept (at_machine m) meets.2.steady.tops meets.2.steady.released w own stored once meets.2.steady.safe are

  module _ {gave : S → S → ℕ → ℕ → Type 0} where
    -- and after it more was kept
    pub after_call : AfterBeside addresses sound knows had leads shown later gave → (m : Machine) (o : Op) (b b' : Beside S)
        (kept' binds' : WordList) → IsStored addresses sound had shown later m.trail.kept b.words.now → AreOnce m.trail.kept → Meets m o
        → AreOwn m.desk.pieces b.own.now
        → KeepsBeside addresses sound knows had leads shown later gave m.trail.kept m.trail.binds b kept' binds' b'
        → IsLoaded addresses sound knows had leads shown later gave m.trail.kept (at_machine m) b.words.now kept' b'.words.now
    after_call law m o b b' kept' binds' stored once meets are p =
        law m.trail.kept (at_machine m) meets.2.steady.tops meets.2.steady.released b b' kept' binds' stored once meets.2.steady.safe
        are p

    -- the store is where the loan of it ended
    pub stored_at : (m : Machine) {w w' v : S} {kept' : WordList} → v ≡ w'
        → IsLoaded addresses sound knows had leads shown later gave m.trail.kept (at_machine m) w kept' w'
        → IsStored addresses sound had shown later kept' v
    stored_at m {w} {w'} {v} {kept'} e l = subst (λ (x : S). IsStored addresses sound had shown later kept' x) (sym e) l.stored

    pub loads_at : (m : Machine) {w w' v : S} {kept' : WordList} → v ≡ w'
        → IsLoaded addresses sound knows had leads shown later gave m.trail.kept (at_machine m) w kept' w'
        → Loads addresses sound had shown later gave m.trail.kept w kept' v
    loads_at m {w} {w'} {v} {kept'} e l = subst (λ (x : S). Loads addresses sound had shown later gave m.trail.kept w kept' x) (sym e)
        record { stored = l.stored; grows = l.more.grows; given = l.given }

    -- and nothing more was kept since
    pub loads_left : (m : Machine) {w w' v : S} {kept' kept'' : WordList} → kept'' ≡ kept' → v ≡ w'
        → IsLoaded addresses sound knows had leads shown later gave m.trail.kept (at_machine m) w kept' w'
        → Loads addresses sound had shown later gave m.trail.kept w kept'' v
    loads_left m {w} {w'} {v} {kept'} {kept''} k e l =
        subst (λ (x : WordList). Loads addresses sound had shown later gave m.trail.kept w x v) (sym k) (loads_at m e l)
