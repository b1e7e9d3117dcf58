-- Before a trial's first try: the arguments are in slots, and nothing else is at hand.
use Rattle.std.proofs.Common.{◌≡◌, ◌⊎◌, ℕ, zero, suc, ◌+◌, ◌<◌, ◌≤◌, true, false, List, [], ◌∷◌, length, refl, sym, ap, ◌∙◌, subst}
use Rattle.std.proofs.Common.{⊎_elim, inl, inr, arith, Option, Some, None}
use Rattle.std.specs.Prelude.{slice_get, unwrap_or, option_map}
use Rattle.std.proofs.lemmas.Bool.{cases_lt}
use Rattle.std.proofs.lemmas.Option.{same_Some}
use Rattle.fcp_model.specs.Places.{Variable}
use Rattle.fcp_model.specs.Terms.{Term, nil}
use Rattle.fcp_model.specs.declared.goal.TheConstants.{TRUE_PROCEDURE}
use Rattle.heap_words.specs.Cells.{decoded}
use Rattle.heap_words.specs.Trails.{WordList, word_at}
use Rattle.heap_words.specs.WordsLaws.{WordsLaws}
use Rattle.heap_words.specs.declared.cell.Cell.TheVariants.{Nil}
use Rattle.heap_words.proofs.Encodings.{decoded_encoded}
use Rattle.word_states.specs.Words.{Words, IsIn, AreDistinct}
use Rattle.word_states.specs.Denoting.{Addresses, Arguments, ExprSays}
use Rattle.word_states.proofs.Lists.{get_of}
use Rattle.machine_code.specs.Slots.{argument}
use Rattle.machine_code.specs.Each.{Each}
use Rattle.machine_code.specs.Fresh.{no_tops, IsFresh}
use Rattle.machine_code.specs.Machine.{Entrance}
use Rattle.machine_code.specs.Compiling.{Tables, compiled, name_kept}
use Rattle.machine_code.specs.Sound.{IsSound}
use Rattle.trial_laws.specs.AtHand.{AtHand}
use Rattle.trial_laws.specs.Laws as laws
use Rattle.trial_laws.proofs.LedPieces.{nil_term}
use Rattle.safe_tries.specs.Puts.{IsArgument, AreArguments}
use Rattle.safe_tries.specs.Safe.{IsSafe}
use Rattle.safe_tries.specs.Stored.{IsStored}
use Rattle.stored_tries.specs.Starts.{IsAtRest, AreOpen}
use Rattle.stored_tries.proofs.Stores.{start}
use Rattle.steady_tries.specs.Steady.{arguments_of, IsCourse, IsBetween, Waits}
use Rattle.steady_tries.specs.Begins.{at_start}
use Rattle.steady_tries.proofs.Going.{start_steady}
use Rattle.trial_machine.specs.declared.machine.Machine.{Machine}
use Rattle.trial_machine.specs.Machines.{Frame, course, words_of, at_machine, IsResting}
use Rattle.trial_machine.specs.Goals.{Calls, AreKept, HoldsArguments, ArgumentsRead}
use Rattle.trial_machine.specs.Running.{IsReady}
use Rattle.trial_machine.proofs.GoalWords.{argument_word}
use Rattle.trial_machine.proofs.Calling.{frame, user_goal, entrance, calls_on}

get_past : {X : Type 0} (xs : List X) (i : ℕ) → length xs ≤ i → slice_get xs i ≡ None
get_past [] i l = refl
get_past (x ∷ xs) zero l = absurd (omega arith)
get_past (x ∷ xs) (suc i) l = get_past xs i (omega arith)

-- each of the words is an argument's
pub are_arguments : (kept : WordList) (p n : ℕ) (args : List ℕ) → AreKept kept p n args → AreArguments kept (words_of args)
are_arguments kept p n args h i = go (slice_get args i) refl
  where
    go : (o : Option ℕ) → slice_get args i ≡ o → IsArgument kept (unwrap_or o 6)
    go None e = (nil_term, inl refl)
    go (Some x) e = (h.terms i x e, inr (p + 4 + i, h.words i x e))

-- and they say the arguments
pub arguments_say : (kept : WordList) (w : Words) (vs : Addresses) (p n : ℕ) (args : List ℕ) (ts : List (Term Variable))
    → AreKept kept p n args → ((a x : ℕ) → word_at kept a ≡ Some x → w a ≡ Some x) → length ts ≡ n → Arguments w vs (p + 4) ts
    → laws.AreArguments w vs ts (words_of args)
arguments_say kept w vs p n args ts h has count says i = ⊎_elim (λ (l : i < n). here l) (λ (l : n ≤ i). past l) (cases_lt i n)
  where
    here : i < n → ExprSays w vs (unwrap_or (slice_get args i) 6) (argument (slice_get ts i))
    here l =
        let r = argument_word w vs (p + 4) ts i (omega arith) says in
        let k = h.count in
        let x = get_of args i (omega arith) in
        let same : r.0 ≡ x.0 = same_Some r.0 x.0 (sym r.2 ∙ has (p + 4 + i) x.0 (h.words i x.0 x.1)) in
        subst (λ o. ExprSays w vs (unwrap_or (slice_get args i) 6) (argument o)) (sym r.4)
        (subst (λ o. ExprSays w vs (unwrap_or o 6) (argument (Some r.1))) (sym x.1)
        (subst (λ y. ExprSays w vs y (argument (Some r.1))) same r.3))

    nil_says : decoded 6 ≡ Some Nil
    nil_says = decoded_encoded Nil tt

    past : n ≤ i → ExprSays w vs (unwrap_or (slice_get args i) 6) (argument (slice_get ts i))
    past l =
        let k = h.count in
        subst (λ o. ExprSays w vs (unwrap_or (slice_get args i) 6) (argument o)) (sym (get_past ts i (omega arith)))
        (subst (λ o. ExprSays w vs (unwrap_or o 6) (argument None)) (sym (get_past args i (omega arith))) nil_says)

-- a trial may begin at each entrance
fresh_at : (t : Tables) (es : List Entrance) (f : ℕ) (e : Entrance) → Each (λ z. IsFresh (compiled t).ops z.first no_tops 0) es
    → slice_get es f ≡ Some e → IsFresh (compiled t).ops e.first no_tops 0
fresh_at t [] f e h k = let z : None ≡ Some e = k in cc
fresh_at t (x ∷ es) zero e h k = subst (λ z. IsFresh (compiled t).ops z.first no_tops 0) (same_Some x e k) h.0
fresh_at t (x ∷ es) (suc f) e h k = fresh_at t es f e h.1 k

module _ {S : Type 0} {addresses : S → ℕ} {sound : S → Type 0} {knows : S → ℕ → Type 0} {had : S → ℕ → ℕ → Type 0} {leads : S → ℕ → Type 0}
    {own shown : S → ℕ → Option ℕ} {later : S → S → Type 0} {gave : S → S → ℕ → ℕ → Type 0}
    (laws' : WordsLaws {S = S} addresses sound knows had leads own shown later gave) where
  -- what is at hand is safe
  rests_safely : (m : Machine) (w : S) (words : ℕ → ℕ) → IsStored addresses sound had shown later m.trail.kept w
      → AreArguments m.trail.kept words → (r : AtHand) → IsAtRest words r → r.waits ≡ [] → IsSafe m.trail.kept r no_tops 0
  rests_safely m w words stored args r rest none = start laws' m.trail.kept w stored words r args rest (record {
    read = λ a i. absurd (subst (IsIn a) none i);
    apart = subst AreDistinct (sym none) tt;
  })

  -- along any frame at whose start first occurrences are fresh
  pub rests_at : (m : Machine) (w : S) (f : Frame) → IsStored addresses sound had shown later m.trail.kept w → HoldsArguments m
      → IsCourse (course f m) m.trail.kept → IsFresh f.ops f.start no_tops 0 → IsResting f f.start m
  rests_at m w f stored holds on_course fresh = record {
    on_course = on_course;
    between = record {
      safe = rests_safely m w (words_of m.desk.slots.args) stored on_course.kept_words (at_machine m) (record {
        pieces = holds.idle.pieces;
        binds = holds.idle.binds;
        reads = holds.idle.reads;
        slots = holds.slots;
        operators = holds.operators;
      }) holds.idle.waits;
      no_pieces = holds.idle.pieces;
      no_binds = holds.idle.binds;
      no_reads = holds.idle.reads;
      fresh = fresh;
      follows = λ v vs bound g t. let q = began.follows v vs bound g t in record {
        hand = q.hand;
        no_pieces = q.no_pieces;
        same_behind = q.same_behind ∙ sym holds.idle.behind;
        same_waits = q.same_waits ∙ sym holds.idle.waits;
        state = q.state;
        stands = q.stands;
        gives = q.gives;
      };
    };
  }
    where
      began : IsBetween (course f m) m.trail.kept f.start (at_start (course f m))
      began = start_steady (course f m) m.trail.kept on_course
          (rests_safely m w (words_of m.desk.slots.args) stored on_course.kept_words (at_start (course f m)) (record {
            pieces = refl;
            binds = refl;
            reads = refl;
            slots = λ i. refl;
            operators = λ i. refl;
          }) refl) fresh

  -- and so for a call
  pub ready : (t : Tables) (m : Machine) (w : S) (p f n first : ℕ) (e : Entrance) → IsSound t
      → IsStored addresses sound had shown later m.trail.kept w → Calls m.trail.kept p f n → f < TRUE_PROCEDURE
      → AreKept m.trail.kept p n m.desk.slots.args → HoldsArguments m → slice_get t.procedures f ≡ Some e → e.first ≡ first
      → IsResting (frame t f first p) first m
  ready t m w p f n first e sound_code stored calls user kept holds there begins =
      rests_at m w (frame t f first p) stored holds (record {
        kept_words = are_arguments m.trail.kept p n m.desk.slots.args kept;
        named = λ v vs bound g tried.
            let u = user_goal m.trail.kept p f n calls user v vs bound g tried in
            subst (λ h. laws.AreArguments v vs (arguments_of h) (words_of m.desk.slots.args)) (sym u.is)
            (arguments_say m.trail.kept v vs p n m.desk.slots.args u.args kept tried.has u.count u.says);
      }) (subst (λ b. IsFresh (compiled t).ops b no_tops 0) begins (fresh_at t t.procedures f e sound_code.fresh there))

  -- by what was answered of the procedure
  pub call_ready : (t : Tables) (m n : Machine) (w : S) (p f count arity name first : ℕ) → IsSound t
      → IsStored addresses sound had shown later n.trail.kept w → Calls m.trail.kept p f count → f < TRUE_PROCEDURE
      → ((a x : ℕ) → word_at m.trail.kept a ≡ Some x → word_at n.trail.kept a ≡ Some x) → ArgumentsRead n p count true
      → Some (name, arity) ≡ option_map name_kept (slice_get t.procedures f)
      → Some first ≡ option_map (λ e. e.first) (slice_get t.procedures f) → IsResting (frame t f first p) first n
  call_ready t m n w p f count arity name first sound_code stored calls user grows there named begins =
      let e = entrance t.procedures f arity name first named begins in
      ready t n w p f count first e.0 sound_code stored (calls_on m.trail.kept n.trail.kept p f count grows calls) user there.0 there.1
      e.1 e.3
