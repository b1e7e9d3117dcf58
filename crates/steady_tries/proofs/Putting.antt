-- A slot takes a term, with or without a new piece.
use Rattle.std.proofs.Common.{◌≡◌, ℕ, suc, ◌≤◌, Bool, false, List, [], ◌∷◌, ◌++◌, length, take, sym, ap, ◌∙◌, subst}
use Rattle.std.proofs.Common.{arith, append_assoc, ⊎_elim}
use Rattle.std.proofs.lemmas.List.{take-append-le, length-append}
use Rattle.fcp_model.specs.Places.{Variable}
use Rattle.fcp_model.specs.Terms.{Bindings}
use Rattle.fcp_model.specs.Programs.{Goal}
use Rattle.heap_words.specs.Trails.{WordList}
use Rattle.word_states.specs.Words.{Words}
use Rattle.word_states.specs.Denoting.{Addresses}
use Rattle.word_states.specs.Pieces.{AreFinal, is_place, is_process}
use Rattle.word_states.specs.Trials.{IsTried}
use Rattle.machine_code.specs.Slots.{arguments}
use Rattle.machine_code.specs.Fresh.{Tops, no_tops, IsFresh}
use Rattle.trial_laws.specs.AtHand.{AtHand, end_of, IsStore, StandsForTry, LeadsByPut}
use Rattle.trial_laws.specs.Laws.{holding}
use Rattle.trial_laws.specs.NewPieces.{with_piece}
use Rattle.trial_laws.proofs.Pieces.{starts_split, places_left, processes_left}
use Rattle.safe_tries.specs.Safe.{IsSafe}
use Rattle.safe_tries.specs.Puts.{Puts}
use Rattle.steady_tries.specs.Steady.{Course, arguments_of, base_of, Follows, IsSteady}
use Rattle.steady_tries.proofs.Going.{the_store}

-- wherever the process has a goal, the put led on from the try for which it stood
abbrev pub PutsAnywhere : Course → WordList → ℕ → ℕ → AtHand → AtHand → Type 0
PutsAnywhere c kept at n r r' = (w : Words) (vs : Addresses) (bound : Bindings) (g : Goal Variable) → IsTried kept c.process w vs bound g
    → (f : Follows c w vs bound (arguments_of g) at n r) → IsStore w vs bound
    → LeadsByPut w vs bound c.ops (arguments_of g) at f.state (suc at) r'

-- a slot takes a word
pub slot_steady : (c : Course) (kept : WordList) (at n : ℕ) (r : AtHand) (i x : ℕ) (o : Bool) (h : IsSteady c kept at n r) (τ : Tops)
    → IsSafe kept (holding r i x o) τ h.released → IsFresh c.ops (suc at) τ h.released → PutsAnywhere c kept at n r (holding r i x o)
    → IsSteady c kept (suc at) n (holding r i x o)
slot_steady c kept at n r i x o h τ safe fresh leads = record {
  tops = τ;
  released = h.released;
  safe = safe;
  rests = h.rests;
  puts = record {
    more = h.puts.more;
    pieces = h.puts.pieces;
    terms = h.puts.terms;
    same_places = h.puts.same_places;
    same_processes = h.puts.same_processes;
    same_binds = h.puts.same_binds;
  };
  few = h.few;
  fresh = fresh;
  next_fresh = h.next_fresh;
  places = h.places;
  follows = λ w vs bound g t. let f = h.follows w vs bound g t in let l = leads w vs bound g t f
      (the_store kept c.process w vs bound g t) in record {
        state = record f.state { slots = l.slots };
        stands = l.stands;
        rests = f.rests;
        gives = λ d q. f.gives d (l.gives d q);
      };
}

-- a term piece behind the others
piece_puts : (c : Course) (n : ℕ) (r : AtHand) (p : List ℕ) → n ≤ length r.pieces → AreFinal p → is_place p ≡ false → is_process p ≡ false
    → Puts (base_of c n r) r → Puts (base_of c n r) (with_piece r p)
piece_puts c n r p few final no_place no_process h = record {
  more = h.more ++ p ∷ [];
  pieces = ap (λ ps. ps ++ p ∷ []) h.pieces ∙ append_assoc (take n r.pieces) h.more (p ∷ []);
  terms = λ a q s. ⊎_elim (λ k. h.terms a q k) (λ k. subst AreFinal (sym k.1) final)
      (starts_split (end_of 4000000000 (take n r.pieces)) h.more p a q s);
  same_places = places_left 4000000000 r.pieces p no_place ∙ h.same_places;
  same_processes = processes_left 4000000000 r.pieces p no_process ∙ h.same_processes;
  same_binds = h.same_binds;
}

-- a slot takes a word of a new piece
pub piece_steady : (c : Course) (kept : WordList) (at n : ℕ) (r : AtHand) (p : List ℕ) (i x : ℕ) (o : Bool) (h : IsSteady c kept at n r)
    (τ : Tops) → AreFinal p → is_place p ≡ false → is_process p ≡ false → IsSafe kept (holding (with_piece r p) i x o) τ h.released
    → IsFresh c.ops (suc at) τ h.released → PutsAnywhere c kept at n r (holding (with_piece r p) i x o)
    → IsSteady c kept (suc at) n (holding (with_piece r p) i x o)
piece_steady c kept at n r p i x o h τ final no_place no_process safe fresh leads = record {
  tops = τ;
  released = h.released;
  safe = safe;
  rests = on_base (λ b. IsSafe kept b no_tops h.released) h.rests;
  puts = on_base (λ b. Puts b (holding (with_piece r p) i x o)) puts;
  few = omega (arith, h.few, length-append r.pieces (p ∷ []));
  fresh = fresh;
  next_fresh = h.next_fresh;
  places = places_left 4000000000 r.pieces p no_place ∙ h.places;
  follows = λ w vs bound g t. let f = h.follows w vs bound g t in let l = leads w vs bound g t f
      (the_store kept c.process w vs bound g t) in record {
        state = record f.state { slots = l.slots };
        stands = l.stands;
        rests = on_base (λ b. StandsForTry w vs bound b (record f.state { slots = arguments (arguments_of g) })) f.rests;
        gives = λ d q. f.gives d (l.gives d q);
      };
}
  where
    on_base : (P : AtHand → Type 0) → P (base_of c n r) → P (base_of c n (holding (with_piece r p) i x o))
    on_base P q = subst (λ ps. P (record (base_of c n r) { pieces = ps })) (sym (take-append-le n r.pieces (p ∷ []) h.few)) q

    first_puts : Puts (base_of c n r) (with_piece r p)
    first_puts = piece_puts c n r p h.few final no_place no_process h.puts

    puts : Puts (base_of c n r) (holding (with_piece r p) i x o)
    puts = record {
      more = first_puts.more;
      pieces = first_puts.pieces;
      terms = first_puts.terms;
      same_places = first_puts.same_places;
      same_processes = first_puts.same_processes;
      same_binds = first_puts.same_binds;
    }
