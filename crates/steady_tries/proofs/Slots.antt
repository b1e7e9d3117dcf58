-- The instructions that put a term into a slot.
use Rattle.std.proofs.Common.{◌≡◌, ℕ, suc, ◌+◌, ◌<◌, true, false, [], ◌∷◌, refl, arith, max, Some, None}
use Rattle.fcp_model.specs.Terms.{number}
use Rattle.heap_words.specs.Cells.{encoded, is_final_word}
use Rattle.heap_words.specs.Refers.{parts}
use Rattle.heap_words.specs.declared.cell.Cell.TheVariants.{Small, Raw}
use Rattle.heap_words.proofs.Encodings.{decoded_encoded}
use Rattle.word_states.specs.Denoting.{operator_code}
use Rattle.word_states.proofs.Persisting.{final_of}
use Rattle.machine_code.specs.Instructions.{PutVar, PutWord, PutCons, PutTuple, Otherwise}
use Rattle.machine_code.specs.Fresh.{topped, top_of}
use Rattle.machine_code.proofs.Fresh.{fresh_here}
use Rattle.trial_laws.specs.AtHand.{term_word}
use Rattle.trial_laws.specs.NewPieces.{term_words}
use Rattle.trial_laws.proofs.PutLaws.{variable_leads, read_only_leads, constant_leads}
use Rattle.trial_laws.proofs.PieceLaws.{pair_leads, tuple_leads, operation_leads, wide_leads}
use Rattle.trial_laws.proofs.TestLaws.{otherwise_leads}
use Rattle.trial_laws.proofs.LedPieces.{slot_leads, words_final, operator_small}
use Rattle.safe_tries.proofs.SlotLaws.{safe_variable, safe_constant}
use Rattle.safe_tries.proofs.PutLaws.{safe_pair, safe_tuple, safe_operation, safe_wide}
use Rattle.steady_tries.specs.Steady.{arguments_of}
use Rattle.steady_tries.specs.Steps.{SteadyOtherwise, SteadyVariable, SteadyConstant, SteadyWide, SteadyPair, SteadyTuple, SteadyOperation}
use Rattle.steady_tries.proofs.FinalPieces.{no_place, no_process}
use Rattle.steady_tries.proofs.Putting.{slot_steady, piece_steady}
use Rattle.steady_tries.proofs.Rebasing.{rebased}

pub otherwise_steady : SteadyOtherwise
otherwise_steady c kept at n r course h e behind =
    rebased c kept at n r (suc at) r h.tops h.released course h h.safe (fresh_here c.ops at h.tops h.released Otherwise e h.fresh) refl
    refl refl
    (λ w vs bound g t f store. otherwise_leads w vs bound c.ops (arguments_of g) at r f.state store h.safe.led.pieces f.stands e behind)

pub variable_steady : SteadyVariable
variable_steady c kept at n r course h i k a false e l =
    slot_steady c kept at n r i _ false h (topped h.tops i k) (safe_variable kept r h.tops h.released h.safe i k a l).0
    (fresh_here c.ops at h.tops h.released (PutVar i k false) e h.fresh)
    (λ w vs bound g t f store. variable_leads w vs bound c.ops (arguments_of g) at r f.state store h.safe.led.pieces f.stands i k a e l)
variable_steady c kept at n r course h i k a true e l =
    slot_steady c kept at n r i _ false h (topped h.tops i k) (safe_variable kept r h.tops h.released h.safe i k a l).1
    (fresh_here c.ops at h.tops h.released (PutVar i k true) e h.fresh)
    (λ w vs bound g t f store. read_only_leads w vs bound c.ops (arguments_of g) at r f.state store h.safe.led.pieces f.stands i k a e l)

pub constant_steady : SteadyConstant
constant_steady c kept at n r course h i x t e says =
    slot_steady c kept at n r i x false h (topped h.tops i 0) (safe_constant kept r h.tops h.released h.safe i x t says)
    (fresh_here c.ops at h.tops h.released (PutWord i t) e h.fresh)
    (λ w vs bound g u f store. constant_leads w vs bound c.ops (arguments_of g) at r f.state store h.safe.led.pieces f.stands i x t e says)

-- the word of a number of parts
raw_final : (n : ℕ) → n < 0x100000000 → is_final_word (encoded (Raw n)) ≡ true
raw_final n l = final_of (encoded (Raw n)) (Raw n) (decoded_encoded (Raw n) l) refl

pub wide_steady : SteadyWide
wide_steady c kept at n r course h i x k z low e small same long upper room =
    let final : is_final_word x ≡ true = final_of x (Small low) small refl in
    piece_steady c kept at n r (x ∷ []) i _ false h (topped h.tops i 0) (final, tt) (no_place x [] final) (no_process x [] final)
    (safe_wide kept r h.tops h.released h.safe i x k low small upper room)
    (fresh_here c.ops at h.tops h.released (PutWord i (number z)) e h.fresh)
    (λ w vs bound g t f store. wide_leads w vs bound c.ops (arguments_of g) at r f.state store h.safe.led.pieces f.stands i x k z low e
    small
    same long upper room)

pub pair_steady : SteadyPair
pair_steady c kept at n r course h i left right e room =
    let one = (slot_leads kept r h.safe.led left).1.0 in
    let two = (slot_leads kept r h.safe.led right).1.0 in
    piece_steady c kept at n r (term_word r left ∷ term_word r right ∷ []) i _ false h (topped h.tops i (max (h.tops left) (h.tops right)))
    (one, (two, tt)) (no_place (term_word r left) (term_word r right ∷ []) one) (no_process (term_word r left) (term_word r right ∷ []) one)
    (safe_pair kept r h.tops h.released h.safe i left right room)
    (fresh_here c.ops at h.tops h.released (PutCons i left right) e h.fresh)
    (λ w vs bound g t f store. pair_leads w vs bound c.ops (arguments_of g) at r f.state store h.safe.led.pieces f.stands i left right
    e room)

pub tuple_steady : SteadyTuple
tuple_steady c kept at n r course h i from parts e few room =
    let raw = raw_final parts (omega (arith, few)) in
    piece_steady c kept at n r (encoded (Raw parts) ∷ term_words r from parts) i _ false h (topped h.tops i (top_of h.tops from parts))
    (raw, words_final kept r h.safe.led from parts) (no_place (encoded (Raw parts)) (term_words r from parts) raw)
    (no_process (encoded (Raw parts)) (term_words r from parts) raw)
    (safe_tuple kept r h.tops h.released h.safe i from parts few room)
    (fresh_here c.ops at h.tops h.released (PutTuple i from parts None) e h.fresh)
    (λ w vs bound g t f store. tuple_leads w vs bound c.ops (arguments_of g) at r f.state store h.safe.led.pieces f.stands i from parts
    e few
    room)

pub operation_steady : SteadyOperation
operation_steady c kept at n r course h i from o e room =
    let raw = raw_final (66 + operator_code o) (omega (arith, operator_small o)) in
    piece_steady c kept at n r (encoded (Raw (66 + operator_code o)) ∷ r.slots from ∷ r.slots (suc from) ∷ []) i _ true h
    (topped h.tops i (top_of h.tops from 2))
    (raw, ((h.safe.led.terms from).0, ((h.safe.led.terms (suc from)).0, tt)))
    (no_place (encoded (Raw (66 + operator_code o))) (r.slots from ∷ r.slots (suc from) ∷ []) raw)
    (no_process (encoded (Raw (66 + operator_code o))) (r.slots from ∷ r.slots (suc from) ∷ []) raw)
    (safe_operation kept r h.tops h.released h.safe i from o room)
    (fresh_here c.ops at h.tops h.released (PutTuple i from 2 (Some o)) e h.fresh)
    (λ w vs bound g t f store. operation_leads w vs bound c.ops (arguments_of g) at r f.state store h.safe.led.pieces f.stands i from 2 o e
    room)
