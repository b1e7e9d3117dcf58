-- The laws of the instructions that put a term into a slot, and of a jump.
use Rattle.std.proofs.Common.{suc, true, false, refl}
use Rattle.fcp_model.specs.Places.{own}
use Rattle.fcp_model.specs.Terms.{var, ro}
use Rattle.fcp_model.specs.Expressions.{leaf}
use Rattle.heap_words.specs.Cells.{encoded}
use Rattle.heap_words.specs.declared.cell.Cell.TheVariants.{Ref, RoRef}
use Rattle.heap_words.proofs.Encodings.{decoded_encoded}
use Rattle.word_states.specs.Pieces.{place_words, numbered, with_own, with_variables}
use Rattle.word_states.proofs.Lists.{listed_right}
use Rattle.machine_code.specs.Slots.{hold}
use Rattle.machine_code.specs.Instructions.{PutVar, PutWord, Jump}
use Rattle.trial_laws.specs.Laws.{LawOfJump, LawOfVariable, LawOfReadOnly, LawOfConstant, LawOfBase}
use Rattle.trial_laws.proofs.Slots.{step, put_stands, own_place}

pub jump_leads : LawOfJump
jump_leads w vs bound ops args at r t store formed s to e =
    record { state = t; stands = s; gives = λ d g. step bound ops args at to t t (Jump to) d e (λ n. refl) g }

pub variable_leads : LawOfVariable
variable_leads w vs bound ops args at r t store formed s i k a e l =
    let p = own_place r.pieces formed (own k) a l in
    record {
      slots = hold t.slots i (leaf (var (own k)));
      stands = put_stands w vs bound r t i (encoded (Ref a)) (leaf (var (own k))) s
          (a, decoded_encoded (Ref a) p.6, listed_right vs (numbered 1 (place_words 4000000000 r.pieces)) (own k) a l);
      gives = λ m g. step bound ops args at (suc at) t _ (PutVar i k false) m e (λ n. refl) g;
    }

pub read_only_leads : LawOfReadOnly
read_only_leads w vs bound ops args at r t store formed s i k a e l =
    let p = own_place r.pieces formed (own k) a l in
    record {
      slots = hold t.slots i (leaf (ro (own k)));
      stands = put_stands w vs bound r t i (encoded (RoRef a)) (leaf (ro (own k))) s
          (a, decoded_encoded (RoRef a) p.6, listed_right vs (numbered 1 (place_words 4000000000 r.pieces)) (own k) a l);
      gives = λ m g. step bound ops args at (suc at) t _ (PutVar i k true) m e (λ n. refl) g;
    }

pub constant_leads : LawOfConstant
constant_leads w vs bound ops args at r t store formed s i x c e h = record {
  slots = hold t.slots i (leaf c);
  stands = put_stands w vs bound r t i x (leaf c) s (h (with_own r.pieces w) (with_variables r.pieces vs));
  gives = λ m g. step bound ops args at (suc at) t _ (PutWord i c) m e (λ n. refl) g;
}

pub base_stays : LawOfBase
base_stays w vs bound ops args at r t store formed s b base at' r' p = base
