-- The instructions that put a term into a slot.
use Rattle.std.proofs.Common.{◌≡◌, ℕ, suc, ◌+◌, ◌*◌, ◌<◌, ◌≤◌, Bool, true, false, [], ◌∷◌, ap, sym, subst, ◌∙◌, Some, None, Option}
use Rattle.fcp_model.specs.declared.term.ArithOp.{ArithOp}
use Rattle.fcp_model.specs.Places.{Variable}
use Rattle.fcp_model.specs.Terms.{Term}
use Rattle.heap_words.specs.Cells.{encoded}
use Rattle.heap_words.specs.declared.cell.Cell.TheVariants as cell
use Rattle.word_states.specs.Denoting.{operator_code}
use Rattle.machine_code.specs.Instructions.{PutVar, PutWord, PutCons, PutTuple}
use Rattle.machine_code.specs.Reading.{HasWord}
use Rattle.trial_laws.specs.AtHand.{term_word, end_of}
use Rattle.trial_laws.specs.Laws.{holding}
use Rattle.trial_laws.specs.NewPieces.{next_piece, with_piece, term_words}
use Rattle.steady_tries.specs.Steps.{reference}
use Rattle.steady_tries.proofs.Slots.{variable_steady, constant_steady, wide_steady, pair_steady, tuple_steady, operation_steady}
use Rattle.steady_tries.proofs.Places.{place_steady}
use Rattle.try_desk.specs.Desks.{Becomes}
use Rattle.try_desk.specs.Keeping.{KeepsDesk}
use Rattle.try_desk.specs.Constants.{TakesConstant, short, long}
use Rattle.try_desk.specs.declared.desk.Desk.{Desk}
use Rattle.trial_machine.specs.declared.machine.Machine.{Machine}
use Rattle.trial_machine.specs.Machines.{StepsOn, at_machine, course}
use Rattle.trial_machine.proofs.OnWay.{with_desk, goes_on}

-- the word of a reference, read-only or not
pub read_only_word : (a b : ℕ) (ro : Bool) → a ≡ b → ro ≡ true → encoded (cell.RoRef a) ≡ reference ro b
read_only_word a b ro e is = ap (λ x. encoded (cell.RoRef x)) e ∙ ap (λ (o : Bool). reference o b) (sym is)

pub plain_word : (a b : ℕ) (ro : Bool) → a ≡ b → ro ≡ false → encoded (cell.Ref a) ≡ reference ro b
plain_word a b ro e is = ap (λ x. encoded (cell.Ref x)) e ∙ ap (λ (o : Bool). reference o b) (sym is)

-- a reference to the place of a variable
pub variable_put : (m : Machine) (d : Desk) (slot var word : ℕ) (ro : Bool) → 0 < var → var ≤ m.vars
    → word ≡ reference ro (3999999999 + 2 * var) → Becomes m.desk d (λ r. holding r slot word false) → KeepsDesk m.desk d
    → StepsOn m (with_desk m d m.base) (PutVar slot var ro)
variable_put m d slot var word ro low high says becomes keeps f at h e =
    let few : var ≤ f.vars m.desk.clause = subst (λ k. var ≤ k) (sym h.known) high in
    let c = course f m in
    let r = at_machine m in
    let listed = place_steady c m.trail.kept at m.base r h.on_course h.steady var low few in
    goes_on f at (suc at) m.base m d _ h keeps
    (becomes m.trail.binds m.trail.reads.items m.waits ∙ ap (λ x. holding r slot x false) says)
    (variable_steady c m.trail.kept at m.base r h.on_course h.steady slot var (3999999999 + 2 * var) ro e listed)

-- a constant
pub constant_put : (m : Machine) (d : Desk) (slot : ℕ) (t : Term Variable) → TakesConstant m.desk d slot t → KeepsDesk m.desk d
    → StepsOn m (with_desk m d m.base) (PutWord slot t)
constant_put m d slot t (short x says becomes) keeps f at h e =
    goes_on f at (suc at) m.base m d _ h keeps (becomes m.trail.binds m.trail.reads.items m.waits)
    (constant_steady (course f m) m.trail.kept at m.base (at_machine m) h.on_course h.steady slot x t e says)
constant_put m d slot t (long z low x high is small same far upper room becomes) keeps f at h e =
    goes_on f at (suc at) m.base m d _ h keeps (becomes m.trail.binds m.trail.reads.items m.waits)
    (wide_steady (course f m) m.trail.kept at m.base (at_machine m) h.on_course h.steady slot x high z low
    (e ∙ ap (λ (u : Term Variable). Some (PutWord slot u)) is) small same far upper room)

-- a pair
pub pair_put : (m : Machine) (d : Desk) (slot left right : ℕ)
    → Becomes m.desk d (λ r. holding (with_piece r (term_word r left ∷ term_word r right ∷ [])) slot
    (encoded (cell.Cons (next_piece r))) false)
    → end_of 4000000000 m.desk.pieces + 2 ≤ 4294967296 → KeepsDesk m.desk d → StepsOn m (with_desk m d m.base) (PutCons slot left right)
pair_put m d slot left right becomes room keeps f at h e =
    goes_on f at (suc at) m.base m d _ h keeps (becomes m.trail.binds m.trail.reads.items m.waits)
    (pair_steady (course f m) m.trail.kept at m.base (at_machine m) h.on_course h.steady slot left right e room)

-- a tuple
pub tuple_put : (m : Machine) (d : Desk) (slot from parts : ℕ) (o : Option ArithOp) → o ≡ None → HasWord parts o
    → Becomes m.desk d (λ r. holding (with_piece r (encoded (cell.Raw parts) ∷ term_words r from parts)) slot
    (encoded (cell.Tuple (next_piece r))) false)
    → end_of 4000000000 m.desk.pieces + suc parts ≤ 4294967296 → KeepsDesk m.desk d
    → StepsOn m (with_desk m d m.base) (PutTuple slot from parts o)
tuple_put m d slot from parts o is few becomes room keeps f at h e =
    goes_on f at (suc at) m.base m d _ h keeps (becomes m.trail.binds m.trail.reads.items m.waits)
    (tuple_steady (course f m) m.trail.kept at m.base (at_machine m) h.on_course h.steady slot from parts
    (e ∙ ap (λ (u : Option ArithOp). Some (PutTuple slot from parts u)) is) (subst (λ (u : Option ArithOp). HasWord parts u) is few) room)

-- an operation
pub operation_put : (m : Machine) (d : Desk) (slot from next parts : ℕ) (o : Option ArithOp) (p : ArithOp) → o ≡ Some p → HasWord parts o
    → next ≡ suc from
    → Becomes m.desk d (λ r. holding (with_piece r (encoded (cell.Raw (66 + operator_code p)) ∷ r.slots from ∷ r.slots next ∷ [])) slot
    (encoded (cell.Tuple (next_piece r))) true)
    → end_of 4000000000 m.desk.pieces + 3 ≤ 4294967296 → KeepsDesk m.desk d → StepsOn m (with_desk m d m.base) (PutTuple slot from parts o)
operation_put m d slot from next parts o p is two second becomes room keeps f at h e =
    let r = at_machine m in
    goes_on f at (suc at) m.base m d _ h keeps
    (becomes m.trail.binds m.trail.reads.items m.waits
    ∙ ap (λ (j : ℕ). holding (with_piece r (encoded (cell.Raw (66 + operator_code p)) ∷ r.slots from ∷ r.slots j ∷ [])) slot
    (encoded (cell.Tuple (next_piece r))) true) second)
    (operation_steady (course f m) m.trail.kept at m.base r h.on_course h.steady slot from p
    (e ∙ (ap (λ (u : Option ArithOp). Some (PutTuple slot from parts u)) is
    ∙ ap (λ (k : ℕ). Some (PutTuple slot from k (Some p))) (subst (λ (u : Option ArithOp). HasWord parts u) is two))) room)
