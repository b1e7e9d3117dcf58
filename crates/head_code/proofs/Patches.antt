-- An instruction that is written again.
use Rattle.std.proofs.Common.{◌≡◌, ℕ, zero, suc, ◌+◌, List, [], ◌∷◌, ◌++◌, length, sym, ap, ◌∙◌, append_assoc, length-append, arith}
use Rattle.std.specs.Prelude.{slice_set}
use Rattle.std.proofs.Math.Seq.{set-append_seam}
use Rattle.std.proofs.lemmas.List.{length-map, map-set, length-set}
use Rattle.machine_code.specs.declared.instr.Instr.{Instr}
use Rattle.head_code.specs.declared.emitter.Emitter.{Emitter}
use Rattle.machine_code.specs.Instructions.{Op}
use Rattle.machine_code.specs.Each.{Each}
use Rattle.machine_code.specs.Reading.{op_of, Fits}
use Rattle.head_code.specs.Emitting.{ops_of, Emits, IsPlain, plain_op}
use Rattle.head_code.proofs.Emitting.{plain_fits, plain_same}

each_set : {A : Type 0} (P : A → Type 0) (xs : List A) (i : ℕ) (x : A) → P x → Each P xs → Each P (slice_set xs i x)
each_set P [] i x h k = tt
each_set P (y ∷ xs) zero x h k = (h, k.1)
each_set P (y ∷ xs) (suc i) x h k = (k.0, each_set P xs i x h k.1)

-- one of some instructions was written again
pub patched : (a b c : Emitter) (at : ℕ) (i : Instr) (xs : List Op) (o : Op) (ys : List Op) → at ≡ length a.instrs.items + length xs
    → c.instrs.items ≡ slice_set b.instrs.items at i → c.smalls.keys ≡ b.smalls.keys → c.steps.items ≡ b.steps.items → IsPlain i
    → Emits a b (xs ++ (o ∷ ys)) → Emits a c (xs ++ (plain_op i ∷ ys))
patched a b c at i xs o ys es ei em et plain ab =
    let sm = b.smalls.keys in
    let st = b.steps.items in
    let f = op_of sm st in
    let sizes : length (xs ++ (o ∷ ys)) ≡ length (xs ++ (plain_op i ∷ ys)) =
    omega (arith, length-append xs (o ∷ ys), length-append xs (plain_op i ∷ ys)) in
    let here : at ≡ length (ops_of a ++ xs) =
    omega (arith, es, length-append (ops_of a) xs, length-map a.instrs.items (op_of a.smalls.keys a.steps.items)) in
    record {
      size = ap length ei ∙ length-set b.instrs.items at i ∙ ab.size ∙ ap (λ n. length a.instrs.items + n) sizes;
      fine = λ h. rw (ei, em, et) (each_set (Fits sm st) b.instrs.items at i (plain_fits sm st i plain) (ab.fine h));
      ops = λ h. rw (ei, em, et)
          (map-set f b.instrs.items at i
          ∙ ap (λ l. slice_set l at (f i)) (ab.ops h ∙ sym (append_assoc (ops_of a) xs (o ∷ ys)))
          ∙ (λ k. slice_set ((ops_of a ++ xs) ++ (o ∷ ys)) (here k) (plain_same sm st i plain k))
          ∙ set-append_seam (ops_of a ++ xs) o ys (plain_op i)
          ∙ append_assoc (ops_of a) xs (plain_op i ∷ ys));
    }
