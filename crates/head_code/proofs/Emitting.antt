-- Code that is put after code.
use Rattle.std.proofs.Common.{◌≡◌, ℕ, zero, suc, ◌+◌, ◌<◌, ◌≤◌, List, [], ◌∷◌, ◌++◌, length, map, take, drop, Option, Some, None, refl, sym, ap, ◌∙◌, subst, append_assoc, append-nil, length-append, arith}
use Rattle.std.specs.Prelude.{slice_get, ℤ, Bool, true, false, nat_eq, if◌then◌else◌}
use Rattle.std.specs.List.{list_any}
use Rattle.indexmap.specs.IndexSet.{insert_key}
use Rattle.std.proofs.Math.Seq.{drop-append_seam, take-append_seam, take-length}
use Rattle.heap_words.specs.declared.steps.TestKind.{TestKind}
use Rattle.std.proofs.lemmas.Option.{slice_get_within}
use Rattle.std.proofs.lemmas.List.{map-append, drop-append-le, take-append-le, length-drop}
use Rattle.heap_words.specs.declared.cell.Cell.{Cell}
use Rattle.heap_words.specs.declared.cell.Cell.TheVariants as cells
use Rattle.heap_words.specs.declared.steps.ExprStep.{ExprStep}
use Rattle.heap_words.specs.Cells.{decoded}
use Rattle.fcp_model.specs.Terms.{number}
use Rattle.machine_code.specs.declared.instr.Instr.{Instr}
use Rattle.machine_code.specs.declared.instr.Instr.TheVariants as instr
use Rattle.head_code.specs.declared.emitter.Emitter.{Emitter}
use Rattle.machine_code.specs.Instructions.{Op, PutWord, Test}
use Rattle.machine_code.specs.Each.{Each}
use Rattle.machine_code.proofs.Each.{each_append, each_map}
use Rattle.machine_code.specs.Reading.{wide, small_in, small_of, constant, step_of, steps_at, op_of, WordFits, Fits}
use Rattle.head_code.specs.Emitting.{ops_of, Emits, IsPlain, plain_op, IsConstant}

pub emits_none : (e : Emitter) → Emits e e []
emits_none e = record { size = omega arith; fine = λ h. h; ops = λ h. sym (append-nil (ops_of e)) }

pub emits_on : (a b c : Emitter) (xs ys : List Op) → Emits a b xs → Emits b c ys → Emits a c (xs ++ ys)
emits_on a b c xs ys h k = record {
  size = omega (arith, h.size, k.size, length-append xs ys);
  fine = λ f. k.fine (h.fine f);
  ops = λ f. k.ops (h.fine f) ∙ ap (λ l. l ++ ys) (h.ops f) ∙ append_assoc (ops_of a) xs ys;
}

pub plain_fits : (sm : List ℕ) (st : List ExprStep) (i : Instr) → IsPlain i → Fits sm st i
plain_fits sm st (instr.Try a b) h = tt
plain_fits sm st (instr.GetFirst a b) h = tt
plain_fits sm st (instr.GetCons a b c d) h = tt
plain_fits sm st (instr.GetTuple a b c d) h = tt
plain_fits sm st (instr.PutVar a b c) h = tt
plain_fits sm st (instr.PutWord a b) h = absurd h
plain_fits sm st (instr.PutCons a b c) h = tt
plain_fits sm st (instr.PutTuple a b c d) h = h
plain_fits sm st (instr.Unify a b) h = tt
plain_fits sm st (instr.Jump a) h = tt
plain_fits sm st (instr.Test a b c d e) h = absurd h
plain_fits sm st instr.Otherwise h = tt
plain_fits sm st (instr.Spawn a b c) h = tt
plain_fits sm st instr.Commit h = tt

pub plain_same : (sm : List ℕ) (st : List ExprStep) (i : Instr) → IsPlain i → op_of sm st i ≡ plain_op i
plain_same sm st (instr.Try a b) h = refl
plain_same sm st (instr.GetFirst a b) h = refl
plain_same sm st (instr.GetCons a b c d) h = refl
plain_same sm st (instr.GetTuple a b c d) h = refl
plain_same sm st (instr.PutVar a b c) h = refl
plain_same sm st (instr.PutWord a b) h = absurd h
plain_same sm st (instr.PutCons a b c) h = refl
plain_same sm st (instr.PutTuple a b c d) h = refl
plain_same sm st (instr.Unify a b) h = refl
plain_same sm st (instr.Jump a) h = refl
plain_same sm st (instr.Test a b c d e) h = absurd h
plain_same sm st instr.Otherwise h = refl
plain_same sm st (instr.Spawn a b c) h = refl
plain_same sm st instr.Commit h = refl

-- one instruction more, with tables as they were
one_more : (old new : Emitter) (i : Instr) (o : Op) → new.instrs.items ≡ old.instrs.items ++ i ∷ [] → new.smalls.keys ≡ old.smalls.keys
    → new.steps.items ≡ old.steps.items → Fits old.smalls.keys old.steps.items i → op_of old.smalls.keys old.steps.items i ≡ o
    → Emits old new (o ∷ [])
one_more old new i o ei em es fits reads = record {
  size = omega (arith, ap length ei, length-append old.instrs.items (i ∷ []));
  fine = λ f. rw (ei, em, es) (each_append (Fits old.smalls.keys old.steps.items) old.instrs.items (i ∷ []) f (fits, tt));
  ops =
      λ f. rw (ei, em, es) (map-append (op_of old.smalls.keys old.steps.items) old.instrs.items (i ∷ [])
      ∙ ap (λ x. map (op_of old.smalls.keys old.steps.items) old.instrs.items ++ x ∷ []) reads);
}

pub emits_plain : (old new : Emitter) (i : Instr) → new.instrs.items ≡ old.instrs.items ++ i ∷ [] → new.smalls.keys ≡ old.smalls.keys
    → new.steps.items ≡ old.steps.items → IsPlain i → Emits old new (plain_op i ∷ [])
emits_plain old new i ei em es h =
    one_more old new i (plain_op i) ei em es (plain_fits old.smalls.keys old.steps.items i h)
    (plain_same old.smalls.keys old.steps.items i h)

-- longer tables have what shorter ones have
slice_get_front : {A : Type 0} (xs ys : List A) (i : ℕ) → i < length xs → slice_get (xs ++ ys) i ≡ slice_get xs i
slice_get_front [] ys i h = absurd (omega (arith, h))
slice_get_front (x ∷ xs) ys zero h = refl
slice_get_front (x ∷ xs) ys (suc i) h = slice_get_front xs ys i (omega (arith, h))

constant_same : (sm xs : List ℕ) (o : Option Cell) → WordFits sm o → constant (sm ++ xs) o ≡ constant sm o
constant_same sm xs None h = refl
constant_same sm xs (Some (cells.Wide at high)) h = ap (λ o. number (wide (small_of o) high)) (slice_get_front sm xs at h)
constant_same sm xs (Some (cells.Unbound a)) h = refl
constant_same sm xs (Some (cells.Ref a)) h = refl
constant_same sm xs (Some (cells.RoRef a)) h = refl
constant_same sm xs (Some (cells.Small z)) h = refl
constant_same sm xs (Some (cells.Str s)) h = refl
constant_same sm xs (Some cells.Nil) h = refl
constant_same sm xs (Some (cells.Cons a)) h = refl
constant_same sm xs (Some (cells.Tuple a)) h = refl
constant_same sm xs (Some (cells.Status a)) h = refl
constant_same sm xs (Some (cells.Raw a)) h = refl
constant_same sm xs (Some (cells.Top a)) h = refl

word_fits : (sm xs : List ℕ) (o : Option Cell) → WordFits sm o → WordFits (sm ++ xs) o
word_fits sm xs None h = tt
word_fits sm xs (Some (cells.Wide at high)) h = omega (arith, h, length-append sm xs)
word_fits sm xs (Some (cells.Unbound a)) h = tt
word_fits sm xs (Some (cells.Ref a)) h = tt
word_fits sm xs (Some (cells.RoRef a)) h = tt
word_fits sm xs (Some (cells.Small z)) h = tt
word_fits sm xs (Some (cells.Str s)) h = tt
word_fits sm xs (Some cells.Nil) h = tt
word_fits sm xs (Some (cells.Cons a)) h = tt
word_fits sm xs (Some (cells.Tuple a)) h = tt
word_fits sm xs (Some (cells.Status a)) h = tt
word_fits sm xs (Some (cells.Raw a)) h = tt
word_fits sm xs (Some (cells.Top a)) h = tt

steps_same : (st ys : List ExprStep) (at len : ℕ) → at + len ≤ length st → steps_at (st ++ ys) at len ≡ steps_at st at len
steps_same st ys at len h =
    ap (λ l. map step_of (take len l)) (drop-append-le at st ys (omega (arith, h)))
    ∙ ap (map step_of) (take-append-le len (drop at st) ys (omega (arith, h, length-drop at st)))

op_same : (sm xs : List ℕ) (st ys : List ExprStep) (i : Instr) → Fits sm st i → op_of (sm ++ xs) (st ++ ys) i ≡ op_of sm st i
op_same sm xs st ys (instr.Try a b) h = refl
op_same sm xs st ys (instr.GetFirst a b) h = refl
op_same sm xs st ys (instr.GetCons a b c d) h = refl
op_same sm xs st ys (instr.GetTuple a b c d) h = refl
op_same sm xs st ys (instr.PutVar a b c) h = refl
op_same sm xs st ys (instr.PutWord a w) h = ap (PutWord a) (constant_same sm xs (decoded w) h)
op_same sm xs st ys (instr.PutCons a b c) h = refl
op_same sm xs st ys (instr.PutTuple a b c d) h = refl
op_same sm xs st ys (instr.Unify a b) h = refl
op_same sm xs st ys (instr.Jump a) h = refl
op_same sm xs st ys (instr.Test k l ll r rl) h = λ i. Test k (steps_same st ys l ll h.0 i) (steps_same st ys r rl h.1 i)
op_same sm xs st ys instr.Otherwise h = refl
op_same sm xs st ys (instr.Spawn a b c) h = refl
op_same sm xs st ys instr.Commit h = refl

fits_more : (sm xs : List ℕ) (st ys : List ExprStep) (i : Instr) → Fits sm st i → Fits (sm ++ xs) (st ++ ys) i
fits_more sm xs st ys (instr.Try a b) h = tt
fits_more sm xs st ys (instr.GetFirst a b) h = tt
fits_more sm xs st ys (instr.GetCons a b c d) h = tt
fits_more sm xs st ys (instr.GetTuple a b c d) h = tt
fits_more sm xs st ys (instr.PutVar a b c) h = tt
fits_more sm xs st ys (instr.PutWord a w) h = word_fits sm xs (decoded w) h
fits_more sm xs st ys (instr.PutCons a b c) h = tt
fits_more sm xs st ys (instr.PutTuple a b c d) h = h
fits_more sm xs st ys (instr.Unify a b) h = tt
fits_more sm xs st ys (instr.Jump a) h = tt
fits_more sm xs st ys (instr.Test k l ll r rl) h = (omega (arith, h.0, length-append st ys), omega (arith, h.1, length-append st ys))
fits_more sm xs st ys instr.Otherwise h = tt
fits_more sm xs st ys (instr.Spawn a b c) h = tt
fits_more sm xs st ys instr.Commit h = tt

ops_same : (sm xs : List ℕ) (st ys : List ExprStep) (is : List Instr) → Each (Fits sm st) is
    → map (op_of (sm ++ xs) (st ++ ys)) is ≡ map (op_of sm st) is
ops_same sm xs st ys [] h = refl
ops_same sm xs st ys (i ∷ is) h = λ j. op_same sm xs st ys i h.0 j ∷ ops_same sm xs st ys is h.1 j

-- one instruction more, with longer tables
pub one_grown : (old new : Emitter) (xs : List ℕ) (ys : List ExprStep) (i : Instr) (o : Op) → new.instrs.items ≡ old.instrs.items ++ i ∷ []
    → new.smalls.keys ≡ old.smalls.keys ++ xs → new.steps.items ≡ old.steps.items ++ ys
    → Fits (old.smalls.keys ++ xs) (old.steps.items ++ ys) i → op_of (old.smalls.keys ++ xs) (old.steps.items ++ ys) i ≡ o
    → Emits old new (o ∷ [])
one_grown old new xs ys i o ei em es fits reads =
    let sm = old.smalls.keys ++ xs in
    let st = old.steps.items ++ ys in
    record {
      size = omega (arith, ap length ei, length-append old.instrs.items (i ∷ []));
      fine =
          λ f. rw (ei, em, es) (each_append (Fits sm st) old.instrs.items (i ∷ [])
          (each_map (Fits old.smalls.keys old.steps.items) (Fits sm st)
          (λ j h. fits_more old.smalls.keys xs old.steps.items ys j h) old.instrs.items f) (fits, tt));
      ops =
          λ f. rw (ei, em, es) (map-append (op_of sm st) old.instrs.items (i ∷ [])
          ∙ (λ k. ops_same old.smalls.keys xs old.steps.items ys old.instrs.items f k ++ reads k ∷ []));
    }

-- a list with a key in it goes on from the list
inserted_behind : (ks : List ℕ) (k : ℕ) → (xs : List ℕ) × (insert_key nat_eq ks k ≡ ks ++ xs)
inserted_behind ks k = by (list_any (nat_eq k) ks)
  where
    by : (b : Bool) → (xs : List ℕ) × ((if b then ks else ks ++ k ∷ []) ≡ ks ++ xs)
    by true = ([], sym (append-nil ks))
    by false = (k ∷ [], refl)

within : (xs : List ℕ) (i x : ℕ) → slice_get xs i ≡ Some x → i < length xs
within xs i x e = slice_get_within xs i x e

-- a wide number
pub emits_wide : (old mid new : Emitter) (slot word at small high : ℕ) (low value : ℤ)
    → new.instrs.items ≡ mid.instrs.items ++ instr.PutWord slot word ∷ [] → mid.instrs ≡ old.instrs
    → new.smalls.keys ≡ insert_key nat_eq old.smalls.keys small → new.steps ≡ old.steps
    → decoded word ≡ Some (cells.Wide at high) → decoded small ≡ Some (cells.Small low) → slice_get new.smalls.keys at ≡ Some small
    → wide low high ≡ value → Emits old new (PutWord slot (number value) ∷ [])
emits_wide old mid new slot word at small high low value en eo em es ew el ea ev =
    let ei : new.instrs.items ≡ old.instrs.items ++ instr.PutWord slot word ∷ [] =
    en ∙ ap (λ v. v.items ++ instr.PutWord slot word ∷ []) eo in
    let (xs, grown) = inserted_behind old.smalls.keys small in
    let all : new.smalls.keys ≡ old.smalls.keys ++ xs = em ∙ grown in
    let here : slice_get (old.smalls.keys ++ xs) at ≡ Some small = ap (λ l. slice_get l at) (sym all) ∙ ea in
    one_grown old new xs [] (instr.PutWord slot word) (PutWord slot (number value)) ei all
    (ap (λ v. v.items) es ∙ sym (append-nil old.steps.items))
    (subst (WordFits (old.smalls.keys ++ xs)) (sym ew) (within (old.smalls.keys ++ xs) at small here))
    (ap (λ o. PutWord slot (constant (old.smalls.keys ++ xs) o)) ew
    ∙ ap (λ o. PutWord slot (number (wide (small_of o) high))) here
    ∙ ap (λ o. PutWord slot (number (wide (small_in o) high))) el
    ∙ ap (λ z. PutWord slot (number z)) ev)

-- a string, `[]` or a Small
pub emits_cell : (old new : Emitter) (slot word : ℕ) (c : Cell) → new.instrs.items ≡ old.instrs.items ++ instr.PutWord slot word ∷ []
    → new.smalls.keys ≡ old.smalls.keys → new.steps.items ≡ old.steps.items → decoded word ≡ Some c → IsConstant (Some c)
    → Emits old new (PutWord slot (constant [] (Some c)) ∷ [])
emits_cell old new slot word c ei em es ew k =
    one_more old new (instr.PutWord slot word) (PutWord slot (constant [] (Some c))) ei em es
    (subst (WordFits old.smalls.keys) (sym ew) (fits c k))
    (ap (λ o. PutWord slot (constant old.smalls.keys o)) ew ∙ ap (PutWord slot) (same c k))
  where
    fits : (c : Cell) → IsConstant (Some c) → WordFits old.smalls.keys (Some c)
    fits (cells.Small z) k = tt
    fits (cells.Str s) k = tt
    fits cells.Nil k = tt
    fits (cells.Unbound a) k = absurd k
    fits (cells.Ref a) k = absurd k
    fits (cells.RoRef a) k = absurd k
    fits (cells.Wide a h) k = absurd k
    fits (cells.Cons a) k = absurd k
    fits (cells.Tuple a) k = absurd k
    fits (cells.Status a) k = absurd k
    fits (cells.Raw a) k = absurd k
    fits (cells.Top a) k = absurd k

    same : (c : Cell) → IsConstant (Some c) → constant old.smalls.keys (Some c) ≡ constant [] (Some c)
    same (cells.Small z) k = refl
    same (cells.Str s) k = refl
    same cells.Nil k = refl
    same (cells.Unbound a) k = absurd k
    same (cells.Ref a) k = absurd k
    same (cells.RoRef a) k = absurd k
    same (cells.Wide a h) k = absurd k
    same (cells.Cons a) k = absurd k
    same (cells.Tuple a) k = absurd k
    same (cells.Status a) k = absurd k
    same (cells.Raw a) k = absurd k
    same (cells.Top a) k = absurd k

-- a test of the steps that two lists have
pub emits_test : (old new : Emitter) (k : TestKind) (from ll behind rl : ℕ) (middle : List ExprStep) (xs ys : List ExprStep)
    → new.instrs.items ≡ old.instrs.items ++ instr.Test k from ll behind rl ∷ [] → new.smalls.keys ≡ old.smalls.keys
    → middle ≡ old.steps.items ++ xs → new.steps.items ≡ middle ++ ys
    → from ≡ length old.steps.items → ll ≡ length xs → rl ≡ length ys → behind ≡ from + ll
    → Emits old new (Test k (map step_of xs) (map step_of ys) ∷ [])
emits_test old new k from ll behind rl middle xs ys ei em e1 e2 ef el er eb =
    let st = old.steps.items in
    let all : new.steps.items ≡ st ++ (xs ++ ys) = e2 ∙ ap (λ l. l ++ ys) e1 ∙ append_assoc st xs ys in
    one_grown old new [] (xs ++ ys) (instr.Test k from ll behind rl) (Test k (map step_of xs) (map step_of ys)) ei
    (em ∙ sym (append-nil old.smalls.keys)) all (
      omega (arith, ef, el, length-append st (xs ++ ys), length-append xs ys),
      omega
          (arith, ef, el, er, eb, length-append st (xs ++ ys), length-append xs ys),
    )
    (λ i. Test k (front i) (back i))
  where
    front : steps_at (old.steps.items ++ (xs ++ ys)) from ll ≡ map step_of xs
    front =
        ap (λ l. map step_of (take ll l))
        (ap (λ n. drop n (old.steps.items ++ (xs ++ ys))) ef ∙ drop-append_seam old.steps.items (xs ++ ys))
        ∙ ap (map step_of) (ap (λ n. take n (xs ++ ys)) el ∙ take-append_seam xs ys)

    back : steps_at (old.steps.items ++ (xs ++ ys)) behind rl ≡ map step_of ys
    back =
        let z : behind ≡ length (old.steps.items ++ xs) = omega (arith, eb, ef, el, length-append old.steps.items xs) in
        ap (λ l. map step_of (take rl l))
        ((λ i. drop (z i) (sym (append_assoc old.steps.items xs ys) i)) ∙ drop-append_seam (old.steps.items ++ xs) ys)
        ∙ ap (map step_of) (ap (λ n. take n ys) er ∙ take-length ys)
