-- The parts of a clause's code.
use Rattle.std.proofs.Common.{◌≡◌, ℕ, suc, ◌+◌, List, [], ◌∷◌, ◌++◌, length, map, sym, subst, ◌∙◌, arith}
use Rattle.std.specs.Prelude.{slice_set}
use Rattle.std.proofs.lemmas.List.{length-map}
use Rattle.fcp_model.specs.declared.loaded.ProcedureName.{ProcedureName}
use Rattle.fcp_model.specs.declared.source.Clause as read
use Rattle.fcp_model.specs.declared.term.Term as source
use Rattle.fcp_model.specs.Translation.{term_of, test_of, goals_of, clause_of}
use Rattle.fcp_model.specs.declared.source.Item.{Item}
use Rattle.std.specs.List.{filter_map}
use Rattle.machine_code.specs.declared.instr.Instr.TheVariants as instr
use Rattle.head_code.specs.declared.emitter.Emitter.{Emitter}
use Rattle.machine_code.specs.Instructions.{Try, Commit}
use Rattle.head_code.specs.HeadCode.{head_code}
use Rattle.clause_compiler.specs.ClauseCode.{guard_code, body_code, inner_code, clause_code}
use Rattle.head_code.specs.Emitting.{Emits}
use Rattle.head_code.proofs.Emitting.{emits_on}
use Rattle.head_code.proofs.Patches.{patched}

-- a clause was emitted
pub clause_emitted : (hs : List ProcedureName) (a b c d e f g : Emitter) (cl : read.Clause) (k start next base : ℕ)
    (as' : List source.Term) (gs' bs' : List Item) → as' ≡ cl.args → gs' ≡ cl.guard → bs' ≡ cl.body → base ≡ length cl.args
    → start ≡ length a.instrs.items → next ≡ length f.instrs.items
    → Emits a b (Try k 0 ∷ []) → Emits b c (head_code (length b.instrs.items) 0 base 0 (map term_of as'))
    → Emits c d (guard_code base (filter_map (λ i. test_of i.call) gs')) → Emits d e (body_code base (goals_of hs bs'))
    → Emits e f (Commit ∷ [])
    → g.instrs.items ≡ slice_set f.instrs.items start (instr.Try k next) → g.smalls.keys ≡ f.smalls.keys → g.steps.items ≡ f.steps.items
    → Emits a g (clause_code (length a.instrs.items) k (clause_of hs cl))
clause_emitted hs a b c d e f g cl k start next base as' gs' bs' ea eg ebs eb es en ab bc cd de ef gi gm gs =
    let C = clause_of hs cl in
    let A = length a.instrs.items in
    let base' : base ≡ length C.args = eb ∙ sym (length-map cl.args term_of) in
    let here : length b.instrs.items ≡ suc A = omega (arith, ab.size) in
    let inner : head_code (length b.instrs.items) 0 base 0 (map term_of as')
    ++ (guard_code base (filter_map (λ i. test_of i.call) gs') ++ (body_code base (goals_of hs bs') ++ Commit ∷ []))
    ≡ inner_code (suc A) C =
    λ j. head_code (here j) 0 (base' j) 0 (map term_of (ea j))
    ++ (guard_code (base' j) (filter_map (λ i. test_of i.call) (eg j)) ++ (body_code (base' j) (goals_of hs (ebs j)) ++ Commit ∷ [])) in
    let all = subst (λ l. Emits b f l) inner (emits_on b c f _ _ bc (emits_on c d f _ _ cd (emits_on d e f _ _ de ef))) in
    let whole = emits_on a b f (Try k 0 ∷ []) (inner_code (suc A) C) ab all in
    let start' : start ≡ A + 0 = omega (arith, es) in
    let next' : next ≡ suc A + length (inner_code (suc A) C) = omega (arith, en, all.size, here) in
    subst (λ n. Emits a g (Try k n ∷ inner_code (suc A) C)) next'
    (patched a f g start (instr.Try k next) [] (Try k 0) (inner_code (suc A) C) start' gi gm gs tt whole)
