use Rattle.std.proofs.Common.{◌≡◌, ◌+◌, ◌∙◌, ap, sym, subst, refl, arith, None, pos}
use Rattle.fcp_grammar.specs.declared.terminals.Terminal.TheVariants as terminal
use Rattle.fcp_reader.specs.declared.state.Part.{Part}
use Rattle.fcp_reader.specs.declared.state.Part.TheVariants as Q
use Rattle.fcp_reader.specs.declared.state.State.{State}
use Rattle.fcp_reader.specs.Clauses.{state}
use Rattle.fcp_reader.specs.Modules.{whole, whole_by}
use Rattle.fcp_reader.proofs.Loops.{Kept, none-yet, stop-unexpected, stop-fault, go-on, reads-all, ends-soon}
use Rattle.fcp_reader.proofs.ModuleMachine.{modules}
use Rattle.fcp_reader.proofs.modules.module_of.Goals as goal

-- a module may end between its parts alone
not-whole : (s : State) → (s.part ≡ Q.Between → ⊥) → whole s ≡ None
not-whole s h =
    let P : Part → Type 0 = λ p. (p ≡ Q.Between → ⊥) → whole_by s.read p ≡ None in
    (elim s.part as P [ Q.Between ↦ λ no. absurd (no refl) | _ ↦ λ no. refl ]) h

pub loop-i-init : goal.loop-i-init
loop-i-init c =
    subst (λ v. Kept modules c.args.terminals.now 0 (state v Q.Between) 0) (sym c.nothing.ensures) (none-yet modules c.args.terminals.now)

pub returns-in_default-next : goal.returns-in_default-next
returns-in_default-next c =
    stop-unexpected modules c.args.terminals.now c.loop-i.i c.loop-i.state c.loop-i.depth
    (terminal.Int (pos 0) 0) c.loop-i.invariant c.loop-i-test.true (sym c.in-Ok.ensures ∙ c.in_default-next.is)

pub returns-in-Some-fault_of : goal.returns-in-Some-fault_of
returns-in-Some-fault_of c =
    stop-fault modules c.args.terminals.now c.loop-i.i c.loop-i.state c.loop-i.depth
    (terminal.Int (pos 0) 0) c.loop-i.invariant c.loop-i-test.true
    c.in-Some.next c.in-Some.large c.in-Some-fault_of.code (sym c.in-Ok.ensures ∙ c.in-Some.is) (sym c.in-Some-fault_of.ensures)

pub loop-i-preserved : goal.loop-i-preserved
loop-i-preserved c =
    subst (λ n. Kept modules c.args.terminals.now (c.loop-i.i + 1) c.in-Some.next n) (sym c.deeper-depth.ensures)
    (go-on modules c.args.terminals.now c.loop-i.i c.loop-i.state c.loop-i.depth
    (terminal.Int (pos 0) 0) c.loop-i.invariant c.loop-i-test.true
    c.in-Some.next c.in-Some.large (sym c.in-Ok.ensures ∙ c.in-Some.is) (sym c.fault_of.ensures ∙ c.in_default-fault_of.is))

pub returns-in-Between : goal.returns-in-Between
returns-in-Between c =
    reads-all modules c.args.terminals.now c.loop-i.i c.loop-i.state c.loop-i.depth (c.loop-i.state).read c.loop-i.invariant (omega arith)
    (ap (whole_by (c.loop-i.state).read) c.in-Between.is)

pub returns-in_default-part : goal.returns-in_default-part
returns-in_default-part c =
    ends-soon modules c.args.terminals.now c.loop-i.i c.loop-i.state c.loop-i.depth c.loop-i.invariant (omega arith)
    (not-whole c.loop-i.state c.in_default-part.not-Between)
