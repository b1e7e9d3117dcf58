use Rattle.std.proofs.Common.{◌≡◌, ◌++◌, OnOk, sym, subst}
use Rattle.machine_code.specs.Listing.{instr_text}
use Rattle.machine_code.proofs.code_text.push_instr.Goals as goal

pub returns-in-Try : goal.returns-in-Try
returns-in-Try c =
    subst
    (λ i. OnOk c.push_two.result
    (c.push_two.new.text.items ≡ c.args.text.now.items ++ instr_text c.args.names.now c.args.code.now i))
    (sym c.in-Try.is) c.push_two.ensures

pub returns-in-GetFirst : goal.returns-in-GetFirst
returns-in-GetFirst c =
    subst
    (λ i. OnOk c.push_two-in-GetFirst.result
    (c.push_two-in-GetFirst.new.text.items ≡ c.args.text.now.items ++ instr_text c.args.names.now c.args.code.now i))
    (sym c.in-GetFirst.is) c.push_two-in-GetFirst.ensures

pub returns-in-Unify : goal.returns-in-Unify
returns-in-Unify c =
    subst
    (λ i. OnOk c.push_two-in-Unify.result
    (c.push_two-in-Unify.new.text.items ≡ c.args.text.now.items ++ instr_text c.args.names.now c.args.code.now i))
    (sym c.in-Unify.is) c.push_two-in-Unify.ensures
