use Rattle.std.proofs.Common.{◌≡◌, [], ap, sym, ◌∙◌}
use Rattle.fcp_loader.specs.Faults.{item_faults_of, goal_faults_of}
use Rattle.fcp_loader.specs.Firsts.{first_of}
use Rattle.fcp_loader.proofs.FirstFaults.{none-empty}
use Rattle.fcp_loader.proofs.Numbered.{numbered}
use Rattle.fcp_loader.proofs.loading.load_goal.Goals as goal

pub of-requires-clause-callable : goal.of-requires-clause-callable
of-requires-clause-callable c =
    numbered c.args.loaded.now c.args.goal.items
    (none-empty (item_faults_of c.args.loaded.now c.args.goal.items)
    (ap (λ items. first_of (item_faults_of c.args.loaded.now items)) (sym c.as_slice.ensures) ∙ sym c.in-None.ensures))

pub returns-in-None : goal.returns-in-None
returns-in-None c =
    let free : goal_faults_of c.args.loaded.now c.args.goal ≡ [] =
    none-empty (item_faults_of c.args.loaded.now c.args.goal.items)
    (ap (λ items. first_of (item_faults_of c.args.loaded.now items)) (sym c.as_slice.ensures) ∙ sym c.in-None.ensures) in
    record { same = c.of.ensures.goal; faultless = free; numbers = c.of.ensures.numbers }
