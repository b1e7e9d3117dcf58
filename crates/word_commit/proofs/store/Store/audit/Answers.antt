use Rattle.std.proofs.Common.{arith, ℕ, ◌<◌, ◌^◌, List, sym, subst}
use Rattle.word_commit.specs.declared.view.View.{View}
use Rattle.word_commit.specs.Views.{Commits, Moves, Cells}
use Rattle.word_commit.proofs.Shares.{audits}
use Rattle.word_commit.proofs.store.Store.audit.Goals as goal

pub load-requires : goal.load-requires
load-requires g c = let d = c.args.self.now in (
  c.requires,
  (let z = d.size in omega arith),
  audits g.F.Fits.means d.table.shared.key d.table.shared.table_id.slots c.args.token.now.id c.args.token.now.me 0,
)

pub returns-clause-small : goal.returns-clause-small
returns-clause-small g c =
    let d = c.args.self.now in
    let told = c.load.ensures.2 in
    let few = d.few in
    let limits = d.limits in
    let a = told.1 Commits in
    let b = told.1 Moves in
    let e = told.1 Cells in
    let l0 = limits.0 in
    let l1 = limits.1 in
    let v = c.args.token.now.me.0 in
    let small : (v.purse.commits < 2 ^ 32) × (v.purse.moves < 2 ^ 32) × (v.purse.cells < 2 ^ 32) =
    (omega arith, omega arith, omega arith) in
    subst (λ (x : View g.row.F-Entry.Denot × List (ℕ × _)). (x.0.purse.commits < 2 ^ 32) × (x.0.purse.moves < 2 ^ 32)
    × (x.0.purse.cells < 2 ^ 32)) (sym told.0) small
