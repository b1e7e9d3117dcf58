use Rattle.std.proofs.Common.{ap, ◌∙◌, subst}
use Rattle.word_commit.specs.declared.quota.Quota.{Quota}
use Rattle.move_plans.specs.declared.planner.Planned.{Planned}
use Rattle.move_plans.specs.Plans.{PlanSays}
use Rattle.commit_engine.proofs.Turning.{read_had, read_same, enough_still, large_turn, finish_turn, left_after}
use Rattle.commit_engine.proofs.turns.go_on.Goals as goal

pub returns-in_default-clause-free : goal.returns-in_default-clause-free
returns-in_default-clause-free g c = λ q.
    g.met.H.Hall.hall_laws.later_holds c.args.hall.now c.plan.new.words q c.plan.ensures.between ∙ c.requires.free q

pub make_planned-requires-clause-free : goal.make_planned-requires-clause-free
make_planned-requires-clause-free g c = λ q.
    g.met.H.Hall.hall_laws.later_holds c.args.hall.now c.plan.new.words q c.plan.ensures.between ∙ c.requires.free q

pub make_planned-requires-in-Hangs-clause-free : goal.make_planned-requires-in-Hangs-clause-free
make_planned-requires-in-Hangs-clause-free g c = λ q.
    g.met.H.Hall.hall_laws.later_holds c.args.hall.now c.plan.new.words q c.plan.ensures.between ∙ c.requires.free q

pub returns-in-Fails-clause-free : goal.returns-in-Fails-clause-free
returns-in-Fails-clause-free g c = λ q.
    g.met.H.Hall.hall_laws.later_holds c.args.hall.now c.plan.new.words q c.plan.ensures.between ∙ c.requires.free q

pub returns-in-Gone-clause-free : goal.returns-in-Gone-clause-free
returns-in-Gone-clause-free g c = λ q.
    g.met.H.Hall.hall_laws.later_holds c.args.hall.now c.plan.new.words q c.plan.ensures.between ∙ c.requires.free q

pub returns-in-Full-clause-free : goal.returns-in-Full-clause-free
returns-in-Full-clause-free g c = λ q.
    g.met.H.Hall.hall_laws.later_holds c.args.hall.now c.plan.new.words q c.plan.ensures.between ∙ c.requires.free q

pub returns-in-Large-clause-free : goal.returns-in-Large-clause-free
returns-in-Large-clause-free g c = λ q.
    g.met.H.Hall.hall_laws.later_holds c.args.hall.now c.plan.new.words q c.plan.ensures.between ∙ c.requires.free q

pub returns-in-Large-clause-says : goal.returns-in-Large-clause-says
returns-in-Large-clause-says g c =
    let says = subst (λ (d : Planned). PlanSays c.args.code.now c.plan.new.self c.args.process c.quota-left.result.cells d) c.in-Large.is
    c.in-Ok.ensures.says in
    large_turn g.met.H.Words.laws g.met.H.Hall.hall_laws c.args.code.now c.args.hall.now c.plan.new.words c.plan.new.self c.args.process
    c.in-Large.cells c.quota-left.result.cells c.requires.sound c.plan.ensures.between c.in-Ok.ensures.loaded says.0
    (ap (λ (q : Quota). q.cells) c.quota-left.ensures) says.1

pub make_planned-requires-clause-cells : goal.make_planned-requires-clause-cells
make_planned-requires-clause-cells g c =
    let says = subst (λ (d : Planned). PlanSays c.args.code.now c.plan.new.self c.args.process c.quota-left.result.cells d)
    c.in-Commits.is c.in-Ok.ensures.says in
    enough_still g.met.H.Words.laws g.met.H.Hall.hall_laws c.args.hall.now c.plan.new.words c.plan.new.self.cells
    c.quota-left.result.cells c.plan.ensures.between (ap (λ (q : Quota). q.cells) c.quota-left.ensures) says.2

pub make_planned-requires-in-Hangs-clause-cells : goal.make_planned-requires-in-Hangs-clause-cells
make_planned-requires-in-Hangs-clause-cells g c =
    let says = subst (λ (d : Planned). PlanSays c.args.code.now c.plan.new.self c.args.process c.quota-left.result.cells d)
    c.in-Hangs.is c.in-Ok.ensures.says in
    enough_still g.met.H.Words.laws g.met.H.Hall.hall_laws c.args.hall.now c.plan.new.words c.plan.new.self.cells
    c.quota-left.result.cells c.plan.ensures.between (ap (λ (q : Quota). q.cells) c.quota-left.ensures) says.2

pub make_planned-requires-clause-had : goal.make_planned-requires-clause-had
make_planned-requires-clause-had g c =
    let says = subst (λ (d : Planned). PlanSays c.args.code.now c.plan.new.self c.args.process c.quota-left.result.cells d) c.in-Commits.is c.in-Ok.ensures.says in
    let plan = says.0 in
    read_had g.met.H.Words.laws g.met.H.Hall.hall_laws c.args.hall.now c.plan.new.words c.plan.new.self c.args.process
    c.in-Ok.ensures.loaded plan.safe

pub make_planned-requires-clause-same : goal.make_planned-requires-clause-same
make_planned-requires-clause-same g c =
    let says = subst (λ (d : Planned). PlanSays c.args.code.now c.plan.new.self c.args.process c.quota-left.result.cells d) c.in-Commits.is c.in-Ok.ensures.says in
    let plan = says.0 in
    read_same g.met.H.Words.laws g.met.H.Hall.hall_laws c.args.hall.now c.plan.new.words c.plan.new.self c.args.process c.requires.sound
    c.in-Ok.ensures.loaded plan.safe

pub returns-in-Commits-clause-says : goal.returns-in-Commits-clause-says
returns-in-Commits-clause-says g c =
    let says = subst (λ (d : Planned). PlanSays c.args.code.now c.plan.new.self c.args.process c.quota-left.result.cells d) c.in-Commits.is c.in-Ok.ensures.says in
    let plan = says.0 in
    finish_turn g.met.H.Words.laws g.met.H.Hall.hall_laws c.args.code.now c.args.hall.now c.plan.new.words c.make_planned.new.hall
    c.plan.new.self c.make_planned.new.planner c.args.process c.requires.sound c.plan.ensures.between c.in-Ok.ensures.loaded plan
    c.make_planned.result c.make_planned.ensures.says

pub returns-in-Commits-clause-rest : goal.returns-in-Commits-clause-rest
returns-in-Commits-clause-rest g c =
    left_after g.met.H.Words.laws g.met.H.Hall.hall_laws c.args.hall.now c.plan.new.words c.make_planned.new.hall c.make_planned.result
    c.requires.sound c.plan.ensures.between c.make_planned.ensures.rest

pub make_planned-requires-in-Hangs-clause-had : goal.make_planned-requires-in-Hangs-clause-had
make_planned-requires-in-Hangs-clause-had g c =
    let says = subst (λ (d : Planned). PlanSays c.args.code.now c.plan.new.self c.args.process c.quota-left.result.cells d) c.in-Hangs.is c.in-Ok.ensures.says in
    let plan = says.0 in
    read_had g.met.H.Words.laws g.met.H.Hall.hall_laws c.args.hall.now c.plan.new.words c.plan.new.self c.args.process
    c.in-Ok.ensures.loaded plan.safe

pub make_planned-requires-in-Hangs-clause-same : goal.make_planned-requires-in-Hangs-clause-same
make_planned-requires-in-Hangs-clause-same g c =
    let says = subst (λ (d : Planned). PlanSays c.args.code.now c.plan.new.self c.args.process c.quota-left.result.cells d) c.in-Hangs.is c.in-Ok.ensures.says in
    let plan = says.0 in
    read_same g.met.H.Words.laws g.met.H.Hall.hall_laws c.args.hall.now c.plan.new.words c.plan.new.self c.args.process c.requires.sound
    c.in-Ok.ensures.loaded plan.safe

pub returns-in-Hangs-clause-says : goal.returns-in-Hangs-clause-says
returns-in-Hangs-clause-says g c =
    let says = subst (λ (d : Planned). PlanSays c.args.code.now c.plan.new.self c.args.process c.quota-left.result.cells d) c.in-Hangs.is c.in-Ok.ensures.says in
    let plan = says.0 in
    finish_turn g.met.H.Words.laws g.met.H.Hall.hall_laws c.args.code.now c.args.hall.now c.plan.new.words c.make_planned-in-Hangs.new.hall
    c.plan.new.self c.make_planned-in-Hangs.new.planner c.args.process c.requires.sound c.plan.ensures.between c.in-Ok.ensures.loaded plan
    c.make_planned-in-Hangs.result c.make_planned-in-Hangs.ensures.says

pub returns-in-Hangs-clause-rest : goal.returns-in-Hangs-clause-rest
returns-in-Hangs-clause-rest g c =
    left_after g.met.H.Words.laws g.met.H.Hall.hall_laws c.args.hall.now c.plan.new.words c.make_planned-in-Hangs.new.hall
    c.make_planned-in-Hangs.result c.requires.sound c.plan.ensures.between c.make_planned-in-Hangs.ensures.rest
