use Rattle.std.proofs.Common.{sym, subst, refl}
use Rattle.heap_words.specs.Trails.{WordList}
use Rattle.word_states.specs.Words.{Among}
use Rattle.commit_engine.proofs.Turning.{paid_by, made_says, made_left}
use Rattle.commit_engine.proofs.turns.make_planned.Goals as goal

pub make_prepared-requires-clause-paid : goal.make_prepared-requires-clause-paid
make_prepared-requires-clause-paid g c =
    paid_by (g.H.Hall.purse c.args.hall.now) c.in-Some.prepared.entry c.args.planner.now c.args.process c.in-Some.ensures.carried
    c.requires.kind c.requires.quota c.requires.cells

pub make_prepared-requires-clause-entry : goal.make_prepared-requires-clause-entry
make_prepared-requires-clause-entry g c = c.in-Some.ensures.is_entry

pub make_prepared-requires-clause-had : goal.make_prepared-requires-clause-had
make_prepared-requires-clause-had g c = λ a x h.
    c.requires.had a x (subst (λ (k : WordList). Among k (a, x)) (sym c.in-Some.ensures.carried.reads) h)

pub make_prepared-requires-clause-same : goal.make_prepared-requires-clause-same
make_prepared-requires-clause-same g c = λ al w a x y h f.
    c.requires.same al w a x y (subst (λ (k : WordList). Among k (a, x)) (sym c.in-Some.ensures.carried.reads) h) f

pub returns-in-Some-clause-says : goal.returns-in-Some-clause-says
returns-in-Some-clause-says g c =
    let h = g.H.Hall.purse c.args.hall.now in
    made_says g.H.Hall.page_count g.H.Hall.due g.H.Hall.purse g.H.Hall.spare g.H.Hall.takes g.H.Hall.silent g.H.Hall.found g.H.Hall.added
    g.H.Hall.alone c.args.hall.now c.make_prepared.new.hall c.args.planner.now c.prepare.new.planner c.args.process c.in-Some.prepared
    c.in-Some.ensures
    (paid_by h c.in-Some.prepared.entry c.args.planner.now c.args.process c.in-Some.ensures.carried c.requires.kind c.requires.quota
    c.requires.cells)
    c.requires.kind c.make_prepared.result c.make_prepared.ensures.says

pub returns-in-Some-clause-rest : goal.returns-in-Some-clause-rest
returns-in-Some-clause-rest g c =
    let h = g.H.Hall.purse c.args.hall.now in
    made_left g.H.Hall.page_count g.H.Hall.due g.H.Hall.purse g.H.Hall.spare g.H.Hall.takes g.H.Hall.silent g.H.Hall.found g.H.Hall.added
    g.H.Hall.alone c.args.hall.now c.make_prepared.new.hall c.args.planner.now c.prepare.new.planner c.args.process c.in-Some.prepared
    c.in-Some.ensures
    (paid_by h c.in-Some.prepared.entry c.args.planner.now c.args.process c.in-Some.ensures.carried c.requires.kind c.requires.quota
    c.requires.cells)
    c.requires.kind c.make_prepared.result c.make_prepared.ensures.says

pub returns-in-None-clause-says : goal.returns-in-None-clause-says
returns-in-None-clause-says g c =
    g.met.H.Hall.hall_laws.later_silent c.args.hall.now c.args.hall.now c.requires.sound
    (g.met.H.Words.laws.still c.args.hall.now c.requires.sound)

pub returns-in-None-clause-rest : goal.returns-in-None-clause-rest
returns-in-None-clause-rest g c = record { one = λ h. refl; same_purse = λ h. refl; same_pages = refl; room = refl }
