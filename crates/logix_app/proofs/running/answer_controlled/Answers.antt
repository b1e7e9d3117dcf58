use Rattle.logix_app.proofs.Reported.{ran, reported}
use Rattle.logix_app.proofs.running.answer_controlled.Goals as goal

pub returns : goal.returns
returns c file text control loaded asked =
    ran c.args.limits control file text c.args.loaded.now c.args.goal.now.0 c.args.names.now c.args.controls.now
    c.in_ok-run.run'.outcome c.in_ok-text.text.items loaded asked c.requires.kept.lawful
    (reported c.args.names.now _ c.in_ok-run.run' c.in_ok-text.text.items c.requires.kept.lawful c.in_ok-run.ensures.run
    c.in_ok-text.ensures)
