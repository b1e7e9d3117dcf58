use Rattle.logix_app.proofs.Loaded.{shown, refused-show}
use Rattle.logix_app.proofs.loading.answer_show.Goals as goal

pub returns-in-Ok : goal.returns-in-Ok
returns-in-Ok c = shown c.args.file.now c.in-Ok.loaded c.load_text.new.names c.in-Ok.ensures.loads

pub returns-in-Err : goal.returns-in-Err
returns-in-Err c =
    refused-show c.args.file.now c.load_text.new.names c.in-Err.refused c.module_refusal.result c.in-Err.ensures.loads
    c.module_refusal.ensures
