use Rattle.std.proofs.Common.{subst}
use Rattle.fcp_reader.specs.Sources.{ReadsModule}
use Rattle.logix_app.proofs.Loaded.{loads-text, refuses-text}
use Rattle.logix_app.proofs.loading.load_text.Goals as goal

pub returns-in-Ok : goal.returns-in-Ok
returns-in-Ok c = record {
  loads = loads-text c.args.names.now c.args.file.now c.read_module.new.names c.in-Ok.module c.load.result c.requires.fresh
      (subst (ReadsModule c.args.names.now c.args.file.now c.read_module.new.names) c.in-Ok.is c.read_module.ensures.read) c.load.ensures;
}

pub returns-in-Err : goal.returns-in-Err
returns-in-Err c = record {
  loads = refuses-text c.args.names.now c.args.file.now c.read_module.new.names c.in-Err.refused c.requires.fresh
      (subst (ReadsModule c.args.names.now c.args.file.now c.read_module.new.names) c.in-Err.is c.read_module.ensures.read);
}
