-- The law, proved beside the definitions.
use Rattle.binding_laws.proofs.KeptBindings.{commit_keeps_bindings}
use Rattle.binding_laws.proofs.commits_keep_bindings.Goals as goal

pub returns : goal.returns
returns c = commit_keeps_bindings
