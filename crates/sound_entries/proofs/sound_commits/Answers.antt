-- The law, proved in a file of its own.
use Rattle.sound_entries.proofs.Commits.{commit_sound}
use Rattle.sound_entries.proofs.sound_commits.Goals as goal

pub returns : goal.returns
returns c = commit_sound
