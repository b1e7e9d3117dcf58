-- The law, proved in a file of its own.
use Rattle.sound_entries.proofs.Hangs.{hang_sound}
use Rattle.sound_entries.proofs.sound_hangs.Goals as goal

pub returns : goal.returns
returns c = hang_sound
