use Rattle.word_commit.proofs.Risings.{rising_laws}
use Rattle.word_commit.proofs.rising.numbers_rise.Goals as goal

pub returns : goal.returns
returns g c = rising_laws g.F.Fits.means
