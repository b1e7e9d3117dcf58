-- Each name leads to its own text, since the names differ.
use Rattle.std.proofs.lemmas.List.{length-map}
use Rattle.logix_edge.proofs.Lookups.{AllZip-bytes_of}
use Rattle.logix_edge.proofs.memory_shelf.MemoryShelf.make.Goals as goal

pub returns-clause-found : goal.returns-clause-found
returns-clause-found c = AllZip-bytes_of _ _ (simp length-map c.requires.paired) c.requires.distinct
