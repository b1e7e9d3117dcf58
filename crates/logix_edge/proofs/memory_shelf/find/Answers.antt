-- The first place of the name leads to its text.
use Rattle.std.proofs.Common.{Vec, Global, ℕ}
use Rattle.std.specs.Str.{bytes_eq}
use Rattle.std.specs.String.{string_bytes}
use Rattle.logix_edge.proofs.Lookups.{lookup-position, option_copied-get, option_map-copied}
use Rattle.logix_edge.proofs.memory_shelf.find.Goals as goal

pub returns-in_err-place : goal.returns-in_err-place
returns-in_err-place c =
    rw (
      c.from_residual.ensures,
      lookup-position (string_bytes {Z = Global}) (λ (text : Vec ℕ Global). text.items)
          (λ held. bytes_eq held c.args.name.now) c.args.names.now c.args.texts.now,
      ← c.in_err-place.ensures,
    )

pub returns : goal.returns
returns c =
    rw (
      lookup-position (string_bytes {Z = Global}) (λ (text : Vec ℕ Global). text.items) (λ held. bytes_eq held c.args.name.now)
          c.args.names.now c.args.texts.now,
      ← c.in_ok-place.ensures,
      ← option_copied-get c.args.texts.now c.in_ok-place.place c.get.result c.get.ensures.lookup,
    )
    (option_map-copied (λ (text : Vec ℕ Global). text.items) c.get.result)
