use Rattle.std.proofs.Common.{◌<◌, length, refl, rules, inl}
use Rattle.std.proofs.lemmas.Option.{slice_get_read}
use Rattle.heap_words.specs.HeapLaws.{inside_below, inside_is}
use Rattle.trial_rows.proofs.turning.Turning.given.Goals as goal

pub index-requires : goal.index-requires
index-requires c =
    let there : c.args.addr < length c.args.self.now.words.items = inside_below c.args.self.now.words.items c.args.addr c.requires in
    search rules

pub returns-else-self-eq0 : goal.returns-else-self-eq0
returns-else-self-eq0 c =
    let ws = c.args.self.now.words.items in
    let there =
    slice_get_read ws (length ws) c.args.addr c.index.result.now refl (inside_below ws c.args.addr c.requires) c.index.ensures in
    inl (inside_is ws c.args.addr c.index.result.now c.requires there)
