use Rattle.std.proofs.Common.{sym, ◌∙◌, ◌+◌}
use Rattle.heap_words.proofs.Keeps.{loaded_twice}
use Rattle.suspension_lists.proofs.Knowing.{first_known, third_known, link_leads, still_leads, still_store, store_fits}
use Rattle.suspension_lists.proofs.entries.entry_at.Goals as goal

pub stored-requires-clause-known : goal.stored-requires-clause-known
stored-requires-clause-known g c = first_known g.met.W.Words.laws c.args.at c.requires.sound c.requires.leads

pub overflow_add-at : goal.overflow_add-at
overflow_add-at g c =
    store_fits g.met.W.Words.laws (c.args.at + 2) c.in_ok-first.ensures.loaded.sound
    (third_known g.met.W.Words.laws c.args.at c.in-Some.process c.in_ok-first.ensures.loaded.sound c.in_ok-first.ensures.loaded.holds
    (still_leads g.met.W.Words.laws c.args.at c.stored.ensures.between c.requires.leads)
    (c.in_ok-first.first, c.in_ok-first.ensures.kept, sym c.process_in.ensures ∙ c.in-Some.is))
    (still_store g.met.W.Words.laws c.stored.ensures.between c.requires.store)

pub stored-requires-2-clause-known : goal.stored-requires-2-clause-known
stored-requires-2-clause-known g c =
    third_known g.met.W.Words.laws c.args.at c.in-Some.process c.in_ok-first.ensures.loaded.sound c.in_ok-first.ensures.loaded.holds
    (still_leads g.met.W.Words.laws c.args.at c.stored.ensures.between c.requires.leads)
    (c.in_ok-first.first, c.in_ok-first.ensures.kept, sym c.process_in.ensures ∙ c.in-Some.is)

pub returns-clause-loaded : goal.returns-clause-loaded
returns-clause-loaded g c = loaded_twice g.met.W.Words.laws c.in_ok-first.ensures.loaded c.in_ok-third.ensures.loaded

pub returns-clause-leads : goal.returns-clause-leads
returns-clause-leads g c =
    rw c.link_in.ensures
    (link_leads g.met.W.Words.laws (c.args.at + 2) c.in_ok-third.third c.in_ok-third.ensures.loaded.sound
    c.in_ok-third.ensures.loaded.holds c.in_ok-third.ensures.kept)
