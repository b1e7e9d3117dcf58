use Rattle.std.proofs.Common.{◌≡◌, ◌++◌, sym, ap, ◌∙◌, inl, inr, refl}
use Rattle.heap_words.specs.Cells.{decoded}
use Rattle.heap_words.proofs.Keeps.{loaded_twice, still_says}
use Rattle.ro_unify.proofs.Seeing.{pair_seen, tuple_seen, atom_seen}
use Rattle.ro_unify.specs.Occurs.{stack, count_of, parts_of, words_after}
use Rattle.ro_unify.proofs.Leads.{pair_known, tuple_known, parts_known, each_stays}
use Rattle.ro_unify.proofs.occurrence.push_parts.Goals as goal

pub push_pair-requires-clause-known : goal.push_pair-requires-clause-known
push_pair-requires-clause-known g c = (
  pair_known g.met.W.Words.laws _ _ _ _ c.requires.sound c.requires.leads (sym c.in-Pair.ensures)
      (inl refl),
  pair_known g.met.W.Words.laws _ _ _ _ c.requires.sound c.requires.leads (sym c.in-Pair.ensures) (inr refl),
)

pub word-requires-clause-known : goal.word-requires-clause-known
word-requires-clause-known g c = tuple_known g.met.W.Words.laws _ _ _ c.requires.sound c.requires.leads (sym c.in-Tuple.ensures)

pub push_after-requires-clause-known : goal.push_after-requires-clause-known
push_after-requires-clause-known g c b lo hi =
    parts_known g.met.W.Words.laws _ _ _ _ b c.in_ok-count-in-Tuple.ensures.loaded.sound
    (g.met.W.Words.laws.stays_leading _ _ _ c.word.ensures.between c.requires.leads)
    (sym c.in-Tuple.ensures) c.in_ok-count-in-Tuple.ensures.had lo (rw (← c.count_in.ensures) hi)

pub returns-in_ok-push_after-in-Tuple-clause-loaded : goal.returns-in_ok-push_after-in-Tuple-clause-loaded
returns-in_ok-push_after-in-Tuple-clause-loaded g c =
    loaded_twice g.met.W.Words.laws c.in_ok-count-in-Tuple.ensures.loaded c.in_ok-push_after-in-Tuple.ensures.loaded

pub returns-in_ok-push_after-in-Tuple-clause-work : goal.returns-in_ok-push_after-in-Tuple-clause-work
returns-in_ok-push_after-in-Tuple-clause-work g c m i =
    let count =
    still_says g.met.W.Words.laws
    (λ m. m c.in-Tuple.at ≡ c.in_ok-count-in-Tuple.count) c.in_ok-push_after-in-Tuple.ensures.loaded
    c.in_ok-count-in-Tuple.ensures.word m i in
    c.in_ok-push_after-in-Tuple.ensures.work m i ∙ ap (λ ws. ws ++ stack c.args.work.now.items)
    (ap (words_after m c.in-Tuple.at) (c.count_in.ensures ∙ sym (ap (λ x. count_of (decoded x)) count)) ∙ ap
    (parts_of m) c.in-Tuple.ensures)

pub returns-in_ok-push_after-in-Tuple-clause-leads : goal.returns-in_ok-push_after-in-Tuple-clause-leads
returns-in_ok-push_after-in-Tuple-clause-leads g c h =
    c.in_ok-push_after-in-Tuple.ensures.leads (each_stays g.met.W.Words.laws _ _ (stack c.args.work.now.items) c.word.ensures.between h)

pub returns-in_ok-push_pair-in-Pair-clause-seen : goal.returns-in_ok-push_pair-in-Pair-clause-seen
returns-in_ok-push_pair-in-Pair-clause-seen g c =
    pair_seen _ _ _ _ c.in-Pair.ensures c.in_ok-push_pair-in-Pair.ensures.seen.0 c.in_ok-push_pair-in-Pair.ensures.seen.1

pub returns-in_ok-push_after-in-Tuple-clause-seen : goal.returns-in_ok-push_after-in-Tuple-clause-seen
returns-in_ok-push_after-in-Tuple-clause-seen g c =
    tuple_seen g.met.W.Words.laws _ c.in-Tuple.at c.in_ok-count-in-Tuple.count c.in-Tuple.ensures c.in_ok-count-in-Tuple.ensures.loaded
    c.in_ok-push_after-in-Tuple.ensures.loaded c.in_ok-count-in-Tuple.ensures.word c.count_in.ensures
    c.in_ok-push_after-in-Tuple.ensures.seen

pub returns-in-Atom-clause-seen : goal.returns-in-Atom-clause-seen
returns-in-Atom-clause-seen g c = atom_seen _ _ _ c.in-Atom.ensures
