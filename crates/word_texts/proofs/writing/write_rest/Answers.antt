use Rattle.std.proofs.Common.{◌∷◌, [], ap, ◌∙◌, sym, refl, false, codes, arith}
use Rattle.heap_words.proofs.Keeps.{loaded_twice, still_says}
use Rattle.ro_unify.specs.Value.{Values}
use Rattle.ro_unify.specs.Occurs.{stack}
use Rattle.ro_unify.proofs.Stacks.{stack-push, each_pushed}
use Rattle.word_texts.specs.declared.items.Bracket.TheVariants.{Square}
use Rattle.word_texts.specs.declared.items.Item.TheVariants.{Term, Close}
use Rattle.word_texts.specs.Turns.{rest_cut, ends, goes, other, pair_items, Leads}
use Rattle.word_texts.proofs.Steps.{items_stay, cons_known, tail_cell}
use Rattle.word_texts.proofs.writing.write_rest.Goals as goal

pub returns-then-nodes-eq0-clause-turned : goal.returns-then-nodes-eq0-clause-turned
returns-then-nodes-eq0-clause-turned g c m i names = record {
  text = codes "|..]";
  first = [];
  turns = rest_cut c.args.nodes c.args.word c.if-nodes-eq0.true;
  items = refl;
  appended = c.in_ok-push_bytes.ensures.ok;
}

pub push_pair-requires-clause-known : goal.push_pair-requires-clause-known
push_pair-requires-clause-known g c =
    cons_known g.met.W.Words.laws _ _ c.in-Pair.at c.in_ok-look.ensures.loaded.sound c.in_ok-look.ensures.leads
    (tail_cell c.in_ok-look.look c.in-Pair.at (sym c.in-Pair.ensures))

pub returns-in_ok-push_bytes-in-End-clause-turned : goal.returns-in_ok-push_bytes-in-End-clause-turned
returns-in_ok-push_bytes-in-End-clause-turned g c m i names = record {
  text = codes "]";
  first = [];
  turns = ends c.args.nodes c.args.word c.in_ok-look.look (omega arith) (c.in_ok-look.ensures.value m i) (sym c.in-End.ensures);
  items = refl;
  appended = c.in_ok-push_bytes-in-End.ensures.ok;
}

pub returns-in_ok-push_bytes-in-End-clause-leads : goal.returns-in_ok-push_bytes-in-End-clause-leads
returns-in_ok-push_bytes-in-End-clause-leads g c h =
    items_stay g.met.W.Words.laws _ _ (stack c.args.items.now.items) c.deref.ensures.between h

pub returns-in_ok-push_bytes-in-Pair-clause-loaded : goal.returns-in_ok-push_bytes-in-Pair-clause-loaded
returns-in_ok-push_bytes-in-Pair-clause-loaded g c =
    loaded_twice g.met.W.Words.laws c.in_ok-look.ensures.loaded c.in_ok-push_pair-in-Pair.ensures.loaded

pub returns-in_ok-push_bytes-in-Pair-clause-turned : goal.returns-in_ok-push_bytes-in-Pair-clause-turned
returns-in_ok-push_bytes-in-Pair-clause-turned g c m i names = record {
  text = codes ",";
  first = pair_items m c.in-Pair.at;
  turns = goes c.args.nodes c.args.word c.in-Pair.at c.in_ok-look.look (omega arith)
      (still_says g.met.W.Words.laws (λ m. Values c.args.trail.now.binds m false c.args.word c.in_ok-look.look)
      c.in_ok-push_pair-in-Pair.ensures.loaded c.in_ok-look.ensures.value m i) (sym c.in-Pair.ensures);
  items = c.in_ok-push_pair-in-Pair.ensures.items m i;
  appended = c.in_ok-push_bytes-in-Pair.ensures.ok;
}

pub returns-in_ok-push_bytes-in-Pair-clause-leads : goal.returns-in_ok-push_bytes-in-Pair-clause-leads
returns-in_ok-push_bytes-in-Pair-clause-leads g c h =
    c.in_ok-push_pair-in-Pair.ensures.leads
    (items_stay g.met.W.Words.laws _ _ (stack c.args.items.now.items) c.deref.ensures.between h)

pub returns-in_ok-push_bytes-in-Other-clause-turned : goal.returns-in_ok-push_bytes-in-Other-clause-turned
returns-in_ok-push_bytes-in-Other-clause-turned g c m i names = record {
  text = codes "|";
  first = Term c.args.word ∷ Close Square ∷ [];
  turns = other c.args.nodes c.args.word c.in_ok-look.look (omega arith) (c.in_ok-look.ensures.value m i) (sym c.in-Other.ensures);
  items =
      let one = ap stack c.in_ok-push_item-in-Other.ensures ∙ stack-push c.args.items.now.items (Close Square) in
      ap stack c.in_ok-push_item-in-Other-2.ensures
      ∙ (stack-push c.push_item.new.items.items (Term c.args.word) ∙ ap (λ is. Term c.args.word ∷ is) one);
  appended = c.in_ok-push_bytes-in-Other.ensures.ok;
}

pub returns-in_ok-push_bytes-in-Other-clause-leads : goal.returns-in_ok-push_bytes-in-Other-clause-leads
returns-in_ok-push_bytes-in-Other-clause-leads g c h =
    each_pushed (Leads (g.W.Words.knows c.deref.new.words) (g.W.Words.leads c.deref.new.words)) _ _ (Term c.args.word)
    c.in_ok-push_item-in-Other-2.ensures (g.met.W.Words.laws.stays_leading _ _ _ c.deref.ensures.between c.requires.leads)
    (each_pushed (Leads (g.W.Words.knows c.deref.new.words) (g.W.Words.leads c.deref.new.words)) _ _ (Close Square)
    c.in_ok-push_item-in-Other.ensures tt
    (items_stay g.met.W.Words.laws _ _ (stack c.args.items.now.items) c.deref.ensures.between h))
