use Rattle.std.proofs.Common.{[], sym, refl, false, codes, arith}
use Rattle.heap_words.proofs.Keeps.{loaded_twice, still_says}
use Rattle.ro_unify.specs.Value.{Values}
use Rattle.ro_unify.specs.Occurs.{stack}
use Rattle.ro_unify.proofs.Ending.{tame_later}
use Rattle.word_texts.specs.Leaves.{look_text}
use Rattle.word_texts.specs.Turns.{cut, leaf, pair, tuple, pair_items}
use Rattle.word_texts.proofs.Steps.{items_stay, cons_known, pair_cell, tuple_cell, tuple_leads}
use Rattle.word_texts.proofs.writing.write_term.Goals as goal

pub returns-then-nodes-eq0-clause-turned : goal.returns-then-nodes-eq0-clause-turned
returns-then-nodes-eq0-clause-turned g c m i = record {
  text = codes "..";
  first = [];
  turns = cut c.args.nodes c.args.word c.if-nodes-eq0.true;
  items = refl;
  appended = c.in_ok-push_bytes.ensures.ok;
}

pub push_pair-requires-clause-known : goal.push_pair-requires-clause-known
push_pair-requires-clause-known g c =
    cons_known g.met.W.Words.laws _ _ c.in-Pair.at c.in_ok-look.ensures.loaded.sound c.in_ok-look.ensures.leads
    (pair_cell c.in_ok-look.look c.in-Pair.at (sym c.in-Pair.ensures))

pub write_tuple-requires-clause-leads : goal.write_tuple-requires-clause-leads
write_tuple-requires-clause-leads g c =
    tuple_leads g.met.W.Words.laws _ _ c.in-Tuple.at c.in_ok-look.ensures.leads
    (tuple_cell c.in_ok-look.look c.in-Tuple.at (sym c.in-Tuple.ensures))

pub write_tuple-requires-clause-tame : goal.write_tuple-requires-clause-tame
write_tuple-requires-clause-tame g c = tame_later g.met.W.Words.laws c.in_ok-look.ensures.loaded c.deref.ensures.binds c.requires.tame

pub returns-in_ok-write_leaf-in-Atom-clause-loaded : goal.returns-in_ok-write_leaf-in-Atom-clause-loaded
returns-in_ok-write_leaf-in-Atom-clause-loaded g c =
    loaded_twice g.met.W.Words.laws c.in_ok-look.ensures.loaded c.in_ok-write_leaf-in-Atom.ensures.loaded

pub returns-in_ok-write_leaf-in-Atom-clause-turned : goal.returns-in_ok-write_leaf-in-Atom-clause-turned
returns-in_ok-write_leaf-in-Atom-clause-turned g c m i = record {
  text = look_text m c.args.names.now c.in_ok-look.look;
  first = [];
  turns = leaf c.args.nodes c.args.word c.in_ok-look.look (omega arith)
      (still_says g.met.W.Words.laws (λ m. Values c.args.trail.now.binds m false c.args.word c.in_ok-look.look)
      c.in_ok-write_leaf-in-Atom.ensures.loaded c.in_ok-look.ensures.value m i) (sym c.in-Atom.ensures);
  items = refl;
  appended = c.in_ok-write_leaf-in-Atom.ensures.text m i;
}

pub returns-in_ok-write_leaf-in-Atom-clause-leads : goal.returns-in_ok-write_leaf-in-Atom-clause-leads
returns-in_ok-write_leaf-in-Atom-clause-leads g c h =
    items_stay g.met.W.Words.laws _ _ (stack c.args.lists.now.items.items) c.write_leaf.ensures.between
    (items_stay g.met.W.Words.laws _ _ (stack c.args.lists.now.items.items) c.deref.ensures.between h)

pub returns-in_ok-push_bytes-in-Pair-clause-loaded : goal.returns-in_ok-push_bytes-in-Pair-clause-loaded
returns-in_ok-push_bytes-in-Pair-clause-loaded g c =
    loaded_twice g.met.W.Words.laws c.in_ok-look.ensures.loaded c.in_ok-push_pair-in-Pair.ensures.loaded

pub returns-in_ok-push_bytes-in-Pair-clause-turned : goal.returns-in_ok-push_bytes-in-Pair-clause-turned
returns-in_ok-push_bytes-in-Pair-clause-turned g c m i = record {
  text = codes "[";
  first = pair_items m c.in-Pair.at;
  turns = pair c.args.nodes c.args.word c.in-Pair.at c.in_ok-look.look (omega arith)
      (still_says g.met.W.Words.laws (λ m. Values c.args.trail.now.binds m false c.args.word c.in_ok-look.look)
      c.in_ok-push_pair-in-Pair.ensures.loaded c.in_ok-look.ensures.value m i) (sym c.in-Pair.ensures);
  items = c.in_ok-push_pair-in-Pair.ensures.items m i;
  appended = c.in_ok-push_bytes-in-Pair.ensures.ok;
}

pub returns-in_ok-push_bytes-in-Pair-clause-leads : goal.returns-in_ok-push_bytes-in-Pair-clause-leads
returns-in_ok-push_bytes-in-Pair-clause-leads g c h =
    c.in_ok-push_pair-in-Pair.ensures.leads
    (items_stay g.met.W.Words.laws _ _ (stack c.args.lists.now.items.items) c.deref.ensures.between h)

pub returns-in_ok-left-in-Tuple-clause-loaded : goal.returns-in_ok-left-in-Tuple-clause-loaded
returns-in_ok-left-in-Tuple-clause-loaded g c =
    loaded_twice g.met.W.Words.laws c.in_ok-look.ensures.loaded c.in_ok-left-in-Tuple.ensures.loaded

pub returns-in_ok-left-in-Tuple-clause-turned : goal.returns-in_ok-left-in-Tuple-clause-turned
returns-in_ok-left-in-Tuple-clause-turned g c m i =
    let o = rw c.deref.ensures.binds at (c.in_ok-left-in-Tuple.ensures.opened m i) in
    record {
      text = o.text;
      first = o.first;
      turns = tuple c.args.nodes c.args.word c.in-Tuple.at c.in_ok-look.look o.text c.in_ok-left-in-Tuple.left o.first (omega arith)
          (still_says g.met.W.Words.laws (λ m. Values c.args.trail.now.binds m false c.args.word c.in_ok-look.look)
          c.in_ok-left-in-Tuple.ensures.loaded c.in_ok-look.ensures.value m i) (sym c.in-Tuple.ensures) o.opens;
      items = o.items;
      appended = o.appended;
    }

pub returns-in_ok-left-in-Tuple-clause-leads : goal.returns-in_ok-left-in-Tuple-clause-leads
returns-in_ok-left-in-Tuple-clause-leads g c h =
    c.in_ok-left-in-Tuple.ensures.leads
    (items_stay g.met.W.Words.laws _ _ (stack c.args.lists.now.items.items) c.deref.ensures.between h)
