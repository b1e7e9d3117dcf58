use Rattle.std.proofs.Common.{◌≡◌}
use Rattle.heap_words.specs.Trails.{KeepsLoads}
use Rattle.ro_unify.specs.Occurs.{stack, Each}
use Rattle.process_texts.specs.Pieces.{ItemLeads, items_left}
use Rattle.process_texts.proofs.ExpressionTexts.{PiecesLeft}
use Rattle.process_texts.proofs.expressions.push_pieces.Given as goal

abbrev pub invariant-pieces : goal.invariant-pieces
invariant-pieces g l = record {
  loaded : KeepsLoads g.W.Words.sound g.W.Words.had g.W.Words.leads g.W.Words.later g.W.Words.gave l.fn.trail.kept l.fn.trail.binds
      l.fn.words l.trail.kept l.trail.binds l.words;
  binds : l.trail.binds ≡ l.fn.trail.binds;
  leads : Each (ItemLeads (g.W.Words.leads l.words)) (stack l.items.items);
  text : PiecesLeft l.trail.kept l.names (stack l.fn.items.items) l.fn.out.items (stack l.items.items) l.out.items;
}

abbrev pub decreases-pieces : goal.decreases-pieces
decreases-pieces g l = items_left (g.W.Words.addresses l.words) l.trail.binds l.trail.kept (g.W.Words.own l.words) (stack l.items.items)
