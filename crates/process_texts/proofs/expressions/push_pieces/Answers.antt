use Rattle.std.proofs.Common.{◌≡◌, ◌<◌, List, [], refl, sym, subst, ◌∙◌, arith}
use Rattle.std.proofs.lemmas.Grind.{common_steps}
use Rattle.heap_words.proofs.Keeps.{loaded_none, loaded_twice}
use Rattle.ro_unify.specs.Occurs.{stack}
use Rattle.ro_unify.proofs.Visiting.{next_on}
use Rattle.entry_lines.proofs.Agreeing.{reads_later}
use Rattle.process_texts.specs.declared.items.Item.{Item}
use Rattle.process_texts.specs.Pieces.{items_left}
use Rattle.process_texts.proofs.ExpressionTexts.{all_left, piece_taken, none_left}
use Rattle.process_texts.proofs.expressions.push_pieces.Goals as goal

pub returns-in_default-clause-text : goal.returns-in_default-clause-text
returns-in_default-clause-text g c =
    let empty : c.pieces.items.items ≡ [] = grind (arith, common_steps, c.in_default.ensures.items, c.in_default.ensures.cases) in
    none_left _ c.args.names.now (stack c.args.items.now.items) c.pieces.items.items c.args.out.now.items _ empty c.pieces.invariant.text

pub pieces-init : goal.pieces-init
pieces-init g c = record {
  loaded = loaded_none g.met.W.Words.laws _ _ _ c.requires.reads.sound c.requires.reads.holds;
  binds = refl;
  leads = c.requires.leads;
  text = all_left _ c.args.names.now (stack c.args.items.now.items) c.args.out.now.items;
}

pub push_piece-requires-clause-reads : goal.push_piece-requires-clause-reads
push_piece-requires-clause-reads g c =
    reads_later g.met.W.Words.laws c.pieces.invariant.loaded c.pieces.invariant.binds c.requires.reads

pub push_piece-requires-clause-leads : goal.push_piece-requires-clause-leads
push_piece-requires-clause-leads g c =
    let h =
    rw (next_on c.pieces.items.items c.pop.new.self.items c.in-Some.item c.in-Some.ensures.items) at c.pieces.invariant.leads in h.0

pub pieces-preserved : goal.pieces-preserved
pieces-preserved g c = record {
  loaded = loaded_twice g.met.W.Words.laws c.pieces.invariant.loaded c.in_ok-push_piece.ensures.loaded;
  binds = c.push_piece.ensures.binds ∙ c.pieces.invariant.binds;
  leads =
      let h =
      rw (next_on c.pieces.items.items c.pop.new.self.items c.in-Some.item c.in-Some.ensures.items) at c.pieces.invariant.leads in
      c.in_ok-push_piece.ensures.leads h.1;
  text = piece_taken _ _ c.in_ok-push_piece.ensures.loaded.went.grows c.args.names.now (stack c.args.items.now.items) c.args.out.now.items
      c.in-Some.item (stack c.pop.new.self.items) _ _ _
      (rw (next_on c.pieces.items.items c.pop.new.self.items c.in-Some.item c.in-Some.ensures.items) at c.pieces.invariant.text)
      c.in_ok-push_piece.ensures.text;
}

pub pieces-smaller : goal.pieces-smaller
pieces-smaller g c =
    subst (λ (is : List Item). items_left (g.W.Words.addresses c.push_piece.new.words) c.push_piece.new.trail.binds
    c.push_piece.new.trail.kept (g.W.Words.own c.push_piece.new.words) (stack c.push_piece.new.items.items)
    < items_left (g.W.Words.addresses c.pieces.words) c.pieces.trail.binds c.pieces.trail.kept (g.W.Words.own c.pieces.words) is)
    (sym (next_on c.pieces.items.items c.pop.new.self.items c.in-Some.item c.in-Some.ensures.items)) c.in_ok-push_piece.ensures.less
