use Rattle.std.proofs.Common.{◌≡◌, ◌++◌, ◌<◌, ℕ, List, [], sym, subst, ◌∙◌, refl, ap, append_assoc, append-nil, arith}
use Rattle.std.proofs.lemmas.Grind.{common_steps}
use Rattle.heap_words.proofs.Keeps.{loaded_none, loaded_twice, loaded_same, still_says}
use Rattle.ro_unify.specs.Occurs.{stack}
use Rattle.ro_unify.specs.Walks.{seen_memory}
use Rattle.ro_unify.proofs.Ending.{tame_later}
use Rattle.ro_unify.proofs.Seeing.{agrees}
use Rattle.ro_unify.proofs.Visiting.{next_on}
use Rattle.word_texts.specs.declared.items.Item.{Item}
use Rattle.word_texts.specs.Turns.{Writes, still}
use Rattle.word_texts.proofs.Falling.{work, turned_less}
use Rattle.word_texts.proofs.Steps.{on_err, writes_none, writes_on}
use Rattle.word_texts.proofs.writing.write_all.Goals as goal

pub returns-in_default-clause-writes : goal.returns-in_default-clause-writes
returns-in_default-clause-writes g c m i =
    let empty : c.items.lists.items.items ≡ [] = grind (arith, common_steps, c.in_default.ensures.items, c.in_default.ensures.cases) in
    (c.items.left, c.items.invariant.comes _ [] _ m i (writes_none c.items.left c.items.lists.items.items c.items.out.items empty))

pub items-init : goal.items-init
items-init g c = record {
  loaded = loaded_none g.met.W.Words.laws _ _ _ c.requires.sound c.requires.holds;
  binds = refl;
  reads = refl;
  tame = c.requires.tame;
  leads = c.requires.leads;
  appended = ([], sym (append-nil _));
  comes = λ k is new m i h. h;
}

pub items-preserved : goal.items-preserved
items-preserved g c = record {
  loaded = loaded_twice g.met.W.Words.laws c.items.invariant.loaded c.in_ok-left.ensures.loaded;
  binds = c.write_item.ensures.binds ∙ c.items.invariant.binds;
  reads = c.write_item.ensures.reads ∙ c.items.invariant.reads;
  tame = tame_later g.met.W.Words.laws c.in_ok-left.ensures.loaded c.write_item.ensures.binds c.items.invariant.tame;
  leads =
      let h =
      rw (next_on c.items.lists.items.items c.pop.new.self.items c.in-Some.item c.in-Some.ensures.items) at c.items.invariant.leads in
      c.in_ok-left.ensures.leads h.1;
  appended =
      let t = c.in_ok-left.ensures.turned (seen_memory c.write_item.new.trail.kept (g.W.Words.own c.write_item.new.words))
      (agrees g.met.W.Words.laws 6 c.in_ok-left.ensures.loaded.holds) in
      let o = c.items.invariant.appended in
      (o.0 ++ t.text, t.appended ∙ (ap (λ (x : List ℕ). x ++ t.text) o.1 ∙ append_assoc c.args.out.now.items o.0 t.text));
  comes = λ k is new m i h.
      still_says g.met.W.Words.laws
      (λ m. Writes c.args.trail.now.binds m c.args.names.now c.items.left (stack c.items.lists.items.items) c.items.out.items k is new
      → Writes c.args.trail.now.binds m c.args.names.now c.args.nodes (stack c.args.lists.now.items.items) c.args.out.now.items k is new)
      c.in_ok-left.ensures.loaded (c.items.invariant.comes k is new) m i
      (subst (λ (js : List Item). Writes c.args.trail.now.binds m c.args.names.now c.items.left js c.items.out.items k is new)
      (sym (next_on c.items.lists.items.items c.pop.new.self.items c.in-Some.item c.in-Some.ensures.items))
      (writes_on c.items.left c.in-Some.item (stack c.pop.new.self.items) c.items.out.items c.in_ok-left.left _ _ k is new
      (rw c.items.invariant.binds at (c.in_ok-left.ensures.turned m i)) h));
}

pub items-smaller : goal.items-smaller
items-smaller g c =
    subst (λ (is : List Item). work c.in_ok-left.left (stack c.write_item.new.lists.items.items) < work c.items.left is)
    (sym (next_on c.items.lists.items.items c.pop.new.self.items c.in-Some.item c.in-Some.ensures.items))
    (turned_less _ _ _ c.items.left c.in-Some.item (stack c.pop.new.self.items) _ c.in_ok-left.left _ _
    (c.in_ok-left.ensures.turned (seen_memory c.write_item.new.trail.kept (g.W.Words.own c.write_item.new.words))
    (agrees g.met.W.Words.laws 6 c.in_ok-left.ensures.loaded.holds)))

pub returns-in_err-left-clause-stops : goal.returns-in_err-left-clause-stops
returns-in_err-left-clause-stops g c =
    on_err _ c.from_residual.result (record {
      kept = c.items.trail.kept;
      at = c.items.words;
      loaded = loaded_same g.met.W.Words.laws c.items.invariant.loaded refl (sym c.items.invariant.binds);
      between = c.write_item.ensures.between;
      says = λ m i. (
        c.items.left,
        stack c.items.lists.items.items,
        subst (λ (x : List ℕ). Writes c.args.trail.now.binds m c.args.names.now c.args.nodes (stack c.args.lists.now.items.items)
            c.args.out.now.items c.items.left (stack c.items.lists.items.items) x) (sym c.in_err-left.ensures.err)
            (c.items.invariant.comes c.items.left (stack c.items.lists.items.items) c.items.out.items m i
            (still c.items.left (stack c.items.lists.items.items) c.items.out.items)),
      );
    })
