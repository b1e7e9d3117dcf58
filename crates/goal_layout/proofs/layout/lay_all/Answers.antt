use Rattle.std.proofs.Common.{◌≡◌, ◌+◌, ◌<◌, ◌≤◌, ◌∙◌, List, length, get_or, None, sym, ap, subst}
use Rattle.std.specs.Prelude.{replicate}
use Rattle.fcp_model.specs.declared.source.Item.{Item}
use Rattle.goal_layout.specs.FirstFit.{first_fit}
use Rattle.goal_layout.specs.Pages.{rooms}
use Rattle.goal_layout.specs.Goals.{LaysPlaces}
use Rattle.goal_layout.proofs.Listing.{none_if}
use Rattle.goal_layout.proofs.AllItems.{its_layable, its_number, item_is, places_miss, first_misses, items_begin, items_step, items_miss}
use Rattle.goal_layout.proofs.AllItems.{items_end}
use Rattle.goal_layout.proofs.layout.lay_all.Goals as goal

pub returns-in_err-lay_places-clause-none : goal.returns-in_err-lay_places-clause-none
returns-in_err-lay_places-clause-none c m l =
    let vars : c.len.result ≡ length c.args.goal.now.0.names = c.len.ensures ∙ ap (λ t. length t.names) c.goal-text.ensures in
    none_if _ _ (places_miss m c.args.goal.now.0 c.args.words.now
    (subst (λ k. first_fit (rooms c.args.words.now) (replicate k 2) ≡ None) vars c.in_err-lay_places.ensures.none))

pub returns-in_err-first-clause-none : goal.returns-in_err-first-clause-none
returns-in_err-first-clause-none c m l =
    let vars : c.len.result ≡ length c.args.goal.now.0.names = c.len.ensures ∙ ap (λ t. length t.names) c.goal-text.ensures in
    let xs : c.as_slice-items.result.now ≡ c.args.goal.now.0.items = c.as_slice-items.ensures ∙ ap (λ t. t.items) c.goal-text.ensures in
    let some = l.some in
    let there : 0 < length c.as_slice-items.result.now = subst (λ (ys : List Item). 0 < length ys) (sym xs) some in
    let is = item_is c.args.goal.now c.as_slice-items.result.now 0 c.index-items-0.result xs there in
    none_if _ _ (first_misses c.args.goal.now c.args.words.now c.lay_places.new.words
    (get_or c.as_slice-items.result.now 0 c.index-items-0.result) c.procedure.result m l is c.procedure.ensures
    (subst (λ k. LaysPlaces k c.args.words.now c.lay_places.new.words) vars c.in_ok-lay_places.ensures.laid)
    (c.in_err-first.ensures.none m (its_number m c.args.goal.now l 0 (get_or c.as_slice-items.result.now 0 c.index-items-0.result)
    c.procedure.result some is c.procedure.ensures)))

pub loop-at-init : goal.loop-at-init
loop-at-init c =
    let vars : c.len.result ≡ length c.args.goal.now.0.names = c.len.ensures ∙ ap (λ t. length t.names) c.goal-text.ensures in
    let xs : c.as_slice-items.result.now ≡ c.args.goal.now.0.items = c.as_slice-items.ensures ∙ ap (λ t. t.items) c.goal-text.ensures in
    let some = c.requires.loads.1.some in
    let there : 0 < length c.as_slice-items.result.now = subst (λ (ys : List Item). 0 < length ys) (sym xs) some in
    items_begin c.args.goal.now c.args.words.now c.lay_places.new.words c.lay_item.new.words
    (get_or c.as_slice-items.result.now 0 c.index-items-0.result) c.procedure.result c.in_ok-first.first c.requires.loads
    (item_is c.args.goal.now c.as_slice-items.result.now 0 c.index-items-0.result xs there) c.procedure.ensures
    (subst (λ k. LaysPlaces k c.args.words.now c.lay_places.new.words) vars c.in_ok-lay_places.ensures.laid) c.in_ok-first.ensures.laid

pub lay_item-requires-in-loop-at-clause-layable : goal.lay_item-requires-in-loop-at-clause-layable
lay_item-requires-in-loop-at-clause-layable c =
    let xs : c.as_slice-items.result.now ≡ c.args.goal.now.0.items = c.as_slice-items.ensures ∙ ap (λ t. t.items) c.goal-text.ensures in
    let there : c.loop-at.at < length c.args.goal.now.0.items =
    subst (λ (ys : List Item). c.loop-at.at < length ys) xs c.loop-at-test.true in (
      c.requires.loads.0,
      its_layable c.requires.loads.0 c.args.goal.now c.requires.loads.1 c.loop-at.at
          (get_or c.as_slice-items.result.now c.loop-at.at c.index-items-at.result) c.procedure-in-loop-at.result there
          (item_is c.args.goal.now c.as_slice-items.result.now c.loop-at.at c.index-items-at.result xs c.loop-at-test.true)
          c.procedure-in-loop-at.ensures,
    )

pub returns-in_err-lay_item-clause-none : goal.returns-in_err-lay_item-clause-none
returns-in_err-lay_item-clause-none c m l =
    let xs : c.as_slice-items.result.now ≡ c.args.goal.now.0.items = c.as_slice-items.ensures ∙ ap (λ t. t.items) c.goal-text.ensures in
    let there : c.loop-at.at < length c.args.goal.now.0.items =
    subst (λ (ys : List Item). c.loop-at.at < length ys) xs c.loop-at-test.true in
    let is = item_is c.args.goal.now c.as_slice-items.result.now c.loop-at.at c.index-items-at.result xs c.loop-at-test.true in
    none_if _ _ (items_miss c.args.goal.now c.loop-at.at c.args.words.now c.loop-at.words
    (get_or c.as_slice-items.result.now c.loop-at.at c.index-items-at.result) c.procedure-in-loop-at.result c.in_ok-first.first m l there is
    c.procedure-in-loop-at.ensures c.loop-at.invariant
    (c.in_err-lay_item.ensures.none m (its_number m c.args.goal.now l c.loop-at.at
    (get_or c.as_slice-items.result.now c.loop-at.at c.index-items-at.result) c.procedure-in-loop-at.result there is
    c.procedure-in-loop-at.ensures)))

pub loop-at-preserved : goal.loop-at-preserved
loop-at-preserved c =
    let xs : c.as_slice-items.result.now ≡ c.args.goal.now.0.items = c.as_slice-items.ensures ∙ ap (λ t. t.items) c.goal-text.ensures in
    let there : c.loop-at.at < length c.args.goal.now.0.items =
    subst (λ (ys : List Item). c.loop-at.at < length ys) xs c.loop-at-test.true in
    items_step c.args.goal.now c.loop-at.at c.args.words.now c.loop-at.words c.lay_item-in-loop-at.new.words
    (get_or c.as_slice-items.result.now c.loop-at.at c.index-items-at.result) c.procedure-in-loop-at.result c.in_ok-lay_item.field-0
    c.in_ok-first.first (c.loop-at.at + 1) c.requires.loads there
    (item_is c.args.goal.now c.as_slice-items.result.now c.loop-at.at c.index-items-at.result xs c.loop-at-test.true)
    c.procedure-in-loop-at.ensures (λ i. c.loop-at.at + 1) c.in_ok-lay_item.ensures.laid c.loop-at.invariant

pub returns-clause-laid : goal.returns-clause-laid
returns-clause-laid c m l =
    let xs : c.as_slice-items.result.now ≡ c.args.goal.now.0.items = c.as_slice-items.ensures ∙ ap (λ t. t.items) c.goal-text.ensures in
    items_end c.args.goal.now c.loop-at.at c.args.words.now c.loop-at.words c.in_ok-first.first m c.requires.new l
    (subst (λ (ys : List Item). length ys ≤ c.loop-at.at) xs c.loop-at-test.false) c.loop-at.invariant
