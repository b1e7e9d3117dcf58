use Rattle.std.proofs.Common.{◌≡◌, ◌++◌, List, [], ◌∷◌, refl, sym, ap, ◌∙◌, subst, append-nil}
use Rattle.heap_words.proofs.Keeps.{loaded_none}
use Rattle.ro_unify.specs.Occurs.{stack}
use Rattle.word_texts.specs.declared.items.Item.{Item}
use Rattle.word_texts.specs.declared.items.Item.TheVariants.{Term}
use Rattle.word_texts.specs.Turns.{WritesAll, WritesSome}
use Rattle.word_texts.proofs.Steps.{on_err}
use Rattle.word_texts.proofs.WritesTerms.{shows, fronts}
use Rattle.word_texts.proofs.values.value_text.Goals as goal

pub returns-clause-shown : goal.returns-clause-shown
returns-clause-shown g c m i p labels s t stands d =
    let alone : stack c.push_item.new.items.items ≡ Term c.args.word ∷ [] =
    ap stack (c.in_ok-push_item.ensures ∙ ap (λ (is : List Item). is ++ Term c.args.word ∷ []) c.clear.ensures.items) in
    shows p c.args.trail.now.binds m s c.args.names.now labels stands c.args.nodes c.args.word c.args.out.now.items _ t
    (subst (λ (is : List Item). WritesAll c.args.trail.now.binds m c.args.names.now c.args.nodes is c.args.out.now.items
    c.write_all.new.out.items) alone (c.in_ok-write_all.ensures.writes m i)) d

pub returns-in_err-push_item-clause-front : goal.returns-in_err-push_item-clause-front
returns-in_err-push_item-clause-front g c =
    on_err _ c.from_residual.result (record {
      kept = c.args.trail.now.kept;
      at = c.args.words.now;
      loaded = loaded_none g.met.W.Words.laws _ _ _ c.requires.sound c.requires.holds;
      between = g.met.W.Words.laws.still _ c.requires.sound;
      says = λ m i p labels s t stands d n text e. ([], text, sym (append-nil c.args.out.now.items), refl);
    })

pub returns-in_err-write_all-clause-front : goal.returns-in_err-write_all-clause-front
returns-in_err-write_all-clause-front g c =
    let alone : stack c.push_item.new.items.items ≡ Term c.args.word ∷ [] =
    ap stack (c.in_ok-push_item.ensures ∙ ap (λ (is : List Item). is ++ Term c.args.word ∷ []) c.clear.ensures.items) in
    let stops = c.in_err-write_all.ensures.stops in
    on_err _ c.from_residual-in_err-write_all.result (record {
      kept = stops.kept;
      at = stops.at;
      loaded = stops.loaded;
      between = stops.between;
      says = λ m i p labels s t stands d n text e.
          fronts p c.args.trail.now.binds m s c.args.names.now labels stands c.args.nodes c.args.word c.args.out.now.items _ t
          (subst (λ (is : List Item). WritesSome c.args.trail.now.binds m c.args.names.now c.args.nodes is c.args.out.now.items
          c.write_all.new.out.items) alone (stops.says m i)) d n text e;
    })
