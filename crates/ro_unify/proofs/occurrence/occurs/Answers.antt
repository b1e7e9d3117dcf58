use Rattle.std.proofs.Common.{◌≡◌, ℕ, refl, sym, subst, ◌∙◌, List, [], ◌∷◌, ◌<◌, arith}
use Rattle.std.proofs.lemmas.Grind.{common_steps}
use Rattle.heap_words.specs.Trails.{WordList}
use Rattle.heap_words.proofs.Keeps.{loaded_none, loaded_twice, still_says}
use Rattle.ro_unify.specs.Occurs.{stack, Occurs, hit, Visits, Each}
use Rattle.ro_unify.specs.Walks.{words_left}
use Rattle.ro_unify.proofs.Visiting.{first_on, none_left, visited_hit, visited_on, next_on}
use Rattle.ro_unify.proofs.Ending.{tame_later}
use Rattle.ro_unify.proofs.Measures.{visit_falls}
use Rattle.ro_unify.proofs.Walkings.{Walking, walking_first, walking_last, walking_next, open_later}
use Rattle.ro_unify.proofs.occurrence.occurs.Goals as goal

pub returns-in_default-clause-found : goal.returns-in_default-clause-found
returns-in_default-clause-found g c m i =
    let empty : c.walk.work.items ≡ [] = grind (arith, common_steps, c.in_default.ensures.items, c.in_default.ensures.cases) in
    c.walk.invariant.comes _ m i (none_left _ m _ c.walk.work.items _ empty)

pub returns-in_default-clause-walked : goal.returns-in_default-clause-walked
returns-in_default-clause-walked g c e =
    let empty : c.walk.work.items ≡ [] = grind (arith, common_steps, c.in_default.ensures.items, c.in_default.ensures.cases) in
    walking_last c.walk.trail.binds c.walk.trail.kept (g.W.Words.own c.walk.words) c.args.place c.args.word
    (subst (λ (ws : List ℕ). Walking c.walk.trail.binds c.walk.trail.kept (g.W.Words.own c.walk.words) c.args.place c.args.word
    (stack ws)) empty c.walk.invariant.walking)

pub returns-then-is_at-clause-loaded : goal.returns-then-is_at-clause-loaded
returns-then-is_at-clause-loaded g c = loaded_twice g.met.W.Words.laws c.walk.invariant.loaded c.in_ok-look.ensures.loaded

pub returns-then-is_at-clause-found : goal.returns-then-is_at-clause-found
returns-then-is_at-clause-found g c m i =
    still_says g.met.W.Words.laws
    (λ m. Occurs c.args.trail.now.binds m c.args.place (stack c.walk.work.items) c.walk.trail.reads.items
    (hit c.visit.new.trail.reads.items) → Occurs c.args.trail.now.binds m c.args.place
    (c.args.word ∷ []) c.args.trail.now.reads.items (hit c.visit.new.trail.reads.items)) c.in_ok-look.ensures.loaded
    (c.walk.invariant.comes _) m i
    (visited_hit c.args.trail.now.binds m c.args.place c.in-Some.next c.walk.work.items c.pop.new.self.items c.walk.trail.reads.items _ _
    c.in_ok-look.look c.in-Some.ensures.items
    (subst (λ (bs : WordList). Visits bs m c.in-Some.next (stack c.pop.new.self.items) c.walk.trail.reads.items
    (stack c.visit.new.work.items) c.visit.new.trail.reads.items c.in_ok-look.look) c.walk.invariant.binds
    (c.in_ok-look.ensures.visits m i)) (sym c.is_at.ensures ∙ c.if-is_at.true))

pub walk-preserved : goal.walk-preserved
walk-preserved g c = record {
  loaded = loaded_twice g.met.W.Words.laws c.walk.invariant.loaded c.in_ok-look.ensures.loaded;
  binds = c.visit.ensures.binds ∙ c.walk.invariant.binds;
  tame = tame_later g.met.W.Words.laws c.in_ok-look.ensures.loaded c.visit.ensures.binds c.walk.invariant.tame;
  unbound = open_later g.met.W.Words.laws c.args.place c.in_ok-look.ensures.loaded c.visit.ensures.binds c.walk.invariant.unbound;
  walking =
      walking_next g.met.W.Words.laws c.args.place c.args.word c.in-Some.next (stack c.pop.new.self.items) c.walk.trail.reads.items
      (stack c.visit.new.work.items) c.visit.new.trail.reads.items c.in_ok-look.look
      c.in_ok-look.ensures.loaded c.visit.ensures.binds c.walk.invariant.tame c.walk.invariant.unbound c.in_ok-look.ensures.visits
      c.in_ok-look.ensures.seen (sym c.is_at.ensures ∙ c.if-is_at.false)
      (subst (λ (ws : List ℕ). Walking c.walk.trail.binds c.walk.trail.kept (g.W.Words.own c.walk.words) c.args.place c.args.word ws)
      (next_on c.walk.work.items c.pop.new.self.items c.in-Some.next c.in-Some.ensures.items) c.walk.invariant.walking);
  leads =
      let h = rw (next_on c.walk.work.items c.pop.new.self.items c.in-Some.next c.in-Some.ensures.items) at c.walk.invariant.leads in
      c.in_ok-look.ensures.leads h.1;
  comes = λ f m i h.
      still_says g.met.W.Words.laws
      (λ m. Occurs c.args.trail.now.binds m c.args.place
      (stack c.walk.work.items) c.walk.trail.reads.items f → Occurs c.args.trail.now.binds m c.args.place
      (c.args.word ∷ []) c.args.trail.now.reads.items f) c.in_ok-look.ensures.loaded (c.walk.invariant.comes f) m i
      (visited_on c.args.trail.now.binds m c.args.place c.in-Some.next c.walk.work.items c.pop.new.self.items c.walk.trail.reads.items _ _
      c.in_ok-look.look f c.in-Some.ensures.items
      (subst (λ (bs : WordList). Visits bs m c.in-Some.next (stack c.pop.new.self.items) c.walk.trail.reads.items
      (stack c.visit.new.work.items) c.visit.new.trail.reads.items c.in_ok-look.look) c.walk.invariant.binds
      (c.in_ok-look.ensures.visits m i)) (sym c.is_at.ensures ∙ c.if-is_at.false) h);
}

pub walk-smaller : goal.walk-smaller
walk-smaller g c =
    subst (λ (ws : List ℕ). words_left (g.W.Words.addresses c.visit.new.words) c.visit.new.trail.binds c.visit.new.trail.kept
    (g.W.Words.own c.visit.new.words) (stack c.visit.new.work.items) < words_left
    (g.W.Words.addresses c.walk.words) c.walk.trail.binds c.walk.trail.kept (g.W.Words.own c.walk.words) ws)
    (sym (next_on c.walk.work.items c.pop.new.self.items c.in-Some.next c.in-Some.ensures.items))
    (visit_falls g.met.W.Words.laws c.in-Some.next (stack c.pop.new.self.items) c.walk.trail.reads.items
    (stack c.visit.new.work.items) c.visit.new.trail.reads.items c.in_ok-look.look
    c.in_ok-look.ensures.loaded c.visit.ensures.binds c.walk.invariant.tame c.in_ok-look.ensures.visits)

pub walk-init : goal.walk-init
walk-init g c = record {
  loaded = loaded_none g.met.W.Words.laws _ _ _ c.requires.sound c.requires.holds;
  binds = refl;
  tame = c.requires.tame;
  unbound = c.requires.unbound;
  walking = subst (λ (ws : List ℕ). Walking c.args.trail.now.binds c.args.trail.now.kept
      (g.W.Words.own c.args.words.now) c.args.place c.args.word ws)
      (sym (first_on _ _ c.args.word c.clear.ensures.items c.in_ok-push.ensures))
      (walking_first c.args.trail.now.binds c.args.trail.now.kept (g.W.Words.own c.args.words.now) c.args.place c.args.word);
  leads = subst (λ (ws : List ℕ). Each (g.W.Words.leads c.args.words.now) ws)
      (sym (first_on _ _ c.args.word c.clear.ensures.items c.in_ok-push.ensures)) (c.requires.leads, tt);
  comes = λ f m i h. subst (λ (ws : List ℕ). Occurs c.args.trail.now.binds m c.args.place ws c.args.trail.now.reads.items f)
      (first_on _ _ c.args.word c.clear.ensures.items c.in_ok-push.ensures) h;
}
