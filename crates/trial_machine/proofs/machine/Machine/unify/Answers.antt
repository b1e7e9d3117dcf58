use Rattle.std.proofs.Common.{rules, [], ◌∷◌, subst}
use Rattle.heap_words.specs.Trails.{Says}
use Rattle.ro_unify.specs.Unify.{Unifies, ending, done, clash, stop}
use Rattle.ro_unify.specs.declared.unification.Unified.{Unified}
use Rattle.beside_words.specs.Besides.{own_at}
use Rattle.machine_code.specs.Instructions.{Unify}
use Rattle.trial_laws.specs.AtHand.{term_word}
use Rattle.trial_machine.specs.Machines.{at_machine}
use Rattle.trial_machine.proofs.Besides.{own_pieces, before_call, after_call, stored_at, loads_at, loads_left, says_pieces, tame_call}
use Rattle.trial_machine.proofs.Unifications.{unified, clashed, paused}
use Rattle.trial_machine.proofs.machine.Machine.unify.Goals as goal

pub unify-requires-clause-sound : goal.unify-requires-clause-sound
unify-requires-clause-sound g c =
    (before_call c.stands_beside.ensures c.args.self.now (Unify c.args.left c.args.right) c.args.words.now c.words.result.now
    c.requires.stored c.once.ensures.kept c.requires.meets
    (own_pieces c.args.self.now.desk.pieces c.words.result.now c.words.ensures.all c.words.ensures.placed)).sound

pub unify-requires-clause-holds : goal.unify-requires-clause-holds
unify-requires-clause-holds g c =
    let may = before_call c.stands_beside.ensures c.args.self.now (Unify c.args.left c.args.right) c.args.words.now c.words.result.now
    c.requires.stored c.once.ensures.kept c.requires.meets
    (own_pieces c.args.self.now.desk.pieces c.words.result.now c.words.ensures.all c.words.ensures.placed) in
    record { kept_had = may.kept_had; kept_below = may.kept_below; bound_leads = may.bound }

pub unify-requires-clause-leads : goal.unify-requires-clause-leads
unify-requires-clause-leads g c =
    let may = before_call c.stands_beside.ensures c.args.self.now (Unify c.args.left c.args.right) c.args.words.now c.words.result.now
    c.requires.stored c.once.ensures.kept c.requires.meets
    (own_pieces c.args.self.now.desk.pieces c.words.result.now c.words.ensures.all c.words.ensures.placed) in
    (may.terms c.args.left, may.terms c.args.right)

pub unify-requires-clause-tame : goal.unify-requires-clause-tame
unify-requires-clause-tame g c =
    (before_call c.stands_beside.ensures c.args.self.now (Unify c.args.left c.args.right) c.args.words.now c.words.result.now
    c.requires.stored c.once.ensures.kept c.requires.meets
    (own_pieces c.args.self.now.desk.pieces c.words.result.now c.words.ensures.all c.words.ensures.placed)).tame

pub leave-requires : goal.leave-requires
leave-requires g c =
    stored_at c.args.self.now (search rules)
    (after_call c.after_beside.ensures.beside c.args.self.now (Unify c.args.left c.args.right) _ c.unify.new.words
    c.unify.new.trail.kept c.unify.new.trail.binds c.requires.stored c.once.ensures.kept c.requires.meets
    (own_pieces c.args.self.now.desk.pieces c.words.result.now c.words.ensures.all c.words.ensures.placed) c.in_ok-end.ensures.loaded)

pub leave-requires-in-Wait : goal.leave-requires-in-Wait
leave-requires-in-Wait g c =
    stored_at c.args.self.now (search rules)
    (after_call c.after_beside.ensures.beside c.args.self.now (Unify c.args.left c.args.right) _ c.unify.new.words
    c.unify.new.trail.kept c.unify.new.trail.binds c.requires.stored c.once.ensures.kept c.requires.meets
    (own_pieces c.args.self.now.desk.pieces c.words.result.now c.words.ensures.all c.words.ensures.placed) c.in_ok-end.ensures.loaded)

pub returns-in-Done-clause-loaded : goal.returns-in-Done-clause-loaded
returns-in-Done-clause-loaded g c =
    loads_at c.args.self.now (search rules)
    (after_call c.after_beside.ensures.beside c.args.self.now (Unify c.args.left c.args.right) _ c.unify.new.words
    c.unify.new.trail.kept c.unify.new.trail.binds c.requires.stored c.once.ensures.kept c.requires.meets
    (own_pieces c.args.self.now.desk.pieces c.words.result.now c.words.ensures.all c.words.ensures.placed) c.in_ok-end.ensures.loaded)

pub returns-in-Done-clause-turns : goal.returns-in-Done-clause-turns
returns-in-Done-clause-turns g c =
    unified c.args.self.now c.unify.new.trail c.unify.new.lists c.count-self.result c.args.left c.args.right
    (after_call c.after_beside.ensures.beside c.args.self.now (Unify c.args.left c.args.right) _ c.unify.new.words
    c.unify.new.trail.kept c.unify.new.trail.binds c.requires.stored c.once.ensures.kept c.requires.meets
    (own_pieces c.args.self.now.desk.pieces c.words.result.now c.words.ensures.all c.words.ensures.placed)
    c.in_ok-end.ensures.loaded).more
    (says_pieces (λ m. Unifies m c.args.self.now.trail.binds c.args.self.now.trail.reads.items
    ((term_word (at_machine c.args.self.now) c.args.left, term_word (at_machine c.args.self.now) c.args.right) ∷ [])
    (done c.unify.new.trail.binds c.unify.new.trail.reads.items)) c.args.self.now.desk.pieces c.words.result.now c.unify.new.words.own.now
    c.unify.new.trail.kept (own_pieces c.args.self.now.desk.pieces c.words.result.now c.words.ensures.all c.words.ensures.placed)
    c.unify.ensures.between.2 (subst (λ (d : Unified). Says (own_at c.unify.new.words.own.now) c.unify.new.trail.kept
    (λ m. Unifies m c.args.self.now.trail.binds c.args.self.now.trail.reads.items
    ((term_word (at_machine c.args.self.now) c.args.left, term_word (at_machine c.args.self.now) c.args.right) ∷ [])
    (ending d c.unify.new.trail.binds c.unify.new.trail.reads.items))) c.in-Done.is c.in_ok-end.ensures.unifies))
    (tame_call c.unify.new.trail.binds c.unify.new.trail.kept c.args.self.now.desk.pieces c.words.result.now c.unify.new.words.own.now
    (own_pieces c.args.self.now.desk.pieces c.words.result.now c.words.ensures.all c.words.ensures.placed) c.unify.ensures.between.2
    c.in_ok-end.ensures.tame) c.count-self.ensures

pub returns-in_ok-leave-in-Clash-clause-loaded : goal.returns-in_ok-leave-in-Clash-clause-loaded
returns-in_ok-leave-in-Clash-clause-loaded g c =
    loads_left c.args.self.now c.leave.ensures.kept (search rules)
    (after_call c.after_beside.ensures.beside c.args.self.now (Unify c.args.left c.args.right) _ c.unify.new.words
    c.unify.new.trail.kept c.unify.new.trail.binds c.requires.stored c.once.ensures.kept c.requires.meets
    (own_pieces c.args.self.now.desk.pieces c.words.result.now c.words.ensures.all c.words.ensures.placed) c.in_ok-end.ensures.loaded)

pub returns-in_ok-leave-in-Clash-clause-turns : goal.returns-in_ok-leave-in-Clash-clause-turns
returns-in_ok-leave-in-Clash-clause-turns g c =
    clashed c.args.self.now c.leave.new.self c.unify.new.trail c.unify.new.lists c.args.left c.args.right
    (after_call c.after_beside.ensures.beside c.args.self.now (Unify c.args.left c.args.right) _ c.unify.new.words
    c.unify.new.trail.kept c.unify.new.trail.binds c.requires.stored c.once.ensures.kept c.requires.meets
    (own_pieces c.args.self.now.desk.pieces c.words.result.now c.words.ensures.all c.words.ensures.placed)
    c.in_ok-end.ensures.loaded).more
    (says_pieces (λ m. Unifies m c.args.self.now.trail.binds c.args.self.now.trail.reads.items
    ((term_word (at_machine c.args.self.now) c.args.left, term_word (at_machine c.args.self.now) c.args.right) ∷ [])
    (clash c.unify.new.trail.reads.items)) c.args.self.now.desk.pieces c.words.result.now c.unify.new.words.own.now
    c.unify.new.trail.kept (own_pieces c.args.self.now.desk.pieces c.words.result.now c.words.ensures.all c.words.ensures.placed)
    c.unify.ensures.between.2 (subst (λ (d : Unified). Says (own_at c.unify.new.words.own.now) c.unify.new.trail.kept
    (λ m. Unifies m c.args.self.now.trail.binds c.args.self.now.trail.reads.items
    ((term_word (at_machine c.args.self.now) c.args.left, term_word (at_machine c.args.self.now) c.args.right) ∷ [])
    (ending d c.unify.new.trail.binds c.unify.new.trail.reads.items))) c.in-Clash.is c.in_ok-end.ensures.unifies))
    c.in_ok-leave-in-Clash.ensures.left c.in_ok-leave-in-Clash.ensures.safe c.leave.ensures.keeps

pub returns-in_ok-leave-in-Wait-clause-loaded : goal.returns-in_ok-leave-in-Wait-clause-loaded
returns-in_ok-leave-in-Wait-clause-loaded g c =
    loads_left c.args.self.now c.leave-in-Wait.ensures.kept (search rules)
    (after_call c.after_beside.ensures.beside c.args.self.now (Unify c.args.left c.args.right) _ c.unify.new.words
    c.unify.new.trail.kept c.unify.new.trail.binds c.requires.stored c.once.ensures.kept c.requires.meets
    (own_pieces c.args.self.now.desk.pieces c.words.result.now c.words.ensures.all c.words.ensures.placed) c.in_ok-end.ensures.loaded)

pub returns-in_ok-leave-in-Wait-clause-turns : goal.returns-in_ok-leave-in-Wait-clause-turns
returns-in_ok-leave-in-Wait-clause-turns g c =
    paused c.args.self.now c.leave-in-Wait.new.self c.unify.new.trail c.unify.new.lists c.args.left c.args.right
    (after_call c.after_beside.ensures.beside c.args.self.now (Unify c.args.left c.args.right) _ c.unify.new.words
    c.unify.new.trail.kept c.unify.new.trail.binds c.requires.stored c.once.ensures.kept c.requires.meets
    (own_pieces c.args.self.now.desk.pieces c.words.result.now c.words.ensures.all c.words.ensures.placed)
    c.in_ok-end.ensures.loaded).more
    (says_pieces (λ m. Unifies m c.args.self.now.trail.binds c.args.self.now.trail.reads.items
    ((term_word (at_machine c.args.self.now) c.args.left, term_word (at_machine c.args.self.now) c.args.right) ∷ [])
    (stop c.unify.new.trail.reads.items)) c.args.self.now.desk.pieces c.words.result.now c.unify.new.words.own.now
    c.unify.new.trail.kept (own_pieces c.args.self.now.desk.pieces c.words.result.now c.words.ensures.all c.words.ensures.placed)
    c.unify.ensures.between.2 (subst (λ (d : Unified). Says (own_at c.unify.new.words.own.now) c.unify.new.trail.kept
    (λ m. Unifies m c.args.self.now.trail.binds c.args.self.now.trail.reads.items
    ((term_word (at_machine c.args.self.now) c.args.left, term_word (at_machine c.args.self.now) c.args.right) ∷ [])
    (ending d c.unify.new.trail.binds c.unify.new.trail.reads.items))) c.in-Wait.is c.in_ok-end.ensures.unifies))
    c.in_ok-leave-in-Wait.ensures.left c.in_ok-leave-in-Wait.ensures.safe c.leave-in-Wait.ensures.keeps
