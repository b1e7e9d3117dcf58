use Rattle.std.proofs.Common.{rules, ◌∙◌, true, false, true≢false, sym, subst}
use Rattle.beside_words.specs.Besides.{own_at}
use Rattle.heap_words.specs.Trails.{Says}
use Rattle.machine_code.specs.Instructions.{GetCons}
use Rattle.try_desk.specs.Held.{held}
use Rattle.try_desk.specs.Opened.{OpensPair}
use Rattle.trial_laws.specs.Leading.{IsTermWord}
use Rattle.trial_machine.proofs.Besides.{own_pieces, before_call, after_call, loads_at, says_own}
use Rattle.trial_machine.proofs.OpenedPairs.{pair_taken, pair_nowhere, pair_other}
use Rattle.trial_machine.proofs.machine.Machine.open_pair.Goals.{else-is_term-via-then-is_term+else-is_term-2}
use Rattle.trial_machine.proofs.machine.Machine.open_pair.Goals.{else-is_term-via-else-is_term}
use Rattle.trial_machine.proofs.machine.Machine.open_pair.Goals as goal

pub open_pair-requires-clause-sound : goal.open_pair-requires-clause-sound
open_pair-requires-clause-sound g c =
    (before_call c.stands_beside.ensures c.args.self.now (GetCons c.args.slot c.args.left c.args.right c.args.put) c.args.words.now
    c.words.result.now
    c.requires.stored c.once.ensures.kept c.requires.meets
    (own_pieces c.args.self.now.desk.pieces c.words.result.now c.words.ensures.all c.words.ensures.placed)).sound

pub open_pair-requires-clause-holds : goal.open_pair-requires-clause-holds
open_pair-requires-clause-holds g c =
    let may = before_call c.stands_beside.ensures c.args.self.now (GetCons c.args.slot c.args.left c.args.right c.args.put)
    c.args.words.now c.words.result.now
    c.requires.stored c.once.ensures.kept c.requires.meets
    (own_pieces c.args.self.now.desk.pieces c.words.result.now c.words.ensures.all c.words.ensures.placed) in
    record { kept_had = may.kept_had; kept_below = may.kept_below; bound_leads = may.bound }

pub open_pair-requires-clause-leads : goal.open_pair-requires-clause-leads
open_pair-requires-clause-leads g c =
    (before_call c.stands_beside.ensures c.args.self.now (GetCons c.args.slot c.args.left c.args.right c.args.put) c.args.words.now
    c.words.result.now
    c.requires.stored c.once.ensures.kept c.requires.meets
    (own_pieces c.args.self.now.desk.pieces c.words.result.now c.words.ensures.all c.words.ensures.placed)).terms c.args.slot

pub open_pair-requires-clause-tame : goal.open_pair-requires-clause-tame
open_pair-requires-clause-tame g c =
    (before_call c.stands_beside.ensures c.args.self.now (GetCons c.args.slot c.args.left c.args.right c.args.put) c.args.words.now
    c.words.result.now
    c.requires.stored c.once.ensures.kept c.requires.meets
    (own_pieces c.args.self.now.desk.pieces c.words.result.now c.words.ensures.all c.words.ensures.placed)).tame

pub returns-then-not-is_pair-clause-loaded : goal.returns-then-not-is_pair-clause-loaded
returns-then-not-is_pair-clause-loaded g c =
    loads_at c.args.self.now (search rules)
    (after_call c.after_beside.ensures.beside c.args.self.now (GetCons c.args.slot c.args.left c.args.right c.args.put) _
    c.open_pair.new.words
    c.open_pair.new.trail.kept c.open_pair.new.trail.binds c.requires.stored c.once.ensures.kept c.requires.meets
    (own_pieces c.args.self.now.desk.pieces c.words.result.now c.words.ensures.all c.words.ensures.placed) c.in_ok-is_pair.ensures.loaded)

pub returns-then-is_term-2-clause-loaded : goal.returns-then-is_term-2-clause-loaded
returns-then-is_term-2-clause-loaded g c =
    loads_at c.args.self.now (search rules)
    (after_call c.after_beside.ensures.beside c.args.self.now (GetCons c.args.slot c.args.left c.args.right c.args.put) _
    c.open_pair.new.words
    c.open_pair.new.trail.kept c.open_pair.new.trail.binds c.requires.stored c.once.ensures.kept c.requires.meets
    (own_pieces c.args.self.now.desk.pieces c.words.result.now c.words.ensures.all c.words.ensures.placed) c.in_ok-is_pair.ensures.loaded)

pub returns-else-is_term-clause-loaded : goal.returns-else-is_term-clause-loaded
returns-else-is_term-clause-loaded g c =
    loads_at c.args.self.now (search rules)
    (after_call c.after_beside.ensures.beside c.args.self.now (GetCons c.args.slot c.args.left c.args.right c.args.put) _
    c.open_pair.new.words
    c.open_pair.new.trail.kept c.open_pair.new.trail.binds c.requires.stored c.once.ensures.kept c.requires.meets
    (own_pieces c.args.self.now.desk.pieces c.words.result.now c.words.ensures.all c.words.ensures.placed) c.in_ok-is_pair.ensures.loaded)

pub returns-then-not-is_pair-clause-opens : goal.returns-then-not-is_pair-clause-opens
returns-then-not-is_pair-clause-opens g c =
    pair_other c.args.self.now c.open_pair.new.self c.open_pair.new.trail c.count-self.result c.args.slot c.args.left c.args.right
    c.args.put
    record {
      more = (after_call c.after_beside.ensures.beside c.args.self.now (GetCons c.args.slot c.args.left c.args.right c.args.put) _
          c.open_pair.new.words
          c.open_pair.new.trail.kept c.open_pair.new.trail.binds c.requires.stored c.once.ensures.kept c.requires.meets
          (own_pieces c.args.self.now.desk.pieces c.words.result.now c.words.ensures.all c.words.ensures.placed)
          c.in_ok-is_pair.ensures.loaded).more;
      binds = c.open_pair.ensures.binds;
      reads = c.open_pair.ensures.reads;
    }
    c.open_pair.ensures.keeps (says_own (λ own m. OpensPair c.open_pair.new.trail.kept own c.args.self.now.trail.binds m (held
    c.args.self.now.desk.slots)
    (held c.open_pair.new.self) c.args.slot c.args.left c.args.right false) c.args.self.now.desk.pieces c.words.result.now
    c.open_pair.new.words.own.now c.open_pair.new.trail.kept (own_pieces c.args.self.now.desk.pieces c.words.result.now
    c.words.ensures.all c.words.ensures.placed)
    c.open_pair.ensures.between.2 (subst (λ b. Says (own_at c.open_pair.new.words.own.now) c.open_pair.new.trail.kept (λ m.
    OpensPair c.open_pair.new.trail.kept (own_at c.open_pair.new.words.own.now) c.args.self.now.trail.binds m
    (held c.args.self.now.desk.slots) (held c.open_pair.new.self) c.args.slot c.args.left c.args.right b)) c.if-not-is_pair.true
    c.in_ok-is_pair.ensures.opened)) c.count-self.ensures

pub returns-then-is_term-2-clause-opens : goal.returns-then-is_term-2-clause-opens
returns-then-is_term-2-clause-opens g c =
    pair_taken c.args.self.now c.open_pair.new.self c.open_pair.new.trail c.count-self.result c.args.slot c.args.left c.args.right
    c.args.put
    c.if-left-right.false record {
      more = (after_call c.after_beside.ensures.beside c.args.self.now (GetCons c.args.slot c.args.left c.args.right c.args.put) _
          c.open_pair.new.words
          c.open_pair.new.trail.kept c.open_pair.new.trail.binds c.requires.stored c.once.ensures.kept c.requires.meets
          (own_pieces c.args.self.now.desk.pieces c.words.result.now c.words.ensures.all c.words.ensures.placed)
          c.in_ok-is_pair.ensures.loaded).more;
      binds = c.open_pair.ensures.binds;
      reads = c.open_pair.ensures.reads;
    }
    c.open_pair.ensures.keeps (says_own (λ own m. OpensPair c.open_pair.new.trail.kept own c.args.self.now.trail.binds m (held
    c.args.self.now.desk.slots)
    (held c.open_pair.new.self) c.args.slot c.args.left c.args.right true) c.args.self.now.desk.pieces c.words.result.now
    c.open_pair.new.words.own.now c.open_pair.new.trail.kept (own_pieces c.args.self.now.desk.pieces c.words.result.now
    c.words.ensures.all c.words.ensures.placed)
    c.open_pair.ensures.between.2 (subst (λ b. Says (own_at c.open_pair.new.words.own.now) c.open_pair.new.trail.kept (λ m.
    OpensPair c.open_pair.new.trail.kept (own_at c.open_pair.new.words.own.now) c.args.self.now.trail.binds m
    (held c.args.self.now.desk.slots) (held c.open_pair.new.self) c.args.slot c.args.left c.args.right b)) c.if-not-is_pair.false
    c.in_ok-is_pair.ensures.opened))
    (subst IsTermWord c.content.ensures (c.is_term.ensures.0 c.if-is_term.true))
    (subst IsTermWord c.content-then-is_term.ensures (c.is_term-then-is_term.ensures.0 c.if-is_term-2.true)) c.count-self.ensures

pub returns-else-is_term-clause-opens : goal.returns-else-is_term-clause-opens
returns-else-is_term-clause-opens g c =
    pair_nowhere c.args.self.now c.open_pair.new.self c.open_pair.new.trail c.count-self.result c.args.slot c.args.left c.args.right
    c.args.put
    c.if-left-right.false record {
      more = (after_call c.after_beside.ensures.beside c.args.self.now (GetCons c.args.slot c.args.left c.args.right c.args.put) _
          c.open_pair.new.words
          c.open_pair.new.trail.kept c.open_pair.new.trail.binds c.requires.stored c.once.ensures.kept c.requires.meets
          (own_pieces c.args.self.now.desk.pieces c.words.result.now c.words.ensures.all c.words.ensures.placed)
          c.in_ok-is_pair.ensures.loaded).more;
      binds = c.open_pair.ensures.binds;
      reads = c.open_pair.ensures.reads;
    }
    (says_own (λ own m. OpensPair c.open_pair.new.trail.kept own c.args.self.now.trail.binds m (held c.args.self.now.desk.slots)
    (held c.open_pair.new.self) c.args.slot c.args.left c.args.right true) c.args.self.now.desk.pieces c.words.result.now
    c.open_pair.new.words.own.now c.open_pair.new.trail.kept (own_pieces c.args.self.now.desk.pieces c.words.result.now
    c.words.ensures.all c.words.ensures.placed)
    c.open_pair.ensures.between.2 (subst (λ b. Says (own_at c.open_pair.new.words.own.now) c.open_pair.new.trail.kept (λ m.
    OpensPair c.open_pair.new.trail.kept (own_at c.open_pair.new.words.own.now) c.args.self.now.trail.binds m
    (held c.args.self.now.desk.slots) (held c.open_pair.new.self) c.args.slot c.args.left c.args.right b)) c.if-not-is_pair.false
    c.in_ok-is_pair.ensures.opened))
    (elim c.else-is_term.branch [
      | else-is_term-via-then-is_term+else-is_term-2 w ↦ λ t. true≢false (sym (w.is_term-then-is_term.ensures.1
          (subst IsTermWord (sym w.content-then-is_term.ensures) t.1)) ∙ w.if-is_term-2.false)
      | else-is_term-via-else-is_term w ↦ λ t. true≢false (sym (c.is_term.ensures.1
          (subst IsTermWord (sym c.content.ensures) t.0)) ∙ w.if-is_term.false)
    ])
