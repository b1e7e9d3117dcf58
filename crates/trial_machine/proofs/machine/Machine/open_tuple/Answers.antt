use Rattle.std.proofs.Common.{rules, ◌∙◌, true, false, true≢false, arith, sym, subst}
use Rattle.beside_words.specs.Besides.{own_at}
use Rattle.heap_words.specs.Trails.{Says}
use Rattle.machine_code.specs.Instructions.{GetTuple}
use Rattle.try_desk.specs.Held.{held}
use Rattle.try_desk.specs.Opened.{OpensTuple}
use Rattle.trial_machine.proofs.Besides.{own_pieces, before_call, after_call, loads_at, says_own}
use Rattle.trial_machine.proofs.OpenedTuples.{tuple_taken, tuple_nowhere, tuple_other}
use Rattle.trial_machine.proofs.machine.Machine.open_tuple.Goals as goal

pub open_tuple-requires-clause-sound : goal.open_tuple-requires-clause-sound
open_tuple-requires-clause-sound g c =
    (before_call c.stands_beside.ensures c.args.self.now (GetTuple c.args.slot c.args.first c.args.parts c.args.put) c.args.words.now
    c.words.result.now
    c.requires.stored c.once.ensures.kept c.requires.meets
    (own_pieces c.args.self.now.desk.pieces c.words.result.now c.words.ensures.all c.words.ensures.placed)).sound

pub open_tuple-requires-clause-holds : goal.open_tuple-requires-clause-holds
open_tuple-requires-clause-holds g c =
    let may = before_call c.stands_beside.ensures c.args.self.now (GetTuple c.args.slot c.args.first c.args.parts c.args.put)
    c.args.words.now c.words.result.now
    c.requires.stored c.once.ensures.kept c.requires.meets
    (own_pieces c.args.self.now.desk.pieces c.words.result.now c.words.ensures.all c.words.ensures.placed) in
    record { kept_had = may.kept_had; kept_below = may.kept_below; bound_leads = may.bound }

pub open_tuple-requires-clause-leads : goal.open_tuple-requires-clause-leads
open_tuple-requires-clause-leads g c =
    (before_call c.stands_beside.ensures c.args.self.now (GetTuple c.args.slot c.args.first c.args.parts c.args.put) c.args.words.now
    c.words.result.now
    c.requires.stored c.once.ensures.kept c.requires.meets
    (own_pieces c.args.self.now.desk.pieces c.words.result.now c.words.ensures.all c.words.ensures.placed)).terms c.args.slot

pub open_tuple-requires-clause-tame : goal.open_tuple-requires-clause-tame
open_tuple-requires-clause-tame g c =
    (before_call c.stands_beside.ensures c.args.self.now (GetTuple c.args.slot c.args.first c.args.parts c.args.put) c.args.words.now
    c.words.result.now
    c.requires.stored c.once.ensures.kept c.requires.meets
    (own_pieces c.args.self.now.desk.pieces c.words.result.now c.words.ensures.all c.words.ensures.placed)).tame

pub returns-then-not-is_tuple-clause-loaded : goal.returns-then-not-is_tuple-clause-loaded
returns-then-not-is_tuple-clause-loaded g c =
    loads_at c.args.self.now (search rules)
    (after_call c.after_beside.ensures.beside c.args.self.now (GetTuple c.args.slot c.args.first c.args.parts c.args.put) _
    c.open_tuple.new.words
    c.open_tuple.new.trail.kept c.open_tuple.new.trail.binds c.requires.stored c.once.ensures.kept c.requires.meets
    (own_pieces c.args.self.now.desk.pieces c.words.result.now c.words.ensures.all c.words.ensures.placed)
    c.in_ok-is_tuple.ensures.loaded)

pub returns-then-hold_terms-clause-loaded : goal.returns-then-hold_terms-clause-loaded
returns-then-hold_terms-clause-loaded g c =
    loads_at c.args.self.now (search rules)
    (after_call c.after_beside.ensures.beside c.args.self.now (GetTuple c.args.slot c.args.first c.args.parts c.args.put) _
    c.open_tuple.new.words
    c.open_tuple.new.trail.kept c.open_tuple.new.trail.binds c.requires.stored c.once.ensures.kept c.requires.meets
    (own_pieces c.args.self.now.desk.pieces c.words.result.now c.words.ensures.all c.words.ensures.placed)
    c.in_ok-is_tuple.ensures.loaded)

pub returns-else-hold_terms-clause-loaded : goal.returns-else-hold_terms-clause-loaded
returns-else-hold_terms-clause-loaded g c =
    loads_at c.args.self.now (search rules)
    (after_call c.after_beside.ensures.beside c.args.self.now (GetTuple c.args.slot c.args.first c.args.parts c.args.put) _
    c.open_tuple.new.words
    c.open_tuple.new.trail.kept c.open_tuple.new.trail.binds c.requires.stored c.once.ensures.kept c.requires.meets
    (own_pieces c.args.self.now.desk.pieces c.words.result.now c.words.ensures.all c.words.ensures.placed)
    c.in_ok-is_tuple.ensures.loaded)

pub returns-then-not-is_tuple-clause-opens : goal.returns-then-not-is_tuple-clause-opens
returns-then-not-is_tuple-clause-opens g c =
    tuple_other c.args.self.now c.open_tuple.new.self c.open_tuple.new.trail c.count-self.result c.args.slot c.args.first c.args.parts
    c.args.put
    record {
      more = (after_call c.after_beside.ensures.beside c.args.self.now (GetTuple c.args.slot c.args.first c.args.parts c.args.put) _
          c.open_tuple.new.words
          c.open_tuple.new.trail.kept c.open_tuple.new.trail.binds c.requires.stored c.once.ensures.kept c.requires.meets
          (own_pieces c.args.self.now.desk.pieces c.words.result.now c.words.ensures.all c.words.ensures.placed)
          c.in_ok-is_tuple.ensures.loaded).more;
      binds = c.open_tuple.ensures.binds;
      reads = c.open_tuple.ensures.reads;
    }
    c.open_tuple.ensures.keeps (says_own (λ own m. OpensTuple c.open_tuple.new.trail.kept own c.args.self.now.trail.binds m (held
    c.args.self.now.desk.slots)
    (held c.open_tuple.new.self) c.args.slot c.args.first c.args.parts false) c.args.self.now.desk.pieces c.words.result.now
    c.open_tuple.new.words.own.now c.open_tuple.new.trail.kept (own_pieces c.args.self.now.desk.pieces c.words.result.now
    c.words.ensures.all c.words.ensures.placed)
    c.open_tuple.ensures.between.2 (subst (λ b. Says (own_at c.open_tuple.new.words.own.now) c.open_tuple.new.trail.kept (λ m.
    OpensTuple c.open_tuple.new.trail.kept (own_at c.open_tuple.new.words.own.now) c.args.self.now.trail.binds m
    (held c.args.self.now.desk.slots) (held c.open_tuple.new.self) c.args.slot c.args.first c.args.parts b)) c.if-not-is_tuple.true
    c.in_ok-is_tuple.ensures.opened)) c.count-self.ensures

pub returns-then-hold_terms-clause-opens : goal.returns-then-hold_terms-clause-opens
returns-then-hold_terms-clause-opens g c =
    tuple_taken c.args.self.now c.open_tuple.new.self c.open_tuple.new.trail c.count-self.result c.args.slot c.args.first c.args.parts
    c.args.put
    (let l = c.if-parts-ge66.false in omega (arith, l)) record {
      more = (after_call c.after_beside.ensures.beside c.args.self.now (GetTuple c.args.slot c.args.first c.args.parts c.args.put) _
          c.open_tuple.new.words
          c.open_tuple.new.trail.kept c.open_tuple.new.trail.binds c.requires.stored c.once.ensures.kept c.requires.meets
          (own_pieces c.args.self.now.desk.pieces c.words.result.now c.words.ensures.all c.words.ensures.placed)
          c.in_ok-is_tuple.ensures.loaded).more;
      binds = c.open_tuple.ensures.binds;
      reads = c.open_tuple.ensures.reads;
    }
    c.open_tuple.ensures.keeps (says_own (λ own m. OpensTuple c.open_tuple.new.trail.kept own c.args.self.now.trail.binds m (held
    c.args.self.now.desk.slots)
    (held c.open_tuple.new.self) c.args.slot c.args.first c.args.parts true) c.args.self.now.desk.pieces c.words.result.now
    c.open_tuple.new.words.own.now c.open_tuple.new.trail.kept (own_pieces c.args.self.now.desk.pieces c.words.result.now
    c.words.ensures.all c.words.ensures.placed)
    c.open_tuple.ensures.between.2 (subst (λ b. Says (own_at c.open_tuple.new.words.own.now) c.open_tuple.new.trail.kept (λ m.
    OpensTuple c.open_tuple.new.trail.kept (own_at c.open_tuple.new.words.own.now) c.args.self.now.trail.binds m
    (held c.args.self.now.desk.slots) (held c.open_tuple.new.self) c.args.slot c.args.first c.args.parts b)) c.if-not-is_tuple.false
    c.in_ok-is_tuple.ensures.opened))
    (c.hold_terms.ensures.0 c.if-hold_terms.true) c.count-self.ensures

pub returns-else-hold_terms-clause-opens : goal.returns-else-hold_terms-clause-opens
returns-else-hold_terms-clause-opens g c =
    tuple_nowhere c.args.self.now c.open_tuple.new.self c.open_tuple.new.trail c.count-self.result c.args.slot c.args.first
    c.args.parts c.args.put
    record {
      more = (after_call c.after_beside.ensures.beside c.args.self.now (GetTuple c.args.slot c.args.first c.args.parts c.args.put) _
          c.open_tuple.new.words
          c.open_tuple.new.trail.kept c.open_tuple.new.trail.binds c.requires.stored c.once.ensures.kept c.requires.meets
          (own_pieces c.args.self.now.desk.pieces c.words.result.now c.words.ensures.all c.words.ensures.placed)
          c.in_ok-is_tuple.ensures.loaded).more;
      binds = c.open_tuple.ensures.binds;
      reads = c.open_tuple.ensures.reads;
    }
    (says_own (λ own m. OpensTuple c.open_tuple.new.trail.kept own c.args.self.now.trail.binds m (held c.args.self.now.desk.slots)
    (held c.open_tuple.new.self) c.args.slot c.args.first c.args.parts true) c.args.self.now.desk.pieces c.words.result.now
    c.open_tuple.new.words.own.now c.open_tuple.new.trail.kept (own_pieces c.args.self.now.desk.pieces c.words.result.now
    c.words.ensures.all c.words.ensures.placed)
    c.open_tuple.ensures.between.2 (subst (λ b. Says (own_at c.open_tuple.new.words.own.now) c.open_tuple.new.trail.kept (λ m.
    OpensTuple c.open_tuple.new.trail.kept (own_at c.open_tuple.new.words.own.now) c.args.self.now.trail.binds m
    (held c.args.self.now.desk.slots) (held c.open_tuple.new.self) c.args.slot c.args.first c.args.parts b)) c.if-not-is_tuple.false
    c.in_ok-is_tuple.ensures.opened))
    (λ t. true≢false (sym (c.hold_terms.ensures.1 t) ∙ c.if-hold_terms.false))
