use Rattle.std.proofs.Common.{◌∙◌, ◌-◌, ◌<◌, ℕ, ap, sym, subst}
use Rattle.word_commit.specs.declared.quota.Quota.{Quota}
use Rattle.commit_engine.specs.Halls.{IsPaid, IsSpent}
use Rattle.commit_engine.proofs.Entering.{held_new, above_new, may_stamp}
use Rattle.commit_engine.proofs.Keeping.{keeps_same}
use Rattle.commit_engine.proofs.making.enter.Goals as goal

pub prime_all-requires-clause-held : goal.prime_all-requires-clause-held
prime_all-requires-clause-held g c =
    let v = c.args.hall.now in
    held_new (g.H.Hall.page_count v) (g.H.Hall.holds v) (g.H.Hall.stands v) (g.H.Words.shown v) c.args.entry c.args.pages.now
    c.args.places.now c.requires.entry c.requires.keeps c.requires.there

pub prime_all-requires-clause-above : goal.prime_all-requires-clause-above
prime_all-requires-clause-above g c =
    let v = c.args.hall.now in
    above_new (g.H.Hall.page_count v) (g.H.Hall.holds v) (g.H.Hall.stands v) (g.H.Words.shown v) c.args.entry c.args.pages.now
    c.args.places.now c.requires.entry c.requires.keeps c.requires.there

pub stamp-number-requires-clause-room : goal.stamp-number-requires-clause-room
stamp-number-requires-clause-room g c = subst (λ (n : ℕ). 0 < n) (sym c.prime_all.ensures.quiet.rest.3) c.requires.room

pub stamp-number-requires-clause-idle : goal.stamp-number-requires-clause-idle
stamp-number-requires-clause-idle g c = c.prime_all.ensures.quiet.rest.1 ∙ c.requires.idle

pub stamp-number-requires-clause-paid : goal.stamp-number-requires-clause-paid
stamp-number-requires-clause-paid g c =
    subst (λ (q : Quota). IsPaid q c.args.entry) (sym c.prime_all.ensures.quiet.rest.2) c.requires.paid

pub stamp-number-requires-clause-may : goal.stamp-number-requires-clause-may
stamp-number-requires-clause-may g c =
    let v = c.args.hall.now in
    let w = c.prime_all.new.hall in
    may_stamp (g.H.Hall.page_count v) (g.H.Hall.holds v) (g.H.Hall.stands v) (g.H.Words.shown v) c.args.entry c.args.pages.now
    c.args.places.now c.requires.entry c.requires.keeps c.requires.there (g.H.Hall.holds w) (g.H.Hall.stands w) (g.H.Hall.primed w)
    (g.H.Words.shown w) (g.H.Hall.page_count w) c.prime_all.ensures.quiet.rest.0 c.prime_all.ensures.holds c.prime_all.ensures.stands
    (λ a x k. g.met.H.Hall.hall_laws.silent_shown v w a x c.prime_all.ensures.quiet.no_entry k) c.prime_all.ensures.primed

pub give_pages-requires-clause-keeps : goal.give_pages-requires-clause-keeps
give_pages-requires-clause-keeps g c =
    let v = c.args.hall.now in
    let n = c.pages-count.ensures ∙ c.publish.ensures.rest.0 ∙ c.stamp-number.ensures.rest.0 ∙ c.prime_all.ensures.quiet.rest.0 in
    keeps_same (g.H.Hall.holds v) (g.H.Hall.holds c.publish.new.self) c.args.pages.now (g.H.Hall.page_count v) c.pages-count.result n
    (λ p. c.publish.ensures.holds p ∙ c.stamp-number.ensures.holds p ∙ c.prime_all.ensures.holds p) c.requires.keeps

pub returns-clause-idle : goal.returns-clause-idle
returns-clause-idle g c = c.give_pages.ensures.quiet.rest.1 ∙ c.publish.ensures.due

pub returns-clause-added : goal.returns-clause-added
returns-clause-added g c =
    let l = g.met.H.Hall.hall_laws in
    let n = c.stamp-number.result in
    let e = c.args.entry in
    l.added_silent c.args.hall.now c.stamp-number.new.self c.give_pages.new.hall e n
    (l.silent_added c.args.hall.now c.prime_all.new.hall c.stamp-number.new.self e n c.prime_all.ensures.quiet.no_entry
    c.stamp-number.ensures.added)
    (l.silent_twice c.stamp-number.new.self c.publish.new.self c.give_pages.new.hall c.publish.ensures.silent
    c.give_pages.ensures.quiet.no_entry)

pub returns-clause-takes : goal.returns-clause-takes
returns-clause-takes g c =
    c.give_pages.ensures.takes ∙ c.publish.ensures.takes ∙ c.stamp-number.ensures.takes ∙ c.prime_all.ensures.takes

pub returns-clause-purse : goal.returns-clause-purse
returns-clause-purse g c =
    subst (λ (q : Quota). IsSpent (g.H.Hall.purse c.args.hall.now) c.args.entry q)
    (sym (c.give_pages.ensures.quiet.rest.2 ∙ c.publish.ensures.rest.1))
    (subst (λ (q : Quota). IsSpent q c.args.entry (g.H.Hall.purse c.stamp-number.new.self)) c.prime_all.ensures.quiet.rest.2
    c.stamp-number.ensures.purse)

pub returns-clause-rest : goal.returns-clause-rest
returns-clause-rest g c = (
  c.give_pages.ensures.quiet.rest.0 ∙ c.publish.ensures.rest.0 ∙ c.stamp-number.ensures.rest.0 ∙ c.prime_all.ensures.quiet.rest.0,
  c.give_pages.ensures.quiet.rest.3 ∙ c.publish.ensures.rest.2 ∙ c.stamp-number.ensures.rest.1
      ∙ ap (λ (n : ℕ). n - 1) c.prime_all.ensures.quiet.rest.3,
)
