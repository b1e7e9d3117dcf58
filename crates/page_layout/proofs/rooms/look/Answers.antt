use Rattle.std.proofs.Common.{◌≡◌, ◌+◌, ◌*◌, ◌<◌, ◌≤◌, ◌∙◌, true, sym, ⊎_elim, true≢false}
use Rattle.std.proofs.lemmas.Bool.{cases_lt}
use Rattle.page_layout.proofs.Looking.{looked_none, looked_room, lack_more, last_with}
use Rattle.page_layout.proofs.rooms.look.Goals as goal

pub returns-in_default-clause-looked : goal.returns-in_default-clause-looked
returns-in_default-clause-looked g c =
    looked_none c.args.trail.now.kept c.first_word.new.trail.kept c.args.rooms.now.items c.args.page c.in_ok-word.word
    c.in_ok-word.ensures.loaded.went.grows c.requires.rooms c.requires.before c.in_ok-word.ensures.kept c.in_default.ensures.none

pub returns-then-has-clause-looked : goal.returns-then-has-clause-looked
returns-then-has-clause-looked g c =
    let r = c.in-Some.ensures.room in
    rw c.in_ok-at.ensures.1
    (looked_room c.args.trail.now.kept c.first_word.new.trail.kept c.args.rooms.now.items c.args.page c.in_ok-word.word c.in-Some.room
    c.in_ok-word.ensures.loaded.went.grows c.requires.rooms c.requires.before c.in_ok-word.ensures.kept r.0 r.1 r.2 r.3)

pub returns-then-has-clause-fits : goal.returns-then-has-clause-fits
returns-then-has-clause-fits g c all =
    rw (c.in_ok-at.ensures.1, c.in_ok-at.ensures.0)
    (last_with c.args.rooms.now.items c.in-Some.room c.args.need (c.has.ensures.0 c.if-has.true) all)

pub returns-clause-looked : goal.returns-clause-looked
returns-clause-looked g c =
    let r = c.in-Some.ensures.room in
    rw c.in_ok-at.ensures.1
    (looked_room c.args.trail.now.kept c.first_word.new.trail.kept c.args.rooms.now.items c.args.page c.in_ok-word.word c.in-Some.room
    c.in_ok-word.ensures.loaded.went.grows c.requires.rooms c.requires.before c.in_ok-word.ensures.kept r.0 r.1 r.2 r.3)

pub returns-clause-lack : goal.returns-clause-lack
returns-clause-lack g c all =
    rw c.in_ok-at.ensures.1
    (lack_more c.args.rooms.now.items c.in-Some.room c.args.need all
    (⊎_elim (λ (l : 1024 * c.in-Some.room.page + 1024 < c.in-Some.room.top + c.args.need). l)
    (λ (l : c.in-Some.room.top + c.args.need ≤ 1024 * c.in-Some.room.page + 1024).
    absurd (let t : c.has.result ≡ true = c.has.ensures.1 l in true≢false (sym t ∙ c.if-has.false)))
    (cases_lt (1024 * c.in-Some.room.page + 1024) (c.in-Some.room.top + c.args.need))))
