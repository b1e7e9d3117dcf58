use Rattle.std.proofs.Common.{◌∙◌, ◌-◌, ℕ, ap, subst}
use Rattle.heap_words.specs.Trails.{WordList}
use Rattle.word_states.specs.Words.{Among, IsIn}
use Rattle.word_commit.specs.declared.quota.Quota.{Quota}
use Rattle.commit_engine.specs.Halls.{IsSpent}
use Rattle.commit_engine.proofs.Keeping.{keeps_same, known_still, held_still, are_there}
use Rattle.commit_engine.proofs.Paging.{took_to}
use Rattle.commit_engine.proofs.Quiet.{quiet_then, quiet_loads}
use Rattle.commit_engine.proofs.making.make.Goals as goal

pub returns-in-Some-clause-idle : goal.returns-in-Some-clause-idle
returns-in-Some-clause-idle g c = c.take_pages.ensures.quiet.rest.1 ∙ c.requires.idle

pub returns-in-Some-clause-free : goal.returns-in-Some-clause-free
returns-in-Some-clause-free g c = c.in-Some.ensures.says.0

pub returns-in-Some-clause-says : goal.returns-in-Some-clause-says
returns-in-Some-clause-says g c = (c.take_pages.ensures.quiet, c.in-Some.ensures.says.1)

pub look_again-requires-clause-known : goal.look_again-requires-clause-known
look_again-requires-clause-known g c =
    known_still g.met.H.Words.laws g.met.H.Hall.hall_laws c.args.hall.now c.take_pages.new.hall c.as_slice.result.now c.requires.sound
    c.take_pages.ensures.quiet.no_entry
    (λ a x h. c.requires.had a x (subst (λ (k : WordList). Among k (a, x)) c.as_slice.ensures.value h))

pub look_again-requires-clause-held : goal.look_again-requires-clause-held
look_again-requires-clause-held g c = λ a x h f.
    held_still g.met.H.Words.laws g.met.H.Hall.hall_laws c.args.hall.now c.take_pages.new.hall c.args.entry c.args.pages.now
    c.args.places.now c.requires.sound c.requires.entry c.in-None.ensures.says.0 c.requires.had a x
    (subst (λ (k : WordList). Among k (a, x)) c.as_slice.ensures.value h) f

pub give_pages-requires-clause-keeps : goal.give_pages-requires-clause-keeps
give_pages-requires-clause-keeps g c =
    let l = g.met.H.Hall.hall_laws in
    let later = c.look_again.ensures.later in
    let v = c.take_pages.new.hall in
    let w = c.look_again.new.hall in
    keeps_same (g.H.Hall.holds v) (g.H.Hall.holds w) c.args.pages.now (g.H.Hall.page_count c.args.hall.now) c.pages-count.result
    (c.pages-count.ensures ∙ (l.later_rest v w later).0 ∙ c.take_pages.ensures.quiet.rest.0) (λ p. l.later_holds v w p later)
    c.in-None.ensures.says.0

pub enter-requires-clause-keeps : goal.enter-requires-clause-keeps
enter-requires-clause-keeps g c =
    let l = g.met.H.Hall.hall_laws in
    let later = c.look_again.ensures.later in
    let v = c.take_pages.new.hall in
    let w = c.look_again.new.hall in
    keeps_same (g.H.Hall.holds v) (g.H.Hall.holds w) c.args.pages.now (g.H.Hall.page_count c.args.hall.now) (g.H.Hall.page_count w)
    ((l.later_rest v w later).0 ∙ c.take_pages.ensures.quiet.rest.0) (λ p. l.later_holds v w p later) c.in-None.ensures.says.0

pub enter-requires-clause-there : goal.enter-requires-clause-there
enter-requires-clause-there g c =
    let l = g.met.H.Hall.hall_laws in
    let later = c.look_again.ensures.later in
    let u = c.args.hall.now in
    let v = c.take_pages.new.hall in
    let w = c.look_again.new.hall in
    are_there g.met.H.Words.laws l u v w c.args.entry.reads.items c.as_slice.result.now c.requires.sound
    (l.silent_twice u v w c.take_pages.ensures.quiet.no_entry (l.later_silent v w c.take_pages.ensures.sound later))
    ((l.later_rest v w later).0 ∙ c.take_pages.ensures.quiet.rest.0) c.requires.had c.as_slice.ensures.value
    c.in-None-look_again.ensures.says

pub returns-in-Some-look_again-clause-says : goal.returns-in-Some-look_again-clause-says
returns-in-Some-look_again-clause-says g c =
    let l = g.met.H.Hall.hall_laws in
    let m = g.met.H.Words.laws in
    let u = c.args.hall.now in
    let v = c.take_pages.new.hall in
    let w = c.look_again.new.hall in
    let x = c.give_pages.new.hall in
    let d = c.in-Some-look_again.change in
    let s = c.in-Some-look_again.ensures.says in (
      quiet_then m l u w x
          (quiet_then m l u v w c.take_pages.ensures.quiet (quiet_loads m l v w c.take_pages.ensures.sound c.look_again.ensures.later))
          c.give_pages.ensures.quiet,
      subst (λ (k : WordList). Among k (d.addr, d.kept)) c.as_slice.ensures.value s.0,
      l.found_before u w x d.addr d.found
          (l.found_after u v w d.addr d.found c.take_pages.ensures.quiet.no_entry
          (l.gave_found v w d.addr d.found c.take_pages.ensures.sound s.1)) c.give_pages.ensures.quiet.no_entry,
      s.2,
    )

pub returns-in-Some-look_again-clause-alone : goal.returns-in-Some-look_again-clause-alone
returns-in-Some-look_again-clause-alone g c = λ al.
    let l = g.met.H.Hall.hall_laws in
    let u = c.args.hall.now in
    let v = c.take_pages.new.hall in
    let w = c.look_again.new.hall in
    let d = c.in-Some-look_again.change in
    let s = c.in-Some-look_again.ensures.says in
    absurd (s.2 (c.requires.same al w d.addr d.kept d.found
    (subst (λ (k : WordList). Among k (d.addr, d.kept)) c.as_slice.ensures.value s.0)
    (l.found_after u v w d.addr d.found c.take_pages.ensures.quiet.no_entry
    (l.gave_found v w d.addr d.found c.take_pages.ensures.sound s.1))))

pub returns-in-None-look_again-clause-says : goal.returns-in-None-look_again-clause-says
returns-in-None-look_again-clause-says g c =
    let l = g.met.H.Hall.hall_laws in
    let u = c.args.hall.now in
    let v = c.take_pages.new.hall in
    let w = c.look_again.new.hall in
    let x = c.enter.new.hall in
    let later = c.look_again.ensures.later in
    let rest = l.later_rest v w later in
    let quiet = c.take_pages.ensures.quiet in
    record {
      is_added = l.silent_added u w x c.args.entry c.enter.result
          (l.silent_twice u v w quiet.no_entry (l.later_silent v w c.take_pages.ensures.sound later)) c.enter.ensures.added;
      took = took_to (g.H.Hall.takes u) (g.H.Hall.takes v) (g.H.Hall.takes x) (λ q. IsIn q c.args.pages.now) c.in-None.ensures.says.1
          (c.enter.ensures.takes ∙ l.later_takes v w later);
      spent = subst (λ (q : Quota). IsSpent q c.args.entry (g.H.Hall.purse x)) (rest.2 ∙ quiet.rest.2) c.enter.ensures.purse;
      same_pages = c.enter.ensures.rest.0 ∙ rest.0 ∙ quiet.rest.0;
      less_room = c.enter.ensures.rest.1 ∙ ap (λ (n : ℕ). n - 1) (rest.3 ∙ quiet.rest.3);
    }
