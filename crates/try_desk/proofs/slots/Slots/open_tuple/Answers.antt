use Rattle.std.proofs.Common.{◌≡◌, ◌∙◌, ℕ, true, false, refl, sym, subst, arith}
use Rattle.heap_words.proofs.Keeps.{loaded_twice, still_says}
use Rattle.ro_unify.specs.Value.{Values}
use Rattle.ro_unify.proofs.Ending.{tame_later}
use Rattle.ro_unify.proofs.Leads.{tuple_known, parts_known}
use Rattle.ro_unify.proofs.Seeing.{is_seen_on, said_seen}
use Rattle.try_desk.proofs.OpenedTuples.{tuple_word, count_parts, tuple_counted, no_tuple}
use Rattle.try_desk.proofs.slots.Slots.open_tuple.Goals as goal

pub word-requires-clause-known : goal.word-requires-clause-known
word-requires-clause-known g c =
    tuple_known g.met.W.Words.laws _ _ _ c.in_ok-look.ensures.loaded.sound c.in_ok-look.ensures.leads
    (tuple_word c.in_ok-look.look c.in-Some.at (sym c.in-Some.ensures))

pub take_parts-requires-clause-known : goal.take_parts-requires-clause-known
take_parts-requires-clause-known g c b lo hi =
    let n = count_parts c.args.parts _ (sym c.is_count.ensures ∙ c.if-is_count.true) c.requires.few in
    parts_known g.met.W.Words.laws _ _ _ _ b c.in_ok-count-in-Some.ensures.loaded.sound
    (g.met.W.Words.laws.stays_leading _ _ _ c.word.ensures.between c.in_ok-look.ensures.leads)
    (tuple_word c.in_ok-look.look c.in-Some.at (sym c.in-Some.ensures)) c.in_ok-count-in-Some.ensures.had lo (omega (arith, hi, n))

pub returns-in_ok-take_parts-in-Some-clause-loaded : goal.returns-in_ok-take_parts-in-Some-clause-loaded
returns-in_ok-take_parts-in-Some-clause-loaded g c =
    loaded_twice g.met.W.Words.laws
    (loaded_twice g.met.W.Words.laws c.in_ok-look.ensures.loaded c.in_ok-count-in-Some.ensures.loaded)
    c.in_ok-take_parts-in-Some.ensures.loaded

pub returns-in_ok-take_parts-in-Some-clause-opened : goal.returns-in_ok-take_parts-in-Some-clause-opened
returns-in_ok-take_parts-in-Some-clause-opened g c m i =
    let value =
    still_says g.met.W.Words.laws (λ m. Values c.args.trail.now.binds m false c.term.result c.in_ok-look.look)
    (loaded_twice g.met.W.Words.laws c.in_ok-count-in-Some.ensures.loaded c.in_ok-take_parts-in-Some.ensures.loaded)
    c.in_ok-look.ensures.value m i in
    let number =
    still_says g.met.W.Words.laws (λ m. m c.in-Some.at ≡ c.in_ok-count-in-Some.count) c.in_ok-take_parts-in-Some.ensures.loaded
    c.in_ok-count-in-Some.ensures.word m i in (
      c.in_ok-look.look,
      subst (λ (x : ℕ). Values c.args.trail.now.binds m false x c.in_ok-look.look) c.term.ensures value,
      record {
        at = c.in-Some.at;
        tuple = tuple_counted m c.args.parts c.in_ok-count-in-Some.count c.in_ok-look.look c.in-Some.at true (sym c.in-Some.ensures) number
            (sym c.is_count.ensures ∙ c.if-is_count.true);
        takes = c.in_ok-take_parts-in-Some.ensures.takes m i;
        number_seen = is_seen_on g.met.W.Words.laws c.in_ok-take_parts-in-Some.ensures.loaded c.in-Some.at
            (said_seen g.met.W.Words.laws c.in-Some.at c.in_ok-count-in-Some.count c.in_ok-count-in-Some.ensures.loaded.holds
            c.in_ok-count-in-Some.ensures.word);
        parts_seen = c.in_ok-take_parts-in-Some.ensures.seen;
      },
    )

pub returns-in_ok-take_parts-in-Some-clause-tame : goal.returns-in_ok-take_parts-in-Some-clause-tame
returns-in_ok-take_parts-in-Some-clause-tame g c =
    tame_later g.met.W.Words.laws
    (loaded_twice g.met.W.Words.laws
    (loaded_twice g.met.W.Words.laws c.in_ok-look.ensures.loaded c.in_ok-count-in-Some.ensures.loaded)
    c.in_ok-take_parts-in-Some.ensures.loaded)
    (c.take_parts.ensures.binds ∙ (c.word.ensures.binds ∙ c.deref.ensures.binds)) c.requires.tame

pub returns-in_ok-take_parts-in-Some-clause-lead : goal.returns-in_ok-take_parts-in-Some-clause-lead
returns-in_ok-take_parts-in-Some-clause-lead g c all =
    c.in_ok-take_parts-in-Some.ensures.lead (λ k. g.met.W.Words.laws.stays_leading _ _ _ c.word.ensures.between
    (g.met.W.Words.laws.stays_leading _ _ _ c.deref.ensures.between (all k)))

pub returns-else-is_count-clause-loaded : goal.returns-else-is_count-clause-loaded
returns-else-is_count-clause-loaded g c = loaded_twice g.met.W.Words.laws c.in_ok-look.ensures.loaded c.in_ok-count-in-Some.ensures.loaded

pub returns-else-is_count-clause-opened : goal.returns-else-is_count-clause-opened
returns-else-is_count-clause-opened g c m i =
    let value =
    still_says g.met.W.Words.laws (λ m. Values c.args.trail.now.binds m false c.term.result c.in_ok-look.look)
    c.in_ok-count-in-Some.ensures.loaded c.in_ok-look.ensures.value m i in (
      c.in_ok-look.look,
      subst (λ (x : ℕ). Values c.args.trail.now.binds m false x c.in_ok-look.look) c.term.ensures value,
      (
        tuple_counted m c.args.parts c.in_ok-count-in-Some.count c.in_ok-look.look c.in-Some.at false (sym c.in-Some.ensures)
            (c.in_ok-count-in-Some.ensures.word m i) (sym c.is_count.ensures ∙ c.if-is_count.false),
        refl,
      ),
    )

pub returns-else-is_count-clause-tame : goal.returns-else-is_count-clause-tame
returns-else-is_count-clause-tame g c =
    tame_later g.met.W.Words.laws (loaded_twice g.met.W.Words.laws c.in_ok-look.ensures.loaded c.in_ok-count-in-Some.ensures.loaded)
    (c.word.ensures.binds ∙ c.deref.ensures.binds) c.requires.tame

pub returns-else-is_count-clause-lead : goal.returns-else-is_count-clause-lead
returns-else-is_count-clause-lead g c all k =
    g.met.W.Words.laws.stays_leading _ _ _ c.word.ensures.between
    (g.met.W.Words.laws.stays_leading _ _ _ c.deref.ensures.between (all k))

pub returns-in-None-clause-opened : goal.returns-in-None-clause-opened
returns-in-None-clause-opened g c m i = (
  c.in_ok-look.look,
  subst (λ (x : ℕ). Values c.args.trail.now.binds m false x c.in_ok-look.look) c.term.ensures (c.in_ok-look.ensures.value m i),
  (no_tuple m c.args.parts c.in_ok-look.look (sym c.in-None.ensures), refl),
)

pub returns-in-None-clause-tame : goal.returns-in-None-clause-tame
returns-in-None-clause-tame g c = tame_later g.met.W.Words.laws c.in_ok-look.ensures.loaded c.deref.ensures.binds c.requires.tame
