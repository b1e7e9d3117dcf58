use Rattle.std.proofs.Common.{◌≡◌, ◌⊎◌, ℕ, drop}
use Rattle.word_states.specs.Words.{IsIn}
use Rattle.commit_engine.specs.Holding.{IsQuiet}
use Rattle.commit_engine.proofs.making.prime_all.Given as goal

abbrev pub invariant-loop-at : goal.invariant-loop-at
invariant-loop-at g l = record {
  is_sound : g.H.Words.sound l.hall;
  quiet : IsQuiet g.H.Hall.page_count g.H.Hall.due g.H.Hall.purse g.H.Hall.spare g.H.Hall.silent l.fn.hall l.hall;
  same : (p : ℕ) → g.H.Hall.holds l.hall p ≡ g.H.Hall.holds l.fn.hall p;
  still : (a x : ℕ) → g.H.Hall.stands l.fn.hall a x → g.H.Hall.stands l.hall a x;
  looks : g.H.Hall.takes l.hall ≡ g.H.Hall.takes l.fn.hall;
  done : (a : ℕ) → IsIn a l.places → g.H.Hall.primed l.hall a 0 ⊎ IsIn a (drop l.at l.places);
}
