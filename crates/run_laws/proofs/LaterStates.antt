-- One entry more, in any mode, changes no word: the words stand for the state with that entry too.
use Rattle.std.proofs.Common.{ℕ, suc, List, [], ◌∷◌, arith}
use Rattle.fcp_model.specs.States.{Process, Mode, State}
use Rattle.word_states.specs.Words.{Words}
use Rattle.word_states.specs.Standing.{Book, StandsFor}
use Rattle.word_states.specs.Going.{AllAt}
use Rattle.word_states.proofs.Persisting.{status_up}

pub later_stands : (book : Book) (w : Words) (s : State) (mode : Mode) → StandsFor book w s
    → StandsFor book w (record s { entries = suc s.entries; mode = mode })
later_stands book w s mode stands = record {
  places = stands.places;
  processes = stands.processes;
  once = stands.once;
  short = stands.short;
  shortened = stands.shortened;
  says = stands.says;
  process =
      λ p x h. let r = stands.process p x h in
      record {
        status = (r.status.0, r.status.1, status_up s.entries (suc s.entries) r.status.0 x.status (omega arith) r.status.2);
        name = r.name;
        goal = r.goal;
      };
  statuses = stands.statuses;
  lists = stands.lists;
  hangers = λ j a e zs h is c z k. let r = stands.hangers j a e zs h is c z k in let le = r.1 in (r.0, omega arith);
  hung = stands.hung;
  waits = stands.waits;
  own_free = stands.own_free;
  own_absent = stands.own_absent;
  dated_places = λ j a h. let le = stands.dated_places j a h in omega arith;
  dated_bound = λ j t e. let le = stands.dated_bound j t e in omega arith;
  dated_processes = λ p x h. let r = stands.dated_processes p x h in let le = r.0 in (omega arith, r.1);
}

-- and processes stand where they stood
pub later_all : (book : Book) (s : State) (mode : Mode) (as' : List ℕ) (xs : List Process) → AllAt book s as' xs
    → AllAt book (record s { entries = suc s.entries; mode = mode }) as' xs
later_all book s mode [] [] h = tt
later_all book s mode [] (x ∷ xs) h = absurd h
later_all book s mode (a ∷ as') [] h = absurd h
later_all book s mode (a ∷ as') (x ∷ xs) h = (h.0, later_all book s mode as' xs h.1)
