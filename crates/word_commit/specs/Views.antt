-- What seats know of a store, and how each step changes it.
use Rattle.std.specs.Prelude.{ℕ, zero, suc, ◌+◌, ◌-◌, ◌*◌, ◌/◌, max, ◌==◌, List, [], ◌∷◌, ◌++◌, Bool, true, false}
use Rattle.std.specs.Prelude.{if◌then◌else◌, nat_lt, slice_index}
use Rattle.word_commit.specs.declared.view.View.{View}
use Rattle.word_commit.specs.declared.view.Grip.{Grip}
use Rattle.word_commit.specs.declared.view.Purse.{Purse}
use Rattle.word_commit.specs.declared.view.Given.{Given}
use Rattle.word_commit.specs.declared.view.Look.{Look}
use Rattle.word_commit.specs.declared.view.Look.TheVariants.{Cell, Page, Clock}
use Rattle.word_commit.specs.declared.quota.Quota.{Quota}
use Rattle.word_commit.specs.Meanings.{Wording, Meaning}
use Rattle.word_commit.specs.Histories.{start_of}

-- what is counted: commits, moves, cells, and entries that cost no move
pub data Charge : Type 0 where
  Commits : Charge
  Moves : Charge
  Cells : Charge
  Extra : Charge

-- what a cost takes of each
abbrev pub price : Charge → Quota → ℕ
price Commits q = q.commits
price Moves q = q.moves
price Cells q = q.cells
price Extra q = if q.moves == 0 then 1 else 0

-- what a seat has left of each
abbrev pub left : Charge → Purse → ℕ
left Commits p = p.commits
left Moves p = p.moves
left Cells p = p.cells
left Extra p = p.extra

-- what the store was made with of each
abbrev pub granted : Charge → Given → ℕ
granted Commits g = g.quota.commits
granted Moves g = g.quota.moves
granted Cells g = g.quota.cells
granted Extra g = g.extra

-- all rights together: who has them is the only seat left
abbrev pub all_rights : ℕ
all_rights = 1048576

-- whether the page stands in the list
abbrev pub is_in : ℕ → List ℕ → Bool
is_in p [] = false
is_in p (q ∷ qs) = if q == p then true else is_in p qs

-- how often the number stands in the list
abbrev pub times : ℕ → List ℕ → ℕ
times n [] = 0
times n (q ∷ qs) = if q == n then suc (times n qs) else times n qs

-- the list without the page
abbrev pub without : ℕ → List ℕ → List ℕ
without p [] = []
without p (q ∷ qs) = if q == p then without p qs else (q ∷ without p qs)

-- the words that lie outside the page
abbrev pub outside : ℕ → List (ℕ × ℕ) → List (ℕ × ℕ)
outside p [] = []
outside p (x ∷ xs) = if x.0 / 1024 == p then outside p xs else (x ∷ outside p xs)

-- the words at other addresses
abbrev pub elsewhere : ℕ → List (ℕ × ℕ) → List (ℕ × ℕ)
elsewhere a [] = []
elsewhere a (x ∷ xs) = if x.0 == a then elsewhere a xs else (x ∷ elsewhere a xs)

-- all but the first
abbrev pub rest : List (ℕ × ℕ) → List (ℕ × ℕ)
rest [] = []
rest (x ∷ xs) = xs

-- the words that were loaded at known addresses, the last one first
abbrev pub shown : List Look → List (ℕ × ℕ)
shown [] = []
shown (Cell a x known held ∷ ls) = if known then ((a, x) ∷ shown ls) else shown ls
shown (Page p x ∷ ls) = shown ls
shown (Clock n ∷ ls) = shown ls

module _ (m : Wording) where
  -- whether one of the tops that were shown is above the address
  abbrev pub is_below : ℕ → List (ℕ × ℕ) → Bool
  is_below a [] = false
  is_below a (x ∷ xs) = if x.0 == start_of a then (if nat_lt a (m.top x.1) then true else is_below a xs) else is_below a xs

  -- The known addresses: a page's first, those below a top that was shown, and those to which words that were shown refer.
  abbrev pub is_known : List (ℕ × ℕ) → ℕ → Bool
  is_known xs a = if a == start_of a then true else (if is_below a xs then true else m.refers xs a)

  -- the top last shown of the page that begins there, or else this one
  abbrev pub last_top : ℕ → ℕ → List (ℕ × ℕ) → ℕ
  last_top start given [] = given
  last_top start given (x ∷ xs) = if x.0 == start then m.top x.1 else last_top start given xs

  -- the sum of the tops last shown of the first pages, each where none was shown the one of the words given
  abbrev pub shown_tops : ℕ → List ℕ → List (ℕ × ℕ) → ℕ
  shown_tops zero first xs = 0
  shown_tops (suc p) first xs = last_top (1024 * p) (m.top (slice_index first (1024 * p))) xs + shown_tops p first xs

-- a word was found, in a page that is held or not
abbrev pub gripped : Grip → ℕ → ℕ → Grip
gripped g a x = if is_in (a / 1024) g.held then (record g { known = (a, x) ∷ g.known }) else g

-- what is left after an entry of this cost
abbrev pub paid : Purse → Quota → Purse
paid p q = record {
  commits = p.commits - q.commits;
  moves = p.moves - q.moves;
  cells = p.cells - q.cells;
  extra = p.extra - price Extra q;
  rights = p.rights;
}

module _ {E : Type 0} where
  -- the view of the first seat
  abbrev pub first_view : Given → View E
  first_view g = record {
    entries = [];
    front = 0;
    looks = [];
    grip = record { held = []; known = []; due = [] };
    purse = record { commits = g.quota.commits; moves = g.quota.moves; cells = g.quota.cells; extra = g.extra; rights = all_rights };
  }

  -- a load found this word
  abbrev pub loaded : Meaning E → View E → ℕ → ℕ → View E
  loaded m v a x = record v {
    looks = Cell a x (is_known m.words (shown v.looks) a) (is_in (a / 1024) v.grip.held) ∷ v.looks;
    grip = gripped v.grip a x;
  }

  -- a take found this word in the page's place
  abbrev pub took : View E → ℕ → ℕ → View E
  took v p x = record v { looks = Page p x ∷ v.looks; grip = record v.grip { held = if x == 0 then (p ∷ v.grip.held) else v.grip.held } }

  -- the page is given, and with it what was known of its words
  abbrev pub gave : View E → ℕ → View E
  gave v p = record v { grip = record v.grip { held = without p v.grip.held; known = outside p v.grip.known } }

  -- a word was written above a top
  abbrev pub primed : View E → ℕ → ℕ → View E
  primed v a x = record v { grip = record v.grip { known = (a, x) ∷ elsewhere a v.grip.known } }

  -- the first of the words to publish was written
  abbrev pub published : View E → ℕ → ℕ → View E
  published v a x = record v { grip = record v.grip { known = (a, x) ∷ elsewhere a v.grip.known; due = rest v.grip.due } }

  -- all of these words were written
  abbrev pub all_published : View E → List (ℕ × ℕ) → View E
  all_published v [] = v
  all_published v (x ∷ xs) = all_published (published v x.0 x.1) xs

  -- the clock was found to be this number
  abbrev pub clocked : View E → ℕ → View E
  clocked v n = record v { looks = Clock n ∷ v.looks; front = n }

  -- an entry got this number
  abbrev pub stamped : Meaning E → View E → E → ℕ → View E
  stamped m v e n = record v {
    entries = v.entries ++ record { number = n; entry = e } ∷ [];
    front = n;
    grip = record v.grip { due = m.writes e n };
    purse = paid v.purse (m.cost e);
  }

  -- what is left of a view of which a seat was shared with this quota
  abbrev pub shared : View E → Quota → View E
  shared v q = record v {
    purse = record {
      commits = v.purse.commits - q.commits;
      moves = v.purse.moves - q.moves;
      cells = v.purse.cells - q.cells;
      extra = v.purse.extra;
      rights = v.purse.rights - 1;
    };
  }

  -- the view of that seat
  abbrev pub part : View E → Quota → View E
  part v q = record {
    entries = [];
    front = v.front;
    looks = [];
    grip = record { held = []; known = []; due = [] };
    purse = record { commits = q.commits; moves = q.moves; cells = q.cells; extra = 0; rights = 1 };
  }

  -- a view that took in another's entries, quota and rights
  abbrev pub joined : View E → View E → View E
  joined v w = record v {
    entries = v.entries ++ w.entries;
    front = max v.front w.front;
    purse = record {
      commits = v.purse.commits + w.purse.commits;
      moves = v.purse.moves + w.purse.moves;
      cells = v.purse.cells + w.purse.cells;
      extra = v.purse.extra + w.purse.extra;
      rights = v.purse.rights + w.purse.rights;
    };
  }

  -- what is left of the other
  abbrev pub spent : View E
  spent = record {
    entries = [];
    front = 0;
    looks = [];
    grip = record { held = []; known = []; due = [] };
    purse = record { commits = 0; moves = 0; cells = 0; extra = 0; rights = 0 };
  }
