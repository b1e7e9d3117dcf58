-- Limits: runs that end at their commits, their moves or their cells.
use Rattle.std.specs.Prelude.{List, [], ◌∷◌, codes}
use Rattle.fcp_model.specs.declared.run.Limits.{Limits}
use Rattle.fcp_model.specs.declared.run.Outcome.TheVariants.{Budget, Full}
use Rattle.fcp_model.specs.Terms.{cons, var, ro}
use Rattle.fcp_model.specs.Programs.{user, unifies, Program}
use Rattle.fcp_model.specs.Spelling.{Bytes}
use Rattle.fcp_rows.specs.Examples.{Example, a, p, q, X, L, fact, rule, procedure, wide, Prints}

-- `p :- p.` with the goal `p`, and limits
abbrev pub looping : Limits → Example
looping limits =
    record {
      program = procedure p 0 (rule 0 [] [] (user 0 [] ∷ []) ∷ []) ∷ [];
      variables = [];
      goal = user 0 [] ∷ [];
      limits = limits;
      controls = [];
    }

-- five commits
abbrev pub a_run_ends_at_its_commits : Type 0
a_run_ends_at_its_commits = Prints (looping (record wide { commits = 5 })) Budget (
    codes "logix log 1"
    ∷ codes "1 commit #0.1 1"
    ∷ codes "2 commit #1.1 1"
    ∷ codes "3 commit #2.1 1"
    ∷ codes "4 commit #3.1 1"
    ∷ codes "5 commit #4.1 1"
    ∷ codes "end 5"
    ∷ codes "outcome budget"
    ∷ [])

-- no commit
abbrev pub no_commit_is_no_entry : Type 0
no_commit_is_no_entry = Prints (looping (record wide { commits = 0 })) Budget (
    codes "logix log 1"
    ∷ codes "end 0"
    ∷ codes "outcome budget"
    ∷ [])

-- no move
abbrev pub no_move_is_no_entry : Type 0
no_move_is_no_entry = Prints (looping (record wide { moves = 0 })) Budget (
    codes "logix log 1"
    ∷ codes "end 0"
    ∷ codes "outcome budget"
    ∷ [])

-- `p(X) :- X = [a|Y], p(Y).`
abbrev pub endless_list : Program
endless_list = procedure p 1 (rule 2 (var 1 ∷ []) [] (unifies (var 1) (cons a (var 2)) ∷ user 0 (var 2 ∷ []) ∷ []) ∷ []) ∷ []

-- that program with the goal `p(L)` and 100 cells
abbrev pub hundred_cells : Example
hundred_cells =
    record {
      program = endless_list;
      variables = L ∷ [];
      goal = user 0 (var 1 ∷ []) ∷ [];
      limits = record wide { cells = 100 };
      controls = [];
    }

-- the report of the run, line by line
abbrev pub hundred_cells_report : List Bytes
hundred_cells_report =
    codes "logix log 1"
    ∷ codes "1 commit #0.1 1"
    ∷ codes "2 commit #1.1 0 _0.1=[a|_1.2]"
    ∷ codes "3 commit #1.2 1"
    ∷ codes "4 commit #3.1 0 _1.2=[a|_3.2]"
    ∷ codes "5 commit #3.2 1"
    ∷ codes "6 commit #5.1 0 _3.2=[a|_5.2]"
    ∷ codes "7 commit #5.2 1"
    ∷ codes "8 commit #7.1 0 _5.2=[a|_7.2]"
    ∷ codes "9 commit #7.2 1"
    ∷ codes "10 commit #9.1 0 _7.2=[a|_9.2]"
    ∷ codes "end 10"
    ∷ codes "outcome full"
    ∷ codes "L = [a,a,a,a,a|_9.2]"
    ∷ []

-- a commit of p has 18 cells and one of `=` has 1, so that after five of each, with 95 cells, the next one has too many
abbrev pub a_run_ends_at_its_cells : Type 0
a_run_ends_at_its_cells = Prints hundred_cells Full hundred_cells_report

-- `p :- q, q, q.` and `q :- q.` with the goal `p, q` and 10 cells
abbrev pub a_large_and_a_small_one : Example
a_large_and_a_small_one = record {
  program =
      procedure p 0 (rule 0 [] [] (user 1 [] ∷ user 1 [] ∷ user 1 [] ∷ []) ∷ [])
      ∷ procedure q 0 (rule 0 [] [] (user 1 [] ∷ []) ∷ [])
      ∷ [];
  variables = [];
  goal = user 0 [] ∷ user 1 [] ∷ [];
  limits = record wide { cells = 10 };
  controls = [];
}

-- a commit of p has 12 cells and goes to the back; one of q has 4 and fits twice, until 2 are left
abbrev pub a_smaller_entry_still_fits : Type 0
a_smaller_entry_still_fits = Prints a_large_and_a_small_one Full (
    codes "logix log 1"
    ∷ codes "1 commit #0.2 1"
    ∷ codes "2 commit #1.1 1"
    ∷ codes "end 2"
    ∷ codes "outcome full"
    ∷ [])

-- `p(a).` with the goal `p(X?)` and 2 cells: the hang on one place has 3
abbrev pub a_hang_lacks_its_cells : Type 0
a_hang_lacks_its_cells = Prints (record {
  program = procedure p 1 (fact 0 (a ∷ []) ∷ []) ∷ [];
  variables = X ∷ [];
  goal = user 0 (ro 1 ∷ []) ∷ [];
  limits = record wide { cells = 2 };
  controls = [];
}) Full (
    codes "logix log 1"
    ∷ codes "end 0"
    ∷ codes "outcome full"
    ∷ codes "X = _0.1"
    ∷ [])
