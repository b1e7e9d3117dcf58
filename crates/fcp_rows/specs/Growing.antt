-- A program that grows streams, merges them and sums the result.
use Rattle.std.specs.Prelude.{List, [], ◌∷◌, pos}
use Rattle.fcp_model.specs.declared.run.Entry.{Entry}
use Rattle.fcp_model.specs.declared.run.Entry.TheVariants.{Commit}
use Rattle.fcp_model.specs.declared.run.Outcome.TheVariants.{Terminated}
use Rattle.fcp_model.specs.Places.{proc}
use Rattle.fcp_model.specs.declared.term.ArithOp.TheVariants.{Add}
use Rattle.fcp_model.specs.declared.term.CompareOp.TheVariants.{AtMost, Greater}
use Rattle.fcp_model.specs.Terms.{number, nil, cons, var, ro}
use Rattle.fcp_model.specs.Value.{solid}
use Rattle.fcp_model.specs.Expressions.{leaf, op}
use Rattle.fcp_model.specs.Tests.{ordered}
use Rattle.fcp_model.specs.Programs.{user, true', assigns, Program}
use Rattle.fcp_rows.specs.Examples.{p, q, r, S, int, fact, rule, procedure, Example, example, Logs}

-- Four procedures, by number 0 to 3:
--   main(N,S) :- gen(1,N,A), gen(1,N,B), merge(A?,B?,C), sum(C?,0,S).
--   gen(I,N,[I|R]) :- I =< N | J := I + 1, gen(J?,N,R).
--   gen(I,N,[]) :- I > N | true.
--   merge([X|Xs],Ys,[X|Zs]) :- merge(Xs?,Ys,Zs).
--   merge(Xs,[Y|Ys],[Y|Zs]) :- merge(Xs,Ys?,Zs).
--   merge([],[],[]).
--   sum([X|Xs],A,S) :- B := A + X, sum(Xs?,B?,S).
--   sum([],A,A).
abbrev pub growing : Program
growing =
    procedure p 2 (rule 5 (var 1 ∷ var 2 ∷ []) [] (
    user 1 (int 1 ∷ var 1 ∷ var 3 ∷ [])
    ∷ user 1 (int 1 ∷ var 1 ∷ var 4 ∷ [])
    ∷ user 2 (ro 3 ∷ ro 4 ∷ var 5 ∷ [])
    ∷ user 3 (ro 5 ∷ int 0 ∷ var 2 ∷ [])
    ∷ []) ∷ [])
    ∷ procedure q 3 (
    rule 4 (var 1 ∷ var 2 ∷ cons (var 1) (var 3) ∷ []) (ordered AtMost (leaf (var 1)) (leaf (var 2)) ∷ []) (
    assigns (var 4) (op Add (leaf (var 1)) (leaf (int 1))) ∷ user 1 (ro 4 ∷ var 2 ∷ var 3 ∷ []) ∷ [])
    ∷ rule 2 (var 1 ∷ var 2 ∷ nil ∷ []) (ordered Greater (leaf (var 1)) (leaf (var 2)) ∷ []) (true' ∷ [])
    ∷ [])
    ∷ procedure r 3 (
    rule 4 (cons (var 1) (var 2) ∷ var 3 ∷ cons (var 1) (var 4) ∷ []) [] (user 2 (ro 2 ∷ var 3 ∷ var 4 ∷ []) ∷ [])
    ∷ rule 4 (var 1 ∷ cons (var 2) (var 3) ∷ cons (var 2) (var 4) ∷ []) [] (user 2 (var 1 ∷ ro 3 ∷ var 4 ∷ []) ∷ [])
    ∷ fact 0 (nil ∷ nil ∷ nil ∷ [])
    ∷ [])
    ∷ procedure p 3 (
    rule 5 (cons (var 1) (var 2) ∷ var 3 ∷ var 4 ∷ []) [] (
    assigns (var 5) (op Add (leaf (var 3)) (leaf (var 1))) ∷ user 3 (ro 2 ∷ ro 5 ∷ var 4 ∷ []) ∷ [])
    ∷ fact 1 (nil ∷ var 1 ∷ var 1 ∷ [])
    ∷ [])
    ∷ []

-- the goal `main(1,S)`
abbrev pub two_streams : Example
two_streams = example growing (S ∷ []) (user 0 (int 1 ∷ var 1 ∷ []) ∷ [])

-- the entries of the run
abbrev pub two_streams_log : List Entry
two_streams_log =
    Commit (proc 0 1) 1
    ∷ Commit (proc 1 1) 1
    ∷ Commit (proc 1 2) 1
    ∷ Commit (proc 1 3) 1
    ∷ Commit (proc 1 4) 1
    ∷ Commit (proc 2 1) 0
    ∷ Commit (proc 2 2) 2
    ∷ Commit (proc 3 1) 0
    ∷ Commit (proc 3 2) 2
    ∷ Commit (proc 4 1) 2
    ∷ Commit (proc 5 1) 0
    ∷ Commit (proc 5 2) 1
    ∷ Commit (proc 7 1) 0
    ∷ Commit (proc 9 1) 0
    ∷ Commit (proc 10 1) 3
    ∷ Commit (proc 12 1) 0
    ∷ Commit (proc 12 2) 2
    ∷ []

-- seventeen commits, after which S is 2
abbrev pub two_streams_are_merged_and_summed : Type 0
two_streams_are_merged_and_summed = Logs two_streams Terminated two_streams_log (solid (number (pos 2)))
