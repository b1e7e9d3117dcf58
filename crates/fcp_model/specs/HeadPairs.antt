-- The pairs of a goal's arguments and a clause's head, with the marks of first occurrences.
use Rattle.std.specs.Prelude.{ℕ, max, List, [], ◌∷◌, if◌then◌else◌, nat_lt}
use Rattle.fcp_model.specs.Places.{Variable, own}
use Rattle.fcp_model.specs.Terms.{Term, number, string, nil, cons, tuple, var, ro, first, Terms, none, more, rename}
use Rattle.fcp_model.specs.Pair.{Pair}

-- what was marked, with the greatest variable met so far
pub record Marked (A : Type 0) : Type 0 where
  pub item : A
  pub met : ℕ

-- A variable is marked where it stands for the first time in the head, and there without `?`. Variables are numbered by
-- first occurrence in the clause, so it is the first time exactly where the number is above all that were met so far.
abbrev mutual
  pub mark : ℕ → Term ℕ → Marked (Term ℕ)
  mark met (var k) = record { item = if nat_lt met k then first k else var k; met = max met k }
  mark met (ro k) = record { item = ro k; met = max met k }
  mark met (first k) = record { item = first k; met = max met k }
  mark met (cons a b) = record { item = cons (mark met a).item (mark (mark met a).met b).item; met = (mark (mark met a).met b).met }
  mark met (tuple ts) = record { item = tuple (marks met ts).item; met = (marks met ts).met }
  mark met (number z) = record { item = number z; met = met }
  mark met (string s) = record { item = string s; met = met }
  mark met nil = record { item = nil; met = met }

  pub marks : ℕ → Terms ℕ → Marked (Terms ℕ)
  marks met none = record { item = none; met = met }
  marks met (more t ts) = record { item = more (mark met t).item (marks (mark met t).met ts).item; met = (marks (mark met t).met ts).met }

-- the pairs of the goal's arguments and the head's, from the left
abbrev pub head_pairs : ℕ → List (Term Variable) → List (Term ℕ) → List Pair
head_pairs met (t ∷ ts) (u ∷ us) = (t, rename own (mark met u).item) ∷ head_pairs (mark met u).met ts us
head_pairs met [] us = []
head_pairs met (t ∷ ts) [] = []
