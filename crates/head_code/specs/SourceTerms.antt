-- Terms as modules give them: marks of first occurrences stand in none.
use Rattle.std.specs.Prelude.{ℕ}
use Rattle.fcp_model.specs.Terms.{Term, number, string, nil, cons, tuple, var, ro, first, Terms, none, more}

abbrev mutual
  pub IsSourceTerm : Term ℕ → Type 0
  IsSourceTerm (first k) = ⊥
  IsSourceTerm (cons a b) = IsSourceTerm a × IsSourceTerm b
  IsSourceTerm (tuple ts) = AreSourceTerms ts
  IsSourceTerm (number z) = Unit {0}
  IsSourceTerm (string s) = Unit {0}
  IsSourceTerm nil = Unit {0}
  IsSourceTerm (var k) = Unit {0}
  IsSourceTerm (ro k) = Unit {0}

  pub AreSourceTerms : Terms ℕ → Type 0
  AreSourceTerms none = Unit {0}
  AreSourceTerms (more t ts) = IsSourceTerm t × AreSourceTerms ts
