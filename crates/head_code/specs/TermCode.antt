-- The code that puts terms and expressions into slots.
use Rattle.std.specs.Prelude.{ℕ, suc, ◌+◌, true, false, map, List, [], ◌∷◌, ◌++◌, None}
use Rattle.fcp_model.specs.Terms.{Term, number, string, nil, cons, tuple, var, ro, first, Terms, none, more}
use Rattle.fcp_model.specs.declared.term.Term as source
use Rattle.fcp_model.specs.Translation.{term_of, terms_of}
use Rattle.machine_code.specs.Instructions.{Op, PutVar, PutWord, PutCons, PutTuple}
use Rattle.machine_code.specs.Machine.{count}

-- the parts of a tuple that was read
abbrev pub parts_of : List source.Term → Terms ℕ
parts_of ts = terms_of (map term_of ts)

-- how many slots the parts of a term take, each one of its own
abbrev mutual
  pub width : Term ℕ → ℕ
  width (cons a b) = suc (suc (width a + width b))
  width (tuple ts) = count ts + widths ts
  width (number z) = 0
  width (string s) = 0
  width nil = 0
  width (var k) = 0
  width (ro k) = 0
  width (first k) = 0

  pub widths : Terms ℕ → ℕ
  widths none = 0
  widths (more t ts) = width t + widths ts

-- A term goes into slot i, parts before wholes: the parts of a pair or tuple into the slots from n on, theirs after them.
abbrev mutual
  pub put : ℕ → ℕ → Term ℕ → List Op
  put i n (number z) = PutWord i (number z) ∷ []
  put i n (string s) = PutWord i (string s) ∷ []
  put i n nil = PutWord i nil ∷ []
  put i n (var k) = PutVar i k false ∷ []
  put i n (ro k) = PutVar i k true ∷ []
  put i n (first k) = PutVar i k false ∷ []
  put i n (cons a b) = put n (suc (suc n)) a ++ (put (suc n) (suc (suc (n + width a))) b ++ PutCons i n (suc n) ∷ [])
  put i n (tuple ts) = puts n (n + count ts) ts ++ PutTuple i n (count ts) None ∷ []

  -- terms go into the slots from i on, their parts into those from n on
  pub puts : ℕ → ℕ → Terms ℕ → List Op
  puts i n none = []
  puts i n (more t ts) = put i n t ++ puts (suc i) (n + width t) ts
