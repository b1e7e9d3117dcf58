-- The text of a term at run time, by value and cut after a number of nodes.
use Rattle.std.specs.Prelude.{ℕ, zero, suc, ◌++◌, List, Option, Some, None, option_map, codes}
use Rattle.std.specs.Fmt.{signed_decimal}
use Rattle.fcp_model.specs.Places.{Variable}
use Rattle.fcp_model.specs.Terms.{Term, number, string, nil, cons, tuple, Terms, none, more, Bindings}
use Rattle.fcp_model.specs.Value.{Look, writable, read_only, solid, value}
use Rattle.fcp_model.specs.Spelling.{Bytes, string_text, name_at, variable_text}

-- a text, and the nodes that are left behind it
pub record Written : Type 0 where
  pub text : Bytes
  pub left : ℕ

-- this text, with so many nodes left
abbrev pub written : Bytes → ℕ → Option Written
written bs left = Some (record { text = bs; left = left })

-- with text before it
abbrev pub behind : Bytes → Option Written → Option Written
behind bs None = None
behind bs (Some w) = written (bs ++ w.text) w.left

-- with text behind it
abbrev pub before : Bytes → Option Written → Option Written
before bs None = None
before bs (Some w) = written (w.text ++ bs) w.left

-- one text, and then the one that follows with the nodes left
abbrev pub and_then : Option Written → (ℕ → Option Written) → Option Written
and_then None next = None
and_then (Some w) next = behind w.text (next w.left)

-- the text of a value without parts, or None for a pair or a tuple
abbrev pub leaf_text : List Bytes → Look → Option Bytes
leaf_text names (writable p) = Some (variable_text p)
leaf_text names (read_only p) = Some (variable_text p ++ codes "?")
leaf_text names (solid (number z)) = Some (signed_decimal z)
leaf_text names (solid (string s)) = Some (string_text (name_at names s))
leaf_text names (solid nil) = Some (codes "[]")
leaf_text names (solid _) = None

-- the string that a term's value is
abbrev pub string_of : Option Look → Option ℕ
string_of (Some (solid (string s))) = Some s
string_of _ = None

-- Whatever is reached costs one node, a list's rest and its end too. Where none is left, `..` stands for the term. `n`
-- bounds the steps.
abbrev mutual
  pub term_text : ℕ → List Bytes → Bindings → ℕ → Term Variable → Option Written
  term_text zero names s left t = None
  term_text (suc n) names s zero t = written (codes "..") 0
  term_text (suc n) names s (suc left) t = elim (value n s t) [ None ↦ None | Some l ↦ look_text n names s left l (leaf_text names l) ]

  -- a value that took its node
  pub look_text : ℕ → List Bytes → Bindings → ℕ → Look → Option Bytes → Option Written
  look_text n names s left l (Some bs) = written bs left
  look_text zero names s left l None = None
  look_text (suc n) names s left (solid (cons a b)) None = behind (codes "[") (and_then (term_text n names s left a) (λ k. rest_text n names s k b))
  look_text (suc n) names s left (solid (tuple ts)) None = tuple_text n names s left ts
  look_text (suc n) names s left _ None = None

  -- the rest of a list, up to its `]`
  pub rest_text : ℕ → List Bytes → Bindings → ℕ → Term Variable → Option Written
  rest_text zero names s left t = None
  rest_text (suc n) names s zero t = written (codes "|..]") 0
  rest_text (suc n) names s (suc left) t = elim (value n s t) [ None ↦ None | Some l ↦ rest_on n names s left t l ]

  pub rest_on : ℕ → List Bytes → Bindings → ℕ → Term Variable → Look → Option Written
  rest_on zero names s left t l = None
  rest_on (suc n) names s left t (solid nil) = written (codes "]") left
  rest_on (suc n) names s left t (solid (cons a b)) = behind (codes ",") (and_then (term_text n names s left a) (λ k. rest_text n names s k b))
  rest_on (suc n) names s left t l = behind (codes "|") (before (codes "]") (term_text n names s (suc left) t))

  -- a tuple whose first part is a string and that has more is written `f(A,B)`, where a node is left for that string
  pub tuple_text : ℕ → List Bytes → Bindings → ℕ → Terms Variable → Option Written
  tuple_text zero names s left ts = None
  tuple_text (suc n) names s (suc left) (more t (more u us)) = elim (string_of (value n s t)) [
    | Some c ↦ behind (string_text (name_at names c) ++ codes "(") (before (codes ")") (parts_text n names s left u us))
    | None ↦ behind (codes "{") (before (codes "}") (parts_text n names s (suc left) t (more u us)))
  ]
  tuple_text (suc n) names s zero (more t ts) = behind (codes "{") (before (codes "}") (parts_text n names s zero t ts))
  tuple_text (suc n) names s (suc left) (more t none) = behind (codes "{") (before (codes "}") (parts_text n names s (suc left) t none))
  tuple_text (suc n) names s left none = written (codes "{}") left

  -- parts, with commas between
  pub parts_text : ℕ → List Bytes → Bindings → ℕ → Term Variable → Terms Variable → Option Written
  parts_text zero names s left t ts = None
  parts_text (suc n) names s left t none = term_text n names s left t
  parts_text (suc n) names s left t (more u us) = and_then (before (codes ",") (term_text n names s left t)) (λ k. parts_text n names s k u us)

-- the text of a term, cut after so many nodes, or None where n steps are too few
abbrev pub cut_text : ℕ → List Bytes → Bindings → ℕ → Term Variable → Option Bytes
cut_text n names s nodes t = option_map (λ (w : Written). w.text) (term_text n names s nodes t)
