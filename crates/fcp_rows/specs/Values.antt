-- How values are written: calls, quoted strings, and cuts.
use Rattle.std.specs.Prelude.{◌≡◌, ℕ, [], ◌∷◌, Some, codes}
use Rattle.fcp_model.specs.declared.run.Outcome.TheVariants.{Terminated}
use Rattle.fcp_model.specs.Places.{placed}
use Rattle.fcp_model.specs.Terms.{Term, string, nil, cons, tuple, var, none, more, rename}
use Rattle.fcp_model.specs.Programs.{user, unifies}
use Rattle.fcp_model.specs.Spelling.{Bytes}
use Rattle.fcp_model.specs.TermText.{cut_text}
use Rattle.fcp_rows.specs.Examples.{names, a, b, it's_so, f, p, X, Y, int, fact, procedure, example, Prints}

-- the goal `X = {Y,1}, Y = f`: once Y is bound to a string, the tuple is written as a call
abbrev pub a_tuple_is_a_call_by_its_first_value : Type 0
a_tuple_is_a_call_by_its_first_value = Prints (example [] (X ∷ Y ∷ [])
    (unifies (var 1) (tuple (more (var 2) (more (int 1) none))) ∷ unifies (var 2) (string 3) ∷ [])) Terminated (
    codes "logix log 1"
    ∷ codes "1 commit #0.1 0 _0.1={_0.2,1}"
    ∷ codes "2 commit #0.2 0 _0.2=f"
    ∷ codes "end 2"
    ∷ codes "outcome terminated"
    ∷ codes "X = f(1)"
    ∷ codes "Y = f"
    ∷ [])

-- `p('it''s so').` with the goal `p(X)`
abbrev pub a_string_is_quoted : Type 0
a_string_is_quoted = Prints (example (procedure p 1 (fact 0 (it's_so ∷ []) ∷ []) ∷ []) (X ∷ []) (user 0 (var 1 ∷ []) ∷ [])) Terminated (
    codes "logix log 1"
    ∷ codes "1 commit #0.1 1 _0.1='it''s so'"
    ∷ codes "end 1"
    ∷ codes "outcome terminated"
    ∷ codes "X = 'it''s so'"
    ∷ [])

-- the term, cut after so many nodes, has this text
abbrev pub IsCutTo : Term ℕ → ℕ → Bytes → Type 0
IsCutTo t nodes text = (n : ℕ) × (cut_text n names [] nodes (rename (placed 0) t) ≡ Some text)

-- `[f(a),b]`
abbrev pub short_list : Term ℕ
short_list = cons (f a) (cons b nil)

-- That list at each number of nodes. The pair takes one, `f(a)` three, the second pair, `b` and the end one each; where
-- none is left for the string `f`, the tuple is not written as a call.
pub record a_list_is_cut : Type 0 where
  pub none_left : IsCutTo short_list 0 (codes "..")
  pub one : IsCutTo short_list 1 (codes "[..|..]")
  pub two : IsCutTo short_list 2 (codes "[{..,..}|..]")
  pub three : IsCutTo short_list 3 (codes "[f(..)|..]")
  pub four : IsCutTo short_list 4 (codes "[f(a)|..]")
  pub five : IsCutTo short_list 5 (codes "[f(a),..|..]")
  pub six : IsCutTo short_list 6 (codes "[f(a),b|..]")
  pub seven : IsCutTo short_list 7 (codes "[f(a),b]")
