-- Whatever was read so far can be completed. `k` is what the last dot has.
use Rattle.std.proofs.Common.{◌≡◌, List, [], ◌∷◌, refl, ap, ◌∙◌, sym, Bool, false, ℕ}
use Rattle.std.specs.Prelude.{pos}
use Rattle.fcp_model.specs.declared.term.ArithOp.TheVariants.{Div}
use Rattle.fcp_model.specs.declared.term.CompareOp.TheVariants.{Less}
use Rattle.fcp_grammar.specs.declared.terminals.Terminal.TheVariants as terminal
use Rattle.fcp_grammar.specs.Terms.{full}
use Rattle.fcp_grammar.specs.Grammar.{Marked, Tree, int, call, nil, list, list_rest, braces, plain, spell, with_arguments}
use Rattle.fcp_grammar.specs.ExpressionGrammar.{Factor, leaf, group, one, only, sum_ops, spell_factor, spell_sum}
use Rattle.fcp_grammar.specs.ItemGrammar as G
use Rattle.fcp_grammar.specs.ItemGrammar.{ItemTree, sign_terminal, spell_item}
use Rattle.fcp_grammar.proofs.Partial as T
use Rattle.fcp_grammar.proofs.Partial.{Part, Last, wanted, opened, after, frames_of, so_far}
use Rattle.fcp_grammar.proofs.PartialExpressions.{Pending, Group, LeftPart, inside, no_left, left_compared, left_assigned, bare, ops_groups, ops_before, mark_at, terminals_level, terminals_groups, terminals_before, whole_tree, whole-terminals}
use Rattle.fcp_grammar.proofs.PartialItems.{PartItem, equal_to, summing, closed, item_so_far}

-- terminals that a completion needs: their numbers depend on nothing but the last dot's
pub data Simple (k : ℕ) : List Marked → Type 0 where
  done : Simple k []
  dot : Simple k (plain (terminal.Dot k) ∷ [])
  zero : (m : Bool) (ws : List Marked) → Simple k ws → Simple k ((terminal.Int (pos 0) 0, m) ∷ ws)
  round : (ws : List Marked) → Simple k ws → Simple k (plain terminal.RoundClose ∷ ws)
  square : (ws : List Marked) → Simple k ws → Simple k (plain terminal.SquareClose ∷ ws)
  curly : (ws : List Marked) → Simple k ws → Simple k (plain terminal.CurlyClose ∷ ws)
  less : (ws : List Marked) → Simple k ws → Simple k (plain (terminal.Compare Less) ∷ ws)
  equals : (ws : List Marked) → Simple k ws → Simple k (plain terminal.Equals ∷ ws)
  open_round : (ws : List Marked) → Simple k ws → Simple k (plain (terminal.RoundOpen 0) ∷ ws)
  open_square : (ws : List Marked) → Simple k ws → Simple k (plain (terminal.SquareOpen 0) ∷ ws)
  slash : (ws : List Marked) → Simple k ws → Simple k (plain (terminal.Operator Div 0) ∷ ws)

abbrev pub IsSimple : (List Marked → List Marked) → Type 0
IsSimple close = (k : ℕ) (rest : List Marked) → Simple k rest → Simple k (close rest)

-- `front` with these terminals behind it is the tree
pub record Finished (m : Bool) (front : List Marked → List Marked) : Type 0 where
  pub tree : Tree
  pub close : List Marked → List Marked
  pub simple : IsSimple close
  pub terminals : (rest : List Marked) → front (close rest) ≡ spell m tree rest

finish-stack : (m : Bool) (ps : List Part) (t : Tree) → Finished m (so_far m ps (after t))
unfolding full
finish-stack m [] t = record { tree = t; close = λ rest. rest; simple = λ k rest x. x; terminals = λ rest. refl }
finish-stack m (T.in_call s sp a o ts ∷ ps) t =
    let r = finish-stack m ps (call (with_arguments s sp a o ts t)) in
    record {
      tree = r.tree;
      close = λ rest. plain terminal.RoundClose ∷ r.close rest;
      simple = λ k rest x. round (r.close rest) (r.simple k rest x);
      terminals = r.terminals;
    }
finish-stack m (T.in_list a ts ∷ ps) t =
    let r = finish-stack m ps (list a ts t) in
    record {
      tree = r.tree;
      close = λ rest. plain terminal.SquareClose ∷ r.close rest;
      simple = λ k rest x. square (r.close rest) (r.simple k rest x);
      terminals = r.terminals;
    }
finish-stack m (T.in_rest a ts u ∷ ps) t =
    let r = finish-stack m ps (list_rest a ts u t) in
    record {
      tree = r.tree;
      close = λ rest. plain terminal.SquareClose ∷ r.close rest;
      simple = λ k rest x. square (r.close rest) (r.simple k rest x);
      terminals = r.terminals;
    }
finish-stack m (T.in_braces a ts ∷ ps) t =
    let r = finish-stack m ps (braces a ts t) in
    record {
      tree = r.tree;
      close = λ rest. plain terminal.CurlyClose ∷ r.close rest;
      simple = λ k rest x. curly (r.close rest) (r.simple k rest x);
      terminals = r.terminals;
    }

pub finish-term : (m : Bool) (ps : List Part) (last : Last) → Finished m (so_far m ps last)
finish-term m ps (after t) = finish-stack m ps t
finish-term m ps wanted =
    let r = finish-stack m ps (int (pos 0) 0) in
    record {
      tree = r.tree;
      close = λ rest. (terminal.Int (pos 0) 0, full m (frames_of ps)) ∷ r.close rest;
      simple = λ k rest x. zero (full m (frames_of ps)) (r.close rest) (r.simple k rest x);
      terminals = r.terminals;
    }
finish-term m ps (opened a) =
    let r = finish-stack m ps (nil a) in
    record {
      tree = r.tree;
      close = λ rest. plain terminal.SquareClose ∷ r.close rest;
      simple = λ k rest x. square (r.close rest) (r.simple k rest x);
      terminals = r.terminals;
    }

pub record FinishedItem (m : Bool) (front : List Marked → List Marked) : Type 0 where
  pub tree : ItemTree
  pub close : List Marked → List Marked
  pub simple : IsSimple close
  pub terminals : (rest : List Marked) → front (close rest) ≡ spell_item m tree rest

finish-left : (m : Bool) (left : LeftPart) (l : Pending) (f : Factor)
    → FinishedItem m (λ rest. terminals_before m left [] l (spell_factor (mark_at m left [] l) (ops_before left [] l) f rest))
finish-left m no_left l f = record {
  tree = G.compared (whole_tree l f) Less (only (one (leaf (int (pos 0) 0))));
  close = λ rest. plain (terminal.Compare Less) ∷ (terminal.Int (pos 0) 0, false) ∷ rest;
  simple = λ k rest x. less ((terminal.Int (pos 0) 0, false) ∷ rest) (zero false rest x);
  terminals = λ rest. sym (whole-terminals m no_left [] l 0 f (plain (terminal.Compare Less) ∷ (terminal.Int (pos 0) 0, false) ∷ rest));
}
finish-left m (left_compared c op) l f = record {
  tree = G.compared c op (whole_tree l f);
  close = λ rest. rest;
  simple = λ k rest x. x;
  terminals =
      λ rest. ap (λ ws. spell_sum m 0 c (plain (terminal.Compare op) ∷ ws))
      (sym (whole-terminals m (left_compared c op) [] l (sum_ops 0 c) f rest));
}
finish-left m (left_assigned t) l f = record {
  tree = G.assigned t (whole_tree l f);
  close = λ rest. rest;
  simple = λ k rest x. x;
  terminals = λ rest. ap (λ ws. spell m t (plain terminal.Assign ∷ ws)) (sym (whole-terminals m (left_assigned t) [] l 0 f rest));
}

finish-groups : (m : Bool) (left : LeftPart) (gs : List Group) (l : Pending) (f : Factor)
    → FinishedItem m (λ rest. terminals_before m left gs l (spell_factor (mark_at m left gs l) (ops_before left gs l) f rest))
finish-groups m left [] l f = finish-left m left l f
finish-groups m left (inside k o ∷ gs) l f =
    let r = finish-groups m left gs k (group o (whole_tree l f)) in
    record {
      tree = r.tree;
      close = λ rest. plain terminal.RoundClose ∷ r.close rest;
      simple = λ k rest x. round (r.close rest) (r.simple k rest x);
      terminals =
          λ rest. ap (λ ws. terminals_groups m left gs
          (terminals_level (mark_at m left gs bare) (ops_groups left gs) k ((terminal.RoundOpen o, mark_at m left gs k) ∷ ws)))
          (sym (whole-terminals m left (inside k o ∷ gs) l (ops_before left gs k) f (plain terminal.RoundClose ∷ r.close rest)))
          ∙ r.terminals rest;
    }

pub finish-item : (m : Bool) (part : PartItem) → FinishedItem m (item_so_far m part)
finish-item m (equal_to t sign ps last) =
    let r = finish-term false ps last in
    record {
      tree = G.equal t sign r.tree;
      close = r.close;
      simple = r.simple;
      terminals = λ rest. ap (λ ws. spell m t (plain (sign_terminal sign) ∷ ws)) (r.terminals rest);
    }
finish-item m (summing left gs l ps last) =
    let r = finish-term (mark_at m left gs l) ps last in
    let q = finish-groups m left gs l (leaf r.tree) in
    record {
      tree = q.tree;
      close = λ rest. r.close (q.close rest);
      simple = λ k rest x. r.simple k (q.close rest) (q.simple k rest x);
      terminals = λ rest. ap (terminals_before m left gs l) (r.terminals (q.close rest)) ∙ q.terminals rest;
    }
finish-item m (closed left gs l o e) = finish-groups m left gs l (group o e)
