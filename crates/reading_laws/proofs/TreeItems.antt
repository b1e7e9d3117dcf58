-- What a small item says has a tree that spells its pieces.
use Rattle.std.proofs.Common.{◌≡◌, ℕ, ◌+◌, ◌≤◌, true, ◌&&◌, List, [], ◌∷◌, ◌++◌, refl, ap, ap₂, ◌∙◌, sym, arith, length, nat_le}
use Rattle.std.proofs.lemmas.Bool.Decides.{nat_tests}
use Rattle.fcp_model.specs.declared.names.Sym.{Sym}
use Rattle.fcp_model.specs.declared.term.Term.{Term}
use Rattle.fcp_model.specs.declared.term.CompareOp.{CompareOp}
use Rattle.fcp_model.specs.declared.term.Expr.{Expr}
use Rattle.fcp_model.specs.declared.source.Call.{Call}
use Rattle.fcp_model.specs.declared.source.Call.TheVariants.{User, Unify, Assign, Same, NotSame, Compare}
use Rattle.fcp_model.specs.Spelling.{name_at}
use Rattle.fcp_text.specs.Bytes.{Text}
use Rattle.fcp_grammar.specs.declared.sides.TermSign.{TermSign}
use Rattle.fcp_grammar.specs.declared.sides.TermSign.TheVariants as sign
use Rattle.fcp_grammar.specs.Grammar.{Marked, Tree, value, name_alone, with_arguments}
use Rattle.fcp_grammar.specs.ExpressionGrammar.{sum_ops}
use Rattle.fcp_grammar.specs.ItemGrammar.{call_item, equal, assigned, compared, sign_call, item_value}
use Rattle.fcp_terminals.specs.Numbering.{Grows}
use Rattle.text_laws.specs.Spellings.{string, mark}
use Rattle.text_laws.specs.TermSpellings.{Writing, term_spellings}
use Rattle.text_laws.specs.SourceSpellings.{spaced, spelled_item_call}
use Rattle.reading_laws.specs.PieceTerminals.{Position, behind_piece, string_form}
use Rattle.reading_laws.specs.Variables.{are_next, term_variables, terms_variables, expr_variables, call_variables}
use Rattle.reading_laws.specs.Readable.{is_small_term, are_small_terms, is_small_expr, operators_of, is_small_call}
use Rattle.reading_laws.specs.Alike.{term_with, call_with, item_with, by_text}
use Rattle.reading_laws.proofs.Following.{Follows, grows-on, next-first, TermReads, PartsRead, ItemReads}
use Rattle.reading_laws.proofs.TreePieces.{rewritten, next-behind, and-true, chain, counted-last, read_string, string-follows, string-name, mark-round_open, mark-round_close}
use Rattle.reading_laws.proofs.TreeTerms.{term-reads, parts-read}
use Rattle.reading_laws.proofs.TreeOperators.{assign-follows, sign_mark, sign-follows, comparison_mark, comparison-follows, behind_spaced}
use Rattle.reading_laws.proofs.TreeExpressions.{ExprReads, expr-reads}
use Rattle.fcp_text.specs.Signs as signs

pub at-most : (n m : ℕ) → nat_le n m ≡ true → n ≤ m
at-most n m h = grind (arith, nat_tests)

from-none : (n m : ℕ) → nat_le n m ≡ true → 0 + n ≤ m
from-none n m h = let b : n ≤ m = at-most n m h in omega arith

-- behind the operators of a left side
behind-left : (a b m : ℕ) → nat_le (a + b) 256 ≡ true → m ≡ 0 + a → m + b ≤ 256
behind-left a b m h e = let i : a + b ≤ 256 = at-most (a + b) 256 h in omega arith

first-of-both : (a b : ℕ) → nat_le (a + b) 256 ≡ true → 0 + a ≤ 256
first-of-both a b h = let i : a + b ≤ 256 = at-most (a + b) 256 h in omega arith

-- the strings behind a sign and what follows it are those behind what stands before it, and perhaps more
before-sign : {v w : Writing} {ks ls : List ℕ} {s t : List Marked → List Marked} {p q r : Position} → Follows v ks s p q
    → Follows w ls t q r → (final : List Text) → Grows r.names final → Grows p.names final
before-sign {p} {q} {r} f h final grows = grows-on p.names q.names final f.grows (grows-on q.names r.names final h.grows grows)

module _ (names : List Text) where
  -- ---- names alone and with arguments

  alone-reads : (s : Sym) (p : Position) → ItemReads names (User s []) p
  alone-reads s p =
      let t : Text = name_at names s.0 in
      record {
        tree = call_item (name_alone (read_string p t) (string_form t) p.at);
        after = behind_piece p (string t);
        follows = string-follows p t;
        same = λ final g grows. ap (λ x. record { at = 0; call = User (record { 0 = g x }) [] }) (string-name p t final grows);
      }

  called-reads : (s : Sym) (t : Term) (ts : List Term) (p : Position) → is_small_call (User s (t ∷ ts)) ≡ true
      → are_next p.count (terms_variables (t ∷ ts)) ≡ true → ItemReads names (User s (t ∷ ts)) p
  called-reads s t ts p small n =
      let x : Text = name_at names s.0 in
      let q : Position = behind_piece p (string x) in
      let both = and-true (nat_le (length (t ∷ ts)) 64) (are_small_terms (t ∷ ts)) small in
      let o : PartsRead names t ts (behind_piece q (mark signs.round_open)) =
      parts-read names t ts (behind_piece q (mark signs.round_open)) both.1 (at-most (length (t ∷ ts)) 64 both.0) n in
      record {
        tree = call_item (with_arguments (read_string p x) (string_form x) p.at q.at o.front o.last);
        after = behind_piece o.after (mark signs.round_close);
        follows = counted-last (chain (string-follows p x) (chain (mark-round_open q) (chain o.follows (mark-round_close o.after))));
        same = λ final g grows.
            ap₂ (λ a l. record { at = 0; call = User (record { 0 = g a }) l })
            (string-name p x final (grows-on q.names o.after.names final o.follows.grows grows)) (o.same final g grows);
      }

  -- ---- two terms with a sign

  -- what is written for two terms with a sign
  abbrev signed : TermSign → Term → Term → Writing
  signed s a b ps = term_spellings names a (spaced (mark (sign_mark s)) (term_spellings names b ps))

  signed-written : (s : TermSign) (a b : Term) → spelled_item_call names (sign_call s a b) ≡ signed s a b
  signed-written sign.Equals a b = refl
  signed-written sign.Same a b = refl
  signed-written sign.NotSame a b = refl

  signed-variables : (s : TermSign) (a b : Term) → call_variables (sign_call s a b) ≡ term_variables a ++ term_variables b
  signed-variables sign.Equals a b = refl
  signed-variables sign.Same a b = refl
  signed-variables sign.NotSame a b = refl

  with-signed : (f : ℕ → ℕ) (s : TermSign) (a b : Term) → call_with f (sign_call s a b) ≡ sign_call s (term_with f a) (term_with f b)
  with-signed f sign.Equals a b = refl
  with-signed f sign.Same a b = refl
  with-signed f sign.NotSame a b = refl

  item-signed : (f : ℕ → ℕ) (s : TermSign) (t u : Tree)
      → item_with f (item_value (equal t s u)) ≡ record { at = 0; call = sign_call s (term_with f (value t)) (term_with f (value u)) }
  item-signed f s t u = ap (λ c. record { at = 0; call = c }) (with-signed f s (value t) (value u))

  -- two terms that are read on both sides of a sign
  both-signed : (s : TermSign) (a b : Term) (p : Position) (l : TermReads names a p)
      → TermReads names b (behind_spaced l.after (mark (sign_mark s))) → ItemReads names (sign_call s a b) p
  both-signed s a b p l r = record {
    tree = equal l.tree s r.tree;
    after = r.after;
    follows =
        rewritten (spelled_item_call names (sign_call s a b)) (call_variables (sign_call s a b)) (signed-written s a b)
        (signed-variables s a b) (chain l.follows (chain (sign-follows s l.after) r.follows));
    same = λ final g grows.
        item-signed (by_text g final) s l.tree r.tree
        ∙ ap₂ (λ x y. record { at = 0; call = sign_call s x y })
        (l.same final g (before-sign (sign-follows s l.after) r.follows final grows)) (r.same final g grows)
        ∙ ap (λ c. record { at = 0; call = c }) (sym (with-signed (by_text g names) s a b));
  }

  signed-reads : (s : TermSign) (a b : Term) (p : Position) → is_small_term a && is_small_term b ≡ true
      → are_next p.count (term_variables a ++ term_variables b) ≡ true → ItemReads names (sign_call s a b) p
  signed-reads s a b p small n =
      let both = and-true (is_small_term a) (is_small_term b) small in
      let l : TermReads names a p = term-reads names a p both.0 (next-first p.count (term_variables a) (term_variables b) n) in
      both-signed s a b p l
      (term-reads names b (behind_spaced l.after (mark (sign_mark s))) both.1
      (next-behind (term_variables b) (sign-follows s l.after) (next-behind (term_variables b) l.follows n)))

  -- ---- expressions

  both-assigned : (a : Term) (e : Expr) (p : Position) (l : TermReads names a p)
      → ExprReads names e 0 (behind_spaced l.after (mark signs.assign)) → ItemReads names (Assign a e) p
  both-assigned a e p l r = record {
    tree = assigned l.tree r.tree;
    after = r.after;
    follows = chain l.follows (chain (assign-follows l.after) r.follows);
    same =
        λ final g grows. ap₂ (λ x y. record { at = 0; call = Assign x y })
        (l.same final g (before-sign (assign-follows l.after) r.follows final grows)) (r.same final g grows);
  }

  assign-reads : (a : Term) (e : Expr) (p : Position) → is_small_call (Assign a e) ≡ true
      → are_next p.count (call_variables (Assign a e)) ≡ true → ItemReads names (Assign a e) p
  assign-reads a e p small n =
      let all = and-true (is_small_term a && is_small_expr e) (nat_le (operators_of e) 256) small in
      let both = and-true (is_small_term a) (is_small_expr e) all.0 in
      let l : TermReads names a p = term-reads names a p both.0 (next-first p.count (term_variables a) (expr_variables e) n) in
      both-assigned a e p l
      (expr-reads names e 0 (behind_spaced l.after (mark signs.assign)) both.1 (from-none (operators_of e) 256 all.1)
      (next-behind (expr_variables e) (assign-follows l.after) (next-behind (expr_variables e) l.follows n)))

  both-compared : (op : CompareOp) (d e : Expr) (p : Position) (l : ExprReads names d 0 p)
      → ExprReads names e (sum_ops 0 l.tree) (behind_spaced l.after (mark (comparison_mark op))) → ItemReads names (Compare op d e) p
  both-compared op d e p l r = record {
    tree = compared l.tree op r.tree;
    after = r.after;
    follows = chain l.follows (chain (comparison-follows op l.after) r.follows);
    same =
        λ final g grows. ap₂ (λ x y. record { at = 0; call = Compare op x y })
        (l.same final g (before-sign (comparison-follows op l.after) r.follows final grows)) (r.same final g grows);
  }

  compare-reads : (op : CompareOp) (d e : Expr) (p : Position) → is_small_call (Compare op d e) ≡ true
      → are_next p.count (call_variables (Compare op d e)) ≡ true → ItemReads names (Compare op d e) p
  compare-reads op d e p small n =
      let all = and-true (is_small_expr d && is_small_expr e) (nat_le (operators_of d + operators_of e) 256) small in
      let both = and-true (is_small_expr d) (is_small_expr e) all.0 in
      let l : ExprReads names d 0 p =
      expr-reads names d 0 p both.0 (first-of-both (operators_of d) (operators_of e) all.1)
      (next-first p.count (expr_variables d) (expr_variables e) n) in
      both-compared op d e p l
      (expr-reads names e (sum_ops 0 l.tree) (behind_spaced l.after (mark (comparison_mark op))) both.1
      (behind-left (operators_of d) (operators_of e) (sum_ops 0 l.tree) all.1 l.ops)
      (next-behind (expr_variables e) (comparison-follows op l.after) (next-behind (expr_variables e) l.follows n)))

-- what a small item says has a tree, wherever its variables may stand
pub item-reads : (names : List Text) (call : Call) (p : Position) → is_small_call call ≡ true
    → are_next p.count (call_variables call) ≡ true → ItemReads names call p
item-reads names (User s []) p small n = alone-reads names s p
item-reads names (User s (t ∷ ts)) p small n = called-reads names s t ts p small n
item-reads names (Unify a b) p small n = signed-reads names sign.Equals a b p small n
item-reads names (Assign a e) p small n = assign-reads names a e p small n
item-reads names (Same a b) p small n = signed-reads names sign.Same a b p small n
item-reads names (NotSame a b) p small n = signed-reads names sign.NotSame a b p small n
item-reads names (Compare op d e) p small n = compare-reads names op d e p small n
