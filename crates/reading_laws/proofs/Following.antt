-- What a writer writes is what a tree spells, from where a reader stands.
use Rattle.std.proofs.Common.{◌≡◌, ℕ, Bool, true, false, List, [], ◌∷◌, ◌++◌, append_assoc, append-nil, refl, ap, ◌∙◌, sym, subst}
use Rattle.std.specs.Prelude.{◌&&◌}
use Rattle.fcp_model.specs.declared.term.Term.{Term}
use Rattle.fcp_model.specs.declared.source.Call.{Call}
use Rattle.fcp_text.specs.Bytes.{Text}
use Rattle.fcp_grammar.specs.Grammar.{Marked, Tree, Trees, value, values, spell, spells}
use Rattle.fcp_grammar.specs.Values.{over}
use Rattle.fcp_grammar.specs.ItemGrammar.{ItemTree, item_value, spell_item}
use Rattle.fcp_terminals.specs.Numbering.{Grows}
use Rattle.fcp_reader.specs.Texts.{clean}
use Rattle.text_laws.specs.Spellings.{Spelling}
use Rattle.text_laws.specs.TermSpellings.{Writing, term_spellings, terms_spellings}
use Rattle.text_laws.specs.SourceSpellings.{spelled_item_call}
use Rattle.reading_laws.specs.PieceTerminals.{Position, with_number, is_next, piece_terminals, behind_pieces, in_order}
use Rattle.reading_laws.specs.Variables.{count_behind, are_next, term_variables, terms_variables, call_variables}
use Rattle.reading_laws.specs.Alike.{term_with, terms_with, call_with, item_with, by_text}

-- The pieces that `w` puts before others are, for a reader at p, the terminals that `spelled` puts before others, none of them
-- marked, and behind them it stands at q. `ks` are the variables in them.
pub record Follows (w : Writing) (ks : List ℕ) (spelled : List Marked → List Marked) (p q : Position) : Type 0 where
  pub terminals : (ps : List Spelling) (rest : List Marked)
      → clean (piece_terminals p (w ps)) rest ≡ spelled (clean (piece_terminals q ps) rest)
  pub behind : (ps : List Spelling) → behind_pieces p (w ps) ≡ behind_pieces q ps
  pub grows : Grows p.names q.names
  pub count : q.count ≡ count_behind p.count ks
  pub order : (ps : List Spelling) → are_next p.count ks ≡ true → in_order p (w ps) ≡ in_order q ps

-- ---- one behind the other

pub count-append : (n : ℕ) (ks ls : List ℕ) → count_behind n (ks ++ ls) ≡ count_behind (count_behind n ks) ls
count-append n [] ls = refl
count-append n (k ∷ ks) ls = count-append (with_number n k) ks ls

and-first : (a b : Bool) → a && b ≡ true → a ≡ true
and-first true b e = refl
and-first false b e = e

and-second : (a b : Bool) → a && b ≡ true → b ≡ true
and-second true b e = e
and-second false b e = absurd (cc)

pub next-first : (n : ℕ) (ks ls : List ℕ) → are_next n (ks ++ ls) ≡ true → are_next n ks ≡ true
next-first n [] ls e = refl
next-first n (k ∷ ks) ls e =
    let first = and-first (is_next n k) (are_next (with_number n k) (ks ++ ls)) e in
    let others = next-first (with_number n k) ks ls (and-second (is_next n k) (are_next (with_number n k) (ks ++ ls)) e) in
    subst (λ b. b && are_next (with_number n k) ks ≡ true) (sym first) others

pub next-second : (n : ℕ) (ks ls : List ℕ) → are_next n (ks ++ ls) ≡ true → are_next (count_behind n ks) ls ≡ true
next-second n [] ls e = e
next-second n (k ∷ ks) ls e = next-second (with_number n k) ks ls (and-second (is_next n k) (are_next (with_number n k) (ks ++ ls)) e)

pub grows-same : (ns : List Text) → Grows ns ns
grows-same ns = ([], sym (append-nil ns))

pub grows-on : (a b c : List Text) → Grows a b → Grows b c → Grows a c
grows-on a b c g h = (g.0 ++ h.0, h.1 ∙ ap (λ z. z ++ h.0) g.1 ∙ append_assoc a g.0 h.0)

pub then : (v w : Writing) (ks ls : List ℕ) (s t : List Marked → List Marked) (p q r : Position) → Follows v ks s p q → Follows w ls t q r
    → Follows (λ ps. v (w ps)) (ks ++ ls) (λ rest. s (t rest)) p r
then v w ks ls s t p q r f g = record {
  terminals = λ ps rest. f.terminals (w ps) rest ∙ ap s (g.terminals ps rest);
  behind = λ ps. f.behind (w ps) ∙ g.behind ps;
  grows = grows-on p.names q.names r.names f.grows g.grows;
  count = g.count ∙ ap (λ n. count_behind n ls) f.count ∙ sym (count-append p.count ks ls);
  order =
      λ ps e. f.order (w ps) (next-first p.count ks ls e)
      ∙ g.order ps (subst (λ n. are_next n ls ≡ true) (sym f.count) (next-second p.count ks ls e));
}

-- ---- what is found for each term and item that a module has

-- a tree of a term: its value says the same as the term, by whatever number `g` gives to texts
pub record TermReads (names : List Text) (t : Term) (p : Position) : Type 0 where
  pub tree : Tree
  pub after : Position
  pub follows : Follows (term_spellings names t) (term_variables t) (spell false tree) p after
  pub same : (final : List Text) (g : Text → ℕ) → Grows after.names final
      → term_with (by_text g final) (value tree) ≡ term_with (by_text g names) t

-- trees of the arguments or parts t and ts
pub record PartsRead (names : List Text) (t : Term) (ts : List Term) (p : Position) : Type 0 where
  pub front : Trees
  pub last : Tree
  pub after : Position
  pub follows : Follows (terms_spellings names (t ∷ ts)) (terms_variables (t ∷ ts))
      (λ rest. spells true front (spell (over (values front)) last rest)) p after
  pub same : (final : List Text) (g : Text → ℕ) → Grows after.names final
      → terms_with (by_text g final) (values front ++ value last ∷ []) ≡ terms_with (by_text g names) (t ∷ ts)

-- a tree of an item
pub record ItemReads (names : List Text) (call : Call) (p : Position) : Type 0 where
  pub tree : ItemTree
  pub after : Position
  pub follows : Follows (spelled_item_call names call) (call_variables call) (spell_item false tree) p after
  pub same : (final : List Text) (g : Text → ℕ) → Grows after.names final
      → item_with (by_text g final) (item_value tree) ≡ record { at = 0; call = call_with (by_text g names) call }
