-- Clauses are read as they were written.
use Rattle.std.proofs.Common.{◌≡◌, ℕ, Bool, true, List, [], ◌∷◌, ◌++◌, refl, ap, ◌∙◌, sym, subst, arith, false}
use Rattle.std.specs.Prelude.{◌&&◌, nat_le, nat_eq, length}
use Rattle.std.proofs.lemmas.Bool.Decides.{nat_tests}
use Rattle.fcp_model.specs.declared.names.Sym.{Sym}
use Rattle.fcp_model.specs.declared.term.Term.{Term}
use Rattle.fcp_model.specs.declared.source.Call.{Call}
use Rattle.fcp_model.specs.declared.source.Item.{Item}
use Rattle.fcp_model.specs.declared.source.Clause.{Clause}
use Rattle.fcp_model.specs.NameList.{noted, number_of}
use Rattle.fcp_model.specs.Spelling.{name_at}
use Rattle.fcp_text.specs.Bytes.{Text}
use Rattle.fcp_text.proofs.Choices.{and-first, and-second}
use Rattle.fcp_grammar.specs.declared.terminals.Terminal.TheVariants as terminal
use Rattle.fcp_grammar.specs.Grammar.{Marked, plain, values, spell, spells, CallTree, name_alone, with_arguments, spell_call}
use Rattle.fcp_grammar.specs.Values.{over}
use Rattle.fcp_grammar.specs.ItemGrammar.{ItemTree, ItemTrees, item_value, item_values, spell_list}
use Rattle.fcp_terminals.specs.Numbering.{Grows}
use Rattle.fcp_reader.specs.ClauseGrammar.{head_value, ClauseTree, fact, rule, guarded, clause_value, spell_clause}
use Rattle.text_laws.specs.TermSpellings.{terms_spellings}
use Rattle.text_laws.specs.Spellings.{string, mark, space}
use Rattle.text_laws.specs.SourceSpellings.{spaced, spelled_named, spelled_arguments, spelled_items, spelled_tail, spelled_clause}
use Rattle.reading_laws.specs.PieceTerminals.{Position, string_form, behind_piece}
use Rattle.reading_laws.specs.Variables.{count_behind, are_next, terms_variables, call_variables, items_variables, clause_variables, is_numbered}
use Rattle.reading_laws.specs.Readable.{is_small_call, are_small_terms, are_small_items, has_body, is_small_clause, is_readable_clause}
use Rattle.reading_laws.specs.Alike.{string_with, terms_with, items_with, clause_with, by_text}
use Rattle.reading_laws.proofs.Following.{Follows, then, next-first, next-second, grows-on, PartsRead, ItemReads}
use Rattle.reading_laws.proofs.TreePieces.{name-of-number, string-follows, none-follows}
use Rattle.reading_laws.proofs.ClausePieces.{between, spaced-follows, round_open-terminal, round_close-terminal, if-terminal, bar-terminal}
use Rattle.reading_laws.proofs.ClauseItems.{ItemsRead, items-read}
use Rattle.reading_laws.proofs.ClauseEndings.{closes-as, Closes, dot-closes, then-closes}
use Rattle.fcp_text.specs.Signs as signs

abbrev pub string_of : ℕ → Sym
string_of n = record { 0 = n }

-- a string that was noted says the same in each list that grows from there
pub string-same : (names ns final : List Text) (s : Sym) (g : Text → ℕ) → Grows (noted ns (name_at names s.0)) final
    → string_with (by_text g final) (string_of (number_of ns (name_at names s.0))) ≡ string_with (by_text g names) s
string-same names ns final s g w = ap (λ t. string_of (g t)) (name-of-number ns (name_at names s.0) final w)

-- ---- heads

pub record HeadReads (names : List Text) (name : Sym) (args : List Term) (p : Position) : Type 0 where
  pub tree : CallTree
  pub after : Position
  pub follows : Follows (spelled_named names name args) (terms_variables args) (spell_call false tree) p after
  pub name_same : (final : List Text) (g : Text → ℕ) → Grows after.names final
      → string_with (by_text g final) (head_value tree).name ≡ string_with (by_text g names) name
  pub args_same : (final : List Text) (g : Text → ℕ) → Grows after.names final
      → terms_with (by_text g final) (head_value tree).args ≡ terms_with (by_text g names) args

-- ---- what stands behind a head

pub data TailTree : Type 0 where
  no_tail : TailTree
  with_body : (front : ItemTrees) (last : ItemTree) → TailTree
  with_guard : (guards : ItemTrees) (guard : ItemTree) (front : ItemTrees) (last : ItemTree) → TailTree

abbrev pub tail_guard : TailTree → List Item
tail_guard no_tail = []
tail_guard (with_body is i) = []
tail_guard (with_guard gs g is i) = item_values gs ++ item_value g ∷ []

abbrev pub tail_body : TailTree → List Item
tail_body no_tail = []
tail_body (with_body is i) = item_values is ++ item_value i ∷ []
tail_body (with_guard gs g is i) = item_values is ++ item_value i ∷ []

abbrev pub spell_tail : TailTree → List Marked → List Marked
spell_tail no_tail rest = rest
spell_tail (with_body is i) rest = plain terminal.If ∷ spell_list is i rest
spell_tail (with_guard gs g is i) rest = plain terminal.If ∷ spell_list gs g (plain terminal.Bar ∷ spell_list is i rest)

abbrev pub clause_tree : CallTree → TailTree → ℕ → ClauseTree
clause_tree h no_tail n = fact h n
clause_tree h (with_body is i) n = rule h is i n
clause_tree h (with_guard gs g is i) n = guarded h gs g is i n

clause-terminals : (h : CallTree) (t : TailTree) (n : ℕ) (rest : List Marked)
    → spell_call false h (spell_tail t (plain (terminal.Dot n) ∷ rest)) ≡ spell_clause (clause_tree h t n) rest
clause-terminals h no_tail n rest = refl
clause-terminals h (with_body is i) n rest = refl
clause-terminals h (with_guard gs g is i) n rest = refl

-- a clause at no place
abbrev made : Sym → List Term → List Item → List Item → ℕ → Clause
made s ts gs bs n = record { at = 0; head = s; args = ts; guard = gs; body = bs; vars = n }

made-same : {s t : Sym} {ss ts : List Term} {gs hs bs ds : List Item} (n : ℕ) → s ≡ t → ss ≡ ts → gs ≡ hs → bs ≡ ds
    → made s ss gs bs n ≡ made t ts hs ds n
made-same {s = s} {t = t} {ss = ss} {ts = ts} {gs = gs} {hs = hs} {bs = bs} {ds = ds} n e f g h =
    ap (λ i. made i ss gs bs n) e ∙ ap (λ i. made t i gs bs n) f ∙ ap (λ i. made t ts i bs n) g ∙ ap (λ i. made t ts hs i n) h

clause-made : (f : ℕ → ℕ) (h : CallTree) (t : TailTree) (n : ℕ) → clause_with f (clause_value (clause_tree h t n))
    ≡ made (string_with f (head_value h).name) (terms_with f (head_value h).args) (items_with f (tail_guard t))
    (items_with f (tail_body t)) n
clause-made f h no_tail n = refl
clause-made f h (with_body is i) n = refl
clause-made f h (with_guard gs g is i) n = refl

clause-same : (f k : ℕ → ℕ) (c : Clause) (h : CallTree) (t : TailTree) → string_with f (head_value h).name ≡ string_with k c.head
    → terms_with f (head_value h).args ≡ terms_with k c.args
    → items_with f (tail_guard t) ≡ items_with k c.guard → items_with f (tail_body t) ≡ items_with k c.body
    → clause_with f (clause_value (clause_tree h t c.vars)) ≡ clause_with k c
clause-same f k c h t a b d e = clause-made f h t c.vars ∙ made-same c.vars a b d e

pub record TailReads (names : List Text) (guard body : List Item) (p : Position) : Type 0 where
  pub tree : TailTree
  pub after : Position
  pub follows : Follows (spelled_tail names guard body) (items_variables guard ++ items_variables body) (spell_tail tree) p after
  pub guard_same : (final : List Text) (g : Text → ℕ) → Grows after.names final
      → items_with (by_text g final) (tail_guard tree) ≡ items_with (by_text g names) guard
  pub body_same : (final : List Text) (g : Text → ℕ) → Grows after.names final
      → items_with (by_text g final) (tail_body tree) ≡ items_with (by_text g names) body

-- ---- clauses

pub record ClauseReads (names : List Text) (c : Clause) (p : Position) : Type 0 where
  pub tree : ClauseTree
  pub after : Position
  pub closes : Closes (spelled_clause names c) (clause_variables c) (spell_clause tree) p after
  pub same : (final : List Text) (g : Text → ℕ) → Grows after.names final
      → clause_with (by_text g final) (clause_value tree) ≡ clause_with (by_text g names) c

same-number : (a b : ℕ) → nat_eq a b ≡ true → a ≡ b
same-number a b h = grind (arith, nat_tests)

counted : (n k m : ℕ) (ks : List ℕ) → n ≡ count_behind k ks → k ≡ 0 → count_behind 0 ks ≡ m → n ≡ m
counted n k m ks e z v = e ∙ ap (λ i. count_behind i ks) z ∙ v

-- where a reader stands behind a mark with spaces
abbrev behind_spaced : Position → ℕ → Position
behind_spaced p m = behind_piece (behind_piece (behind_piece p space) (mark m)) space

module _ (parts-read : (names : List Text) (t : Term) (ts : List Term) (p : Position) → are_small_terms (t ∷ ts) ≡ true
    → nat_le (length (t ∷ ts)) 64 ≡ true → are_next p.count (terms_variables (t ∷ ts)) ≡ true → PartsRead names t ts p) where
  -- a name with arguments or with none
  pub head-reads : (names : List Text) (name : Sym) (args : List Term) (p : Position) → are_small_terms args ≡ true
      → nat_le (length args) 64 ≡ true → are_next p.count (terms_variables args) ≡ true → HeadReads names name args p
  head-reads names name [] p h l n =
      let bs : Text = name_at names name.0 in
      record {
        tree = name_alone (string_of (number_of p.names bs)) (string_form bs) p.at;
        after = behind_piece p (string bs);
        follows = string-follows p bs;
        name_same = λ final g w. string-same names p.names final name g w;
        args_same = λ final g w. refl;
      }
  head-reads names name (t ∷ ts) p h l n =
      let bs : Text = name_at names name.0 in
      let s : Sym = string_of (number_of p.names bs) in
      let a : Position = behind_piece p (string bs) in
      let b : Position = behind_piece a (mark signs.round_open) in
      let x : PartsRead names t ts b = parts-read names t ts b h l n in
      let d : Position = behind_piece x.after (mark signs.round_close) in
      record {
        tree = with_arguments s (string_form bs) p.at a.at x.front x.last;
        after = d;
        follows =
            (then) (λ ps. string bs ∷ ps) (spelled_arguments names (t ∷ ts)) [] (terms_variables (t ∷ ts))
            (λ rest. plain (terminal.Str s (string_form bs) p.at) ∷ rest)
            (λ rest. plain (terminal.RoundOpen a.at)
            ∷ spells true x.front (spell (over (values x.front)) x.last (plain terminal.RoundClose ∷ rest))) p a d (string-follows p bs)
            (between (terms_spellings names (t ∷ ts)) (terms_variables (t ∷ ts))
            (λ rest. spells true x.front (spell (over (values x.front)) x.last rest)) signs.round_open signs.round_close
            (terminal.RoundOpen a.at) terminal.RoundClose a x.after
            (round_open-terminal a.at a.count) refl (round_close-terminal x.after.at x.after.count) refl x.follows);
        name_same = λ final g w. string-same names p.names final name g (grows-on b.names x.after.names final x.follows.grows w);
        args_same = x.same;
      }

  module _ (item-reads : (names : List Text) (call : Call) (p : Position) → is_small_call call ≡ true
      → are_next p.count (call_variables call) ≡ true → ItemReads names call p) where
    -- no guard and no body, a body, or both
    pub tail-reads : (names : List Text) (guard body : List Item) (p : Position) → are_small_items guard ≡ true
        → are_small_items body ≡ true → has_body guard body ≡ true
        → are_next p.count (items_variables guard ++ items_variables body) ≡ true → TailReads names guard body p
    tail-reads names [] [] p k l h n =
        record { tree = no_tail; after = p; follows = none-follows p; guard_same = λ final g w. refl; body_same = λ final g w. refl }
    tail-reads names [] (i ∷ is) p k l h n =
        let a : Position = behind_spaced p signs.if_sign in
        let x : ItemsRead names (i ∷ is) a = items-read item-reads names i is a l n in
        record {
          tree = with_body x.front x.last;
          after = x.after;
          follows =
              (then) (spaced (mark signs.if_sign)) (spelled_items names (i ∷ is)) [] (items_variables (i ∷ is))
              (λ rest. plain terminal.If ∷ rest) (spell_list x.front x.last) p a x.after
              (spaced-follows signs.if_sign terminal.If p (if-terminal (behind_piece p space).at p.count) refl) x.follows;
          guard_same = λ final g w. refl;
          body_same = x.same;
        }
    tail-reads names (i ∷ is) [] p k l h n = absurd (cc)
    tail-reads names (i ∷ is) (j ∷ js) p k l h n =
        let a : Position = behind_spaced p signs.if_sign in
        let ks : List ℕ = items_variables (i ∷ is) in
        let ls : List ℕ = items_variables (j ∷ js) in
        let x : ItemsRead names (i ∷ is) a = items-read item-reads names i is a k (next-first p.count ks ls n) in
        let b : Position = behind_spaced x.after signs.bar in
        let m : are_next x.after.count ls ≡ true = subst (λ c. are_next c ls ≡ true) (sym x.follows.count) (next-second p.count ks ls n) in
        let y : ItemsRead names (j ∷ js) b = items-read item-reads names j js b l m in
        record {
          tree = with_guard x.front x.last y.front y.last;
          after = y.after;
          follows =
              (then) (spaced (mark signs.if_sign))
              (λ ps. spelled_items names (i ∷ is) (spaced (mark signs.bar) (spelled_items names (j ∷ js) ps))) [] (ks ++ ls)
              (λ rest. plain terminal.If ∷ rest)
              (λ rest. spell_list x.front x.last (plain terminal.Bar ∷ spell_list y.front y.last rest)) p a y.after
              (spaced-follows signs.if_sign terminal.If p (if-terminal (behind_piece p space).at p.count) refl)
              ((then) (spelled_items names (i ∷ is)) (λ ps. spaced (mark signs.bar) (spelled_items names (j ∷ js) ps)) ks ls
              (spell_list x.front x.last) (λ rest. plain terminal.Bar ∷ spell_list y.front y.last rest) a x.after y.after
              x.follows
              ((then) (spaced (mark signs.bar)) (spelled_items names (j ∷ js)) [] ls (λ rest. plain terminal.Bar ∷ rest)
              (spell_list y.front y.last) x.after b y.after
              (spaced-follows signs.bar terminal.Bar x.after (bar-terminal (behind_piece x.after space).at x.after.count) refl) y.follows));
          guard_same = λ final g w. x.same final g (grows-on b.names y.after.names final y.follows.grows w);
          body_same = y.same;
        }

    -- a clause that is readable
    pub clause-reads : (names : List Text) (c : Clause) (p : Position) → p.count ≡ 0 → is_readable_clause c ≡ true → ClauseReads names c p
    clause-reads names c p z h =
        let small : is_small_clause c ≡ true = and-first (is_small_clause c) _ h in
        let numbered : is_numbered c ≡ true = and-second (is_small_clause c) _ h in
        let ks : List ℕ = terms_variables c.args in
        let ls : List ℕ = items_variables c.guard ++ items_variables c.body in
        let n : are_next p.count (ks ++ ls) ≡ true =
        subst (λ k. are_next k (ks ++ ls) ≡ true) (sym z) (and-first (are_next 0 (ks ++ ls)) _ numbered) in
        let v : count_behind 0 (ks ++ ls) ≡ c.vars =
        same-number (count_behind 0 (ks ++ ls)) c.vars (and-second (are_next 0 (ks ++ ls)) _ numbered) in
        let a1 : Bool = nat_le (length c.args) 64 in
        let a2 : Bool = are_small_terms c.args in
        let a3 : Bool = are_small_items c.guard in
        let a4 : Bool = are_small_items c.body in
        let s4 : a1 && a2 && a3 && a4 ≡ true = and-first (a1 && a2 && a3 && a4) (has_body c.guard c.body) small in
        let s3 : a1 && a2 && a3 ≡ true = and-first (a1 && a2 && a3) a4 s4 in
        let s2 : a1 && a2 ≡ true = and-first (a1 && a2) a3 s3 in
        let x : HeadReads names c.head c.args p =
        head-reads names c.head c.args p (and-second a1 a2 s2) (and-first a1 a2 s2) (next-first p.count ks ls n) in
        let m : are_next x.after.count ls ≡ true = subst (λ k. are_next k ls ≡ true) (sym x.follows.count) (next-second p.count ks ls n) in
        let y : TailReads names c.guard c.body x.after =
        tail-reads names c.guard c.body x.after (and-second (a1 && a2) a3 s3) (and-second (a1 && a2 && a3) a4 s4)
        (and-second (a1 && a2 && a3 && a4) (has_body c.guard c.body) small) m in
        let b : Follows (λ ps. spelled_named names c.head c.args (spelled_tail names c.guard c.body ps)) (ks ++ ls)
        (λ rest. spell_call false x.tree (spell_tail y.tree rest)) p y.after =
        (then) (spelled_named names c.head c.args) (spelled_tail names c.guard c.body) ks ls (spell_call false x.tree)
        (spell_tail y.tree) p x.after y.after x.follows y.follows in
        let d : Closes (λ ps. mark signs.dot ∷ ps) [] (λ rest. plain (terminal.Dot c.vars) ∷ rest) y.after
        (behind_piece y.after (mark signs.dot)) =
        dot-closes c.vars y.after (counted y.after.count p.count c.vars (ks ++ ls) b.count z v) in
        let e : Closes (spelled_clause names c) (ks ++ ls)
        (λ rest. spell_call false x.tree (spell_tail y.tree (plain (terminal.Dot c.vars) ∷ rest))) p
        (behind_piece y.after (mark signs.dot)) =
        then-closes (λ ps. spelled_named names c.head c.args (spelled_tail names c.guard c.body ps)) (λ ps. mark signs.dot ∷ ps) (ks ++ ls)
        (λ rest. spell_call false x.tree (spell_tail y.tree rest)) (λ rest. plain (terminal.Dot c.vars) ∷ rest)
        p y.after (behind_piece y.after (mark signs.dot)) b d in
        record {
          tree = clause_tree x.tree y.tree c.vars;
          after = behind_piece y.after (mark signs.dot);
          closes =
              closes-as (spelled_clause names c) (ks ++ ls)
              (λ rest. spell_call false x.tree (spell_tail y.tree (plain (terminal.Dot c.vars) ∷ rest)))
              (spell_clause (clause_tree x.tree y.tree c.vars)) p (behind_piece y.after (mark signs.dot))
              (clause-terminals x.tree y.tree c.vars) e;
          same = λ final g w.
              let r : Grows x.after.names final = grows-on x.after.names y.after.names final y.follows.grows w in
              clause-same (by_text g final) (by_text g names) c x.tree y.tree (x.name_same final g r) (x.args_same final g r)
              (y.guard_same final g w) (y.body_same final g w);
        }
