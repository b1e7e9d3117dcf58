-- Lists of items are read as they were written.
use Rattle.std.proofs.Common.{◌≡◌, ℕ, suc, ◌+◌, ◌≤◌, true, false, List, [], ◌∷◌, ◌++◌, map, append_assoc, append-nil, length-append, refl, ap, ◌∙◌, sym, subst, arith}
use Rattle.std.specs.Prelude.{nat_le, length}
use Rattle.std.specs.List.{list_all}
use Rattle.std.proofs.lemmas.Bool.Decides.{nat_tests}
use Rattle.fcp_model.specs.declared.source.Call.{Call}
use Rattle.fcp_model.specs.declared.source.Item.{Item}
use Rattle.fcp_text.specs.Bytes.{Text}
use Rattle.fcp_text.proofs.Choices.{and-first, and-second}
use Rattle.fcp_grammar.specs.declared.terminals.Terminal.TheVariants as terminal
use Rattle.fcp_grammar.specs.Grammar.{Marked, plain}
use Rattle.fcp_grammar.specs.ItemGrammar.{ItemTree, ItemTrees, no_items, and_item, item_value, item_values, spell_item, spell_list, over_items}
use Rattle.fcp_terminals.specs.Numbering.{Grows}
use Rattle.text_laws.specs.TermSpellings.{Writing, each_after}
use Rattle.text_laws.specs.Spellings.{mark, space}
use Rattle.text_laws.specs.SourceSpellings.{comma_space, spelled_item_call, spelled_items}
use Rattle.reading_laws.specs.PieceTerminals.{Position, behind_piece}
use Rattle.reading_laws.specs.Variables.{are_next, call_variables, items_variables}
use Rattle.reading_laws.specs.Readable.{is_small_call, are_small_items}
use Rattle.reading_laws.specs.Alike.{item_with, items_with, by_text}
use Rattle.reading_laws.proofs.Following.{Follows, then, next-first, next-second, grows-on, ItemReads}
use Rattle.reading_laws.proofs.ClausePieces.{follows-as}
use Rattle.reading_laws.proofs.TreePieces.{none-follows, comma_space-follows}
use Rattle.fcp_text.specs.Signs as signs

-- ---- trees of items one behind the other, as the grammar puts them

-- items with a comma before each, none of them marked
abbrev pub spell_more : List ItemTree → List Marked → List Marked
spell_more [] rest = rest
spell_more (t ∷ ts) rest = plain terminal.Comma ∷ spell_item false t (spell_more ts rest)

-- the same with an item before them, as a list of the grammar
pub record Listed (front : ItemTrees) (last : ItemTree) (ts : List ItemTree) : Type 0 where
  pub others : ItemTrees
  pub end : ItemTree
  pub terminals : (rest : List Marked) → spell_list front last (spell_more ts rest) ≡ spell_list others end rest
  pub values : item_values others ++ item_value end ∷ [] ≡ (item_values front ++ item_value last ∷ []) ++ map item_value ts

few : (is : List Item) (i : Item) (n : ℕ) → length is + suc (suc n) ≤ 256 → over_items (is ++ i ∷ []) ≡ false
few is i n h = let e : length (is ++ i ∷ []) ≡ length is + 1 = length-append is (i ∷ []) in grind (arith, nat_tests)

fewer : (is : List Item) (i : Item) (n : ℕ) → length is + suc (suc n) ≤ 256 → length (is ++ i ∷ []) + suc n ≤ 256
fewer is i n h = let e : length (is ++ i ∷ []) ≡ length is + 1 = length-append is (i ∷ []) in omega arith

pub listed : (front : ItemTrees) (last : ItemTree) (ts : List ItemTree) → length (item_values front) + suc (length ts) ≤ 256
    → Listed front last ts
listed front last [] h = record { others = front; end = last; terminals = λ rest. refl; values = sym (append-nil _) }
listed front last (t ∷ ts) h =
    let f : over_items (item_values front ++ item_value last ∷ []) ≡ false = few (item_values front) (item_value last) (length ts) h in
    let l : Listed (and_item front last) t ts =
    listed (and_item front last) t ts (fewer (item_values front) (item_value last) (length ts) h) in
    record {
      others = l.others;
      end = l.end;
      terminals =
          λ rest. ap (λ b. spell_list front last (plain terminal.Comma ∷ spell_item b t (spell_more ts rest))) (sym f) ∙ l.terminals rest;
      values = l.values ∙ append_assoc (item_values front ++ item_value last ∷ []) (item_value t ∷ []) (map item_value ts);
    }

-- ---- items as they are read

-- trees of items: they follow the pieces of the items, with a separator before each
pub record MoreRead (names : List Text) (is : List Item) (p : Position) : Type 0 where
  pub trees : List ItemTree
  pub size : length trees ≡ length is
  pub after : Position
  pub follows : Follows (each_after comma_space (map (λ (i : Item). spelled_item_call names i.call) is)) (items_variables is)
      (spell_more trees) p after
  pub same : (final : List Text) (g : Text → ℕ) → Grows after.names final
      → items_with (by_text g final) (map item_value trees) ≡ items_with (by_text g names) is

-- a list of the grammar that follows the pieces of items
pub record ItemsRead (names : List Text) (is : List Item) (p : Position) : Type 0 where
  pub front : ItemTrees
  pub last : ItemTree
  pub after : Position
  pub follows : Follows (spelled_items names is) (items_variables is) (spell_list front last) p after
  pub same : (final : List Text) (g : Text → ℕ) → Grows after.names final
      → items_with (by_text g final) (item_values front ++ item_value last ∷ []) ≡ items_with (by_text g names) is

module _ (item-reads : (names : List Text) (call : Call) (p : Position) → is_small_call call ≡ true
    → are_next p.count (call_variables call) ≡ true → ItemReads names call p) where
  -- items behind the first
  more-read : (names : List Text) (is : List Item) (p : Position) → list_all (λ (i : Item). is_small_call i.call) is ≡ true
      → are_next p.count (items_variables is) ≡ true → MoreRead names is p
  more-read names [] p h n = record { trees = []; size = refl; after = p; follows = none-follows p; same = λ final g w. refl }
  more-read names (i ∷ is) p h n =
      let a : Position = behind_piece (behind_piece p (mark signs.comma)) space in
      let ks : List ℕ = call_variables i.call in
      let x : ItemReads names i.call a =
      item-reads names i.call a (and-first (is_small_call i.call) _ h) (next-first p.count ks (items_variables is) n) in
      let m : are_next x.after.count (items_variables is) ≡ true =
      subst (λ c. are_next c (items_variables is) ≡ true) (sym x.follows.count) (next-second p.count ks (items_variables is) n) in
      let y : MoreRead names is x.after = more-read names is x.after (and-second (is_small_call i.call) _ h) m in
      let w : Writing = each_after comma_space (map (λ (i : Item). spelled_item_call names i.call) is) in
      record {
        trees = x.tree ∷ y.trees;
        size = ap (λ k. suc k) y.size;
        after = y.after;
        follows =
            (then) comma_space (λ ps. spelled_item_call names i.call (w ps)) [] (ks ++ items_variables is)
            (λ rest. plain terminal.Comma ∷ rest) (λ rest. spell_item false x.tree (spell_more y.trees rest)) p a y.after
            (comma_space-follows p)
            ((then) (spelled_item_call names i.call) w ks (items_variables is) (spell_item false x.tree)
            (spell_more y.trees) a x.after y.after x.follows y.follows);
        same = λ final g v.
            let e : item_with (by_text g final) (item_value x.tree) ≡ item_with (by_text g names) i =
            x.same final g (grows-on x.after.names y.after.names final y.follows.grows v) in
            let f : items_with (by_text g final) (map item_value y.trees) ≡ items_with (by_text g names) is = y.same final g v in
            ap (λ z. z ∷ items_with (by_text g final) (map item_value y.trees)) e ∙ ap (λ zs. item_with (by_text g names) i ∷ zs) f;
      }

  size-fits : (n m : ℕ) → m ≡ n → nat_le (suc n) 256 ≡ true → 0 + suc m ≤ 256
  size-fits n m e h = grind (arith, nat_tests)

  -- one item or more, of which none is one too many
  pub items-read : (names : List Text) (i : Item) (is : List Item) (p : Position) → are_small_items (i ∷ is) ≡ true
      → are_next p.count (items_variables (i ∷ is)) ≡ true → ItemsRead names (i ∷ is) p
  items-read names i is p h n =
      let s : list_all (λ (j : Item). is_small_call j.call) (i ∷ is) ≡ true = and-second (nat_le (length (i ∷ is)) 256) _ h in
      let ks : List ℕ = call_variables i.call in
      let x : ItemReads names i.call p =
      item-reads names i.call p (and-first (is_small_call i.call) _ s) (next-first p.count ks (items_variables is) n) in
      let m : are_next x.after.count (items_variables is) ≡ true =
      subst (λ c. are_next c (items_variables is) ≡ true) (sym x.follows.count) (next-second p.count ks (items_variables is) n) in
      let y : MoreRead names is x.after = more-read names is x.after (and-second (is_small_call i.call) _ s) m in
      let w : Writing = each_after comma_space (map (λ (i : Item). spelled_item_call names i.call) is) in
      let l : Listed no_items x.tree y.trees =
      listed no_items x.tree y.trees (size-fits (length is) (length y.trees) y.size (and-first (nat_le (length (i ∷ is)) 256) _ h)) in
      let f : Follows (λ ps. spelled_item_call names i.call (w ps)) (ks ++ items_variables is)
      (λ rest. spell_item false x.tree (spell_more y.trees rest)) p y.after =
      (then) (spelled_item_call names i.call) w ks (items_variables is) (spell_item false x.tree)
      (spell_more y.trees) p x.after y.after x.follows y.follows in
      record {
        front = l.others;
        last = l.end;
        after = y.after;
        follows =
            follows-as (spelled_items names (i ∷ is)) (items_variables (i ∷ is)) _ (spell_list l.others l.end) p y.after l.terminals f;
        same = λ final g v.
            let e : item_with (by_text g final) (item_value x.tree) ≡ item_with (by_text g names) i =
            x.same final g (grows-on x.after.names y.after.names final y.follows.grows v) in
            let o : items_with (by_text g final) (map item_value y.trees) ≡ items_with (by_text g names) is = y.same final g v in
            ap (items_with (by_text g final)) l.values ∙ ap (λ z. z ∷ items_with (by_text g final) (map item_value y.trees)) e
            ∙ ap (λ zs. item_with (by_text g names) i ∷ zs) o;
      }
