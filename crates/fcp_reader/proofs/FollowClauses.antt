-- The module's machine follows what a clause's tree spells.
use Rattle.std.proofs.Common.{◌≡◌, List, [], ◌∷◌, ◌++◌, refl, ap, ◌∙◌, Option, Some, None, Bool, true, false, ℕ}
use Rattle.fcp_model.specs.declared.term.Term.{Term}
use Rattle.fcp_model.specs.declared.source.Item.{Item}
use Rattle.fcp_model.specs.declared.source.Module.{Module}
use Rattle.fcp_model.specs.declared.names.Sym.{Sym}
use Rattle.fcp_grammar.specs.declared.terminals.Terminal.{Terminal}
use Rattle.fcp_grammar.specs.declared.terminals.Terminal.TheVariants as terminal
use Rattle.fcp_grammar.specs.declared.terms.TermAt.{TermAt}
use Rattle.fcp_grammar.specs.declared.sides.Side.{Side}
use Rattle.fcp_grammar.specs.declared.sides.Side.TheVariants.{Start}
use Rattle.fcp_grammar.specs.declared.sides.ItemStep.TheVariants as N
use Rattle.fcp_reader.specs.declared.state.Head.{Head}
use Rattle.fcp_reader.specs.declared.state.Part.{Part}
use Rattle.fcp_reader.specs.declared.state.Part.TheVariants as Q
use Rattle.fcp_reader.specs.declared.state.State.{State}
use Rattle.fcp_grammar.specs.Terms.{over, is_large, start, full}
use Rattle.fcp_grammar.specs.Items.{step_side}
use Rattle.fcp_reader.specs.Clauses.{state, ended, behind_head, behind_arg, args_told, in_args, behind_item, body_turn, in_body}
use Rattle.fcp_reader.specs.Modules.{step}
use Rattle.fcp_reader.specs.ModuleValues.{with_clause}
use Rattle.fcp_grammar.specs.Grammar.{Marked, Tree, Trees, none, and, value, values, plain, spell, spells, CallTree, name_alone, with_arguments, spell_call}
use Rattle.fcp_grammar.specs.ItemGrammar.{ItemTree, ItemTrees, no_items, and_item, item_value, item_values, spell_item, spell_items, spell_list, over_items}
use Rattle.fcp_reader.specs.ClauseGrammar.{ClauseTree, fact, rule, guarded, head_value, clause_value, spell_clause}
use Rattle.fcp_grammar.proofs.Follow.{at, phase_of, Runs, ◌⟫◌, Holds, IsPlain, term_of-phase, follow-tree}
use Rattle.fcp_grammar.proofs.FollowItems.{step-whole, IsEnd, after_item, end-item, follow-item}
use Rattle.fcp_reader.proofs.Steps.{go, go_on, checked}

-- ---- the body

module _ (m : Module) (h : Head) (guard : Option (List Item)) (done : List Item) where
  abbrev in_item : Side → State
  in_item x = state m (Q.Body h guard done x)

  item-moves : (x y : Side) (w : Terminal) (b : Bool) → step_side (over_items done) x w ≡ N.Goes y b
      → go step (in_item x) (w, b) ≡ Some (in_item y)
  unfolding step in_body
  item-moves x y w b e = checked (step (in_item x) w) (in_item y) b (ap (body_turn m h guard done w) e)

  follow-one : (i : ItemTree) (rest : List Marked)
      → Runs (go step) (in_item Start) (spell_item (over_items done) i rest) (in_item (after_item i)) rest
  follow-one i rest = follow-item (go step) (over_items done) in_item item-moves i rest

  end-one : (i : ItemTree) (w : Terminal) → IsEnd w → step (in_item (after_item i)) w ≡ behind_item m h guard (done ++ item_value i ∷ []) w
  unfolding step in_body
  end-one i w e = ap (body_turn m h guard done w) (end-item (over_items done) i w e)

follow-items : (m : Module) (h : Head) (guard : Option (List Item)) (is : ItemTrees) (rest : List Marked)
    → Runs (go step) (state m (Q.Body h guard [] Start)) (spell_items is rest) (state m (Q.Body h guard (item_values is) Start)) rest
unfolding behind_item
follow-items m h guard no_items rest = record { same = refl }
follow-items m h guard (and_item is i) rest =
    follow-items m h guard is _
    ⟫ follow-one m h guard (item_values is) i _
    ⟫ go_on step _ _ terminal.Comma false rest (end-one m h guard (item_values is) i terminal.Comma tt)

follow-list : (m : Module) (h : Head) (guard : Option (List Item)) (is : ItemTrees) (i : ItemTree) (w : Terminal) (y : State)
    (rest : List Marked)
    → IsEnd w → behind_item m h guard (item_values is ++ item_value i ∷ []) w ≡ Some (y, false)
    → Runs (go step) (state m (Q.Body h guard [] Start)) (spell_list is i (plain w ∷ rest)) y rest
follow-list m h guard is i w y rest e b =
    follow-items m h guard is _
    ⟫ follow-one m h guard (item_values is) i _
    ⟫ go_on step _ y w false rest (end-one m h guard (item_values is) i w e ∙ b)

-- ---- the head

module _ (m : Module) (a : ℕ) (s : Sym) (done : List Term) where
  abbrev in_arg : TermAt → State
  in_arg x = state m (Q.Args a s done x)

  arg-holds : Holds (go step) (over done) in_arg
  unfolding step in_args
  arg-holds =
      record { moves = λ x y w e. checked (step (in_arg x) w) (in_arg y) (is_large (over done) x w) (ap (args_told m a s done x w) e) }

  follow-arg : (t : Tree) (rest : List Marked) → Runs (go step) (in_arg start) (spell (over done) t rest) (in_arg (at [] (phase_of t))) rest
  unfolding full
  follow-arg t rest = follow-tree (go step) (over done) in_arg arg-holds t [] rest

  end-arg : (t : Tree) (w : Terminal) → IsPlain w → step (in_arg (at [] (phase_of t))) w ≡ behind_arg m a s (done ++ value t ∷ []) w
  unfolding step in_args
  end-arg t w e =
      ap (args_told m a s done (at [] (phase_of t)) w) (step-whole t w e) ∙ ap (λ v. behind_arg m a s (done ++ v ∷ []) w) (term_of-phase t)

follow-args : (m : Module) (a : ℕ) (s : Sym) (ts : Trees) (rest : List Marked)
    → Runs (go step) (state m (Q.Args a s [] start)) (spells true ts rest) (state m (Q.Args a s (values ts) start)) rest
follow-args m a s none rest = record { same = refl }
follow-args m a s (and ts t) rest =
    follow-args m a s ts _
    ⟫ follow-arg m a s (values ts) t _
    ⟫ go_on step _ _ terminal.Comma false rest (end-arg m a s (values ts) t terminal.Comma tt)

abbrev after_head : CallTree → Part
after_head (name_alone s form a) = Q.Named a s
after_head (with_arguments s form a o ts t) = Q.Called (head_value (with_arguments s form a o ts t))

follow-head : (m : Module) (h : CallTree) (rest : List Marked)
    → Runs (go step) (state m Q.Between) (spell_call false h rest) (state m (after_head h)) rest
unfolding step
follow-head m (name_alone s form a) rest = go_on step (state m Q.Between) (state m (Q.Named a s)) (terminal.Str s form a) false rest refl
follow-head m (with_arguments s form a o ts t) rest =
    go_on step (state m Q.Between) (state m (Q.Named a s)) (terminal.Str s form a) false _ refl
    ⟫ go_on step (state m (Q.Named a s)) (state m (Q.Args a s [] start)) (terminal.RoundOpen o) false _ refl
    ⟫ follow-args m a s ts _
    ⟫ follow-arg m a s (values ts) t _
    ⟫ go_on step _ _ terminal.RoundClose false rest (end-arg m a s (values ts) t terminal.RoundClose tt)

if-head : (m : Module) (h : CallTree)
    → step (state m (after_head h)) terminal.If ≡ Some (state m (Q.Body (head_value h) None [] Start), false)
unfolding step behind_head
if-head m (name_alone s form a) = refl
if-head m (with_arguments s form a o ts t) = refl

dot-head : (m : Module) (h : CallTree) (n : ℕ)
    → step (state m (after_head h)) (terminal.Dot n) ≡ Some (ended m (head_value h) None [] n, false)
unfolding step behind_head
dot-head m (name_alone s form a) n = refl
dot-head m (with_arguments s form a o ts t) n = refl

-- ---- clauses

pub follow-clause : (m : Module) (c : ClauseTree) (rest : List Marked)
    → Runs (go step) (state m Q.Between) (spell_clause c rest) (state (with_clause m (clause_value c)) Q.Between) rest
unfolding behind_item
follow-clause m (fact h n) rest = follow-head m h _ ⟫ go_on step _ _ (terminal.Dot n) false rest (dot-head m h n)
follow-clause m (rule h is i n) rest =
    follow-head m h _ ⟫ go_on step _ _ terminal.If false _ (if-head m h)
    ⟫ follow-list m (head_value h) None is i (terminal.Dot n) _ rest tt refl
follow-clause m (guarded h gs g is i n) rest =
    follow-head m h _ ⟫ go_on step _ _ terminal.If false _ (if-head m h)
    ⟫ follow-list m (head_value h) None gs g terminal.Bar _ _ tt refl
    ⟫ follow-list m (head_value h) (Some (item_values gs ++ item_value g ∷ [])) is i (terminal.Dot n) _ rest tt refl
