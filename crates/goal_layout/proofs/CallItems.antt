-- A process with its arguments is the process of an item.
use Rattle.std.proofs.Common.{◌≡◌, ℕ, zero, suc, ◌+◌, ◌<◌, ◌≤◌, pos, Bool, true, false, cond, List, [], ◌∷◌, ◌++◌, length, map, Option}
use Rattle.std.proofs.Common.{Some, refl, sym, ap, ◌∙◌, subst, arith, append_assoc}
use Rattle.std.specs.Prelude.{IfSome, nat_eq, nat_lt, position, ◌&&◌}
use Rattle.std.specs.List.{position_or_len}
use Rattle.std.proofs.lemmas.Bool.{and_from, eq-eqb, ne_eqb, ltb-true}
use Rattle.std.proofs.lemmas.List.{length-map}
use Rattle.std.proofs.lemmas.Option.{cond_some, IfSome_then, same_Some}
use Rattle.fcp_model.specs.declared.goal.TheConstants.{TRUE_PROCEDURE, UNIFY_PROCEDURE, ASSIGN_PROCEDURE}
use Rattle.fcp_model.specs.declared.names.Sym.{Sym}
use Rattle.fcp_model.specs.declared.loaded.ProcedureName.{ProcedureName}
use Rattle.fcp_model.specs.declared.source.Call.{Call}
use Rattle.fcp_model.specs.declared.source.Call.TheVariants.{User, Unify, Assign}
use Rattle.fcp_model.specs.declared.source.Module.{Module}
use Rattle.fcp_model.specs.declared.term.Term as source
use Rattle.fcp_model.specs.declared.term.Expr as source_expr
use Rattle.fcp_model.specs.ProcedureNames.{procedure_names, same_procedure}
use Rattle.fcp_model.specs.Goals.{number_of_call}
use Rattle.fcp_model.specs.Terms.{Term}
use Rattle.fcp_model.specs.Programs.{Goal, user, true', unifies, assigns}
use Rattle.fcp_model.specs.Translation.{name_with_arity, term_of, expr_of, user_goal}
use Rattle.fcp_model.specs.ClosedPrograms.{Over, AllOver, ExprOver, GoalOver, IsNumbered}
use Rattle.heap_words.specs.Heaps.{inside_at}
use Rattle.heap_words.specs.declared.cell.Cell.TheVariants.{Small, Raw}
use Rattle.word_states.specs.Words.{At}
use Rattle.word_states.specs.Denoting.{GoalSays}
use Rattle.word_states.proofs.Leading.{goal_leads_here}
use Rattle.goal_layout.specs.FirstFit.{first_fit}
use Rattle.goal_layout.specs.PieceSizes.{all_sizes, goal_sizes, term_sizes, expr_sizes}
use Rattle.goal_layout.specs.Pages.{rooms}
use Rattle.goal_layout.specs.Laying.{places_of, settled_term}
use Rattle.goal_layout.specs.Items.{IsNumberIn, LaysHeaded, LaysCall, LaysUnify, LaysAssign, LaysItem, called, settled_goal}

-- a head, and what the words after it say
pub headed_item : (vars : ℕ) (sizes : List ℕ) (g : Goal ℕ) (k f p : ℕ) (xs ws ws' : List ℕ)
    → LaysHeaded (places_of vars) sizes k f xs p ws ws'
    → sizes ++ (4 + length xs) ∷ [] ≡ goal_sizes g → GoalSays (inside_at ws') (places_of vars) p (settled_goal g)
    → LaysItem vars g k p ws ws'
headed_item vars sizes g k f p xs ws ws' h e says = record {
  pages = h.pages;
  size = h.size;
  fits = ap (first_fit (rooms ws)) (sym e) ∙ h.fits;
  kept = h.kept;
  free = h.free;
  said = h.said;
  process = record {
    status = h.status;
    name = (h.name.0, h.name.1, h.name.2 ∙ ap (λ n. Some (Small (pos n))) (omega arith));
    goal = record { goal = settled_goal g; leads = goal_leads_here [] (settled_goal g); says = says };
  };
}

pub call_item : (vars : ℕ) (ts : List (Term ℕ)) (f k p : ℕ) (ws ws' : List ℕ) → f < TRUE_PROCEDURE → LaysCall vars ts f k p ws ws'
    → LaysItem vars (user f ts) k p ws ws'
call_item vars ts f k p ws ws' lt l =
    headed_item vars (all_sizes ts) (user f ts) k f p l.words ws ws' l.headed (ap (λ n. all_sizes ts ++ (4 + n) ∷ []) l.count) (
      l.headed.procedure,
      (l.headed.count.0, l.headed.count.1, l.headed.count.2 ∙ ap (λ n. Some (Raw n)) (l.count ∙ sym (length-map ts settled_term))),
      l.args,
      lt,
    )

pub true_item : (vars : ℕ) (f k p : ℕ) (ws ws' : List ℕ) → f ≡ TRUE_PROCEDURE → LaysCall vars [] f k p ws ws'
    → LaysItem vars true' k p ws ws'
true_item vars f k p ws ws' e l =
    headed_item vars [] true' k f p l.words ws ws' l.headed (ap (λ n. (4 + n) ∷ []) l.count) (
      (l.headed.procedure.0, l.headed.procedure.1, l.headed.procedure.2 ∙ ap (λ n. Some (Raw n)) e),
      (l.headed.count.0, l.headed.count.1, l.headed.count.2 ∙ ap (λ n. Some (Raw n)) l.count),
    )

and_false : (b c : Bool) → c ≡ false → (b && c) ≡ false
and_false true c e = e
and_false false c e = refl

-- a procedure that is found has a number below the built-in ones
found_below : (q : ProcedureName → Bool) (hs : List ProcedureName) (f : ℕ) → length hs ≤ TRUE_PROCEDURE → position q hs ≡ Some f
    → (f ≡ position_or_len q hs) × (f < TRUE_PROCEDURE)
found_below q hs f few e =
    let r = cond_some (nat_lt (position_or_len q hs) (length hs)) (position_or_len q hs) f e in
    let lt : position_or_len q hs < length hs = ltb-true (position_or_len q hs) (length hs) r.0 in
    let same : position_or_len q hs ≡ f = r.1 in
    (sym same, omega (arith, lt, same, few))

module _ (hs : List ProcedureName) (few : length hs ≤ TRUE_PROCEDURE) (name : Sym) (ts : List (Term ℕ)) (vars f k p : ℕ) (ws ws' : List ℕ)
    (l : LaysCall vars ts f k p ws ws') where
  named : (n : ℕ) → position (same_procedure (name_with_arity name n)) hs ≡ Some f
      → LaysItem vars (user (position_or_len (same_procedure (name_with_arity name n)) hs) ts) k p ws ws'
  named n e =
      let r = found_below (same_procedure (name_with_arity name n)) hs f few e in
      subst (λ i. LaysItem vars (user i ts) k p ws ws') r.0 (call_item vars ts f k p ws ws' r.1 l)

  no_arguments : (i : ℕ) → name.0 ≡ i → length ts ≡ 0
      → cond (nat_eq name.0 0 && nat_eq 0 0) (Some TRUE_PROCEDURE) (position (same_procedure (name_with_arity name 0)) hs) ≡ Some f
      → LaysItem vars (elim i [
        | zero ↦ true'
        | suc j ↦ user (position_or_len (same_procedure (name_with_arity name 0)) hs)
            ts
      ]) k p ws ws'
  no_arguments zero e z is =
      let b : (nat_eq name.0 0 && nat_eq 0 0) ≡ true = and_from (nat_eq name.0 0) (nat_eq 0 0) (eq-eqb name.0 0 e) refl in
      let f' : Some TRUE_PROCEDURE ≡ Some f =
      ap (λ c. cond c (Some TRUE_PROCEDURE) (position (same_procedure (name_with_arity name 0)) hs)) (sym b) ∙ is in
      true_item vars f k p ws ws' (sym (same_Some TRUE_PROCEDURE f f')) (subst (λ us. LaysCall vars us f k p ws ws') (none_left ts z) l)
    where
      none_left : (us : List (Term ℕ)) → length us ≡ 0 → us ≡ []
      none_left [] h = refl
      none_left (u ∷ us) h = absurd (omega (arith, h))
  no_arguments (suc i) e z is =
      let b : nat_eq name.0 0 ≡ false = ne_eqb name.0 0 (λ z. omega (arith, z, e)) in
      named 0 (ap (λ c. cond (c && nat_eq 0 0) (Some TRUE_PROCEDURE) (position (same_procedure (name_with_arity name 0)) hs)) (sym b) ∙ is)

  pub user_item : (n : ℕ) → length ts ≡ n
      → cond (nat_eq name.0 0 && nat_eq n 0) (Some TRUE_PROCEDURE) (position (same_procedure (name_with_arity name n)) hs) ≡ Some f
      → LaysItem vars (user_goal hs name n ts) k p ws ws'
  user_item zero e is = no_arguments name.0 refl e is
  user_item (suc n) e is =
      named (suc n) (ap (λ b. cond b (Some TRUE_PROCEDURE) (position (same_procedure (name_with_arity name (suc n))) hs))
      (sym (off name.0)) ∙ is)
    where
      off : (i : ℕ) → (nat_eq i 0 && nat_eq (suc n) 0) ≡ false
      off i = and_false (nat_eq i 0) (nat_eq (suc n) 0) (ne_eqb (suc n) 0 (λ z. omega (arith, z)))

user_over : (hs : List ProcedureName) (name : Sym) (n : ℕ) (ts : List (Term ℕ)) (vars : ℕ) → length ts ≡ n
    → GoalOver (IsNumbered vars) (user_goal hs name n ts) → AllOver (IsNumbered vars) ts
user_over hs name zero [] vars e h = tt
user_over hs name zero (t ∷ ts) vars e h = absurd (omega (arith, e))
user_over hs name (suc n) ts vars e h = h

pub user_laid : (m : Module) (call : Call) (name : Sym) (args args' : List source.Term) (o : Option ℕ) (f k vars : ℕ) (ws ws' : List ℕ)
    → call ≡ User name args → args' ≡ args → IsNumberIn m call f
    → ((n : ℕ) → AllOver (IsNumbered n) (map term_of args') → IfSome o (λ p. LaysCall n (map term_of args') f k p ws ws'))
    → GoalOver (IsNumbered vars) (called m call) → IfSome o (λ p. LaysItem vars (called m call) k p ws ws')
user_laid m call name args args' o f k vars ws ws' e ea is laid over =
    IfSome_then o (laid vars
    (user_over (procedure_names m.clauses) name (length args) (map term_of args') vars size
    (subst (GoalOver (IsNumbered vars)) shape over))) (λ p l.
    subst (λ g. LaysItem vars g k p ws ws') (sym shape)
    (user_item (procedure_names m.clauses) is.few name (map term_of args') vars f k p ws ws' l (length args) size
    (ap (number_of_call m) (sym e) ∙ is.number)))
  where
    shape : called m call ≡ user_goal (procedure_names m.clauses) name (length args) (map term_of args')
    shape = ap (called m) e ∙ ap (λ ts. user_goal (procedure_names m.clauses) name (length args) (map term_of ts)) (sym ea)

    size : length (map term_of args') ≡ length args
    size = length-map args' term_of ∙ ap length ea

-- the two sides of `=` and its process are an item
pub unify_laid : (m : Module) (call : Call) (left right : source.Term) (o : Option ℕ) (f k vars : ℕ) (ws ws' : List ℕ)
    → call ≡ Unify left right → IsNumberIn m call f
    → ((n : ℕ) → Over (IsNumbered n) (term_of left) → Over (IsNumbered n) (term_of right)
    → IfSome o (λ p. LaysUnify n (term_of left) (term_of right) f k p ws ws'))
    → GoalOver (IsNumbered vars) (called m call) → IfSome o (λ p. LaysItem vars (called m call) k p ws ws')
unify_laid m call left right o f k vars ws ws' e is laid over =
    let shape : called m call ≡ unifies (term_of left) (term_of right) = ap (called m) e in
    let both = subst (GoalOver (IsNumbered vars)) shape over in
    IfSome_then o (laid vars both.0 both.1) (λ p l. subst (λ g. LaysItem vars g k p ws ws') (sym shape)
    (headed_item vars (term_sizes (term_of left) ++ term_sizes (term_of right)) (unifies (term_of left) (term_of right)) k f p _ ws ws' l.headed
    (append_assoc (term_sizes (term_of left)) (term_sizes (term_of right)) (6 ∷ [])) (
      procedure_is p f UNIFY_PROCEDURE (same_Some f UNIFY_PROCEDURE (sym is.number ∙ ap (number_of_call m) e)) l.headed.procedure,
      l.headed.count,
      l.args,
    )))
  where
    procedure_is : (p g h : ℕ) → g ≡ h → At (inside_at ws') (p + 2) (Raw g) → At (inside_at ws') (p + 2) (Raw h)
    procedure_is p g h i a = subst (λ j. At (inside_at ws') (p + 2) (Raw j)) i a

-- and so are those of `:=`
pub assign_laid : (m : Module) (call : Call) (left : source.Term) (right : source_expr.Expr) (o : Option ℕ) (f k vars : ℕ) (ws ws' : List ℕ)
    → call ≡ Assign left right → IsNumberIn m call f
    → ((n : ℕ) → Over (IsNumbered n) (term_of left) → ExprOver (IsNumbered n) (expr_of right)
    → IfSome o (λ p. LaysAssign n (term_of left) (expr_of right) f k p ws ws'))
    → GoalOver (IsNumbered vars) (called m call) → IfSome o (λ p. LaysItem vars (called m call) k p ws ws')
assign_laid m call left right o f k vars ws ws' e is laid over =
    let shape : called m call ≡ assigns (term_of left) (expr_of right) = ap (called m) e in
    let both = subst (GoalOver (IsNumbered vars)) shape over in
    IfSome_then o (laid vars both.0 both.1) (λ p l. subst (λ g. LaysItem vars g k p ws ws') (sym shape)
    (headed_item vars (term_sizes (term_of left) ++ expr_sizes (expr_of right)) (assigns (term_of left) (expr_of right)) k f p _ ws ws' l.headed
    (append_assoc (term_sizes (term_of left)) (expr_sizes (expr_of right)) (6 ∷ [])) (
      procedure_is p f ASSIGN_PROCEDURE (same_Some f ASSIGN_PROCEDURE (sym is.number ∙ ap (number_of_call m) e)) l.headed.procedure,
      l.headed.count,
      (l.first, l.second, l.headed.stand.0, l.left, second_at p l.second l.headed.stand.1.0, l.right),
    )))
  where
    procedure_is : (p g h : ℕ) → g ≡ h → At (inside_at ws') (p + 2) (Raw g) → At (inside_at ws') (p + 2) (Raw h)
    procedure_is p g h i a = subst (λ j. At (inside_at ws') (p + 2) (Raw j)) i a

    second_at : (p x : ℕ) → inside_at ws' (suc (p + 4)) ≡ Some x → inside_at ws' (p + 5) ≡ Some x
    second_at p x i = subst (λ a. inside_at ws' a ≡ Some x) (omega arith) i
