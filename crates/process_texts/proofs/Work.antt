-- The items of an expression: each piece leaves fewer steps, and their words lead to known addresses.
use Rattle.std.proofs.Common.{◌≡◌, ℕ, suc, ◌+◌, ◌*◌, ◌<◌, List, ◌∷◌, ◌++◌, length, Option, Some, None, refl, sym, ap, ◌∙◌, subst, arith}
use Rattle.fcp_model.specs.declared.term.ArithOp.{ArithOp}
use Rattle.heap_words.specs.WordsLaws.{WordsLaws}
use Rattle.heap_words.specs.Trails.{WordList, Memory, KeepsLoads}
use Rattle.ro_unify.specs.Occurs.{Each}
use Rattle.ro_unify.specs.Walks.{seen_memory, Tame, total, weight, lacks, most, steps_left, words_left}
use Rattle.ro_unify.proofs.Stacks.{Each-more}
use Rattle.stored_expressions.specs.Listing.{operation_of, operands}
use Rattle.stored_expressions.proofs.Walking.{seen_visit_falls}
use Rattle.process_texts.specs.declared.items.Item.{Item}
use Rattle.process_texts.specs.declared.items.Item.TheVariants.{Operand, Operator, Close}
use Rattle.process_texts.specs.Pieces.{next_items, ItemLeads, words_in, items_left}

item_stays : (P Q : ℕ → Type 0) → ((x : ℕ) → P x → Q x) → (i : Item) → ItemLeads P i → ItemLeads Q i
item_stays P Q f (Operand x) h = f x h
item_stays P Q f (Operator o) h = tt
item_stays P Q f Close h = tt

-- items go on to lead to known addresses
pub items_stay : (P Q : ℕ → Type 0) → ((x : ℕ) → P x → Q x) → (is : List Item) → Each (ItemLeads P) is → Each (ItemLeads Q) is
items_stay P Q f is h = Each-more (ItemLeads P) (ItemLeads Q) is (item_stays P Q f) h

-- numbers of steps
less_one : (b n : ℕ) → 4 * b + n < 4 * b + suc n
less_one b n = omega arith

less_word : (b c n : ℕ) → b < c → 4 * b + n < 4 * c + suc n
less_word b c n h = omega arith

less_operation : (a b c n : ℕ) → a ≡ b → b < c → 4 * a + suc (suc (suc (suc n))) < 4 * c + suc n
less_operation a b c n e h = omega arith

module _ (n : ℕ) (binds kept : WordList) (own : ℕ → Option ℕ) where
  -- an operator or a parenthesis fewer
  pub operator_falls : (o : ArithOp) (is : List Item) → items_left n binds kept own is < items_left n binds kept own (Operator o ∷ is)
  operator_falls o is = less_one (words_left n binds kept own (words_in is)) (length is)

  pub close_falls : (is : List Item) → items_left n binds kept own is < items_left n binds kept own (Close ∷ is)
  close_falls is = less_one (words_left n binds kept own (words_in is)) (length is)

  -- two words may change their places
  swapped : (x y : ℕ) (ws : List ℕ) → words_left n binds kept own (x ∷ y ∷ ws) ≡ words_left n binds kept own (y ∷ x ∷ ws)
  swapped x y ws =
      ap (steps_left (most n) (lacks kept n))
      (exchanged (weight n binds kept own x) (weight n binds kept own y) (total (weight n binds kept own) ws))
    where
      exchanged : (a b c : ℕ) → a + (b + c) ≡ b + (a + c)
      exchanged a b c = omega arith

module _ {S : Type 0} {addresses : S → ℕ} {sound : S → Type 0} {knows : S → ℕ → Type 0} {had : S → ℕ → ℕ → Type 0} {leads : S → ℕ → Type 0}
    {own shown : S → ℕ → Option ℕ} {later : S → S → Type 0} {gave : S → S → ℕ → ℕ → Type 0}
    (laws : WordsLaws {S = S} addresses sound knows had leads own shown later gave) where
  -- an operand, and what comes next of it
  pub operand_falls : {kept binds kept' binds' : WordList} {v w : S} (x : ℕ) (is js : List Item)
      → KeepsLoads sound had leads later gave kept binds v kept' binds' w → binds' ≡ binds → Tame binds kept (own v) (addresses v)
      → js ≡ next_items (seen_memory kept' (own w)) (operation_of (seen_memory kept' (own w)) x) ++ is
      → items_left (addresses w) binds' kept' (own w) js < items_left (addresses v) binds kept (own v) (Operand x ∷ is)
  operand_falls {kept = kept} {binds = binds} {kept' = kept'} {binds' = binds'} {v = v} {w = w} x is js l same t now =
      go (operation_of m x) refl
    where
      m : Memory
      m = seen_memory kept' (own w)

      fewer : (o : Option (ArithOp × ℕ)) → operation_of m x ≡ o
          → words_left (addresses w) binds' kept' (own w) (operands m o ++ words_in is)
          < words_left (addresses v) binds kept (own v) (x ∷ words_in is)
      fewer o i =
          subst (λ (q : Option (ArithOp × ℕ)). words_left (addresses w) binds' kept' (own w) (operands m q ++ words_in is)
          < words_left (addresses v) binds kept (own v) (x ∷ words_in is)) i
          (seen_visit_falls laws x (words_in is) (operands m (operation_of m x) ++ words_in is) l same t refl)

      falls : (ks : List Item) → js ≡ ks
          → items_left (addresses w) binds' kept' (own w) ks < items_left (addresses v) binds kept (own v) (Operand x ∷ is)
          → items_left (addresses w) binds' kept' (own w) js < items_left (addresses v) binds kept (own v) (Operand x ∷ is)
      falls ks e h =
          subst (λ (us : List Item). items_left (addresses w) binds' kept' (own w) us
          < items_left (addresses v) binds kept (own v) (Operand x ∷ is)) (sym e) h

      go : (o : Option (ArithOp × ℕ)) → operation_of m x ≡ o
          → items_left (addresses w) binds' kept' (own w) js < items_left (addresses v) binds kept (own v) (Operand x ∷ is)
      go None i =
          falls is (now ∙ ap (λ (q : Option (ArithOp × ℕ)). next_items m q ++ is) i)
          (less_word (words_left (addresses w) binds' kept' (own w) (words_in is))
          (words_left (addresses v) binds kept (own v) (x ∷ words_in is)) (length is) (fewer None i))
      go (Some o) i =
          falls (Operand (m (o.1 + 1)) ∷ Operator o.0 ∷ Operand (m (o.1 + 2)) ∷ Close ∷ is)
          (now ∙ ap (λ (q : Option (ArithOp × ℕ)). next_items m q ++ is) i)
          (less_operation (words_left (addresses w) binds' kept' (own w) (m (o.1 + 1) ∷ m (o.1 + 2) ∷ words_in is))
          (words_left (addresses w) binds' kept' (own w) (m (o.1 + 2) ∷ m (o.1 + 1) ∷ words_in is))
          (words_left (addresses v) binds kept (own v) (x ∷ words_in is)) (length is)
          (swapped (addresses w) binds' kept' (own w) (m (o.1 + 1)) (m (o.1 + 2)) (words_in is)) (fewer (Some o) i))
