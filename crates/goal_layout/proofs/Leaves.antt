-- Words of numbers, and of variables.
use Rattle.std.proofs.Common.{◌≡◌, ℕ, zero, suc, ◌+◌, ◌*◌, ◌<◌, ◌≤◌, ℤ, pos, negsuc, true, false, cond, List, [], ◌∷◌, set, map, Option}
use Rattle.std.proofs.Common.{Some, None, refl, sym, ap, ◌∙◌, subst, arith, inl, inr, ⊎_elim, FitsSigned, w64}
use Rattle.std.specs.Prelude.{nat_le, IfSome}
use Rattle.std.proofs.lemmas.Int.{ints}
use Rattle.std.proofs.lemmas.Bool.{cases_eq, cases_lt, false≢true, le-leb, and_from}
use Rattle.fcp_model.specs.declared.term.Term as source
use Rattle.fcp_model.specs.declared.term.Term.{Int, Var, Ro}
use Rattle.fcp_model.specs.Places.{placed}
use Rattle.fcp_model.specs.Terms.{Term, number, var, ro}
use Rattle.fcp_model.specs.States.{count_up}
use Rattle.fcp_model.specs.Translation.{term_step, term_of}
use Rattle.fcp_model.specs.ClosedPrograms.{Over, IsNumbered}
use Rattle.fcp_model.proofs.Folds.{fold-Int, fold-Var, fold-Ro}
use Rattle.heap_words.specs.Cells.{decoded}
use Rattle.heap_words.specs.Heaps.{inside_at}
use Rattle.heap_words.specs.declared.cell.Cell.TheVariants.{Small, Wide, Ref, RoRef}
use Rattle.word_states.specs.Numbers.{bits, low_bits, IsLong}
use Rattle.word_states.specs.Denoting.{Addresses, Listed, Denotes}
use Rattle.goal_layout.specs.PieceSizes.{is_small, term_sizes}
use Rattle.goal_layout.specs.Pages.{ArePages, Takes}
use Rattle.goal_layout.specs.Laying.{IsBlank, Lays, LaysTerm, places_of}
use Rattle.goal_layout.proofs.Lays.{lays_none, take_lays, lays_written, written_word}

-- a number of 64 bits that is no small one
pub long : (z : ℤ) → is_small z ≡ false → FitsSigned w64 z → IsLong z
long (pos n) s f = ⊎_elim
    (λ h. (h, omega (arith, ints, f)))
    (λ h. absurd (false≢true (sym s ∙ le-leb n 0x7fffffffffffff h)))
    (cases_lt 0x7fffffffffffff n)
long (negsuc n) s f = ⊎_elim
    (λ h. (h, omega (arith, ints, f)))
    (λ h. absurd (false≢true (sym s ∙ and_from (nat_le n 0x7fffffffffffff) true (le-leb n 0x7fffffffffffff h) refl)))
    (cases_lt 0x7fffffffffffff n)

-- the first of the words that were taken is 0
pub taken_blank : (ws ws' : List ℕ) (n a b : ℕ) → Takes ws ws' n a → a ≤ b → b < a + n → IsBlank ws' b
taken_blank ws ws' n a b t l h = record { word = t.taken b l h; off = t.off b l h }

pub wide_laid : (vs : Addresses) (ws ws' : List ℕ) (a h x y : ℕ) (z low : ℤ) → is_small z ≡ false → FitsSigned w64 z → Takes ws ws' 1 a
    → decoded y ≡ Some (Small low) → decoded x ≡ Some (Wide a h) → bits z ≡ h * 0x100000000000000 + low_bits low
    → Lays vs (term_sizes (number z)) ws (set ws' a y) × Denotes (inside_at (set ws' a y)) vs x (number z)
wide_laid vs ws ws' a h x y z low s f t dy dx e =
    let blank : IsBlank ws' a = taken_blank ws ws' 1 a a t (omega arith) (omega arith) in
    let l : Lays vs (1 ∷ []) ws (set ws' a y) =
    lays_written ws' a y t.pages blank vs (1 ∷ []) ws (take_lays vs ws ws' 1 a t) (t.free a (omega arith) (omega arith))
    (inl (record { cell = Small low; says = dy; quiet = refl })) in (
      subst (λ b. Lays vs (cond b [] (1 ∷ [])) ws (set ws' a y)) (sym s) l,
      inr (a, h, low, dx, (y, written_word ws' a y t.pages blank, dy), e, long z s f),
    )

-- the place of a variable's number
pub place_listed : (from n k : ℕ) → from ≤ k → k < from + n → Listed (map (λ i. (placed 0 i, 2 * i)) (count_up from n)) (placed 0 k) (2 * k)
place_listed from zero k l h = absurd (omega arith)
place_listed from (suc n) k l h = ⊎_elim
    (λ e. inl (ap (λ i. (placed 0 i, 2 * i)) e))
    (λ d. inr (place_listed (suc from) n k (omega (arith, d)) (omega arith)))
    (cases_eq from k)

pub number_laid : (t : source.Term) (z : ℤ) (o : Option ℕ) (ws ws' : List ℕ) → t ≡ Int z
    → ((vs : Addresses) → IfSome o (λ x. Lays vs (term_sizes (number z)) ws ws' × Denotes (inside_at ws') vs x (number z)))
    → (vars : ℕ) → Over (IsNumbered vars) (term_of t) → IfSome o (λ x. LaysTerm vars (term_of t) x ws ws')
number_laid t z o ws ws' e laid vars over =
    subst (λ u. IfSome o (λ x. LaysTerm vars u x ws ws')) (sym (ap term_of e ∙ fold-Int (Term ℕ) term_step z)) (go o laid)
  where
    go : (o : Option ℕ) →
        ((vs : Addresses) → IfSome o (λ x. Lays vs (term_sizes (number z)) ws ws' × Denotes (inside_at ws') vs x (number z)))
        → IfSome o (λ x. LaysTerm vars (number z) x ws ws')
    go None f = tt
    go (Some x) f = let r = f (places_of vars) in record { lays = r.0; word = r.1 }

pub variable_laid : (t : source.Term) (k x : ℕ) (ws : List ℕ) → t ≡ Var k → ArePages ws → decoded x ≡ Some (Ref (2 * k)) → (vars : ℕ)
    → Over (IsNumbered vars) (term_of t) → LaysTerm vars (term_of t) x ws ws
variable_laid t k x ws e pages is vars over =
    let shape : term_of t ≡ var k = ap term_of e ∙ fold-Var (Term ℕ) term_step k in
    let o : IsNumbered vars k = subst (Over (IsNumbered vars)) shape over in
    subst (λ u. LaysTerm vars u x ws ws) (sym shape)
    (record { lays = lays_none (places_of vars) ws pages; word = (2 * k, is, place_listed 1 vars k o.0 (omega (arith, o.1))) })

pub read_only_laid : (t : source.Term) (k x : ℕ) (ws : List ℕ) → t ≡ Ro k → ArePages ws → decoded x ≡ Some (RoRef (2 * k)) → (vars : ℕ)
    → Over (IsNumbered vars) (term_of t) → LaysTerm vars (term_of t) x ws ws
read_only_laid t k x ws e pages is vars over =
    let shape : term_of t ≡ ro k = ap term_of e ∙ fold-Ro (Term ℕ) term_step k in
    let o : IsNumbered vars k = subst (Over (IsNumbered vars)) shape over in
    subst (λ u. LaysTerm vars u x ws ws) (sym shape)
    (record { lays = lays_none (places_of vars) ws pages; word = (2 * k, is, place_listed 1 vars k o.0 (omega (arith, o.1))) })
