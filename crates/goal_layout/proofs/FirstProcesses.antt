-- The processes of a goal, and where they are.
use Rattle.std.proofs.Common.{◌≡◌, ℕ, zero, suc, ◌+◌, List, [], ◌∷◌, ◌++◌, length, map, slice_get, Some, refl, sym, ap, ◌∙◌, subst, arith}
use Rattle.std.proofs.Common.{◌⊎◌, inl, inr, ⊎_elim}
use Rattle.std.proofs.lemmas.Option.{same_Some}
use Rattle.fcp_model.specs.Places.{Variable, proc}
use Rattle.fcp_model.specs.Programs.{Goal}
use Rattle.fcp_model.specs.States.{ready, Process, processes_of}
use Rattle.word_states.specs.Words.{Words, IsIn, AreDistinct}
use Rattle.word_states.specs.Denoting.{Addresses}
use Rattle.word_states.specs.Standing.{ProcessSays, StandsAt}
use Rattle.goal_layout.specs.Items.{new_process, settled_goal}

-- processes are at these addresses, numbered from k on
abbrev pub AreAt : Words → Addresses → ℕ → List ℕ → List (Goal ℕ) → Type 0
AreAt w vs k [] [] = Unit {0}
AreAt w vs k (p ∷ ps) (g ∷ gs) = ProcessSays w vs [] 0 p (new_process k g) × AreAt w vs (suc k) ps gs
AreAt w vs k _ _ = ⊥

pub are_more : (w : Words) (vs : Addresses) (k p : ℕ) (g : Goal ℕ) (ps : List ℕ) (gs : List (Goal ℕ)) → AreAt w vs k ps gs
    → ProcessSays w vs [] 0 p (new_process (k + length ps) g) → AreAt w vs k (ps ++ p ∷ []) (gs ++ g ∷ [])
are_more w vs k p g [] [] h s = (subst (λ j. ProcessSays w vs [] 0 p (new_process j g)) (omega arith) s, tt)
are_more w vs k p g [] (u ∷ gs) h s = absurd h
are_more w vs k p g (q ∷ ps) [] h s = absurd h
are_more w vs k p g (q ∷ ps) (u ∷ gs) h s =
    (h.0, are_more w vs (suc k) p g ps gs h.1 (subst (λ j. ProcessSays w vs [] 0 p (new_process j g)) (omega arith) s))

pub are_count : (w : Words) (vs : Addresses) (k : ℕ) (ps : List ℕ) (gs : List (Goal ℕ)) → AreAt w vs k ps gs → length ps ≡ length gs
are_count w vs k [] [] h = refl
are_count w vs k [] (u ∷ gs) h = absurd h
are_count w vs k (q ∷ ps) [] h = absurd h
are_count w vs k (q ∷ ps) (u ∷ gs) h = ap suc (are_count w vs (suc k) ps gs h.1)

pub count_processes : (n k : ℕ) (gs : List (Goal Variable)) → length (processes_of n k gs) ≡ length gs
count_processes n k [] = refl
count_processes n k (g ∷ gs) = ap suc (count_processes n (suc k) gs)

-- the process at one of the addresses
pub one_of : (w : Words) (vs : Addresses) (k : ℕ) (ps : List ℕ) (gs : List (Goal ℕ)) (p : ℕ) → AreAt w vs k ps gs → IsIn p ps
    → (j : ℕ) × (g : Goal ℕ) × ProcessSays w vs [] 0 p (new_process j g)
one_of w vs k [] [] p h i = absurd i
one_of w vs k [] (u ∷ gs) p h i = absurd h
one_of w vs k (q ∷ ps) [] p h i = absurd h
one_of w vs k (q ∷ ps) (u ∷ gs) p h (inl e) = (k, u, subst (λ a. ProcessSays w vs [] 0 a (new_process k u)) e h.0)
one_of w vs k (q ∷ ps) (u ∷ gs) p h (inr i) = one_of w vs (suc k) ps gs p h.1 i

-- a process that stands at an address, by its position
pub record IsAt (k : ℕ) (ps : List ℕ) (qs : List Process) (p : ℕ) (x : Process) : Type 0 where
  pub position : ℕ
  pub address : slice_get ps position ≡ Some p
  pub process : slice_get qs position ≡ Some x
  pub name : x.name ≡ proc 0 (k + position)
  pub status : x.status ≡ ready

pub stands_is : (k : ℕ) (ps : List ℕ) (gs : List (Goal Variable)) (p : ℕ) (x : Process) → StandsAt ps (processes_of 0 k gs) p x
    → IsAt k ps (processes_of 0 k gs) p x
stands_is k [] gs p x h = absurd h
stands_is k (q ∷ ps) [] p x h = absurd h
stands_is k (q ∷ ps) (g ∷ gs) p x (inl h) = record {
  position = 0;
  address = ap Some h.0;
  process = ap Some h.1;
  name = ap (λ y. y.name) (sym h.1) ∙ ap (proc 0) (omega arith);
  status = ap (λ y. y.status) (sym h.1);
}
stands_is k (q ∷ ps) (g ∷ gs) p x (inr h) =
    let r = stands_is (suc k) ps gs p x h in
    record {
      position = suc r.position;
      address = r.address;
      process = r.process;
      name = r.name ∙ ap (proc 0) (omega arith);
      status = r.status;
    }

-- what it says
pub stands_says : (w : Words) (vs : Addresses) (k : ℕ) (ps : List ℕ) (gs : List (Goal ℕ)) (p : ℕ) (x : Process) → AreAt w vs k ps gs
    → StandsAt ps (processes_of 0 k (map settled_goal gs)) p x → ProcessSays w vs [] 0 p x
stands_says w vs k [] gs p x h s = absurd s
stands_says w vs k (q ∷ ps) [] p x h s = absurd s
stands_says w vs k (q ∷ ps) (u ∷ gs) p x h (inl s) =
    subst (λ a. ProcessSays w vs [] 0 a x) s.0 (subst (λ y. ProcessSays w vs [] 0 q y) s.1 h.0)
stands_says w vs k (q ∷ ps) (u ∷ gs) p x h (inr s) = stands_says w vs (suc k) ps gs p x h.1 s

-- each of the addresses has a process
pub in_stands : (ps : List ℕ) (qs : List Process) (p : ℕ) → length ps ≡ length qs → IsIn p ps → (x : Process) × StandsAt ps qs p x
in_stands [] qs p e i = absurd i
in_stands (q ∷ ps) [] p e i = absurd (omega (arith, e))
in_stands (q ∷ ps) (x ∷ qs) p e (inl h) = (x, inl (h, refl))
in_stands (q ∷ ps) (x ∷ qs) p e (inr i) = let r = in_stands ps qs p (omega (arith, e)) i in (r.0, inr r.1)

position_in : (ps : List ℕ) (j q : ℕ) → slice_get ps j ≡ Some q → IsIn q ps
position_in [] j q e = cc
position_in (p ∷ ps) zero q e = inl (same_Some p q e)
position_in (p ∷ ps) (suc j) q e = inr (position_in ps j q e)

-- an address stands at one position
pub one_position : (ps : List ℕ) (i j p : ℕ) → AreDistinct ps → slice_get ps i ≡ Some p → slice_get ps j ≡ Some p → i ≡ j
one_position [] i j p d e f = cc
one_position (q ∷ ps) zero zero p d e f = refl
one_position (q ∷ ps) zero (suc j) p d e f = absurd (d.0 (position_in ps j q (f ∙ sym e)))
one_position (q ∷ ps) (suc i) zero p d e f = absurd (d.0 (position_in ps i q (e ∙ sym f)))
one_position (q ∷ ps) (suc i) (suc j) p d e f = ap suc (one_position ps i j p d.1 e f)

-- one address more
pub in_left : (p q : ℕ) (ps : List ℕ) → IsIn p ps → IsIn p (ps ++ q ∷ [])
in_left p q [] i = absurd i
in_left p q (r ∷ ps) (inl e) = inl e
in_left p q (r ∷ ps) (inr i) = inr (in_left p q ps i)

pub in_last : (q : ℕ) (ps : List ℕ) → IsIn q (ps ++ q ∷ [])
in_last q [] = inl refl
in_last q (r ∷ ps) = inr (in_last q ps)

pub in_either : (p q : ℕ) (ps : List ℕ) → IsIn p (ps ++ q ∷ []) → IsIn p ps ⊎ (q ≡ p)
in_either p q [] (inl e) = inr e
in_either p q [] (inr i) = absurd i
in_either p q (r ∷ ps) (inl e) = inl (inl e)
in_either p q (r ∷ ps) (inr i) = ⊎_elim (λ (t : IsIn p ps). inl (inr t)) (λ (t : q ≡ p). inr t) (in_either p q ps i)

pub distinct_more : (q : ℕ) (ps : List ℕ) → AreDistinct ps → (IsIn q ps → ⊥) → AreDistinct (ps ++ q ∷ [])
distinct_more q [] d n = ((λ i. i), tt)
distinct_more q (r ∷ ps) d n = (
  λ i. ⊎_elim (λ t. d.0 t) (λ e. n (inl (sym e))) (in_either r q ps i),
  distinct_more q ps d.1 (λ i. n (inr i)),
)
