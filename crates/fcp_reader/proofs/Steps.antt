-- Machines that read terminals, which say of each whether it is one too many.
use Rattle.std.proofs.Common.{◌≡◌, List, [], ◌∷◌, ◌++◌, refl, ap, ◌∙◌, Option, Some, None, Bool, true, false}
use Rattle.fcp_grammar.specs.declared.terminals.Terminal.{Terminal}
use Rattle.fcp_grammar.specs.Grammar.{Marked}
use Rattle.fcp_reader.specs.Faults.{unmarked}
use Rattle.fcp_grammar.proofs.Follow.{then, follow, Runs}

abbrev pub agree : Bool → Bool → Bool
agree true b = b
agree false true = false
agree false false = true

abbrev pub kept : {S : Type 0} → S → Bool → Option S
kept s true = Some s
kept s false = None

abbrev pub check : {S : Type 0} → Option (S × Bool) → Bool → Option S
check (Some p) b = kept p.0 (agree p.1 b)
check None b = None

-- one more terminal, with the mark that it has
abbrev pub go : {S : Type 0} → (S → Terminal → Option (S × Bool)) → S → Marked → Option S
go step s w = check (step s w.0) w.1

pub agrees : (b : Bool) → agree b b ≡ true
agrees true = refl
agrees false = refl

pub checked : {S : Type 0} (o : Option (S × Bool)) (s : S) (b : Bool) → o ≡ Some (s, b) → check o b ≡ Some s
checked o s b e = ap (λ p. check p b) e ∙ ap (kept s) (agrees b)

pub go_on : {S : Type 0} (step : S → Terminal → Option (S × Bool)) (x y : S) (w : Terminal) (b : Bool) (rest : List Marked)
    → step x w ≡ Some (y, b) → Runs (go step) x ((w, b) ∷ rest) y rest
go_on step x y w b rest e = record { same = ap (λ o. then o (λ s. follow (go step) s rest)) (checked (step x w) y b e) }

abbrev pub next : {S : Type 0} → Option (S × Bool) → Option S
next (Some p) = Some p.0
next None = None

-- the steps, whatever the marks
abbrev pub walk : {S : Type 0} → (S → Terminal → Option (S × Bool)) → S → List Terminal → Option S
walk step s [] = Some s
walk step s (w ∷ ws) = then (next (step s w)) (λ t. walk step t ws)

pub walk-append : {S : Type 0} (step : S → Terminal → Option (S × Bool)) (s : S) (a b : List Terminal)
    → walk step s (a ++ b) ≡ then (walk step s a) (λ t. walk step t b)
walk-append step s [] b = refl
walk-append {S} step s (w ∷ a) b =
    let P : Option S → Type 0 = λ o. then o (λ t. walk step t (a ++ b)) ≡ then (then o (λ t. walk step t a)) (λ t. walk step t b) in
    elim (next (step s w)) as P [ Some t ↦ walk-append step t a b | None ↦ refl ]

agree-true : {S : Type 0} (a b : Bool) (s t : S) → kept s (agree a b) ≡ Some t → (s ≡ t) × (a ≡ b)
agree-true true true s t e = (cc, refl)
agree-true true false s t e = (cc, cc)
agree-true false true s t e = (cc, cc)
agree-true false false s t e = (cc, refl)

-- a step with its mark
pub step-of : {S : Type 0} (o : Option (S × Bool)) (b : Bool) (t : S) → check o b ≡ Some t → o ≡ Some (t, b)
step-of (Some p) b t e = let h : (p.0 ≡ t) × (p.1 ≡ b) = agree-true p.1 b p.0 t e in ap (λ x. Some (x, p.1)) h.0 ∙ ap (λ x. Some (t, x)) h.1
step-of None b t e = cc

pub then-some : {S : Type 0} (o : Option S) (f : S → Option S) (t : S) → then o f ≡ Some t → (s : S) × (o ≡ Some s) × (f s ≡ Some t)
then-some (Some s) f t e = (s, refl, e)
then-some None f t e = cc

pub follow-walk : {S : Type 0} (step : S → Terminal → Option (S × Bool)) (s t : S) (ms : List Marked) → follow (go step) s ms ≡ Some t
    → walk step s (unmarked ms) ≡ Some t
follow-walk step s t [] e = e
follow-walk {S} step s t (m ∷ ms) e =
    let h : (u : S) × (go step s m ≡ Some u) × (follow (go step) u ms ≡ Some t) =
    then-some (go step s m) (λ u. follow (go step) u ms) t e in
    ap (λ o. then (next o) (λ u. walk step u (unmarked ms))) (step-of (step s m.0) m.1 h.0 h.1) ∙ follow-walk step h.0 t ms h.2

-- the state behind the first terminals
pub follow-front : {S : Type 0} (step : S → Terminal → Option (S × Bool)) (s u : S) (front more : List Marked)
    → follow (go step) s (front ++ more) ≡ Some u
    → (t : S) × (walk step s (unmarked front) ≡ Some t) × (follow (go step) t more ≡ Some u)
follow-front step s u [] more e = (s, refl, e)
follow-front {S} step s u (m ∷ front) more e =
    let h : (x : S) × (go step s m ≡ Some x) × (follow (go step) x (front ++ more) ≡ Some u) =
    then-some (go step s m) (λ x. follow (go step) x (front ++ more)) u e in
    let k : (t : S) × (walk step h.0 (unmarked front) ≡ Some t) × (follow (go step) t more ≡ Some u) =
    follow-front step h.0 u front more h.2 in
    (k.0, ap (λ o. then (next o) (λ x. walk step x (unmarked front))) (step-of (step s m.0) m.1 h.0 h.1) ∙ k.1, k.2)
