-- Writing a piece by as many writes as it takes.
use Rattle.std.proofs.Common.{◌≡◌, ℕ, ◌+◌, ◌-◌, ◌≤◌, List, [], ◌∷◌, ◌++◌, length, take, drop, Option, Some, None, subst, ap, sym, ◌∙◌, refl, arith, append_assoc}
use Rattle.std.specs.Io.KnownBytes.{Appends, Keeps}
use Rattle.std.proofs.lemmas.List.{append-nil, take-append-drop, take_all, length-drop}
use Rattle.std.proofs.Math.Seq.{take-append-add}

-- a piece was written as far as the rest
pub record HasWritten (old new : Option (List ℕ)) (piece rest : List ℕ) : Type 0 where
  pub done : List ℕ
  pub whole : done ++ rest ≡ piece
  pub written : Appends old new done

pub none-written : (old : Option (List ℕ)) (piece : List ℕ) → HasWritten old old piece piece
none-written None piece = record { done = []; whole = refl; written = tt }
none-written (Some xs) piece = record { done = []; whole = refl; written = sym (append-nil xs) }

appends-append : (old now new : Option (List ℕ)) (xs ys : List ℕ) → Appends old now xs → Appends now new ys → Appends old new (xs ++ ys)
appends-append None now new xs ys a b = tt
appends-append (Some bs) (Some cs) (Some ds) xs ys a b = b ∙ ap (λ zs. zs ++ ys) a ∙ append_assoc bs xs ys
appends-append (Some bs) (Some cs) None xs ys a b = b
appends-append (Some bs) None new xs ys a b = absurd a

pub keeps-nothing : (old new : Option (List ℕ)) → Keeps old new → Appends old new []
keeps-nothing None new k = tt
keeps-nothing (Some xs) None k = k
keeps-nothing (Some xs) (Some ys) k = k ∙ sym (append-nil xs)

-- what a write took, and the rest
pub front-rest : (n : ℕ) (xs : List ℕ) → take n xs ++ take (length xs - n) (drop n xs) ≡ xs
front-rest n xs = ap (λ ys. take n xs ++ ys) (take_all (length xs - n) (drop n xs) (omega (arith, length-drop n xs)))
    ∙ take-append-drop n xs

-- a write took some bytes more
pub more-written : (old now new : Option (List ℕ)) (piece rest taken rest' : List ℕ) → HasWritten old now piece rest
    → taken ++ rest' ≡ rest → Appends now new taken → HasWritten old new piece rest'
more-written old now new piece rest taken rest' h whole a = record {
  done = h.done ++ taken;
  whole = append_assoc h.done taken rest' ∙ ap (λ x. h.done ++ x) whole ∙ h.whole;
  written = appends-append old now new h.done taken h.written a;
}

pub all-written : (old new : Option (List ℕ)) (piece rest : List ℕ) → HasWritten old new piece rest → rest ≡ [] → Appends old new piece
all-written old new piece rest h e =
    let w : h.done ≡ piece = sym (append-nil h.done) ∙ ap (λ x. h.done ++ x) (sym e) ∙ h.whole in
    subst (λ x. Appends old new x) w h.written

pub nothing-taken : (n : ℕ) (xs : List ℕ) → n ≤ 0 → take n xs ≡ []
nothing-taken n xs h = let e : n ≡ 0 = omega (arith, h) in ap (λ k. take k xs) e

-- after a write that failed or took nothing, a front is written
pub front-written : (old now new : Option (List ℕ)) (piece rest xs : List ℕ) → HasWritten old now piece rest → xs ≡ []
    → Appends now new xs → (k : ℕ) × Appends old new (take k piece)
front-written old now new piece rest xs h e a =
    let w : h.done ++ xs ≡ take (length h.done + 0) piece =
    ap (λ x. h.done ++ x) e ∙ sym (take-append-add h.done rest 0) ∙ ap (take (length h.done + 0)) h.whole in
    (length h.done + 0, subst (λ x. Appends old new x) w (appends-append old now new h.done xs h.written a))

pub no-rest : (rest : List ℕ) → length rest ≡ 0 → rest ≡ []
no-rest [] e = refl
no-rest (b ∷ bs) e = absurd (omega (arith, e))
