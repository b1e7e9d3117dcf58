-- Quotes that are doubled, one byte more at a time.
use Rattle.std.proofs.Common.{◌≡◌, ℕ, List, [], ◌∷◌, ◌++◌, refl, sym, ap, ◌∙◌, append_assoc, if◌then◌else◌, take, ◌+◌, ◌<◌, length, get_or}
use Rattle.std.specs.Prelude.{nat_eq}
use Rattle.std.proofs.lemmas.List.{take_more}
use Rattle.fcp_model.specs.Spelling.{doubled}

doubled-append : (xs ys : List ℕ) → doubled (xs ++ ys) ≡ doubled xs ++ doubled ys
doubled-append [] ys = refl
doubled-append (x ∷ xs) ys =
    let one : List ℕ = if nat_eq x 39 then 39 ∷ 39 ∷ [] else x ∷ [] in
    ap (λ l. one ++ l) (doubled-append xs ys) ∙ sym (append_assoc one (doubled xs) (doubled ys))

-- the quoted form of one byte more
pub doubled_more : (old new start s : List ℕ) (i : ℕ) → i < length s → old ≡ start ++ doubled (take i s) → new ≡ old ++ doubled (get_or s i 0 ∷ [])
    → new ≡ start ++ doubled (take (i + 1) s)
doubled_more old new start s i h e f =
    let more : doubled (take (i + 1) s) ≡ doubled (take i s) ++ doubled (get_or s i 0 ∷ []) =
    ap doubled (take_more s i 0 h) ∙ doubled-append (take i s) (get_or s i 0 ∷ []) in
    f ∙ (ap (λ l. l ++ doubled (get_or s i 0 ∷ [])) e ∙ (append_assoc start _ _ ∙ ap (λ l. start ++ l) (sym more)))
