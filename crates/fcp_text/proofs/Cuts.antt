-- One piece of a text after another, and what the loop over the pieces keeps.
use Rattle.std.proofs.Common.{◌≡◌, ℕ, zero, suc, ◌+◌, ◌-◌, ◌≤◌, Bool, List, [], ◌∷◌, ◌++◌, take, drop, refl, ap, ◌∙◌, sym, subst, arith, append_assoc, true, length, length-drop, ◌<◌, append-nil}
use Rattle.std.proofs.Math.Seq.{drop-length}
use Rattle.std.proofs.lemmas.List.{drop-drop, take_rest}
use Rattle.std.specs.Prelude.{Ok, Err}
use Rattle.fcp_model.specs.declared.fault.Code.{Code}
use Rattle.fcp_text.specs.declared.pieces.Kind.{Kind}
use Rattle.fcp_text.specs.declared.pieces.Piece.TheVariants as piece
use Rattle.fcp_text.specs.declared.lexer.Token.{Token}
use Rattle.fcp_text.specs.Bytes.{Text}
use Rattle.fcp_text.specs.Pieces.{scan}
use Rattle.fcp_text.specs.Tokens.{lex_from, piece_then, front, sign_after, Outcome}

skips : (s : Bool) (n at : ℕ) (z : Text) → lex_from s at n z ≡ lex_from s (at + n) 0 (drop n z)
skips s zero at z = let e : at ≡ at + 0 = omega arith in ap (λ a. lex_from s a 0 z) e
skips s (suc n) at [] = refl
skips s (suc n) at (b ∷ z) =
    skips s n (at + 1) z ∙ ap (λ a. lex_from s a 0 (drop n z)) (let e : (at + 1) + n ≡ at + suc n = omega arith in e)

goes : (s : Bool) (n at b : ℕ) (z : Text) → 1 ≤ n → lex_from s (at + 1) (n - 1) z ≡ lex_from s (at + n) 0 (drop n (b ∷ z))
goes s zero at b z h = absurd (omega arith)
goes s (suc n) at b z h =
    let e : suc n - 1 ≡ n = omega arith in
    let g : (at + 1) + n ≡ at + suc n = omega arith in
    ap (λ k. lex_from s (at + 1) k z) e ∙ skips s n (at + 1) z ∙ ap (λ a. lex_from s a 0 (drop n z)) g

pub lex_gap : (s : Bool) (n at : ℕ) (z : Text) → 1 ≤ n → scan s z ≡ piece.Gap n → lex_from s at 0 z ≡ lex_from s (at + n) 0 (drop n z)
lex_gap s zero at z h e = absurd (omega arith)
lex_gap s (suc n) at [] h e = refl
lex_gap s (suc n) at (b ∷ z) h e = ap (λ p. piece_then at (b ∷ z) s p (λ t k. lex_from t (at + 1) k z)) e ∙ goes s (suc n) at b z h

pub lex_bad : (s : Bool) (at : ℕ) (z : Text) (c : Code) → 1 ≤ length z → scan s z ≡ piece.Bad c
    → lex_from s at 0 z ≡ Err (record { code = c; at = at })
lex_bad s at [] c h e = absurd (omega arith)
lex_bad s at (b ∷ z) c h e = ap (λ p. piece_then at (b ∷ z) s p (λ t k. lex_from t (at + 1) k z)) e

pub lex_token : (s : Bool) (n at : ℕ) (z : Text) (k : Kind) → 1 ≤ length z → 1 ≤ n → scan s z ≡ piece.Token k n
    → lex_from s at 0 z ≡ front (record { kind = k; at = at; len = n } ∷ []) (lex_from (sign_after (take n z) k) (at + n) 0 (drop n z))
lex_token s n at [] k l h e = absurd (omega arith)
lex_token s n at (b ∷ z) k l h e =
    ap (λ p. piece_then at (b ∷ z) s p (λ t i. lex_from t (at + 1) i z)) e
    ∙ ap (front (record { kind = k; at = at; len = n } ∷ [])) (goes (sign_after (take n (b ∷ z)) k) n at b z h)

pub front-front : (a b : List Token) (o : Outcome) → front a (front b o) ≡ front (a ++ b) o
front-front a b (Ok us) = ap Ok (sym (append_assoc a b us))
front-front a b (Err f) = refl

pub front-none : (o : Outcome) → front [] o ≡ o
front-none (Ok us) = refl
front-none (Err f) = refl

pub record Kept (bytes : Text) (found : List Token) (s : Bool) (at : ℕ) : Type 0 where
  pub same : front found (lex_from s at 0 (drop at bytes)) ≡ lex_from true 0 0 bytes
  pub within : at ≤ length bytes

module _ (bytes : Text) (found : List Token) (s : Bool) (at : ℕ) (kept : Kept bytes found s at) where
  -- the rest as the code cuts it
  rest : Text
  rest = take (length bytes - at) (drop at bytes)

  rest-is : rest ≡ drop at bytes
  unfolding rest
  rest-is = take_rest bytes at

  rest-len : length rest + at ≡ length bytes
  unfolding rest
  rest-len = rw (take_rest bytes at, length-drop) (let w : at ≤ length bytes = kept.within in omega arith)

  pub gap_kept : (n : ℕ) → piece.Gap n ≡ scan s (take (length bytes - at) (drop at bytes))
      → (1 ≤ n) × (n ≤ length (take (length bytes - at) (drop at bytes))) → Kept bytes found s (at + n)
  unfolding rest
  gap_kept n e w =
      let r : scan s (drop at bytes) ≡ piece.Gap n = ap (scan s) (sym rest-is) ∙ sym e in
      record {
        same =
            ap (λ z. front found (lex_from s (at + n) 0 z)) (sym (drop-drop n at bytes))
            ∙ ap (front found) (sym (lex_gap s n at (drop at bytes) w.0 r)) ∙ kept.same;
        within = let l : length rest + at ≡ length bytes = rest-len in omega (arith, w.1);
      }

  pub token_kept : (k : Kind) (n : ℕ) → at < length bytes → piece.Token k n ≡ scan s (take (length bytes - at) (drop at bytes))
      → (1 ≤ n) × (n ≤ length (take (length bytes - at) (drop at bytes)))
      → Kept bytes (found ++ record { kind = k; at = at; len = n } ∷ []) (sign_after (take n (take (length bytes - at) (drop at bytes))) k)
      (at + n)
  unfolding rest
  token_kept k n h e w =
      let r : scan s (drop at bytes) ≡ piece.Token k n = ap (scan s) (sym rest-is) ∙ sym e in
      let t : Token = record { kind = k; at = at; len = n } in
      let l : length (drop at bytes) + at ≡ length bytes = ap (λ z. length z + at) (sym rest-is) ∙ rest-len in
      let g : 1 ≤ length (drop at bytes) = omega arith in
      record {
        same = ap (λ z. front (found ++ t ∷ []) (lex_from (sign_after (take n z) k) (at + n) 0 (drop (at + n) bytes))) rest-is
            ∙ ap (λ z. front (found ++ t ∷ []) (lex_from (sign_after (take n (drop at bytes)) k) (at + n) 0 z)) (sym (drop-drop n at bytes))
            ∙ sym (front-front found (t ∷ []) _)
            ∙ ap (front found) (sym (lex_token s n at (drop at bytes) k g w.0 r)) ∙ kept.same;
        within = let m : length rest + at ≡ length bytes = rest-len in omega (arith, w.1);
      }

  pub token_more : (k : Kind) (n : ℕ) (more : List Token) (t : Bool) → at < length bytes
      → piece.Token k n ≡ scan s (take (length bytes - at) (drop at bytes))
      → (1 ≤ n) × (n ≤ length (take (length bytes - at) (drop at bytes)))
      → more ≡ found ++ record { kind = k; at = at; len = n } ∷ [] → t ≡ sign_after (take n (take (length bytes - at) (drop at bytes))) k
      → Kept bytes more t (at + n)
  token_more k n more t h e w m g =
      subst (λ v. Kept bytes v t (at + n)) (sym m)
      (subst (λ v. Kept bytes (found ++ record { kind = k; at = at; len = n } ∷ []) v (at + n)) (sym g) (token_kept k n h e w))

  pub bad_kept : (c : Code) → at < length bytes → piece.Bad c ≡ scan s (take (length bytes - at) (drop at bytes))
      → lex_from true 0 0 bytes ≡ Err (record { code = c; at = at })
  unfolding rest
  bad_kept c h e =
      let r : scan s (drop at bytes) ≡ piece.Bad c = ap (scan s) (sym rest-is) ∙ sym e in
      let l : length (drop at bytes) + at ≡ length bytes = ap (λ z. length z + at) (sym rest-is) ∙ rest-len in
      let g : 1 ≤ length (drop at bytes) = omega arith in
      sym kept.same ∙ ap (front found) (lex_bad s at (drop at bytes) c g r)

  pub end_kept : length bytes ≤ at → lex_from true 0 0 bytes ≡ Ok found
  end_kept h =
      let w : at ≤ length bytes = kept.within in
      let a : at ≡ length bytes = omega arith in
      sym kept.same ∙ ap (λ n. front found (lex_from s n 0 (drop n bytes))) a
      ∙ ap (λ z. front found (lex_from s (length bytes) 0 z)) (drop-length bytes) ∙ ap Ok (append-nil found)

pub none_kept : (bytes : Text) → Kept bytes [] true 0
none_kept bytes = record { same = front-none (lex_from true 0 0 bytes); within = omega arith }
