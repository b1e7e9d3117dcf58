-- All that a unification reads is a place, and all that it binds is a place with a word that stands for a term.
use Rattle.std.proofs.Common.{◌≡◌, ℕ, Bool, true, List, [], ◌∷◌, Option, Some, None, refl, sym, ap, ◌∙◌, subst}
use Rattle.heap_words.specs.Cells.{decoded}
use Rattle.heap_words.specs.Trails.{WordList, Memory, word_at}
use Rattle.heap_words.specs.declared.cell.Cell.TheVariants as cell
use Rattle.heap_words.proofs.Encodings.{decoded_encoded}
use Rattle.ro_unify.specs.Value.{leads_on}
use Rattle.ro_unify.specs.Occurs.{Each, whole_of, parts_of}
use Rattle.ro_unify.specs.Alike.{Both}
use Rattle.ro_unify.specs.Unify.{Unifies, Ended}
use Rattle.ro_unify.proofs.Closing.{IsClosed, EndsIn, keeps_closed}
use Rattle.fcp_model.specs.Places.{Variable}
use Rattle.fcp_model.specs.Terms.{Term, number, string, nil, cons, tuple, var, ro, first, Terms, none, more, Bindings}
use Rattle.fcp_model.specs.Pair.{Pair}
use Rattle.unify_terms.specs.Denotes.{Naming, Denotes, DenotesList, DenotesPairs, Stands, Names}
use Rattle.unify_terms.proofs.ValuesOfWords.{no_place}
use Rattle.unify_terms.proofs.OccursInWords.{parts_of_term, Solid, solid_number, solid_string, solid_nil}
use Rattle.unify_terms.proofs.OccursInWords.{solid_cons, solid_tuple, parts_denoted}

-- the word stands for some term
abbrev pub HasTerm : Naming → Memory → ℕ → Type 0
HasTerm p m w = (t : Term Variable) × Denotes p m t w

-- the address is that of a place
abbrev pub IsNamed : Naming → ℕ → Type 0
IsNamed p a = p.is_place a ≡ true

-- the address of a step, if there is one
abbrev second : ℕ → Option (Bool × ℕ) → ℕ
second d None = d
second d (Some q) = q.1

no_step : {q : Option (Bool × ℕ)} {s : Bool × ℕ} → q ≡ None → q ≡ Some s → ⊥
no_step e f = cc

module _ (p : Naming) (m : Memory) (names : Names p m) (bs : WordList) (s : Bindings) (stands : Stands p m bs s) where
  named : (t : Term Variable) (w a : ℕ) (only o : Bool) → Denotes p m t w → leads_on only (decoded w) ≡ Some (o, a) → p.is_place a ≡ true
  named (number z) w a only o d e = absurd (no_step (ap (leads_on only) d.1 ∙ no_place m only d.0 z d.2) e)
  named (string z) w a only o d e = absurd (no_step (ap (leads_on only) d.1) e)
  named nil w a only o d e = absurd (no_step (ap (leads_on only) d) e)
  named (cons t u) w a only o d e = absurd (no_step (ap (leads_on only) d.1) e)
  named (tuple ts) w a only o d e = absurd (no_step (ap (leads_on only) d.1) e)
  named (var v) w a only o d e =
      let h : Some (only, d.0) ≡ Some (o, a) =
      sym (ap (leads_on only) d.1) ∙ e in let k : d.0 ≡ a = ap (second a) h in subst (λ (b : ℕ). p.is_place b ≡ true) k d.2.0
  named (ro v) w a only o d e =
      let h : Some (true, d.0) ≡ Some (o, a) =
      sym (ap (leads_on only) d.1) ∙ e in let k : d.0 ≡ a = ap (second a) h in subst (λ (b : ℕ). p.is_place b ≡ true) k d.2.0
  named (first k) w a only o d e = absurd d

  listed : (ts : Terms Variable) (ws : List ℕ) → DenotesList p m ts ws → Each (HasTerm p m) ws
  listed none [] d = tt
  listed (more t ts) (w ∷ ws) d = ((t, d.0), listed ts ws d.1)
  listed none (w ∷ ws) d = absurd d
  listed (more t ts) [] d = absurd d

  solid_parts : (t : Term Variable) (w : ℕ) → Solid p bs m s stands t → Denotes p m t w
      → Each (HasTerm p m) (parts_of m (whole_of (decoded w)))
  solid_parts t w o d = listed (parts_of_term p bs m s stands t) (parts_of m (whole_of (decoded w))) (parts_denoted p bs m s stands t w o d)

  with_parts : (t : Term Variable) (w : ℕ) → Denotes p m t w → Each (HasTerm p m) (parts_of m (whole_of (decoded w)))
  with_parts (number z) w d = solid_parts (number z) w (solid_number z) d
  with_parts (string z) w d = solid_parts (string z) w (solid_string z) d
  with_parts nil w d = solid_parts nil w solid_nil d
  with_parts (cons t u) w d = solid_parts (cons t u) w (solid_cons t u) d
  with_parts (tuple ts) w d = solid_parts (tuple ts) w (solid_tuple ts) d
  with_parts (var v) w d = subst (λ (o : _). Each (HasTerm p m) (parts_of m (whole_of o))) (sym d.1) tt
  with_parts (ro v) w d = subst (λ (o : _). Each (HasTerm p m) (parts_of m (whole_of o))) (sym d.1) tt
  with_parts (first k) w d = absurd d

  terms_closed : IsClosed bs m (HasTerm p m) (IsNamed p)
  terms_closed = record {
    place = λ w a only o h e. named h.0 w a only o h.1 e;
    word = λ a q i u. let r = stands.bound a q i u in (r.0, r.2);
    parts = λ w h. with_parts h.0 w h.1;
    writable = λ a q. (var (p.name a), (a, decoded_encoded (cell.Ref a) (names.below a q), (q, refl)));
    read_only = λ a q. (ro (p.name a), (a, decoded_encoded (cell.RoRef a) (names.below a q), (q, refl)));
  }

  pairs_have : (ts : List Pair) (ps : List (ℕ × ℕ)) → DenotesPairs p m ts ps → Each (Both (HasTerm p m)) ps
  pairs_have [] [] d = tt
  pairs_have (t ∷ ts) (w ∷ ws) d = (((t.0, d.0), (t.1, d.1)), pairs_have ts ws d.2)
  pairs_have [] (w ∷ ws) d = absurd d
  pairs_have (t ∷ ts) [] d = absurd d

  -- where all private bindings are of places, and so are the reads before
  pub unified_named : (rs : List ℕ) (ts : List Pair) (ps : List (ℕ × ℕ)) (e : Ended)
      → ((a x : ℕ) → word_at bs a ≡ Some x → p.is_place a ≡ true) → Each (IsNamed p) rs → DenotesPairs p m ts ps → Unifies m bs rs ps e
      → EndsIn (HasTerm p m) (IsNamed p) e
  unified_named rs ts ps e places before d u =
      keeps_closed bs m (HasTerm p m) (IsNamed p) terms_closed rs ps e
      (λ a x i. let q = places a x i in let r = stands.privately a x q i in (q, (r.0, r.2)))
      (pairs_have ts ps d) before u
