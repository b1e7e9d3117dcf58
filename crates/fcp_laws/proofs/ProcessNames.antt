-- Processes by name, in lists that were joined, mapped and filtered.
use Rattle.std.proofs.Common.{◌≡◌, ℕ, ◌<◌, Bool, true, false, cond, List, [], ◌∷◌, ◌++◌, map, Option, Some, None, refl, sym, ap, ◌∙◌, subst, ⊎_elim, arith, ltb, eqb}
use Rattle.std.specs.Prelude.{filter, option_map, ◌&&◌}
use Rattle.std.proofs.lemmas.Bool.{eqb-true, eq-eqb, and_parts, and_from, ltb-true, or_cases, and_left, and_right, ne_eqb}
use Rattle.fcp_model.specs.declared.run.Proc.{Proc}
use Rattle.fcp_model.specs.Places.{is_same_process, is_older_process}
use Rattle.fcp_model.specs.States.{Process, process_named}
use Rattle.fcp_model.specs.LawfulStates.{Each, NamesRise, NamesWithin}
use Rattle.fcp_laws.specs.Schedules.{AreApart}

pub same_process : (p q : Proc) → is_same_process p q ≡ true → p ≡ q
same_process p q e =
    let h = and_parts _ _ e in
    let n : p.entry ≡ q.entry = eqb-true _ _ h.0 in
    let k : p.number ≡ q.number = eqb-true _ _ h.1 in
    λ i. record { entry = n i; number = k i }

pub same_itself : (p : Proc) → is_same_process p p ≡ true
same_itself p = and_from _ _ (eq-eqb p.entry _ refl) (eq-eqb p.number _ refl)

-- the head of a list where the test says so, else what was found after it
abbrev pub picked : Bool → Process → Option Process → Option Process
picked b p o = elim b [ true ↦ Some p | _ ↦ o ]

pub name_found : (ps : List Process) (n : Proc) (p : Process) → process_named ps n ≡ Some p → p.name ≡ n
name_found [] n p e = cc
name_found (q ∷ ps) n p e = go (is_same_process q.name n) refl (name_found ps n p) e
  where
    go : (b : Bool) → is_same_process q.name n ≡ b → (process_named ps n ≡ Some p → p.name ≡ n) → picked b q (process_named ps n) ≡ Some p
        → p.name ≡ n
    go true f rec h = let e : q ≡ p = cc in ap (λ x. x.name) (sym e) ∙ same_process q.name n f
    go false f rec h = rec h

-- the head is found under its name
pub head_found : (p : Process) (ps : List Process) → process_named (p ∷ ps) p.name ≡ Some p
head_found p ps = ap (λ b. picked b p (process_named ps p.name)) (same_itself p.name)

pub head_passed : (p : Process) (ps : List Process) (n : Proc) → is_same_process p.name n ≡ false
    → process_named (p ∷ ps) n ≡ process_named ps n
head_passed p ps n h = ap (λ b. picked b p (process_named ps n)) h

abbrev pub first_of_two : Option Process → Option Process → Option Process
first_of_two None o = o
first_of_two (Some p) o = Some p

pub named_append : (ps qs : List Process) (n : Proc) → process_named (ps ++ qs) n ≡ first_of_two (process_named ps n) (process_named qs n)
named_append [] qs n = refl
named_append (p ∷ ps) qs n = go (is_same_process p.name n) (named_append ps qs n)
  where
    go : (b : Bool) → process_named (ps ++ qs) n ≡ first_of_two (process_named ps n) (process_named qs n)
        → picked b p (process_named (ps ++ qs) n) ≡ first_of_two (picked b p (process_named ps n)) (process_named qs n)
    go true e = refl
    go false e = e

-- a map that keeps names
module _ (f : Process → Process) (keeps : (p : Process) → (f p).name ≡ p.name) where
  pub named_map : (ps : List Process) (n : Proc) → process_named (map f ps) n ≡ option_map f (process_named ps n)
  named_map [] n = refl
  named_map (p ∷ ps) n =
      subst
      (λ x. picked (is_same_process x n) (f p) (process_named (map f ps) n)
      ≡ option_map f (picked (is_same_process p.name n) p (process_named ps n)))
      (sym (keeps p)) (go (is_same_process p.name n) (named_map ps n))
    where
      go : (b : Bool) → process_named (map f ps) n ≡ option_map f (process_named ps n)
          → picked b (f p) (process_named (map f ps) n) ≡ option_map f (picked b p (process_named ps n))
      go true e = refl
      go false e = e

  pub each_map : (P : Proc → Type 0) (ps : List Process) → Each (λ p. P p.name) ps → Each (λ p. P p.name) (map f ps)
  each_map P [] h = tt
  each_map P (p ∷ ps) h = (subst P (sym (keeps p)) h.0, each_map P ps h.1)

  pub rise_map : (ps : List Process) → NamesRise ps → NamesRise (map f ps)
  rise_map [] h = tt
  rise_map (p ∷ ps) h = (rw (keeps p) (each_map (λ n. is_older_process p.name n ≡ true) ps h.0), rise_map ps h.1)

pub each_so : (P Q : Process → Type 0) → ((p : Process) → P p → Q p) → (ps : List Process) → Each P ps → Each Q ps
each_so P Q f [] h = tt
each_so P Q f (p ∷ ps) h = (f p h.0, each_so P Q f ps h.1)

pub each_append : (P : Process → Type 0) (ps qs : List Process) → Each P ps → Each P qs → Each P (ps ++ qs)
each_append P [] qs h i = i
each_append P (p ∷ ps) qs h i = (h.0, each_append P ps qs h.1 i)

pub each_found : (P : Process → Type 0) (ps : List Process) (n : Proc) (p : Process) → Each P ps → process_named ps n ≡ Some p → P p
each_found P [] n p h e = absurd cc
each_found P (q ∷ ps) n p h e = go (is_same_process q.name n) (each_found P ps n p h.1) e
  where
    go : (b : Bool) → (process_named ps n ≡ Some p → P p) → picked b q (process_named ps n) ≡ Some p → P p
    go true rec i = let e : q ≡ p = cc in subst P e h.0
    go false rec i = rec i

-- what the test keeps of a process that was found
abbrev pub kept_if : (Process → Bool) → Option Process → Option Process
kept_if t None = None
kept_if t (Some p) = cond (t p) (Some p) None

pub named_filter : (t : Process → Bool) (ps : List Process) → AreApart ps → (n : Proc)
    → process_named (filter t ps) n ≡ kept_if t (process_named ps n)
named_filter t [] h n = refl
named_filter t (p ∷ ps) h n = go (is_same_process p.name n) (t p) refl refl (named_filter t ps h.1 n)
  where
    go : (b c : Bool) → is_same_process p.name n ≡ b → t p ≡ c → process_named (filter t ps) n ≡ kept_if t (process_named ps n)
        → process_named (cond c (p ∷ filter t ps) (filter t ps)) n ≡ kept_if t (picked b p (process_named ps n))
    go true true e f rec = ap (λ b. picked b p (process_named (filter t ps) n)) e ∙ sym (ap (λ c. cond c (Some p) None) f)
    go true false e f rec = let gone : process_named ps n ≡ None = subst (λ x. process_named ps x ≡ None)
        (same_process p.name n e) h.0 in rw f (rw gone at rec)
    go false true e f rec = ap (λ b. picked b p (process_named (filter t ps) n)) e ∙ rec
    go false false e f rec = rec

pub older_apart : (p q : Proc) → is_older_process p q ≡ true → is_same_process q p ≡ false
older_apart p q h = ⊎_elim
    (λ (i : ltb p.entry q.entry ≡ true). and_left _ _ (ne_eqb _ _ (λ (e : q.entry ≡ p.entry). omega (arith, ltb-true p.entry q.entry i))))
    (λ (i : (eqb p.entry q.entry && ltb p.number q.number) ≡ true). and_right _ _
    (ne_eqb _ _ (λ (e : q.number ≡ p.number). omega (arith, ltb-true p.number q.number (and_parts _ _ i).1))))
    (or_cases _ _ h)

pub none_younger : (n : Proc) (ps : List Process) → Each (λ q. is_older_process n q.name ≡ true) ps → process_named ps n ≡ None
none_younger n [] h = refl
none_younger n (q ∷ ps) h = head_passed q ps n (older_apart n q.name h.0) ∙ none_younger n ps h.1

pub apart_of_rise : (ps : List Process) → NamesRise ps → AreApart ps
apart_of_rise [] h = tt
apart_of_rise (p ∷ ps) h = (none_younger p.name ps h.0, apart_of_rise ps h.1)

-- no process of an entry above n
pub none_above : (n : ℕ) (ps : List Process) → NamesWithin n ps → (q : Proc) → n < q.entry → process_named ps q ≡ None
none_above n [] h q l = refl
none_above n (p ∷ ps) h q l =
    head_passed p ps q (and_left _ _ (ne_eqb _ _ (λ (e : p.name.entry ≡ q.entry). omega (arith, h.0)))) ∙ none_above n ps h.1 q l
