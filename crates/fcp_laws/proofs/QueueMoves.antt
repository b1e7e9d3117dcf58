-- What a move of the front leaves of the queue and of the processes.
use Rattle.std.proofs.Common.{◌≡◌, ℕ, suc, ◌<◌, ◌≤◌, Bool, true, false, cond, List, [], ◌∷◌, ◌++◌, map, Option, Some, None, refl, sym, ap, ◌∙◌, subst, arith, append_assoc, ltb, eqb}
use Rattle.std.specs.Prelude.{filter, option_map, ◌||◌, ◌&&◌}
use Rattle.std.proofs.lemmas.Bool.{true≢false, lt-ltb, eq-eqb, and_from}
use Rattle.fcp_model.specs.declared.run.Proc.{Proc}
use Rattle.fcp_model.specs.Places.{proc, is_same_process, Variable, is_older_process}
use Rattle.fcp_model.specs.Programs.{Goal}
use Rattle.fcp_model.specs.States.{ready, Process, process_named, processes_of}
use Rattle.fcp_model.specs.Events.{made_ready}
use Rattle.fcp_model.specs.LawfulStates.{Each, NamesRise, NamesWithin}
use Rattle.fcp_laws.specs.Schedules.{AreApart}
use Rattle.fcp_laws.proofs.ProcessNames.{same_process, same_itself, picked, name_found, head_found, head_passed, first_of_two, named_append, named_map, each_map, rise_map, each_so, each_append, each_found, kept_if, named_filter, apart_of_rise, none_above}

pub same_both_ways : (p q : Proc) → is_same_process p q ≡ false → is_same_process q p ≡ false
same_both_ways p q h = go (is_same_process q p) refl
  where
    go : (b : Bool) → is_same_process q p ≡ b → b ≡ false
    go true e = absurd (true≢false (sym (subst (λ x. is_same_process p x ≡ true) (sym (same_process q p e)) (same_itself p)) ∙ h))
    go false e = refl

-- a process by whose name none is found has another name than each
pub none_named : (n : Proc) (ps : List Process) → process_named ps n ≡ None → Each (λ q. is_same_process q.name n ≡ false) ps
none_named n [] e = tt
none_named n (q ∷ ps) e = go (is_same_process q.name n) refl (none_named n ps) e
  where
    go : (b : Bool) → is_same_process q.name n ≡ b → (process_named ps n ≡ None → Each (λ x. is_same_process x.name n ≡ false) ps)
        → picked b q (process_named ps n) ≡ None → Each (λ x. is_same_process x.name n ≡ false) (q ∷ ps)
    go true f rec i = absurd cc
    go false f rec i = (f, rec i)

-- lists of which no two have one name
apart_append : (ps qs : List Process) → AreApart ps → AreApart qs → Each (λ p. process_named qs p.name ≡ None) ps → AreApart (ps ++ qs)
apart_append [] qs a b h = b
apart_append (p ∷ ps) qs a b h =
    (named_append ps qs p.name ∙ (ap (λ o. first_of_two o (process_named qs p.name)) a.0 ∙ h.0), apart_append ps qs a.1 b h.1)

pub apart_filter : (t : Process → Bool) (ps : List Process) → AreApart ps → AreApart (filter t ps)
apart_filter t [] h = tt
apart_filter t (p ∷ ps) h = go (t p) (apart_filter t ps h.1)
  where
    go : (b : Bool) → AreApart (filter t ps) → AreApart (cond b (p ∷ filter t ps) (filter t ps))
    go true i = (named_filter t ps h.1 p.name ∙ ap (kept_if t) h.0, i)
    go false i = i

pub apart_ready : (ps : List Process) → AreApart ps → AreApart (map made_ready ps)
apart_ready [] h = tt
apart_ready (p ∷ ps) h = (named_map made_ready (λ q. refl) ps p.name ∙ ap (option_map made_ready) h.0, apart_ready ps h.1)

pub each_itself : (ps : List Process) → AreApart ps → Each (λ p. process_named ps p.name ≡ Some p) ps
each_itself [] h = tt
each_itself (p ∷ ps) h = (head_found p ps, go ps (none_named p.name ps h.0) (each_itself ps h.1))
  where
    go : (qs : List Process) → Each (λ q. is_same_process q.name p.name ≡ false) qs → Each (λ q. process_named ps q.name ≡ Some q) qs
        → Each (λ q. process_named (p ∷ ps) q.name ≡ Some q) qs
    go [] i j = tt
    go (q ∷ qs) i j = (head_passed p ps q.name (same_both_ways q.name p.name i.0) ∙ j.0, go qs i.1 j.1)

-- the front may go to the back
pub turned : (p : Process) (ps : List Process) → AreApart (p ∷ ps) → (n : Proc) → process_named (ps ++ p ∷ []) n ≡ process_named (p ∷ ps) n
turned p ps h n = named_append ps (p ∷ []) n ∙ go (is_same_process p.name n) refl (process_named ps n) refl
  where
    go : (b : Bool) → is_same_process p.name n ≡ b → (o : Option Process) → process_named ps n ≡ o
        → first_of_two o (picked b p None) ≡ picked b p o
    go true e None f = refl
    go true e (Some q) f =
        absurd (let gone : process_named ps n ≡ None = subst (λ x. process_named ps x ≡ None) (same_process p.name n e) h.0 in cc)
    go false e None f = refl
    go false e (Some q) f = refl

pub apart_turned : (p : Process) (ps : List Process) → AreApart (p ∷ ps) → AreApart (ps ++ p ∷ [])
apart_turned p ps h =
    apart_append ps (p ∷ []) h.1 (refl, tt)
    (each_so (λ q. is_same_process q.name p.name ≡ false) (λ q. process_named (p ∷ []) q.name ≡ None)
    (λ q i. head_passed p [] q.name (same_both_ways q.name p.name i)) ps (none_named p.name ps h.0))

-- names that rise
second_true : (x y : Bool) → y ≡ true → (x || y) ≡ true
second_true true y e = refl
second_true false y e = e

pub rise_append : (n : ℕ) (ps qs : List Process) → NamesWithin n ps → Each (λ q. n < q.name.entry) qs → NamesRise ps → NamesRise qs
    → NamesRise (ps ++ qs)
rise_append n [] qs w h r i = i
rise_append n (p ∷ ps) qs w h r i = (
  each_append (λ q. is_older_process p.name q.name ≡ true) ps qs r.0
      (each_so (λ q. n < q.name.entry) (λ q. is_older_process p.name q.name ≡ true)
      (λ q l. ap (λ b. b || (eqb p.name.entry q.name.entry && ltb p.name.number q.name.number))
      (lt-ltb p.name.entry q.name.entry (omega (arith, w.0, l)))) qs h),
  rise_append n ps qs w.1 h r.1 i,
)

-- new processes: of one entry, Ready, and rising
pub children_entry : (P : ℕ → Type 0) (n k : ℕ) (gs : List (Goal Variable)) → P n → Each (λ q. P q.name.entry) (processes_of n k gs)
children_entry P n k [] h = tt
children_entry P n k (g ∷ gs) h = (h, children_entry P n (suc k) gs h)

pub children_ready : (n k : ℕ) (gs : List (Goal Variable)) → Each (λ q. q.status ≡ ready) (processes_of n k gs)
children_ready n k [] = tt
children_ready n k (g ∷ gs) = (refl, children_ready n (suc k) gs)

children_younger : (n j k : ℕ) (gs : List (Goal Variable)) → j < k
    → Each (λ q. is_older_process (proc n j) q.name ≡ true) (processes_of n k gs)
children_younger n j k [] h = tt
children_younger n j k (g ∷ gs) h =
    (second_true _ _ (and_from _ _ (eq-eqb n n refl) (lt-ltb j k h)), children_younger n j (suc k) gs (omega (arith, h)))

pub children_rise : (n k : ℕ) (gs : List (Goal Variable)) → NamesRise (processes_of n k gs)
children_rise n k [] = tt
children_rise n k (g ∷ gs) = (children_younger n k (suc k) gs (omega arith), children_rise n (suc k) gs)

-- A move of the front p: the other processes keep what they are but those of which t says that they wake, and then come the
-- new ones, of a later entry. All names stay.
module _ (e : ℕ) (p : Process) (rest ps : List Process) (f : Process → Process) (t : Process → Bool) (new : List Process)
    (keeps : (q : Process) → (f q).name ≡ q.name) (at_front : (q : Process) → is_same_process q.name p.name ≡ true → (f q).status ≡ ready
    → ⊥)
    (elsewhere : (q : Process) → is_same_process q.name p.name ≡ false → f q ≡ cond (t q) (made_ready q) q)
    (asleep : (q : Process) → q.status ≡ ready → t q ≡ false)
    (ordered : NamesRise ps) (within : NamesWithin e ps)
    (new_entry : Each (λ q. e < q.name.entry) new) (new_ready : Each (λ q. q.status ≡ ready) new) (new_rise : NamesRise new)
    (apart : AreApart (p ∷ rest))
    (are_ready : (n : Proc) (q : Process) → process_named (p ∷ rest) n ≡ Some q → (process_named ps n ≡ Some q) × (q.status ≡ ready))
    (are_queued : (n : Proc) (q : Process) → process_named ps n ≡ Some q → q.status ≡ ready → process_named (p ∷ rest) n ≡ Some q) where
  abbrev woken : List Process
  woken = map made_ready (filter t ps)

  abbrev turned_ready : Option Process → Option Process
  turned_ready o = option_map made_ready (kept_if t o)

  woken_named : (n : Proc) → process_named woken n ≡ turned_ready (process_named ps n)
  woken_named n =
      named_map made_ready (λ q. refl) (filter t ps) n ∙ ap (option_map made_ready) (named_filter t ps (apart_of_rise ps ordered) n)

  front : (process_named ps p.name ≡ Some p) × (p.status ≡ ready)
  front = are_ready p.name p (head_found p rest)

  -- what is in the rest of the queue
  in_rest : (n : Proc) (q : Process) → process_named rest n ≡ Some q → is_same_process p.name n ≡ false
  in_rest n q i = go (is_same_process p.name n) refl
    where
      go : (b : Bool) → is_same_process p.name n ≡ b → b ≡ false
      go true j =
          absurd
          (let gone : process_named rest n ≡ None = subst (λ x. process_named rest x ≡ None) (same_process p.name n j) apart.0 in cc)
      go false j = refl

  rest_ready : (n : Proc) (q : Process) → process_named rest n ≡ Some q → (process_named ps n ≡ Some q) × (q.status ≡ ready)
  rest_ready n q i = are_ready n q (head_passed p rest n (in_rest n q i) ∙ i)

  -- a process that wakes is not the front
  woken_other : (n : Proc) (q : Process) → process_named ps n ≡ Some q → t q ≡ true → is_same_process q.name p.name ≡ false
  woken_other n q i j = go (is_same_process q.name p.name) refl
    where
      go : (b : Bool) → is_same_process q.name p.name ≡ b → b ≡ false
      go true k =
          let named : n ≡ p.name = sym (name_found ps n q i) ∙ same_process q.name p.name k in
          let there : process_named ps n ≡ Some p = subst (λ x. process_named ps x ≡ Some p) (sym named) front.0 in
          let same : p ≡ q = cc in
          absurd (true≢false (sym j ∙ subst (λ x. t x ≡ false) same (asleep p front.1)))
      go false k = refl

  new_not_old : (n : Proc) (q : Process) → process_named new n ≡ Some q → process_named ps n ≡ None
  new_not_old n q i =
      none_above e ps within n
      (subst (λ (x : Proc). e < x.entry) (name_found new n q i) (each_found (λ x. e < x.name.entry) new n q new_entry i))

  old_not_new : (n : Proc) (q : Process) → process_named ps n ≡ Some q → process_named new n ≡ None
  old_not_new n q i = go (process_named new n) refl
    where
      go : (o : Option Process) → process_named new n ≡ o → o ≡ None
      go None j = refl
      go (Some x) j = absurd (let gone : process_named ps n ≡ None = new_not_old n x j in cc)

  abbrev processes : List Process
  processes = map f ps ++ new

  abbrev queue : List Process
  queue = rest ++ new ++ woken

  processes_named : (n : Proc) → process_named processes n ≡ first_of_two (option_map f (process_named ps n)) (process_named new n)
  processes_named n = named_append (map f ps) new n ∙ ap (λ o. first_of_two o (process_named new n)) (named_map f keeps ps n)

  queue_named : (n : Proc)
      → process_named queue n ≡ first_of_two (process_named rest n) (first_of_two (process_named new n) (turned_ready (process_named ps n)))
  queue_named n =
      ap (λ qs. process_named qs n) (append_assoc rest new woken)
      ∙ (named_append rest (new ++ woken) n ∙ ap (first_of_two (process_named rest n))
      (named_append new woken n ∙ ap (first_of_two (process_named new n)) (woken_named n)))

  abbrev IsIn : Proc → Process → Type 0
  IsIn n q = (process_named processes n ≡ Some q) × (q.status ≡ ready)

  pub moved_ready : (n : Proc) (q : Process) → process_named queue n ≡ Some q → IsIn n q
  moved_ready n q i = at_rest (process_named rest n) refl (sym (queue_named n) ∙ i)
    where
      at_old : (o : Option Process) → process_named ps n ≡ o → turned_ready o ≡ Some q → IsIn n q
      at_old None j k = absurd cc
      at_old (Some x) j k = wakes (t x) refl k
        where
          wakes : (b : Bool) → t x ≡ b → option_map made_ready (cond b (Some x) None) ≡ Some q → IsIn n q
          wakes false l u = absurd cc
          wakes true l u =
              let same : made_ready x ≡ q = cc in
              let gives : f x ≡ made_ready x = elsewhere x (woken_other n x j l) ∙ ap (λ b. cond b (made_ready x) x) l in (
                processes_named n ∙ (ap (λ o. first_of_two (option_map f o) (process_named new n)) j ∙ ap Some (gives ∙ same)),
                subst
                    (λ (y : Process). y.status ≡ ready) same refl,
              )

      at_new : (o : Option Process) → process_named new n ≡ o → first_of_two o (turned_ready (process_named ps n)) ≡ Some q → IsIn n q
      at_new None j k = at_old (process_named ps n) refl k
      at_new (Some x) j k =
          let found : process_named new n ≡ Some q = j ∙ k in (
            processes_named n ∙ (ap (λ o. first_of_two (option_map f o) (process_named new n)) (new_not_old n q found) ∙ found),
            each_found (λ y. y.status ≡ ready) new n q new_ready found,
          )

      at_rest : (o : Option Process) → process_named rest n ≡ o
          → first_of_two o (first_of_two (process_named new n) (turned_ready (process_named ps n))) ≡ Some q → IsIn n q
      at_rest None j k = at_new (process_named new n) refl k
      at_rest (Some x) j k =
          let found : process_named rest n ≡ Some q = j ∙ k in
          let old = rest_ready n q found in
          let other : is_same_process q.name p.name ≡ false = same_both_ways p.name q.name
          (subst (λ x. is_same_process p.name x ≡ false) (sym (name_found rest n q found)) (in_rest n q found)) in
          let gives : f q ≡ q = elsewhere q other ∙ ap (λ b. cond b (made_ready q) q) (asleep q old.1) in
          (processes_named n ∙ (ap (λ o. first_of_two (option_map f o) (process_named new n)) old.0 ∙ ap Some gives), old.1)

  pub moved_queued : (n : Proc) (q : Process) → process_named processes n ≡ Some q → q.status ≡ ready → process_named queue n ≡ Some q
  moved_queued n q i s = at_old (process_named ps n) refl (sym (processes_named n) ∙ i)
    where
      -- not in the rest of the queue, and not new
      no_rest : (x : Process) → process_named ps n ≡ Some x → t x ≡ true → process_named rest n ≡ None
      no_rest x j k = go (process_named rest n) refl
        where
          go : (o : Option Process) → process_named rest n ≡ o → o ≡ None
          go None l = refl
          go (Some y) l =
              let old = rest_ready n y l in
              let same : y ≡ x = cc in
              absurd (true≢false (sym k ∙ subst (λ z. t z ≡ false) same (asleep y old.1)))

      at_old : (o : Option Process) → process_named ps n ≡ o → first_of_two (option_map f o) (process_named new n) ≡ Some q
          → process_named queue n ≡ Some q
      at_old None j k =
          queue_named n
          ∙ (ap (λ o. first_of_two o (first_of_two (process_named new n) (turned_ready (process_named ps n)))) nothing
          ∙ ap (λ o. first_of_two o (turned_ready (process_named ps n))) k)
        where
          gone : (o : Option Process) → process_named rest n ≡ o → o ≡ None
          gone None l = refl
          gone (Some y) l = absurd (let old = rest_ready n y l in let there = old.0 in cc)

          nothing : process_named rest n ≡ None
          nothing = gone (process_named rest n) refl
      at_old (Some x) j k = at_name (is_same_process x.name p.name) refl
        where
          is_f : f x ≡ q
          is_f = let e : Some (f x) ≡ Some q = k in cc

          wakes : is_same_process x.name p.name ≡ false → (b : Bool) → t x ≡ b → process_named queue n ≡ Some q
          wakes o true l =
              let gives : made_ready x ≡ q = sym (elsewhere x o ∙ ap (λ b. cond b (made_ready x) x) l) ∙ is_f in
              queue_named n
              ∙ (ap (λ o. first_of_two o (first_of_two (process_named new n) (turned_ready (process_named ps n)))) (no_rest x j l)
              ∙ (ap (λ o. first_of_two o (turned_ready (process_named ps n))) (old_not_new n x j)
              ∙ (ap turned_ready j ∙ (ap (λ b. option_map made_ready (cond b (Some x) None)) l ∙ ap Some gives))))
          wakes o false l =
              let gives : x ≡ q = sym (elsewhere x o ∙ ap (λ b. cond b (made_ready x) x) l) ∙ is_f in
              let there : process_named (p ∷ rest) n ≡ Some x =
              are_queued n x j (subst (λ (y : Process). y.status ≡ ready) (sym gives) s) in
              let other : is_same_process p.name n ≡ false =
              same_both_ways n p.name (subst (λ y. is_same_process y p.name ≡ false) (name_found ps n x j) o) in
              let found : process_named rest n ≡ Some x = sym (head_passed p rest n other) ∙ there in
              queue_named n ∙ (ap (λ o. first_of_two o (first_of_two (process_named new n) (turned_ready (process_named ps n)))) found
              ∙ ap Some gives)

          at_name : (b : Bool) → is_same_process x.name p.name ≡ b → process_named queue n ≡ Some q
          at_name true l = absurd (at_front x l (subst (λ (y : Process). y.status ≡ ready) (sym is_f) s))
          at_name false l = wakes l (t x) refl

  pub moved_apart : AreApart queue
  moved_apart =
      subst AreApart (sym (append_assoc rest new woken))
      (apart_append rest (new ++ woken) apart.1 (apart_append new woken (apart_of_rise new new_rise)
      (apart_ready _ (apart_filter t ps (apart_of_rise ps ordered))) among_new) among_rest)
    where
      among_new : Each (λ q. process_named woken q.name ≡ None) new
      among_new =
          each_so (λ q. process_named new q.name ≡ Some q) (λ q. process_named woken q.name ≡ None)
          (λ q i. woken_named q.name ∙ ap turned_ready (new_not_old q.name q i)) new (each_itself new (apart_of_rise new new_rise))

      among_rest : Each (λ q. process_named (new ++ woken) q.name ≡ None) rest
      among_rest =
          each_so (λ q. process_named rest q.name ≡ Some q) (λ q. process_named (new ++ woken) q.name ≡ None)
          (λ q i. let old = rest_ready q.name q i in
          named_append new woken q.name
          ∙ (ap (λ o. first_of_two o (process_named woken q.name)) (old_not_new q.name q old.0)
          ∙ (woken_named q.name ∙ (ap turned_ready old.0 ∙ ap (λ b. option_map made_ready (cond b (Some q) None)) (asleep q old.1)))))
          rest (each_itself rest apart.1)

  pub moved_rise : NamesRise processes
  moved_rise = rise_append e (map f ps) new (each_map f keeps (λ n. n.entry ≤ e) ps within) new_entry (rise_map f keeps ps ordered) new_rise
