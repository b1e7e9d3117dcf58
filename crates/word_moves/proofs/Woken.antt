-- The woken of a commit, at their addresses, are those of its event, in order.
use Rattle.std.proofs.Common.{◌≡◌, ℕ, suc, Bool, true, false, cond, List, [], ◌∷◌, length, map, refl, sym, ap, ◌∙◌, subst}
use Rattle.std.proofs.Common.{inl, inr, arith, true≢false}
use Rattle.std.specs.Prelude.{filter}
use Rattle.fcp_model.specs.Places.{is_older_process}
use Rattle.fcp_model.specs.States.{Process, State}
use Rattle.fcp_model.specs.LawfulStates.{Each, NamesRise, IsOrdered}
use Rattle.fcp_model.specs.Terms.{Bindings}
use Rattle.fcp_model.specs.Events.{is_woken, woken_by}
use Rattle.word_states.specs.Words.{Words, IsIn}
use Rattle.word_states.specs.Standing.{Book, StandsAt, StandsFor, ProcessAt}
use Rattle.word_states.specs.Waking.{AreByName, AreWoken}
use Rattle.word_states.specs.Going.{AllAt}
use Rattle.word_states.proofs.Persisting.{map_length, stands_map}
use Rattle.word_moves.proofs.Rising.{Rises, one_list}
use Rattle.word_moves.proofs.Processes.{older_code}

-- processes at their addresses, where both are listed in one order
pub all_at : (book : Book) (s : State) (qs : List ℕ) (ys : List Process) → length qs ≡ length ys
    → ((q : ℕ) (y : Process) → StandsAt qs ys q y → ProcessAt book s q y) → AllAt book s qs ys
all_at book s [] [] e h = tt
all_at book s [] (y ∷ ys) e h = absurd (omega arith)
all_at book s (q ∷ qs) [] e h = absurd (omega arith)
all_at book s (q ∷ qs) (y ∷ ys) e h = (h q y (inl (refl, refl)), all_at book s qs ys (omega arith) (λ r z k. h r z (inr k)))

-- what holds of each holds of the one at an address
each_at : (P : Process → Type 0) (as' : List ℕ) (xs : List Process) (q : ℕ) (y : Process) → Each P xs → StandsAt as' xs q y → P y
each_at P [] xs q y each h = absurd h
each_at P (a ∷ as') [] q y each h = absurd h
each_at P (a ∷ as') (x ∷ xs) q y each (inl h) = subst P h.1 each.0
each_at P (a ∷ as') (x ∷ xs) q y each (inr h) = each_at P as' xs q y each.1 h

-- the addresses of the processes that pass the test
abbrev picked : (Process → Bool) → List ℕ → List Process → List ℕ
picked t [] xs = []
picked t (a ∷ as') [] = []
picked t (a ∷ as') (x ∷ xs) = cond (t x) (a ∷ picked t as' xs) (picked t as' xs)

picked_length : (t : Process → Bool) (as' : List ℕ) (xs : List Process) → length as' ≡ length xs
    → length (picked t as' xs) ≡ length (filter t xs)
picked_length t [] [] e = refl
picked_length t [] (x ∷ xs) e = absurd (omega arith)
picked_length t (a ∷ as') [] e = absurd (omega arith)
picked_length t (a ∷ as') (x ∷ xs) e = go (t x) (picked_length t as' xs (omega arith))
  where
    go : (b : Bool) → length (picked t as' xs) ≡ length (filter t xs)
        → length (cond b (a ∷ picked t as' xs) (picked t as' xs)) ≡ length (cond b (x ∷ filter t xs) (filter t xs))
    go true i = ap suc i
    go false i = i

picked_at : (t : Process → Bool) (as' : List ℕ) (xs : List Process) (q : ℕ) (y : Process) → StandsAt (picked t as' xs) (filter t xs) q y
    → StandsAt as' xs q y × (t y ≡ true)
picked_at t [] xs q y h = absurd h
picked_at t (a ∷ as') [] q y h = absurd h
picked_at t (a ∷ as') (x ∷ xs) q y h = go (t x) refl (picked_at t as' xs q y) h
  where
    go : (b : Bool) → t x ≡ b → (StandsAt (picked t as' xs) (filter t xs) q y → StandsAt as' xs q y × (t y ≡ true))
        → StandsAt (cond b (a ∷ picked t as' xs) (picked t as' xs)) (cond b (x ∷ filter t xs) (filter t xs)) q y
        → StandsAt (a ∷ as') (x ∷ xs) q y × (t y ≡ true)
    go true e f (inl k) = (inl k, ap t (sym k.1) ∙ e)
    go true e f (inr k) = let r = f k in (inr r.0, r.1)
    go false e f k = let r = f k in (inr r.0, r.1)

-- one that was picked passes the test
picked_from : (t : Process → Bool) (as' : List ℕ) (xs : List Process) (q : ℕ) → IsIn q (picked t as' xs)
    → (y : Process) × StandsAt as' xs q y × (t y ≡ true)
picked_from t [] xs q h = absurd h
picked_from t (a ∷ as') [] q h = absurd h
picked_from t (a ∷ as') (x ∷ xs) q h = go (t x) refl (picked_from t as' xs q) h
  where
    go : (b : Bool) → t x ≡ b → (IsIn q (picked t as' xs) → (y : Process) × StandsAt as' xs q y × (t y ≡ true))
        → IsIn q (cond b (a ∷ picked t as' xs) (picked t as' xs)) → (y : Process) × StandsAt (a ∷ as') (x ∷ xs) q y × (t y ≡ true)
    go true e f (inl k) = (x, inl (k, refl), e)
    go true e f (inr k) = let r = f k in (r.0, inr r.1, r.2)
    go false e f k = let r = f k in (r.0, inr r.1, r.2)

picked_in : (t : Process → Bool) (as' : List ℕ) (xs : List Process) (q : ℕ) (y : Process) → StandsAt as' xs q y → t y ≡ true
    → IsIn q (picked t as' xs)
picked_in t [] xs q y h e = absurd h
picked_in t (a ∷ as') [] q y h e = absurd h
picked_in t (a ∷ as') (x ∷ xs) q y h e = go (t x) refl h (λ k. picked_in t as' xs q y k e)
  where
    go : (b : Bool) → t x ≡ b → StandsAt (a ∷ as') (x ∷ xs) q y → (StandsAt as' xs q y → IsIn q (picked t as' xs))
        → IsIn q (cond b (a ∷ picked t as' xs) (picked t as' xs))
    go true i (inl k) f = inl k.0
    go true i (inr k) f = inr (f k)
    go false i (inl k) f = absurd (true≢false (sym e ∙ ap t (sym k.1) ∙ i))
    go false i (inr k) f = f k

module _ {book : Book} {w : Words} {s : State} (stands : StandsFor book w s) where
  -- the process at the one address is older than that at the other
  abbrev Before : ℕ → ℕ → Type 0
  Before q r = (x y : Process) × ProcessAt book s q x × ProcessAt book s r y × (is_older_process x.name y.name ≡ true)

  apart : (q r : ℕ) → Before q r → Before r q → ⊥
  apart q r h k =
      let first : h.0 ≡ k.1 = (stands.once q q h.0 k.1 h.2 k.3).1 refl in
      let second : h.1 ≡ k.0 = (stands.once r r h.1 k.0 h.3 k.2).1 refl in
      let turned : is_older_process h.1.name h.0.name ≡ true =
      subst (λ (x : Process). is_older_process h.1.name x.name ≡ true) (sym first)
      (subst (λ (y : Process). is_older_process y.name k.1.name ≡ true) (sym second) k.4) in
      let up = older_code h.0.name h.1.name (stands.dated_processes q h.0 h.2).1 h.4 in
      let down = older_code h.1.name h.0.name (stands.dated_processes r h.1 h.3).1 turned in
      omega arith

  by_name : (qs : List ℕ) → AreByName book s qs → ((q : ℕ) → IsIn q qs → (y : Process) × ProcessAt book s q y) → Rises Before apart qs
  by_name [] rise at = tt
  by_name (q ∷ qs) rise at = (
    (λ r h. let x = at q (inl refl) in let y = at r (inr h) in (x.0, y.0, x.1, y.1, rise.0 r x.0 y.0 h x.1 y.1)),
    by_name qs rise.1 (λ r h. at r (inr h)),
  )

  picked_rise : (t : Process → Bool) (as' : List ℕ) (xs : List Process) → NamesRise xs
      → ((q : ℕ) (y : Process) → StandsAt as' xs q y → ProcessAt book s q y) → Rises Before apart (picked t as' xs)
  picked_rise t [] xs rise at = tt
  picked_rise t (a ∷ as') [] rise at = tt
  picked_rise t (a ∷ as') (x ∷ xs) rise at = go (t x) (picked_rise t as' xs rise.1 (λ q y h. at q y (inr h)))
    where
      go : (b : Bool) → Rises Before apart (picked t as' xs) → Rises Before apart (cond b (a ∷ picked t as' xs) (picked t as' xs))
      go true rest = (
        (λ r h.
            let y = picked_from t as' xs r h in (
              x,
              y.0,
              at a x (inl (refl, refl)),
              at r y.0 (inr y.1),
              each_at (λ (z : Process). is_older_process x.name z.name ≡ true) as' xs r y.0 rise.0 y.1,
            )),
        rest,
      )
      go false rest = rest

  -- by name, the woken are those of the event
  woken_picked : (bs : Bindings) (wakes : List ℕ) → IsOrdered s → AreWoken book s bs wakes → AreByName book s wakes
      → wakes ≡ picked (λ (y : Process). is_woken bs y.status) book.processes s.processes
  woken_picked bs wakes ordered woken rise = one_list Before apart wakes
      (picked (λ (y : Process). is_woken bs y.status) book.processes s.processes)
      (by_name wakes rise (λ q h. let r = woken.only q h in (r.0, r.1)))
      (picked_rise (λ (y : Process). is_woken bs y.status) book.processes s.processes ordered.rise (λ q y h. h))
      (λ q h. let r = woken.only q h in
      picked_in (λ (y : Process). is_woken bs y.status) book.processes s.processes q r.0 r.1 r.2)
      (λ q h. let r = picked_from (λ (y : Process). is_woken bs y.status) book.processes s.processes q h in woken.all q r.0 r.1 r.2)

  -- and where each comes to another process of another state, these stand there
  pub woken_at : (bs : Bindings) (wakes : List ℕ) (book' : Book) (s' : State) (f : Process → Process) → IsOrdered s
      → AreWoken book s bs wakes → AreByName book s wakes
      → ((q : ℕ) (y : Process) → ProcessAt book s q y → is_woken bs y.status ≡ true → ProcessAt book' s' q (f y))
      → AllAt book' s' wakes (map f (woken_by bs s.processes))
  woken_at bs wakes book' s' f ordered woken rise on = subst (λ (qs : List ℕ). AllAt book' s' qs (map f (woken_by bs s.processes)))
      (sym (woken_picked bs wakes ordered woken rise))
      (all_at book' s' (picked (λ (y : Process). is_woken bs y.status) book.processes s.processes) (map f (woken_by bs s.processes))
      (picked_length (λ (y : Process). is_woken bs y.status) book.processes s.processes stands.processes
      ∙ sym (map_length f (woken_by bs s.processes)))
      (λ q z h.
      let r = stands_map f (picked (λ (y : Process). is_woken bs y.status) book.processes s.processes) (woken_by bs s.processes) q z h in
      let p = picked_at (λ (y : Process). is_woken bs y.status) book.processes s.processes q r.0 r.1 in
      subst (ProcessAt book' s' q) r.2 (on q r.0 p.0 p.1)))
