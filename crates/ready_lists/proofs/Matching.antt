-- In words that stand for a state the processes that stand so are those of the state, in order.
use Rattle.std.proofs.Common.{◌≡◌, ◌⊎◌, ℕ, ◌<◌, ◌≤◌, ◌+◌, Bool, true, false, cond, List, [], ◌∷◌, length, refl, sym, ap, ◌∙◌, subst, arith}
use Rattle.std.proofs.Common.{inl, inr, ⊎_elim}
use Rattle.std.specs.Prelude.{nat_lt, pos, not, Some, filter}
use Rattle.std.proofs.lemmas.Bool.Decides.{nat_tests}
use Rattle.std.proofs.lemmas.Option.{same_Some}
use Rattle.fcp_model.specs.declared.run.Proc.{Proc}
use Rattle.fcp_model.specs.Places.{is_same_process, is_older_process}
use Rattle.fcp_model.specs.LawfulStates.{Each, NamesRise, IsOrdered}
use Rattle.fcp_model.specs.States.{Status, ready, waiting, finished, Process, State, is_ready, is_finished}
use Rattle.heap_words.specs.Cells.{decoded}
use Rattle.heap_words.specs.Heaps.{inside_at}
use Rattle.heap_words.specs.declared.cell.Cell.TheVariants.{Small}
use Rattle.heap_words.specs.declared.cell.Cell.TheVariants as cell
use Rattle.heap_words.specs.declared.cell.Stand.TheVariants as stand
use Rattle.heap_words.specs.declared.cell.Stand.{Stand}
use Rattle.word_states.specs.Words.{At, IsIn, AreDistinct}
use Rattle.word_states.specs.Standing.{Book, StandsFor, StandsAt, StatusSays, ProcessAt, name_code}
use Rattle.word_states.specs.Going.{AllAt}
use Rattle.ready_lists.specs.Ready.{stands_ready, stands_live, AreByNumber, AreListed}
use Rattle.ready_lists.specs.Laws.{ReadyAreThoseOfTheState, LiveAreThoseOfTheState}

-- the process is one of the list
abbrev Has : List Process → Process → Type 0
Has [] y = ⊥
Has (x ∷ xs) y = (x ≡ y) ⊎ Has xs y

each_has : (P : Process → Type 0) (xs : List Process) (y : Process) → Each P xs → Has xs y → P y
each_has P [] y each h = absurd h
each_has P (x ∷ xs) y each (inl e) = subst P e each.0
each_has P (x ∷ xs) y each (inr h) = each_has P xs y each.1 h

has_stands : (as' : List ℕ) (xs : List Process) (y : Process) → length as' ≡ length xs → Has xs y → (p : ℕ) × StandsAt as' xs p y
has_stands as' [] y e h = absurd h
has_stands [] (x ∷ xs) y e h = absurd (omega (arith, e))
has_stands (a ∷ as') (x ∷ xs) y e (inl i) = (a, inl (refl, i))
has_stands (a ∷ as') (x ∷ xs) y e (inr h) = let r = has_stands as' xs y (omega (arith, e)) h in (r.0, inr r.1)

stands_has : (as' : List ℕ) (xs : List Process) (p : ℕ) (y : Process) → StandsAt as' xs p y → Has xs y
stands_has [] xs p y h = absurd h
stands_has (a ∷ as') [] p y h = absurd h
stands_has (a ∷ as') (x ∷ xs) p y (inl h) = inl h.1
stands_has (a ∷ as') (x ∷ xs) p y (inr h) = inr (stands_has as' xs p y h)

module _ (t : Process → Bool) where
  has_filter : (xs : List Process) (y : Process) → Has xs y → t y ≡ true → Has (filter t xs) y
  has_filter [] y h e = absurd h
  has_filter (x ∷ xs) y h e = go (t x) refl h (λ k. has_filter xs y k e)
    where
      go : (b : Bool) → t x ≡ b → Has (x ∷ xs) y → (Has xs y → Has (filter t xs) y) → Has (cond b (x ∷ filter t xs) (filter t xs)) y
      go true i (inl k) f = inl k
      go true i (inr k) f = inr (f k)
      go false i (inl k) f = let j : false ≡ true = sym i ∙ (ap t k ∙ e) in cc
      go false i (inr k) f = f k

  filter_has : (xs : List Process) (y : Process) → Has (filter t xs) y → Has xs y × (t y ≡ true)
  filter_has [] y h = absurd h
  filter_has (x ∷ xs) y h = go (t x) refl (filter_has xs y) h
    where
      go : (b : Bool) → t x ≡ b → (Has (filter t xs) y → Has xs y × (t y ≡ true)) → Has (cond b (x ∷ filter t xs) (filter t xs)) y
          → Has (x ∷ xs) y × (t y ≡ true)
      go true i f (inl k) = (inl k, ap t (sym k) ∙ i)
      go true i f (inr k) = let r = f k in (inr r.0, r.1)
      go false i f k = let r = f k in (inr r.0, r.1)

  each_filter : (P : Process → Type 0) (xs : List Process) → Each P xs → Each P (filter t xs)
  each_filter P [] h = tt
  each_filter P (x ∷ xs) h = go (t x) (each_filter P xs h.1)
    where
      go : (b : Bool) → Each P (filter t xs) → Each P (cond b (x ∷ filter t xs) (filter t xs))
      go true r = (h.0, r)
      go false r = r

  rise_filter : (xs : List Process) → NamesRise xs → NamesRise (filter t xs)
  rise_filter [] h = tt
  rise_filter (x ∷ xs) h = go (t x) (rise_filter xs h.1)
    where
      go : (b : Bool) → NamesRise (filter t xs) → NamesRise (cond b (x ∷ filter t xs) (filter t xs))
      go true r = (each_filter (λ q. is_older_process x.name q.name ≡ true) xs h.0, r)
      go false r = r

abbrev code : Process → ℕ
code x = name_code x.name.entry x.name.number

-- an older process has the smaller number in its name word
older_code : (p q : Proc) → p.number < 268435456 → is_older_process p q ≡ true → name_code p.entry p.number < name_code q.entry q.number
older_code p q low older = go (nat_lt p.entry q.entry) refl
  where
    go : (b : Bool) → nat_lt p.entry q.entry ≡ b → name_code p.entry p.number < name_code q.entry q.number
    go true e = let l : p.entry < q.entry = grind (arith, nat_tests, e) in omega (arith, l, low)
    go false e =
        let same : p.entry ≡ q.entry = grind (arith, nat_tests, e, older) in
        let less : p.number < q.number = grind (arith, nat_tests, e, older) in
        omega (arith, same, less)

own_name : (p : Proc) → is_same_process p p ≡ true
own_name p = grind (arith, nat_tests)

-- the status of a process is read off its word
abbrev Tells : (Stand → Bool) → (Status → Bool) → Type 0
Tells stands is = (limit x : ℕ) (d : Stand) (t : Status) → StatusSays limit x t → decoded x ≡ Some (cell.Status d) → stands d ≡ is t

same_stand : (x : ℕ) (d e : Stand) → decoded x ≡ Some (cell.Status d) → decoded x ≡ Some (cell.Status e) → d ≡ e
same_stand x d e h i = let j : Some (cell.Status d) ≡ Some (cell.Status e) = sym h ∙ i in cc

ready_tells : Tells stands_ready is_ready
ready_tells limit x d ready h e = ap stands_ready (same_stand x d stand.Ready e h)
ready_tells limit x d finished h e = ap stands_ready (same_stand x d stand.Done e h)
ready_tells limit x d (waiting ps) h e = ap stands_ready (same_stand x d (stand.Waiting h.0) e h.1)

live_tells : Tells stands_live (λ t. not (is_finished t))
live_tells limit x d ready h e = ap stands_live (same_stand x d stand.Ready e h)
live_tells limit x d finished h e = ap stands_live (same_stand x d stand.Done e h)
live_tells limit x d (waiting ps) h e = ap stands_live (same_stand x d (stand.Waiting h.0) e h.1)

-- the stand that a status says
stand_said : (limit x : ℕ) (t : Status) → StatusSays limit x t → (d : Stand) × (decoded x ≡ Some (cell.Status d))
stand_said limit x ready h = (stand.Ready, h)
stand_said limit x finished h = (stand.Done, h)
stand_said limit x (waiting ps) h = (stand.Waiting h.0, h.1)

module _ (ws : List ℕ) {book : Book} {s : State} (stands : StandsFor book (inside_at ws) s) where
  older : (p q : ℕ) (x y : Process) → ProcessAt book s p x → is_older_process x.name y.name ≡ true → code x < code y
  older p q x y at h = older_code x.name y.name (stands.dated_processes p x at).1 h

  named : (p : ℕ) (x : Process) → ProcessAt book s p x → At (inside_at ws) (p + 1) (Small (pos (code x)))
  named p x at = (stands.process p x at).name

  -- one address has one process, and one process one address
  one_process : (p q : ℕ) (x y : Process) → ProcessAt book s p x → ProcessAt book s q y → p ≡ q → x ≡ y
  one_process p q x y at to e = (stands.once p q x y at to).1 e

  one_address : (p q : ℕ) (x y : Process) → ProcessAt book s p x → ProcessAt book s q y → x ≡ y → p ≡ q
  one_address p q x y at to e =
      (stands.once p q x y at to).0 (subst (λ (z : Process). is_same_process x.name z.name ≡ true) e (own_name x.name))

  not_itself : (p : ℕ) (x y : Process) → ProcessAt book s p x → is_older_process x.name y.name ≡ true → x ≡ y → ⊥
  not_itself p x y at h e =
      let l = older p p x y at h in
      let same : code x ≡ code y = ap code e in omega (arith, l, same)

  matched : (qs : List ℕ) (ys : List Process) → ((q : ℕ) → IsIn q qs → (y : Process) × Has ys y × ProcessAt book s q y)
      → ((y : Process) → Has ys y → (q : ℕ) × IsIn q qs × ProcessAt book s q y) → AreDistinct qs → AreByNumber ws qs → NamesRise ys
      → AllAt book s qs ys
  matched [] [] from to once up rise = tt
  matched [] (y ∷ ys) from to once up rise = absurd (to y (inl refl)).1
  matched (q ∷ qs) [] from to once up rise = absurd (from q (inl refl)).1
  matched (q ∷ qs) (y ∷ ys) from to once up rise = (
    here,
    matched qs ys
        (λ r i. let t = from r (inr i) in (t.0, later_process r i t.0 t.2 t.1, t.2))
        (λ z h. let t = to z (inr h) in (t.0, later_address z h t.0 t.2 t.1, t.2)) once.1 up.1 rise.1,
  )
    where
      first : (x : Process) → ProcessAt book s q x → (y ≡ x) ⊎ Has ys x → ProcessAt book s q y
      first x at (inl e) = subst (ProcessAt book s q) (sym e) at
      first x at (inr h) =
          let older_one : is_older_process y.name x.name ≡ true =
          each_has (λ (z : Process). is_older_process y.name z.name ≡ true) ys x rise.0 h in
          let t = to y (inl refl) in
          let below = older t.0 q y x t.2 older_one in
          ⊎_elim (λ e. absurd (not_itself t.0 y x t.2 older_one (sym (one_process q t.0 x y at t.2 e))))
          (λ i.
          let le : code x ≤ code y = up.0 t.0 (code x) (code y) i (named q x at) (named t.0 y t.2) in absurd (omega (arith, below, le))) t.1

      here : ProcessAt book s q y
      here = let t = from q (inl refl) in first t.0 t.2 t.1

      later_process : (r : ℕ) → IsIn r qs → (x : Process) → ProcessAt book s r x → (y ≡ x) ⊎ Has ys x → Has ys x
      later_process r i x at (inl e) = absurd (once.0 (subst (λ a. IsIn a qs) (sym (one_address q r y x here at e)) i))
      later_process r i x at (inr h) = h

      later_address : (z : Process) → Has ys z → (r : ℕ) → ProcessAt book s r z → (q ≡ r) ⊎ IsIn r qs → IsIn r qs
      later_address z h r at (inl e) = absurd (not_itself q y z here
          (each_has (λ (x : Process). is_older_process y.name x.name ≡ true) ys z rise.0 h) (one_process q r y z here at e))
      later_address z h r at (inr i) = i

  these : (st : Stand → Bool) (is : Status → Bool) → Tells st is → (qs : List ℕ) → AreListed st ws qs → IsOrdered s
      → AllAt book s qs (filter (λ p. is p.status) s.processes)
  these st is tells qs are ordered = matched qs (filter (λ p. is p.status) s.processes)
      (λ q i.
      let at = are.only q i in
      let r = stands.statuses q at.0 at.2 in
      let u = (stands.process q r.0 r.1).status in
      let same : u.0 ≡ at.2.0 = same_Some u.0 at.2.0 (sym u.1 ∙ at.2.1) in
      let so : is r.0.status ≡ true = sym (tells s.entries u.0 at.0 r.0.status u.2 (ap decoded same ∙ at.2.2)) ∙ at.1 in
      (r.0, has_filter (λ p. is p.status) s.processes r.0 (stands_has book.processes s.processes q r.0 r.1) so, r.1))
      (λ y h.
      let t = filter_has (λ p. is p.status) s.processes y h in
      let p = has_stands book.processes s.processes y stands.processes t.0 in
      let u = (stands.process p.0 y p.1).status in
      let d = stand_said s.entries u.0 y.status u.2 in
      (p.0, are.all p.0 d.0 (tells s.entries u.0 d.0 y.status u.2 d.1 ∙ t.1) (u.0, u.1, d.1), p.1))
      are.once are.by_name (rise_filter (λ p. is p.status) s.processes ordered.rise)

pub ready_are_those : ReadyAreThoseOfTheState
ready_are_those ws qs book s are stands ordered = these ws stands stands_ready is_ready ready_tells qs are ordered

pub live_are_those : LiveAreThoseOfTheState
live_are_those ws qs book s are stands ordered = these ws stands stands_live (λ t. not (is_finished t)) live_tells qs are ordered
