-- Two states for which the same words stand are alike.
use Rattle.std.proofs.Common.{◌≡◌, ℕ, ◌+◌, ◌<◌, Bool, true, false, List, [], ◌∷◌, map, refl, sym, ap, ap₂, ◌∙◌, subst, arith}
use Rattle.std.proofs.Common.{◌⊎◌, inl, inr, true≢false, Option, Some, None}
use Rattle.std.specs.Prelude.{pos}
use Rattle.std.proofs.lemmas.Option.{same_Some}
use Rattle.fcp_model.specs.declared.run.Place.{Place}
use Rattle.fcp_model.specs.declared.run.Proc.{Proc}
use Rattle.fcp_model.specs.Places.{Variable, made, is_listed}
use Rattle.fcp_model.specs.Terms.{Term, Bindings, find}
use Rattle.fcp_model.specs.States.{Status, ready, waiting, finished, Process, State}
use Rattle.heap_words.specs.Cells.{decoded, is_final_word, is_final_in}
use Rattle.heap_words.specs.declared.cell.Cell.TheVariants.{Unbound, Small}
use Rattle.heap_words.specs.declared.cell.Cell.TheVariants as cell
use Rattle.heap_words.specs.declared.cell.Stand.TheVariants as stand
use Rattle.word_states.specs.Words.{Words, At}
use Rattle.word_states.specs.Denoting.{Listed}
use Rattle.word_states.specs.Standing.{Book, StandsFor, ProcessAt, PlaceAt, PlaceSays, StatusSays, name_code}
use Rattle.word_states.specs.Leading.{LeadsTo, GoalLeads}
use Rattle.word_states.proofs.Leading.{found_short, open_short}
use Rattle.word_states.proofs.Persisting.{denotes_final, one_cell}
use Rattle.word_states.proofs.OneTerm.{denotes_one, goal_one}
use Rattle.word_state_laws.specs.OneState.{StandAlike, BoundAlike, GoalsAlike, AreAlike, AStateIsOne}

-- lists of places are told apart by their variables
places_one : (ps qs : List Place) → map made ps ≡ map made qs → ps ≡ qs
places_one [] [] e = refl
places_one [] (q ∷ qs) e = cc
places_one (p ∷ ps) [] e = cc
places_one (p ∷ ps) (q ∷ qs) e =
    let h : p ≡ q = cc in
    let t : map made ps ≡ map made qs = cc in
    ap₂ (λ (x : Place) (xs : List Place). x ∷ xs) h (places_one ps qs t)

bool_same : (x y : Bool) → (x ≡ true → y ≡ true) → (y ≡ true → x ≡ true) → x ≡ y
bool_same true y f g = sym (f refl)
bool_same false true f g = g refl
bool_same false false f g = refl

pub name_one : (p q : Proc) → p.number < 268435456 → q.number < 268435456 → name_code p.entry p.number ≡ name_code q.entry q.number → p ≡ q
name_one p q h k e =
    let a : p.entry ≡ q.entry = omega arith in
    let b : p.number ≡ q.number = omega arith in
    λ i. record { entry = a i; number = b i }

not_final : (x e : ℕ) → decoded x ≡ Some (Unbound e) → is_final_word x ≡ true → ⊥
not_final x e i f = true≢false (sym f ∙ ap is_final_in i)

module _ (book : Book) (w : Words) (s t : State) (first : StandsFor book w s) (second : StandsFor book w t) where
  once : (v u : Variable) (a : ℕ) → Listed book.places v a → Listed book.places u a → v ≡ u
  once v u a h k = (first.says.once v u a a h k).1 refl

  place_one : (x : ℕ) (o u : Option (Term Variable)) → PlaceSays w book.places x o → PlaceSays w book.places x u → o ≡ u
  place_one x None None h k = refl
  place_one x None (Some t) h k = absurd (not_final x h.0 h.1 (denotes_final w book.places x t k))
  place_one x (Some t) None h k = absurd (not_final x k.0 k.1 (denotes_final w book.places x t h))
  place_one x (Some t) (Some u) h k = ap Some (denotes_one w book.places once x t u h k)

  short_one : (j : Place) (a : ℕ) → PlaceAt book j a → find first.short (made j) ≡ find second.short (made j)
  short_one j a h =
      let x = first.says.word (made j) a h in
      let y = second.says.word (made j) a h in
      let same : y.0 ≡ x.0 = same_Some _ _ (sym y.1 ∙ x.1) in
      place_one x.0 (find first.short (made j)) (find second.short (made j)) x.2
      (subst (λ (z : ℕ). PlaceSays w book.places z (find second.short (made j))) same y.2)

  bound' : (j : Place) (a : ℕ) → PlaceAt book j a → BoundAlike s.bound t.bound (made j)
  bound' j a h = go (found_short s.bound s.bound first.short (made j) first.shortened)
      (found_short t.bound t.bound second.short (made j) second.shortened)
    where
      Found : Bindings → Bindings → Type 0
      Found b c = ((find b (made j) ≡ None) × (find c (made j) ≡ None))
          ⊎ ((x y : Term Variable) × (find b (made j) ≡ Some x) × (find c (made j) ≡ Some y) × LeadsTo b x y)

      go : Found s.bound first.short → Found t.bound second.short → BoundAlike s.bound t.bound (made j)
      go (inl e) (inl f) = inl (e.0, f.0)
      go (inl e) (inr f) = let bad : None ≡ Some f.1 = sym e.1 ∙ short_one j a h ∙ f.3 in cc
      go (inr e) (inl f) = let bad : Some e.1 ≡ None = sym e.3 ∙ short_one j a h ∙ f.1 in cc
      go (inr e) (inr f) =
          let same : f.1 ≡ e.1 = same_Some _ _ (sym f.3 ∙ sym (short_one j a h) ∙ e.3) in
          inr (e.0, f.0, e.1, e.2, f.2, e.4, subst (LeadsTo t.bound f.0) same f.4)

  goals' : (p : ℕ) (x y : Process) → ProcessAt book s p x → ProcessAt book t p y → GoalsAlike s.bound t.bound x.goal y.goal
  goals' p x y h k =
      let a = (first.process p x h).goal in
      let b = (second.process p y k).goal in
      let same : a.goal ≡ b.goal = goal_one w book.places once p a.goal b.goal a.says b.says in
      (a.goal, a.leads, subst (GoalLeads t.bound y.goal) (sym same) b.leads)

  names' : (p : ℕ) (x y : Process) → ProcessAt book s p x → ProcessAt book t p y → x.name ≡ y.name
  names' p x y h k =
      let n : Small (pos (name_code x.name.entry x.name.number)) ≡ Small (pos (name_code y.name.entry y.name.number)) =
      one_cell w (p + 1) _ _ (first.process p x h).name (second.process p y k).name in
      let e : name_code x.name.entry x.name.number ≡ name_code y.name.entry y.name.number = cc in
      name_one x.name y.name (first.dated_processes p x h).1 (second.dated_processes p y k).1 e

  -- what a process of one state waits on, its process in the other one waits on
  waits_too : {s' t' : State} (one : StandsFor book w s') (other : StandsFor book w t') (p n : ℕ) (x y : Process) (ps qs : List Place)
      → ProcessAt book s' p x → ProcessAt book t' p y → x.status ≡ waiting ps → y.status ≡ waiting qs
      → At w p (cell.Status (stand.Waiting n)) → (j : Place) → is_listed j ps ≡ true → is_listed j qs ≡ true
  waits_too {s' = s'} one other p n x y ps qs h k e f at j l =
      let r = one.waits p x ps j h e l in
      let z = one.says.word (made j) r.0.0 r.0.1 in
      let free = open_short s'.bound s'.bound one.short (made j) one.shortened r.1 in
      let u : PlaceSays w book.places z.0 None = subst (PlaceSays w book.places z.0) free z.2 in
      let open' : At w r.0.0 (Unbound u.0) = (z.0, z.1, u.1) in
      let list = one.lists j r.0.0 u.0 r.0.1 open' in
      let among = (one.hung j r.0.0 u.0 list.0 r.0.1 open' list.1 p n x ps h e at).0 l in
      (other.hung j r.0.0 u.0 list.0 r.0.1 open' list.1 p n y qs k f at).1 among

  statuses' : (p : ℕ) (x y : Process) → ProcessAt book s p x → ProcessAt book t p y → StandAlike x.status y.status
  statuses' p x y h k =
      let a = (first.process p x h).status in
      let b = (second.process p y k).status in
      go a.0 b.0 (same_Some _ _ (sym a.1 ∙ b.1)) a.1 x.status y.status refl refl a.2 b.2
    where
      go : (u v : ℕ) → u ≡ v → w p ≡ Some u → (c d : Status) → x.status ≡ c → y.status ≡ d → StatusSays s.entries u c
          → StatusSays t.entries v d → StandAlike c d
      go u v e i ready ready f g m n = tt
      go u v e i finished finished f g m n = tt
      go u v e i (waiting ps) (waiting qs) f g m n = λ j.
          let at : At w p (cell.Status (stand.Waiting m.0)) = (u, i, m.1) in
          bool_same (is_listed j ps) (is_listed j qs) (waits_too first second p m.0 x y ps qs h k f g at j)
          (waits_too second first p m.0 y x qs ps k h g f at j)
      go u v e i ready finished f g m n =
          let bad : Some (cell.Status stand.Ready) ≡ Some (cell.Status stand.Done) = sym m ∙ (ap decoded e ∙ n) in cc
      go u v e i finished ready f g m n =
          let bad : Some (cell.Status stand.Done) ≡ Some (cell.Status stand.Ready) = sym m ∙ (ap decoded e ∙ n) in cc
      go u v e i ready (waiting qs) f g m n =
          let bad : Some (cell.Status stand.Ready) ≡ Some (cell.Status (stand.Waiting n.0)) = sym m ∙ (ap decoded e ∙ n.1) in cc
      go u v e i finished (waiting qs) f g m n =
          let bad : Some (cell.Status stand.Done) ≡ Some (cell.Status (stand.Waiting n.0)) = sym m ∙ (ap decoded e ∙ n.1) in cc
      go u v e i (waiting ps) ready f g m n =
          let bad : Some (cell.Status (stand.Waiting m.0)) ≡ Some (cell.Status stand.Ready) = sym m.1 ∙ (ap decoded e ∙ n) in cc
      go u v e i (waiting ps) finished f g m n =
          let bad : Some (cell.Status (stand.Waiting m.0)) ≡ Some (cell.Status stand.Done) = sym m.1 ∙ (ap decoded e ∙ n) in cc

  pub alike : AreAlike book s t
  alike = record {
    places = places_one s.places t.places (sym first.places ∙ second.places);
    bound = bound';
    names = names';
    goals = goals';
    statuses = statuses';
  }

pub a_state_is_one : AStateIsOne
a_state_is_one book w s t first second = alike book w s t first second
