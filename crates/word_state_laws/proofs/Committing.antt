-- After a commit the words stand for the next state.
use Rattle.std.proofs.Common.{◌≡◌, ◌⊎◌, ℕ, suc, ◌-◌, ◌<◌, ◌≤◌, Bool, true, false, cond, List, [], ◌∷◌, ◌++◌, length, map, refl, sym, ap}
use Rattle.std.proofs.Common.{◌∙◌, subst, ⊎_elim, inl, inr, arith, true≢false, Option, Some, None, length-append}
use Rattle.std.specs.Prelude.{option_map}
use Rattle.std.proofs.lemmas.Bool.{cases_Bool, cond-true, cond-false}
use Rattle.std.proofs.lemmas.Option.{same_Some}
use Rattle.fcp_model.specs.declared.run.Place.{Place}
use Rattle.fcp_model.specs.declared.run.Proc.{Proc}
use Rattle.fcp_model.specs.Places.{own, Variable, made, place, placed, is_same_process, is_listed}
use Rattle.fcp_model.specs.Terms.{Term, Bindings, find, settle, rename}
use Rattle.fcp_model.specs.Programs.{Clause}
use Rattle.fcp_model.specs.States.{ready, waiting, finished, Process, State, count_up}
use Rattle.fcp_model.specs.Events.{settled, is_woken, wake, with_status, vars_of, children_of, after_commit}
use Rattle.fcp_model.proofs.Finding.{found_or, find-append}
use Rattle.heap_words.specs.Cells.{decoded, is_final_in}
use Rattle.heap_words.specs.Trails.{WordList}
use Rattle.heap_words.specs.declared.cell.Cell.TheVariants.{Unbound}
use Rattle.heap_words.specs.declared.cell.Stand.{Stand}
use Rattle.heap_words.specs.declared.cell.Cell.TheVariants as cell
use Rattle.heap_words.specs.declared.cell.Stand.TheVariants as stand
use Rattle.word_states.specs.Words.{Words, At, Among}
use Rattle.word_states.specs.Denoting.{Addresses, Listed, Denotes}
use Rattle.word_states.specs.Standing.{Book, PlacesStand, PlaceSays, Hangs, StatusSays, StandsAt, ProcessSays, StandsFor, FreshSays}
use Rattle.word_states.specs.Standing.{ProcessAt, PlaceAt}
use Rattle.word_states.specs.Effects.{CommitEffect}
use Rattle.word_states.proofs.Lists.{listed_left, listed_either}
use Rattle.word_states.proofs.Leading.{process_on}
use Rattle.word_states.proofs.Persisting.{denotes_final, one_cell, hangs_one, status_up, stands_map, map_stands, map_length}
use Rattle.word_states.proofs.Persisting.{at_on, denotes_on, hangs_on}
use Rattle.leading_laws.proofs.Extending.{part_append}
use Rattle.word_state_laws.proofs.Settling.{find-settled_free, find-settled, not_bound, settled_before}
use Rattle.word_state_laws.proofs.SettledWays.{MaySettle, may_settle, shortened_after, absent_after}
use Rattle.word_state_laws.proofs.Hanging.{same_process_refl}
use Rattle.word_state_laws.proofs.Appended.{names_append, map_append, map_map, stands_either, stands_left, stands_right, names_apart}

module _ (book : Book) (fresh : Addresses) (born : List ℕ) (s : State) (p : ℕ) (x : Process) (c : Option Clause) (bs cs : Bindings)
    (w w' : Words) (stands : StandsFor book w s) (eff : CommitEffect book fresh born s p x c stands.short bs cs w w') where
  known : MaySettle (suc s.entries) s.bound bs
  known = may_settle book w s bs cs stands eff.leads eff.bound_old

  abbrev After : ℕ → Process → Type 0
  After q y =
      StandsAt (book.processes ++ born) (map (λ q. wake bs (with_status x.name finished q)) s.processes ++ children_of (suc s.entries) c)
      q y

  more : (v : Variable) (a : ℕ) → Listed book.places v a → Listed (book.places ++ fresh) v a
  more v a h = listed_left book.places fresh v a h

  same_name : (y z : Process) → y.name ≡ z.name → (z.name.entry ≤ s.entries) × (z.name.number < 268435456)
      → (y.name.entry ≤ suc s.entries) × (y.name.number < 268435456)
  same_name y z e d =
      let f : y.name.entry ≡ z.name.entry = ap (λ (v : Proc). v.entry) e in
      let g : y.name.number ≡ z.name.number = ap (λ (v : Proc). v.number) e in let a = d.0 in let b = d.1 in (omega arith, omega arith)

  data Was (q : ℕ) (y : Process) : Type 0 where
    commits' : q ≡ p → y ≡ record x { status = finished } → Was q y
    wakes : (z : Process) → (q ≡ p → ⊥) → ProcessAt book s q z → is_woken bs z.status ≡ true → y ≡ record z { status = ready } → Was q y
    stays : (q ≡ p → ⊥) → ProcessAt book s q y → is_woken bs y.status ≡ false → Was q y
    begins : StandsAt born (children_of (suc s.entries) c) q y → Was q y

  was_old : (q : ℕ) (y z : Process) → ProcessAt book s q z → wake bs (with_status x.name finished z) ≡ y → Was q y
  was_old q y z at eq = ⊎_elim
      (λ (t : is_same_process z.name x.name ≡ true).
      let here : q ≡ p = (stands.once q p z x at eff.parent).0 t in
      let is : z ≡ x = (stands.once q p z x at eff.parent).1 here in
      commits' here (sym eq ∙ ap (wake bs) (cond-true _ _ _ t) ∙ ap (λ (v : Process). record v { status = finished }) is))
      (λ (t : is_same_process z.name x.name ≡ false).
      let far : q ≡ p → ⊥ = (λ here. let is : z ≡ x = (stands.once q p z x at eff.parent).1 here in
      true≢false (sym (same_process_refl x.name) ∙ ap (λ (v : Process). is_same_process v.name x.name) (sym is) ∙ t)) in
      let eq' : wake bs z ≡ y = ap (wake bs) (sym (cond-false _ _ _ t)) ∙ eq in
      ⊎_elim (λ (u : is_woken bs z.status ≡ true). wakes z far at u (sym eq' ∙ cond-true _ _ _ u))
      (λ (u : is_woken bs z.status ≡ false).
      let is : z ≡ y = sym (cond-false _ _ _ u) ∙ eq' in
      stays far (subst (ProcessAt book s q) is at) (ap (λ (v : Process). is_woken bs v.status) (sym is) ∙ u))
      (cases_Bool (is_woken bs z.status)))
      (cases_Bool (is_same_process z.name x.name))

  same_size : length book.processes ≡ length (map (λ q. wake bs (with_status x.name finished q)) s.processes)
  same_size = stands.processes ∙ sym (map_length (λ q. wake bs (with_status x.name finished q)) s.processes)

  origin : (q : ℕ) (y : Process) → After q y → ((z : Process) × ProcessAt book s q z × (wake bs (with_status x.name finished z) ≡ y))
      ⊎ StandsAt born (children_of (suc s.entries) c) q y
  origin q y h = ⊎_elim
      (λ (t : StandsAt book.processes (map (λ q. wake bs (with_status x.name finished q)) s.processes) q y). inl
      (stands_map (λ q. wake bs (with_status x.name finished q)) book.processes s.processes q y t))
      (λ (t : StandsAt born (children_of (suc s.entries) c) q y). inr t)
      (stands_either book.processes born (map (λ q. wake bs (with_status x.name finished q)) s.processes) (children_of (suc s.entries) c)
      q y same_size h)

  was : (q : ℕ) (y : Process) → After q y → Was q y
  was q y h = ⊎_elim
      (λ (t : (z : Process) × ProcessAt book s q z × (wake bs (with_status x.name finished z) ≡ y)). was_old q y t.0 t.1 t.2)
      (λ (t : StandsAt born (children_of (suc s.entries) c) q y). begins t)
      (origin q y h)

  -- what the words of a process say after the commit
  abbrev Says : ℕ → Process → Type 0
  Says q y = ProcessSays w' (book.places ++ fresh) (s.bound ++ settled (suc s.entries) bs) (suc s.entries) q y

  on : (q : ℕ) (z y : Process) → ProcessAt book s q z → y.name ≡ z.name → y.goal ≡ z.goal
      → ((v : ℕ) × (w' q ≡ Some v) × StatusSays (suc s.entries) v y.status) → Says q y
  on q z y at = process_on s.bound (s.bound ++ settled (suc s.entries) bs) w w' book.places (book.places ++ fresh) s.entries
      (suc s.entries) q z y (part_append s.bound (settled (suc s.entries) bs)) eff.grows more (stands.process q z at)

  process_says : (q : ℕ) (y : Process) → Was q y → Says q y
  process_says q y (commits' here is) =
      subst (Says q) (sym is)
      (subst (λ (b : ℕ). Says b (record x { status = finished })) (sym here)
      (on p x (record x { status = finished }) eff.parent refl refl eff.done))
  process_says q y (wakes z far at u is) =
      subst (Says q) (sym is)
      (on q z (record z { status = ready }) at refl refl (eff.woken q z at far u))
  process_says q y (stays far at u) =
      let r = (stands.process q y at).status in
      on q y y at refl refl (r.0, eff.others q y at far u ∙ r.1, status_up s.entries (suc s.entries) r.0 y.status (omega arith) r.2)
  process_says q y (begins at) = (eff.born_says q y at).2

  cond_name : (b : Bool) (u v : Process) → u.name ≡ v.name → (cond b u v).name ≡ v.name
  cond_name true u v e = e
  cond_name false u v e = refl

  name_kept : (z : Process) → (wake bs (with_status x.name finished z)).name ≡ z.name
  name_kept z =
      cond_name (is_woken bs (with_status x.name finished z).status) (record (with_status x.name finished z) { status = ready })
      (with_status x.name finished z) refl
      ∙ cond_name (is_same_process z.name x.name) (record z { status = finished }) z refl

  named : (y z : Process) → wake bs (with_status x.name finished z) ≡ y → y.name ≡ z.name
  named y z e = ap (λ (v : Process). v.name) (sym e) ∙ name_kept z

  apart' : (q r : ℕ) (y z : Process) → ProcessAt book s q y → StandsAt born (children_of (suc s.entries) c) r z
      → (is_same_process y.name z.name ≡ false) × (is_same_process z.name y.name ≡ false)
  apart' q r y z h k = names_apart y.name z.name s.entries (stands.dated_processes q y h).0 (eff.born_says r z k).1.0

  once_kept : (q r : ℕ) (y z : Process) → ((y0 : Process) × ProcessAt book s q y0 × (wake bs (with_status x.name finished y0) ≡ y))
      ⊎ StandsAt born (children_of (suc s.entries) c) q y
      → ((z0 : Process) × ProcessAt book s r z0 × (wake bs (with_status x.name finished z0) ≡ z))
      ⊎ StandsAt born (children_of (suc s.entries) c) r z → (is_same_process y.name z.name ≡ true → q ≡ r) × (q ≡ r → y ≡ z)
  once_kept q r y z (inl a) (inl b) =
      let o = stands.once q r a.0 b.0 a.1 b.1 in (
        (λ h. o.0 (ap (λ (v : Proc). is_same_process v b.0.name) (sym (named y a.0 a.2))
            ∙ ap (is_same_process y.name) (sym (named z b.0 b.2)) ∙ h)),
        (λ e. sym a.2 ∙ ap (λ (v : Process). wake bs (with_status x.name finished v)) (o.1 e) ∙ b.2),
      )
  once_kept q r y z (inl a) (inr b) =
      let o = apart' q r a.0 z a.1 b in (
        (λ h. absurd (true≢false (sym h ∙ ap (λ (v : Proc). is_same_process v z.name) (named y a.0 a.2) ∙ o.0))),
        (λ e. absurd (eff.born_apart q r a.0 z a.1 b e)),
      )
  once_kept q r y z (inr a) (inl b) =
      let o = apart' r q b.0 y b.1 a in (
        (λ h. absurd (true≢false (sym h ∙ ap (is_same_process y.name) (named z b.0 b.2) ∙ o.1))),
        (λ e. absurd (eff.born_apart r q b.0 y b.1 a (sym e))),
      )
  once_kept q r y z (inr a) (inr b) = eff.born_once q r y z a b

  -- what an old place's word says after the commit
  place_says : (j : Place) (a : ℕ) → PlaceAt book j a → (o v : Option (Term Variable)) → find stands.short (made j) ≡ o
      → find (settled (suc s.entries) cs) (made j) ≡ v → (y : ℕ) × (w' a ≡ Some y) × PlaceSays w' (book.places ++ fresh) y (found_or o v)
  place_says j a h (Some t) v eo ev =
      let r = stands.says.word (made j) a h in
      let says : Denotes w book.places r.0 t = subst (PlaceSays w book.places r.0) eo r.2 in (
        r.0,
        eff.grows a r.0 r.1 (denotes_final w book.places r.0 t says),
        denotes_on w w' book.places (book.places ++ fresh) eff.grows
            more r.0 t says,
      )
  place_says j a h None (Some t) eo ev = eff.binds j a t h eo ev
  place_says j a h None None eo ev =
      let r = stands.says.word (made j) a h in
      (r.0, eff.leaves j a h eo ev ∙ r.1, subst (PlaceSays w book.places r.0) eo r.2)

  fresh_says : (y : ℕ) (o : Option (Term Variable)) → FreshSays w' (book.places ++ fresh) y o → PlaceSays w' (book.places ++ fresh) y o
  fresh_says y None h = (0, h)
  fresh_says y (Some t) h = h

  place_word : (v : Variable) (a : ℕ) → Listed (book.places ++ fresh) v a → (y : ℕ) × (w' a ≡ Some y)
      × PlaceSays w' (book.places ++ fresh) y (find (stands.short ++ settled (suc s.entries) cs) v)
  place_word v a h = ⊎_elim
      (λ (t : Listed book.places v a).
      let m = stands.says.is_made v a t in
      let t' : PlaceAt book m.0 a = subst (λ (u : Variable). Listed book.places u a) m.1 t in
      let r = place_says m.0 a t' (find stands.short (made m.0)) (find (settled (suc s.entries) cs) (made m.0)) refl refl in
      subst (λ (u : Variable). (y : ℕ) × (w' a ≡ Some y)
      × PlaceSays w' (book.places ++ fresh) y (find (stands.short ++ settled (suc s.entries) cs) u)) (sym m.1) (
        r.0,
        r.1,
        subst (PlaceSays w' (book.places ++ fresh) r.0)
            (sym (find-append stands.short (settled (suc s.entries) cs) (made m.0))) r.2,
      ))
      (λ (t : Listed fresh v a). let r = eff.fresh_word v a t in (r.0, r.1, fresh_says r.0 _ r.2))
      (listed_either book.places fresh v a h)

  -- a place that is unbound after the commit: its list is as before, or it is new
  data Left (j : Place) (a e : ℕ) (hs : WordList) : Type 0 where
    left : PlaceAt book j a → At w a (Unbound e) → Hangs w e hs → Left j a e hs
    fresh' : Listed fresh (made j) a → hs ≡ [] → Left j a e hs

  no_hangs : (hs : WordList) → Hangs w' 0 hs → hs ≡ []
  no_hangs [] h = refl
  no_hangs (z ∷ zs) h = let r = h.0 in absurd (omega arith)

  not_free : (a e y : ℕ) (t : Term Variable) → At w' a (Unbound e) → w' a ≡ Some y → Denotes w' (book.places ++ fresh) y t → ⊥
  not_free a e y t is at h =
      true≢false (sym (denotes_final w' (book.places ++ fresh) y t h) ∙ ap is_final_in (ap decoded (same_Some _ _ (sym at ∙ is.1)) ∙ is.2))

  still_free : (j : Place) (a e : ℕ) → PlaceAt book j a → At w' a (Unbound e) → (o v : Option (Term Variable))
      → find stands.short (made j) ≡ o → find (settled (suc s.entries) cs) (made j) ≡ v → At w a (Unbound e)
  still_free j a e h is (Some t) v eo ev = let r = place_says j a h (Some t) v eo ev in absurd (not_free a e r.0 t is r.1 r.2)
  still_free j a e h is None (Some t) eo ev = let r = eff.binds j a t h eo ev in absurd (not_free a e r.0 t is r.1 r.2)
  still_free j a e h is None None eo ev = (is.0, sym (eff.leaves j a h eo ev) ∙ is.1, is.2)

  fresh_free : (v : Variable) (a e : ℕ) → Listed fresh v a → At w' a (Unbound e) → e ≡ 0
  fresh_free v a e h is = let r = eff.fresh_word v a h in go r.0 r.1 (find (stands.short ++ settled (suc s.entries) cs) v) r.2
    where
      go : (y : ℕ) → w' a ≡ Some y → (o : Option (Term Variable)) → FreshSays w' (book.places ++ fresh) y o → e ≡ 0
      go y at (Some t) says = absurd (not_free a e y t is at says)
      go y at None says = let q : Unbound e ≡ Unbound 0 = one_cell w' a _ _ is (y, at, says) in cc

  list_was : (j : Place) (a e : ℕ) (hs : WordList) → Listed (book.places ++ fresh) (made j) a → At w' a (Unbound e) → Hangs w' e hs
      → Left j a e hs
  list_was j a e hs h is chain = ⊎_elim
      (λ (t : PlaceAt book j a).
      let was_is = still_free j a e t is (find stands.short (made j)) (find (settled (suc s.entries) cs) (made j)) refl refl in
      let o = stands.lists j a e t was_is in
      let eq : o.0 ≡ hs = hangs_one w' e o.0 hs (hangs_on w w' book.places (book.places ++ fresh) eff.grows more e o.0 o.1) chain in
      left t was_is (subst (Hangs w e) eq o.1))
      (λ (t : Listed fresh (made j) a). fresh' t (no_hangs hs (subst (λ (b : ℕ). Hangs w' b hs) (fresh_free (made j) a e t is) chain)))
      (listed_either book.places fresh (made j) a h)

  lists_kept : (j : Place) (a e : ℕ) → Listed (book.places ++ fresh) (made j) a → At w' a (Unbound e) → (hs : WordList) × Hangs w' e hs
  lists_kept j a e h is = ⊎_elim
      (λ (t : PlaceAt book j a).
      let was_is = still_free j a e t is (find stands.short (made j)) (find (settled (suc s.entries) cs) (made j)) refl refl in
      let o = stands.lists j a e t was_is in (o.0, hangs_on w w' book.places (book.places ++ fresh) eff.grows more e o.0 o.1))
      (λ (t : Listed fresh (made j) a). ([], fresh_free (made j) a e t is))
      (listed_either book.places fresh (made j) a h)

  goes_on : (q : ℕ) (y : Process) → ProcessAt book s q y → (z : Process) × After q z
  goes_on q y h = (
    wake bs (with_status x.name finished y),
    stands_left book.processes born (map (λ q. wake bs (with_status x.name finished q)) s.processes) (children_of (suc s.entries) c) q
        (wake bs (with_status x.name finished y))
        (map_stands (λ q. wake bs (with_status x.name finished q)) book.processes s.processes q y h),
  )

  hangers_kept : (j : Place) (a e : ℕ) (hs : WordList) → Left j a e hs → (z : ℕ × ℕ) → Among hs z → ((y : Process) × After z.0 y)
      × (z.1 ≤ suc s.entries)
  hangers_kept j a e hs (left h is chain) z r =
      let q = stands.hangers j a e hs h is chain z r in let le = q.1 in (goes_on z.0 q.0.0 q.0.1, omega arith)
  hangers_kept j a e hs (fresh' h none) z r = absurd (subst (λ (l : WordList). Among l z) none r)

  old_name : (j : Place) (k : ℕ) → j.entry ≤ s.entries → made j ≡ placed (suc s.entries) k → ⊥
  old_name j k le e =
      let f : j ≡ place (suc s.entries) k = cc in let g : j.entry ≡ suc s.entries = ap (λ (i : Place). i.entry) f in omega arith

  waits_old : (j : Place) (a q : ℕ) (y : Process) (ms : List Place) → Listed fresh (made j) a → ProcessAt book s q y
      → y.status ≡ waiting ms → is_listed j ms ≡ true → ⊥
  waits_old j a q y ms h at st t =
      let r = stands.waits q y ms j at st t in
      let k = (eff.fresh_name (made j) a h).0 in
      old_name j k.0 (stands.dated_places j r.0.0 r.0.1) k.1

  hung_kept : (j : Place) (a e : ℕ) (hs : WordList) → Left j a e hs → (q i : ℕ) (y : Process) (ms : List Place) → Was q y
      → y.status ≡ waiting ms → At w' q (cell.Status (stand.Waiting i))
      → (is_listed j ms ≡ true → Among hs (q, i)) × (Among hs (q, i) → is_listed j ms ≡ true)
  hung_kept j a e hs list q i y ms (commits' here is) st says =
      let bad : finished ≡ waiting ms = ap (λ (v : Process). v.status) (sym is) ∙ st in cc
  hung_kept j a e hs list q i y ms (wakes z far at u is) st says =
      let bad : ready ≡ waiting ms = ap (λ (v : Process). v.status) (sym is) ∙ st in cc
  hung_kept j a e hs list q i y ms (begins at) st says = let bad : ready ≡ waiting ms = sym (eff.born_says q y at).0 ∙ st in cc
  hung_kept j a e hs (left h is chain) q i y ms (stays far at u) st says =
      stands.hung j a e hs h is chain q i y ms at st (says.0, sym (eff.others q y at far u) ∙ says.1, says.2)
  hung_kept j a e hs (fresh' h none) q i y ms (stays far at u) st says = (
    (λ t. absurd (waits_old j a q y ms h at st t)),
    (λ r. absurd (subst (λ (l : WordList). Among l (q, i)) none r)),
  )

  waits_kept : (q : ℕ) (y : Process) (ms : List Place) (j : Place) → Was q y → y.status ≡ waiting ms → is_listed j ms ≡ true
      → ((a : ℕ) × Listed (book.places ++ fresh) (made j) a) × (find (s.bound ++ settled (suc s.entries) bs) (made j) ≡ None)
  waits_kept q y ms j (commits' here is) st t = let bad : finished ≡ waiting ms = ap (λ (v : Process). v.status) (sym is) ∙ st in cc
  waits_kept q y ms j (wakes z far at u is) st t = let bad : ready ≡ waiting ms = ap (λ (v : Process). v.status) (sym is) ∙ st in cc
  waits_kept q y ms j (begins at) st t = let bad : ready ≡ waiting ms = sym (eff.born_says q y at).0 ∙ st in cc
  waits_kept q y ms j (stays far at u) st t =
      let r = stands.waits q y ms j at st t in
      let free : find bs (made j) ≡ None = not_bound bs ms j (sym (ap (is_woken bs) st) ∙ u) t in
      let le = stands.dated_places j r.0.0 r.0.1 in
      let lt : j.entry < suc s.entries = omega arith in
      let set : find (settled (suc s.entries) bs) (made j) ≡ None = find-settled (suc s.entries) bs j lt
      ∙ ap (option_map (rename (settle (suc s.entries)))) free in (
        (r.0.0, more (made j) r.0.0 r.0.1),
        find-append s.bound (settled (suc s.entries) bs) (made j)
            ∙ ap (λ (o : Option (Term Variable)). found_or o (find (settled (suc s.entries) bs) (made j))) r.1 ∙ set,
      )

  dated_kept : (q : ℕ) (y : Process) → Was q y → (y.name.entry ≤ suc s.entries) × (y.name.number < 268435456)
  dated_kept q y (commits' here is) = same_name y x (ap (λ (v : Process). v.name) is) (stands.dated_processes p x eff.parent)
  dated_kept q y (wakes z far at u is) = same_name y z (ap (λ (v : Process). v.name) is) (stands.dated_processes q z at)
  dated_kept q y (stays far at u) = same_name y y refl (stands.dated_processes q y at)
  dated_kept q y (begins at) = let e = (eff.born_says q y at).1 in let f = e.0 in (omega arith, e.1)

  dated_place : (j : Place) (a : ℕ) → Listed (book.places ++ fresh) (made j) a → j.entry ≤ suc s.entries
  dated_place j a h = ⊎_elim
      (λ (t : PlaceAt book j a). let le = stands.dated_places j a t in omega arith)
      (λ (t : Listed fresh (made j) a). let k = (eff.fresh_name (made j) a t).0 in
      let f : j ≡ place (suc s.entries) k.0 = (let e : made j ≡ made (place (suc s.entries) k.0) = k.1 in cc) in
      let g : j.entry ≡ suc s.entries = ap (λ (i : Place). i.entry) f in omega arith)
      (listed_either book.places fresh (made j) a h)

  dated_binding : (j : Place) (t : Term Variable) → find (s.bound ++ settled (suc s.entries) bs) (made j) ≡ Some t → j.entry ≤ suc s.entries
  dated_binding j t e = go (find s.bound (made j)) refl (sym (find-append s.bound (settled (suc s.entries) bs) (made j)) ∙ e)
    where
      go : (o : Option (Term Variable)) → find s.bound (made j) ≡ o → found_or o (find (settled (suc s.entries) bs) (made j)) ≡ Some t
          → j.entry ≤ suc s.entries
      go (Some u) i f = let le = stands.dated_bound j u i in omega arith
      go None i f = settled_before (suc s.entries) bs j t known.before f

  fresh_new : (v u : Variable) (a b : ℕ) → Listed book.places v a → Listed fresh u b → (v ≡ u → ⊥) × (a ≡ b → ⊥)
  fresh_new v u a b h k = (
    (λ e.
        let m = stands.says.is_made v a h in
        let f = (eff.fresh_name u b k).0 in
        old_name m.0 f.0 (stands.dated_places m.0 a (subst (λ (z : Variable). Listed book.places z a) m.1 h)) (sym m.1 ∙ e ∙ f.1)),
    eff.fresh_apart v u a b h k,
  )

  places_once : (v u : Variable) (a b : ℕ) → Listed book.places v a ⊎ Listed fresh v a → Listed book.places u b ⊎ Listed fresh u b
      → (v ≡ u → a ≡ b) × (a ≡ b → v ≡ u)
  places_once v u a b (inl h) (inl k) = stands.says.once v u a b h k
  places_once v u a b (inl h) (inr k) = let r = fresh_new v u a b h k in ((λ e. absurd (r.0 e)), (λ e. absurd (r.1 e)))
  places_once v u a b (inr h) (inl k) = let r = fresh_new u v b a k h in ((λ e. absurd (r.0 (sym e))), (λ e. absurd (r.1 (sym e))))
  places_once v u a b (inr h) (inr k) = eff.fresh_once v u a b h k

  says_on : PlacesStand w' (book.places ++ fresh) (stands.short ++ settled (suc s.entries) cs)
  says_on = record {
    is_made =
        λ v a h. ⊎_elim (λ (t : Listed book.places v a). stands.says.is_made v a t)
        (λ (t : Listed fresh v a). let k = (eff.fresh_name v a t).0 in (place (suc s.entries) k.0, k.1, k.2))
        (listed_either book.places fresh v a h);
    name = λ v a h. ⊎_elim
        (λ (t : Listed book.places v a). let r = stands.says.name v a t in (
          r.0,
          at_on w w' book.places (book.places ++ fresh) eff.grows more (a - 1) _ r.1 refl,
        ))
        (λ (t : Listed fresh v a). let r = eff.fresh_name v a t in (r.1, r.2)) (listed_either book.places fresh v a h);
    word = place_word;
    once = λ v u a b h k. places_once v u a b (listed_either book.places fresh v a h) (listed_either book.places fresh u b k);
  }

  names : map (λ b. b.0) (book.places ++ fresh) ≡ map made (s.places ++ map (place (suc s.entries)) (count_up 1 (vars_of c)))
  names =
      names_append book.places fresh ∙ ap (λ (l : List Variable). l ++ map (λ b. b.0) fresh) stands.places
      ∙ ap (λ (l : List Variable). map made s.places ++ l) (eff.names ∙ sym (map_map made (place (suc s.entries)) (count_up 1 (vars_of c))))
      ∙ sym (map_append made s.places (map (place (suc s.entries)) (count_up 1 (vars_of c))))

  pub commit_stands : StandsFor (record { places = book.places ++ fresh; processes = book.processes ++ born }) w'
      (after_commit s x.name c bs)
  commit_stands = record {
    places = names;
    processes =
        length-append book.processes born ∙ (let e = same_size in let b = eff.born_size in
        let g = length-append (map (λ q. wake bs (with_status x.name finished q)) s.processes) (children_of (suc s.entries) c) in
        omega arith);
    once = λ q r y z h i. once_kept q r y z (origin q y h) (origin r z i);
    short = stands.short ++ settled (suc s.entries) cs;
    shortened = shortened_after (suc s.entries) s.bound bs known stands.short cs stands.shortened eff.leads;
    says = says_on;
    process = λ q y h. process_says q y (was q y h);
    statuses = λ a d is. ⊎_elim
        (λ (t : (d' : Stand) × At w a (cell.Status d')). let o = stands.statuses a t.0 t.1 in goes_on a o.0 o.1)
        (λ (t : (y : Process) × StandsAt born (children_of (suc s.entries) c) a y). (
          t.0,
          stands_right book.processes born (map (λ q. wake bs (with_status x.name finished q)) s.processes)
              (children_of (suc s.entries) c) a t.0 same_size t.1,
        ))
        (eff.statuses a d is);
    lists = lists_kept;
    hangers = λ j a e hs h is chain z r. hangers_kept j a e hs (list_was j a e hs h is chain) z r;
    hung = λ j a e hs h is chain q i y ms at st says. hung_kept j a e hs (list_was j a e hs h is chain) q i y ms (was q y at) st says;
    waits = λ q y ms j h st t. waits_kept q y ms j (was q y h) st t;
    own_free = λ i. find-append s.bound (settled (suc s.entries) bs) (own i)
        ∙ ap (λ (o : Option (Term Variable)). found_or o (find (settled (suc s.entries) bs) (own i))) (stands.own_free i)
        ∙ find-settled_free (suc s.entries) bs i;
    own_absent = absent_after (suc s.entries) s.bound bs known;
    dated_places = dated_place;
    dated_bound = dated_binding;
    dated_processes = λ q y h. dated_kept q y (was q y h);
  }
