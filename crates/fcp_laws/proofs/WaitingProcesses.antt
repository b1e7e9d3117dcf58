-- The waiting processes after a commit and after a hang, and the processes that bindings wake.
use Rattle.std.proofs.Common.{◌≡◌, ℕ, suc, Bool, true, false, cond, List, [], ◌∷◌, ◌++◌, map, Option, Some, refl, sym, ap, ◌∙◌, subst, ⊎_elim, arith, append-nil, ltb, eqb}
use Rattle.std.specs.Prelude.{filter, not, ◌||◌, ◌&&◌}
use Rattle.std.proofs.lemmas.Bool.{ltb-true, eqb-true, and_parts, or_cases, and_left, and_right, le-ltb, ne_eqb, true≢false}
use Rattle.std.proofs.lemmas.List.Elements.{filter-append}
use Rattle.fcp_model.specs.declared.run.Place.{Place}
use Rattle.fcp_model.specs.declared.run.Proc.{Proc}
use Rattle.fcp_model.specs.Places.{placed, is_same_process, Variable, is_older_process}
use Rattle.fcp_model.specs.Terms.{Bindings}
use Rattle.fcp_model.specs.Programs.{Goal, Clause, rename_goal}
use Rattle.fcp_model.specs.States.{Status, ready, waiting, finished, Process, process_named, processes_of}
use Rattle.fcp_model.specs.Events.{binds_one, is_woken, made_ready, wake, woken_by, with_status, children_of, body_of}
use Rattle.fcp_laws.specs.WaitingProcesses.{is_waiting, waiting_of, with_process}
use Rattle.fcp_model.specs.LawfulStates.{Each, NamesRise}
use Rattle.fcp_laws.proofs.ProcessNames.{picked, each_found, older_apart}

pub with_status-name : (n : Proc) (st : Status) (p : Process) → (with_status n st p).name ≡ p.name
with_status-name n st p = go (is_same_process p.name n)
  where
    go : (b : Bool) → (cond b (record p { status = st }) p).name ≡ p.name
    go true = refl
    go false = refl

pub wake-name : (bs : Bindings) (p : Process) → (wake bs p).name ≡ p.name
wake-name bs p = go (is_woken bs p.status)
  where
    go : (b : Bool) → (cond b (made_ready p) p).name ≡ p.name
    go true = refl
    go false = refl

-- a commit: the committed process was not waiting, and what it wakes waits no more
abbrev kept_asleep : Bindings → List Process → List Process
kept_asleep bs ps = filter (λ q. not (is_woken bs q.status)) ps

abbrev as_waiting : Process → List Process → List Process
as_waiting p ps = cond (is_waiting p.status) (p ∷ ps) ps

asleep_head : (p : Process) (c : Bool) (xs ys : List Process) → is_waiting p.status ≡ true → xs ≡ ys
    → as_waiting (cond c (made_ready p) p) xs ≡ cond (not c) (p ∷ ys) ys
asleep_head p true xs ys w e = e
asleep_head p false xs ys w e = ap (λ b. cond b (p ∷ xs) xs) w ∙ ap (λ zs. p ∷ zs) e

commit_head : (bs : Bindings) (name : Proc) (goal : Goal Variable) (st : Status) (b : Bool) → (b ≡ true → is_waiting st ≡ false)
    → (xs ys : List Process) → xs ≡ kept_asleep bs ys →
    let p : Process = record { name = name; goal = goal; status = st } in
    as_waiting (wake bs (cond b (record p { status = finished }) p)) xs ≡ kept_asleep bs (as_waiting p ys)
commit_head bs name goal ready true h xs ys e = e
commit_head bs name goal finished true h xs ys e = e
commit_head bs name goal (waiting vs) true h xs ys e = absurd (true≢false (h refl))
commit_head bs name goal ready false h xs ys e = e
commit_head bs name goal finished false h xs ys e = e
commit_head bs name goal (waiting vs) false h xs ys e =
    asleep_head (record { name = name; goal = goal; status = waiting vs }) (binds_one bs vs) _ _ refl e

-- no process of that name waits
abbrev NoneWaitsAs : Proc → List Process → Type 0
NoneWaitsAs n ps = Each (λ q. is_same_process q.name n ≡ true → is_waiting q.status ≡ false) ps

waiting_still : (bs : Bindings) (n : Proc) (ps : List Process) → NoneWaitsAs n ps
    → waiting_of (map (λ q. wake bs (with_status n finished q)) ps) ≡ kept_asleep bs (waiting_of ps)
waiting_still bs n [] h = refl
waiting_still bs n (p ∷ ps) h = commit_head bs p.name p.goal p.status (is_same_process p.name n) h.0 _ _ (waiting_still bs n ps h.1)

none_wait_younger : (n : Proc) (ps : List Process) → Each (λ q. is_older_process n q.name ≡ true) ps → NoneWaitsAs n ps
none_wait_younger n [] h = tt
none_wait_younger n (q ∷ ps) h = ((λ e. absurd (true≢false (sym e ∙ older_apart n q.name h.0))), none_wait_younger n ps h.1)

-- a ready process is the only one of its name
ready_waits_not : (p : Process) (ps : List Process) → NamesRise ps → process_named ps p.name ≡ Some p → p.status ≡ ready
    → NoneWaitsAs p.name ps
ready_waits_not p [] r e s = tt
ready_waits_not p (q ∷ ps) r e s = go (is_same_process q.name p.name) refl (ready_waits_not p ps r.1) e
  where
    go : (b : Bool) → is_same_process q.name p.name ≡ b → (process_named ps p.name ≡ Some p → p.status ≡ ready → NoneWaitsAs p.name ps)
        → picked b q (process_named ps p.name) ≡ Some p → NoneWaitsAs p.name (q ∷ ps)
    go true f rec i =
        let same : q ≡ p = cc in (
          (λ j. ap (λ (x : Process). is_waiting x.status) same ∙ ap is_waiting s),
          subst (λ n. NoneWaitsAs n ps)
              (ap (λ (x : Process). x.name) same) (none_wait_younger q.name ps r.0),
        )
    go false f rec i = ((λ j. absurd (true≢false (sym j ∙ f))), rec i s)

-- new processes are Ready
children_wait_not : (n k : ℕ) (gs : List (Goal Variable)) → waiting_of (processes_of n k gs) ≡ []
children_wait_not n k [] = refl
children_wait_not n k (g ∷ gs) = children_wait_not n (suc k) gs

pub waiting_after_commit : (bs : Bindings) (n : ℕ) (c : Option Clause) (p : Process) (ps : List Process) → NamesRise ps
    → process_named ps p.name ≡ Some p → p.status ≡ ready →
    waiting_of (map (λ q. wake bs (with_status p.name finished q)) ps ++ children_of n c)
    ≡ filter (λ q. not (is_woken bs q.status)) (waiting_of ps)
waiting_after_commit bs n c p ps r e s =
    filter-append (λ q. is_waiting q.status) (map (λ q. wake bs (with_status p.name finished q)) ps) (children_of n c)
    ∙ (ap (λ zs. waiting_of (map (λ q. wake bs (with_status p.name finished q)) ps) ++ zs)
    (children_wait_not n 1 (map (rename_goal (placed n)) (body_of c)))
    ∙ (append-nil _ ∙ waiting_still bs p.name ps (ready_waits_not p ps r e s)))

-- only waiting processes are woken
woken_head : (bs : Bindings) (name : Proc) (goal : Goal Variable) (st : Status) (xs ys : List Process)
    → xs ≡ filter (λ q. is_woken bs q.status) ys →
    let p : Process = record { name = name; goal = goal; status = st } in
    cond (is_woken bs st) (p ∷ xs) xs ≡ filter (λ q. is_woken bs q.status) (as_waiting p ys)
woken_head bs name goal ready xs ys e = e
woken_head bs name goal finished xs ys e = e
woken_head bs name goal (waiting vs) xs ys e =
    ap (λ zs. cond (binds_one bs vs) (record { name = name; goal = goal; status = waiting vs } ∷ zs) zs) e

woken_wait : (bs : Bindings) (ps : List Process)
    → filter (λ q. is_woken bs q.status) ps ≡ filter (λ q. is_woken bs q.status) (waiting_of ps)
woken_wait bs [] = refl
woken_wait bs (p ∷ ps) = woken_head bs p.name p.goal p.status _ _ (woken_wait bs ps)

pub woken_among_waiting : (bs : Bindings) (ps : List Process) → woken_by bs ps ≡ filter (λ q. is_woken bs q.status) (waiting_of ps)
woken_among_waiting bs ps = woken_wait bs ps

-- a hang: the process comes to its place among the waiting ones
both_false : (x y : Bool) → x ≡ false → y ≡ false → (x || y) ≡ false
both_false x y e f = ap (λ b. b || y) e ∙ f

older_not_younger : (p q : Proc) → is_older_process p q ≡ true → is_older_process q p ≡ false
older_not_younger p q h = ⊎_elim
    (λ (i : ltb p.entry q.entry ≡ true). both_false _ _ (le-ltb q.entry p.entry (omega (arith, ltb-true p.entry q.entry i)))
    (and_left _ _ (ne_eqb _ _ (λ (e : q.entry ≡ p.entry). omega (arith, ltb-true p.entry q.entry i)))))
    (λ (i : (eqb p.entry q.entry && ltb p.number q.number) ≡ true).
    let j = and_parts (eqb p.entry q.entry) (ltb p.number q.number) i in
    both_false _ _ (le-ltb q.entry p.entry (omega (arith, eqb-true p.entry q.entry j.0)))
    (and_right _ _ (le-ltb q.number p.number (omega (arith, ltb-true p.number q.number j.1)))))
    (or_cases _ _ h)

each_filter : (P : Process → Type 0) (t : Process → Bool) (ps : List Process) → Each P ps → Each P (filter t ps)
each_filter P t [] h = tt
each_filter P t (p ∷ ps) h = go (t p) (each_filter P t ps h.1)
  where
    go : (b : Bool) → Each P (filter t ps) → Each P (cond b (p ∷ filter t ps) (filter t ps))
    go true i = (h.0, i)
    go false i = i

-- `with_process` by its test
abbrev placed_by : Bool → Process → Process → List Process → List Process
placed_by b p q qs = elim b [ true ↦ p ∷ q ∷ qs | _ ↦ q ∷ with_process p qs ]

with_first : (p : Process) (ps : List Process) → Each (λ q. is_older_process p.name q.name ≡ true) ps → with_process p ps ≡ p ∷ ps
with_first p [] h = refl
with_first p (q ∷ ps) h = ap (λ b. placed_by b p q ps) h.0

unchanged : (n : Proc) (st : Status) (ps : List Process) → Each (λ q. is_older_process n q.name ≡ true) ps → map (with_status n st) ps ≡ ps
unchanged n st [] h = refl
unchanged n st (q ∷ ps) h =
    ap (λ b. cond b (record q { status = st }) q ∷ map (with_status n st) ps) (older_apart n q.name h.0)
    ∙ ap (λ zs. q ∷ zs) (unchanged n st ps h.1)

hang_here : (vs : List Place) (name : Proc) (goal : Goal Variable) (st : Status) (ps : List Process) → st ≡ ready
    → Each (λ q. is_older_process name q.name ≡ true) ps →
    let p : Process = record { name = name; goal = goal; status = st } in
    let w : Process = record { name = name; goal = goal; status = waiting vs } in
    w ∷ waiting_of (map (with_status name (waiting vs)) ps) ≡ with_process w (as_waiting p (waiting_of ps))
hang_here vs name goal st ps s h =
    ap (λ zs. record { name = name; goal = goal; status = waiting vs } ∷ waiting_of zs) (unchanged name (waiting vs) ps h)
    ∙ sym (subst (λ x. with_process (record { name = name; goal = goal; status = waiting vs })
    (as_waiting (record { name = name; goal = goal; status = x }) (waiting_of ps))
    ≡ record { name = name; goal = goal; status = waiting vs } ∷ waiting_of ps) (sym s)
    (with_first (record { name = name; goal = goal; status = waiting vs }) (waiting_of ps)
    (each_filter (λ q. is_older_process name q.name ≡ true) (λ q. is_waiting q.status) ps h)))

hang_behind : (w : Process) (name : Proc) (goal : Goal Variable) (st : Status) (xs ys : List Process)
    → is_older_process w.name name ≡ false → xs ≡ with_process w ys →
    let q : Process = record { name = name; goal = goal; status = st } in
    as_waiting q xs ≡ with_process w (as_waiting q ys)
hang_behind w name goal ready xs ys h e = e
hang_behind w name goal finished xs ys h e = e
hang_behind w name goal (waiting us) xs ys h e =
    ap (λ zs. record { name = name; goal = goal; status = waiting us } ∷ zs) e
    ∙ sym (ap (λ b. placed_by b w (record { name = name; goal = goal; status = waiting us }) ys) h)

pub waiting_after_hang : (vs : List Place) (p : Process) (ps : List Process) → NamesRise ps → process_named ps p.name ≡ Some p
    → p.status ≡ ready →
    waiting_of (map (with_status p.name (waiting vs)) ps) ≡ with_process (record p { status = waiting vs }) (waiting_of ps)
waiting_after_hang vs p [] r e s = cc
waiting_after_hang vs p (q ∷ ps) r e s = go (is_same_process q.name p.name) refl (waiting_after_hang vs p ps r.1) e
  where
    go : (b : Bool) → is_same_process q.name p.name ≡ b
        → (process_named ps p.name ≡ Some p → p.status ≡ ready → waiting_of (map (with_status p.name (waiting vs)) ps)
        ≡ with_process (record p { status = waiting vs }) (waiting_of ps)) →
        picked b q (process_named ps p.name) ≡ Some p →
        as_waiting (cond b (record q { status = waiting vs }) q) (waiting_of (map (with_status p.name (waiting vs)) ps))
        ≡ with_process (record p { status = waiting vs }) (as_waiting q (waiting_of ps))
    go true f rec i =
        let same : q ≡ p = cc in
        subst (λ (x : Process). as_waiting (record q { status = waiting vs }) (waiting_of (map (with_status x.name (waiting vs)) ps))
        ≡ with_process (record x { status = waiting vs }) (as_waiting q (waiting_of ps))) same
        (hang_here vs q.name q.goal q.status ps (ap (λ (x : Process). x.status) same ∙ s) r.0)
    go false f rec i =
        hang_behind (record p { status = waiting vs }) q.name q.goal q.status _ _
        (older_not_younger q.name p.name (each_found (λ x. is_older_process q.name x.name ≡ true) ps p.name p r.0 i)) (rec i s)
