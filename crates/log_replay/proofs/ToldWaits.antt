-- What a trial tells of the places on which a process waits.
use Rattle.std.proofs.Common.{◌≡◌, ℕ, zero, suc, ◌-◌, ◌*◌, ◌/◌, ◌%◌, ◌<◌, true, false, List, [], length, Option, Some, refl}
use Rattle.std.proofs.Common.{sym, ap, ◌∙◌, subst, ⊎_elim, true≢false, arith}
use Rattle.std.specs.Option.{option_and_then}
use Rattle.std.proofs.lemmas.Option.{same_Some}
use Rattle.fcp_model.specs.Places.{Variable, own}
use Rattle.fcp_model.specs.Terms.{Bindings}
use Rattle.fcp_model.specs.Programs.{Program}
use Rattle.fcp_model.specs.Decisions.{Decision, commits, decides_fail, waits_on, Decides}
use Rattle.fcp_model.specs.States.{Status, ready, waiting, finished, Process, State}
use Rattle.fcp_model.specs.LawfulStates.{StandsRight, IsLawfulState}
use Rattle.fcp_model.proofs.OneDecision.{one_decision}
use Rattle.heap_words.specs.Cells.{decoded}
use Rattle.heap_words.specs.Heaps.{IsHeap, is_inside, inside_at, top_said, top_at}
use Rattle.heap_words.specs.HeapLaws.{inside_below, inside_known}
use Rattle.heap_words.specs.Trails.{WordList, word_at}
use Rattle.heap_words.specs.declared.cell.Cell.TheVariants.{Unbound}
use Rattle.heap_words.proofs.QuietHeaps.{below_top}
use Rattle.goal_layout.proofs.Insides.{first_inside, inside_cases, inside_word}
use Rattle.word_states.specs.Words.{At, IsIn}
use Rattle.word_states.specs.Standing.{Book, StandsFor, StatusSays, ProcessAt}
use Rattle.word_states.specs.Leading.{GoalStands}
use Rattle.word_states.specs.Trials.{IsTried}
use Rattle.word_states.proofs.Leading.{open_short}
use Rattle.word_states.proofs.Lists.{apart_word}
use Rattle.word_state_laws.proofs.Forming.{heap_low, heap_old}
use Rattle.leading_laws.specs.Laws.{AlikeDecision}
use Rattle.leading_laws.proofs.Decisions.{goals_decide_alike}
use Rattle.machine_code.specs.Compiling.{Tables}
use Rattle.trial_machine.specs.Deciding.{HandedOver, IsDecided}
use Rattle.trial_machine.specs.declared.decide.Trial.{Trial}
use Rattle.trial_machine.specs.declared.decide.Trial.TheVariants.{Commit, Wait, Fails}
use Rattle.process_texts.specs.Lines.{AreWaits}
use Rattle.process_texts.proofs.WaitingSets.{each_stands, waits_are_told}
use Rattle.run_laws.specs.Running.{IsPlaceInUse}
use Rattle.log_replay.specs.Waits.{is_waiting, AreTold}

-- a page's first word is no unbound place
not_first : (ws : List ℕ) (a e : ℕ) → IsHeap ws → At (inside_at ws) a (Unbound e) → a % 1024 ≡ 0 → ⊥
not_first ws a e heap h first =
    let there : 1024 * (a / 1024) ≡ a = omega arith in
    let below : a < length ws = inside_below ws a (inside_known ws a h.0 h.1) in
    let up : 1024 * (a / 1024) < top_at ws (1024 * (a / 1024)) = heap.above (a / 1024) (omega arith) in
    let same : top_at ws (1024 * (a / 1024)) ≡ top_at ws a = ap (top_at ws) there in
    let none : top_at ws a ≡ 0 =
    ap (λ (o : Option ℕ). top_said (option_and_then decoded o)) (inside_word ws a h.0 h.1) ∙ ap top_said h.2 in
    omega arith

-- before an address behind a page's first word, another word is in use
before_it : (ws : List ℕ) (a : ℕ) → a < length ws → (a % 1024 ≡ 0 → ⊥) → a < top_at ws (a - a % 1024) → is_inside ws (a - 1) ≡ true
before_it ws a below off top = go ((a - 1) % 1024) refl
  where
    go : (r : ℕ) → (a - 1) % 1024 ≡ r → is_inside ws (a - 1) ≡ true
    go zero e = first_inside ws (a - 1) (omega arith) e
    go (suc r) e =
        let page : a - 1 - (a - 1) % 1024 ≡ a - a % 1024 = omega (arith, off) in
        let same : top_at ws (a - 1 - (a - 1) % 1024) ≡ top_at ws (a - a % 1024) = ap (top_at ws) page in
        below_top ws (a - 1) (omega arith) (omega arith)

-- an unbound place is in use, with its name before it
pub place_in_use : (ws : List ℕ) (a e : ℕ) → IsHeap ws → At (inside_at ws) a (Unbound e) → IsPlaceInUse ws a
place_in_use ws a e heap h =
    let i = inside_known ws a h.0 h.1 in
    let off : a % 1024 ≡ 0 → ⊥ = not_first ws a e heap h in
    let cases = inside_cases ws a i in
    let top : a < top_at ws (a - a % 1024) = ⊎_elim (λ (z : a % 1024 ≡ 0). absurd (off z)) (λ (l : a < top_at ws (a - a % 1024)). l) cases.1 in
    (positive a off, i, before_it ws a cases.0 off top)
  where
    positive : (b : ℕ) → (b % 1024 ≡ 0 → ⊥) → 0 < b
    positive zero f = absurd (f refl)
    positive (suc b) f = omega arith

no_commit : (k : ℕ) (bs : Bindings) (rs qs : List Variable) → commits k bs rs ≡ waits_on qs → ⊥
no_commit k bs rs qs e = cc

no_fail : (rs qs : List Variable) → decides_fail rs ≡ waits_on qs → ⊥
no_fail rs qs e = cc

-- a process of a state for which the words of a heap stand
module _ (ws : List ℕ) (heap : IsHeap ws) (book : Book) (s : State) (p : ℕ) (x : Process) (stands : StandsFor book (inside_at ws) s)
    (at : ProcessAt book s p x) where
  -- the goal that its words say
  abbrev said : GoalStands (inside_at ws) book.places s.bound p x.goal
  said = (stands.process p x at).goal

  -- it is tried by words that were read
  tried : (read : WordList) → ((a y : ℕ) → word_at read a ≡ Some y → inside_at ws a ≡ Some y)
      → IsTried read p (inside_at ws) book.places stands.short said.goal
  tried read has = record {
    has = has;
    low = heap_low ws heap;
    old = heap_old ws heap;
    says = stands.says;
    own_free = λ k. open_short s.bound s.bound stands.short (own k) stands.shortened (stands.own_free k);
    goal = said.says;
  }

  -- it does not wait where it is not decided to wait
  waits_not : (m : Program) (ps : List ℕ) → IsLawfulState m s → ((qs : List Variable) → Decides m s.bound x.goal (waits_on qs) → ⊥)
      → AreWaits book ps x.status
  waits_not m ps lawful never =
      go x.status (each_stands (λ q. StandsRight m s.bound q q.status) book.processes s.processes p x lawful.waits at)
    where
      go : (st : Status) → StandsRight m s.bound x st → AreWaits book ps st
      go ready h = tt
      go (waiting js) h = absurd (never h.reads h.decides)
      go finished h = tt

  -- what is decided by its words is decided for it
  alike : (m : Program) (d : Decision) → Decides m stands.short said.goal d → AlikeDecision m s.bound x.goal d
  alike m d = goals_decide_alike m s.bound stands.short x.goal said.goal d stands.shortened said.leads

  commits_waits : (m : Program) (ps : List ℕ) (k : ℕ) (bs : Bindings) (rs : List Variable) → IsLawfulState m s
      → Decides m stands.short said.goal (commits k bs rs) → AreWaits book ps x.status
  commits_waits m ps k bs rs lawful d =
      let a = alike m (commits k bs rs) d in
      waits_not m ps lawful (λ qs e. no_commit k a.0 rs qs (one_decision m s.bound x.goal (commits k a.0 rs) (waits_on qs) a.1 e))

  fails_waits : (m : Program) (ps : List ℕ) (rs : List Variable) → IsLawfulState m s → Decides m stands.short said.goal (decides_fail rs)
      → AreWaits book ps x.status
  fails_waits m ps rs lawful d =
      let a = alike m (decides_fail rs) d in
      waits_not m ps lawful (λ qs e. no_fail rs qs (one_decision m s.bound x.goal (decides_fail rs) (waits_on qs) a e))

-- none of no places is unknown
none_known : (ws : List ℕ) (ps : List ℕ) → ps ≡ [] → (a : ℕ) → IsIn a ps → IsPlaceInUse ws a
none_known ws ps e a i = absurd (subst (λ (qs : List ℕ). IsIn a qs) e i)

-- what a trial hands over, where the words of the heap were read
module _ (t : Tables) (ws : List ℕ) (heap : IsHeap ws) (p : ℕ) (h : HandedOver)
    (has : (a y : ℕ) → word_at h.reads a ≡ Some y → inside_at ws a ≡ Some y) where
  pub wait_told : IsDecided t h p Wait → AreTold t ws p h.places
  wait_told d = record {
    known = λ a i. (let r = d.handed.opened a i in
        place_in_use ws a r.0 heap (r.1.0, has a r.1.0 (apart_word h.reads a r.1.0 d.handed.reads.apart r.1.1), r.1.2));
    waits = λ m book s x code stands at lawful. waits_are_told m (inside_at ws) book s p x h.places stands at lawful
        (d.says m code (inside_at ws) book.places stands.short (said ws heap book s p x stands at).goal
        (tried ws heap book s p x stands at h.reads has));
  }

  pub other_told : (d : Trial) → (d ≡ Wait → ⊥) → IsDecided t h p d → (ps : List ℕ) → ps ≡ [] → AreTold t ws p ps
  other_told Commit no_wait d ps none = record {
    known = none_known ws ps none;
    waits = λ m book s x code stands at lawful. (let c = d.says m code (inside_at ws) book.places stands.short
        (said ws heap book s p x stands at).goal (tried ws heap book s p x stands at h.reads has) in
        commits_waits ws heap book s p x stands at m ps h.clause c.bindings c.reads lawful c.decides);
  }
  other_told Wait no_wait d ps none = absurd (no_wait refl)
  other_told Fails no_wait d ps none = record {
    known = none_known ws ps none;
    waits = λ m book s x code stands at lawful. (let c = d.says m code (inside_at ws) book.places stands.short
        (said ws heap book s p x stands at).goal (tried ws heap book s p x stands at h.reads has) in
        fails_waits ws heap book s p x stands at m ps c.reads lawful c.decides);
  }

-- a process whose status says that it does not wait
pub idle_told : (t : Tables) (ws : List ℕ) (p y : ℕ) (ps : List ℕ) → inside_at ws p ≡ Some y → is_waiting (decoded y) ≡ false → ps ≡ []
    → AreTold t ws p ps
idle_told t ws p y ps word idle none = record {
  known = none_known ws ps none;
  waits = λ m book s x code stands at lawful. (let r = (stands.process p x at).status in
      go book s.entries r.0 (same_Some r.0 y (sym r.1 ∙ word)) x.status r.2);
}
  where
    go : (book : Book) (limit z : ℕ) → z ≡ y → (st : Status) → StatusSays limit z st → AreWaits book ps st
    go book limit z same ready h = tt
    go book limit z same (waiting js) h =
        absurd (true≢false (sym (ap is_waiting (sym (ap decoded same) ∙ h.1)) ∙ idle))
    go book limit z same finished h = tt
