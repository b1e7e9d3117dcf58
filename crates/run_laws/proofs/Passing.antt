-- What the entry of the front costs, and that the front goes to the back where that is too much.
use Rattle.std.proofs.Common.{◌≡◌, ℕ, ◌+◌, ◌<◌, List, [], ◌∷◌, ◌++◌, length, Some, refl, ap, ◌∙◌, subst, arith}
use Rattle.fcp_model.specs.Places.{Variable, own}
use Rattle.fcp_model.specs.Terms.{Bindings}
use Rattle.fcp_model.specs.Programs.{Goal, Program}
use Rattle.fcp_model.specs.Decisions.{Decision, commits, decides_fail, waits_on}
use Rattle.fcp_model.specs.Cells.{cells}
use Rattle.fcp_model.specs.States.{Process, State}
use Rattle.fcp_model.specs.Events.{Event, event_of}
use Rattle.fcp_model.specs.OneWorker.{Schedule, passes, begin}
use Rattle.fcp_laws.proofs.Leading.{led_on}
use Rattle.fcp_laws.proofs.Rulings.{IsFront as IsRuledFront}
use Rattle.heap_words.specs.Heaps.{inside_at}
use Rattle.heap_words.specs.Trails.{WordList}
use Rattle.word_states.specs.Words.{HasAll}
use Rattle.word_states.specs.Standing.{Book}
use Rattle.word_states.specs.Trials.{IsTried}
use Rattle.word_states.specs.Costs.{EntryCosts, DecidesCells}
use Rattle.word_states.specs.Leading.{GoalLeads, AreShortened}
use Rattle.word_states.proofs.Leading.{open_short}
use Rattle.leading_laws.specs.Laws.{AlikeDecision}
use Rattle.leading_laws.proofs.Decisions.{goals_decide_alike, cells_are_alike}
use Rattle.word_states.specs.Going.{AllAt}
use Rattle.word_states.proofs.Lists.{word_among}
use Rattle.word_state_laws.proofs.Forming.{heap_low, heap_old}
use Rattle.run_laws.specs.Running.{Setting, Counts, StandsAt, IsGoing, FrontCosts, after_pass}
use Rattle.run_laws.proofs.Fronts.{HasFront, front_of, all_long, all_append}
use Rattle.run_laws.proofs.RuledFronts.{front_ruled, front_passes}
use Rattle.run_laws.proofs.Steps.{none_due}

-- the event has the cells of its decision
event_cells : (m : Program) (s : State) (x : Process) (d : Decision) → (event_of m s x d).cells ≡ cells m x.goal d
event_cells m s x (commits k bs rs) = refl
event_cells m s x (waits_on rs) = refl
event_cells m s x (decides_fail rs) = refl

-- what the entry of a goal costs over bindings with shorter ways, that of each goal which leads to it costs over the bindings themselves
costs_long : (m : Program) (s short : Bindings) (g h : Goal Variable) (needed : ℕ) → AreShortened s short → GoalLeads s g h
    → EntryCosts m short h needed → EntryCosts m s g needed
costs_long m s short g h needed shortened leads e =
    go e.decision (goals_decide_alike m s short g h e.decision shortened leads e.decided) e.costs
  where
    go : (d : Decision) → AlikeDecision m s g d → cells m h d ≡ needed → EntryCosts m s g needed
    go (commits k cs rs) a i = record {
      decision = commits k a.0 rs;
      decided = a.1;
      costs = cells_are_alike m s g h (commits k a.0 rs) leads ∙ i;
    }
    go (waits_on rs) a i = record { decision = waits_on rs; decided = a; costs = cells_are_alike m s g h (waits_on rs) leads ∙ i }
    go (decides_fail rs) a i =
        record { decision = decides_fail rs; decided = a; costs = cells_are_alike m s g h (decides_fail rs) leads ∙ i }

module _ (r : Setting) (ws rest : List ℕ) (p : ℕ) (c : Counts) (evs : List Event) (at : Schedule) (book : Book)
    (here : StandsAt r ws (p ∷ rest) c evs at book) where
  -- by words that were found
  pub front_costs : (read : WordList) (needed : ℕ) → HasAll read (inside_at ws) → DecidesCells r.program read p needed
      → FrontCosts r.program at needed
  front_costs read needed has decides =
      let front : HasFront book at.state p rest at.queue = front_of book at.state p rest at.queue here.queued in
      let goal = (here.stands.process p front.process front.at_front).goal in
      let tried : IsTried read p (inside_at ws) book.places here.stands.short goal.goal = record {
        has = λ a x e. has a x (word_among read a x e);
        low = heap_low ws here.heap;
        old = heap_old ws here.heap;
        says = here.stands.says;
        own_free = λ k. open_short at.state.bound at.state.bound here.stands.short (own k) here.stands.shortened (here.stands.own_free k);
        goal = goal.says;
      } in
      record {
        process = front.process;
        behind = front.behind;
        queue = front.queue;
        costs = costs_long r.program at.state.bound here.stands.short front.process.goal goal.goal needed here.stands.shortened goal.leads
            (decides (inside_at ws) book.places here.stands.short goal.goal tried);
      }

  pub passes_on : (needed : ℕ) → IsGoing c → 0 < c.commits → 0 < c.moves → c.passed < length (p ∷ rest) → FrontCosts r.program at needed
      → c.cells < needed → (to : Schedule) × StandsAt r ws (rest ++ p ∷ []) (after_pass c) evs to book
  passes_on needed going some_commits some_moves some f lacks =
      let d = f.costs.decision in
      let ev : Event = event_of r.program at.state f.process d in
      let to : Schedule = record at { queue = f.behind ++ f.process ∷ []; passed = at.passed + 1 } in
      let long : length (p ∷ rest) ≡ length at.queue = all_long book at.state (p ∷ rest) at.queue here.queued in
      let queued = subst (AllAt book at.state (p ∷ rest)) f.queue here.queued in
      let large : ev.cells ≡ needed = event_cells r.program at.state f.process d ∙ f.costs.costs in
      let ruled : IsRuledFront f.costs.decided.0 r.program r.limits at f.process f.behind d = record {
        is_running = here.mode ∙ going.mode;
        not_due = none_due r ws (p ∷ rest) c evs at book here ∙ going.not_due;
        queued = f.queue;
        commits = omega (arith, some_commits, here.commits);
        moves = omega (arith, some_moves, here.moves);
        passed = omega (arith, some, here.passed, long);
        decided = f.costs.decided.1;
      } in (
        to,
        record {
          ordered = here.ordered;
          leads = led_on r.program r.limits (begin r.from r.controls) at evs (passes to) f.costs.decided.0 here.leads
              (front_ruled f.costs.decided.0 r.program r.limits at f.process f.behind d ruled
              ∙ ap Some (front_passes r.limits at f.process f.behind ev (omega (arith, lacks, here.cells, large)))) refl;
          heap = here.heap;
          stands = here.stands;
          queued = all_append book at.state rest (p ∷ []) f.behind (f.process ∷ []) queued.1 (queued.0, tt);
          variables = here.variables;
          mode = here.mode;
          controls = here.controls;
          entries = here.entries;
          moved = here.moved;
          passed = omega (arith, here.passed);
          asleep = here.asleep;
          commits = here.commits;
          moves = here.moves;
          cells = here.cells;
        },
      )
