-- The loop over a goal's items.
use Rattle.std.proofs.Common.{◌≡◌, ℕ, zero, suc, ◌+◌, ◌*◌, ◌/◌, ◌<◌, ◌≤◌, List, [], ◌∷◌, ◌++◌, length, get_or, slice_get, Some, None}
use Rattle.std.proofs.Common.{refl, sym, ap, ◌∙◌, subst, arith, drop_of_length-le}
use Rattle.std.specs.Prelude.{replicate, sum}
use Rattle.std.specs.List.{flat_map}
use Rattle.std.specs.Option.{option_and_then}
use Rattle.std.proofs.lemmas.List.{length-map, get_or-map}
use Rattle.std.proofs.lemmas.List.Sums.{sum_by-cons}
use Rattle.std.proofs.lemmas.Grind.{same_number_lists}
use Rattle.std.proofs.lemmas.Option.{get_or_from_slice_get}
use Rattle.fcp_model.specs.declared.source.Call.{Call}
use Rattle.fcp_model.specs.declared.source.Item.{Item}
use Rattle.fcp_model.specs.declared.source.GoalText.{GoalText}
use Rattle.fcp_model.specs.declared.source.Module.{Module}
use Rattle.fcp_model.specs.ProcedureNames.{procedure_names}
use Rattle.fcp_model.specs.Goals.{number_of_item}
use Rattle.fcp_model.specs.Programs.{Goal}
use Rattle.fcp_model.specs.Translation.{goal_of, started_goals}
use Rattle.fcp_model.specs.ClosedPrograms.{GoalOver, GoalsOver, IsNumbered}
use Rattle.fcp_model.proofs.GoalNumbers.{number_at}
use Rattle.heap_words.specs.Heaps.{AreFresh, fresh_word}
use Rattle.goal_layout.specs.FirstFit.{first_fit}
use Rattle.goal_layout.specs.PieceSizes.{goal_sizes}
use Rattle.goal_layout.specs.Pages.{room, rooms_from, rooms, ArePages}
use Rattle.goal_layout.specs.Items.{IsNarrowGoal, IsNumberIn, IsLayable, LaysItem, called}
use Rattle.goal_layout.specs.Goals.{AreNew, AreNarrowGoals, MayBeLaid, LaysPlaces, LaysGoal, goal_pieces}
use Rattle.goal_layout.proofs.Leaves.{place_listed}
use Rattle.goal_layout.proofs.Lays.{first_fit-append}
use Rattle.goal_layout.proofs.Placing.{new_page}
use Rattle.goal_layout.proofs.FirstStates.{Standing, places_stand, goal_misses, standing_more}
use Rattle.goal_layout.proofs.FirstStands.{first_heap, first_book, first_stands}

over_at : (vars n : ℕ) (gs : List (Goal ℕ)) (d : Goal ℕ) → GoalsOver (IsNumbered vars) gs → n < length gs
    → GoalOver (IsNumbered vars) (get_or gs n d)
over_at vars n [] d h lt = absurd (omega arith)
over_at vars zero (g ∷ gs) d h lt = h.0
over_at vars (suc n) (g ∷ gs) d h lt = over_at vars n gs d h.1 (omega arith)

narrow_at : (n : ℕ) (gs : List (Goal ℕ)) (d : Goal ℕ) → AreNarrowGoals gs → n < length gs → IsNarrowGoal (get_or gs n d)
narrow_at n [] d h lt = absurd (omega arith)
narrow_at zero (g ∷ gs) d h lt = h.0
narrow_at (suc n) (g ∷ gs) d h lt = narrow_at n gs d h.1 (omega arith)

-- an item that is laid, whatever the module
abbrev pub LaysItemAlways : Call → ℕ → ℕ → ℕ → List ℕ → List ℕ → Type 0
LaysItemAlways call f k p ws ws' = (m : Module) → IsNumberIn m call f → (vars : ℕ) → GoalOver (IsNumbered vars) (called m call)
    → LaysItem vars (called m call) k p ws ws'

-- an item of the goal
module _ (m : Module) (g : GoalText × List ℕ) (l : MayBeLaid m g) (n : ℕ) (item : Item) (f : ℕ) (lt : n < length g.0.items)
    (is : item ≡ get_or g.0.items n item) (number : f ≡ get_or g.1 n 0) where
  abbrev gs : List (Goal ℕ)
  gs = started_goals m g.0

  size : length gs ≡ length g.0.items
  size = length-map g.0.items (λ i. goal_of (procedure_names m.clauses) i.call)

  pub its_goal : (d : Goal ℕ) → called m item.call ≡ get_or gs n d
  its_goal d = ap (λ i. called m i.call) is ∙ sym (get_or-map (λ i. goal_of (procedure_names m.clauses) i.call) g.0.items n item d lt)

  pub its_over : GoalOver (IsNumbered (length g.0.names)) (called m item.call)
  its_over = subst (GoalOver (IsNumbered (length g.0.names))) (sym (its_goal (called m item.call)))
      (over_at (length g.0.names) n gs (called m item.call) l.numbered (omega (arith, size, lt)))

  pub its_number : IsNumberIn m item.call f
  its_number = record {
    number = ap (number_of_item m) is ∙ number_at m g.0.items g.1 l.numbers n item lt ∙ ap Some (sym number);
    few = l.procedures;
  }

  pub its_layable : IsLayable m item.call f
  its_layable = record {
    number = its_number;
    narrow = subst IsNarrowGoal (sym (its_goal (called m item.call)))
        (narrow_at n gs (called m item.call) l.narrow (omega (arith, size, lt)));
    numbered = (length g.0.names, its_over);
  }

  module _ (base ws procs : List ℕ) (s : Standing (length g.0.names) gs n base ws procs) where
    pub item_misses : first_fit (rooms ws) (goal_sizes (called m item.call)) ≡ None → first_fit (rooms base) (goal_pieces m g.0) ≡ None
    item_misses none =
        goal_misses (length g.0.names) l.variables gs n base ws [] procs (called m item.call) 0 (omega (arith, size, lt)) its_goal s none

    pub item_more : (ws' : List ℕ) (p : ℕ) → LaysItemAlways item.call f (n + 1) p ws ws'
        → Standing (length g.0.names) gs (n + 1) base ws' (procs ++ p ∷ [])
    item_more ws' p laid =
        standing_more (length g.0.names) l.variables gs n base ws ws' procs (called m item.call) p (omega (arith, size, lt)) its_goal s
        (laid m its_number (length g.0.names) its_over)

-- The first n items are laid, whatever the module, and the first process is at `first`.
pub record IsLayingItems (g : GoalText × List ℕ) (n : ℕ) (base ws : List ℕ) (first : ℕ) : Type 0 where
  pub pages : ArePages ws
  pub each : (m : Module) → MayBeLaid m g
      → (procs : List ℕ) × Standing (length g.0.names) (started_goals m g.0) n base ws procs × (slice_get procs 0 ≡ Some first)

pub items_begin : (g : GoalText × List ℕ) (base w0 w1 : List ℕ) (item : Item) (f p : ℕ) → (m : Module) × MayBeLaid m g
    → item ≡ get_or g.0.items 0 item → f ≡ get_or g.1 0 0 → LaysPlaces (length g.0.names) base w0 → LaysItemAlways item.call f 1 p w0 w1
    → IsLayingItems g 1 base w1 p
items_begin g base w0 w1 item f p (m, l) is number places laid = record {
  pages = (one m l).pages;
  each = λ k j. (p ∷ [], one k j, refl);
}
  where
    one : (k : Module) (j : MayBeLaid k g) → Standing (length g.0.names) (started_goals k g.0) 1 base w1 (p ∷ [])
    one k j =
        item_more k g j 0 item f j.some is number base w0 []
        (places_stand (length g.0.names) (started_goals k g.0) base w0 places) w1 p laid

pub items_step : (g : GoalText × List ℕ) (n : ℕ) (base ws ws' : List ℕ) (item : Item) (f p first k : ℕ) → (m : Module) × MayBeLaid m g
    → n < length g.0.items → item ≡ get_or g.0.items n item → f ≡ get_or g.1 n 0 → k ≡ n + 1 → LaysItemAlways item.call f k p ws ws'
    → IsLayingItems g n base ws first → IsLayingItems g (n + 1) base ws' first
items_step g n base ws ws' item f p first k (m, l) lt is number ek laid s = record {
  pages = (more m l).1.pages;
  each = λ j i. more j i;
}
  where
    head_on : (xs : List ℕ) (x y : ℕ) → slice_get xs 0 ≡ Some x → slice_get (xs ++ y ∷ []) 0 ≡ Some x
    head_on [] x y e = cc
    head_on (z ∷ xs) x y e = e

    more : (j : Module) → MayBeLaid j g
        → (procs : List ℕ) × Standing (length g.0.names) (started_goals j g.0) (n + 1) base ws' procs × (slice_get procs 0 ≡ Some first)
    more j i =
        let r = s.each j i in (
          r.0 ++ p ∷ [],
          item_more j g i n item f lt is number base ws r.0 r.1 ws' p (subst (λ q. LaysItemAlways item.call f q p ws ws') ek laid),
          head_on r.0 first p r.2,
        )

pub items_miss : (g : GoalText × List ℕ) (n : ℕ) (base ws : List ℕ) (item : Item) (f first : ℕ) (m : Module) (l : MayBeLaid m g)
    → n < length g.0.items → item ≡ get_or g.0.items n item → f ≡ get_or g.1 n 0 → IsLayingItems g n base ws first
    → first_fit (rooms ws) (goal_sizes (called m item.call)) ≡ None → first_fit (rooms base) (goal_pieces m g.0) ≡ None
items_miss g n base ws item f first m l lt is number s none =
    let r = s.each m l in item_misses m g l n item f lt is number base ws r.0 r.1 none

pub first_misses : (g : GoalText × List ℕ) (base w0 : List ℕ) (item : Item) (f : ℕ) (m : Module) (l : MayBeLaid m g)
    → item ≡ get_or g.0.items 0 item → f ≡ get_or g.1 0 0 → LaysPlaces (length g.0.names) base w0
    → first_fit (rooms w0) (goal_sizes (called m item.call)) ≡ None → first_fit (rooms base) (goal_pieces m g.0) ≡ None
first_misses g base w0 item f m l is number places none =
    item_misses m g l 0 item f l.some is number base w0 [] (places_stand (length g.0.names) (started_goals m g.0) base w0 places) none

pub places_miss : (m : Module) (g : GoalText) (base : List ℕ) → first_fit (rooms base) (replicate (length g.names) 2) ≡ None
    → first_fit (rooms base) (goal_pieces m g) ≡ None
places_miss m g base none =
    first_fit-append (rooms base) (replicate (length g.names) 2) (flat_map goal_sizes (started_goals m g))
    ∙ ap (option_and_then (λ ss. first_fit ss (flat_map goal_sizes (started_goals m g)))) none

pub items_end : (g : GoalText × List ℕ) (n : ℕ) (base ws : List ℕ) (first : ℕ) (m : Module) → AreNew base → MayBeLaid m g
    → length g.0.items ≤ n → IsLayingItems g n base ws first → LaysGoal m g.0 first base ws
items_end g n base ws first m new l hi s =
    let r = s.each m l in
    let gs' : List (Goal ℕ) = started_goals m g.0 in
    let size : length (started_goals m g.0) ≡ length g.0.items = length-map g.0.items (λ i. goal_of (procedure_names m.clauses) i.call) in
    let items = l.items in
    let pages = s.pages in
    record {
      fits = r.1.fits ∙ ap (λ us. first_fit (rooms ws) (flat_map goal_sizes us))
          (drop_of_length-le (started_goals m g.0) (omega (arith, size, hi)));
      heap = first_heap (length g.0.names) l.variables (started_goals m g.0) n base ws r.0 (omega (arith, size, hi))
          (omega (arith, size, items)) r.1;
      book = first_book (length g.0.names) l.variables (started_goals m g.0) n base ws r.0 (omega (arith, size, hi))
          (omega (arith, size, items)) r.1;
      stands = first_stands (length g.0.names) l.variables (started_goals m g.0) n base ws r.0 (omega (arith, size, hi))
          (omega (arith, size, items)) r.1;
      places = λ k lo hi'. place_listed 1 (length g.0.names) k lo (omega (arith, hi'));
      first = r.2;
      tops = λ q h. let up = pages.above q (omega (arith, h, r.1.size)) in omega (arith, new_page base new q h, up);
    }

-- an item, whatever stood in its place past the end
pub item_is : (g : GoalText × List ℕ) (xs : List Item) (n : ℕ) (d : Item) → xs ≡ g.0.items → n < length xs
    → get_or xs n d ≡ get_or g.0.items n (get_or xs n d)
item_is g xs n d e lt = ap (λ ys. get_or ys n d) e ∙ default n g.0.items d (get_or xs n d) (subst (λ ys. n < length ys) e lt)
  where
    default : (n : ℕ) (ys : List Item) (a b : Item) → n < length ys → get_or ys n a ≡ get_or ys n b
    default n [] a b h = absurd (omega arith)
    default zero (y ∷ ys) a b h = refl
    default (suc n) (y ∷ ys) a b h = default n ys a b (omega arith)

-- new words are told by their number
pub same_fresh : (n : ℕ) (xs ys : List ℕ) → AreFresh n xs → AreFresh n ys → xs ≡ ys
same_fresh n xs ys f g = same_number_lists xs ys (f.size ∙ sym g.size) (λ k h.
    get_or_from_slice_get xs k (fresh_word k) 0 (f.each k (subst (λ i. k < i) f.size h))
    ∙ sym (get_or_from_slice_get ys k (fresh_word k) 0 (g.each k (subst (λ i. k < i) f.size h))))

rooms_sum : (ws : List ℕ) (p n : ℕ) → ((q : ℕ) → p ≤ q → q < p + n → room ws q ≡ 1023) → sum (rooms_from ws p n) ≡ 1023 * n
rooms_sum ws p zero h = refl
rooms_sum ws p (suc n) h =
    let r : sum (rooms_from ws (suc p) n) ≡ 1023 * n = rooms_sum ws (suc p) n (λ q lo hi. h q (omega arith) (omega arith)) in
    let e : room ws p ≡ 1023 = h p (omega arith) (omega arith) in
    let c : sum (rooms_from ws p (suc n)) ≡ room ws p + sum (rooms_from ws (suc p) n) =
    sum_by-cons (λ x. x) (room ws p) (rooms_from ws (suc p) n) in
    omega (arith, c, r, e)

-- the free words of a new heap
pub new_free : (ws : List ℕ) → AreNew ws → sum (rooms ws) ≡ 1023 * (length ws / 1024)
new_free ws n = rooms_sum ws 0 (length ws / 1024) (λ q lo hi. let t = new_page ws n q (omega (arith, hi)) in omega (arith, t))
