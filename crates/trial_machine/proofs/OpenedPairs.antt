-- A slot's value was opened as a pair.
use Rattle.std.proofs.Common.{◌≡◌, ℕ, suc, ◌+◌, List, length, Bool, true, false, cond, refl, sym, ap, ap₂, subst, ◌∙◌}
use Rattle.std.proofs.lemmas.Bool.{eq-eqb, ne_eqb}
use Rattle.heap_words.specs.Trails.{WordList}
use Rattle.heap_words.specs.declared.trail.Trail.{Trail}
use Rattle.machine_code.specs.Instructions.{GetCons}
use Rattle.trial_laws.specs.Laws.{holding}
use Rattle.trial_laws.specs.Leading.{IsTermWord}
use Rattle.safe_tries.specs.Safe.{own_words, seen}
use Rattle.safe_tries.specs.Loads as safe
use Rattle.steady_tries.specs.Steady.{IsSteady}
use Rattle.steady_tries.specs.Opens.{Everywhere, IsPairOf}
use Rattle.steady_tries.proofs.Agreeing.{seen_agrees}
use Rattle.steady_tries.proofs.Going.{more_steady, course_more}
use Rattle.steady_tries.proofs.Opening.{pair_opened_steady, no_pair_stands, no_pair_steady}
use Rattle.try_desk.specs.Desks.{at_hand}
use Rattle.try_desk.specs.Held.{Held, Kept, held, held_with}
use Rattle.try_desk.specs.Keeping.{KeepsArguments}
use Rattle.try_desk.specs.Opened.{OpensPair}
use Rattle.trial_machine.specs.declared.machine.Machine.{Machine}
use Rattle.trial_machine.specs.declared.machine.Opened.TheVariants.{Taken, Other, Nowhere}
use Rattle.trial_machine.specs.Machines.{course, at_machine, Opens}
use Rattle.trial_machine.proofs.Ways.{on_way}

-- a machine with other slots and another trail
abbrev pub with_slots : Machine → Kept → Trail → ℕ → Machine
with_slots m s t n = record m { desk = record m.desk { slots = s }; trail = t; base = n }

-- what was opened, in each memory
abbrev pub OpenedPair : Machine → Kept → Trail → ℕ → ℕ → ℕ → Bool → Type 0
OpenedPair m s t i left right b = Everywhere t.kept (at_machine m)
    (λ mem. OpensPair t.kept (own_words m.desk.pieces) m.trail.binds mem (held m.desk.slots) (held s) i left right b)

-- the trail kept more, and is the same else
pub record MoreKept (m : Machine) (t : Trail) : Type 0 where
  pub more : safe.Kept m.trail.kept (at_machine m) t.kept
  pub binds : t.binds ≡ m.trail.binds
  pub reads : t.reads.items ≡ m.trail.reads.items

-- what is at hand then
pub now_at_hand : (m : Machine) (s : Kept) (t : Trail) (n : ℕ) (h : Held) → MoreKept m t → held s ≡ h
    → at_machine (with_slots m s t n)
    ≡ at_hand m.desk.clause m.desk.next m.desk.behind h m.desk.pieces m.trail.binds m.trail.reads.items m.waits
now_at_hand m s t n h more e =
    ap₂ (λ (b : WordList) (rs : List ℕ). at_hand m.desk.clause m.desk.next m.desk.behind (held s) m.desk.pieces b rs m.waits)
    more.binds more.reads
    ∙ ap (λ (k : Held). at_hand m.desk.clause m.desk.next m.desk.behind k m.desk.pieces m.trail.binds m.trail.reads.items m.waits) e

left_word : (h k : Held) (i j x y : ℕ) → (i ≡ j → ⊥) → k ≡ held_with (held_with h i x false) j y false → k.words i ≡ x
left_word h k i j x y apart e =
    ap (λ (q : Held). q.words i) e
    ∙ (ap (λ b. cond b y ((held_with h i x false).words i)) (ne_eqb i j apart) ∙ ap (λ b. cond b x (h.words i)) (eq-eqb i i refl))

right_word : (h k : Held) (i j x y : ℕ) → k ≡ held_with (held_with h i x false) j y false → k.words j ≡ y
right_word h k i j x y e =
    ap (λ (q : Held). q.words j) e ∙ ap (λ b. cond b y ((held_with h i x false).words j)) (eq-eqb j j refl)

-- the parts are the words that the slots hold
parts_held : (m : Machine) (s : Kept) (t : Trail) (i left right : ℕ) → (left ≡ right → ⊥) → OpenedPair m s t i left right true
    → IsPairOf t.kept (at_machine m) i ((held s).words left) ((held s).words right)
parts_held m s t i left right apart opened mem agrees =
    let o = opened mem agrees in (
      o.0,
      o.2.at,
      o.1,
      o.2.pair,
      o.2.first_seen,
      o.2.second_seen,
      sym (left_word (held m.desk.slots) (held s) left right (mem o.2.at) (mem (o.2.at + 1)) apart o.2.takes),
      sym (right_word (held m.desk.slots) (held s) left right (mem o.2.at) (mem (o.2.at + 1)) o.2.takes),
    )

pub pair_taken : (m : Machine) (s : Kept) (t : Trail) (n i left right put : ℕ) → (left ≡ right → ⊥) → MoreKept m t
    → KeepsArguments m.desk.slots s → OpenedPair m s t i left right true → IsTermWord ((held s).words left)
    → IsTermWord ((held s).words right) → n ≡ length m.desk.pieces → Opens m (with_slots m s t n) (GetCons i left right put) put Taken
pair_taken m s t n i left right put apart more keeps opened tx ty count f at h o =
    let known = course_more (course f m) m.trail.kept t.kept more.more.grows h.on_course in
    let steady = more_steady (course f m) m.trail.kept at m.base (at_machine m) h.on_course h.steady t.kept more.more in
    let pair = parts_held m s t i left right apart opened in
    let agrees = seen_agrees t.kept (at_machine m) steady.safe.below in
    let taken = (opened (seen t.kept (at_machine m)) agrees).2 in
    let p = pair (seen t.kept (at_machine m)) agrees in
    let takes : held s ≡ held_with (held_with (held m.desk.slots) left ((held s).words left) false) right ((held s).words right) false =
    taken.takes
    ∙ ap₂ (λ x y. held_with (held_with (held m.desk.slots) left x false) right y false)
    (sym (left_word (held m.desk.slots) (held s) left right _ _ apart taken.takes))
    (sym (right_word (held m.desk.slots) (held s) left right _ _ taken.takes)) in
    let r = holding (holding (at_machine m) left ((held s).words left) false) right ((held s).words right) false in
    on_way f (suc at) (with_slots m s t n) m.desk.slots.args
    (holding (holding (at_machine m) left ((held s).words left) false) right ((held s).words right) false) keeps.args
    (now_at_hand m s t n _ more takes) known
    (subst (λ (k : ℕ). IsSteady (course f m) t.kept (suc at) k
    (holding (holding (at_machine m) left ((held s).words left) false) right ((held s).words right) false)) (sym count)
    (pair_opened_steady (course f m) t.kept at m.base (at_machine m) known steady i left right put ((held s).words left)
    ((held s).words right) o pair tx ty)) h.known

pub pair_nowhere : (m : Machine) (s : Kept) (t : Trail) (n i left right put : ℕ) → (left ≡ right → ⊥) → MoreKept m t
    → OpenedPair m s t i left right true → (IsTermWord ((held s).words left) × IsTermWord ((held s).words right) → ⊥)
    → Opens m (with_slots m s t n) (GetCons i left right put) put Nowhere
pair_nowhere m s t n i left right put apart more opened none f at h o =
    let known = course_more (course f m) m.trail.kept t.kept more.more.grows h.on_course in
    let steady = more_steady (course f m) m.trail.kept at m.base (at_machine m) h.on_course h.steady t.kept more.more in
    no_pair_stands (course f m) t.kept at m.base (at_machine m) known steady i left right put ((held s).words left)
    ((held s).words right) o (parts_held m s t i left right apart opened) none

pub pair_other : (m : Machine) (s : Kept) (t : Trail) (n i left right put : ℕ) → MoreKept m t → KeepsArguments m.desk.slots s
    → OpenedPair m s t i left right false → n ≡ length m.desk.pieces → Opens m (with_slots m s t n) (GetCons i left right put) put Other
pair_other m s t n i left right put more keeps opened count f at h o =
    let known = course_more (course f m) m.trail.kept t.kept more.more.grows h.on_course in
    let steady = more_steady (course f m) m.trail.kept at m.base (at_machine m) h.on_course h.steady t.kept more.more in
    let now = opened (seen t.kept (at_machine m)) (seen_agrees t.kept (at_machine m) steady.safe.below) in
    on_way f put (with_slots m s t n) m.desk.slots.args (at_machine m) keeps.args (now_at_hand m s t n (held m.desk.slots) more
    now.2.1) known
    (subst (λ (k : ℕ). IsSteady (course f m) t.kept put k (at_machine m)) (sym count)
    (no_pair_steady (course f m) t.kept at m.base (at_machine m) known steady i left right put o
    (λ mem agrees. let q = opened mem agrees in (q.0, q.1, q.2.0)))) h.known
