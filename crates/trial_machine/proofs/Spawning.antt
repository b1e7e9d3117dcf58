-- The begin of a try, children, and first occurrences.
use Rattle.std.proofs.Common.{◌≡◌, ℕ, suc, ◌+◌, ◌*◌, ◌-◌, ◌<◌, ◌≤◌, List, [], ◌∷◌, length, ap, sym, subst, ◌∙◌, Some, arith}
use Rattle.std.specs.Prelude.{slice_get}
use Rattle.std.proofs.lemmas.List.{length-append}
use Rattle.fcp_model.specs.Places.{own}
use Rattle.fcp_model.specs.declared.goal.TheConstants.{ASSIGN_PROCEDURE}
use Rattle.heap_words.specs.Trails.{WordList}
use Rattle.word_states.specs.Denoting.{Listed}
use Rattle.word_states.specs.Pieces.{StartsAt, place_words, numbered}
use Rattle.machine_code.specs.Instructions.{Try, GetFirst, Spawn}
use Rattle.trial_laws.specs.AtHand.{AtHand, term_word}
use Rattle.trial_laws.specs.Laws.{IsFilled, begun}
use Rattle.trial_laws.specs.NewPieces.{with_piece, HasRoom, child_piece}
use Rattle.steady_tries.specs.Steady.{Course, IsCourse, IsSteady}
use Rattle.steady_tries.proofs.Beginning.{begin_steady}
use Rattle.steady_tries.proofs.Spawning.{spawn_steady, first_steady}
use Rattle.steady_tries.proofs.Places.{place_steady}
use Rattle.try_desk.specs.Desks.{hand, Becomes, Adds, Begins}
use Rattle.try_desk.specs.Keeping.{KeepsDesk, KeepsArguments}
use Rattle.try_desk.specs.declared.desk.Desk.{Desk}
use Rattle.trial_machine.specs.declared.machine.Machine.{Machine}
use Rattle.trial_machine.specs.Machines.{Frame, IsOnWay, IsResting, StepsOn, Meets, at_machine, course}
use Rattle.trial_machine.proofs.OnWay.{framed, with_desk, goes_on}

-- a machine at the begin of a try
abbrev pub at_try : Machine → Desk → ℕ → Machine
at_try m d n = record m { desk = d; base = n; vars = n }

-- what is at hand, where nothing was bound or read
begun_hand : (m : Machine) (d : Desk) (r : AtHand) (binds : WordList) (reads : List ℕ) → binds ≡ [] → reads ≡ []
    → hand d [] [] m.waits ≡ r → hand d binds reads m.waits ≡ r
begun_hand m d r binds reads e g is =
    ap (λ (b : WordList). hand d b reads m.waits) e ∙ (ap (λ (l : List ℕ). hand d [] l m.waits) g ∙ is)

pub try_begun : (m : Machine) (d : Desk) (clause next vars : ℕ) → Begins m.desk d clause next vars → KeepsArguments m.desk.slots d.slots
    → vars < 256 → (f : Frame) (at : ℕ) → IsResting f at m → slice_get f.ops at ≡ Some (Try clause next) → f.vars clause ≡ vars
    → IsOnWay f (suc at) (at_try m d vars)
try_begun m d clause next vars begins keeps few f at h e is = record {
  on_course = subst (λ args. IsCourse (framed f args) m.trail.kept) (sym keeps.args) h.on_course;
  steady = subst
      (λ args. IsSteady (framed f args) m.trail.kept (suc at) vars (hand d m.trail.binds m.trail.reads.items m.waits))
      (sym keeps.args)
      (subst (λ (q : AtHand). IsSteady (course f m) m.trail.kept (suc at) vars q)
      (sym (begun_hand m d (begun r clause next vars c.words) m.trail.binds m.trail.reads.items h.between.no_binds h.between.no_reads
      (begins m.trail.binds m.trail.reads.items m.waits)))
      (subst (λ k. IsSteady c m.trail.kept (suc at) k (begun r clause next k c.words)) is
      (begin_steady c m.trail.kept at r clause next h.on_course h.between e (subst (λ k. k < 256) (sym is) few))));
  known = ap f.vars (ap (λ (q : AtHand). q.clause) (begins [] [] [])) ∙ is;
}
  where
    c : Course
    c = course f m

    r : AtHand
    r = at_machine m

-- a child
pub child_put : (m : Machine) (d : Desk) (base p from parts : ℕ) → Adds m.trail.binds m.desk d (λ r. child_piece r p from parts)
    → KeepsDesk m.desk d → base ≡ length d.pieces → p < 4294967296 → parts < 65536 → StepsOn m (with_desk m d base) (Spawn p from parts)
child_put m d base p from parts adds keeps count few small f at h e =
    goes_on f at (suc at) base m d (with_piece r child) h keeps added.0
    (subst (λ k. IsSteady (course f m) m.trail.kept (suc at) k (with_piece r child)) (sym all)
    (spawn_steady (course f m) m.trail.kept at m.base r h.on_course h.steady p from parts e low (omega (arith, small)) added.1))
  where
    r : AtHand
    r = at_machine m

    child : List ℕ
    child = child_piece r p from parts

    added : (hand d m.trail.binds m.trail.reads.items m.waits ≡ with_piece r child) × HasRoom r (length child)
    added = adds m.trail.reads.items m.waits

    one : length r.pieces + 1 ≡ suc (length r.pieces)
    one = omega arith

    all : base ≡ suc (length r.pieces)
    all = count ∙ (ap (λ (q : AtHand). length q.pieces) added.0 ∙ (length-append r.pieces (child ∷ []) ∙ one))

    low : p ≤ ASSIGN_PROCEDURE
    low = omega (arith, few)

-- the place of a variable, at its first occurrence
place_there : (m : Machine) (f : Frame) (at var a : ℕ) → IsOnWay f at m → 0 < var → var ≤ m.vars → a ≡ 3999999999 + 2 * var
    → Listed (numbered 1 (place_words 4000000000 m.desk.pieces)) (own var) (suc (a - 1))
place_there m f at var a h low high is =
    let few : var ≤ f.vars m.desk.clause = subst (λ k. var ≤ k) (sym h.known) high in
    let same : 3999999999 + 2 * var ≡ suc (a - 1) = omega (arith, is) in
    subst (λ x. Listed (numbered 1 (place_words 4000000000 m.desk.pieces)) (own var) x) same
    (place_steady (course f m) m.trail.kept at m.base (at_machine m) h.on_course h.steady var low few)

pub place_open : (m : Machine) (slot var a : ℕ) → Meets m (GetFirst slot var) → 0 < var → var ≤ m.vars → a ≡ 3999999999 + 2 * var
    → StartsAt 4000000000 m.desk.pieces (a - 1) (0 ∷ 0 ∷ [])
place_open m slot var a (f, at, h, e) low high is =
    (first_steady (course f m) m.trail.kept at m.base (at_machine m) h.on_course h.steady slot var (a - 1) e
    (place_there m f at var a h low high is)).0

pub first_put : (m : Machine) (d : Desk) (base slot var a : ℕ) → 0 < var → var ≤ m.vars → a ≡ 3999999999 + 2 * var
    → ((binds : WordList) (reads waits : List ℕ)
    → IsFilled (a - 1) (term_word (hand m.desk binds reads waits) slot) m.desk.pieces d.pieces)
    → Becomes m.desk d (λ r. record r { pieces = d.pieces }) → KeepsDesk m.desk d → base ≡ length d.pieces
    → StepsOn m (with_desk m d base) (GetFirst slot var)
first_put m d base slot var a low high is filled becomes keeps count f at h e =
    goes_on f at (suc at) base m d _ h keeps (becomes m.trail.binds m.trail.reads.items m.waits)
    (subst (λ k. IsSteady (course f m) m.trail.kept (suc at) k (record (at_machine m) { pieces = d.pieces })) (sym count)
    ((first_steady (course f m) m.trail.kept at m.base (at_machine m) h.on_course h.steady slot var (a - 1) e
    (place_there m f at var a h low high is)).1 d.pieces (filled m.trail.binds m.trail.reads.items m.waits)))
