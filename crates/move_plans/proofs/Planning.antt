-- What was laid and put is a plan, by the laws of moves.
use Rattle.std.proofs.Common.{◌≡◌, ℕ, suc, ◌+◌, ◌*◌, ◌%◌, ◌<◌, ◌≤◌, List, [], ◌∷◌, length, refl, sym, ap, ◌∙◌, subst, arith}
use Rattle.std.specs.Prelude.{pos}
use Rattle.std.specs.List.{concat}
use Rattle.fcp_model.specs.declared.run.Entry.{Entry}
use Rattle.fcp_model.specs.declared.run.Entry.TheVariants.{Commit, Hang}
use Rattle.fcp_model.specs.declared.run.Proc.{Proc}
use Rattle.heap_words.specs.Trails.{WordList, word_at}
use Rattle.heap_words.specs.declared.cell.Cell.TheVariants.{Small, Status}
use Rattle.heap_words.specs.declared.cell.Stand.TheVariants.{Ready}
use Rattle.word_states.specs.Words.{At, addresses_of}
use Rattle.word_states.specs.Standing.{name_code}
use Rattle.word_states.specs.Trials.{AreReads, TriedCommit}
use Rattle.machine_code.specs.Compiling.{Tables}
use Rattle.trial_machine.specs.declared.decide.Trial.TheVariants as trial
use Rattle.trial_machine.specs.Deciding.{HandedOver, IsDecided, handed_over}
use Rattle.word_moves.specs.Planned.{process_of, ReadsProcess, CellsSay, IsCommitMove, IsHangMove, IsFailMove}
use Rattle.word_moves.specs.Laws.{ACommitFits, AHangFits, AFailFits, ACommitIsSafe, AHangIsSafe, AFailIsSafe}
use Rattle.move_plans.specs.declared.planner.Planner.{Planner}
use Rattle.move_plans.specs.Plans.{move_of, IsMoveOf, NamesMover, IsPlan}
use Rattle.move_plans.specs.Sizes.{CellsRead}
use Rattle.move_plans.specs.Stages.{rereads, sizes_of, LaysCommit, LaysHang}
use Rattle.move_plans.proofs.CommitCells.{cells_say}
use Rattle.move_plans.proofs.Pieces.{cuts_whole}
use Rattle.move_plans.proofs.Reading.{cells_more}
use Rattle.move_plans.proofs.Rereading.{Grows, decided_more}

-- the name's word says the process
name_says : (z : ℕ) → name_code (process_of z).entry (process_of z).number ≡ z
name_says z = omega arith

names : (kept read : WordList) (p z : ℕ) (e : Entry) → read ≡ kept → ReadsProcess kept p z → IsMoveOf e (process_of z) → NamesMover read p e
names kept read p z e same h is = record {
  mover = process_of z;
  is_move = is;
  small = (let l : z % 268435456 < 268435456 = omega arith in l);
  name = subst (λ (r : WordList). At (word_at r) (p + 1) (Small (pos (name_code (process_of z).entry (process_of z).number)))) (sym same)
      (subst (λ (n : ℕ). At (word_at kept) (p + 1) (Small (pos n))) (sym (name_says z)) h.name);
}

ready : (kept read : WordList) (p z : ℕ) → read ≡ kept → ReadsProcess kept p z → At (word_at read) p (Status Ready)
ready kept read p z same h = subst (λ (r : WordList). At (word_at r) p (Status Ready)) (sym same) h.status

pub fail_plan : AFailFits → AFailIsSafe → (t : Tables) (old new : Planner) (p z : ℕ) → ReadsProcess old.machine.trail.kept p z
    → AreReads old.machine.trail.kept → IsDecided t (handed_over old.machine) p trial.Fails
    → IsFailMove (move_of new p) old.machine.trail.kept p z → IsPlan t new p
fail_plan fits safe t old new p z mover reads decided is = record {
  is_ready = ready old.machine.trail.kept new.machine.trail.kept p z is.reads mover;
  named = names old.machine.trail.kept new.machine.trail.kept p z new.entry is.reads mover
      (subst (λ (e : Entry). IsMoveOf e (process_of z)) (sym is.entry) refl);
  safe = safe (move_of new p) old.machine.trail.kept p z reads is;
  fits = λ m code. fits (move_of new p) old.machine.trail.kept p z mover is m (decided.says m code);
}

hang_plan : AHangFits → AHangIsSafe → (t : Tables) (kept : WordList) (old new : Planner) (p z : ℕ) → ReadsProcess kept p z
    → IsDecided t (handed_over old.machine) p trial.Wait → LaysHang kept old p
    → IsHangMove (move_of new p) old.machine.trail.kept p z old.lists.items old.rooms.items old.table.items → IsPlan t new p
hang_plan fits safe t kept old new p z mover decided laid is =
    let planned = laid.planned z mover in
    record {
      is_ready = ready old.machine.trail.kept new.machine.trail.kept p z is.reads planned.process;
      named = names old.machine.trail.kept new.machine.trail.kept p z new.entry is.reads planned.process
          (subst (λ (e : Entry). IsMoveOf e (process_of z)) (sym is.entry) refl);
      safe = safe (move_of new p) old.machine.trail.kept p z old.lists.items old.rooms.items old.table.items planned is;
      fits = λ m code. fits (move_of new p) old.machine.trail.kept p z old.lists.items old.rooms.items old.table.items planned is m
          (rw laid.places (decided.says m code));
    }

commit_plan : ACommitFits → ACommitIsSafe → (t : Tables) (kept : WordList) (old new : Planner) (p z cells : ℕ) → ReadsProcess kept p z
    → IsDecided t (handed_over old.machine) p trial.Commit
    → CellsRead t old.machine.trail.kept p old.machine.desk.clause cells → LaysCommit kept old p
    → IsCommitMove (move_of new p) old.machine.trail.kept p z old.machine.desk.clause old.machine.binds.items
    (sizes_of old.machine.desk.pieces) (concat old.machine.desk.pieces) old.woken.items old.rooms.items old.table.items
    → new.cells ≡ cells → IsPlan t new p
commit_plan fits safe t kept old new p z cells mover decided numbers laid is same =
    let planned = laid.planned z mover in
    let d = old.machine.desk in
    record {
      is_ready = ready old.machine.trail.kept new.machine.trail.kept p z is.reads planned.process;
      named = names old.machine.trail.kept new.machine.trail.kept p z new.entry is.reads planned.process
          (subst (λ (e : Entry). IsMoveOf e (process_of z)) (sym is.entry) refl);
      safe = safe (move_of new p) old.machine.trail.kept p z d.clause old.machine.binds.items (sizes_of d.pieces) (concat d.pieces)
          old.woken.items old.rooms.items old.table.items planned is;
      fits = λ m code. fits (move_of new p) old.machine.trail.kept p z d.clause old.machine.binds.items (sizes_of d.pieces)
          (concat d.pieces) old.woken.items old.rooms.items old.table.items planned is m
          (subst (λ (ps : List (List ℕ)). TriedCommit m old.machine.trail.kept p d.clause old.machine.binds.items ps)
          (sym (cuts_whole d.pieces)) (decided.says m code))
          (subst (λ (n : ℕ). CellsSay m old.machine.trail.kept p d.clause n) (sym same)
          (cells_say t old.machine.trail.kept p d.clause cells numbers m code.names));
    }

-- as many places as lists
places_long : (ls : WordList) → length (addresses_of ls) ≡ length ls
places_long [] = refl
places_long (l ∷ ls) = ap suc (places_long ls)

-- what is planned for a process that waits, where a hang was laid after more was read
pub hang_says : AHangFits → AHangIsSafe → (t : Tables) (old mid new : Planner) (p z left : ℕ) → ReadsProcess old.machine.trail.kept p z
    → IsDecided t (handed_over old.machine) p trial.Wait → 3 * length old.machine.waits ≤ left
    → Grows old.machine.trail.kept mid.machine.trail.kept
    → handed_over mid.machine ≡ rereads (handed_over old.machine) mid.machine.trail.kept
    → LaysHang old.machine.trail.kept mid p
    → IsHangMove (move_of new p) mid.machine.trail.kept p z mid.lists.items mid.rooms.items mid.table.items
    → IsPlan t new p × ((q : Proc) × (new.entry ≡ Hang q)) × (new.cells ≤ left)
hang_says fits safe t old mid new p z left mover decided enough grows hands laid is =
    let reads : AreReads mid.machine.trail.kept = (laid.planned z mover).read.reads in
    let now = subst (λ (h : HandedOver). IsDecided t h p trial.Wait) (sym hands)
    (decided_more t (handed_over old.machine) p trial.Wait mid.machine.trail.kept grows reads decided) in
    let long : length mid.lists.items ≡ length old.machine.waits = sym (places_long mid.lists.items) ∙ ap length laid.places
    ∙ ap (λ (h : HandedOver). length h.places) hands in (
      hang_plan fits safe t old.machine.trail.kept mid new p z mover now laid is,
      (process_of z, is.entry),
      omega (arith, is.cells, long, enough),
    )

-- and for one that commits
pub commit_says : ACommitFits → ACommitIsSafe → (t : Tables) (old mid new : Planner) (p z cells left : ℕ)
    → ReadsProcess old.machine.trail.kept p z → IsDecided t (handed_over old.machine) p trial.Commit
    → CellsRead t old.machine.trail.kept p old.machine.desk.clause cells → cells ≤ left
    → Grows old.machine.trail.kept mid.machine.trail.kept
    → handed_over mid.machine ≡ rereads (handed_over old.machine) mid.machine.trail.kept
    → LaysCommit old.machine.trail.kept mid p
    → IsCommitMove (move_of new p) mid.machine.trail.kept p z mid.machine.desk.clause mid.machine.binds.items
    (sizes_of mid.machine.desk.pieces) (concat mid.machine.desk.pieces) mid.woken.items mid.rooms.items mid.table.items
    → new.cells ≡ cells → IsPlan t new p × ((q : Proc) × (k : ℕ) × (new.entry ≡ Commit q k)) × (new.cells ≤ left)
commit_says fits safe t old mid new p z cells left mover decided numbers enough grows hands laid is same =
    let reads : AreReads mid.machine.trail.kept = (laid.planned z mover).read.reads in
    let now = subst (λ (h : HandedOver). IsDecided t h p trial.Commit) (sym hands)
    (decided_more t (handed_over old.machine) p trial.Commit mid.machine.trail.kept grows reads decided) in
    let more = subst (λ (k : ℕ). CellsRead t mid.machine.trail.kept p k cells) (sym (ap (λ (h : HandedOver). h.clause) hands))
    (cells_more t old.machine.trail.kept mid.machine.trail.kept p old.machine.desk.clause cells grows numbers) in (
      commit_plan fits safe t old.machine.trail.kept mid new p z cells mover now more laid is same,
      (process_of z, mid.machine.desk.clause, is.entry),
      omega (arith, same, enough),
    )
