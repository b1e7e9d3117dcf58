-- What an entry finds by what was read.
use Rattle.std.proofs.Common.{◌≡◌, ℕ, ◌+◌, ◌≤◌, true, List, [], ◌∷◌, length, Some, refl, sym, ap, ◌∙◌, inl, inr, arith}
use Rattle.std.proofs.lemmas.Bool.{eqb-true}
use Rattle.heap_words.specs.Cells.{decoded}
use Rattle.heap_words.specs.Trails.{WordList, word_at}
use Rattle.heap_words.specs.declared.cell.Cell.{Cell}
use Rattle.heap_words.specs.declared.cell.Cell.TheVariants.{Small, Raw}
use Rattle.heap_words.specs.declared.cell.Cell.TheVariants as cell
use Rattle.heap_words.specs.declared.cell.Stand.TheVariants as stand
use Rattle.word_states.specs.Words.{At, Among, AreApart, AreDistinct, addresses_of}
use Rattle.word_states.specs.Pieces.{StartsAt, is_process, IsPiece, a_place, a_pair, a_tuple, a_wide, a_process}
use Rattle.word_states.specs.Trials.{AreReads}
use Rattle.word_states.proofs.Lists.{apart_word, among_addresses}
use Rattle.word_states.proofs.Pieces.{nine_is}
use Rattle.page_layout.specs.declared.rooms.Room.{Room}
use Rattle.page_layout.specs.Laying.{AreNamed}
use Rattle.page_layout.specs.Openings.{FindsCommit, FindsHang}
use Rattle.word_moves.specs.Planned.{IsPlannedCommit, IsPlannedHang}

-- a word with another cell begins no process
no_status : (r : ℕ) (xs : List ℕ) (c : Cell) → decoded r ≡ Some c → is_process (r ∷ xs) ≡ true → c ≡ cell.Status stand.Ready
no_status r xs c d t =
    let nine : r ≡ 9 = eqb-true r 9 t in
    let same : Some c ≡ Some (cell.Status stand.Ready) = sym d ∙ ap decoded nine ∙ nine_is in
    cc

-- a process among pieces has a word for its name
piece_named : (p : List ℕ) → IsPiece p → is_process p ≡ true → 2 ≤ length p
piece_named p (a_place x e h) t = let size = ap length e in omega arith
piece_named p (a_pair x y e h k l) t = let size = ap length e in omega arith
piece_named p (a_tuple r n xs e d l f) t =
    absurd (let bad : Raw n ≡ cell.Status stand.Ready = no_status r xs (Raw n) d (sym (ap is_process e) ∙ t) in cc)
piece_named p (a_wide x z e d) t =
    absurd (let bad : Small z ≡ cell.Status stand.Ready = no_status x [] (Small z) d (sym (ap is_process e) ∙ t) in cc)
piece_named p (a_process f g r n xs e d d' l h) t = let size = ap length e in omega arith

pub pieces_named : (b : ℕ) (ps : List (List ℕ)) → ((a : ℕ) (p : List ℕ) → StartsAt b ps a p → IsPiece p) → AreNamed ps
pieces_named b [] each = tt
pieces_named b (p ∷ ps) each =
    (piece_named p (each b p (inl (refl, refl))), pieces_named (b + length p) ps (λ a q h. each a q (inr h)))

-- what was read stands among the reads
read_there : (kept : WordList) (a x : ℕ) (c : Cell) → AreReads kept → Among kept (a, x) → decoded x ≡ Some c → At (word_at kept) a c
read_there kept a x c reads h d = (x, apart_word kept a x reads.apart h, d)

pub finds_commit : {kept binds : WordList} {p z : ℕ} {sizes own wakes table : List ℕ} {rooms : List Room}
    → IsPlannedCommit kept p z binds sizes own wakes rooms table → FindsCommit p binds wakes (word_at kept)
finds_commit {kept = kept} planned = record {
  process = planned.process.status;
  bound = λ a x h. let r = planned.read.opened a x h in (r.0, read_there kept a r.1.0 _ planned.read.reads r.1.1 r.1.2);
  woken = λ q h. let r = planned.woken.sleepers q h in (r.1, read_there kept q r.0 _ planned.read.reads r.2 r.3);
  binds_once = planned.read.apart;
  wakes_once = planned.woken.distinct;
}

apart_places : (ls : WordList) → AreDistinct (addresses_of ls) → AreApart ls
apart_places [] d = tt
apart_places (l ∷ ls) d = ((λ y h. d.0 (among_addresses ls l.0 y h)), apart_places ls d.1)

pub finds_hang : {kept lists : WordList} {p z : ℕ} {rooms : List Room} {table : List ℕ} → IsPlannedHang kept p z lists rooms table
    → FindsHang p lists (word_at kept)
finds_hang {lists = lists} planned =
    record { process = planned.process.status; places = planned.places; once = apart_places lists planned.read.distinct }
