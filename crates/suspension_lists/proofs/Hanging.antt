-- The entries of a hang, one place after another.
use Rattle.std.proofs.Common.{◌≡◌, ℕ, ◌+◌, ◌<◌, List, [], ◌∷◌, ◌++◌, length, refl, sym, ap, ◌∙◌, take, get_or, append_assoc}
use Rattle.std.proofs.lemmas.List.{take_more, append-nil}
use Rattle.heap_words.specs.Cells.{decoded}
use Rattle.heap_words.specs.Trails.{WordList}
use Rattle.word_states.specs.Layouts.{entry_words}
use Rattle.suspension_lists.specs.Cells.{list_of}
use Rattle.suspension_lists.specs.Hangs.{open_entry, open_entries, dated}

-- with its number an entry is the one of the hang
pub dated_entry : (n p e : ℕ) → dated n (open_entry p e) ≡ entry_words n p e
dated_entry n p e = refl

open_push : (p : ℕ) (ls : WordList) (l : ℕ × ℕ)
    → open_entries p (ls ++ l ∷ []) ≡ open_entries p ls ++ open_entry p (list_of (decoded l.1))
open_push p [] l = append-nil (open_entry p (list_of (decoded l.1)))
open_push p (m ∷ ms) l =
    ap (λ (ws : List ℕ). open_entry p (list_of (decoded m.1)) ++ ws) (open_push p ms l)
    ∙ sym (append_assoc (open_entry p (list_of (decoded m.1))) (open_entries p ms) (open_entry p (list_of (decoded l.1))))

-- the step of a loop over places
pub open_next : (p : ℕ) (before : List ℕ) (ls : WordList) (i : ℕ) (d : ℕ × ℕ) → i < length ls
    → before ++ open_entries p (take (i + 1) ls)
    ≡ (before ++ open_entries p (take i ls)) ++ open_entry p (list_of (decoded (get_or ls i d).1))
open_next p before ls i d l =
    ap (λ (ms : WordList). before ++ open_entries p ms) (take_more ls i d l)
    ∙ (ap (λ (ws : List ℕ). before ++ ws) (open_push p (take i ls) (get_or ls i d))
    ∙ sym (append_assoc before (open_entries p (take i ls)) (open_entry p (list_of (decoded (get_or ls i d).1)))))
