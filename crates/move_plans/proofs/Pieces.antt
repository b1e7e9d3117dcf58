-- Pieces, cut from their words by their sizes.
use Rattle.std.proofs.Common.{◌≡◌, ℕ, ◌+◌, List, [], ◌∷◌, ◌++◌, length, take, drop, refl, sym}
use Rattle.std.proofs.Common.{ap, ◌∙◌, arith}
use Rattle.std.specs.List.{concat}
use Rattle.std.proofs.lemmas.List.{length-take-le, length-drop, length-append}
use Rattle.heap_words.specs.Trails.{WordList}
use Rattle.word_states.specs.Planning.{commit_writes}
use Rattle.page_layout.specs.declared.rooms.Room.{Room}
use Rattle.page_layout.specs.Laying.{cuts, total, moved_to, tops_of}
use Rattle.try_desk.specs.Cuts.{cut}
use Rattle.try_desk.specs.Cuts as desk
use Rattle.move_plans.specs.Stages.{sizes_of}

take_front : (xs ys : List ℕ) → take (length xs) (xs ++ ys) ≡ xs
take_front [] ys = refl
take_front (x ∷ xs) ys = ap (λ (l : List ℕ). x ∷ l) (take_front xs ys)

drop_front : (xs ys : List ℕ) → drop (length xs) (xs ++ ys) ≡ ys
drop_front [] ys = refl
drop_front (x ∷ xs) ys = drop_front xs ys

pub cuts_whole : (ps : List (List ℕ)) → cuts (sizes_of ps) (concat ps) ≡ ps
cuts_whole [] = refl
cuts_whole (p ∷ ps) =
    ap (λ (q : List ℕ). q ∷ cuts (sizes_of ps) (drop (length p) (p ++ concat ps))) (take_front p (concat ps))
    ∙ ap (λ (l : List ℕ). p ∷ cuts (sizes_of ps) l) (drop_front p (concat ps))
    ∙ ap (λ (l : List (List ℕ)). p ∷ l) (cuts_whole ps)

-- the sizes by which all words are cut are those of the pieces
pub sizes_are : (ns ws : List ℕ) → desk.total ns ≡ length ws → sizes_of (cut ws ns) ≡ ns
sizes_are [] ws e = refl
sizes_are (n ∷ ns) ws e =
    ap (λ (k : ℕ). k ∷ sizes_of (cut (drop n ws) ns)) (length-take-le n ws (omega arith))
    ∙ ap (λ (l : List ℕ). n ∷ l) (sizes_are ns (drop n ws) (let d = length-drop n ws in omega arith))

pub same_total : (ns : List ℕ) → desk.total ns ≡ total ns
same_total [] = refl
same_total (n ∷ ns) = ap (λ (k : ℕ). n + k) (same_total ns)

-- so they are the sizes of the pieces
pub sizes_is : (ps : List (List ℕ)) (ns : List ℕ) → cut (concat ps) ns ≡ ps → desk.total ns ≡ length (concat ps) → ns ≡ sizes_of ps
sizes_is ps ns h e = sym (sizes_are ns (concat ps) e) ∙ ap sizes_of h

pub whole_total : (ps : List (List ℕ)) → length (concat ps) ≡ total (sizes_of ps)
whole_total [] = refl
whole_total (p ∷ ps) = length-append p (concat ps) ∙ ap (λ (n : ℕ). length p + n) (whole_total ps)

-- the writes of a commit, by equal lists
pub commit_same : (rooms rooms' : List Room) (table table' : List ℕ) (n p : ℕ) (binds binds' : WordList) (ps ps' : List (List ℕ))
    (wakes wakes' : List ℕ) → rooms ≡ rooms' → table ≡ table' → binds ≡ binds' → ps ≡ ps' → wakes ≡ wakes'
    → commit_writes (moved_to table) n p binds ps wakes (tops_of rooms)
    ≡ commit_writes (moved_to table') n p binds' ps' wakes' (tops_of rooms')
commit_same rooms rooms' table table' n p binds binds' ps ps' wakes wakes' e f g h k =
    ap (λ (rs : List Room). commit_writes (moved_to table) n p binds ps wakes (tops_of rs)) e
    ∙ ap (λ (l : List ℕ). commit_writes (moved_to l) n p binds ps wakes (tops_of rooms')) f
    ∙ ap (λ (bs : WordList). commit_writes (moved_to table') n p bs ps wakes (tops_of rooms')) g
    ∙ ap (λ (qs : List (List ℕ)). commit_writes (moved_to table') n p binds' qs wakes (tops_of rooms')) h
    ∙ ap (λ (qs : List ℕ). commit_writes (moved_to table') n p binds' ps' qs (tops_of rooms')) k
