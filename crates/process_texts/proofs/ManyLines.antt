-- The lines of the live processes of a state, one after another.
use Rattle.std.proofs.Common.{◌≡◌, ℕ, zero, suc, ◌+◌, ◌<◌, ◌≤◌, Bool, true, false, cond, List, [], ◌∷◌, ◌++◌, length, take, get_or}
use Rattle.std.proofs.Common.{Option, Some, None, refl, sym, ap, ◌∙◌, ⊎_elim, arith}
use Rattle.std.specs.Prelude.{not, filter}
use Rattle.std.specs.List.{AllZip}
use Rattle.std.proofs.lemmas.List.{take_all}
use Rattle.std.proofs.lemmas.Option.{none-some}
use Rattle.fcp_model.specs.Programs.{Program}
use Rattle.fcp_model.specs.Terms.{Bindings}
use Rattle.fcp_model.specs.States.{Process, State, is_finished}
use Rattle.fcp_model.specs.LawfulStates.{Each}
use Rattle.fcp_model.specs.Spelling.{Bytes}
use Rattle.fcp_model.specs.LogText.{both_texts}
use Rattle.fcp_model.specs.ReportText.{process_line, process_lines}
use Rattle.heap_words.specs.WordsLaws.{WordsLaws}
use Rattle.ro_unify.specs.Occurs.{Each as EachOf}
use Rattle.heap_words.specs.Trails.{WordList, KeepsLoads}
use Rattle.word_states.specs.Words.{Words}
use Rattle.word_states.specs.Standing.{Book, ProcessAt}
use Rattle.word_states.specs.Going.{AllAt}
use Rattle.entry_lines.specs.Additions.{Adds}
use Rattle.entry_lines.specs.Lines.{HasKept}
use Rattle.entry_lines.proofs.Adding.{adds_both, both-nil, nil-both, both-assoc}
use Rattle.process_texts.specs.Lines.{AreWaits, ProcessLine, HasGiven, live, AreProcessesThere, ProcessLines}

-- each live process is not finished
abbrev IsLive : Process → Type 0
IsLive p = is_finished p.status ≡ false

live_only : (ps : List Process) → Each IsLive (filter (λ p. not (is_finished p.status)) ps)
live_only [] = tt
live_only (p ∷ ps) = go (is_finished p.status) refl (live_only ps)
  where
    go : (b : Bool) → is_finished p.status ≡ b → Each IsLive (filter (λ p. not (is_finished p.status)) ps)
        → Each IsLive (cond (not b) (p ∷ filter (λ p. not (is_finished p.status)) ps) (filter (λ p. not (is_finished p.status)) ps))
    go true e h = h
    go false e h = (e, h)

module _ (n : ℕ) (names : List Bytes) (m : Program) (s : Bindings) where
  -- the lines of a process and of others, where it is finished or not
  abbrev with_line : Bool → Process → List Process → Option Bytes
  with_line b p ps =
      elim b [ true ↦ process_lines n names m s ps | _ ↦ both_texts (process_line n names m s p) (process_lines n names m s ps) ]

  -- finished processes have no line
  lines_live : (ps : List Process) → process_lines n names m s (filter (λ p. not (is_finished p.status)) ps) ≡ process_lines n names m s ps
  lines_live [] = refl
  lines_live (p ∷ ps) = go (is_finished p.status) refl (lines_live ps)
    where
      go : (b : Bool) → is_finished p.status ≡ b
          → process_lines n names m s (filter (λ p. not (is_finished p.status)) ps) ≡ process_lines n names m s ps
          → process_lines n names m s (cond (not b) (p ∷ filter (λ p. not (is_finished p.status)) ps)
          (filter (λ p. not (is_finished p.status)) ps)) ≡ with_line b p ps
      go true e h = h
      go false e h =
          ap (λ (b : Bool). with_line b p (filter (λ p. not (is_finished p.status)) ps)) e ∙ ap (both_texts (process_line n names m s p)) h

  -- one line more
  lines-append : (ps : List Process) (p : Process) → IsLive p
      → both_texts (process_lines n names m s ps) (process_line n names m s p) ≡ process_lines n names m s (ps ++ p ∷ [])
  lines-append [] p h = nil-both _ ∙ sym (both-nil _) ∙ sym (ap (λ (b : Bool). with_line b p []) h)
  lines-append (q ∷ ps) p h = go (is_finished q.status) (lines-append ps p h)
    where
      go : (b : Bool) → both_texts (process_lines n names m s ps) (process_line n names m s p) ≡ process_lines n names m s (ps ++ p ∷ [])
          → both_texts (with_line b q ps) (process_line n names m s p) ≡ with_line b q (ps ++ p ∷ [])
      go true i = i
      go false i = both-assoc _ _ _ ∙ ap (both_texts (process_line n names m s q)) i

-- one of these processes, with its address and the places on which it waits
process_at : (book : Book) (s : State) (qs : List ℕ) (waits : List (List ℕ)) (ys : List Process) (i d : ℕ) (e : List ℕ) → AllAt book s qs ys
    → AllZip (λ as' x. AreWaits book as' x.status) waits ys → Each IsLive ys → i < length qs
    → (y : Process) × ProcessAt book s (get_or qs i d) y × AreWaits book (get_or waits i e) y.status × IsLive y
    × (take (i + 1) ys ≡ take i ys ++ y ∷ [])
process_at book s [] waits ys i d e at zip lives l = absurd (omega arith)
process_at book s (q ∷ qs) waits [] i d e at zip lives l = absurd at
process_at book s (q ∷ qs) [] (y ∷ ys) i d e at zip lives l = absurd zip
process_at book s (q ∷ qs) (as' ∷ waits) (y ∷ ys) zero d e at zip lives l = (y, at.0, zip.0, lives.0, refl)
process_at book s (q ∷ qs) (as' ∷ waits) (y ∷ ys) (suc i) d e at zip lives l =
    let r = process_at book s qs waits ys i d e at.1 zip.1 lives.1 (omega arith) in
    let k : suc i + 1 ≡ suc (i + 1) = omega arith in
    (r.0, r.1, r.2, r.3, ap (λ (j : ℕ). take j (y ∷ ys)) k ∙ ap (λ zs. y ∷ zs) r.4)

all_at_long : (book : Book) (s : State) (qs : List ℕ) (ys : List Process) → AllAt book s qs ys → length qs ≡ length ys
all_at_long book s [] [] h = refl
all_at_long book s [] (y ∷ ys) h = absurd h
all_at_long book s (q ∷ qs) [] h = absurd h
all_at_long book s (q ∷ qs) (y ∷ ys) h = ap suc (all_at_long book s qs ys h.1)

-- the lines of the first i processes
abbrev pub LinesSoFar : List Bytes → Program → (ℕ → ℕ → Type 0) → List ℕ → List (List ℕ) → ℕ → Bytes → Bytes → Type 0
LinesSoFar names m gave qs waits i old new = (w : Words) (book : Book) (s : State) → HasGiven gave w → AreProcessesThere w book s qs waits
    → Adds old new (λ n. process_lines n names m s.bound (take i (live s)))

module _ {S : Type 0} {addresses : S → ℕ} {sound : S → Type 0} {knows : S → ℕ → Type 0} {had : S → ℕ → ℕ → Type 0} {leads : S → ℕ → Type 0}
    {own shown : S → ℕ → Option ℕ} {later : S → S → Type 0} {gave : S → S → ℕ → ℕ → Type 0}
    (laws : WordsLaws {S = S} addresses sound knows had leads own shown later gave) where
  -- words that have what the loads gave have what was kept
  kept_given : {kept binds : WordList} {v w : S} (u : Words) → KeepsLoads sound had leads later gave [] [] v kept binds w
      → HasGiven (gave v w) u → HasKept kept u
  kept_given u l has a x e =
      ⊎_elim (λ (i : None ≡ Some x). absurd (none-some x i)) (λ i. has a x i.0 i.1) (l.went.given a x e)

  pub line_next : {kept binds : WordList} {u v w : S} (names : List Bytes) (m : Program) (qs : List ℕ) (waits : List (List ℕ)) (i d : ℕ)
      (e : List ℕ) (one two three : Bytes) → i < length qs → later u v → KeepsLoads sound had leads later gave [] [] v kept binds w
      → LinesSoFar names m (gave u v) qs waits i one two
      → ProcessLine names m kept (get_or qs i d) (get_or waits i e) two three → LinesSoFar names m (gave u w) qs waits (i + 1) one three
  line_next {u = u} {v = v} {w = w} names m qs waits i d e one two three l b loaded so line ws book s has is =
      let r = process_at book s qs waits (live s) i d e is.at is.places (live_only s.processes) l in
      adds_both _ _ _ one two three
      (so ws book s (λ a x g low. has a x (laws.gave_before u v w a x g loaded.went.between) low) is)
      (line ws book s r.0 (kept_given ws loaded (λ a x g low. has a x (laws.gave_after u v w a x b g) low))
      (record { stands = is.stands; at = r.1; places = r.2 }))
      (λ n. lines-append n names m s.bound (take i (live s)) r.0 r.3 ∙ sym (ap (process_lines n names m s.bound) r.4))

-- all of them
pub lines_all : (names : List Bytes) (m : Program) (gave : ℕ → ℕ → Type 0) (qs : List ℕ) (waits : List (List ℕ)) (i : ℕ) (one two : Bytes)
    → length qs ≤ i → LinesSoFar names m gave qs waits i one two → ProcessLines names m gave qs waits one two
lines_all names m gave qs waits i one two l so w book s has is =
    let a = so w book s has is in
    let all : take i (live s) ≡ live s = take_all i (live s) (omega (arith, l, all_at_long book s qs (live s) is.at)) in
    record {
      added = a.added;
      behind = a.behind;
      given = (
        a.given.0,
        λ k j. sym (ap (process_lines k names m s.bound) all ∙ lines_live k names m s.bound s.processes) ∙ a.given.1 k j,
      );
    }

-- the places of one process are known
pub each_at : {A : Type 0} (P : A → Type 0) (xs : List A) (i : ℕ) (d : A) → EachOf P xs → i < length xs → P (get_or xs i d)
each_at P [] i d h l = absurd (omega arith)
each_at P (x ∷ xs) zero d h l = h.0
each_at P (x ∷ xs) (suc i) d h l = each_at P xs i d h.1 (omega arith)
