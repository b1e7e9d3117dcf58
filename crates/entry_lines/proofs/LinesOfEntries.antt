-- The lines of entries are those that the definitions give.
use Rattle.std.proofs.Common.{◌≡◌, ℕ, zero, suc, ◌+◌, ◌<◌, true, List, [], ◌∷◌, ◌++◌, length, take, map, get_or, Some, refl, sym, ap, ◌∙◌}
use Rattle.std.proofs.Common.{subst, inl, inr, ⊎_elim, arith, append_assoc, true≢false}
use Rattle.std.specs.Prelude.{◌↔◌, slice_get, option_map, codes, decimal}
use Rattle.std.specs.List.{AllZip}
use Rattle.std.proofs.lemmas.List.{take_more}
use Rattle.std.proofs.lemmas.Slice.Zip.{all_zipped_more}
use Rattle.fcp_model.specs.declared.run.Place.{Place}
use Rattle.fcp_model.specs.declared.run.Proc.{Proc}
use Rattle.fcp_model.specs.declared.run.Entry.{Entry}
use Rattle.fcp_model.specs.Places.{Variable, made, is_listed}
use Rattle.fcp_model.specs.Terms.{Term, find, rename, settle}
use Rattle.fcp_model.specs.States.{Process, State}
use Rattle.fcp_model.specs.Events.{Event, made_ready}
use Rattle.fcp_model.specs.Spelling.{Bytes, process_text}
use Rattle.fcp_model.specs.LogText.{bound_places_text, woken_text, entry_text, event_line}
use Rattle.fcp_model.specs.LogLines.{hang_line}
use Rattle.heap_words.specs.Trails.{WordList, word_at}
use Rattle.word_states.specs.Words.{Words, IsIn}
use Rattle.word_states.specs.Denoting.{Addresses, Listed}
use Rattle.word_states.specs.Standing.{Book, ProcessAt, PlaceAt}
use Rattle.word_states.specs.Trials.{AreAt, places_bound}
use Rattle.word_states.specs.Going.{AllAt}
use Rattle.entry_lines.specs.Additions.{Gives}
use Rattle.entry_lines.specs.Lines.{CommitLine, IsCommitThere, HangLine}
use Rattle.entry_lines.specs.Reading.{NamesPlace, NamesSet}
use Rattle.entry_lines.specs.Texts.{bound_texts, AddsAllBound, AddsProcesses}
use Rattle.entry_lines.specs.Waits.{AreByAge}
use Rattle.entry_lines.proofs.Agreeing.{wherever_later}
use Rattle.entry_lines.proofs.Adding.{gives_map, gives_same}
use Rattle.entry_lines.proofs.BoundTexts.{gives_refined, bound_refine}
use Rattle.entry_lines.proofs.ByAge.{first_listed, more_listed, listed_either, among_by_age, one_list}
use Rattle.entry_lines.proofs.OnePlace.{bound_once}

-- an element of a list
pub in_list : (as' : List ℕ) (i d : ℕ) → i < length as' → IsIn (get_or as' i d) as'
in_list [] i d h = absurd (omega arith)
in_list (a ∷ as') zero d h = inl refl
in_list (a ∷ as') (suc i) d h = inr (in_list as' i d (omega arith))

-- places and processes at addresses, one by one
places_zip : (vs : Addresses) (as' : List ℕ) (js : List Place) → AreAt vs as' js → AllZip (λ a j. Listed vs (made j) a) as' js
places_zip vs [] [] h = tt
places_zip vs [] (j ∷ js) h = absurd h
places_zip vs (a ∷ as') [] h = absurd h
places_zip vs (a ∷ as') (j ∷ js) h = (h.0, places_zip vs as' js h.1)

processes_zip : (book : Book) (s : State) (qs : List ℕ) (ys : List Process) → AllAt book s qs ys
    → AllZip (λ q y. ProcessAt book s q y) qs ys
processes_zip book s [] [] h = tt
processes_zip book s [] (y ∷ ys) h = absurd h
processes_zip book s (q ∷ qs) [] h = absurd h
processes_zip book s (q ∷ qs) (y ∷ ys) h = (h.0, processes_zip book s qs ys h.1)

names_ready : (ys : List Process) → map (λ (y : Process). y.name) (map made_ready ys) ≡ map (λ (y : Process). y.name) ys
names_ready [] = refl
names_ready (y ∷ ys) = ap (λ l. y.name ∷ l) (names_ready ys)

-- the text of a commit, of which this is said of what was bound
abbrev commit_text : Proc → ℕ → Bytes → List Proc → Bytes
commit_text process clause shown woken = codes "commit " ++ process_text process ++ codes " " ++ decimal clause ++ shown ++ woken_text woken

-- the line of an entry with this text
abbrev line_of : ℕ → Bytes → Bytes
line_of entry text = decimal entry ++ codes " " ++ text ++ codes "\n"

-- a commit's line
module _ (names : List Bytes) (w : Words) (book : Book) (ev : Event) (entry : ℕ) (process : Proc) (clause : ℕ) (bound woken : List ℕ)
    (is : IsCommitThere w book ev entry process clause bound woken) where
  bound_given : (x : Bytes) → Gives (λ n. bound_texts n names ev.after.bound (places_bound ev.bindings)) x
      → Gives (λ n. bound_places_text n names ev.after.bound ev.after.entries ev.bindings) x
  bound_given x g =
      gives_refined (λ n. bound_texts n names ev.after.bound (places_bound ev.bindings)) _ x
      (λ n. bound_refine names ev.after.bound ev.after.entries n ev.bindings settled) g
    where
      settled : (k : ℕ) (j : Place) (t : Term Variable) → slice_get ev.bindings k ≡ Some (made j, t)
          → find ev.after.bound (made j) ≡ Some (rename (settle ev.after.entries) t)
      settled k j t e =
          subst (λ (n : ℕ). find ev.after.bound (made j) ≡ Some (rename (settle n) t)) (sym is.number)
          (is.settled j t (bound_once ev.bindings is.once k j t e))

  commit_given : (x : Bytes) → Gives (λ n. bound_places_text n names ev.after.bound ev.after.entries ev.bindings) x
      → Gives (λ n. event_line n names ev) (line_of entry (commit_text process clause x (map (λ (y : Process). y.name) ev.woken)))
  commit_given x g =
      subst (λ (n : ℕ). Gives (λ k. event_line k names ev)
      (line_of n (commit_text process clause x (map (λ (y : Process). y.name) ev.woken)))) is.number
      (gives_same _ (λ n. event_line n names ev) _
      (λ n. sym (ap (λ (e : Entry). option_map (line_of ev.after.entries) (entry_text n names ev e)) is.is))
      (gives_map _ (line_of ev.after.entries) _
      (gives_map _ (λ y. commit_text process clause y (map (λ (y : Process). y.name) ev.woken)) x g)))

-- piece by piece
pub commit_adds : (names : List Bytes) (kept kept' : WordList) (entry : ℕ) (process : Proc) (clause : ℕ) (bound woken : List ℕ)
    (t0 t1 t2 t3 t4 t5 t6 t7 t8 : Bytes) → ((a x : ℕ) → word_at kept a ≡ Some x → word_at kept' a ≡ Some x)
    → t1 ≡ t0 ++ decimal entry → t2 ≡ t1 ++ codes " commit " → t3 ≡ t2 ++ process_text process → t4 ≡ t3 ++ codes " "
    → t5 ≡ t4 ++ decimal clause → AddsAllBound kept names bound t5 t6 → AddsProcesses kept' woken_text woken t6 t7
    → t8 ≡ t7 ++ codes "\n" → CommitLine names kept' entry process clause bound woken t0 t8
commit_adds names kept kept' entry process clause bound woken t0 t1 t2 t3 t4 t5 t6 t7 t8 up e1 e2 e3 e4 e5 f g e8 w book ev has is =
    let a = f w book ev.after (λ b x i. has b x (up b x i)) is.stands (places_bound ev.bindings)
    (places_zip book.places bound (places_bound ev.bindings) is.places) in
    let e7 = g w book ev.after has is.stands (map made_ready ev.woken)
    (processes_zip book ev.after woken (map made_ready ev.woken) is.woken_at) in
    record {
      added = line_of entry (commit_text process clause a.added (map (λ (y : Process). y.name) ev.woken));
      behind = e8 ∙ ap (λ (l : Bytes). l ++ codes "\n") (e7 ∙ ap (λ (l : List Proc). t6 ++ woken_text l) (names_ready ev.woken)
          ∙ ap (λ (l : Bytes). l ++ woken_text (map (λ (y : Process). y.name) ev.woken)) (a.behind
          ∙ ap (λ (l : Bytes). l ++ a.added) (e5 ∙ ap (λ (l : Bytes). l ++ decimal clause)
          (e4 ∙ ap (λ (l : Bytes). l ++ codes " ") (e3 ∙ ap (λ (l : Bytes). l ++ process_text process)
          (e2 ∙ ap (λ (l : Bytes). l ++ codes " commit ") e1)))))) ∙ simp append_assoc refl;
      given = commit_given names w book ev entry process clause bound woken is a.added
          (bound_given names w book ev entry process clause bound woken is a.added a.given);
    }

-- the names of some places
named_later : (kept kept' : WordList) → ((a x : ℕ) → word_at kept a ≡ Some x → word_at kept' a ≡ Some x)
    → (as' : List ℕ) (js : List Place) → AllZip (NamesPlace kept) as' js → AllZip (NamesPlace kept') as' js
named_later kept kept' up [] [] h = tt
named_later kept kept' up [] (j ∷ js) h = absurd h
named_later kept kept' up (a ∷ as') [] h = absurd h
named_later kept kept' up (a ∷ as') (j ∷ js) h =
    (wherever_later (λ book s. (i : Place) → PlaceAt book i a → j ≡ i) kept kept' up h.0, named_later kept kept' up as' js h.1)

pub named_more : (kept kept' : WordList) → ((a x : ℕ) → word_at kept a ≡ Some x → word_at kept' a ≡ Some x)
    → (as' : List ℕ) (i d : ℕ) (js : List Place) (j : Place) → i < length as' → AllZip (NamesPlace kept) (take i as') js
    → NamesPlace kept' (get_or as' i d) j → AllZip (NamesPlace kept') (take (i + 1) as') (js ++ j ∷ [])
named_more kept kept' up as' i d js j l h n =
    subst (λ (bs : List ℕ). AllZip (NamesPlace kept') bs (js ++ j ∷ [])) (sym (take_more as' i d l))
    (all_zipped_more (NamesPlace kept') (take i as') js (get_or as' i d) j (named_later kept kept' up (take i as') js h) n)

-- each address has its name, and each name its address
name_of : (kept : WordList) (as' : List ℕ) (js : List Place) → AllZip (NamesPlace kept) as' js → (a : ℕ) → IsIn a as'
    → (j : Place) × NamesPlace kept a j × (is_listed j js ≡ true)
name_of kept [] js h a i = absurd i
name_of kept (b ∷ as') [] h a i = absurd h
name_of kept (b ∷ as') (j ∷ js) h a i =
    ⊎_elim (λ (e : b ≡ a). (j, subst (λ (c : ℕ). NamesPlace kept c j) e h.0, first_listed j js))
    (λ (k : IsIn a as'). let r = name_of kept as' js h.1 a k in (r.0, r.1, more_listed j r.0 js r.2)) i

address_of : (kept : WordList) (as' : List ℕ) (js : List Place) → AllZip (NamesPlace kept) as' js → (j : Place) → is_listed j js ≡ true
    → (a : ℕ) × NamesPlace kept a j × IsIn a as'
address_of kept [] [] h j i = absurd (true≢false (sym i))
address_of kept [] (k ∷ js) h j i = absurd h
address_of kept (a ∷ as') [] h j i = absurd h
address_of kept (a ∷ as') (k ∷ js) h j i =
    ⊎_elim (λ (e : k ≡ j). (a, subst (λ (p : Place). NamesPlace kept a p) e h.0, inl refl))
    (λ (m : is_listed j js ≡ true). let r = address_of kept as' js h.1 j m in (r.0, r.1, inr r.2)) (listed_either k j js i)

-- what was sorted is the waiting set
pub set_named : (kept : WordList) (waits : List ℕ) (found sorted : List Place) → AllZip (NamesPlace kept) waits found
    → ((j : Place) → (is_listed j found ≡ true) ↔ (is_listed j sorted ≡ true)) → AreByAge sorted → NamesSet kept waits sorted
set_named kept waits found sorted named same by_age w book s has stands set reads places is =
    one_list sorted set by_age (subst AreByAge (sym is) (among_by_age reads)) among all
  where
    among : (j : Place) → is_listed j sorted ≡ true → is_listed j set ≡ true
    among j i =
        let r = address_of kept waits found named j ((same j).1 i) in
        let k = places.only r.0 r.2 in
        subst (λ (p : Place). is_listed p set ≡ true) (sym (r.1 w book s has stands k.0 k.1)) k.2

    all : (j : Place) → is_listed j set ≡ true → is_listed j sorted ≡ true
    all j i =
        let k = places.all j i in
        let r = name_of kept waits found named k.0 k.2 in
        (same j).0 (subst (λ (p : Place). is_listed p found ≡ true) (r.1 w book s has stands j k.1) r.2)

-- a hang's line
pub hang_adds : (names : List Bytes) (kept : WordList) (entry : ℕ) (process : Proc) (waits : List ℕ) (sorted : List Place)
    (old new : Bytes) → NamesSet kept waits sorted → new ≡ old ++ hang_line entry process sorted
    → HangLine names kept entry process waits old new
hang_adds names kept entry process waits sorted old new named behind w book ev has is = record {
  added = hang_line entry process ev.waits_for;
  behind = behind ∙ ap (λ (l : List Place). old ++ hang_line entry process l)
      (named w book ev.after has is.stands ev.waits_for is.by_age.0 is.places is.by_age.1);
  given = (
    0,
    λ k h. ap (λ (e : Entry). option_map (line_of ev.after.entries) (entry_text k names ev e)) is.is
        ∙ ap (λ (n : ℕ). Some (hang_line n process ev.waits_for)) is.number,
  );
}
