-- The line of a process is the one that the definitions give.
use Rattle.std.proofs.Common.{◌≡◌, ℕ, List, ◌++◌, Option, Some, refl, sym, ap, ap₂, ◌∙◌, append_assoc, arith}
use Rattle.std.specs.Prelude.{codes}
use Rattle.fcp_model.specs.declared.run.Place.{Place}
use Rattle.fcp_model.specs.declared.run.Proc.{Proc}
use Rattle.fcp_model.specs.Programs.{Program}
use Rattle.fcp_model.specs.States.{Status, ready, waiting, finished}
use Rattle.fcp_model.specs.Spelling.{Bytes, process_text}
use Rattle.fcp_model.specs.LogText.{places_text}
use Rattle.fcp_model.specs.ReportText.{status_text}
use Rattle.heap_words.specs.Cells.{decoded}
use Rattle.heap_words.specs.Trails.{WordList}
use Rattle.heap_words.specs.declared.cell.Cell.{Cell}
use Rattle.heap_words.specs.declared.cell.Cell.TheVariants as cell
use Rattle.heap_words.specs.declared.cell.Stand.{Stand}
use Rattle.heap_words.specs.declared.cell.Stand.TheVariants as stand
use Rattle.word_states.specs.Words.{Words}
use Rattle.word_states.specs.Standing.{StatusSays}
use Rattle.leading_texts.proofs.Goals.{goal_on}
use Rattle.entry_lines.specs.Lines.{HasKept}
use Rattle.entry_lines.specs.Reading.{NamesProcess, NamesSet}
use Rattle.entry_lines.proofs.Adding.{gives_map}
use Rattle.process_texts.specs.Lines.{AreWaits, ProcessLine}
use Rattle.process_texts.specs.Reading.{CellRead}
use Rattle.process_texts.specs.Texts.{stand_text, AddsGoal}

same_stand : (d e : Stand) → Some (cell.Status d) ≡ Some (cell.Status e) → d ≡ e
same_stand d e h = cc

-- the stand that a status says
stand_said : (limit x : ℕ) (t : Status) → StatusSays limit x t → (d : Stand) × (decoded x ≡ Some (cell.Status d))
stand_said limit x ready h = (stand.Ready, h)
stand_said limit x finished h = (stand.Done, h)
stand_said limit x (waiting ps) h = (stand.Waiting h.0, h.1)

-- what a line says of it, with the places
status_said : (limit x : ℕ) (d : Stand) (places : List Place) (t : Status) → StatusSays limit x t → decoded x ≡ Some (cell.Status d)
    → ((ps : List Place) → t ≡ waiting ps → places ≡ ps) → stand_text d places ≡ status_text t
status_said limit x d places ready h e same = ap (λ (s : Stand). stand_text s places) (same_stand d stand.Ready (sym e ∙ h))
status_said limit x d places finished h e same = ap (λ (s : Stand). stand_text s places) (same_stand d stand.Done (sym e ∙ h))
status_said limit x d places (waiting ps) h e same =
    ap (λ (s : Stand). stand_text s places) (same_stand d (stand.Waiting h.0) (sym e ∙ h.1))
    ∙ ap (λ (qs : List Place). codes " waits" ++ places_text qs) (same ps refl)

-- of words that stand for a process there
module _ (names : List Bytes) (m : Program) (kept : WordList) (p : ℕ) (waits : List ℕ) where
  -- its status is none that is not read as one
  pub no_status : (c : Option Cell) (old new : Bytes) → CellRead kept p c → ((d : Stand) → c ≡ Some (cell.Status d) → ⊥)
      → ProcessLine names m kept p waits old new
  no_status c old new read never w book s x has is =
      let r = (is.stands.process p x is.at).status in
      let d = stand_said s.entries r.0 x.status r.2 in
      absurd (never d.0 (sym (read w r.0 has r.1) ∙ d.1))

  pub line_added : (q : Proc) (d : Stand) (places : List Place) (t0 t1 t2 t3 t4 t5 : Bytes)
      → ((w : Words) → HasKept kept w → (y : ℕ) → w p ≡ Some y → decoded y ≡ Some (cell.Status d))
      → NamesProcess kept p q → NamesSet kept waits places → t1 ≡ t0 ++ process_text q → t2 ≡ t1 ++ stand_text d places
      → t3 ≡ t2 ++ codes ": " → AddsGoal kept names m p t3 t4 → t5 ≡ t4 ++ codes "\n" → ProcessLine names m kept p waits t0 t5
  line_added q d places t0 t1 t2 t3 t4 t5 status name set e1 e2 e3 goal e5 w book s x has is =
      let r = (is.stands.process p x is.at).status in
      let says = status_said s.entries r.0 d places x.status r.2 (status w has r.0 r.1) (these x.status is.places) in
      let called : q ≡ x.name = name w book s has is.stands x is.at in
      let stands = (is.stands.process p x is.at).goal in
      let a = goal w book.places is.stands.short has is.stands.says stands.goal stands.says in
      record {
        added = process_text x.name ++ status_text x.status ++ codes ": " ++ a.added ++ codes "\n";
        behind = e5 ∙ ap (λ (l : Bytes). l ++ codes "\n") (a.behind ∙ ap (λ (l : Bytes). l ++ a.added)
            (e3 ∙ ap (λ (l : Bytes). l ++ codes ": ") (e2 ∙ ap₂ (λ (l k : Bytes). l ++ k)
            (e1 ∙ ap (λ (z : Proc). t0 ++ process_text z) called) says))) ∙ simp append_assoc refl;
        given = gives_map _ (λ y. process_text x.name ++ status_text x.status ++ codes ": " ++ y ++ codes "\n") a.added
            (goal_on names s.bound is.stands.short is.stands.shortened m a.given.0 x.goal stands.goal a.added stands.leads
            (a.given.1 a.given.0 (omega arith)));
      }
    where
      these : (t : Status) → AreWaits book waits t → (ps : List Place) → t ≡ waiting ps → places ≡ ps
      these ready h ps e = cc
      these finished h ps e = cc
      these (waiting qs) h ps e =
          let same : qs ≡ ps = cc in set w book s has is.stands qs h.1.0 h.0 h.1.1 ∙ same
