-- The text of a log.
use Rattle.std.specs.Prelude.{ℕ, List, [], ◌∷◌, ◌++◌, length, Option, Some, None, option_map, codes, decimal, map}
use Rattle.std.specs.List.{flat_map}
use Rattle.fcp_model.specs.declared.run.Place.{Place}
use Rattle.fcp_model.specs.declared.run.Proc.{Proc}
use Rattle.fcp_model.specs.declared.run.Entry.{Entry}
use Rattle.fcp_model.specs.declared.run.Entry.TheVariants.{Commit, Hang, Fail, Snapshot, Suspend, Resume, Abort}
use Rattle.fcp_model.specs.Places.{made, own}
use Rattle.fcp_model.specs.Terms.{rename, settle, Bindings}
use Rattle.fcp_model.specs.Events.{Event}
use Rattle.fcp_model.specs.Spelling.{Bytes, place_text, process_text}
use Rattle.fcp_model.specs.TermText.{cut_text}

-- one text and then another
abbrev pub both_texts : Option Bytes → Option Bytes → Option Bytes
both_texts None b = None
both_texts (Some a) None = None
both_texts (Some a) (Some b) = Some (a ++ b)

-- one ` _a.b=TERM` for a binding of the try, the oldest binding first, with the term's value in the map `bound`, cut
-- after 64 nodes; the clause's new variables are left out
abbrev pub bound_places_text : ℕ → List Bytes → Bindings → ℕ → Bindings → Option Bytes
bound_places_text n names bound entry [] = Some []
bound_places_text n names bound entry ((made p, t) ∷ bs) =
    both_texts (option_map (λ x. codes " " ++ place_text p ++ codes "=" ++ x) (cut_text n names bound 64 (rename (settle entry) t)))
    (bound_places_text n names bound entry bs)
bound_places_text n names bound entry ((own k, t) ∷ bs) = bound_places_text n names bound entry bs

-- processes by name, each behind a space
abbrev pub processes_text : List Proc → Bytes
processes_text ps = flat_map (λ p. codes " " ++ process_text p) ps

-- ` wakes` and the names of the woken processes, where there are any
abbrev pub woken_text : List Proc → Bytes
woken_text [] = []
woken_text (p ∷ ps) = codes " wakes" ++ processes_text (p ∷ ps)

-- places by name, each behind a space
abbrev pub places_text : List Place → Bytes
places_text ps = flat_map (λ p. codes " " ++ place_text p) ps

-- the line of an event without its number and its line feed
abbrev pub entry_text : ℕ → List Bytes → Event → Entry → Option Bytes
entry_text n names ev (Commit p k) =
    option_map (λ bs. codes "commit " ++ process_text p ++ codes " " ++ decimal k ++ bs ++ woken_text (map (λ p. p.name) ev.woken))
    (bound_places_text n names ev.after.bound ev.after.entries ev.bindings)
entry_text n names ev (Hang p) = Some (codes "hang " ++ process_text p ++ places_text ev.waits_for)
entry_text n names ev (Fail p) = Some (codes "fail " ++ process_text p)
entry_text n names ev Snapshot = Some (codes "snapshot")
entry_text n names ev Suspend = Some (codes "suspend")
entry_text n names ev Resume = Some (codes "resume")
entry_text n names ev Abort = Some (codes "abort")

-- `N commit #a.b C ..`, `N hang #a.b ..`, `N fail #a.b`, or `N` and the control's word
abbrev pub event_line : ℕ → List Bytes → Event → Option Bytes
event_line n names ev = option_map (λ x. decimal ev.after.entries ++ codes " " ++ x ++ codes "\n") (entry_text n names ev ev.entry)

-- the lines of some entries, in order
abbrev pub event_lines : ℕ → List Bytes → List Event → Option Bytes
event_lines n names [] = Some []
event_lines n names (ev ∷ evs) = both_texts (event_line n names ev) (event_lines n names evs)

-- the first line of a log that begins with a run
abbrev pub log_head : Bytes
log_head = codes "logix log 1\n"

-- the first line, a line for each entry, and the end with the number of the last entry, or of the first state where there is none
abbrev pub log_text : ℕ → List Bytes → Bytes → ℕ → List Event → Option Bytes
log_text n names head last evs = option_map (λ x. head ++ x ++ codes "end " ++ decimal last ++ codes "\n") (event_lines n names evs)
