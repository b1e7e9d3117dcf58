use Rattle.std.proofs.Common.{◌≡◌, ◌∙◌, List, refl, sym, ap, subst}
use Rattle.heap_words.specs.Heaps.{inside_at}
use Rattle.heap_words.specs.Trails.{WordList}
use Rattle.word_states.specs.Words.{HasAll}
use Rattle.word_states.specs.Writing.{MayWrite}
use Rattle.sound_entries.specs.Sound.{IsSound}
use Rattle.page_layout.specs.declared.written.Written.{Written}
use Rattle.page_layout.specs.Writing.{written}
use Rattle.commit_engine.specs.Holding.{pages_of, ArePlaced}
use Rattle.commit_engine.proofs.prepared.prepare.Goals as goal

pub returns : goal.returns
returns c =
    let pl = c.args.planner.now in
    let kept : c.in-Ok.reads.items ≡ pl.machine.trail.kept = c.in-Ok.ensures ∙ c.kept_words.ensures in
    let writes : c.replace-writes.result.items ≡ pl.writes.items = rw c.replace-writes.ensures.value refl in
    let placed = rw c.in-Ok-Some.field-0-is at c.in-Ok-Some.ensures in
    record {
      is_entry = record {
        pages_are = c.in-Ok-needed_pages.ensures ∙ ap (λ (r : WordList). pages_of r c.as_slice-2.result.now) c.as_slice.ensures.value
            ∙ ap (λ (w : List Written). pages_of c.in-Ok.reads.items w) (c.as_slice-2.ensures.value ∙ sym writes);
        placed = subst (λ (w : List Written). ArePlaced c.in-Ok.reads.items w c.in-Ok-Some.places.items)
            (c.as_slice-3.ensures.value ∙ sym writes)
            (subst (λ (r : WordList). ArePlaced r c.as_slice-3.result.now c.in-Ok-Some.places.items) (sym kept) placed);
        is_sound = λ n lt. subst (λ (w : List Written). IsSound c.in-Ok.reads.items (written n w)) (sym writes)
            (subst (λ (r : WordList). IsSound r (written n pl.writes.items)) (sym kept) (c.requires.sound n lt));
        may = λ n ws lt heap has. subst (λ (w : List Written). MayWrite ws (written n w)) (sym writes)
            (c.requires.may n ws lt heap (subst (λ (r : WordList). HasAll r (inside_at ws)) kept has));
      };
      carried = record {
        process = refl;
        entry = refl;
        reads = sym kept;
        writes = λ n. ap (λ (w : List Written). written n w) (sym writes);
        cells = refl;
      };
      address = refl;
      tells = record { entry = refl; children = refl; woken = refl; bound = refl; waits = refl };
    }
