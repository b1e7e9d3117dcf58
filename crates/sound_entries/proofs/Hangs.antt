-- The writes of a hang are sound.
use Rattle.std.proofs.Common.{◌≡◌, ◌⊎◌, ℕ, ◌++◌, length, sym, Some}
use Rattle.heap_words.specs.Heaps.{inside_at}
use Rattle.heap_words.specs.Trails.{WordList}
use Rattle.word_states.specs.Words.{Words, Among, IsIn, addresses_of, over}
use Rattle.word_states.specs.Led.{ReadsPlace}
use Rattle.word_states.specs.Layouts.{HangLaid}
use Rattle.word_states.specs.Planning.{hang_writes, IsHangPlanned}
use Rattle.word_states.proofs.Lists.{addresses_among}
use Rattle.word_state_laws.proofs.HangPlans.{hang_laid}
use Rattle.sound_entries.specs.Closed.{AreClosed, Stands}
use Rattle.sound_entries.specs.Sound.{IsSound}
use Rattle.sound_entries.specs.EntryWrites.{IsHangWrites}
use Rattle.sound_entries.proofs.Heaps.{heap_closed, has_below, writes_heap, after_words, closed_less}
use Rattle.sound_entries.proofs.Ranking.{no_cycle}
use Rattle.sound_entries.proofs.Ordering.{ordered}
use Rattle.sound_entries.proofs.Commits.{closed_writes}
use Rattle.sound_entries.proofs.LaidHangs.{final_stays}
use Rattle.sound_entries.proofs.HangClosing.{hang_closed, hang_falls, hang_link}
use Rattle.std.proofs.Common.{inr, subst}

module _ (reads : WordList) (entry : ℕ → ℕ) (n p : ℕ) (lists tops : WordList) (c : IsHangWrites reads entry n p lists tops) where
  unbound : (a : ℕ) → IsIn a (addresses_of lists) → (e : ℕ) × ReadsPlace reads a e
  unbound a h = let r = addresses_among lists a h in (r.0, c.places a r.0 r.1)

  laid_over : (w : Words) → ((a x : ℕ) → Among reads (a, x) → w a ≡ Some x) → IsHangPlanned entry n p lists tops w
      → HangLaid entry n p (addresses_of lists) w (over (hang_writes entry n p lists tops) w)
  laid_over w has plan =
      hang_laid entry n p lists tops w plan (c.parent.0, has p c.parent.0 c.parent.2) (λ a e h. let r = c.places a e h in
      (r.0, has a r.0 r.1, r.2))

  pub hang_sound : IsSound reads (hang_writes entry n p lists tops)
  hang_sound = record {
    heap = λ ws heap has follow.
        let laid = laid_over (inside_at ws) has (c.plan ws heap.small has follow) in
        let closed : AreClosed (Stands (inside_at ws)) (inside_at ws) = heap_closed ws heap in
        writes_heap ws (hang_writes entry n p lists tops) heap follow
        (closed_less (λ a x. (inside_at ws a ≡ Some x) ⊎ (over (hang_writes entry n p lists tops) (inside_at ws) a ≡ Some x))
        (Stands (over (hang_writes entry n p lists tops) (inside_at ws))) (over (hang_writes entry n p lists tops) (inside_at ws))
        (hang_closed entry n p (addresses_of lists) (inside_at ws) (over (hang_writes entry n p lists tops) (inside_at ws)) laid reads
        has c.parent unbound (Stands (inside_at ws)) closed) (λ a x e. inr e) (λ a x e. e))
        (no_cycle (over (hang_writes entry n p lists tops) (inside_at ws))
        (hang_falls entry n p (addresses_of lists) (inside_at ws) (over (hang_writes entry n p lists tops) (inside_at ws)) laid reads has
        c.parent unbound (length ws) (has_below ws) closed heap.no_cycle)
        (ordered (inside_at ws) (over (hang_writes entry n p lists tops) (inside_at ws)) (length ws) (has_below ws) heap.no_cycle
        (final_stays entry n p (addresses_of lists) (inside_at ws) (over (hang_writes entry n p lists tops) (inside_at ws)) laid reads
        has c.parent unbound)
        (hang_link entry n p (addresses_of lists) (inside_at ws) (over (hang_writes entry n p lists tops) (inside_at ws)) laid reads has
        c.parent unbound closed)));
    closed = λ ever ws small closed has follow.
        let plan = c.plan ws small has follow in
        let laid = laid_over (inside_at ws) has plan in
        subst (λ (v : Words). AreClosed (λ a x. Among (ever ++ hang_writes entry n p lists tops) (a, x)) v)
        (sym (after_words ws (hang_writes entry n p lists tops) follow))
        (closed_writes ever (hang_writes entry n p lists tops) (inside_at ws) plan.apart closed.now
        (hang_closed entry n p (addresses_of lists) (inside_at ws) (over (hang_writes entry n p lists tops) (inside_at ws)) laid reads
        has c.parent unbound (λ a x. Among ever (a, x)) closed));
  }
