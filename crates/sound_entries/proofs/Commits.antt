-- The writes of a commit are sound.
use Rattle.std.proofs.Common.{◌≡◌, ◌⊎◌, ℕ, ◌<◌, List, ◌++◌, length, refl, sym, ap, ◌∙◌, subst, ⊎_elim, inl, inr, arith, Option, Some, None}
use Rattle.heap_words.specs.Heaps.{inside_at}
use Rattle.heap_words.specs.Trails.{WordList, word_at}
use Rattle.word_states.specs.Planning.{commit_writes}
use Rattle.word_states.specs.Words.{Words, Among, over, first_of, AreApart}
use Rattle.word_states.proofs.Lists.{among_left, among_right, among_either, word_among, apart_word}
use Rattle.word_state_laws.proofs.CommitPlans.{commit_laid}
use Rattle.sound_entries.specs.Closed.{AreClosed, Stands}
use Rattle.sound_entries.specs.EntryWrites.{IsCommitWrites}
use Rattle.sound_entries.specs.Sound.{IsSound}
use Rattle.sound_entries.proofs.Closing.{commit_closed, final_stays}
use Rattle.sound_entries.proofs.Heaps.{heap_closed, has_below, writes_heap, after_words, closed_less}
use Rattle.sound_entries.proofs.Ranking.{tame_falls, not_own, no_cycle}
use Rattle.sound_entries.proofs.Ordering.{ordered}
use Rattle.sound_entries.proofs.Relaying.{commit_falls, commit_link}

-- what stood, and the words after writes, are those that stood and the writes
pub closed_writes : (ever : WordList) (xs : WordList) (w : Words) → AreApart xs → ((a x : ℕ) → w a ≡ Some x → Among ever (a, x))
    → AreClosed (λ a x. Among ever (a, x) ⊎ (over xs w a ≡ Some x)) (over xs w) → AreClosed (λ a x. Among (ever ++ xs) (a, x)) (over xs w)
closed_writes ever xs w apart now closed =
    closed_less (λ a x. Among ever (a, x) ⊎ (over xs w a ≡ Some x)) (λ a x. Among (ever ++ xs) (a, x)) (over xs w) closed
    (λ a x h. ⊎_elim (λ (k : Among ever (a, x)). inl k) (λ (k : Among xs (a, x)). inr
    (ap (λ (o : Option ℕ). first_of o (w a)) (apart_word xs a x apart k))) (among_either ever xs (a, x) h))
    (λ a x e. go a x (word_at xs a) refl e)
  where
    go : (a x : ℕ) (o : Option ℕ) → word_at xs a ≡ o → first_of o (w a) ≡ Some x → Among (ever ++ xs) (a, x)
    go a x (Some y) i e = among_right ever xs (a, x) (word_among xs a x (i ∙ e))
    go a x None i e = among_left ever xs (a, x) (now a x e)

module _ (reads : WordList) (f : ℕ → ℕ) (n p : ℕ) (binds : WordList) (ps : List (List ℕ)) (wakes : List ℕ) (tops : WordList)
    (c : IsCommitWrites reads f n p binds ps wakes tops) where
  abbrev xs : WordList
  xs = commit_writes f n p binds ps wakes tops

  pub commit_sound : IsSound reads (commit_writes f n p binds ps wakes tops)
  commit_sound = record {
    heap = λ ws heap has follow.
        let w : Words = inside_at ws in
        let plan = c.plan ws heap.small has follow in
        let low : (a x : ℕ) → inside_at ws a ≡ Some x → a < 4000000000 = (λ a x e. let l = has_below ws a x e in let s = heap.small in
        omega arith) in
        let closed : AreClosed (Stands (inside_at ws)) (inside_at ws) = heap_closed ws heap in
        let laid = commit_laid f n p binds ps wakes tops (inside_at ws) plan in
        let trial = tame_falls (inside_at ws) (length ws) (has_below ws) low closed heap.no_cycle reads binds ps has c.led c.tame in
        writes_heap ws (commit_writes f n p binds ps wakes tops) heap follow
        (closed_less (λ a x. (inside_at ws a ≡ Some x) ⊎ (over (commit_writes f n p binds ps wakes tops) (inside_at ws) a ≡ Some x))
        (Stands (over (commit_writes f n p binds ps wakes tops) (inside_at ws)))
        (over (commit_writes f n p binds ps wakes tops) (inside_at ws))
        (commit_closed f n p binds ps wakes (inside_at ws) (over (commit_writes f n p binds ps wakes tops) (inside_at ws)) laid reads
        c.led (Stands (inside_at ws)) closed low has c.opened c.parent c.sleepers) (λ a x e. inr e) (λ a x e. e))
        (no_cycle (over (commit_writes f n p binds ps wakes tops) (inside_at ws))
        (commit_falls f n p binds ps wakes (inside_at ws) (over (commit_writes f n p binds ps wakes tops) (inside_at ws)) laid reads
        c.led closed low has c.opened c.parent c.sleepers trial
        (not_own (inside_at ws) (length ws) (has_below ws) low closed heap.no_cycle reads binds ps has c.led c.tame))
        (ordered (inside_at ws) (over (commit_writes f n p binds ps wakes tops) (inside_at ws)) (length ws) (has_below ws) heap.no_cycle
        (final_stays f n p binds ps wakes (inside_at ws) (over (commit_writes f n p binds ps wakes tops) (inside_at ws)) laid reads c.led
        (Stands (inside_at ws)) closed low has c.opened c.parent c.sleepers)
        (commit_link f n p binds ps wakes (inside_at ws) (over (commit_writes f n p binds ps wakes tops) (inside_at ws)) laid reads c.led
        closed low has c.opened c.parent c.sleepers trial
        (not_own (inside_at ws) (length ws) (has_below ws) low closed heap.no_cycle reads binds ps has c.led c.tame))));
    closed = λ ever ws small closed has follow.
        let plan = c.plan ws small has follow in
        let low : (a x : ℕ) → inside_at ws a ≡ Some x → a < 4000000000 = (λ a x e. let l = has_below ws a x e in omega arith) in
        let laid = commit_laid f n p binds ps wakes tops (inside_at ws) plan in
        subst (λ (v : Words). AreClosed (λ a x. Among (ever ++ commit_writes f n p binds ps wakes tops) (a, x)) v)
        (sym (after_words ws (commit_writes f n p binds ps wakes tops) follow))
        (closed_writes ever (commit_writes f n p binds ps wakes tops) (inside_at ws) plan.apart closed.now
        (commit_closed f n p binds ps wakes (inside_at ws) (over (commit_writes f n p binds ps wakes tops) (inside_at ws)) laid reads
        c.led (λ a x. Among ever (a, x)) closed low has c.opened c.parent c.sleepers));
  }
