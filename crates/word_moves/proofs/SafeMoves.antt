-- A move that is planned is safe: its writes may follow, and are sound.
use Rattle.std.proofs.Common.{ℕ, List, [], sym, subst, inl, arith}
use Rattle.std.proofs.lemmas.List.{append-nil}
use Rattle.heap_words.specs.Heaps.{IsHeap, inside_at}
use Rattle.heap_words.specs.Trails.{WordList}
use Rattle.heap_words.specs.declared.cell.Stand.TheVariants.{Ready}
use Rattle.word_states.specs.Words.{Among}
use Rattle.word_states.specs.Led.{ReadsStatus}
use Rattle.word_states.specs.Writing.{MayWrite}
use Rattle.word_states.proofs.Lists.{word_among}
use Rattle.sound_entries.specs.Closed.{AreClosed}
use Rattle.sound_entries.specs.Sound.{IsSound}
use Rattle.sound_entries.proofs.Commits.{commit_sound}
use Rattle.sound_entries.proofs.Hangs.{hang_sound}
use Rattle.page_layout.specs.Laying.{moved_to, cuts, tops_of}
use Rattle.page_layout.specs.Hangs.{entry_of}
use Rattle.page_layout.proofs.Sizes.{cuts_sized}
use Rattle.page_layout.proofs.Finding.{kept_found}
use Rattle.page_layout.proofs.CommitWrites.{commit_planned, commit_may}
use Rattle.page_layout.proofs.HangWrites.{hang_planned, hang_may}
use Rattle.word_moves.specs.Planned.{ReadsProcess, IsSafeMove}
use Rattle.word_moves.specs.Laws.{ACommitIsSafe, AHangIsSafe, AFailIsSafe}
use Rattle.word_moves.proofs.Moves.{is_commit, is_hang, is_fail}
use Rattle.word_moves.proofs.Finding.{pieces_named, finds_commit, finds_hang}

status_read : {kept : WordList} {p z : ℕ} → ReadsProcess kept p z → ReadsStatus kept p
status_read {kept = kept} {p = p} reads =
    let r = reads.status in (r.0, Ready, word_among kept p r.0 r.1, r.2)

pub commit_safe : ACommitIsSafe
commit_safe v kept p z k binds sizes own wakes rooms table planned is = subst IsSafeMove (sym (is_commit is)) (record {
  reads = planned.read.reads;
  may = λ n ws few heap has.
      let found = kept_found kept (inside_at ws) has in
      commit_may ws rooms table sizes planned.laid (cuts sizes own) (cuts_sized sizes own planned.size) n p binds wakes
      (found.commit p binds wakes (finds_commit planned)) (found.tops rooms planned.tops) heap
      (pieces_named 4000000000 (cuts sizes own) planned.read.led.each);
  sound = λ n few. commit_sound kept (moved_to table) n p binds (cuts sizes own) wakes (tops_of rooms) (record {
    led = planned.read.led;
    tame = planned.read.tame;
    opened = λ a x e. planned.read.opened a x (word_among binds a x e);
    parent = status_read planned.process;
    sleepers = λ q h. (let r = planned.woken.sleepers q h in (r.0, _, r.2, r.3));
    plan = λ ws size has may.
        let found = kept_found kept (inside_at ws) has in
        commit_planned ws rooms table sizes planned.laid (cuts sizes own) (cuts_sized sizes own planned.size) n p binds wakes
        (found.commit p binds wakes (finds_commit planned)) (found.tops rooms planned.tops);
  });
})

pub hang_safe : AHangIsSafe
hang_safe v kept p z lists rooms table planned is = subst IsSafeMove (sym (is_hang is)) (record {
  reads = planned.read.reads;
  may = λ n ws few heap has.
      let found = kept_found kept (inside_at ws) has in
      hang_may ws rooms table lists planned.laid n p (found.hang p lists (finds_hang planned)) (found.tops rooms planned.tops) heap;
  sound = λ n few. hang_sound kept (entry_of table lists) n p lists (tops_of rooms) (record {
    parent = status_read planned.process;
    places = λ a e h. (let r = planned.places a e h in (r.0, word_among kept a r.0 r.1, r.2));
    plan = λ ws size has may.
        let found = kept_found kept (inside_at ws) has in
        hang_planned ws rooms table lists planned.laid n p (found.hang p lists (finds_hang planned)) (found.tops rooms planned.tops)
        planned.small (omega arith);
  });
})

-- no writes may follow, and they are sound
none_may : (ws : List ℕ) → IsHeap ws → MayWrite ws []
none_may ws heap = record {
  distinct = tt;
  ranges = λ a x h. absurd h;
  soft = λ a x y h e. absurd h;
  below = λ a x h. absurd h;
  rises = λ p. omega arith;
  within = heap.within;
  fills = λ a h. inl h;
}

none_sound : (kept : WordList) → IsSound kept []
none_sound kept = record {
  heap = λ ws heap has may. heap;
  closed = λ ever ws size closed has may.
      subst (λ (xs : WordList). AreClosed (λ a x. Among xs (a, x)) (inside_at ws)) (sym (append-nil ever)) closed;
}

pub fail_safe : AFailIsSafe
fail_safe v kept p z reads is = subst IsSafeMove (sym (is_fail is))
    (record { reads = reads; may = λ n ws few heap has. none_may ws heap; sound = λ n few. none_sound kept })
