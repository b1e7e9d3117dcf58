-- From what was read to what stands while its pages are held.
use Rattle.std.proofs.Common.{◌≡◌, ◌∙◌, ℕ, ◌/◌, ◌<◌, Bool, true, false, List, Option, None, sym, subst, arith}
use Rattle.heap_words.specs.Cells.{is_final_word}
use Rattle.heap_words.specs.Trails.{WordList}
use Rattle.heap_words.specs.WordsLaws.{WordsLaws}
use Rattle.word_states.specs.Words.{Among}
use Rattle.word_commit.specs.declared.quota.Quota.{Quota}
use Rattle.word_moves.specs.declared.word_move.WordMove.{WordMove}
use Rattle.commit_engine.specs.Halls.{HallLaws}
use Rattle.commit_engine.specs.Holding.{Keeps}
use Rattle.commit_engine.specs.Making.{AreThere, LooksSay, IsEntry}
use Rattle.commit_engine.proofs.Entering.{read_needed}
use Rattle.commit_engine.proofs.Quiet.{had_low}

pub keeps_same : (holds holds' : ℕ → Bool) (pages : List ℕ) (below below' : ℕ) → below' ≡ below → ((p : ℕ) → holds' p ≡ holds p)
    → Keeps holds pages 0 below → Keeps holds' pages 0 below'
keeps_same holds holds' pages below below' e f k = record {
  held = λ q i l m. f q ∙ k.held q i l (subst (λ (n : ℕ). q < n) e m);
  only = λ q h. let r = k.only q (sym (f q) ∙ h) in (r.0, r.1, subst (λ (n : ℕ). q < n) (sym e) r.2);
}

module _ {S : Type 0} {addresses : S → ℕ} {sound : S → Type 0} {knows : S → ℕ → Type 0} {had : S → ℕ → ℕ → Type 0} {leads : S → ℕ → Type 0}
    {own shown : S → ℕ → Option ℕ} {later : S → S → Type 0} {gave once : S → S → ℕ → ℕ → Type 0} {page_count : S → ℕ}
    {holds : S → ℕ → Bool} {due : S → Bool} {purse : S → Quota} {spare : S → ℕ} {takes : S → List (ℕ × Bool)} {alone : S → Type 0}
    {stands primed : S → ℕ → ℕ → Type 0} {silent : S → S → Type 0} {found : S → S → ℕ → ℕ → Type 0} {added : S → S → WordMove → ℕ → Type 0}
    (w : WordsLaws {S = S} addresses sound knows had leads own shown later gave)
    (l : HallLaws {S = S} addresses sound knows had shown later gave once page_count holds due purse spare takes alone stands primed silent
    found added) where
  -- what was read is known while the pages are held
  pub known_still : (u v : S) (reads : WordList) → sound u → silent u v → ((a x : ℕ) → Among reads (a, x) → had u a x)
      → (a x : ℕ) → Among reads (a, x) → knows v a
  known_still u v reads s q h a x k = l.silent_knows u v a q (w.had_known u a x s (h a x k))

  -- and its pages are among those that are held
  pub held_still : (u v : S) (e : WordMove) (pages places : List ℕ) → sound u → IsEntry e pages places
      → Keeps (holds v) pages 0 (page_count u) → ((a x : ℕ) → Among e.reads.items (a, x) → had u a x)
      → (a x : ℕ) → Among e.reads.items (a, x) → is_final_word x ≡ false → holds v (a / 1024) ≡ true
  held_still u v e pages places s i keeps h a x k f =
      keeps.held (a / 1024) (read_needed e pages places i a x k f) (omega arith) (had_low w l u a x s (h a x k))

  -- after the second look it stands there
  pub are_there : (u v x : S) (reads again : WordList) → sound u → silent u x → page_count x ≡ page_count u
      → ((a y : ℕ) → Among reads (a, y) → had u a y) → again ≡ reads → LooksSay stands gave v x again None
      → AreThere (page_count x) (stands x) (shown x) reads
  are_there u v x reads again s q c h e looks = record {
    opens = λ a y k. looks a y (subst (λ (m : WordList). Among m (a, y)) (sym e) k);
    finals = λ a y k f. l.silent_shown u x a y q (w.had_shown u a y s (h a y k) f);
    low = λ a y k. subst (λ (m : ℕ). a / 1024 < m) (sym c) (had_low w l u a y s (h a y k));
  }
