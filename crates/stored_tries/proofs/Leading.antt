-- What is at hand leads to words of the store, or to own ones beside it.
use Rattle.std.proofs.Common.{◌≡◌, ℕ, ◌<◌, List, refl, sym, ◌∙◌, subst, inl, inr, arith, Option, Some, None}
use Rattle.heap_words.specs.Cells.{decoded}
use Rattle.heap_words.specs.Trails.{WordList, AreOnce}
use Rattle.heap_words.specs.WordsLaws.{WordsLaws}
use Rattle.heap_words.specs.declared.cell.Cell.{Cell}
use Rattle.heap_words.specs.declared.cell.Cell.TheVariants as cell
use Rattle.heap_words.specs.declared.cell.Stand.TheVariants as stand
use Rattle.word_states.specs.Words.{Among}
use Rattle.word_states.specs.Led.{IsKnown, read_at, reached, reached_by, of_process, IsLed, was_read, of_known, LeadsOn}
use Rattle.word_states.proofs.Pieces.{zero_is, nine_is}
use Rattle.trial_laws.specs.AtHand.{AtHand}
use Rattle.trial_laws.proofs.LedPieces.{leads_alone}
use Rattle.beside_words.specs.Besides.{own_at, OwnWords, LeadsBeside}
use Rattle.safe_tries.specs.Safe.{IsSafe}
use Rattle.safe_tries.specs.Stored.{IsStored}
use Rattle.machine_code.specs.Fresh.{Tops}
use Rattle.stored_tries.specs.Calls.{AreOwn}
use Rattle.stored_tries.proofs.Lists.{once_word}
use Rattle.stored_tries.proofs.Forms.{Kind, kind_at, empty, status, final}
use Rattle.stored_tries.proofs.OwnPieces.{cell_in_own, nothing_in_own, refers_in_own, kind_own, process_own, arguments_own}

module _ {S : Type 0} {addresses : S → ℕ} {sound : S → Type 0} {knows : S → ℕ → Type 0} {had : S → ℕ → ℕ → Type 0} {leads : S → ℕ → Type 0}
    {own shown : S → ℕ → Option ℕ} {later : S → S → Type 0} {gave : S → S → ℕ → ℕ → Type 0}
    (laws : WordsLaws {S = S} addresses sound knows had leads own shown later gave) (kept : WordList) (w : S)
    (s : IsStored addresses sound had shown later kept w) (once : AreOnce kept) where
  read_had : (a x : ℕ) → Among kept (a, x) → had w a x
  read_had a x m = s.had a x (once_word kept once a x m)

  read_leads : (a x : ℕ) → Among kept (a, x) → leads w x
  read_leads a x m = laws.had_leads w a x s.sound (read_had a x m)

  -- what is known by what was kept is known
  pub known : (b : ℕ) → IsKnown kept b → knows w b
  known b (read_at x m) = laws.had_known w b x s.sound (read_had b x m)
  known b (reached a x c m d r) = laws.reaches w x b c s.sound (read_leads a x m) d r
  known b (reached_by a x t y n c m d k i e r) =
      laws.reaches_by w x t y n b c s.sound (read_leads a x m) d k (read_had t y i) e r
  known b (of_process p x q m d l u) = laws.behind_status w p x b q s.sound (read_had p x m) d l u

  led_beside : (ws : List ℕ) (x : ℕ) → IsLed kept x → LeadsBeside knows leads w ws x
  led_beside ws x (was_read a m) = inl (read_leads a x m)
  led_beside ws x (of_known h) = go (decoded x) refl
    where
      go : (o : Option Cell) → decoded x ≡ o → LeadsBeside knows leads w ws x
      go (Some c) e = let k = h c e in inl (laws.plain w x c s.sound e k.0 k.1 (λ b r. known b (k.2 b r)))
      go None e = inr (nothing_in_own (knows w) ws x e)

  module _ (r : AtHand) (τ : Tops) (released : ℕ) (safe : IsSafe kept r τ released) (ws : List ℕ) (are : AreOwn r.pieces ws) where
    pub leads_beside : (x : ℕ) → LeadsOn kept r.pieces x → LeadsBeside knows leads w ws x
    leads_beside x (inl l) = led_beside ws x l
    leads_beside x (inr l) =
        inr (cell_in_own (knows w) ws x l.0 l.1 (refers_in_own r.pieces safe.led.pieces.each ws are (knows w) l.0 l.2))

    -- so does each own word
    own_leads : (a x : ℕ) → own_at ws a ≡ Some x → LeadsBeside knows leads w ws x
    own_leads a x e =
        let k = kind_own r.pieces safe.led.pieces.each ws are a x e in
        leads_beside x (go (kind_at k.2 (safe.led.pieces.each k.0 k.2 k.3) k.1 x k.6))
      where
        go : {p : List ℕ} {d : ℕ} → Kind p d x → LeadsOn kept r.pieces x
        go (empty i) = subst (LeadsOn kept r.pieces) (sym i)
            (leads_alone kept r.pieces 0 (cell.Unbound 0) zero_is refl (λ b g. let l : 0 < 0 = g.0 in omega arith))
        go (status i j q) =
            subst (LeadsOn kept r.pieces) (sym i) (leads_alone kept r.pieces 9 (cell.Status stand.Ready) nine_is refl (λ b g. absurd g))
        go (final i) = safe.led.own a x (sym (are.words a) ∙ e) i

    pub own_words_fit : OwnWords (knows w) (leads w) ws
    own_words_fit = record {
      few = let l = safe.led.pieces.few in omega (arith, are.ends);
      process = λ a x b d e f l u. process_own r.pieces safe.led.pieces.each ws are a x b d e f l u;
      arguments = λ a x y n b d e f g h l u. arguments_own r.pieces safe.led.pieces.each ws are a x y n b d e f g h l u;
      each = own_leads;
    }
