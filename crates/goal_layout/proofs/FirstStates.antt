-- The items are laid one after another, and then the words stand for the first state.
use Rattle.std.proofs.Common.{◌≡◌, ℕ, suc, ◌+◌, ◌-◌, ◌*◌, ◌%◌, ◌<◌, ◌≤◌, pos, true, List, [], ◌∷◌, ◌++◌, length, take, drop, get_or, Some}
use Rattle.std.proofs.Common.{None, refl, sym, ap, ◌∙◌, subst, arith, inl, inr, ⊎_elim}
use Rattle.std.specs.List.{flat_map}
use Rattle.std.specs.Option.{option_and_then}
use Rattle.std.proofs.Math.Seq.{drop-cons}
use Rattle.std.proofs.lemmas.Bool.{false≢true}
use Rattle.std.proofs.lemmas.List.{take_more, length-take-le}
use Rattle.std.proofs.lemmas.Option.{same_Some}
use Rattle.fcp_model.specs.Programs.{Goal}
use Rattle.heap_words.specs.Cells.{decoded}
use Rattle.heap_words.specs.Heaps.{is_inside, inside_at}
use Rattle.heap_words.specs.HeapLaws.{inside_known}
use Rattle.heap_words.specs.declared.cell.Cell.TheVariants as cell
use Rattle.heap_words.specs.declared.cell.Stand.{Stand}
use Rattle.heap_words.specs.declared.cell.Stand.TheVariants as stand
use Rattle.word_states.specs.Words.{At, Grows, IsIn, AreDistinct}
use Rattle.word_states.specs.Denoting.{Addresses}
use Rattle.word_states.specs.Standing.{ProcessSays}
use Rattle.goal_layout.specs.FirstFit.{first_fit}
use Rattle.goal_layout.specs.PieceSizes.{goal_sizes, sizes_of}
use Rattle.goal_layout.specs.Pages.{rooms, ArePages}
use Rattle.goal_layout.specs.Laying.{places_of}
use Rattle.goal_layout.specs.Items.{LaysItem, new_process}
use Rattle.goal_layout.specs.Goals.{LaysPlaces}
use Rattle.goal_layout.proofs.Lays.{first_fit-append, top_word, final_off, kept_word, said_on}
use Rattle.word_states.proofs.Persisting.{at_on}
use Rattle.word_states.proofs.Leading.{process_on}
use Rattle.goal_layout.proofs.Heaping.{Sort}
use Rattle.goal_layout.proofs.FirstProcesses.{AreAt, are_more, are_count, one_of, in_left, in_last, in_either, distinct_more}

-- The words ws came from base: the places and the first n of the goals are laid.
pub record Standing (vars : ℕ) (gs : List (Goal ℕ)) (n : ℕ) (base ws procs : List ℕ) : Type 0 where
  pub pages : ArePages ws
  pub size : length ws ≡ length base
  pub fits : first_fit (rooms base) (sizes_of vars gs) ≡ first_fit (rooms ws) (flat_map goal_sizes (drop n gs))
  pub all : (a x : ℕ) → inside_at ws a ≡ Some x → Sort ws (places_of vars) procs a x
  pub names : (k : ℕ) → 1 ≤ k → k ≤ vars → At (inside_at ws) (2 * k - 1) (cell.Small (pos k))
  pub words : (k : ℕ) → 1 ≤ k → k ≤ vars → inside_at ws (2 * k) ≡ Some 0
  pub each : AreAt (inside_at ws) (places_of vars) 1 procs (take n gs)
  pub distinct : AreDistinct procs
  pub known : (p : ℕ) → IsIn p procs → is_inside ws p ≡ true

-- no goal is laid
pub places_stand : (vars : ℕ) (gs : List (Goal ℕ)) (base ws : List ℕ) → LaysPlaces vars base ws → Standing vars gs 0 base ws []
places_stand vars gs base ws l = record {
  pages = l.pages;
  size = l.size;
  fits = first_fit-append (rooms base) _ (flat_map goal_sizes gs)
      ∙ ap (option_and_then (λ ss. first_fit ss (flat_map goal_sizes gs))) l.fits;
  all = λ a x e. inl (inl (l.quiet a x e));
  names = l.names;
  words = l.words;
  each = tt;
  distinct = tt;
  known = λ p i. absurd i;
}

module _ (vars : ℕ) (few : vars ≤ 250) (gs : List (Goal ℕ)) (n : ℕ) (base ws ws' procs : List ℕ) (g : Goal ℕ) (p : ℕ) (lt : n < length gs)
    (is : (d : Goal ℕ) → g ≡ get_or gs n d) (s : Standing vars gs n base ws procs) where
  abbrev vs : Addresses
  vs = places_of vars

  cut : drop n gs ≡ g ∷ drop (n + 1) gs
  cut = let next : n + 1 ≡ suc n = omega arith in drop-cons gs n g lt ∙ (λ k. sym (is g) k ∷ drop (sym next k) gs)

  -- the next goal finds no room
  pub goal_misses : first_fit (rooms ws) (goal_sizes g) ≡ None → first_fit (rooms base) (sizes_of vars gs) ≡ None
  goal_misses none =
      s.fits
      ∙ ap (λ us. first_fit (rooms ws) (flat_map goal_sizes us)) cut
      ∙ first_fit-append (rooms ws) (goal_sizes g) (flat_map goal_sizes (drop (n + 1) gs))
      ∙ ap (option_and_then (λ ss. first_fit ss (flat_map goal_sizes (drop (n + 1) gs)))) none

  module _ (l : LaysItem vars g (n + 1) p ws ws') where
    grows : Grows (inside_at ws) (inside_at ws')
    grows a x e f = kept_word ws ws' a x (l.kept a (inside_known ws a x e) (final_off ws a x s.pages e f)) e

    abbrev more : List ℕ
    more = procs ++ p ∷ []

    -- a status stays
    status_off : (a x : ℕ) (d : Stand) → inside_at ws a ≡ Some x → decoded x ≡ Some (cell.Status d) → a % 1024 ≡ 0 → ⊥
    status_off a x d e i m =
        let t = top_word ws a x s.pages e m in
        let z : cell.Status d ≡ cell.Top t.0 = same_Some (cell.Status d) (cell.Top t.0) (sym i ∙ t.1) in cc

    count : length procs ≡ n
    count = are_count (inside_at ws) vs 1 procs (take n gs) s.each ∙ length-take-le n gs (omega arith)

    sort_on : (a x : ℕ) → Sort ws vs procs a x → Sort ws' vs more a x
    sort_on a x (inl i) = inl (said_on (inside_at ws) (inside_at ws') vs x grows i)
    sort_on a x (inr i) = inr (in_left a p procs i.0, i.1)

    processes_on : (k : ℕ) (ps : List ℕ) (us : List (Goal ℕ)) → AreAt (inside_at ws) vs k ps us → AreAt (inside_at ws') vs k ps us
    processes_on k [] [] h = tt
    processes_on k [] (u ∷ us) h = absurd h
    processes_on k (q ∷ ps) [] h = absurd h
    processes_on k (q ∷ ps) (u ∷ us) h =
        let st = h.0.status in (
          process_on [] [] (inside_at ws) (inside_at ws') vs vs 0 0 q (new_process k u) (new_process k u) (λ v t e. e) grows (λ v a m. m) h.0 refl refl
              (st.0, kept_word ws ws' q st.0 (l.kept q (inside_known ws q st.0 st.1) (status_off q st.0 stand.Ready st.1 st.2)) st.1, st.2),
          processes_on (suc k) ps us h.1,
        )

    pub standing_more : Standing vars gs (n + 1) base ws' more
    standing_more = record {
      pages = l.pages;
      size = l.size ∙ s.size;
      fits = s.fits
          ∙ ap (λ us. first_fit (rooms ws) (flat_map goal_sizes us)) cut
          ∙ first_fit-append (rooms ws) (goal_sizes g) (flat_map goal_sizes (drop (n + 1) gs))
          ∙ ap (option_and_then (λ ss. first_fit ss (flat_map goal_sizes (drop (n + 1) gs)))) l.fits;
      all = λ a x e. ⊎_elim
          (λ i. sort_on a x (s.all a x i))
          (λ i. ⊎_elim (λ j. inl j) (λ j. inr (subst (λ k. IsIn k more) (sym j.0) (in_last p procs), j.1)) i)
          (l.said a x e);
      names = λ k lo hi. at_on (inside_at ws) (inside_at ws') vs vs grows (λ v a m. m) (2 * k - 1) (cell.Small (pos k))
          (s.names k lo hi) refl;
      words = λ k lo hi.
          let e = s.words k lo hi in
          kept_word ws ws' (2 * k) 0 (l.kept (2 * k) (inside_known ws (2 * k) 0 e) (λ m. omega (arith, m, lo, hi, few))) e;
      each = subst (AreAt (inside_at ws') vs 1 more) (sym (take_more gs n g lt ∙ ap (λ u. take n gs ++ u ∷ []) (sym (is g))))
          (are_more (inside_at ws') vs 1 p g procs (take n gs) (processes_on 1 procs (take n gs) s.each)
          (subst (λ k. ProcessSays (inside_at ws') vs [] 0 p (new_process k g)) (omega (arith, count)) l.process));
      distinct = distinct_more p procs s.distinct (λ i. false≢true (sym l.free ∙ s.known p i));
      known = λ q i. ⊎_elim
          (λ j. let k = s.known q j in (l.kept q k (proc_off q j)).0)
          (λ e. let st = l.process.status in inside_known ws' q st.0 (ap (inside_at ws') (sym e) ∙ st.1))
          (in_either q p procs i);
    }
      where
        proc_off : (q : ℕ) → IsIn q procs → q % 1024 ≡ 0 → ⊥
        proc_off q j =
            let o = one_of (inside_at ws) vs 1 procs (take n gs) q s.each j in
            let st = o.2.status in
            status_off q st.0 stand.Ready st.1 st.2
