-- What a unification binds leads on, and so does what is handed over at a commit.
use Rattle.std.proofs.Common.{◌≡◌, ◌⊎◌, ℕ, zero, suc, ◌+◌, ◌<◌, Bool, true, List, [], ◌∷◌, refl, sym, ap, ◌∙◌, subst, inl, inr}
use Rattle.std.proofs.Common.{⊎_elim, arith, Option, Some, None}
use Rattle.std.specs.Prelude.{slice_get, unwrap_or}
use Rattle.std.proofs.lemmas.Option.{same_Some}
use Rattle.heap_words.specs.Cells.{decoded, encoded, is_final_word, is_final_in}
use Rattle.heap_words.specs.Refers.{Refers, HasPart}
use Rattle.heap_words.specs.Trails.{WordList, Memory, word_at}
use Rattle.heap_words.specs.WordsLaws.{tells_all}
use Rattle.heap_words.specs.declared.cell.Cell.{Cell}
use Rattle.heap_words.specs.declared.cell.Cell.TheVariants.{Unbound, Ref, RoRef, Small, Wide, Str, Nil, Cons, Tuple, Status, Raw, Top}
use Rattle.heap_words.specs.declared.cell.Cell.TheVariants as cell
use Rattle.heap_words.specs.declared.cell.Stand.TheVariants as stand
use Rattle.heap_words.proofs.Encodings.{decoded_encoded, encoded_decoded}
use Rattle.ro_unify.specs.Value.{leads_on}
use Rattle.ro_unify.specs.Occurs.{Each, whole_of, count_of, parts_of, words_after}
use Rattle.ro_unify.specs.Unify.{Unifies, done}
use Rattle.ro_unify.specs.Walks.{first_some, seen_memory}
use Rattle.ro_unify.specs.declared.occurrence.Whole.{Whole}
use Rattle.ro_unify.specs.declared.occurrence.Whole.TheVariants as whole
use Rattle.ro_unify.proofs.Closing.{IsClosed, BindsIn, binds_closed}
use Rattle.word_states.specs.Pieces.{rows, StartsAt, IsPiece, AreFinal, a_place, a_pair, a_tuple, a_wide, a_process, RefersOwn}
use Rattle.word_states.specs.Led.{IsKnown, reached, IsLed, was_read, of_known, LeadsOn, AreLed}
use Rattle.word_states.proofs.Lists.{word_among}
use Rattle.word_states.proofs.Pieces.{in_rows, rows_in, zero_is, nine_is, raw_final}
use Rattle.trial_laws.specs.AtHand.{AtHand, term_word}
use Rattle.trial_laws.specs.Endings.{settled, of_store}
use Rattle.trial_laws.specs.Leading.{IsTermWord, LeadsTo, IsLedOn, LedUnification, LedCommit, TermsStand}
use Rattle.trial_laws.proofs.LedPieces.{leads_alone, nil_leads, slot_leads, term_of_cell}
use Rattle.trial_laws.proofs.Slots.{raw_term}
use Rattle.trial_laws.proofs.Seen.{says_bound}
use Rattle.word_states.proofs.Persisting.{denotes_final}
use Rattle.word_states.specs.Words.{Words}
use Rattle.word_states.specs.Denoting.{Addresses, ExprSays}
use Rattle.fcp_model.specs.Places.{Variable}
use Rattle.fcp_model.specs.Expressions.{Expr, leaf, op}
use Rattle.word_states.specs.Pieces.{with_own, with_variables}
use Rattle.trial_laws.proofs.Settling.{starts_on, starts_back, from_settled, kept_pair, kept_tuple, settled_is, in_store, store_low}

-- the words of a piece that are not final
finals_at : (xs : List ℕ) → AreFinal xs → (d x : ℕ) → slice_get xs d ≡ Some x → is_final_word x ≡ true
finals_at [] h d x e = let k : None ≡ Some x = e in cc
finals_at (y ∷ xs) h zero x e = subst (λ (z : ℕ). is_final_word z ≡ true) (same_Some _ _ e) h.0
finals_at (y ∷ xs) h (suc d) x e = finals_at xs h.1 d x e

abbrev Kind : ℕ → Type 0
Kind x = (x ≡ 0) ⊎ (x ≡ 9) ⊎ (is_final_word x ≡ true)

kind_at : (p : List ℕ) → IsPiece p → (d x : ℕ) → slice_get p d ≡ Some x → Kind x
kind_at p (a_place y q h) d x e = go d (ap (λ (l : List ℕ). slice_get l d) (sym q) ∙ e) h
  where
    go : (d : ℕ) → slice_get (0 ∷ y ∷ []) d ≡ Some x → (y ≡ 0) ⊎ (is_final_word y ≡ true) → Kind x
    go zero f k = inl (sym (same_Some _ _ f))
    go (suc zero) f (inl k) = inl (sym (same_Some _ _ f) ∙ k)
    go (suc zero) f (inr k) = inr (inr (subst (λ (z : ℕ). is_final_word z ≡ true) (same_Some _ _ f) k))
    go (suc (suc d)) f k = let g : None ≡ Some x = f in cc
kind_at p (a_pair y z q f g n) d x e = go d (ap (λ (l : List ℕ). slice_get l d) (sym q) ∙ e)
  where
    go : (d : ℕ) → slice_get (y ∷ z ∷ []) d ≡ Some x → Kind x
    go zero k = inr (inr (subst (λ (z : ℕ). is_final_word z ≡ true) (same_Some _ _ k) f))
    go (suc zero) k = inr (inr (subst (λ (z : ℕ). is_final_word z ≡ true) (same_Some _ _ k) g))
    go (suc (suc d)) k = let g : None ≡ Some x = k in cc
kind_at p (a_tuple r n xs q i l f) d x e = go d (ap (λ (l : List ℕ). slice_get l d) (sym q) ∙ e)
  where
    go : (d : ℕ) → slice_get (r ∷ xs) d ≡ Some x → Kind x
    go zero k = inr (inr (subst (λ (z : ℕ). is_final_word z ≡ true) (same_Some _ _ k) (raw_final r n i)))
    go (suc d) k = inr (inr (finals_at xs f d x k))
kind_at p (a_wide y z q i) d x e = go d (ap (λ (l : List ℕ). slice_get l d) (sym q) ∙ e)
  where
    go : (d : ℕ) → slice_get (y ∷ []) d ≡ Some x → Kind x
    go zero k = inr (inr (subst (λ (z : ℕ). is_final_word z ≡ true) (same_Some _ _ k) (ap is_final_in i)))
    go (suc d) k = let g : None ≡ Some x = k in cc
kind_at p (a_process f g r n xs q i j l h) d x e = go d (ap (λ (l : List ℕ). slice_get l d) (sym q) ∙ e)
  where
    go : (d : ℕ) → slice_get (9 ∷ 0 ∷ f ∷ r ∷ xs) d ≡ Some x → Kind x
    go zero k = inr (inl (sym (same_Some _ _ k)))
    go (suc zero) k = inl (sym (same_Some _ _ k))
    go (suc (suc zero)) k = inr (inr (subst (λ (z : ℕ). is_final_word z ≡ true) (same_Some _ _ k) (raw_final f g i)))
    go (suc (suc (suc zero))) k = inr (inr (subst (λ (z : ℕ). is_final_word z ≡ true) (same_Some _ _ k) (raw_final r n j)))
    go (suc (suc (suc (suc d)))) k = inr (inr (finals_at xs h d x k))

-- the address of a step, if there is one
abbrev second : ℕ → Option (Bool × ℕ) → ℕ
second d None = d
second d (Some q) = q.1

module _ (read : WordList) (r : AtHand) (h : IsLedOn read r) where
  abbrev M : Memory
  M = seen_memory read (word_at (rows 4000000000 r.pieces))

  abbrev P : ℕ → Type 0
  P x = LeadsOn read r.pieces x

  zero_leads : P 0
  zero_leads = leads_alone read r.pieces 0 (Unbound 0) zero_is refl (λ b g. let l : 0 < 0 = g.0 in omega arith)

  nine_leads : P 9
  nine_leads = leads_alone read r.pieces 9 (cell.Status stand.Ready) nine_is refl (λ b g. absurd g)

  -- each word that was seen leads on
  each_leads : (a : ℕ) → P (M a)
  each_leads a = go (word_at read a) refl (word_at (rows 4000000000 r.pieces) a) refl
    where
      own_one : (x : ℕ) → word_at (rows 4000000000 r.pieces) a ≡ Some x → P x
      own_one x e =
          let q = in_rows 4000000000 a x r.pieces e in
          ⊎_elim (λ k. subst P (sym k) zero_leads)
          (λ k. ⊎_elim (λ i. subst P (sym i) nine_leads) (λ i. h.own a x e i) k)
          (kind_at q.2 (h.pieces.each q.0 q.2 q.3) q.1 x q.6)

      go : (o : Option ℕ) → word_at read a ≡ o → (p : Option ℕ) → word_at (rows 4000000000 r.pieces) a ≡ p
          → P (unwrap_or (first_some o p) 6)
      go (Some x) e p f = inl (was_read a (word_among read a x e))
      go None e (Some x) f = own_one x f
      go None e None f = nil_leads read r.pieces

  -- a reference to a place and a read-only one lead on together
  to_place : (w a : ℕ) → (decoded w ≡ Some (Ref a)) ⊎ (decoded w ≡ Some (RoRef a)) → P w → LeadsTo read r.pieces a
  to_place w a (inl e) k = (subst P (sym (encoded_decoded w (Ref a) e).1) k, other k)
    where
      is : decoded (encoded (RoRef a)) ≡ Some (RoRef a)
      is = decoded_encoded (RoRef a) (encoded_decoded w (Ref a) e).0

      led : IsLed read w → IsLed read (encoded (RoRef a))
      led l = of_known (λ c f. let same : RoRef a ≡ c = same_Some _ _ (sym is ∙ f) in (
        subst tells_all same refl,
        (λ b g. subst (λ (z : Cell). HasPart z b) (sym same) g),
        (λ b g. known l b (subst (λ (z : Cell). Refers z b) (sym same) g)),
      ))
        where
          known : IsLed read w → (b : ℕ) → Refers (RoRef a) b → IsKnown read b
          known (was_read c m) b g = reached c w (Ref a) m e g
          known (of_known m) b g = (m (Ref a) e).2 b g

      other : P w → P (encoded (RoRef a))
      other (inl l) = inl (led l)
      other (inr l) =
          let same : l.0 ≡ Ref a = same_Some _ _ (sym l.1 ∙ e) in
          inr (RoRef a, is, subst (RefersOwn r.pieces) same l.2)
  to_place w a (inr e) k = (other k, subst P (sym (encoded_decoded w (RoRef a) e).1) k)
    where
      is : decoded (encoded (Ref a)) ≡ Some (Ref a)
      is = decoded_encoded (Ref a) (encoded_decoded w (RoRef a) e).0

      led : IsLed read w → IsLed read (encoded (Ref a))
      led l = of_known (λ c f. let same : Ref a ≡ c = same_Some _ _ (sym is ∙ f) in (
        subst tells_all same refl,
        (λ b g. subst (λ (z : Cell). HasPart z b) (sym same) g),
        (λ b g. known l b (subst (λ (z : Cell). Refers z b) (sym same) g)),
      ))
        where
          known : IsLed read w → (b : ℕ) → Refers (Ref a) b → IsKnown read b
          known (was_read c m) b g = reached c w (RoRef a) m e g
          known (of_known m) b g = (m (RoRef a) e).2 b g

      other : P w → P (encoded (Ref a))
      other (inl l) = inl (led l)
      other (inr l) =
          let same : l.0 ≡ RoRef a = same_Some _ _ (sym l.1 ∙ e) in
          inr (Ref a, is, subst (RefersOwn r.pieces) same l.2)

  ref_of : (only o : Bool) (a : ℕ) (c : Option Cell) → leads_on only c ≡ Some (o, a) → (c ≡ Some (Ref a)) ⊎ (c ≡ Some (RoRef a))
  ref_of only o a (Some (Ref b)) e = let i : b ≡ a = ap (second a) e in inl (ap (λ (z : ℕ). Some (Ref z)) i)
  ref_of only o a (Some (RoRef b)) e = let i : b ≡ a = ap (second a) e in inr (ap (λ (z : ℕ). Some (RoRef z)) i)
  ref_of only o a (Some (Unbound b)) e = cc
  ref_of only o a (Some (Small z)) e = cc
  ref_of only o a (Some (Wide b k)) e = cc
  ref_of only o a (Some (Str s)) e = cc
  ref_of only o a (Some Nil) e = cc
  ref_of only o a (Some (Cons b)) e = cc
  ref_of only o a (Some (Tuple b)) e = cc
  ref_of only o a (Some (Status d)) e = cc
  ref_of only o a (Some (Raw n)) e = cc
  ref_of only o a (Some (Top b)) e = cc
  ref_of only o a None e = cc

  after : (a n : ℕ) → Each P (words_after M a n)
  after a zero = tt
  after a (suc n) = (each_leads (a + 1), after (a + 1) n)

  all_parts : (v : Whole) → Each P (parts_of M v)
  all_parts whole.Atom = tt
  all_parts (whole.Pair a) = (each_leads a, (each_leads (a + 1), tt))
  all_parts (whole.Tuple a) = after a (count_of (decoded (M a)))

  closed : IsClosed r.binds M P (LeadsTo read r.pieces)
  closed = record {
    place = λ w a only o k e. to_place w a (ref_of only o a (decoded w) e) k;
    word = λ a q i u. each_leads a;
    parts = λ w k. all_parts (whole_of (decoded w));
    writable = λ a q. q.0;
    read_only = λ a q. q.1;
  }

  pub binds_lead : (i j : ℕ) (bs : WordList) (rs : List ℕ)
      → Unifies (seen_memory read (word_at (rows 4000000000 r.pieces))) r.binds r.reads ((term_word r i, term_word r j) ∷ []) (done bs rs)
      → BindsIn (λ x. LeadsOn read r.pieces x) (LeadsTo read r.pieces) bs
  binds_lead i j bs rs u =
      binds_closed r.binds bs M P (LeadsTo read r.pieces) closed r.reads rs ((term_word r i, term_word r j) ∷ [])
      (λ a x e. (h.places a x e, h.bound a x e)) (((slot_leads read r h i).0, (slot_leads read r h j).0), tt) u

pub led_unification : LedUnification
led_unification read r h i j bs rs u = record {
  pieces = h.pieces;
  slots = h.slots;
  terms = h.terms;
  bound = λ a x e. (binds_lead read r h i j bs rs u a x e).1;
  places = λ a x e. (binds_lead read r h i j bs rs u a x e).0;
  own = h.own;
}

-- the pieces with the own places' bindings
module _ (read : WordList) (r : AtHand) (h : IsLedOn read r) (terms : (a x : ℕ) → word_at r.binds a ≡ Some x → IsTermWord x) where
  abbrev ps : List (List ℕ)
  ps = settled r.binds 4000000000 r.pieces

  refers_on : (c : Cell) → RefersOwn r.pieces c → RefersOwn ps c
  refers_on (Ref a) k = (k.0, unwrap_or (word_at r.binds (suc k.0)) k.1, k.2, starts_on r.binds 4000000000 r.pieces k.0 _ k.3)
  refers_on (RoRef a) k = (k.0, unwrap_or (word_at r.binds (suc k.0)) k.1, k.2, starts_on r.binds 4000000000 r.pieces k.0 _ k.3)
  refers_on (Cons a) k = (
    k.0,
    k.1,
    subst (λ (p : List ℕ). StartsAt 4000000000 ps a p) (kept_pair r.binds a k.0 k.1 k.3) (starts_on r.binds 4000000000 r.pieces a _ k.2),
    k.3,
    k.4,
  )
  refers_on (Tuple a) k = (
    k.0,
    k.1,
    k.2,
    subst (λ (p : List ℕ). StartsAt 4000000000 ps a p) (kept_tuple r.binds a k.0 k.1 k.2 k.4)
        (starts_on r.binds 4000000000 r.pieces a _ k.3),
    k.4,
    k.5,
  )
  refers_on (Wide a m) k = (k.0, starts_on r.binds 4000000000 r.pieces a _ k.1)
  refers_on (Unbound a) k = absurd k
  refers_on (Small z) k = absurd k
  refers_on (Str n) k = absurd k
  refers_on Nil k = absurd k
  refers_on (Status d) k = absurd k
  refers_on (Raw n) k = absurd k
  refers_on (Top a) k = absurd k

  leads_still : (x : ℕ) → LeadsOn read r.pieces x → LeadsOn read ps x
  leads_still x (inl k) = inl k
  leads_still x (inr k) = inr (k.0, k.1, refers_on k.0 k.2)

  own_leads : (a x : ℕ) → word_at (rows 4000000000 ps) a ≡ Some x → is_final_word x ≡ true → LeadsOn read ps x
  own_leads a x e f =
      let q = in_rows 4000000000 a x ps e in
      let b = starts_back r.binds 4000000000 r.pieces q.0 q.2 q.3 in
      leads_still x
      (⊎_elim (λ g. h.own (q.0 + q.1) x (rows_in 4000000000 q.0 q.1 x r.pieces b.0 b.1 g) f) (λ g. h.bound (suc q.0) x g)
      (from_settled r.binds q.0 b.0 q.1 x (subst (λ (z : List ℕ). slice_get z q.1 ≡ Some x) b.2 q.6)))

  pub commit_leads : AreLed read (of_store r.binds) (settled r.binds 4000000000 r.pieces)
  commit_leads = record {
    each = λ a p s. let b = starts_back r.binds 4000000000 r.pieces a p s in
        subst IsPiece (sym b.2) (settled_is r.binds a b.0 (λ x e. (terms (suc a) x e).0) (h.pieces.each a b.0 b.1));
    bound = λ a x e. leads_still x (h.bound a x (sym (in_store r.binds a (store_low r.binds a x e)) ∙ e));
    value = λ a x e. terms a x (sym (in_store r.binds a (store_low r.binds a x e)) ∙ e);
    own = own_leads;
  }

pub led_commit : LedCommit
led_commit read r h terms = commit_leads read r h terms

-- words that say something are words of terms or of operations
expr_term : (w : Words) (vs : Addresses) (x : ℕ) (u : Expr Variable) → ExprSays w vs x u → IsTermWord x
expr_term w vs x (leaf u) h = (denotes_final w vs x u h, (λ n e. raw_term w vs x u n e h))
expr_term w vs x (op o a b) h = term_of_cell x (Tuple h.0) h.3 refl (λ n e. let g : Tuple h.0 ≡ Raw n = e in cc)

pub terms_stand : TermsStand
terms_stand w vs bound ops args at r t store formed s = (
  λ i. expr_term (with_own r.pieces w) (with_variables r.pieces vs) (r.slots i) (t.slots i) (s.slots i),
  λ a x e. let n = s.binds_named a x e in
      let d = (says_bound w vs bound r t store formed s).privately n.0 a x n.2 e in
      (denotes_final _ _ x d.0 d.2, (λ m f. raw_term _ _ x d.0 m f d.2)),
)
