-- One more word on a list, and stretches of loads one after another.
use Rattle.std.proofs.Common.{◌≡◌, ◌<◌, ℕ, Bool, true, false, cond, [], ◌∷◌, ◌++◌, Option, Some}
use Rattle.std.proofs.Common.{None, refl, sym, ap, ◌∙◌, subst, inl, inr, ⊎_elim}
use Rattle.std.specs.Prelude.{nat_eq, ◌⊎◌, unwrap_or}
use Rattle.std.proofs.lemmas.Bool.{eqb-true, eq-eqb}
use Rattle.std.proofs.lemmas.Option.{none-some}
use Rattle.heap_words.specs.WordsLaws.{WordsLaws}
use Rattle.heap_words.specs.Trails.{Memory, WordList, word_at, under, Agrees, Holds, Went, KeepsLoads, Says}

-- the first of two, where there is one
abbrev pub or_at : Option ℕ → Option ℕ → Option ℕ
or_at None o = o
or_at (Some x) o = Some x

abbrev pub one_at : ℕ → ℕ → ℕ → Option ℕ
one_at b y a = cond (nat_eq a b) (Some y) None

pub word_at-append : (xs : WordList) (b y a : ℕ) → word_at (xs ++ (b, y) ∷ []) a ≡ or_at (word_at xs a) (one_at b y a)
word_at-append [] b y a = refl
word_at-append (s ∷ ss) b y a = go (word_at-append ss b y a) (nat_eq a s.0)
  where
    go : word_at (ss ++ (b, y) ∷ []) a ≡ or_at (word_at ss a) (one_at b y a) → (t : Bool)
        → cond t (Some s.1) (word_at (ss ++ (b, y) ∷ []) a) ≡ or_at (cond t (Some s.1) (word_at ss a)) (one_at b y a)
    go h true = refl
    go h false = h

-- one word more leaves the others, adds itself, and nothing else
pub still_there : (xs : WordList) (b y a x : ℕ) → word_at xs a ≡ Some x → word_at (xs ++ (b, y) ∷ []) a ≡ Some x
still_there xs b y a x e = word_at-append xs b y a ∙ ap (λ o. or_at o (one_at b y a)) e

pub old_or_new : (xs : WordList) (b y a x : ℕ) → word_at (xs ++ (b, y) ∷ []) a ≡ Some x → (word_at xs a ≡ Some x) ⊎ ((b ≡ a) × (y ≡ x))
old_or_new xs b y a x e = go (word_at xs a) (nat_eq a b) refl refl (sym (word_at-append xs b y a) ∙ e)
  where
    go : (o : Option ℕ) (t : Bool) → word_at xs a ≡ o → nat_eq a b ≡ t → or_at o (cond t (Some y) None) ≡ Some x
        → (word_at xs a ≡ Some x) ⊎ ((b ≡ a) × (y ≡ x))
    go (Some z) t i f h = inl (i ∙ h)
    go None true i f h = inr (sym (eqb-true a b f), cc)
    go None false i f h = cc

pub new_there : (xs : WordList) (b y : ℕ) → word_at xs b ≡ None → word_at (xs ++ (b, y) ∷ []) b ≡ Some y
new_there xs b y e = word_at-append xs b y b ∙ (ap (λ o. or_at o (one_at b y b)) e ∙ ap (λ t. cond t (Some y) None) (eq-eqb b b refl))

module _ {S : Type 0} {addresses : S → ℕ} {sound : S → Type 0} {knows : S → ℕ → Type 0} {had : S → ℕ → ℕ → Type 0} {leads : S → ℕ → Type 0}
    {own shown : S → ℕ → Option ℕ} {later : S → S → Type 0} {gave : S → S → ℕ → ℕ → Type 0}
    (laws : WordsLaws {S = S} addresses sound knows had leads own shown later gave) where
  -- a loaded word is kept
  pub kept_one : (kept : WordList) (v w : S) (b y : ℕ) → later v w → gave v w b y → b < 4000000000
      → Went later gave kept v (kept ++ (b, y) ∷ []) w
  kept_one kept v w b y l g below = record {
    between = l;
    grows = λ a x e. still_there kept b y a x e;
    given = λ a x e. ⊎_elim (λ i. inl i)
        (λ i. inr (subst (λ z. gave v w a z) i.1 (subst (λ c. gave v w c y) i.0 g), subst (λ c. c < 4000000000) i.0 below))
        (old_or_new kept b y a x e);
  }

  pub kept_holds : (kept binds : WordList) (v w : S) (b y : ℕ) → later v w → gave v w b y → b < 4000000000 → Holds had leads kept binds v
      → Holds had leads (kept ++ (b, y) ∷ []) binds w
  kept_holds kept binds v w b y l g below h = record {
    kept_had = λ a x e. ⊎_elim (λ i. laws.stays_had v w a x l (h.kept_had a x i))
        (λ i. laws.had_given v w a x (subst (λ z. gave v w a z) i.1 (subst (λ c. gave v w c y) i.0 g))) (old_or_new kept b y a x e);
    kept_below = λ a x e. ⊎_elim (λ i. h.kept_below a x i) (λ i. subst (λ c. c < 4000000000) i.0 below) (old_or_new kept b y a x e);
    bound_leads = λ a x e. laws.stays_leading v w x l (h.bound_leads a x e);
  }

  -- no stretch at all, and two stretches together
  pub went_none : (kept : WordList) (v : S) → sound v → Went later gave kept v kept v
  went_none kept v s = record { between = laws.still v s; grows = λ a x e. e; given = λ a x e. inl e }

  pub went_twice : (k1 k2 k3 : WordList) (u v w : S) → Went later gave k1 u k2 v → Went later gave k2 v k3 w → Went later gave k1 u k3 w
  went_twice k1 k2 k3 u v w p q = record {
    between = laws.twice u v w p.between q.between;
    grows = λ a x e. q.grows a x (p.grows a x e);
    given = λ a x e. ⊎_elim (λ i. ⊎_elim (λ j. inl j) (λ j. inr (laws.gave_before u v w a x j.0 q.between, j.1)) (p.given a x i))
        (λ i. inr (laws.gave_after u v w a x p.between i.0, i.1)) (q.given a x e);
  }

  -- what agrees later agrees now
  pub agreed_before : (k1 k2 : WordList) (v w : S) (m : Memory) → Went later gave k1 v k2 w → Agrees (own w) k2 m → Agrees (own v) k1 m
  agreed_before k1 k2 v w m p i = record {
    kept_same = λ a x e. i.kept_same a x (p.grows a x e);
    own_same = λ a x e. i.own_same a x (laws.same_own v w a p.between ∙ e);
  }

  -- an address is bound to a word that leads
  pub bound_holds : (kept binds : WordList) (w : S) (b y : ℕ) → leads w y → Holds had leads kept binds w
      → Holds had leads kept (binds ++ (b, y) ∷ []) w
  bound_holds kept binds w b y l h = record {
    kept_had = h.kept_had;
    kept_below = h.kept_below;
    bound_leads = λ a x e. ⊎_elim (λ i. h.bound_leads a x i) (λ i. subst (λ z. leads w z) i.1 l) (old_or_new binds b y a x e);
  }

  -- the same for both lists of a trail
  pub loaded_none : (kept binds : WordList) (v : S) → sound v → Holds had leads kept binds v
      → KeepsLoads sound had leads later gave kept binds v kept binds v
  loaded_none kept binds v s h = record { sound = s; went = went_none kept v s; holds = h }

  pub loaded_twice : {k1 b1 k2 b2 k3 b3 : WordList} {u v w : S} → KeepsLoads sound had leads later gave k1 b1 u k2 b2 v
      → KeepsLoads sound had leads later gave k2 b2 v k3 b3 w → KeepsLoads sound had leads later gave k1 b1 u k3 b3 w
  loaded_twice {k1 = k1} {k2 = k2} {k3 = k3} {u = u} {v = v} {w = w} p q =
      record { sound = q.sound; went = went_twice k1 k2 k3 u v w p.went q.went; holds = q.holds }

  pub agreed : {k1 b1 k2 b2 : WordList} {v w : S} (m : Memory) → KeepsLoads sound had leads later gave k1 b1 v k2 b2 w
      → Agrees (own w) k2 m → Agrees (own v) k1 m
  agreed {k1 = k1} {k2 = k2} {v = v} {w = w} m p i = agreed_before k1 k2 v w m p.went i

  -- a trail that has one binding more
  pub bound_loaded : {kept binds kept' binds' : WordList} {w : S} (b y : ℕ) → sound w → kept' ≡ kept → binds' ≡ binds ++ (b, y) ∷ []
      → leads w y → Holds had leads kept binds w → KeepsLoads sound had leads later gave kept binds w kept' binds' w
  bound_loaded {kept = kept} {binds = binds} {kept' = kept'} {binds' = binds'} {w = w} b y s k e l h =
      subst (λ (ks : WordList). KeepsLoads sound had leads later gave kept binds w ks binds' w) (sym k)
      (subst (λ (bs : WordList). KeepsLoads sound had leads later gave kept binds w kept bs w) (sym e)
      (record { sound = s; went = went_none kept w s; holds = bound_holds kept binds w b y l h }))

  -- a trail whose two lists are the same
  pub loaded_same : {kept binds kept' binds' kept'' binds'' : WordList} {v w : S}
      → KeepsLoads sound had leads later gave kept binds v kept' binds' w → kept'' ≡ kept' → binds'' ≡ binds'
      → KeepsLoads sound had leads later gave kept binds v kept'' binds'' w
  loaded_same {kept = kept} {binds = binds} {kept' = kept'} {binds'' = binds''} {v = v} {w = w} l k e =
      subst (λ (ks : WordList). KeepsLoads sound had leads later gave kept binds v ks binds'' w) (sym k)
      (subst (λ (bs : WordList). KeepsLoads sound had leads later gave kept binds v kept' bs w) (sym e) l)

  -- what is said of every memory that agrees stays so where only loads follow
  pub still_says : (P : Memory → Type 0) {k1 b1 k2 b2 : WordList} {v w : S} → KeepsLoads sound had leads later gave k1 b1 v k2 b2 w
      → Says (own v) k1 P → Says (own w) k2 P
  still_says P l h m i = h m (agreed m l i)

-- a memory that agrees has the kept words and the own words
pub says_kept : (own : ℕ → Option ℕ) (kept : WordList) (m : Memory) (a x : ℕ) → word_at kept a ≡ Some x → Agrees own kept m → m a ≡ x
says_kept own kept m a x f i = i.kept_same a x f

pub says_own : (own : ℕ → Option ℕ) (kept : WordList) (m : Memory) (a x : ℕ) → own a ≡ Some x → Agrees own kept m → m a ≡ x
says_own own kept m a x f i = i.own_same a x f

-- under the bindings a bound address has its binding, and another what the memory has
pub under_bound : (binds : WordList) (m : Memory) (a x : ℕ) → word_at binds a ≡ Some x → under binds m a ≡ x
under_bound binds m a x e = ap (λ o. unwrap_or o (m a)) e

pub under_free : (binds : WordList) (m : Memory) (a x : ℕ) → word_at binds a ≡ None → m a ≡ x → under binds m a ≡ x
under_free binds m a x e f = ap (λ o. unwrap_or o (m a)) e ∙ f

-- a trail whose bindings are dropped
pub unbound_holds : {S : Type 0} {had : S → ℕ → ℕ → Type 0} {leads : S → ℕ → Type 0} {kept binds : WordList} {w : S}
    → Holds had leads kept binds w → Holds had leads kept [] w
unbound_holds h = record { kept_had = h.kept_had; kept_below = h.kept_below; bound_leads = λ a x e. absurd (none-some x e) }
