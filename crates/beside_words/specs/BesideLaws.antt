-- The laws of words, where a try's own words stand beside others.
use Rattle.std.specs.Prelude.{◌≡◌, ℕ, ◌+◌, ◌-◌, ◌<◌, ◌≤◌, ◌⊎◌, Bool, true, false, List, Option, Some, None, refl, length, slice_get}
use Rattle.std.specs.Prelude.{nat_eq}
use Rattle.std.proofs.Common.{sym, ◌∙◌, ap, subst, arith, inl, inr, ⊎_elim, cond}
use Rattle.std.proofs.lemmas.Bool.{lt-ltb, le-ltb, eqb-false, cases_lt}
use Rattle.std.proofs.lemmas.Option.{slice_get_within, same_Some}
use Rattle.heap_words.specs.Cells.{decoded}
use Rattle.heap_words.specs.declared.cell.Cell.{Cell}
use Rattle.heap_words.specs.declared.cell.Cell.TheVariants.{Unbound, Ref, RoRef, Small, Wide, Str, Nil, Cons, Tuple, Status, Raw, Top}
use Rattle.heap_words.specs.WordsLaws.{WordsLaws, tells_all}
use Rattle.heap_words.specs.Refers.{Refers, RefersBy, HasPart, HasPartBy, teller}
use Rattle.heap_words.specs.Heaps.{only_final}
use Rattle.beside_words.specs.Besides.{own_at, IsOwn, InOwn, KnownBeside, either, SoundBeside, HadBeside, LeadsBeside}
use Rattle.beside_words.specs.Loads.{LaterBeside, GaveBeside}
use Rattle.beside_words.specs.declared.beside.Beside.{Beside}

-- a cell refers by itself to where its number stands
pub refers_teller : (c : Cell) (t : ℕ) → teller c ≡ Some t → Refers c t
refers_teller (Unbound e) t h = go (nat_eq e 0) refl h
  where
    go : (c : Bool) → nat_eq e 0 ≡ c → cond c None (Some e) ≡ Some t → (0 < e) × (e ≤ t) × (t < e + 3)
    go true i g = cc
    go false i g =
        let k : e ≡ t = cc in
        let n : e ≡ 0 → ⊥ = eqb-false e 0 i in
        (omega arith, omega arith, omega arith)
refers_teller (Cons a) t e = inl (let h : t ≡ a = cc in h)
refers_teller (Tuple a) t e = let h : t ≡ a = cc in h
refers_teller (Ref a) t e = cc
refers_teller (RoRef a) t e = cc
refers_teller (Small z) t e = cc
refers_teller (Wide a h) t e = cc
refers_teller (Str s) t e = cc
refers_teller Nil t e = cc
refers_teller (Status d) t e = cc
refers_teller (Raw n) t e = cc
refers_teller (Top a) t e = cc

-- parts by a number stand after it
part_after : (n b t : ℕ) (c : Cell) → HasPartBy n c b → teller c ≡ Some t → t < b
part_after n b t (Cons a) h e = let k : t ≡ a = (let g : a ≡ t = cc in sym g) in let l : b ≡ a + 2 = h in omega arith
part_after n b t (Tuple a) h e = let k : t ≡ a = (let g : a ≡ t = cc in sym g) in let l : a < b = h.0 in omega arith
part_after n b t (Unbound a) h e = absurd h
part_after n b t (Ref a) h e = absurd h
part_after n b t (RoRef a) h e = absurd h
part_after n b t (Small z) h e = absurd h
part_after n b t (Wide a k) h e = absurd h
part_after n b t (Str s) h e = absurd h
part_after n b t Nil h e = absurd h
part_after n b t (Status d) h e = absurd h
part_after n b t (Raw m) h e = absurd h
part_after n b t (Top a) h e = absurd h

-- a part is referred to, by itself or by the number
pub part_refers : (c : Cell) (b : ℕ) → HasPart c b → Refers c b
part_refers (Ref a) b h = absurd h
part_refers (RoRef a) b h = absurd h
part_refers (Unbound a) b h = h
part_refers (Small z) b h = h
part_refers (Wide a k) b h = h
part_refers (Str s) b h = h
part_refers Nil b h = h
part_refers (Cons a) b h = h
part_refers (Tuple a) b h = h
part_refers (Status d) b h = h
part_refers (Raw n) b h = h
part_refers (Top a) b h = h

pub part_by_refers : (n : ℕ) (c : Cell) (b : ℕ) → HasPartBy n c b → RefersBy n c b
part_by_refers n (Cons a) b h = inr h
part_by_refers n (Tuple a) b h = h
part_by_refers n (Unbound a) b h = absurd h
part_by_refers n (Ref a) b h = absurd h
part_by_refers n (RoRef a) b h = absurd h
part_by_refers n (Small z) b h = absurd h
part_by_refers n (Wide a k) b h = absurd h
part_by_refers n (Str s) b h = absurd h
part_by_refers n Nil b h = absurd h
part_by_refers n (Status d) b h = absurd h
part_by_refers n (Raw m) b h = absurd h
part_by_refers n (Top a) b h = absurd h

-- own words
pub own_low : (ws : List ℕ) (a : ℕ) → a < 4000000000 → own_at ws a ≡ None
own_low ws a l = ap (λ (c : Bool). cond c None (slice_get ws (a - 4000000000))) (lt-ltb a 4000000000 l)

pub own_high : (ws : List ℕ) (a : ℕ) → 4000000000 ≤ a → own_at ws a ≡ slice_get ws (a - 4000000000)
own_high ws a l = ap (λ (c : Bool). cond c None (slice_get ws (a - 4000000000))) (le-ltb a 4000000000 l)

pub own_above : (ws : List ℕ) (a x : ℕ) → own_at ws a ≡ Some x → 4000000000 ≤ a
own_above ws a x e =
    ⊎_elim (λ (l : a < 4000000000). absurd (let h : None ≡ Some x = sym (own_low ws a l) ∙ e in cc)) (λ l. l) (cases_lt a 4000000000)

pub own_is : (ws : List ℕ) (a x : ℕ) → own_at ws a ≡ Some x → IsOwn ws a
own_is ws a x e =
    let l = own_above ws a x e in
    let k : a - 4000000000 < length ws = slice_get_within ws (a - 4000000000) x (sym (own_high ws a l) ∙ e) in
    (l, omega arith)

pub either_low : (f : ℕ → Option ℕ) (ws : List ℕ) (a : ℕ) → a < 4000000000 → either f ws a ≡ f a
either_low f ws a l = ap (λ (c : Bool). cond c (f a) (only_final (own_at ws a))) (lt-ltb a 4000000000 l)

pub either_high : (f : ℕ → Option ℕ) (ws : List ℕ) (a : ℕ) → 4000000000 ≤ a → either f ws a ≡ only_final (own_at ws a)
either_high f ws a l = ap (λ (c : Bool). cond c (f a) (only_final (own_at ws a))) (le-ltb a 4000000000 l)

either_on : (f g : ℕ → Option ℕ) (ws : List ℕ) (a y : ℕ) → ((y : ℕ) → f a ≡ Some y → g a ≡ Some y) → either f ws a ≡ Some y
    → either g ws a ≡ Some y
either_on f g ws a y h e = ⊎_elim (λ (l : a < 4000000000). either_low g ws a l ∙ h y (sym (either_low f ws a l) ∙ e))
    (λ (l : 4000000000 ≤ a). either_high g ws a l ∙ (sym (either_high f ws a l) ∙ e)) (cases_lt a 4000000000)

module _ {V : Type 0} {addresses : V → ℕ} {sound : V → Type 0} {knows : V → ℕ → Type 0} {had : V → ℕ → ℕ → Type 0}
    {leads : V → ℕ → Type 0} {own shown : V → ℕ → Option ℕ} {later : V → V → Type 0} {gave : V → V → ℕ → ℕ → Type 0}
    (laws : WordsLaws {S = V} addresses sound knows had leads own shown later gave) where
  known_on : (v w : V) (ws : List ℕ) (a : ℕ) → later v w → KnownBeside (knows v) ws a → KnownBeside (knows w) ws a
  known_on v w ws a l k = ⊎_elim (λ i. inl (laws.stays_known v w a l i.0, i.1)) (λ i. inr i) k

  in_own : (v w : V) (ws : List ℕ) (x : ℕ) → later v w → InOwn (knows v) ws x → InOwn (knows w) ws x
  in_own v w ws x l i = record {
    refers = λ b c d r. known_on v w ws b l (i.refers b c d r);
    told = i.told;
    refers_by = λ t y n b c d e f g r. known_on v w ws b l (i.refers_by t y n b c d e f g r);
    part = i.part;
    part_final = i.part_final;
    part_final_by = i.part_final_by;
  }

  -- what a word below refers to is below
  low_known : (v : V) (a : ℕ) → sound v → addresses v ≤ 4000000000 → knows v a → a < 4000000000
  low_known v a s few k = let l : a < addresses v = laws.in_range v a s k in omega arith

  abbrev Sound : V → List ℕ → Type 0
  Sound v ws = SoundBeside addresses sound knows leads shown later v ws

  -- what is sound stays so
  sound_on : (v w : V) (ws ws' : List ℕ) → later v w → ws' ≡ ws → Sound v ws → Sound w ws'
  sound_on v w ws ws' l e s = subst (Sound w) (sym e) (
    laws.stays_sound v w s.0 l,
    (let k : addresses v ≤ 4000000000 = s.1 in omega (arith, laws.fixed v w l)),
    record {
      few = s.2.few;
      process = s.2.process;
      arguments = s.2.arguments;
      each = λ a x f. ⊎_elim (λ i. inl (laws.stays_leading v w x l i)) (λ i. inr (in_own v w ws x l i)) (s.2.each a x f);
    },
    λ u k. s.3 u (laws.twice v w u l k),
  )

  -- a number below tells of words below
  below_told : (v : V) (ws : List ℕ) (x t y : ℕ) (c : Cell) → Sound v ws → leads v x → decoded x ≡ Some c → teller c ≡ Some t
      → own_at ws t ≡ Some y → ⊥
  below_told v ws x t y c s l d k e =
      let q = low_known v t s.0 s.1 (laws.reaches v x t c s.0 l d (refers_teller c t k)) in
      let o = own_above ws t y e in
      omega arith

  told_none : (x t : ℕ) (c e : Cell) → decoded x ≡ Some c → tells_all c → decoded x ≡ Some e → teller e ≡ Some t → ⊥
  told_none x t c e d n f g = let h : c ≡ e = cc in let k : None ≡ Some t = sym n ∙ (ap teller h ∙ g) in cc

  -- two cells of one word
  one_cell : (x : ℕ) (c e : Cell) → decoded x ≡ Some c → decoded x ≡ Some e → e ≡ c
  one_cell x c e d f = same_Some _ _ (sym f ∙ d)

  -- The laws of anything that has a store and own words, and stays the same in what it has else.
  module _ {B : Type 0} (store : B → V) (beside : B → List ℕ) (Same : B → B → Type 0) (same : (x : B) → Same x x)
      (along : (x y z : B) → Same x y → Same y z → Same x z) where
    pub laws_beside : WordsLaws {S = B} (λ b. 4000000000 + length (beside b)) (λ b. Sound (store b) (beside b))
        (λ b a. KnownBeside (knows (store b)) (beside b) a) (λ b a x. HadBeside had (store b) (beside b) a x)
        (λ b x. LeadsBeside knows leads (store b) (beside b) x) (λ b. own_at (beside b)) (λ b. either (shown (store b)) (beside b))
        (λ x y. (later (store x) (store y)) × Same x y × (beside y ≡ beside x))
        (λ x y a v. ((gave (store x) (store y) a v) × (a < 4000000000) × Same x y × (beside y ≡ beside x))
        ⊎ ((later (store x) (store y)) × (own_at (beside y) a ≡ Some v) × Same x y × (beside y ≡ beside x)))
    laws_beside = record {
      still = λ w s. (laws.still (store w) s.0, same w, refl);
      twice = λ u v w a b. (laws.twice _ _ _ a.0 b.0, along u v w a.1 b.1, b.2 ∙ a.2);
      stays_sound = λ v w s l. sound_on (store v) (store w) (beside v) (beside w) l.0 l.2 s;
      stays_known = λ v w a l k. ⊎_elim (λ i. inl (laws.stays_known _ _ a l.0 i.0, i.1))
          (λ i. inr (i.0, subst (λ (ws : List ℕ). a < 4000000000 + length ws) (sym l.2) i.1)) k;
      stays_had = λ v w a x l h. ⊎_elim (λ i. inl (laws.stays_had _ _ a x l.0 i.0, i.1))
          (λ i. inr (subst (λ (ws : List ℕ). own_at ws a ≡ Some x) (sym l.2) i)) h;
      stays_leading = λ v w x l h. ⊎_elim (λ i. inl (laws.stays_leading _ _ x l.0 i))
          (λ i. inr (subst (λ (ws : List ℕ). InOwn (knows (store w)) ws x) (sym l.2) (in_own _ _ _ x l.0 i))) h;
      stays_shown = λ v w a x l h. subst (λ (ws : List ℕ). either (shown (store w)) ws a ≡ Some x) (sym l.2)
          (either_on (shown (store v)) (shown (store w)) (beside v) a x (λ y i. laws.stays_shown _ _ a y l.0 i) h);
      same_own = λ v w a l. ap (λ (ws : List ℕ). own_at ws a) l.2;
      fixed = λ v w l. ap (λ (ws : List ℕ). 4000000000 + length ws) l.2;
      gave_after = λ u v w a x l g. ⊎_elim (λ i. inl (laws.gave_after _ _ _ a x l.0 i.0, i.1, along u v w l.1 i.2, i.3 ∙ l.2))
          (λ i. inr (laws.twice _ _ _ l.0 i.0, i.1, along u v w l.1 i.2, i.3 ∙ l.2)) g;
      gave_before = λ u v w a x g l. ⊎_elim (λ i. inl (laws.gave_before _ _ _ a x i.0 l.0, i.1, along u v w i.2 l.1, l.2 ∙ i.3))
          (λ i. inr (
            laws.twice _ _ _ i.0 l.0,
            subst (λ (ws : List ℕ). own_at ws a ≡ Some x) (sym l.2) i.1,
            along u v w i.2 l.1,
            l.2 ∙ i.3,
          )) g;
      had_given = λ v w a x g. ⊎_elim (λ i. inl (laws.had_given _ _ a x i.0, i.1)) (λ i. inr i.1) g;
      had_known = λ w a x s h. ⊎_elim (λ i. inl (laws.had_known _ a x s.0 i.0, i.1)) (λ i. inr (own_is (beside w) a x i)) h;
      in_range = λ w a s k. ⊎_elim (λ i. let h : a < 4000000000 = i.1 in omega arith) (λ i. i.1) k;
      few = λ w s. let h : length (beside w) ≤ 0x100000000 - 4000000000 = s.2.few in omega arith;
      had_leads = λ w a x s h. ⊎_elim (λ i. inl (laws.had_leads _ a x s.0 i.0)) (λ i. s.2.each a x i) h;
      reaches = λ w x b c s l d r. ⊎_elim
          (λ i. let k = laws.reaches (store w) x b c s.0 i d r in inl (k, low_known (store w) b s.0 s.1 k)) (λ i. i.refers b c d r) l;
      reaches_by = λ w x t y n b c s l d k h e r. ⊎_elim
          (λ i. ⊎_elim
          (λ j. let q = laws.reaches_by (store w) x t y n b c s.0 i d k j.0 e r in inl (q, low_known (store w) b s.0 s.1 q))
          (λ j. absurd (below_told (store w) (beside w) x t y c s i d k j)) h)
          (λ i. ⊎_elim (λ j. absurd (let o : 4000000000 ≤ t = i.told t c d k in let q : t < 4000000000 = j.1 in omega arith))
          (λ j. i.refers_by t y n b c d k j e r) h) l;
      plain = λ w x c s d t p f. inr (record {
        refers = λ b e g r. f b (subst (λ (z : Cell). Refers z b) (one_cell x c e d g) r);
        told = λ k e g h. absurd (told_none x k c e d t g h);
        refers_by = λ k y n b e g h _ _ _. absurd (told_none x k c e d t g h);
        part = λ b e g r. absurd (p b (subst (λ (z : Cell). HasPart z b) (one_cell x c e d g) r));
        part_final = λ b y e g r _. absurd (p b (subst (λ (z : Cell). HasPart z b) (one_cell x c e d g) r));
        part_final_by = λ k z n b y e g h _ _ _ _. absurd (told_none x k c e d t g h);
      });
      leads_below = λ w a x b c s h l d r. ⊎_elim
          (λ i. low_known (store w) b s.0 s.1 (laws.reaches (store w) x b c s.0 (laws.had_leads _ a x s.0 i.0) d r))
          (λ i. absurd (let o = own_above (beside w) a x i in omega arith)) h;
      leads_below_by = λ w a x t y n b c s h l d k j e r. ⊎_elim
          (λ i. let x_leads = laws.had_leads (store w) a x s.0 i.0 in
          ⊎_elim (λ q. low_known (store w) b s.0 s.1 (laws.reaches_by (store w) x t y n b c s.0 x_leads d k q.0 e r))
          (λ q. absurd (below_told (store w) (beside w) x t y c s x_leads d k q)) j)
          (λ i. absurd (let o = own_above (beside w) a x i in omega arith)) h;
      part_final = λ w x b y c s l d r h. ⊎_elim
          (λ i. ⊎_elim (λ j. laws.part_final (store w) x b y c s.0 i d r j.0)
          (λ j. absurd (let o = own_above (beside w) b y j in
          let q = low_known (store w) b s.0 s.1 (laws.reaches (store w) x b c s.0 i d (part_refers c b r)) in omega arith)) h)
          (λ i. ⊎_elim (λ j. absurd (let o : 4000000000 ≤ b = i.part b c d r in let q : b < 4000000000 = j.1 in omega arith))
          (λ j. i.part_final b y c d r j) h) l;
      part_final_by = λ w x t z n b y c s l d k i e r h. ⊎_elim
          (λ m. ⊎_elim
          (λ j. ⊎_elim (λ q. laws.part_final_by (store w) x t z n b y c s.0 m d k j.0 e r q.0)
          (λ q. absurd (let o = own_above (beside w) b y q in
          let v = low_known (store w) b s.0 s.1 (laws.reaches_by (store w) x t z n b c s.0 m d k j.0 e
          (part_by_refers n c b r)) in omega arith)) h)
          (λ j. absurd (below_told (store w) (beside w) x t z c s m d k j)) i)
          (λ m. let o : 4000000000 ≤ t = m.told t c d k in
          ⊎_elim (λ j. absurd (let q : t < 4000000000 = j.1 in omega arith))
          (λ j. ⊎_elim (λ q. absurd (let u : t < b = part_after n b t c r k in let v : b < 4000000000 = q.1 in omega arith))
          (λ q. m.part_final_by t z n b y c d k j e r q) h) i) l;
      behind_status = λ w p x b d s h e l u. ⊎_elim
          (λ i. let k = laws.behind_status (store w) p x b d s.0 i.0 e l u in inl (k, low_known (store w) b s.0 s.1 k))
          (λ i. inr (s.2.process p x b d i e l u)) h;
      arguments = λ w p x y n b d s h e k f l u. ⊎_elim
          (λ i. ⊎_elim
          (λ j. let r = laws.arguments (store w) p x y n b d s.0 i.0 e j.0 f l u in inl (r, low_known (store w) b s.0 s.1 r))
          (λ j. absurd (let r = low_known (store w) (p + 3) s.0 s.1
          (laws.behind_status (store w) p x (p + 3) d s.0 i.0 e (omega arith) (omega arith)) in
          let o = own_above (beside w) (p + 3) y j in omega arith)) k)
          (λ i. ⊎_elim (λ j. absurd (let o = own_above (beside w) p x i in let q : p + 3 < 4000000000 = j.1 in omega arith))
          (λ j. inr (s.2.arguments p x y n b d i e j f l u)) k) h;
      no_cycle = λ w s. s.3 (store w) (laws.still _ s.0);
      had_shown = λ w a x s h f. ⊎_elim
          (λ i. either_low (shown (store w)) (beside w) a i.1 ∙ laws.had_shown _ a x s.0 i.0 f)
          (λ i. either_high (shown (store w)) (beside w) a (own_above (beside w) a x i)
          ∙ (ap only_final i ∙ ap (λ (t : Bool). cond t (Some x) None) f)) h;
      own_had = λ w a x s e. inr e;
      own_range = λ w a x e. own_above (beside w) a x e;
    }

  -- of words beside which own ones are lent
  pub beside_laws : WordsLaws {S = Beside V} (λ b. 4000000000 + length b.own.now) (λ b. Sound b.words.now b.own.now)
      (λ b a. KnownBeside (knows b.words.now) b.own.now a) (λ b a x. HadBeside had b.words.now b.own.now a x)
      (λ b x. LeadsBeside knows leads b.words.now b.own.now x) (λ b. own_at b.own.now) (λ b. either (shown b.words.now) b.own.now)
      (λ x y. LaterBeside later x y) (λ x y a v. GaveBeside later gave x y a v)
  beside_laws = laws_beside {B = Beside V} (λ b. b.words.now) (λ b. b.own.now) (λ x y. y.words.ghost_name ≡ x.words.ghost_name) (λ x. refl)
      (λ x y z p q. q ∙ p)

  -- and of a state with own words
  pub pair_laws : WordsLaws {S = V × List ℕ} (λ b. 4000000000 + length b.1) (λ b. Sound b.0 b.1) (λ b a. KnownBeside (knows b.0) b.1 a)
      (λ b a x. HadBeside had b.0 b.1 a x) (λ b x. LeadsBeside knows leads b.0 b.1 x) (λ b. own_at b.1) (λ b. either (shown b.0) b.1)
      (λ x y. (later x.0 y.0) × Unit {0} × (y.1 ≡ x.1))
      (λ x y a v. ((gave x.0 y.0 a v) × (a < 4000000000) × Unit {0} × (y.1 ≡ x.1))
      ⊎ ((later x.0 y.0) × (own_at y.1 a ≡ Some v) × Unit {0} × (y.1 ≡ x.1)))
  pair_laws = laws_beside {B = V × List ℕ} (λ b. b.0) (λ b. b.1) (λ x y. Unit {0}) (λ x. tt) (λ x y z p q. tt)
