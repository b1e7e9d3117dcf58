-- The occurs check on words is the one on terms.
use Rattle.std.proofs.Common.{◌≡◌, ℕ, suc, ◌+◌, ◌<◌, ◌≤◌, Bool, true, false, cond, ℤ, List, [], ◌∷◌, ◌++◌, map, Option}
use Rattle.std.proofs.Common.{Some, None, refl, sym, ap, ap₂, ◌∙◌, subst, arith, append_assoc, append-nil}
use Rattle.std.specs.Prelude.{nat_eq}
use Rattle.heap_words.specs.Cells.{decoded}
use Rattle.heap_words.specs.Refers.{parts}
use Rattle.std.proofs.lemmas.Bool.{lt-ltb}
use Rattle.std.proofs.lemmas.Bool.Decides.{nat_tests}
use Rattle.heap_words.specs.Trails.{WordList, Memory, word_at}
use Rattle.heap_words.specs.declared.cell.Cell.{Cell}
use Rattle.heap_words.specs.declared.cell.Cell.TheVariants as cell
use Rattle.ro_unify.specs.Value.{Values, ends, goes, step_of, step_at, bound_step, open_at, is_unbound, leads_on, look_word}
use Rattle.ro_unify.specs.Occurs.{Occurs, at_end, here, leaf, node, hit, miss, open_of, whole_of, count_of, parts_of, words_after}
use Rattle.ro_unify.specs.Occurs as words
use Rattle.ro_unify.specs.declared.occurrence.Whole.{Whole}
use Rattle.ro_unify.specs.declared.occurrence.Whole.TheVariants as whole
use Rattle.ro_unify.specs.declared.look.Look.{Look}
use Rattle.ro_unify.specs.declared.look.Look.TheVariants as look
use Rattle.ro_unify.specs.declared.look.Step.TheVariants.{End, On}
use Rattle.fcp_model.specs.Places.{Variable, is_same}
use Rattle.fcp_model.specs.Terms.{Term, number, string, nil, cons, tuple, var, ro, first, Terms, none, more, Bindings, find}
use Rattle.fcp_model.specs.Occurs.{Found, then_found, or_else, found, walk, walks, behind_leaf, leaf_is, occurs}
use Rattle.fcp_model.specs.Occurs as terms
use Rattle.fcp_model.proofs.MoreSteps.{Refines, at_least, occurs_more}
use Rattle.unify_terms.specs.Denotes.{Naming, Denotes, DenotesAll, DenotesList, Stands, Names, NumberIn}
use Rattle.word_states.specs.Numbers.{part_count}
use Rattle.unify_terms.proofs.ValuesOfWords.{no_place, bound_on, solid_end, solid_on}

-- one list of terms behind another
abbrev pub with_terms : Terms Variable → Terms Variable → Terms Variable
with_terms none us = us
with_terms (more t ts) us = more t (with_terms ts us)

or_assoc : (a b c : Option Found) → or_else (or_else a b) c ≡ or_else a (or_else b c)
or_assoc None b c = refl
or_assoc (Some (terms.hit rs)) b c = refl
or_assoc (Some (terms.miss rs)) None c = refl
or_assoc (Some (terms.miss rs)) (Some (terms.hit qs)) c = refl
or_assoc (Some (terms.miss rs)) (Some (terms.miss qs)) None = refl
or_assoc (Some (terms.miss rs)) (Some (terms.miss qs)) (Some (terms.hit ps)) =
    ap (λ (z : List Variable). Some (terms.hit z)) (append_assoc rs qs ps)
or_assoc (Some (terms.miss rs)) (Some (terms.miss qs)) (Some (terms.miss ps)) =
    ap (λ (z : List Variable). Some (terms.miss z)) (append_assoc rs qs ps)

or_none : (a : Option Found) → or_else (Some (terms.miss [])) a ≡ a
or_none None = refl
or_none (Some (terms.hit rs)) = refl
or_none (Some (terms.miss rs)) = refl

walks_with : (lf : Variable → Option Found) (ts us : Terms Variable) → walks lf (with_terms ts us) ≡ or_else (walks lf ts) (walks lf us)
walks_with lf none us = sym (or_none (walks lf us))
walks_with lf (more t ts) us = ap (or_else (walk lf t)) (walks_with lf ts us) ∙ sym (or_assoc (walk lf t) (walks lf ts) (walks lf us))

-- the same reads behind those before, named
pub data FoundIs (p : Naming) (rs : List ℕ) : words.Found → Found → Type 0 where
  hits : (rs' : List ℕ) (qs : List Variable) → map p.name rs' ≡ map p.name rs ++ qs → FoundIs p rs (words.hit rs') (terms.hit qs)
  misses : (rs' : List ℕ) (qs : List Variable) → map p.name rs' ≡ map p.name rs ++ qs → FoundIs p rs (words.miss rs') (terms.miss qs)

pub map_end : (f : ℕ → Variable) (rs : List ℕ) (a : ℕ) → map f (rs ++ a ∷ []) ≡ map f rs ++ f a ∷ []
map_end f [] a = refl
map_end f (r ∷ rs) a = ap (λ (z : List Variable). f r ∷ z) (map_end f rs a)

module _ (p : Naming) (bs : WordList) (m : Memory) (s : Bindings) (stands : Stands p m bs s) where
  -- the parts of a term
  abbrev pub parts_of_term : Term Variable → Terms Variable
  parts_of_term (cons t u) = more t (more u none)
  parts_of_term (tuple ts) = ts
  parts_of_term _ = none

  -- a term that is no variable is walked by its parts
  pub data Solid : Term Variable → Type 0 where
    solid_number : (z : ℤ) → Solid (number z)
    solid_string : (n : ℕ) → Solid (string n)
    solid_nil : Solid nil
    solid_cons : (t u : Term Variable) → Solid (cons t u)
    solid_tuple : (ts : Terms Variable) → Solid (tuple ts)

  pub or_miss : (a : Option Found) → or_else a (Some (terms.miss [])) ≡ a
  or_miss None = refl
  or_miss (Some (terms.hit rs)) = refl
  or_miss (Some (terms.miss rs)) = ap (λ (z : List Variable). Some (terms.miss z)) (let h : rs ++ [] ≡ rs = append-nil rs in h)

  pub walk_parts : (lf : Variable → Option Found) (t : Term Variable) → Solid t → walk lf t ≡ walks lf (parts_of_term t)
  walk_parts lf _ (solid_number z) = refl
  walk_parts lf _ (solid_string n) = refl
  walk_parts lf _ solid_nil = refl
  walk_parts lf _ (solid_cons t u) = ap (or_else (walk lf t)) (sym (or_miss (walk lf u)))
  walk_parts lf _ (solid_tuple ts) = refl

  -- words behind an address, in a list
  all_list : (ts : Terms Variable) (a : ℕ) → DenotesAll p m ts a → DenotesList p m ts (words_after m a (part_count ts))
  all_list none a d = tt
  all_list (more t ts) a d = (d.0, all_list ts (a + 1) d.1)

  atom_parts : (c : Cell) (z : ℤ) → NumberIn m c z → whole_of (Some c) ≡ whole.Atom
  atom_parts (cell.Small y) z e = refl
  atom_parts (cell.Wide a h) z e = refl
  atom_parts (cell.Unbound k) z e = refl
  atom_parts (cell.Ref a) z e = refl
  atom_parts (cell.RoRef a) z e = refl
  atom_parts (cell.Str t) z e = refl
  atom_parts cell.Nil z e = refl
  atom_parts (cell.Cons a) z e = absurd e
  atom_parts (cell.Tuple a) z e = absurd e
  atom_parts (cell.Status d) z e = refl
  atom_parts (cell.Raw k) z e = refl
  atom_parts (cell.Top a) z e = refl

  pub parts_denoted : (t : Term Variable) (x : ℕ) → Solid t → Denotes p m t x
      → DenotesList p m (parts_of_term t) (parts_of m (whole_of (decoded x)))
  parts_denoted _ x (solid_number z) d =
      subst (λ (w : Whole). DenotesList p m none (parts_of m w)) (sym (ap whole_of d.1 ∙ atom_parts d.0 z d.2)) tt
  parts_denoted _ x (solid_string n) d = subst (λ (w : Whole). DenotesList p m none (parts_of m w)) (sym (ap whole_of d.1)) tt
  parts_denoted _ x solid_nil d = subst (λ (w : Whole). DenotesList p m none (parts_of m w)) (sym (ap whole_of d)) tt
  parts_denoted _ x (solid_cons t u) d =
      subst (λ (w : Whole). DenotesList p m (more t (more u none)) (parts_of m w)) (sym (ap whole_of d.1)) (d.2, (d.3, tt))
  parts_denoted _ x (solid_tuple ts) d =
      let n : count_of (decoded (m d.0)) ≡ part_count ts = ap count_of d.2 ∙ small (part_count ts) d.3 in
      subst (λ (w : Whole). DenotesList p m ts (parts_of m w)) (sym (ap whole_of d.1))
      (subst (λ (k : ℕ). DenotesList p m ts (words_after m d.0 k)) (sym n) (all_list ts d.0 d.4))
    where
      small : (n : ℕ) → n < 66 → parts n ≡ n
      small n h = ap (λ (b : Bool). cond b n 2) (lt-ltb n 66 h)

  pub list_with : (ts us : Terms Variable) (vs ws : List ℕ) → DenotesList p m ts vs → DenotesList p m us ws
      → DenotesList p m (with_terms ts us) (vs ++ ws)
  list_with none us [] ws d e = e
  list_with (more t ts) us (v ∷ vs) ws d e = (d.0, list_with ts us vs ws d.1 e)
  list_with none us (v ∷ vs) ws d e = absurd d
  list_with (more t ts) us [] ws d e = absurd d

  -- one place more
  leaf_on : (v q : Variable) (t : Term Variable) (n : ℕ) → find s q ≡ Some t → leaf_is (suc n) s v q ≡ walk (leaf_is n s v) t
  leaf_on v q t n e = ap (behind_leaf (walk (leaf_is n s v)) v q) e

  leaf_open : (v q : Variable) (n : ℕ) → find s q ≡ None → leaf_is (suc n) s v q ≡ found (is_same v q) (q ∷ [])
  leaf_open v q n e = ap (behind_leaf (walk (leaf_is n s v)) v q) e

  -- what walks of the term behind a word come to
  abbrev pub Reaches : Variable → Term Variable → Term Variable → Type 0
  Reaches v t u = (n : ℕ) (g : Found) → walk (leaf_is n s v) u ≡ Some g → (k : ℕ) × (walk (leaf_is k s v) t ≡ Some g)

  pub record Behind (v : Variable) (t : Term Variable) (x : ℕ) : Type 0 where
    pub term : Term Variable
    pub is_solid : Solid term
    pub denoted : Denotes p m term x
    pub reaches : Reaches v t term

  here_solid : (v : Variable) (only : Bool) (w x : ℕ) (l : Look) (t : Term Variable) → Solid t → Denotes p m t w
      → leads_on only (decoded w) ≡ None → step_of bs m only w ≡ End l → l ≡ look.Solid x → Behind v t x
  here_solid v only w x l t h d shut f e = record {
    term = t;
    is_solid = h;
    denoted = subst (Denotes p m t)
        (let k : look.Solid w ≡ look.Solid x = sym (solid_end p bs m s stands only w l shut f) ∙ e in ap look_word k) d;
    reaches = λ n g r. (n, r);
  }

  on_var : (v q : Variable) (t1 : Term Variable) (x : ℕ) (t : Term Variable) → find s q ≡ Some t1
      → ((n : ℕ) → walk (leaf_is n s v) t ≡ leaf_is n s v q) → Behind v t1 x → Behind v t x
  on_var v q t1 x t e is b = record {
    term = b.term;
    is_solid = b.is_solid;
    denoted = b.denoted;
    reaches = λ n g r. let k = b.reaches n g r in (suc k.0, is (suc k.0) ∙ (leaf_on v q t1 k.0 e ∙ k.1));
  }

  no_open : (only : Bool) (w : ℕ) (l : Look) (x a : ℕ) (c : Bool) → leads_on only (decoded w) ≡ Some (c, a) → step_of bs m only w ≡ End l
      → l ≡ look.Solid x → ⊥
  no_open only w l x a c i f e = go (word_at bs a) (is_unbound (decoded (m a))) refl refl
    where
      g : bound_step c a (word_at bs a) (m a) ≡ End l
      g = sym (ap (step_at bs m w) i) ∙ f

      open_not : (o : Bool) → open_at o a ≡ look.Solid x → ⊥
      open_not true h = cc
      open_not false h = cc

      go : (o : Option ℕ) (u : Bool) → word_at bs a ≡ o → is_unbound (decoded (m a)) ≡ u → ⊥
      go (Some y) u j k = let h : On c y ≡ End l = sym (ap (λ (o : Option ℕ). bound_step c a o (m a)) j) ∙ g in cc
      go None true j k =
          let h : End (open_at c a) ≡ End l =
          sym (ap (λ (o : Option ℕ). bound_step c a o (m a)) j ∙ ap (λ (d : Bool). cond d (End (open_at c a)) (On c (m a))) k) ∙ g in
          open_not c ((let q : open_at c a ≡ l = cc in q) ∙ e)
      go None false j k =
          let h : On c (m a) ≡ End l =
          sym (ap (λ (o : Option ℕ). bound_step c a o (m a)) j ∙ ap (λ (d : Bool). cond d (End (open_at c a)) (On c (m a))) k) ∙ g in cc

  pub behind : (v : Variable) (only : Bool) (w x : ℕ) (l : Look) → Values bs m only w l → l ≡ look.Solid x → (t : Term Variable)
      → Denotes p m t w → Behind v t x
  behind v _ _ x _ (ends only w l f) e (number z) d =
      here_solid v only w x l (number z) (solid_number z) d (ap (leads_on only) d.1 ∙ no_place m only d.0 z d.2) f e
  behind v _ _ x _ (ends only w l f) e (string z) d = here_solid v only w x l (string z) (solid_string z) d (ap (leads_on only) d.1) f e
  behind v _ _ x _ (ends only w l f) e nil d = here_solid v only w x l nil solid_nil d (ap (leads_on only) d) f e
  behind v _ _ x _ (ends only w l f) e (cons t u) d = here_solid v only w x l (cons t u) (solid_cons t u) d (ap (leads_on only) d.1) f e
  behind v _ _ x _ (ends only w l f) e (tuple ts) d = here_solid v only w x l (tuple ts) (solid_tuple ts) d (ap (leads_on only) d.1) f e
  behind v _ _ x _ (ends only w l f) e (var q) d = absurd (no_open only w l x d.0 only (ap (leads_on only) d.1) f e)
  behind v _ _ x _ (ends only w l f) e (ro q) d = absurd (no_open only w l x d.0 true (ap (leads_on only) d.1) f e)
  behind v _ _ x _ (ends only w l f) e (first k) d = absurd d
  behind v _ _ x _ (goes only w o y l f h) e (number z) d =
      absurd (solid_on p bs m s stands only w o y (ap (leads_on only) d.1 ∙ no_place m only d.0 z d.2) f)
  behind v _ _ x _ (goes only w o y l f h) e (string z) d = absurd (solid_on p bs m s stands only w o y (ap (leads_on only) d.1) f)
  behind v _ _ x _ (goes only w o y l f h) e nil d = absurd (solid_on p bs m s stands only w o y (ap (leads_on only) d) f)
  behind v _ _ x _ (goes only w o y l f h) e (cons t u) d = absurd (solid_on p bs m s stands only w o y (ap (leads_on only) d.1) f)
  behind v _ _ x _ (goes only w o y l f h) e (tuple ts) d = absurd (solid_on p bs m s stands only w o y (ap (leads_on only) d.1) f)
  behind v _ _ x _ (goes only w o y l f h) e (var q) d =
      let r = bound_on p bs m s stands only d.0 o y q d.2.0 d.2.1 (sym (ap (λ c. step_at bs m w (leads_on only c)) d.1) ∙ f) in
      on_var v q r.1.0 x (var q) r.1.1 (λ n. refl) (behind v o y x l h e r.1.0 r.1.2)
  behind v _ _ x _ (goes only w o y l f h) e (ro q) d =
      let r = bound_on p bs m s stands true d.0 o y q d.2.0 d.2.1 (sym (ap (λ c. step_at bs m w (leads_on only c)) d.1) ∙ f) in
      on_var v q r.1.0 x (ro q) r.1.1 (λ n. refl) (behind v o y x l h e r.1.0 r.1.2)
  behind v _ _ x _ (goes only w o y l f h) e (first k) d = absurd d

  -- an open place behind a word
  pub record Opens (v : Variable) (t : Term Variable) (a : ℕ) : Type 0 where
    pub steps : ℕ
    pub placed : p.is_place a ≡ true
    pub walked : walk (leaf_is steps s v) t ≡ found (is_same v (p.name a)) (p.name a ∷ [])

  end_open : (v q : Variable) (only c : Bool) (w b a : ℕ) (l : Look) (t : Term Variable)
      → ((n : ℕ) → walk (leaf_is n s v) t ≡ leaf_is n s v q) → p.is_place b ≡ true → p.name b ≡ q → leads_on only (decoded w) ≡ Some (c, b)
      → step_of bs m only w ≡ End l → open_of l ≡ Some a → Opens v t a
  end_open v q only c w b a l t is h i k f e = go (word_at bs b) (is_unbound (decoded (m b))) refl refl
    where
      g : bound_step c b (word_at bs b) (m b) ≡ End l
      g = sym (ap (step_at bs m w) k) ∙ f

      open_is : (o : Bool) → open_of (open_at o b) ≡ Some b
      open_is true = refl
      open_is false = refl

      go : (o : Option ℕ) (u : Bool) → word_at bs b ≡ o → is_unbound (decoded (m b)) ≡ u → Opens v t a
      go (Some y) u j z = let r : On c y ≡ End l = sym (ap (λ (o : Option ℕ). bound_step c b o (m b)) j) ∙ g in cc
      go None false j z =
          let r : On c (m b) ≡ End l =
          sym (ap (λ (o : Option ℕ). bound_step c b o (m b)) j ∙ ap (λ (d : Bool). cond d (End (open_at c b)) (On c (m b))) z) ∙ g in cc
      go None true j z =
          let r : End (open_at c b) ≡ End l =
          sym (ap (λ (o : Option ℕ). bound_step c b o (m b)) j ∙ ap (λ (d : Bool). cond d (End (open_at c b)) (On c (m b))) z) ∙ g in
          let y : Some b ≡ Some a = sym (open_is c) ∙ (ap open_of (let x : open_at c b ≡ l = cc in x) ∙ e) in
          let ba : b ≡ a = cc in
          let qa : q ≡ p.name a = sym i ∙ ap p.name ba in
          record {
            steps = 1;
            placed = subst (λ (x : ℕ). p.is_place x ≡ true) ba h;
            walked = is 1 ∙ (leaf_open v q 0 (ap (find s) (sym i) ∙ stands.unbound b h j z) ∙ ap
                (λ (x : Variable). found (is_same v x) (x ∷ [])) qa);
          }

  opens_on : (v q : Variable) (t1 : Term Variable) (a : ℕ) (t : Term Variable) → find s q ≡ Some t1
      → ((n : ℕ) → walk (leaf_is n s v) t ≡ leaf_is n s v q) → Opens v t1 a → Opens v t a
  opens_on v q t1 a t e is o =
      record { steps = suc o.steps; placed = o.placed; walked = is (suc o.steps) ∙ (leaf_on v q t1 o.steps e ∙ o.walked) }

  no_solid : (only : Bool) (w a : ℕ) (l : Look) → leads_on only (decoded w) ≡ None → step_of bs m only w ≡ End l → open_of l ≡ Some a → ⊥
  no_solid only w a l shut f e = let k : None ≡ Some a = sym (ap open_of (solid_end p bs m s stands only w l shut f)) ∙ e in cc

  pub opened : (v : Variable) (only : Bool) (w a : ℕ) (l : Look) → Values bs m only w l → open_of l ≡ Some a → (t : Term Variable)
      → Denotes p m t w → Opens v t a
  opened v _ _ a _ (ends only w l f) e (number z) d = absurd (no_solid only w a l (ap (leads_on only) d.1 ∙ no_place m only d.0 z d.2) f e)
  opened v _ _ a _ (ends only w l f) e (string z) d = absurd (no_solid only w a l (ap (leads_on only) d.1) f e)
  opened v _ _ a _ (ends only w l f) e nil d = absurd (no_solid only w a l (ap (leads_on only) d) f e)
  opened v _ _ a _ (ends only w l f) e (cons t u) d = absurd (no_solid only w a l (ap (leads_on only) d.1) f e)
  opened v _ _ a _ (ends only w l f) e (tuple ts) d = absurd (no_solid only w a l (ap (leads_on only) d.1) f e)
  opened v _ _ a _ (ends only w l f) e (var q) d =
      end_open v q only only w d.0 a l (var q) (λ n. refl) d.2.0 d.2.1 (ap (leads_on only) d.1) f e
  opened v _ _ a _ (ends only w l f) e (ro q) d =
      end_open v q only true w d.0 a l (ro q) (λ n. refl) d.2.0 d.2.1 (ap (leads_on only) d.1) f e
  opened v _ _ a _ (ends only w l f) e (first k) d = absurd d
  opened v _ _ a _ (goes only w o y l f h) e (number z) d =
      absurd (solid_on p bs m s stands only w o y (ap (leads_on only) d.1 ∙ no_place m only d.0 z d.2) f)
  opened v _ _ a _ (goes only w o y l f h) e (string z) d = absurd (solid_on p bs m s stands only w o y (ap (leads_on only) d.1) f)
  opened v _ _ a _ (goes only w o y l f h) e nil d = absurd (solid_on p bs m s stands only w o y (ap (leads_on only) d) f)
  opened v _ _ a _ (goes only w o y l f h) e (cons t u) d = absurd (solid_on p bs m s stands only w o y (ap (leads_on only) d.1) f)
  opened v _ _ a _ (goes only w o y l f h) e (tuple ts) d = absurd (solid_on p bs m s stands only w o y (ap (leads_on only) d.1) f)
  opened v _ _ a _ (goes only w o y l f h) e (var q) d =
      let r = bound_on p bs m s stands only d.0 o y q d.2.0 d.2.1 (sym (ap (λ c. step_at bs m w (leads_on only c)) d.1) ∙ f) in
      opens_on v q r.1.0 a (var q) r.1.1 (λ n. refl) (opened v o y a l h e r.1.0 r.1.2)
  opened v _ _ a _ (goes only w o y l f h) e (ro q) d =
      let r = bound_on p bs m s stands true d.0 o y q d.2.0 d.2.1 (sym (ap (λ c. step_at bs m w (leads_on only c)) d.1) ∙ f) in
      opens_on v q r.1.0 a (ro q) r.1.1 (λ n. refl) (opened v o y a l h e r.1.0 r.1.2)
  opened v _ _ a _ (goes only w o y l f h) e (first k) d = absurd d

-- the answer of two walks one after another
pub first_answer : (a b : Option Found) (g : Found) → or_else a b ≡ Some g
    → (h : Found) × (a ≡ Some h) × ((a' b' : Option Found) → a' ≡ Some h → Refines b b' → or_else a' b' ≡ Some g)
first_answer None b g e = cc
first_answer (Some (terms.hit rs)) b g e = (terms.hit rs, refl, λ a' b' i r. ap (λ (o : Option Found). or_else o b') i ∙ e)
first_answer (Some (terms.miss rs)) b g e = (terms.miss rs, refl, λ a' b' i r. ap (λ (o : Option Found). or_else o b') i ∙ second b b' r e)
  where
    second : (b b' : Option Found) → Refines b b' → then_found rs b ≡ Some g → then_found rs b' ≡ Some g
    second None b' r h = cc
    second (Some x) b' r h = ap (then_found rs) (r x refl) ∙ h

module _ (p : Naming) (bs : WordList) (m : Memory) (s : Bindings) (stands : Stands p m bs s) (names : Names p m) (a : ℕ)
    (placed : p.is_place a ≡ true) where
  -- what the words' check found, the terms' check finds by some number of steps
  pub record Finds (ts : Terms Variable) (rs : List ℕ) (f : words.Found) : Type 0 where
    pub steps : ℕ
    pub answer : Found
    pub finds : walks (leaf_is steps s (p.name a)) ts ≡ Some answer
    pub is : FoundIs p rs f answer

  same_here : (b : ℕ) (c : Bool) → p.is_place b ≡ true → nat_eq b a ≡ c → is_same (p.name a) (p.name b) ≡ c
  same_here b c h e = names.same a b placed h ∙ (swap ∙ e)
    where
      swap : nat_eq a b ≡ nat_eq b a
      swap = grind (arith, nat_tests)

  here_finds : (t : Term Variable) (ts : Terms Variable) (rs : List ℕ) (b : ℕ) → Opens p bs m s stands (p.name a) t b → nat_eq b a ≡ true
      → Finds (more t ts) rs (words.hit (rs ++ b ∷ []))
  here_finds t ts rs b o e = record {
    steps = o.steps;
    answer = terms.hit (p.name b ∷ []);
    finds = ap (λ (r : Option Found). or_else r (walks (leaf_is o.steps s (p.name a)) ts))
        (o.walked ∙ ap (λ (c : Bool). found c (p.name b ∷ [])) (same_here b true o.placed e));
    is = hits (rs ++ b ∷ []) (p.name b ∷ []) (map_end p.name rs b);
  }

  later_found : (rs : List ℕ) (b : ℕ) (f : words.Found) (g : Found) → FoundIs p (rs ++ b ∷ []) f g
      → (h : Found) × (then_found (p.name b ∷ []) (Some g) ≡ Some h) × FoundIs p rs f h
  later_found rs b _ _ (hits rs' qs e) = (
    terms.hit (p.name b ∷ qs),
    refl,
    hits rs' (p.name b ∷ qs)
        (e ∙ (ap (λ (z : List Variable). z ++ qs) (map_end p.name rs b) ∙ append_assoc (map p.name rs) (p.name b ∷ []) qs)),
  )
  later_found rs b _ _ (misses rs' qs e) = (
    terms.miss (p.name b ∷ qs),
    refl,
    misses rs' (p.name b ∷ qs)
        (e ∙ (ap (λ (z : List Variable). z ++ qs) (map_end p.name rs b) ∙ append_assoc (map p.name rs) (p.name b ∷ []) qs)),
  )

  list_more : (n k : ℕ) (ts : Terms Variable) (g : Found) → n ≤ k → walks (leaf_is n s (p.name a)) ts ≡ Some g
      → walks (leaf_is k s (p.name a)) ts ≡ Some g
  list_more n k ts g l e = at_least (λ (i : ℕ). occurs i s (p.name a) (tuple ts)) (occurs_more s (p.name a) (tuple ts)) n k l g e

  term_more : (n k : ℕ) (t : Term Variable) (g : Found) → n ≤ k → walk (leaf_is n s (p.name a)) t ≡ Some g
      → walk (leaf_is k s (p.name a)) t ≡ Some g
  term_more n k t g l e = at_least (λ (i : ℕ). occurs i s (p.name a) t) (occurs_more s (p.name a) t) n k l g e

  leaf_finds : (t : Term Variable) (ts : Terms Variable) (rs : List ℕ) (b : ℕ) (f : words.Found) → Opens p bs m s stands (p.name a) t b
      → nat_eq b a ≡ false → Finds ts (rs ++ b ∷ []) f → Finds (more t ts) rs f
  leaf_finds t ts rs b f o e r =
      let h = later_found rs b f r.answer r.is in
      record {
        steps = o.steps + r.steps;
        answer = h.0;
        finds = ap₂ or_else (term_more o.steps (o.steps + r.steps) t (terms.miss (p.name b ∷ [])) (omega arith)
            (o.walked ∙ ap (λ (c : Bool). found c (p.name b ∷ [])) (same_here b false o.placed e)))
            (list_more r.steps (o.steps + r.steps) ts r.answer (omega arith) r.finds) ∙ h.1;
        is = h.2;
      }

  node_finds : (t : Term Variable) (ts : Terms Variable) (rs : List ℕ) (x : ℕ) (f : words.Found)
      → (b : Behind p bs m s stands (p.name a) t x) → Finds (with_terms (parts_of_term p bs m s stands b.term) ts) rs f
      → Finds (more t ts) rs f
  node_finds t ts rs x f b r =
      let lf = leaf_is r.steps s (p.name a) in
      let e : or_else (walk lf b.term) (walks lf ts) ≡ Some r.answer =
      ap (λ (o : Option Found). or_else o (walks lf ts)) (walk_parts p bs m s stands lf b.term b.is_solid) ∙
      (sym (walks_with lf (parts_of_term p bs m s stands b.term) ts) ∙ r.finds) in
      let h = first_answer (walk lf b.term) (walks lf ts) r.answer e in
      let k = b.reaches r.steps h.0 h.1 in
      record {
        steps = k.0 + r.steps;
        answer = r.answer;
        finds = h.2 (walk (leaf_is (k.0 + r.steps) s (p.name a)) t) (walks (leaf_is (k.0 + r.steps) s (p.name a)) ts)
            (term_more k.0 (k.0 + r.steps) t h.0 (omega arith) k.1) (λ g i. list_more r.steps (k.0 + r.steps) ts g (omega arith) i);
        is = r.is;
      }

  pub occurs_so : (ws rs : List ℕ) (f : words.Found) → Occurs bs m a ws rs f → (ts : Terms Variable) → DenotesList p m ts ws → Finds ts rs f
  occurs_so _ _ _ (at_end rs) none d =
      record { steps = 0; answer = terms.miss []; finds = refl; is = misses rs [] (sym (append-nil (map p.name rs))) }
  occurs_so _ _ _ (at_end rs) (more t ts) d = absurd d
  occurs_so _ _ _ (here w ws rs l b v o e) none d = absurd d
  occurs_so _ _ _ (here w ws rs l b v o e) (more t ts) d = here_finds t ts rs b (opened p bs m s stands (p.name a) false w b l v o t d.0) e
  occurs_so _ _ _ (leaf w ws rs l b f v o e r) none d = absurd d
  occurs_so _ _ _ (leaf w ws rs l b f v o e r) (more t ts) d =
      leaf_finds t ts rs b f (opened p bs m s stands (p.name a) false w b l v o t d.0) e (occurs_so ws (rs ++ b ∷ []) f r ts d.1)
  occurs_so _ _ _ (node w ws rs x f v r) none d = absurd d
  occurs_so _ _ _ (node w ws rs x f v r) (more t ts) d =
      let b = behind p bs m s stands (p.name a) false w x (look.Solid x) v refl t d.0 in
      node_finds t ts rs x f b
      (occurs_so (parts_of m (whole_of (decoded x)) ++ ws) rs f r (with_terms (parts_of_term p bs m s stands b.term) ts)
      (list_with p bs m s stands (parts_of_term p bs m s stands b.term) ts (parts_of m (whole_of (decoded x))) ws
      (parts_denoted p bs m s stands b.term x b.is_solid b.denoted) d.1))
