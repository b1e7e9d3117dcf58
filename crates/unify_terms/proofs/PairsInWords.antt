-- One pair of words is treated as the pair of their terms.
use Rattle.std.proofs.Common.{◌≡◌, ℕ, ◌-◌, ◌≤◌, Bool, true, false, cond, List, [], ◌∷◌, ◌++◌, map, Option}
use Rattle.std.proofs.Common.{Some, None, refl, sym, ap, ◌∙◌, subst, append_assoc, append-nil}
use Rattle.std.specs.Prelude.{nat_eq}
use Rattle.heap_words.specs.Cells.{encoded}
use Rattle.heap_words.specs.Trails.{WordList, Memory}
use Rattle.heap_words.specs.declared.cell.Cell.TheVariants as cell
use Rattle.heap_words.proofs.Encodings.{decoded_encoded}
use Rattle.ro_unify.specs.Value.{Values, IsOpen}
use Rattle.ro_unify.specs.Occurs.{Occurs, hit, miss}
use Rattle.ro_unify.specs.Occurs as words
use Rattle.ro_unify.specs.Alike.{alike}
use Rattle.ro_unify.specs.Table.{moved, older_of}
use Rattle.ro_unify.specs.Unify.{Does, Turn, goes, clashes, waits, ordered, look_reads}
use Rattle.ro_unify.specs.declared.table.Move.TheVariants as move
use Rattle.ro_unify.specs.declared.look.Look.{Look}
use Rattle.ro_unify.specs.declared.look.Look.TheVariants as look
use Rattle.ro_unify.proofs.Chains.{values_open, value_no_ref}
use Rattle.fcp_model.specs.Places.{Variable, is_same, is_older}
use Rattle.fcp_model.specs.Terms.{Term, var, ro, none, more, Bindings, find}
use Rattle.fcp_model.specs.Value.{writable, read_only, solid, value}
use Rattle.fcp_model.specs.Value as terms
use Rattle.fcp_model.specs.Occurs.{occurs}
use Rattle.fcp_model.specs.Occurs as checks
use Rattle.fcp_model.specs.Pair.{Pair, Step, binds, parts, compare, part_step, Treated, treated}
use Rattle.fcp_model.specs.Pair.{bind_solid, table, both_looks, first_of, pair_on, pair}
use Rattle.fcp_model.specs.Pair as pairs
use Rattle.fcp_model.proofs.MoreSteps.{at_least, occurs_more}
use Rattle.unify_terms.specs.Denotes.{Naming, Denotes, DenotesPairs, Stands, Names, IsPlace, LookIs}
use Rattle.unify_terms.proofs.OccursInWords.{FoundIs, hits, misses, map_end, or_miss, occurs_so}
use Rattle.unify_terms.proofs.AlikeInWords.{is_plain, plain_is, SameAlike, neither, both, alike_so}
use Rattle.unify_terms.proofs.MovesInWords.{does_nothing, does_wait, does_order, does_bind, Checked, was_found, was_absent, does_check}
use Rattle.unify_terms.proofs.MovesInWords.{Compared, were_alike, were_other, does_solids}
use Rattle.unify_terms.proofs.BindingsInWords.{plain_same, stands_bound}

module _ (p : Naming) (m : Memory) (names : Names p m) where
  -- a turn of the words as a step of the terms, under bindings of places
  pub data TurnIs (bs : WordList) (s : Bindings) : Turn → Step → Type 0 where
    idle : TurnIs bs s (goes bs []) pairs.nothing
    bound : (a x : ℕ) (v : Variable) (t : Term Variable) → IsPlace p m a v → find s v ≡ None
        → Stands p m (bs ++ (a, x) ∷ []) (s ++ (v, t) ∷ [])
        → TurnIs bs s (goes (bs ++ (a, x) ∷ []) []) (binds v t)
    split : (qs : List (ℕ × ℕ)) (ts : List Pair) → DenotesPairs p m ts qs → TurnIs bs s (goes bs qs) (parts ts)
    unlike : TurnIs bs s clashes pairs.clashes
    halts : TurnIs bs s waits pairs.waits

  pub record Treats_as (bs : WordList) (s : Bindings) (rs rs' : List ℕ) (t : Turn) (o : ℕ → Option Treated) : Type 0 where
    pub steps : ℕ
    pub step : Step
    pub reads : List Variable
    pub treats : (n : ℕ) → steps ≤ n → o n ≡ treated step reads
    pub read : map p.name rs' ≡ map p.name rs ++ reads
    pub is : TurnIs bs s t step

  -- the reads of a pair
  one_read : (rs : List ℕ) (a : ℕ) (v : Variable) → p.name a ≡ v → map p.name (rs ++ a ∷ []) ≡ map p.name rs ++ v ∷ []
  one_read rs a v e = map_end p.name rs a ∙ ap (λ (z : Variable). map p.name rs ++ z ∷ []) e

  two_reads : (rs : List ℕ) (a b : ℕ) (v w : Variable) → p.name a ≡ v → p.name b ≡ w
      → map p.name ((rs ++ a ∷ []) ++ b ∷ []) ≡ map p.name rs ++ v ∷ w ∷ []
  two_reads rs a b v w e f =
      one_read (rs ++ a ∷ []) b w f ∙
      (ap (λ (z : List Variable). z ++ w ∷ []) (one_read rs a v e) ∙ append_assoc (map p.name rs) (v ∷ []) (w ∷ []))

  more_reads : (rs rs0 rs' : List ℕ) (v : Variable) (qs : List Variable) → map p.name rs0 ≡ map p.name rs ++ v ∷ []
      → map p.name rs' ≡ map p.name rs0 ++ qs → map p.name rs' ≡ map p.name rs ++ v ∷ qs
  more_reads rs rs0 rs' v qs e f = f ∙ (ap (λ (z : List Variable). z ++ qs) e ∙ append_assoc (map p.name rs) (v ∷ []) qs)

  module _ (bs : WordList) (s : Bindings) (st : Stands p m bs s) (rs rs' : List ℕ) (t : Turn) where
    is_idle : (o : ℕ → Option Treated) (rs0 : List ℕ) (qs : List Variable) → (t ≡ goes bs []) × (rs' ≡ rs0)
        → map p.name rs0 ≡ map p.name rs ++ qs → ((n : ℕ) → o n ≡ treated pairs.nothing qs) → Treats_as bs s rs rs' t o
    is_idle o rs0 qs e f g =
        record {
          steps = 0;
          step = pairs.nothing;
          reads = qs;
          treats = λ n _. g n;
          read = ap (map p.name) e.1 ∙ f;
          is = subst
              (λ (z : Turn). TurnIs bs s z pairs.nothing) (sym e.0) idle;
        }

    is_halted : (o : ℕ → Option Treated) (rs0 : List ℕ) (qs : List Variable) → (t ≡ waits) × (rs' ≡ rs0)
        → map p.name rs0 ≡ map p.name rs ++ qs → ((n : ℕ) → o n ≡ treated pairs.waits qs) → Treats_as bs s rs rs' t o
    is_halted o rs0 qs e f g =
        record {
          steps = 0;
          step = pairs.waits;
          reads = qs;
          treats = λ n _. g n;
          read = ap (map p.name) e.1 ∙ f;
          is = subst
              (λ (z : Turn). TurnIs bs s z pairs.waits) (sym e.0) halts;
        }

    is_bound : (o : ℕ → Option Treated) (rs0 : List ℕ) (qs : List Variable) (a x : ℕ) (v : Variable) (u : Term Variable)
        → (t ≡ goes (bs ++ (a, x) ∷ []) []) × (rs' ≡ rs0) → map p.name rs0 ≡ map p.name rs ++ qs → IsOpen bs m a → p.is_place a ≡ true
        → p.name a ≡ v → Denotes p m u x → ((n : ℕ) → o n ≡ treated (binds v u) qs) → Treats_as bs s rs rs' t o
    is_bound o rs0 qs a x v u e f i h n d g =
        record {
          steps = 0;
          step = binds v u;
          reads = qs;
          treats = λ n _. g n;
          read = ap (map p.name) e.1 ∙ f;
          is = subst (λ (z : Turn). TurnIs bs s z (binds v u)) (sym e.0)
              (bound a x v u (h, n) (subst (λ (z : Variable). find s z ≡ None) n (st.unbound a h i.0 i.1))
              (stands_bound p m names bs s a x v u st i h n d));
        }

    ref_denotes : (a : ℕ) (v : Variable) → IsPlace p m a v → Denotes p m (var v) (encoded (cell.Ref a))
    ref_denotes a v i = (a, decoded_encoded (cell.Ref a) (names.below a i.0), i)

    ro_denotes : (a : ℕ) (v : Variable) → IsPlace p m a v → Denotes p m (ro v) (encoded (cell.RoRef a))
    ro_denotes a v i = (a, decoded_encoded (cell.RoRef a) (names.below a i.0), i)

    -- two names are the same where the places are
    names_are : (a b : ℕ) (v w : Variable) (c : Bool) → IsPlace p m a v → IsPlace p m b w → nat_eq a b ≡ c → is_same v w ≡ c
    names_are a b v w c i j e =
        subst (λ (y : Variable). is_same y w ≡ c) i.1 (subst (λ (z : Variable). is_same (p.name a) z ≡ c) j.1 (names.same a b i.0 j.0 ∙ e))

    two_open : (a b : ℕ) (v w : Variable) → IsPlace p m a v → IsPlace p m b w → IsOpen bs m a → IsOpen bs m b
        → Does bs m ((rs ++ a ∷ []) ++ b ∷ []) (moved (look.Writable a) (look.Writable b)) t rs'
        → Treats_as bs s rs rs' t (λ n. table n s (writable v) (writable w))
    two_open a b v w i j o q h = go (nat_eq a b) refl h
      where
        reads : map p.name ((rs ++ a ∷ []) ++ b ∷ []) ≡ map p.name rs ++ v ∷ w ∷ []
        reads = two_reads rs a b v w i.1 j.1

        names_older : (c : Bool) → nat_eq a b ≡ false → older_of a b (m (a - 1)) (m (b - 1)) ≡ c → is_older v w ≡ c
        names_older c e f =
            subst (λ (y : Variable). is_older y w ≡ c) i.1
            (subst (λ (z : Variable). is_older (p.name a) z ≡ c) j.1 (names.older a b i.0 j.0 e ∙ f))

        row : (c : Bool) → nat_eq a b ≡ false → is_older v w ≡ c → (n : ℕ)
            → table n s (writable v) (writable w) ≡ treated (cond c (binds w (var v)) (binds v (var w))) (v ∷ w ∷ [])
        row c e f n = ap (λ (d : Bool). treated (cond d pairs.nothing (cond (is_older v w) (binds w (var v)) (binds v (var w))))
            (v ∷ w ∷ [])) (names_are a b v w false i j e) ∙ ap
            (λ (d : Bool). treated (cond d (binds w (var v)) (binds v (var w))) (v ∷ w ∷ [])) f

        older : (c : Bool) → nat_eq a b ≡ false → older_of a b (m (a - 1)) (m (b - 1)) ≡ c
            → (t ≡ goes (bs ++ ordered a b c ∷ []) []) × (rs' ≡ (rs ++ a ∷ []) ++ b ∷ [])
            → Treats_as bs s rs rs' t (λ n. table n s (writable v) (writable w))
        older true e f g =
            is_bound (λ n. table n s (writable v) (writable w)) ((rs ++ a ∷ []) ++ b ∷ []) (v ∷ w ∷ []) b (encoded (cell.Ref a)) w
            (var v) g reads q j.0 j.1 (ref_denotes a v i) (row true e (names_older true e f))
        older false e f g =
            is_bound (λ n. table n s (writable v) (writable w)) ((rs ++ a ∷ []) ++ b ∷ []) (v ∷ w ∷ []) a (encoded (cell.Ref b)) v
            (var w) g reads o i.0 i.1 (ref_denotes b w j) (row false e (names_older false e f))

        go : (c : Bool) → nat_eq a b ≡ c → Does bs m ((rs ++ a ∷ []) ++ b ∷ []) (cond c move.Nothing (move.Order a b)) t rs'
            → Treats_as bs s rs rs' t (λ n. table n s (writable v) (writable w))
        go true e h = is_idle (λ n. table n s (writable v) (writable w)) ((rs ++ a ∷ []) ++ b ∷ []) (v ∷ w ∷ [])
            (does_nothing bs m _ rs' move.Nothing t h refl) reads
            (λ n. ap (λ (c : Bool). treated (cond c pairs.nothing (cond (is_older v w) (binds w (var v)) (binds v (var w))))
            (v ∷ w ∷ [])) (names_are a b v w true i j e))
        go false e h = older (older_of a b (m (a - 1)) (m (b - 1))) e refl (does_order bs m _ rs' (move.Order a b) t a b h refl)

    open_only : (a b : ℕ) (v w : Variable) → IsPlace p m a v → IsPlace p m b w → IsOpen bs m a
        → Does bs m ((rs ++ a ∷ []) ++ b ∷ []) (moved (look.Writable a) (look.ReadOnly b)) t rs'
        → Treats_as bs s rs rs' t (λ n. table n s (writable v) (read_only w))
    open_only a b v w i j o h = go (nat_eq a b) refl h
      where
        reads : map p.name ((rs ++ a ∷ []) ++ b ∷ []) ≡ map p.name rs ++ v ∷ w ∷ []
        reads = two_reads rs a b v w i.1 j.1

        row : (c : Bool) → nat_eq a b ≡ c → (n : ℕ)
            → table n s (writable v) (read_only w) ≡ treated (cond c pairs.nothing (binds v (ro w))) (v ∷ w ∷ [])
        row c e n = ap (λ (d : Bool). treated (cond d pairs.nothing (binds v (ro w))) (v ∷ w ∷ [])) (names_are a b v w c i j e)

        go : (c : Bool) → nat_eq a b ≡ c → Does bs m ((rs ++ a ∷ []) ++ b ∷ []) (cond c move.Nothing (move.Bind a b)) t rs'
            → Treats_as bs s rs rs' t (λ n. table n s (writable v) (read_only w))
        go true e h = is_idle (λ n. table n s (writable v) (read_only w)) ((rs ++ a ∷ []) ++ b ∷ []) (v ∷ w ∷ [])
            (does_nothing bs m _ rs' move.Nothing t h refl) reads (row true e)
        go false e h =
            is_bound (λ n. table n s (writable v) (read_only w)) ((rs ++ a ∷ []) ++ b ∷ []) (v ∷ w ∷ []) a (encoded (cell.RoRef b)) v
            (ro w) (does_bind bs m _ rs' (move.Bind a b) t a b h refl) reads o i.0 i.1 (ro_denotes b w j) (row false e)

    only_open : (a b : ℕ) (v w : Variable) → IsPlace p m a v → IsPlace p m b w → IsOpen bs m b
        → Does bs m ((rs ++ a ∷ []) ++ b ∷ []) (moved (look.ReadOnly a) (look.Writable b)) t rs'
        → Treats_as bs s rs rs' t (λ n. table n s (read_only v) (writable w))
    only_open a b v w i j o h = go (nat_eq a b) refl h
      where
        reads : map p.name ((rs ++ a ∷ []) ++ b ∷ []) ≡ map p.name rs ++ v ∷ w ∷ []
        reads = two_reads rs a b v w i.1 j.1

        row : (c : Bool) → nat_eq a b ≡ c → (n : ℕ)
            → table n s (read_only v) (writable w) ≡ treated (cond c pairs.nothing (binds w (ro v))) (v ∷ w ∷ [])
        row c e n = ap (λ (d : Bool). treated (cond d pairs.nothing (binds w (ro v))) (v ∷ w ∷ [])) (names_are a b v w c i j e)

        go : (c : Bool) → nat_eq a b ≡ c → Does bs m ((rs ++ a ∷ []) ++ b ∷ []) (cond c move.Nothing (move.Bind b a)) t rs'
            → Treats_as bs s rs rs' t (λ n. table n s (read_only v) (writable w))
        go true e h = is_idle (λ n. table n s (read_only v) (writable w)) ((rs ++ a ∷ []) ++ b ∷ []) (v ∷ w ∷ [])
            (does_nothing bs m _ rs' move.Nothing t h refl) reads (row true e)
        go false e h =
            is_bound (λ n. table n s (read_only v) (writable w)) ((rs ++ a ∷ []) ++ b ∷ []) (v ∷ w ∷ []) b (encoded (cell.RoRef a)) w
            (ro v) (does_bind bs m _ rs' (move.Bind b a) t b a h refl) reads o j.0 j.1 (ro_denotes a v i) (row false e)

    both_only : (a b : ℕ) (v w : Variable) → IsPlace p m a v → IsPlace p m b w
        → Does bs m ((rs ++ a ∷ []) ++ b ∷ []) (moved (look.ReadOnly a) (look.ReadOnly b)) t rs'
        → Treats_as bs s rs rs' t (λ n. table n s (read_only v) (read_only w))
    both_only a b v w i j h = go (nat_eq a b) refl h
      where
        reads : map p.name ((rs ++ a ∷ []) ++ b ∷ []) ≡ map p.name rs ++ v ∷ w ∷ []
        reads = two_reads rs a b v w i.1 j.1

        row : (c : Bool) → nat_eq a b ≡ c → (n : ℕ)
            → table n s (read_only v) (read_only w) ≡ treated (cond c pairs.nothing pairs.waits) (v ∷ w ∷ [])
        row c e n = ap (λ (d : Bool). treated (cond d pairs.nothing pairs.waits) (v ∷ w ∷ [])) (names_are a b v w c i j e)

        go : (c : Bool) → nat_eq a b ≡ c → Does bs m ((rs ++ a ∷ []) ++ b ∷ []) (cond c move.Nothing move.Wait) t rs'
            → Treats_as bs s rs rs' t (λ n. table n s (read_only v) (read_only w))
        go true e h = is_idle (λ n. table n s (read_only v) (read_only w)) ((rs ++ a ∷ []) ++ b ∷ []) (v ∷ w ∷ [])
            (does_nothing bs m _ rs' move.Nothing t h refl) reads (row true e)
        go false e h =
            is_halted (λ n. table n s (read_only v) (read_only w)) ((rs ++ a ∷ []) ++ b ∷ []) (v ∷ w ∷ [])
            (does_wait bs m _ rs' move.Wait t h refl) reads (row false e)

    hit_is : (f : words.Found) (g : checks.Found) (rs0 : List ℕ) → FoundIs p rs0 f g → f ≡ hit rs'
        → (qs : List Variable) × (g ≡ checks.hit qs) × (map p.name rs' ≡ map p.name rs0 ++ qs)
    hit_is _ _ rs0 (hits r qs e) i = (qs, refl, ap (map p.name) (let j : rs' ≡ r = cc in j) ∙ e)
    hit_is _ _ rs0 (misses r qs e) i = cc

    miss_is : (f : words.Found) (g : checks.Found) (rs0 : List ℕ) → FoundIs p rs0 f g → f ≡ miss rs'
        → (qs : List Variable) × (g ≡ checks.miss qs) × (map p.name rs' ≡ map p.name rs0 ++ qs)
    miss_is _ _ rs0 (misses r qs e) i = (qs, refl, ap (map p.name) (let j : rs' ≡ r = cc in j) ∙ e)
    miss_is _ _ rs0 (hits r qs e) i = cc

    -- the terms' check, for the one term
    one_term : (a x : ℕ) (v : Variable) (u : Term Variable) (rs0 : List ℕ) (f : words.Found) → IsPlace p m a v → Denotes p m u x
        → Occurs bs m a (x ∷ []) rs0 f → (k : ℕ) × ((g : checks.Found) × (FoundIs p rs0 f g) × ((n : ℕ) → k ≤ n → occurs n s v u ≡ Some g))
    one_term a x v u rs0 f i d h =
        let r = occurs_so p bs m s st names a i.0 (x ∷ []) rs0 f h (more u none) (d, tt) in (
          r.steps,
          (
            r.answer,
            r.is,
            λ n l. at_least (λ (k : ℕ). occurs k s v u) (occurs_more s v u) r.steps n l r.answer
                (subst (λ (y : Variable). occurs r.steps s y u ≡ Some r.answer) i.1
                (sym (or_miss p bs m s st (checks.walk (checks.leaf_is r.steps s (p.name a)) u)) ∙ r.finds)),
          ),
        )

    -- a place and a word that is none
    checked_pair : (o : ℕ → Option Treated) (a x : ℕ) (v : Variable) (u : Term Variable) (rs0 : List ℕ)
        → ((n : ℕ) → o n ≡ bind_solid v u (occurs n s v u)) → IsPlace p m a v → IsOpen bs m a → Denotes p m u x
        → map p.name rs0 ≡ map p.name rs ++ v ∷ [] → Checked bs m rs0 rs' t a x → Treats_as bs s rs rs' t o
    checked_pair o a x v u rs0 rows i here d f (was_found h e) =
        let r = one_term a x v u rs0 (hit rs') i d h in
        let k = hit_is (hit rs') r.1.0 rs0 r.1.1 refl in
        record {
          steps = r.0;
          step = pairs.clashes;
          reads = v ∷ k.0;
          treats = λ n l. rows n ∙ ap (bind_solid v u) (r.1.2 n l ∙ ap (λ (z : checks.Found). Some z) k.1);
          read = more_reads rs rs0 rs' v k.0 f k.2;
          is = subst (λ (z : Turn). TurnIs bs s z pairs.clashes) (sym e) unlike;
        }
    checked_pair o a x v u rs0 rows i here d f (was_absent h e) =
        let r = one_term a x v u rs0 (miss rs') i d h in
        let k = miss_is (miss rs') r.1.0 rs0 r.1.1 refl in
        record {
          steps = r.0;
          step = binds v u;
          reads = v ∷ k.0;
          treats = λ n l. rows n ∙
              (ap (bind_solid v u) (r.1.2 n l ∙ ap (λ (z : checks.Found). Some z) k.1) ∙ ap
              (λ (z : Term Variable). treated (binds v z) (v ∷ k.0)) (plain_same p m names u x d));
          read = more_reads rs rs0 rs' v k.0 f k.2;
          is = subst (λ (z : Turn). TurnIs bs s z (binds v u)) (sym e)
              (bound a x v u i (subst (λ (z : Variable). find s z ≡ None) i.1 (st.unbound a i.0 here.0 here.1))
              (stands_bound p m names bs s a x v u st here i.0 i.1 d));
        }

    -- two words that are none
    none_left : (qs : List (ℕ × ℕ)) → DenotesPairs p m [] qs → qs ≡ []
    none_left [] d = refl
    none_left (q ∷ qs) d = absurd d

    nil_reads : rs' ≡ (rs ++ []) ++ [] → map p.name rs' ≡ map p.name rs ++ []
    nil_reads e = ap (map p.name) (e ∙ (append-nil (rs ++ []) ∙ append-nil rs)) ∙ sym (append-nil (map p.name rs))

    solid_pair : (x y : ℕ) (u w : Term Variable) → is_plain u ≡ true → is_plain w ≡ true → Denotes p m u x → Denotes p m w y
        → Compared bs m ((rs ++ []) ++ []) rs' t x y → Treats_as bs s rs rs' t (λ n. table n s (solid u) (solid w))
    solid_pair x y u w i j d f (were_other h e r) = go (alike m x y) (pairs.alike u w) (alike_so p m names x y u w i j d f) refl h
      where
        go : (a : Option (List (ℕ × ℕ))) (b : Option (List Pair)) → SameAlike p m a b → pairs.alike u w ≡ b → a ≡ None
            → Treats_as bs s rs rs' t (λ n. table n s (solid u) (solid w))
        go _ _ neither k l =
            record {
              steps = 0;
              step = pairs.clashes;
              reads = [];
              treats = λ n _. ap
                  (λ (z : Option (List Pair)). treated (part_step z) []) k;
              read =
                  nil_reads r;
              is = subst (λ (z : Turn). TurnIs bs s z pairs.clashes) (sym e) unlike;
            }
        go _ _ (both qs ts z) k l = cc
    solid_pair x y u w i j d f (were_alike qs h e r) = go (alike m x y) (pairs.alike u w) (alike_so p m names x y u w i j d f) refl h
      where
        made : (ps : List (ℕ × ℕ)) (ts : List Pair) → DenotesPairs p m ts ps → ps ≡ qs → pairs.alike u w ≡ Some ts
            → Treats_as bs s rs rs' t (λ n. table n s (solid u) (solid w))
        made ps [] z l k =
            record {
              steps = 0;
              step = pairs.nothing;
              reads = [];
              treats = λ n _. ap
                  (λ (z : Option (List Pair)). treated (part_step z) []) k;
              read =
                  nil_reads r;
              is =
                  subst (λ (y : Turn). TurnIs bs s y pairs.nothing) (sym (e ∙ ap (goes bs) (sym l ∙ none_left ps z))) idle;
            }
        made ps (q ∷ ts) z l k =
            record {
              steps = 0;
              step = parts (q ∷ ts);
              reads = [];
              treats = λ n _. ap
                  (λ (z : Option (List Pair)). treated (part_step z) []) k;
              read =
                  nil_reads r;
              is =
                  subst (λ (y : Turn). TurnIs bs s y (parts (q ∷ ts))) (sym (e ∙ ap (goes bs) (sym l))) (split ps (q ∷ ts) z);
            }

        go : (a : Option (List (ℕ × ℕ))) (b : Option (List Pair)) → SameAlike p m a b → pairs.alike u w ≡ b → a ≡ Some qs
            → Treats_as bs s rs rs' t (λ n. table n s (solid u) (solid w))
        go _ _ neither k l = cc
        go _ _ (both ps ts z) k l = made ps ts z (let y : ps ≡ qs = cc in y) k

    left_nil : (b : ℕ) (w : Variable) → p.name b ≡ w → map p.name ((rs ++ []) ++ b ∷ []) ≡ map p.name rs ++ w ∷ []
    left_nil b w e = ap (λ (z : List ℕ). map p.name (z ++ b ∷ [])) (append-nil rs) ∙ one_read rs b w e

    right_nil : (a : ℕ) (v : Variable) → p.name a ≡ v → map p.name ((rs ++ a ∷ []) ++ []) ≡ map p.name rs ++ v ∷ []
    right_nil a v e = ap (map p.name) (append-nil (rs ++ a ∷ [])) ∙ one_read rs a v e

    pub by_looks : (x y : ℕ) (l k : Look) (g h : terms.Look) → Values bs m false x l → Values bs m false y k → LookIs p m l g
        → LookIs p m k h → Does bs m ((rs ++ look_reads l) ++ look_reads k) (moved l k) t rs' → Treats_as bs s rs rs' t (λ n. table n s g h)
    by_looks x y (look.Writable a) (look.Writable b) (writable v) (writable w) vx vy i j d =
        two_open a b v w i j (values_open bs m false x (look.Writable a) a vx refl) (values_open bs m false y (look.Writable b) b vy refl) d
    by_looks x y (look.Writable a) (look.ReadOnly b) (writable v) (read_only w) vx vy i j d =
        open_only a b v w i j (values_open bs m false x (look.Writable a) a vx refl) d
    by_looks x y (look.Writable a) (look.Solid z) (writable v) (solid u) vx vy i j d =
        checked_pair (λ n. table n s (writable v) (solid u)) a z v u ((rs ++ a ∷ []) ++ []) (λ n. refl) i
        (values_open bs m false x (look.Writable a) a vx refl) j (right_nil a v i.1)
        (does_check bs m _ rs' (move.Check a z) t a z d refl)
    by_looks x y (look.ReadOnly a) (look.Writable b) (read_only v) (writable w) vx vy i j d =
        only_open a b v w i j (values_open bs m false y (look.Writable b) b vy refl) d
    by_looks x y (look.ReadOnly a) (look.ReadOnly b) (read_only v) (read_only w) vx vy i j d = both_only a b v w i j d
    by_looks x y (look.ReadOnly a) (look.Solid z) (read_only v) (solid u) vx vy i j d =
        is_halted (λ n. table n s (read_only v) (solid u)) ((rs ++ a ∷ []) ++ []) (v ∷ []) (does_wait bs m _ rs' move.Wait t d refl)
        (right_nil a v i.1) (λ n. refl)
    by_looks x y (look.Solid z) (look.Writable b) (solid u) (writable w) vx vy i j d =
        checked_pair (λ n. table n s (solid u) (writable w)) b z w u ((rs ++ []) ++ b ∷ []) (λ n. refl) j
        (values_open bs m false y (look.Writable b) b vy refl) i (left_nil b w j.1)
        (does_check bs m _ rs' (move.Check b z) t b z d refl)
    by_looks x y (look.Solid z) (look.ReadOnly b) (solid u) (read_only w) vx vy i j d =
        is_halted (λ n. table n s (solid u) (read_only w)) ((rs ++ []) ++ b ∷ []) (w ∷ []) (does_wait bs m _ rs' move.Wait t d refl)
        (left_nil b w j.1) (λ n. refl)
    by_looks x y (look.Solid z) (look.Solid z') (solid u) (solid w) vx vy i j d =
        solid_pair z z' u w (plain_is p m z u (value_no_ref bs m false x (look.Solid z) z vx refl) i)
        (plain_is p m z' w (value_no_ref bs m false y (look.Solid z') z' vy refl) j) i j
        (does_solids bs m _ rs' (move.Solids z z') t z z' d refl)
    by_looks x y (look.Writable a) k (read_only v) h vx vy i j d = absurd i
    by_looks x y (look.Writable a) k (solid u) h vx vy i j d = absurd i
    by_looks x y (look.ReadOnly a) k (writable v) h vx vy i j d = absurd i
    by_looks x y (look.ReadOnly a) k (solid u) h vx vy i j d = absurd i
    by_looks x y (look.Solid z) k (writable v) h vx vy i j d = absurd i
    by_looks x y (look.Solid z) k (read_only v) h vx vy i j d = absurd i
    by_looks x y (look.Writable a) (look.Writable b) (writable v) (read_only w) vx vy i j d = absurd j
    by_looks x y (look.Writable a) (look.Writable b) (writable v) (solid w) vx vy i j d = absurd j
    by_looks x y (look.Writable a) (look.ReadOnly b) (writable v) (writable w) vx vy i j d = absurd j
    by_looks x y (look.Writable a) (look.ReadOnly b) (writable v) (solid w) vx vy i j d = absurd j
    by_looks x y (look.Writable a) (look.Solid z') (writable v) (writable w) vx vy i j d = absurd j
    by_looks x y (look.Writable a) (look.Solid z') (writable v) (read_only w) vx vy i j d = absurd j
    by_looks x y (look.ReadOnly a) (look.Writable b) (read_only v) (read_only w) vx vy i j d = absurd j
    by_looks x y (look.ReadOnly a) (look.Writable b) (read_only v) (solid w) vx vy i j d = absurd j
    by_looks x y (look.ReadOnly a) (look.ReadOnly b) (read_only v) (writable w) vx vy i j d = absurd j
    by_looks x y (look.ReadOnly a) (look.ReadOnly b) (read_only v) (solid w) vx vy i j d = absurd j
    by_looks x y (look.ReadOnly a) (look.Solid z') (read_only v) (writable w) vx vy i j d = absurd j
    by_looks x y (look.ReadOnly a) (look.Solid z') (read_only v) (read_only w) vx vy i j d = absurd j
    by_looks x y (look.Solid z) (look.Writable b) (solid u) (read_only w) vx vy i j d = absurd j
    by_looks x y (look.Solid z) (look.Writable b) (solid u) (solid w) vx vy i j d = absurd j
    by_looks x y (look.Solid z) (look.ReadOnly b) (solid u) (writable w) vx vy i j d = absurd j
    by_looks x y (look.Solid z) (look.ReadOnly b) (solid u) (solid w) vx vy i j d = absurd j
    by_looks x y (look.Solid z) (look.Solid z') (solid u) (writable w) vx vy i j d = absurd j
    by_looks x y (look.Solid z) (look.Solid z') (solid u) (read_only w) vx vy i j d = absurd j
