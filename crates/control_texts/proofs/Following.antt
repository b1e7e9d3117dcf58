-- A word that can stand where a reading stands is the first of words that may follow, and only such a word is.
use Rattle.std.proofs.Common.{◌≡◌, ℕ, ◌+◌, ◌<◌, ◌≤◌, Bool, true, false, List, [], ◌∷◌, ◌++◌, length, map, Option, Some, None, ap, sym, ◌∙◌, subst, refl, arith}
use Rattle.std.specs.Prelude.{◌&&◌, nat_le, nat_lt, codes, if◌then◌else◌, option_map, option_and_then}
use Rattle.std.specs.List.{list_all}
use Rattle.std.specs.Str.{bytes_eq}
use Rattle.std.proofs.lemmas.Bool.{leb-true, le-leb, ltb-true, lt-ltb}
use Rattle.fcp_model.specs.declared.run.Act.{Act}
use Rattle.fcp_model.specs.declared.run.Act.TheVariants.{Abort}
use Rattle.fcp_model.specs.declared.run.Control.{Control}
use Rattle.fcp_model.specs.LawfulControls.{is_allowed, AreLawfulFrom}
use Rattle.fcp_model.specs.OneWorker.{mode_after}
use Rattle.fcp_model.specs.Spelling.{Bytes}
use Rattle.fcp_model.specs.States.{Mode}
use Rattle.word_numbers.specs.Numbers.{is_number, digits_value, number_of}
use Rattle.control_texts.specs.declared.reading.Expected.{Expected}
use Rattle.control_texts.specs.declared.reading.Expected.TheVariants as expected
use Rattle.control_texts.specs.declared.reading.Standing.{Standing}
use Rattle.control_texts.specs.declared.reading.Reading.{Reading}
use Rattle.control_texts.specs.declared.reading.Step.{Step}
use Rattle.control_texts.specs.ControlTexts.{act_word, Item, has_number, control_of, more_words}
use Rattle.control_texts.specs.Steps.{expecting, act_of, is_live, standing_after, after_moves, after_number, acted, after_act, after_semicolon, step, made, is_end, is_whole}
use Rattle.control_texts.proofs.Completions.{mode_of, control, AtSemicolon, AtAfter, AtNumber, AtAct, RestAt, Rest, when-some, when-true, both-parts, both-whole, act-of-word, is_word, word-of-act, allowed-stands, stands-allowed, allowed-live, live-abort, after-live}

-- a reading of these parts
abbrev pub reading : Expected → ℕ → ℕ → Standing → Reading
reading e count moves s = record { expected = e; count = count; moves = moves; standing = s }

-- the word can stand there, and the others may follow behind it
pub record Follow (r : Reading) (w : Bytes) (ws : List Bytes) (cs : List Control) : Type 0 where
  pub taken : Step
  pub is_step : step r w ≡ Some taken
  pub more : List Control
  pub adds : cs ≡ made taken.control ++ more
  pub rest : Rest taken.reading ws more

number-is : (w : Bytes) → is_number 7 1000000 w ≡ true → number_of 7 1000000 w ≡ Some (digits_value w)
number-is w e = when-true (is_number 7 1000000 w) (Some (digits_value w)) None e

number-was : (w : Bytes) (n : ℕ) → number_of 7 1000000 w ≡ Some n → (is_number 7 1000000 w ≡ true) × (digits_value w ≡ n)
number-was w n e = when-some (is_number 7 1000000 w) (digits_value w) n e

pub two-parts : (a b : Bool) → (a && b) ≡ true → (a ≡ true) × (b ≡ true)
two-parts true b e = (refl, e)
two-parts false b e = cc

pub two-whole : (a b : Bool) → a ≡ true → b ≡ true → (a && b) ≡ true
two-whole true b p q = q
two-whole false b p q = cc

module _ (count moves : ℕ) (s : Standing) (w : Bytes) (ws : List Bytes) (cs : List Control) where
  follow-after : AtAfter count moves (mode_of s) (w ∷ ws) cs → Follow (reading expected.After count moves s) w ws cs
  follow-after h =
      let e : w ∷ ws ≡ codes "after" ∷ h.item.digits ∷ act_word h.item.act ∷ more_words h.items = h.spelled in
      let first : w ≡ codes "after" = cc in
      let others : ws ≡ h.item.digits ∷ act_word h.item.act ∷ more_words h.items = cc in
      record {
        taken = expecting (reading expected.After count moves s) expected.Number;
        is_step = ap (step (reading expected.After count moves s)) first;
        more = cs;
        adds = refl;
        rest = record {
          item = h.item;
          items = h.items;
          spelled = others;
          controls_are = h.controls_are;
          number = h.number;
          numbers = h.numbers;
          few = h.few;
          lawful = h.lawful;
        };
      }

  follow-number : AtNumber count moves (mode_of s) (w ∷ ws) cs → Follow (reading expected.Number count moves s) w ws cs
  follow-number h =
      let r = reading expected.Number count moves s in
      let n = digits_value h.item.digits in
      let e : w ∷ ws ≡ h.item.digits ∷ act_word h.item.act ∷ more_words h.items = h.spelled in
      let first : w ≡ h.item.digits = cc in
      let others : ws ≡ act_word h.item.act ∷ more_words h.items = cc in
      record {
        taken = expecting r (expected.Act n);
        is_step = ap (after_number r) first ∙ ap (after_moves r) (number-is h.item.digits h.number)
            ∙ when-true (nat_le moves n) (Some (expecting r (expected.Act n))) None (le-leb moves n h.lawful.0);
        more = cs;
        adds = refl;
        rest = record {
          act = h.item.act;
          items = h.items;
          spelled = others;
          controls_are = h.controls_are;
          numbers = h.numbers;
          few = h.few;
          lawful = h.lawful;
        };
      }

  follow-act : (n : ℕ) → AtAct n count moves (mode_of s) (w ∷ ws) cs → Follow (reading (expected.Act n) count moves s) w ws cs
  follow-act n h =
      let r = reading (expected.Act n) count moves s in
      let e : w ∷ ws ≡ act_word h.act ∷ more_words h.items = h.spelled in
      let first : w ≡ act_word h.act = cc in
      let others : ws ≡ more_words h.items = cc in
      let t = allowed-stands h.act s h.lawful.1 in
      record {
        taken = acted r n h.act t.0;
        is_step = ap (after_act r n) first
            ∙ ap (option_and_then (λ act. option_map (acted r n act) (standing_after act s))) (act-of-word h.act)
            ∙ ap (option_map (acted r n h.act)) t.1;
        more = map control_of h.items;
        adds = h.controls_are;
        rest = record {
          items = h.items;
          spelled = others;
          controls_are = refl;
          numbers = h.numbers;
          few = omega (arith, h.few);
          lawful = subst (λ m. AreLawfulFrom n m (map control_of h.items)) (sym t.2) h.lawful.2;
        };
      }

  follow-items : (items : List Item) → w ∷ ws ≡ more_words items → cs ≡ map control_of items → list_all has_number items ≡ true
      → count + length items ≤ 64
      → AreLawfulFrom moves (mode_of s) (map control_of items)
      → Follow (reading expected.Semicolon count moves s) w ws cs
  follow-items [] e c numbers few lawful = absurd cc
  follow-items (i ∷ is) e c numbers few lawful =
      let r = reading expected.Semicolon count moves s in
      let first : w ≡ codes ";" = cc in
      let others : ws ≡ codes "after" ∷ i.digits ∷ act_word i.act ∷ more_words is = cc in
      let room : count < 64 = omega (arith, few) in
      let parts = two-parts (has_number i) (list_all has_number is) numbers in
      record {
        taken = expecting r expected.After;
        is_step = ap (after_semicolon r) first
            ∙ when-true (true && nat_lt count 64 && is_live s) (Some (expecting r expected.After)) None
            (both-whole true (nat_lt count 64) (is_live s) refl (lt-ltb count 64 room) (allowed-live i.act s lawful.1));
        more = cs;
        adds = refl;
        rest = record {
          item = i;
          items = is;
          spelled = others;
          controls_are = c;
          number = parts.0;
          numbers = parts.1;
          few = omega (arith, few);
          lawful = lawful;
        };
      }

  follow-at : (e : Expected) → RestAt e count moves (mode_of s) (w ∷ ws) cs → Follow (reading e count moves s) w ws cs
  follow-at expected.After h = follow-after h
  follow-at expected.Number h = follow-number h
  follow-at (expected.Act n) h = follow-act n h
  follow-at expected.Semicolon h = follow-items h.items h.spelled h.controls_are h.numbers h.few h.lawful

-- the first of words that may follow can stand there
pub follows : (r : Reading) (w : Bytes) (ws : List Bytes) (cs : List Control) → Rest r (w ∷ ws) cs → Follow r w ws cs
follows r w ws cs h = follow-at r.count r.moves r.standing w ws cs r.expected h

-- ---- the other way round

-- what keeps a reading able to go on
abbrev pub IsSoundAt : Expected → Reading → Type 0
IsSoundAt expected.After r = (r.count < 64) × (is_live r.standing ≡ true)
IsSoundAt expected.Number r = (r.count < 64) × (is_live r.standing ≡ true)
IsSoundAt (expected.Act n) r = (r.count < 64) × (is_live r.standing ≡ true) × (r.moves ≤ n) × (n ≤ 1000000)
IsSoundAt expected.Semicolon r = Unit {0}

pub record IsSound (r : Reading) : Type 0 where
  pub few : r.count ≤ 64
  pub low : r.moves ≤ 1000000
  pub here : IsSoundAt r.expected r

-- the word was taken: what followed it follows with it, and the reading can go on
pub record Precede (r : Reading) (w : Bytes) (taken : Step) : Type 0 where
  pub words : (ws : List Bytes) (cs : List Control) → Rest taken.reading ws cs → Rest r (w ∷ ws) (made taken.control ++ cs)
  pub sound : IsSound taken.reading

moves-some : (r : Reading) (o : Option ℕ) (t : Step) → after_moves r o ≡ Some t
    → (n : ℕ) × (o ≡ Some n) × (r.moves ≤ n) × (expecting r (expected.Act n) ≡ t)
moves-some r None t e = absurd cc
moves-some r (Some n) t e =
    let k = when-some (nat_le r.moves n) (expecting r (expected.Act n)) t e in
    (n, refl, leb-true r.moves n k.0, k.1)

stands-some : (r : Reading) (n : ℕ) (act : Act) (o : Option Standing) (t : Step) → option_map (acted r n act) o ≡ Some t
    → (s : Standing) × (o ≡ Some s) × (acted r n act s ≡ t)
stands-some r n act None t e = absurd cc
stands-some r n act (Some s) t e = (s, refl, cc)

act-some : (r : Reading) (n : ℕ) (o : Option Act) (t : Step)
    → option_and_then (λ act. option_map (acted r n act) (standing_after act r.standing)) o ≡ Some t
    → (act : Act) × (o ≡ Some act) × (s : Standing) × (standing_after act r.standing ≡ Some s) × (acted r n act s ≡ t)
act-some r n None t e = absurd cc
act-some r n (Some act) t e =
    let k = stands-some r n act (standing_after act r.standing) t e in
    (act, refl, k.0, k.1, k.2)

and-last : (a b : Bool) → (a && b) ≡ true → b ≡ true
and-last true b e = e
and-last false b e = cc

-- the number of a word is at most a million
number-most : (w : Bytes) → is_number 7 1000000 w ≡ true → digits_value w ≤ 1000000
number-most w e = leb-true (digits_value w) 1000000 (and-last _ (nat_le (digits_value w) 1000000) e)

module _ (count moves : ℕ) (s : Standing) (w : Bytes) (taken : Step) where
  precede-after : IsSound (reading expected.After count moves s) → step (reading expected.After count moves s) w ≡ Some taken
      → Precede (reading expected.After count moves s) w taken
  precede-after sound e =
      let r = reading expected.After count moves s in
      let k = when-some (bytes_eq w (codes "after")) (expecting r expected.Number) taken e in
      let first : w ≡ codes "after" = is_word w (codes "after") k.0 in
      subst (Precede r w) k.1 (record {
        words = λ ws cs h. record {
          item = h.item;
          items = h.items;
          spelled = ap (λ x. x ∷ ws) first ∙ ap (λ x. codes "after" ∷ x) h.spelled;
          controls_are = h.controls_are;
          number = h.number;
          numbers = h.numbers;
          few = h.few;
          lawful = h.lawful;
        };
        sound = record { few = sound.few; low = sound.low; here = sound.here };
      })

  precede-number : IsSound (reading expected.Number count moves s) → step (reading expected.Number count moves s) w ≡ Some taken
      → Precede (reading expected.Number count moves s) w taken
  precede-number sound e =
      let r = reading expected.Number count moves s in
      let k = moves-some r (number_of 7 1000000 w) taken e in
      let n = number-was w k.0 k.1 in
      let here : Precede r w (expecting r (expected.Act (digits_value w))) = record {
        words = λ ws cs h. record {
          item = record { digits = w; act = h.act };
          items = h.items;
          spelled = ap (λ x. w ∷ x) h.spelled;
          controls_are = h.controls_are;
          number = n.0;
          numbers = h.numbers;
          few = h.few;
          lawful = h.lawful;
        };
        sound = record {
          few = sound.few;
          low = sound.low;
          here = (sound.here.0, sound.here.1, subst (λ x. moves ≤ x) (sym n.1) k.2, number-most w n.0);
        };
      } in
      subst (Precede r w) k.3 (subst (λ x. Precede r w (expecting r (expected.Act x))) n.1 here)

  precede-act : (n : ℕ) → IsSound (reading (expected.Act n) count moves s) → step (reading (expected.Act n) count moves s) w ≡ Some taken
      → Precede (reading (expected.Act n) count moves s) w taken
  precede-act n sound e =
      let r = reading (expected.Act n) count moves s in
      let k = act-some r n (act_of w) taken e in
      let first = word-of-act w k.0 k.1 in
      let stands = stands-allowed k.0 s k.2 k.3 in
      subst (Precede r w) k.4 (record {
        words = λ ws cs h. record {
          act = k.0;
          items = h.items;
          spelled = ap (λ x. x ∷ ws) first ∙ ap (λ x. act_word k.0 ∷ x) h.spelled;
          controls_are = ap (λ x. control n k.0 ∷ x) h.controls_are;
          numbers = h.numbers;
          few = omega (arith, h.few);
          lawful = (sound.here.2, stands.0, subst (λ m. AreLawfulFrom n m (map control_of h.items)) stands.1 h.lawful);
        };
        sound = record { few = omega (arith, sound.here.0); low = sound.here.3; here = tt };
      })

  precede-semicolon : IsSound (reading expected.Semicolon count moves s) → step (reading expected.Semicolon count moves s) w ≡ Some taken
      → Precede (reading expected.Semicolon count moves s) w taken
  precede-semicolon sound e =
      let r = reading expected.Semicolon count moves s in
      let k = when-some (bytes_eq w (codes ";") && nat_lt count 64 && is_live s) (expecting r expected.After) taken e in
      let parts = both-parts (bytes_eq w (codes ";")) (nat_lt count 64) (is_live s) k.0 in
      let first : w ≡ codes ";" = is_word w (codes ";") parts.0 in
      subst (Precede r w) k.1 (record {
        words = λ ws cs h. record {
          items = h.item ∷ h.items;
          spelled = ap (λ x. x ∷ ws) first ∙ ap (λ x. codes ";" ∷ x) h.spelled;
          controls_are = h.controls_are;
          numbers = two-whole (has_number h.item) (list_all has_number h.items) h.number h.numbers;
          few = omega (arith, h.few);
          lawful = h.lawful;
        };
        sound = record { few = sound.few; low = sound.low; here = (ltb-true count 64 parts.1, parts.2) };
      })

  precede-at : (e : Expected) → IsSound (reading e count moves s) → step (reading e count moves s) w ≡ Some taken
      → Precede (reading e count moves s) w taken
  precede-at expected.After sound e = precede-after sound e
  precede-at expected.Number sound e = precede-number sound e
  precede-at (expected.Act n) sound e = precede-act n sound e
  precede-at expected.Semicolon sound e = precede-semicolon sound e

-- what may follow a word that was taken may follow with it
pub precedes : (r : Reading) (w : Bytes) (taken : Step) → IsSound r → step r w ≡ Some taken → Precede r w taken
precedes r w taken sound e = precede-at r.count r.moves r.standing w taken r.expected sound e

-- ---- ends

no-items : (items : List Item) (cs : List Control) → [] ≡ more_words items → cs ≡ map control_of items → cs ≡ []
no-items [] cs e c = c
no-items (i ∷ is) cs e c = absurd cc

ends-at : (e : Expected) (count moves : ℕ) (mode : Mode) (cs : List Control) → RestAt e count moves mode [] cs
    → (is_end e ≡ true) × (cs ≡ [])
ends-at expected.After count moves mode cs h =
    let e : [] ≡ codes "after" ∷ h.item.digits ∷ act_word h.item.act ∷ more_words h.items = h.spelled in absurd cc
ends-at expected.Number count moves mode cs h = let e : [] ≡ h.item.digits ∷ act_word h.item.act ∷ more_words h.items =
    h.spelled in absurd cc
ends-at (expected.Act n) count moves mode cs h = let e : [] ≡ act_word h.act ∷ more_words h.items = h.spelled in absurd cc
ends-at expected.Semicolon count moves mode cs h = (refl, no-items h.items cs h.spelled h.controls_are)

whole-at : (e : Expected) (count moves : ℕ) (mode : Mode) → is_end e ≡ true → count ≤ 64 → RestAt e count moves mode [] []
whole-at expected.Semicolon count moves mode e few =
    record { items = []; spelled = refl; controls_are = refl; numbers = refl; few = omega arith; lawful = tt }
whole-at expected.After count moves mode e few = absurd cc
whole-at expected.Number count moves mode e few = absurd cc
whole-at (expected.Act n) count moves mode e few = absurd cc

complete-at : (e : Expected) (count moves : ℕ) (s : Standing) → IsSound (reading e count moves s)
    → (ws : List Bytes) × (cs : List Control) × RestAt e count moves (mode_of s) ws cs
complete-at expected.Semicolon count moves s sound = ([], [], whole-at expected.Semicolon count moves (mode_of s) refl sound.few)
complete-at (expected.Act n) count moves s sound = (
  codes "abort" ∷ [],
  control n Abort ∷ [],
  record {
    act = Abort;
    items = [];
    spelled = refl;
    controls_are = refl;
    numbers = refl;
    few = omega (arith, sound.here.0);
    lawful = (sound.here.2, live-abort s sound.here.1, tt);
  },
)
complete-at expected.Number count moves s sound = (
  codes "1000000" ∷ codes "abort" ∷ [],
  control 1000000 Abort ∷ [],
  record {
    item = record { digits = codes "1000000"; act = Abort };
    items = [];
    spelled = refl;
    controls_are = refl;
    number = refl;
    numbers = refl;
    few = omega (arith, sound.here.0);
    lawful = (sound.low, live-abort s sound.here.1, tt);
  },
)
complete-at expected.After count moves s sound = (
  codes "after" ∷ codes "1000000" ∷ codes "abort" ∷ [],
  control 1000000 Abort ∷ [],
  record {
    item = record { digits = codes "1000000"; act = Abort };
    items = [];
    spelled = refl;
    controls_are = refl;
    number = refl;
    numbers = refl;
    few = omega (arith, sound.here.0);
    lawful = (sound.low, live-abort s sound.here.1, tt);
  },
)

-- where nothing is to follow, the reading stands behind an act
pub rest-ends : (r : Reading) (cs : List Control) → Rest r [] cs → (is_whole r ≡ true) × (cs ≡ [])
rest-ends r cs h = ends-at r.expected r.count r.moves (mode_of r.standing) cs h

pub ends-rest : (r : Reading) → is_whole r ≡ true → r.count ≤ 64 → Rest r [] []
ends-rest r e few = whole-at r.expected r.count r.moves (mode_of r.standing) e few

-- some words may follow
pub completes : (r : Reading) → IsSound r → (ws : List Bytes) × (cs : List Control) × Rest r ws cs
completes r sound = complete-at r.expected r.count r.moves r.standing sound
