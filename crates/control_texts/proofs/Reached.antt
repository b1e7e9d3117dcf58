-- Where a reading stands behind words that were taken.
use Rattle.std.proofs.Common.{◌≡◌, ℕ, ◌+◌, ◌-◌, ◌<◌, ◌≤◌, Bool, true, false, List, [], ◌∷◌, ◌++◌, length, map, take, drop, Option, Some, None, ap, sym, ◌∙◌, subst, refl, arith, append_assoc}
use Rattle.std.specs.List.{list_all}
use Rattle.std.proofs.lemmas.List.{append-nil, length-drop, length-map}
use Rattle.fcp_model.specs.declared.run.Control.{Control}
use Rattle.fcp_model.specs.LawfulControls.{AreLawfulFrom, AreLawful}
use Rattle.fcp_model.specs.Spelling.{Bytes}
use Rattle.fcp_model.specs.States.{is_open}
use Rattle.control_texts.specs.declared.reading.Expected.TheVariants as expected
use Rattle.control_texts.specs.declared.reading.Reading.{Reading}
use Rattle.control_texts.specs.declared.reading.Step.{Step}
use Rattle.control_texts.specs.ControlTexts.{Item, has_number, control_of, more_words, item_words, AskFor, Begin, words_of, IsControlText, IsFaultAt, of_word, of_end}
use Rattle.control_texts.specs.Cuts.{IsFirst}
use Rattle.control_texts.specs.Pieces.{Piece, pieces, pieces_from}
use Rattle.control_texts.specs.Steps.{begin, step, made, is_whole, GoesOn, Takes}
use Rattle.control_texts.proofs.Cutting.{slice-of, slice-behind}
use Rattle.control_texts.proofs.Completions.{AtAfter, Rest}
use Rattle.control_texts.proofs.Following.{Follow, follows, IsSound, Precede, precedes, rest-ends, ends-rest, completes, two-parts, two-whole}

-- ---- words that ask for something may follow where a reading begins

asks-items : (items : List Item) (words : List Bytes) (controls : List Control) → words ≡ item_words items → 1 ≤ length items
    → length items ≤ 64
    → list_all has_number items ≡ true
    → controls ≡ map control_of items
    → AreLawfulFrom 0 is_open (map control_of items)
    → Rest begin words controls
asks-items [] words controls e some few numbers c lawful = absurd (omega (arith, some))
asks-items (i ∷ is) words controls e some few numbers c lawful =
    let parts = two-parts (has_number i) (list_all has_number is) numbers in
    record {
      item = i;
      items = is;
      spelled = e;
      controls_are = c;
      number = parts.0;
      numbers = parts.1;
      few = omega (arith, few);
      lawful = lawful;
    }

asks-rest : (words : List Bytes) (controls : List Control) → AskFor words controls → Rest begin words controls
asks-rest words controls a =
    asks-items a.items words controls a.spelled a.some a.few a.numbers a.controls_are (subst AreLawful a.controls_are a.lawful)

rest-asks : (words : List Bytes) (controls : List Control) → Rest begin words controls → AskFor words controls
rest-asks words controls h = record {
  items = h.item ∷ h.items;
  spelled = h.spelled;
  some = omega arith;
  few = omega (arith, h.few);
  numbers = two-whole (has_number h.item) (list_all has_number h.items) h.number h.numbers;
  controls_are = h.controls_are;
  lawful = subst AreLawful (sym h.controls_are) h.lawful;
}

-- ---- the words taken, the reading behind them and the controls so far

pub record Stands (words : List Bytes) (r : Reading) (controls : List Control) : Type 0 where
  pub sound : IsSound r
  -- what may follow here may follow behind the words
  pub whole : (rest : List Bytes) (more : List Control) → Rest r rest more → Rest begin (words ++ rest) (controls ++ more)
  -- and nothing else
  pub only : (rest : List Bytes) (all : List Control) → Rest begin (words ++ rest) all
      → (more : List Control) × (all ≡ controls ++ more) × Rest r rest more

begins : Stands [] begin []
begins = record {
  sound = record { few = omega arith; low = omega arith; here = (omega arith, refl) };
  whole = λ rest more h. h;
  only = λ rest all h. (all, refl, h);
}

one-taken : (a b : Step) (o : Option Step) → o ≡ Some a → o ≡ Some b → a ≡ b
one-taken a b o e f = let g : Some a ≡ Some b = sym e ∙ f in cc

follow-as : (r : Reading) (w : Bytes) (rest : List Bytes) (cs : List Control) (taken : Step) → step r w ≡ Some taken → Follow r w rest cs
    → (more : List Control) × (cs ≡ made taken.control ++ more) × Rest taken.reading rest more
follow-as r w rest cs taken e f =
    let same : f.taken ≡ taken = one-taken f.taken taken (step r w) f.is_step e in
    subst (λ (t : Step). (more : List Control) × (cs ≡ made t.control ++ more) × Rest t.reading rest more) same (f.more, f.adds, f.rest)

goes-on : (words : List Bytes) (r : Reading) (controls : List Control) (w : Bytes) (taken : Step) → Stands words r controls
    → step r w ≡ Some taken
    → Stands (words ++ w ∷ []) taken.reading (controls ++ made taken.control)
goes-on words r controls w taken h e =
    let p = precedes r w taken h.sound e in
    record {
      sound = p.sound;
      whole = λ rest more k.
          subst (λ x. Rest begin x ((controls ++ made taken.control) ++ more)) (sym (append_assoc words (w ∷ []) rest))
          (subst (λ x. Rest begin (words ++ w ∷ rest) x) (sym (append_assoc controls (made taken.control) more))
          (h.whole (w ∷ rest) (made taken.control ++ more) (p.words rest more k)));
      only = λ rest all k.
          let j = h.only (w ∷ rest) all (subst (λ x. Rest begin x all) (append_assoc words (w ∷ []) rest) k) in
          let f = follow-as r w rest j.0 taken e (follows r w rest j.0 j.2) in (
            f.0,
            j.1 ∙ ap (λ x. controls ++ x) f.1 ∙ sym (append_assoc controls (made taken.control) f.0),
            f.2,
          );
    }

stands-begin : (words : List Bytes) (r : Reading) (controls : List Control) → Stands words r controls → Begin words
stands-begin words r controls h =
    let k = completes r h.sound in
    record { rest = k.0; controls = controls ++ k.1; whole = rest-asks (words ++ k.0) (controls ++ k.1) (h.whole k.0 k.1 k.2) }

never-taken : (r : Reading) (w : Bytes) (rest : List Bytes) (cs : List Control) → step r w ≡ None → Follow r w rest cs → ⊥
never-taken r w rest cs e f = let bad : Some f.taken ≡ None = sym f.is_step ∙ e in cc

stops : (words : List Bytes) (r : Reading) (controls : List Control) (w : Bytes) → Stands words r controls → step r w ≡ None
    → Begin (words ++ w ∷ []) → ⊥
stops words r controls w h e b =
    let whole : Rest begin (words ++ w ∷ b.rest) b.controls =
    subst (λ x. Rest begin x b.controls) (append_assoc words (w ∷ []) b.rest)
    (asks-rest ((words ++ w ∷ []) ++ b.rest) b.controls b.whole) in
    let j = h.only (w ∷ b.rest) b.controls whole in
    never-taken r w b.rest j.0 e (follows r w b.rest j.0 j.2)

at-end : (words : List Bytes) (r : Reading) (controls : List Control) → Stands words r controls → is_whole r ≡ true
    → AskFor words controls
at-end words r controls h e =
    rest-asks words controls
    (subst (λ x. Rest begin words x) (append-nil controls)
    (subst (λ x. Rest begin x (controls ++ [])) (append-nil words) (h.whole [] [] (ends-rest r e h.sound.few))))

not-at-end : (words : List Bytes) (r : Reading) (controls : List Control) → Stands words r controls → is_whole r ≡ false
    → (others : List Control) → AskFor words others → ⊥
not-at-end words r controls h e others a =
    let j = h.only [] others (subst (λ x. Rest begin x others) (sym (append-nil words)) (asks-rest words others a)) in
    let k = rest-ends r j.0 j.2 in
    let bad : true ≡ false = sym k.0 ∙ e in
    cc

-- ---- words ask for one list of controls

one-rest : (words : List Bytes) (r : Reading) (a b : List Control) → Rest r words a → Rest r words b → a ≡ b
one-rest [] r a b h k = (rest-ends r a h).1 ∙ sym (rest-ends r b k).1
one-rest (w ∷ ws) r a b h k =
    let f = follows r w ws a h in
    let g = follow-as r w ws b f.taken f.is_step (follows r w ws b k) in
    f.adds ∙ ap (λ x. made f.taken.control ++ x) (one-rest ws f.taken.reading f.more g.0 f.rest g.2) ∙ sym g.1

pub one-asked : (words : List Bytes) (a b : List Control) → AskFor words a → AskFor words b → a ≡ b
one-asked words a b h k = one-rest words begin a b (asks-rest words a h) (asks-rest words b k)

-- ---- a text of which a part was taken

pub record HasTaken (text rest : Bytes) (r : Reading) (controls : List Control) : Type 0 where
  pub done : List Piece
  pub within : length rest ≤ length text
  pub split : pieces text ≡ done ++ pieces_from (length text - length rest) rest
  pub stands : Stands (words_of done) r controls

pub taken-none : (text : Bytes) → HasTaken text text begin []
taken-none text =
    let here : 0 ≡ length text - length text = omega arith in
    record { done = []; within = omega arith; split = ap (λ at. pieces_from at text) here; stands = begins }

pub words-append : (xs ys : List Piece) → words_of (xs ++ ys) ≡ words_of xs ++ words_of ys
words-append [] ys = refl
words-append (x ∷ xs) ys = ap (λ zs. x.bytes ∷ zs) (words-append xs ys)

-- the place of the first piece of a rest
abbrev at-of : Bytes → Bytes → ℕ → ℕ
at-of text rest start = (length text - length rest) + start

abbrev piece-of : Bytes → Bytes → ℕ → ℕ → Piece
piece-of text rest start len = record { at = at-of text rest start; bytes = take len (drop start rest) }

pub taken-more : (text rest : Bytes) (r next : Reading) (controls after : List Control) (start len : ℕ) → HasTaken text rest r controls
    → IsFirst rest start len
    → GoesOn r (take len (drop start rest)) controls after next
    → HasTaken text (drop (start + len) rest) next after
taken-more text rest r next controls after start len h f g =
    let p = piece-of text rest start len in
    let left : length (drop (start + len) rest) ≡ length rest - (start + len) = length-drop (start + len) rest in
    let there : (length text - length rest) + (start + len) ≡ length text - length (drop (start + len) rest) =
    omega (arith, left, f.within, h.within) in
    let stands : Stands (words_of h.done ++ p.bytes ∷ []) g.taken.reading (controls ++ made g.taken.control) =
    goes-on (words_of h.done) r controls p.bytes g.taken h.stands g.is_step in
    record {
      done = h.done ++ p ∷ [];
      within = omega (arith, left, h.within);
      split = h.split ∙ ap (λ x. h.done ++ x) (f.cut (length text - length rest))
          ∙ ap (λ at. h.done ++ p ∷ pieces_from at (drop (start + len) rest)) there
          ∙ sym (append_assoc h.done (p ∷ []) (pieces_from (length text - length (drop (start + len) rest)) (drop (start + len) rest)));
      stands = subst (λ x. Stands (words_of (h.done ++ p ∷ [])) x after) (sym g.reading_is)
          (subst (λ x. Stands (words_of (h.done ++ p ∷ [])) g.taken.reading x) (sym g.added)
          (subst (λ x. Stands x g.taken.reading (controls ++ made g.taken.control)) (sym (words-append h.done (p ∷ []))) stands));
    }

pub word-fault : (text rest : Bytes) (r : Reading) (controls : List Control) (start len : ℕ) → HasTaken text rest r controls
    → IsFirst rest start len
    → step r (take len (drop start rest)) ≡ None
    → IsFaultAt text ((length text - length rest) + start)
word-fault text rest r controls start len h f e =
    let p = piece-of text rest start len in
    of_word (record {
      front = h.done;
      word = p;
      rest = pieces_from ((length text - length rest) + (start + len)) (drop (start + len) rest);
      stands = h.split ∙ ap (λ x. h.done ++ x) (f.cut (length text - length rest));
      begins = stands-begin (words_of h.done) r controls h.stands;
      breaks = stops (words_of h.done) r controls p.bytes h.stands e;
      place = refl;
    })

all-done : (text rest : Bytes) (r : Reading) (controls : List Control) → (h : HasTaken text rest r controls)
    → ((at : ℕ) → pieces_from at rest ≡ [])
    → h.done ≡ pieces text
all-done text rest r controls h none =
    sym (h.split ∙ ap (λ x. h.done ++ x) (none (length text - length rest)) ∙ append-nil h.done)

pub whole-text : (text rest : Bytes) (r : Reading) (controls : List Control) → HasTaken text rest r controls
    → ((at : ℕ) → pieces_from at rest ≡ [])
    → is_whole r ≡ true
    → IsControlText text controls
whole-text text rest r controls h none e =
    subst (λ ps. AskFor (words_of ps) controls) (all-done text rest r controls h none) (at-end (words_of h.done) r controls h.stands e)

-- a text asks for few controls
pub few-controls : (text : Bytes) (controls : List Control) → IsControlText text controls → length controls ≤ 64
few-controls text controls a =
    subst (λ n. n ≤ 64) (sym (ap length a.controls_are ∙ length-map a.items control_of)) a.few

pub end-fault : (text rest : Bytes) (r : Reading) (controls : List Control) → HasTaken text rest r controls
    → ((at : ℕ) → pieces_from at rest ≡ [])
    → is_whole r ≡ false
    → IsFaultAt text (length text)
end-fault text rest r controls h none e =
    let same = all-done text rest r controls h none in
    of_end (record {
      begins = subst (λ ps. Begin (words_of ps)) same (stands-begin (words_of h.done) r controls h.stands);
      open_end = λ others a.
          not-at-end (words_of h.done) r controls h.stands e others (subst (λ ps. AskFor (words_of ps) others) (sym same) a);
      place = refl;
    })

-- ---- as the code says it

pub word-refused : (text bytes rest : Bytes) (r : Reading) (controls after : List Control) (start len : ℕ) (o : Option Reading)
    → HasTaken text rest r controls
    → IsFirst rest start len
    → Takes r (take ((start + len) - start) (drop start rest)) controls after o
    → o ≡ None
    → bytes ≡ text
    → IsFaultAt text ((length bytes - length rest) + start)
word-refused text bytes rest r controls after start len o h f t e b =
    let none : step r (take ((start + len) - start) (drop start rest)) ≡ None = subst (Takes r _ controls after) e t in
    subst (λ x. IsFaultAt text ((length x - length rest) + start)) (sym b)
    (word-fault text rest r controls start len h f (subst (λ w. step r w ≡ None) (slice-of start len rest) none))

pub word-accepted : (text rest : Bytes) (r next : Reading) (controls after : List Control) (start len : ℕ) (o : Option Reading)
    → HasTaken text rest r controls
    → IsFirst rest start len
    → Takes r (take ((start + len) - start) (drop start rest)) controls after o
    → o ≡ Some next
    → HasTaken text (take (length rest - (start + len)) (drop (start + len) rest)) next after
word-accepted text rest r next controls after start len o h f t e =
    let on : GoesOn r (take ((start + len) - start) (drop start rest)) controls after next = subst (Takes r _ controls after) e t in
    subst (λ x. HasTaken text x next after) (sym (slice-behind (start + len) rest))
    (taken-more text rest r next controls after start len h f
    (subst (λ w. GoesOn r w controls after next) (slice-of start len rest) on))

pub text-begins : (text bytes : Bytes) (r : Reading) (controls : List Control) → bytes ≡ text → r ≡ begin → controls ≡ []
    → HasTaken text bytes r controls
text-begins text bytes r controls b e n =
    subst (λ x. HasTaken text x r controls) (sym b)
    (subst (λ x. HasTaken text text x controls) (sym e) (subst (λ x. HasTaken text text begin x) (sym n) (taken-none text)))
