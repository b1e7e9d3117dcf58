-- What a seat has in memory, after a stamp and after words were published.
use Rattle.std.proofs.Common.{◌≡◌, ℕ, suc, ◌+◌, ◌-◌, ◌<◌, ◌≤◌, List, [], ◌∷◌, ◌++◌, length, drop, refl, sym, ap, ◌∙◌, subst, arith}
use Rattle.std.proofs.Common.{append-nil, Option, Some, None}
use Rattle.std.specs.Prelude.{slice_get}
use Rattle.word_commit.specs.declared.quota.Quota.{Quota}
use Rattle.word_commit.specs.declared.view.View.{View}
use Rattle.word_commit.specs.declared.view.Numbered.{Numbered}
use Rattle.word_commit.specs.Meanings.{Meaning}
use Rattle.word_commit.specs.Views.{Commits, Moves, Cells, rest, paid, published, all_published, joined}
use Rattle.word_commit.specs.Kept.{numbers_of}
use Rattle.word_commit.specs.Conditions.{Affords}
use Rattle.word_commit.specs.Seats.{Has, pending_of, due_of, kept_of}
use Rattle.word_commit.proofs.Lists.{drop_here}
use Rattle.word_commit.proofs.Pages.{numbers_both}

module _ {E L : Type 0} (f : E → L) where
  pub kept_both : (es fs : List (Numbered E)) → kept_of f (es ++ fs) ≡ kept_of f es ++ kept_of f fs
  kept_both [] fs = refl
  kept_both (x ∷ es) fs = ap (λ l. f x.entry ∷ l) (kept_both es fs)

  -- with nothing pending the journal has all entries, and one more is pending
  pub kept_more : (es : List (Numbered E)) (js : List L) (p : Option (Numbered E)) (x : Numbered E) → p ≡ None → kept_of f es
      ≡ js ++ kept_of f (pending_of p)
      → kept_of f (es ++ x ∷ []) ≡ js ++ f x.entry ∷ []
  kept_more es js p x none_there e = kept_both es (x ∷ []) ∙ ap (λ l. l ++ f x.entry ∷ [])
      (subst (λ q. kept_of f es ≡ js ++ kept_of f (pending_of q)) none_there e ∙ append-nil js)

module _ {E : Type 0} where
  pub numbers_more : (es : List (Numbered E)) (js : List ℕ) (p : Option (Numbered E)) (x : Numbered E) → p ≡ None → numbers_of es
      ≡ js ++ numbers_of (pending_of p)
      → numbers_of (es ++ x ∷ []) ≡ js ++ x.number ∷ []
  numbers_more es js p x none_there e = numbers_both es (x ∷ []) ∙ ap (λ l. l ++ x.number ∷ [])
      (subst (λ q. numbers_of es ≡ js ++ numbers_of (pending_of q)) none_there e ∙ append-nil js)

  pub room_more : (p : Option (Numbered E)) (len spare room : ℕ) → p ≡ None → 0 < spare → len + length (pending_of p) + spare ≤ room
      → len + 1 + (spare - 1) ≤ room
  room_more p len spare room none_there some_there h = let q : len + length (pending_of {E = E} None) + spare ≤ room = subst
      (λ q. len + length (pending_of q) + spare ≤ room) none_there h in
      let z : length (pending_of {E = E} None) ≡ 0 = refl in omega arith

  -- what is left of the quota
  pub has_less : (m : Meaning E) (v : View E) (e : E) (funds cost less : Quota) → Has v.purse funds → cost ≡ m.cost e
      → (less.commits ≡ funds.commits - cost.commits) × (less.moves ≡ funds.moves - cost.moves)
      × (less.cells ≡ funds.cells - cost.cells) → Has (paid v.purse (m.cost e)) less
  has_less m v e funds cost less has is h =
      let a : cost.commits ≡ (m.cost e).commits = ap (λ (q : Quota). q.commits) is in
      let b : cost.moves ≡ (m.cost e).moves = ap (λ (q : Quota). q.moves) is in
      let c : cost.cells ≡ (m.cost e).cells = ap (λ (q : Quota). q.cells) is in
      let x = h.0 in let y = h.1 in let z = h.2 in let i = has.0 in let j = has.1 in let k = has.2 in
      (omega arith, omega arith, omega arith)

  pub can_pay : (m : Meaning E) (v : View E) (e : E) (funds cost : Quota) → Has v.purse funds → cost ≡ m.cost e → Affords m v e
      → (cost.commits ≤ funds.commits) × (cost.moves ≤ funds.moves) × (cost.cells ≤ funds.cells)
  can_pay m v e funds cost has is affords =
      let a : cost.commits ≡ (m.cost e).commits = ap (λ (q : Quota). q.commits) is in
      let b : cost.moves ≡ (m.cost e).moves = ap (λ (q : Quota). q.moves) is in
      let c : cost.cells ≡ (m.cost e).cells = ap (λ (q : Quota). q.cells) is in
      let i = has.0 in let j = has.1 in let k = has.2 in
      let x = affords Commits in let y = affords Moves in let z = affords Cells in (omega arith, omega arith, omega arith)

  -- a published word's view has the rest to publish
  pub publish_step : (v : View E) (a x : ℕ) (r : List (ℕ × ℕ)) → v.grip.due ≡ (a, x) ∷ r
      → (all_published (published v a x) (published v a x).grip.due ≡ all_published v v.grip.due) × ((published v a x).grip.due ≡ r)
  publish_step v a x r e = let d : rest v.grip.due ≡ r = ap rest e in
      (ap (all_published (published v a x)) d ∙ sym (ap (all_published v) e), d)

  pub published_entries : (v : View E) (l : List (ℕ × ℕ)) → ((all_published v l).entries ≡ v.entries)
      × ((all_published v l).purse ≡ v.purse)
  published_entries v [] = (refl, refl)
  published_entries v (x ∷ xs) = published_entries (published v x.0 x.1) xs

module _ {E L : Type 0} (f : E → L) where
  -- the pending entry goes into the journal
  pub kept_pushed : (vs ws : List (Numbered E)) (js ks : List L) (old new : Option (Numbered E)) (p : Numbered E) (l : L) → ws ≡ vs
      → kept_of f vs ≡ js ++ kept_of f (pending_of old)
      → old ≡ Some p → ks ≡ js ++ l ∷ [] → l ≡ f p.entry → new ≡ None → kept_of f ws ≡ ks ++ kept_of f (pending_of new)
  kept_pushed vs ws js ks old new p l e h o k is n = ap (kept_of f) e ∙ subst (λ q. kept_of f vs ≡ js ++ kept_of f (pending_of q)) o h
      ∙ ap (λ y. js ++ y ∷ []) (sym is) ∙ sym k
      ∙ sym (append-nil ks) ∙ ap (λ q. ks ++ kept_of f (pending_of q)) (sym n)

module _ {E : Type 0} where
  pub numbers_pushed : (vs ws : List (Numbered E)) (js ks : List ℕ) (old new : Option (Numbered E)) (p : Numbered E) → ws ≡ vs
      → numbers_of vs ≡ js ++ numbers_of (pending_of old)
      → old ≡ Some p → ks ≡ js ++ p.number ∷ [] → new ≡ None → numbers_of ws ≡ ks ++ numbers_of (pending_of new)
  numbers_pushed vs ws js ks old new p e h o k n = ap numbers_of e ∙ subst (λ q. numbers_of vs ≡ js ++ numbers_of (pending_of q)) o h
      ∙ sym k
      ∙ sym (append-nil ks) ∙ ap (λ q. ks ++ numbers_of (pending_of q)) (sym n)

  pub due_none : (m : Meaning E) (due : List (ℕ × ℕ)) (new : Option (Numbered E)) → due ≡ [] → new ≡ None → due ≡ due_of m new
  due_none m due new e n = e ∙ ap (due_of m) (sym n)

  pub due_some : (m : Meaning E) (due : List (ℕ × ℕ)) (old : Option (Numbered E)) (p : Numbered E) → due ≡ due_of m old → old ≡ Some p
      → due ≡ m.writes p.entry p.number
  due_some m due old p e o = e ∙ ap (due_of m) o

  pub room_pushed : (old new : Option (Numbered E)) (p : Numbered E) (len len' spare room room' : ℕ) → old ≡ Some p → new ≡ None → len'
      ≡ len + 1 → room' ≡ room
      → len + length (pending_of old) + spare ≤ room → len' + length (pending_of new) + spare ≤ room'
  room_pushed old new p len len' spare room room' o n l r h =
      let a : length (pending_of old) ≡ 1 = ap (λ q. length (pending_of q)) o in
      let b : length (pending_of new) ≡ 0 = ap (λ q. length (pending_of q)) n in omega arith

  -- One word of an entry was published: the word at `at` of what it writes.
  pub record Writes (v u : View E) (ws : List (ℕ × ℕ)) (at a x : ℕ) : Type 0 where
    pub owed : v.grip.due ≡ (a, x) ∷ rest v.grip.due
    pub due : u.grip.due ≡ drop (at + 1) ws
    pub end : at + 1 ≤ length ws
    pub view : all_published u u.grip.due ≡ all_published v v.grip.due

  pub one_written : (v u : View E) (ws : List (ℕ × ℕ)) (at a x : ℕ) → v.grip.due ≡ drop at ws → slice_get ws at ≡ Some (a, x) → u
      ≡ published v a x → Writes v u ws at a x
  one_written v u ws at a x due got is =
      let r = drop_here ws at (a, x) got in
      let whole : v.grip.due ≡ (a, x) ∷ drop (suc at) ws = due ∙ r.0 in
      let step = publish_step v a x (drop (suc at) ws) whole in
      let next : suc at ≡ at + 1 = omega arith in record {
        owed = whole ∙ ap (λ l. (a, x) ∷ l) (sym (ap rest whole));
        due = ap (λ (w : View E). w.grip.due) is ∙ step.1 ∙ ap (λ (i : ℕ). drop i ws) next;
        end = let h = r.1 in omega arith;
        view = ap (λ (w : View E). all_published w w.grip.due) is ∙ step.0;
      }

module _ {E L : Type 0} (f : E → L) where
  pub length-kept_of : (es : List (Numbered E)) → length (kept_of f es) ≡ length es
  length-kept_of [] = refl
  length-kept_of (x ∷ es) = ap (λ (n : ℕ). suc n) (length-kept_of es)

  -- with nothing pending the journal is as long as the list of entries
  pub length_kept : (es : List (Numbered E)) (js : List L) (p : Option (Numbered E)) → p ≡ None → kept_of f es
      ≡ js ++ kept_of f (pending_of p) → length js ≡ length es
  length_kept es js p n e = ap length (sym (append-nil js)) ∙ ap (λ q. length (js ++ kept_of f (pending_of q))) (sym n) ∙ sym
      (ap length e) ∙ length-kept_of es

  pub kept_joined : (vs ws es : List (Numbered E)) (js ks ls : List L) (p q : Option (Numbered E)) → es ≡ vs ++ ws → kept_of f vs
      ≡ js ++ kept_of f (pending_of p) → p ≡ None
      → kept_of f ws ≡ ks ++ kept_of f (pending_of q) → q ≡ None → ls ≡ js ++ ks → kept_of f es ≡ ls ++ kept_of f (pending_of p)
  kept_joined vs ws es js ks ls p q e v n w o l =
      let a : kept_of f vs ≡ js = subst (λ z. kept_of f vs ≡ js ++ kept_of f (pending_of z)) n v ∙ append-nil js in
      let b : kept_of f ws ≡ ks = subst (λ z. kept_of f ws ≡ ks ++ kept_of f (pending_of z)) o w ∙ append-nil ks in
      ap (kept_of f) e ∙ kept_both f vs ws ∙ ap (λ z. z ++ kept_of f ws) a ∙ ap (λ z. js ++ z) b ∙ sym l ∙ sym (append-nil ls) ∙ ap
      (λ z. ls ++ kept_of f (pending_of z)) (sym n)

module _ {E : Type 0} where
  pub numbers_joined : (vs ws es : List (Numbered E)) (js ks ls : List ℕ) (p q : Option (Numbered E)) → es ≡ vs ++ ws → numbers_of vs
      ≡ js ++ numbers_of (pending_of p) → p ≡ None
      → numbers_of ws ≡ ks ++ numbers_of (pending_of q) → q ≡ None → ls ≡ js ++ ks → numbers_of es ≡ ls ++ numbers_of (pending_of p)
  numbers_joined vs ws es js ks ls p q e v n w o l =
      let a : numbers_of vs ≡ js = subst (λ z. numbers_of vs ≡ js ++ numbers_of (pending_of z)) n v ∙ append-nil js in
      let b : numbers_of ws ≡ ks = subst (λ z. numbers_of ws ≡ ks ++ numbers_of (pending_of z)) o w ∙ append-nil ks in
      ap numbers_of e ∙ numbers_both vs ws ∙ ap (λ z. z ++ numbers_of ws) a ∙ ap (λ z. js ++ z) b ∙ sym l ∙ sym (append-nil ls) ∙ ap
      (λ z. ls ++ numbers_of (pending_of z)) (sym n)

  pub room_joined : (p : Option (Numbered E)) (len more spare n room room' : ℕ) → n ≡ more → more ≤ spare → room ≤ room'
      → len + length (pending_of p) + spare ≤ room
      → len + more + length (pending_of p) + (spare - n) ≤ room'
  room_joined p len more spare n room room' e le up h = omega arith

  pub has_joined : (v w : View E) (a b c : Quota) → Has v.purse a → Has w.purse b
      → (c.commits ≡ a.commits + b.commits) × (c.moves ≡ a.moves + b.moves) × (c.cells ≡ a.cells + b.cells) → Has (joined v w).purse c
  has_joined v w a b c x y z = let x0 = x.0 in let x1 = x.1 in let x2 = x.2 in let y0 = y.0 in let y1 = y.1 in let y2 = y.2 in
      let z0 = z.0 in let z1 = z.1 in let z2 = z.2 in
      (omega arith, omega arith, omega arith)
