-- Processes that are put into the table one after another.
use Rattle.std.proofs.Common.{◌≡◌, ◌⊎◌, ℕ, zero, suc, ◌+◌, ◌<◌, ◌≤◌, Bool, true, false, cond, List, [], ◌∷◌, ◌++◌, length, take, get_or, Some}
use Rattle.std.proofs.Common.{refl, sym, ap, ◌∙◌, subst, inl, inr, ⊎_elim, arith}
use Rattle.std.proofs.lemmas.List.{take_all, take_more}
use Rattle.std.proofs.lemmas.Option.{same_Some}
use Rattle.fcp_model.specs.declared.run.Proc.{Proc}
use Rattle.fcp_model.specs.Places.{is_same_process}
use Rattle.fcp_model.specs.States.{Process, State, is_ready}
use Rattle.fcp_laws.proofs.ProcessNames.{same_process, same_itself}
use Rattle.word_states.specs.Words.{Words, IsIn}
use Rattle.word_states.specs.Standing.{Book, StandsFor, ProcessAt}
use Rattle.word_states.specs.Going.{AllAt}
use Rattle.log_replay.specs.Tables.{Table, address_of, IsReadyAt, HasOnlyReady, AreReady, IsOneOf, IsInTable, PutsAll}
use Rattle.log_replay.specs.Parts.{NamesThere, PutsIn}

pub in_list : (as' : List ℕ) (i d : ℕ) → i < length as' → IsIn (get_or as' i d) as'
in_list [] i d h = absurd (omega arith)
in_list (a ∷ as') zero d h = inl refl
in_list (a ∷ as') (suc i) d h = inr (in_list as' i d (omega arith))

pub puts_none : (w : Words) (t : Table) → PutsAll w [] t t
puts_none w t = record { stay = λ q h. h; put = none; only = λ book s xs st all may h. h }
  where
    none : (book : Book) (s : State) (xs : List Process) → StandsFor book w s → AllAt book s [] xs → (x : Process) → IsOneOf xs x
        → IsInTable t x.name
    none book s [] st all x h = absurd h
    none book s (y ∷ xs) st all x h = absurd all

-- the processes at the last address and at those before it
record IsSplit (book : Book) (s : State) (as' : List ℕ) (a : ℕ) (xs : List Process) : Type 0 where
  pub before : List Process
  pub last : Process
  pub are : xs ≡ before ++ last ∷ []
  pub all : AllAt book s as' before
  pub there : ProcessAt book s a last

split : (book : Book) (s : State) (as' : List ℕ) (a : ℕ) (xs : List Process) → AllAt book s (as' ++ a ∷ []) xs → IsSplit book s as' a xs
split book s [] a [] h = absurd h
split book s [] a (x ∷ []) h = record { before = []; last = x; are = refl; all = tt; there = h.0 }
split book s [] a (x ∷ y ∷ xs) h = absurd h.1
split book s (b ∷ as') a [] h = absurd h
split book s (b ∷ as') a (x ∷ xs) h =
    let r = split book s as' a xs h.1 in
    record { before = x ∷ r.before; last = r.last; are = ap (λ ys. x ∷ ys) r.are; all = (h.0, r.all); there = r.there }

one_split : (xs : List Process) (y x : Process) → IsOneOf (xs ++ y ∷ []) x → IsOneOf xs x ⊎ (y ≡ x)
one_split [] y x (inl e) = inr e
one_split [] y x (inr h) = absurd h
one_split (z ∷ xs) y x (inl e) = inl (inl e)
one_split (z ∷ xs) y x (inr h) = ⊎_elim (λ (i : IsOneOf xs x). let r : IsOneOf (z ∷ xs) x ⊎ (y ≡ x) = inl (inr i) in r)
    (λ (e : y ≡ x). inr e) (one_split xs y x h)

ready_split : (xs : List Process) (y : Process) → AreReady (xs ++ y ∷ []) → AreReady xs × (is_ready y.status ≡ true)
ready_split [] y h = (tt, h.0)
ready_split (x ∷ xs) y h = let r = ready_split xs y h.1 in ((h.0, r.0), r.1)

pub puts_more : (w : Words) (as' : List ℕ) (a : ℕ) (q : Proc) (t u u' : Table) → PutsAll w as' t u → NamesThere w a q → PutsIn q a u u'
    → PutsAll w (as' ++ a ∷ []) t u'
puts_more w as' a q t u u' h named put = record { stay = λ r i. kept r (h.stay r i); put = all_put; only = only }
  where
    itself : IsInTable u' q
    itself = (a, put q ∙ ap (λ (b : Bool). cond b (Some a) (address_of u q)) (same_itself q))

    kept : (r : Proc) → IsInTable u r → IsInTable u' r
    kept r i = go (is_same_process q r) (put r)
      where
        go : (b : Bool) → address_of u' r ≡ cond b (Some a) (address_of u r) → IsInTable u' r
        go true e = (a, e)
        go false e = (i.0, e ∙ i.1)

    all_put : (book : Book) (s : State) (xs : List Process) → StandsFor book w s → AllAt book s (as' ++ a ∷ []) xs
        → (x : Process) → IsOneOf xs x → IsInTable u' x.name
    all_put book s xs st all x i =
        let r = split book s as' a xs all in
        ⊎_elim (λ (j : IsOneOf r.before x). kept x.name (h.put book s r.before st r.all x j))
        (λ (e : r.last ≡ x). subst (IsInTable u') (sym (named book s r.last st r.there) ∙ ap (λ (z : Process). z.name) e) itself)
        (one_split r.before r.last x (subst (λ (ys : List Process). IsOneOf ys x) r.are i))

    only : (book : Book) (s : State) (xs : List Process) → StandsFor book w s → AllAt book s (as' ++ a ∷ []) xs → AreReady xs
        → HasOnlyReady book s t → HasOnlyReady book s u'
    only book s xs st all may old r p e = go (is_same_process q r) refl (put r)
      where
        parts : IsSplit book s as' a xs
        parts = split book s as' a xs all

        ready : AreReady parts.before × (is_ready parts.last.status ≡ true)
        ready = ready_split parts.before parts.last (subst AreReady parts.are may)

        go : (b : Bool) → is_same_process q r ≡ b → address_of u' r ≡ cond b (Some a) (address_of u r) → IsReadyAt book s r p
        go true same f =
            let at : a ≡ p = same_Some _ _ (sym f ∙ e) in
            subst (IsReadyAt book s r) at
            (record {
              process = parts.last;
              there = parts.there;
              named = named book s parts.last st parts.there ∙ same_process q r same;
              may_move = ready.1;
            })
        go false same f = h.only book s parts.before st parts.all ready.0 old r p (sym f ∙ e)

-- the processes at the first i addresses were put in
abbrev pub PutsFirst : Words → List ℕ → ℕ → Table → Table → Type 0
PutsFirst w as' i t u = PutsAll w (take i as') t u

pub puts_next : (w : Words) (as' : List ℕ) (i d : ℕ) (q : Proc) (t u u' : Table) → i < length as' → PutsFirst w as' i t u
    → NamesThere w (get_or as' i d) q → PutsIn q (get_or as' i d) u u' → PutsFirst w as' (i + 1) t u'
puts_next w as' i d q t u u' l h named put =
    subst (λ (xs : List ℕ). PutsAll w xs t u') (sym (take_more as' i d l)) (puts_more w (take i as') (get_or as' i d) q t u u' h named put)

pub puts_all : (w : Words) (as' : List ℕ) (i : ℕ) (t u : Table) → length as' ≤ i → PutsFirst w as' i t u → PutsAll w as' t u
puts_all w as' i t u l h = subst (λ (xs : List ℕ). PutsAll w xs t u) (take_all i as' l) h
