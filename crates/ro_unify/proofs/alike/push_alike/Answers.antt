use Rattle.std.proofs.Common.{◌≡◌, ◌++◌, ℕ, Bool, Some, None, List, cond, sym, ap, ◌∙◌, inl, inr, refl}
use Rattle.std.proofs.lemmas.Bool.{eq-eqb}
use Rattle.heap_words.specs.Cells.{decoded}
use Rattle.heap_words.specs.Trails.{Memory}
use Rattle.heap_words.proofs.Keeps.{loaded_twice, still_says}
use Rattle.ro_unify.specs.Occurs.{stack, whole_of, count_of}
use Rattle.ro_unify.specs.Alike.{alike, alike_as, before, pairs_after}
use Rattle.ro_unify.specs.declared.occurrence.Whole.{Whole}
use Rattle.ro_unify.specs.declared.occurrence.Whole.TheVariants.{Tuple}
use Rattle.ro_unify.proofs.Leads.{pair_known, tuple_known, parts_known, pairs_stay}
use Rattle.ro_unify.proofs.alike.push_alike.Goals as goal

pub push_pair_parts-requires-clause-known : goal.push_pair_parts-requires-clause-known
push_pair_parts-requires-clause-known g c = (
  pair_known g.met.W.Words.laws _ _ _ _ c.requires.sound c.requires.leads.0 (sym c.in-Pair.ensures)
      (inl refl),
  pair_known g.met.W.Words.laws _ _ _ _ c.requires.sound c.requires.leads.0 (sym c.in-Pair.ensures) (inr refl),
)

pub push_pair_parts-requires-clause-also : goal.push_pair_parts-requires-clause-also
push_pair_parts-requires-clause-also g c = (
  pair_known g.met.W.Words.laws _ _ _ _ c.requires.sound c.requires.leads.1 (sym c.in-Pair-whole_in-2.ensures)
      (inl refl),
  pair_known g.met.W.Words.laws _ _ _ _ c.requires.sound c.requires.leads.1 (sym c.in-Pair-whole_in-2.ensures) (inr refl),
)

pub both-requires-clause-known : goal.both-requires-clause-known
both-requires-clause-known g c = tuple_known g.met.W.Words.laws _ _ _ c.requires.sound c.requires.leads.0 (sym c.in-Tuple.ensures)

pub both-requires-clause-also : goal.both-requires-clause-also
both-requires-clause-also g c = tuple_known g.met.W.Words.laws _ _ _ c.requires.sound c.requires.leads.1 (sym c.in-Tuple-whole_in-3.ensures)

pub push_pairs_after-requires-clause-known : goal.push_pairs_after-requires-clause-known
push_pairs_after-requires-clause-known g c b lo hi =
    parts_known g.met.W.Words.laws _ _ _ _ b c.in_ok-counts-in-Tuple-whole_in-3.ensures.loaded.sound
    (g.met.W.Words.laws.stays_leading _ _ _ c.both.ensures.between c.requires.leads.0)
    (sym c.in-Tuple.ensures) c.in_ok-counts-in-Tuple-whole_in-3.ensures.had.0 lo (rw (← c.count_in.ensures) hi)

pub push_pairs_after-requires-clause-also : goal.push_pairs_after-requires-clause-also
push_pairs_after-requires-clause-also g c b lo hi =
    parts_known g.met.W.Words.laws _ _ _ _ b c.in_ok-counts-in-Tuple-whole_in-3.ensures.loaded.sound
    (g.met.W.Words.laws.stays_leading _ _ _ c.both.ensures.between c.requires.leads.1)
    (sym c.in-Tuple-whole_in-3.ensures) c.in_ok-counts-in-Tuple-whole_in-3.ensures.had.1 lo
    (rw (← c.if-counts.true, ← c.count_in.ensures) hi)

pub returns-in_ok-same-in-Atom-whole_in-clause-leads : goal.returns-in_ok-same-in-Atom-whole_in-clause-leads
returns-in_ok-same-in-Atom-whole_in-clause-leads g c h =
    pairs_stay g.met.W.Words.laws _ _ (stack c.args.work.now.items) c.is_same_atom.ensures.between h

pub returns-in_ok-push_pairs_after-in-Tuple-whole_in-3-clause-loaded : goal.returns-in_ok-push_pairs_after-in-Tuple-whole_in-3-clause-loaded
returns-in_ok-push_pairs_after-in-Tuple-whole_in-3-clause-loaded g c =
    loaded_twice g.met.W.Words.laws c.in_ok-counts-in-Tuple-whole_in-3.ensures.loaded
    c.in_ok-push_pairs_after-in-Tuple-whole_in-3.ensures.loaded

-- two tuples with one number of parts
tuples_alike : (m : Memory) (x y a b p q n : ℕ) (old new : List (ℕ × ℕ)) → Tuple a ≡ whole_of (decoded x) → Tuple b ≡ whole_of (decoded y)
    → m a ≡ p → m b ≡ q → p ≡ q → n ≡ count_of (decoded p) → new ≡ pairs_after m a b n ++ old → before (alike m x y) old ≡ Some new
tuples_alike m x y a b p q n old new e f k l s t w =
    ap (λ (z : Whole). before (alike_as m x y z (whole_of (decoded y))) old) (sym e)
    ∙ (ap (λ (z : Whole). before (alike_as m x y (Tuple a) z) old) (sym f)
    ∙ (ap (λ (c : Bool). before (cond c (Some (pairs_after m a b (count_of (decoded (m a))))) None) old)
    (eq-eqb (m a) (m b) (k ∙ (s ∙ sym l)))
    ∙ ap Some (ap (λ (z : ℕ). pairs_after m a b (count_of (decoded z)) ++ old) k ∙
    (ap (λ (z : ℕ). pairs_after m a b z ++ old) (sym t) ∙ sym w))))

pub returns-in_ok-push_pairs_after-in-Tuple-whole_in-3-clause-work : goal.returns-in_ok-push_pairs_after-in-Tuple-whole_in-3-clause-work
returns-in_ok-push_pairs_after-in-Tuple-whole_in-3-clause-work g c m i =
    let one =
    still_says g.met.W.Words.laws
    (λ m. m c.in-Tuple.at ≡ c.in_ok-counts-in-Tuple-whole_in-3.counts.0) c.in_ok-push_pairs_after-in-Tuple-whole_in-3.ensures.loaded
    c.in_ok-counts-in-Tuple-whole_in-3.ensures.one m i in
    let two =
    still_says g.met.W.Words.laws
    (λ m. m c.in-Tuple-whole_in-3.to ≡ c.in_ok-counts-in-Tuple-whole_in-3.counts.1)
    c.in_ok-push_pairs_after-in-Tuple-whole_in-3.ensures.loaded c.in_ok-counts-in-Tuple-whole_in-3.ensures.two m i in
    tuples_alike m c.args.left c.args.right c.in-Tuple.at c.in-Tuple-whole_in-3.to _ _ _ _ _ c.in-Tuple.ensures
    c.in-Tuple-whole_in-3.ensures one two c.if-counts.true c.count_in.ensures
    (c.in_ok-push_pairs_after-in-Tuple-whole_in-3.ensures.work m i)

pub returns-in_ok-push_pairs_after-in-Tuple-whole_in-3-clause-leads : goal.returns-in_ok-push_pairs_after-in-Tuple-whole_in-3-clause-leads
returns-in_ok-push_pairs_after-in-Tuple-whole_in-3-clause-leads g c h =
    c.in_ok-push_pairs_after-in-Tuple-whole_in-3.ensures.leads
    (pairs_stay g.met.W.Words.laws _ _ (stack c.args.work.now.items) c.both.ensures.between h)

pub returns-else-counts-clause-leads : goal.returns-else-counts-clause-leads
returns-else-counts-clause-leads g c h = pairs_stay g.met.W.Words.laws _ _ (stack c.args.work.now.items) c.both.ensures.between h
