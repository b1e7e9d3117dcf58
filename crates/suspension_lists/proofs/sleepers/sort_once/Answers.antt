use Rattle.std.proofs.lemmas.List.Filters.{dedup_is}
use Rattle.std.proofs.lemmas.List.Kept.{Contains-dedup, Contains-from_dedup, IsStrictlySortedBy-dedup}
use Rattle.std.proofs.lemmas.List.Sorted.{Contains-permutation, IsPermutation-sym}
use Rattle.suspension_lists.proofs.Sorting.{order_total, ties, same_equivalence, same_is, is_same, one_contains, contains_one, rises}
use Rattle.suspension_lists.proofs.sleepers.sort_once.Goals as goal

pub returns-clause-same : goal.returns-clause-same
returns-clause-same c s =
    let is = dedup_is is_same _ _ c.dedup.ensures.filtered in
    let moved = c.sort_unstable.ensures.permutation in (
      λ h. contains_one _ s (rw is (Contains-dedup same_equivalence same_is _ s (Contains-permutation _ _ s moved (one_contains _ s h)))),
      λ h. contains_one _ s
          (Contains-permutation _ _ s (IsPermutation-sym _ _ moved) (Contains-from_dedup is_same _ s (rw is at (one_contains _ s h)))),
    )

pub returns-clause-rise : goal.returns-clause-rise
returns-clause-rise c =
    rw (dedup_is is_same _ _ c.dedup.ensures.filtered)
    (rises _ (IsStrictlySortedBy-dedup order_total ties _ c.sort_unstable.ensures.sorted))
