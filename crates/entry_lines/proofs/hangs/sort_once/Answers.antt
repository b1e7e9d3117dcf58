use Rattle.std.proofs.lemmas.List.Filters.{dedup_is}
use Rattle.std.proofs.lemmas.List.Kept.{Contains-dedup, Contains-from_dedup, IsStrictlySortedBy-dedup}
use Rattle.std.proofs.lemmas.List.Sorted.{Contains-permutation, IsPermutation-sym}
use Rattle.fcp_model.specs.Places.{is_same_place}
use Rattle.fcp_model.proofs.Finding.{is_same_place-true}
use Rattle.entry_lines.proofs.ByAge.{order_total, ties, same_equivalence, listed_contains, contains_listed, sorted_by_age}
use Rattle.entry_lines.proofs.hangs.sort_once.Goals as goal

pub returns-clause-same : goal.returns-clause-same
returns-clause-same c j =
    let is = dedup_is is_same_place _ _ c.dedup.ensures.filtered in
    let moved = c.sort_unstable.ensures.permutation in (
      λ h. contains_listed _ j (rw is (Contains-dedup same_equivalence is_same_place-true _ j
          (Contains-permutation _ _ j moved (listed_contains _ j h)))),
      λ h. contains_listed _ j (Contains-permutation _ _ j (IsPermutation-sym _ _ moved)
          (Contains-from_dedup is_same_place _ j (rw is at (listed_contains _ j h)))),
    )

pub returns-clause-by_age : goal.returns-clause-by_age
returns-clause-by_age c =
    rw (dedup_is is_same_place _ _ c.dedup.ensures.filtered)
    (sorted_by_age _ (IsStrictlySortedBy-dedup order_total ties _ c.sort_unstable.ensures.sorted))
