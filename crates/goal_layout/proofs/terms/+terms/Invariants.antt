use Rattle.goal_layout.proofs.Listing.{IsListing}
use Rattle.goal_layout.proofs.Tupling.{IsTupling}
use Rattle.goal_layout.proofs.terms.+terms.Given as goal

abbrev pub invariant-lay_list-loop-rest : goal.invariant-lay_list-loop-rest
invariant-lay_list-loop-rest l = IsListing l.list l.fn.words l.words l.result l.second l.rest

abbrev pub invariant-lay_tuple-loop-place : goal.invariant-lay_tuple-loop-place
invariant-lay_tuple-loop-place l = IsTupling l.parts l.place l.fn.words l.words l.at
