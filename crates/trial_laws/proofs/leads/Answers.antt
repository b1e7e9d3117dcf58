use Rattle.trial_laws.proofs.LedPieces.{led_by_more, led_slot, led_left}
use Rattle.trial_laws.proofs.LedLaws.{led_variable, led_pair, led_tuple, led_operation, led_wide, led_child, led_first, led_try}
use Rattle.trial_laws.proofs.LedEnds.{led_unification, led_commit, terms_stand}
use Rattle.trial_laws.proofs.leads.Goals as goal

pub returns-clause-more : goal.returns-clause-more
returns-clause-more c = led_by_more

pub returns-clause-slot : goal.returns-clause-slot
returns-clause-slot c = led_slot

pub returns-clause-variable : goal.returns-clause-variable
returns-clause-variable c = led_variable

pub returns-clause-pair : goal.returns-clause-pair
returns-clause-pair c = led_pair

pub returns-clause-tuple : goal.returns-clause-tuple
returns-clause-tuple c = led_tuple

pub returns-clause-operation : goal.returns-clause-operation
returns-clause-operation c = led_operation

pub returns-clause-wide : goal.returns-clause-wide
returns-clause-wide c = led_wide

pub returns-clause-child : goal.returns-clause-child
returns-clause-child c = led_child

pub returns-clause-first_ : goal.returns-clause-first_
returns-clause-first_ c = led_first

pub returns-clause-begins : goal.returns-clause-begins
returns-clause-begins c = led_try

pub returns-clause-leaving : goal.returns-clause-leaving
returns-clause-leaving c = led_left

pub returns-clause-unification : goal.returns-clause-unification
returns-clause-unification c = led_unification

pub returns-clause-commit : goal.returns-clause-commit
returns-clause-commit c = led_commit

pub returns-clause-terms : goal.returns-clause-terms
returns-clause-terms c = terms_stand
