use Rattle.steady_tries.proofs.Going.{start_steady, course_more, more_steady}
use Rattle.steady_tries.proofs.Beginning.{begin_steady}
use Rattle.steady_tries.proofs.begins.Goals as goal

pub returns-clause-start : goal.returns-clause-start
returns-clause-start c = start_steady

pub returns-clause-begins : goal.returns-clause-begins
returns-clause-begins c = begin_steady

pub returns-clause-course : goal.returns-clause-course
returns-clause-course c = course_more

pub returns-clause-more : goal.returns-clause-more
returns-clause-more c = more_steady
