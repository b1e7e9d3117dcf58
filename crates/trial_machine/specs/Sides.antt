-- The sides of a test, over the words of slots.
use Rattle.heap_words.specs.declared.steps.ExprStep.{ExprStep}
use Rattle.heap_words.specs.declared.steps.ExprStep.TheVariants.{Push, Apply}
use Rattle.machine_code.specs.Slots.{Step, push, apply}
use Rattle.try_desk.specs.Held.{Held, held_term}

-- a step over slots as one over the words that they hold as terms
abbrev pub held_step : Held → Step → ExprStep
held_step h (push i) = Push (held_term h i)
held_step h (apply o) = Apply o
