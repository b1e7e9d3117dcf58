-- The numbers under which faults are printed.
use Rattle.std.specs.Prelude.{ℕ}
use Rattle.fcp_model.specs.declared.fault.Code.{Code}
use Rattle.fcp_model.specs.declared.fault.Code.TheVariants.{NotUtf8, BadCharacter, OpenQuote, NumberRange, Unexpected, TooDeep, TooLarge, UnknownAttribute, RepeatedModule, Reserved, UnknownTest, UnknownProcedure, ExportUnknown, BadExpression, NotExported}

-- the number of a code
abbrev pub code_number : Code → ℕ
code_number NotUtf8 = 1
code_number BadCharacter = 2
code_number OpenQuote = 3
code_number NumberRange = 4
code_number Unexpected = 5
code_number TooDeep = 6
code_number TooLarge = 7
code_number UnknownAttribute = 8
code_number RepeatedModule = 9
code_number Reserved = 10
code_number UnknownTest = 11
code_number UnknownProcedure = 12
code_number ExportUnknown = 13
code_number BadExpression = 14
code_number NotExported = 15
