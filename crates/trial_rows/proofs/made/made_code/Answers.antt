use Rattle.std.proofs.Common.{rules}
use Rattle.trial_rows.proofs.MadeCode.{code_sound}
use Rattle.trial_rows.proofs.made.made_code.Goals as goal

pub of-requires : goal.of-requires
of-requires c =
    code_sound c.args.instrs.now _ _ _ _ _ c.in-Ok-from_slice.ensures.items (search rules) (search rules) (c.may_all_stand.ensures (search rules))
