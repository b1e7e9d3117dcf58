use Rattle.std.proofs.Common.{◌≡◌, ◌++◌, ℕ, List, ap, ◌∙◌, rules}
use Rattle.std.specs.Prelude.{reverse}
use Rattle.std.proofs.lemmas.List.{reverse-reverse}
use Rattle.std.proofs.lemmas.Iterator.Adapters.{items_from_extend, YieldsList-from_rev_slice}
use Rattle.std.proofs.lemmas.Iterator.Consumers.{YieldsList-from_copied}
use Rattle.ro_unify.specs.Occurs.{stack}
use Rattle.ro_unify.proofs.unification.put_pairs.Goals as goal

pub returns-in-Ok : goal.returns-in-Ok
returns-in-Ok c =
    let h = items_from_extend c.extend.result c.extend.ensures.ran
    (YieldsList-from_copied (YieldsList-from_rev_slice c.args.pairs.now cc)) in
    let k : c.extend.new.self.items ≡ c.clear.new.self.items ++ reverse c.args.pairs.now = search rules in
    ap stack (k ∙ ap (λ (xs : List (ℕ × ℕ)). xs ++ reverse c.args.pairs.now) c.clear.ensures.items) ∙ reverse-reverse c.args.pairs.now
