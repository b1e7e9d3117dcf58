use Rattle.std.proofs.Common.{◌≡◌, ◌+◌, ◌≤◌, map, drop}
use Rattle.fcp_model.specs.declared.term.Term.{size-Term}
use Rattle.fcp_model.specs.Terms.{tuple}
use Rattle.fcp_model.specs.Translation.{term_of, terms_of}
use Rattle.head_code.specs.TermCode.{width}
use Rattle.head_code.proofs.terms.+widths.Given as goal

abbrev pub invariant-width-loop-rest : goal.invariant-width-loop-rest
invariant-width-loop-rest l = (l.slots + width (term_of l.rest) ≡ width (term_of l.term)) × (size-Term l.rest ≤ size-Term l.term)

abbrev pub invariant-widths-loop-term : goal.invariant-widths-loop-term
invariant-widths-loop-term l =
    l.slots + width (tuple (terms_of (map term_of (drop l.term-index l.terms)))) ≡ width (tuple (terms_of (map term_of l.terms)))
