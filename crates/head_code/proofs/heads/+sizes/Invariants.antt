use Rattle.std.proofs.Common.{◌≡◌, ◌+◌, ◌≤◌, map, drop}
use Rattle.fcp_model.specs.declared.term.Term.{size-Term}
use Rattle.fcp_model.specs.Translation.{term_of, terms_of}
use Rattle.head_code.specs.OpenCode.{open_size, open_sizes}
use Rattle.head_code.proofs.heads.+sizes.Given as goal

abbrev pub invariant-opened_size-loop-rest : goal.invariant-opened_size-loop-rest
invariant-opened_size-loop-rest l =
    (l.size + open_size (term_of l.rest) ≡ open_size (term_of l.term)) × (size-Term l.rest ≤ size-Term l.term)

abbrev pub invariant-opened_sizes-loop-term : goal.invariant-opened_sizes-loop-term
invariant-opened_sizes-loop-term l =
    l.size + open_sizes (terms_of (map term_of (drop l.term-index l.terms))) ≡ open_sizes (terms_of (map term_of l.terms))
