use Rattle.std.proofs.Common.{◌≡◌, ◌+◌, ◌≤◌, ◌++◌, map, drop, vec_len}
use Rattle.fcp_model.specs.declared.term.Term.{size-Term}
use Rattle.fcp_model.specs.Translation.{term_of, terms_of}
use Rattle.head_code.specs.TermCode.{put, puts, width, widths}
use Rattle.head_code.proofs.PutLoops.{Remains, closed}
use Rattle.head_code.proofs.terms.+terms.Given as goal

-- what is left to emit: the list's rest, and the pairs
abbrev pub invariant-put_rest-loop-rest : goal.invariant-put_rest-loop-rest
invariant-put_rest-loop-rest l =
    Remains l.fn.code l.code (put l.slot l.next (term_of l.list)) (put l.at l.free (term_of l.rest) ++ closed l.pairs.items)
    × (l.free + width (term_of l.rest) ≡ l.next + width (term_of l.list))
    × (size-Term l.rest ≤ size-Term l.list)

-- the pairs are left
abbrev pub invariant-put_rest-loop-whole : goal.invariant-put_rest-loop-whole
invariant-put_rest-loop-whole l =
    Remains l.fn.code l.code (put l.slot l.next (term_of l.list)) (closed l.pairs.items) × (l.end ≡ l.next + width (term_of l.list))

abbrev pub decreases-put_rest-loop-whole : goal.decreases-put_rest-loop-whole
decreases-put_rest-loop-whole l = vec_len l.pairs

-- the terms from here on are left
abbrev pub invariant-put_parts-loop-term : goal.invariant-put_parts-loop-term
invariant-put_parts-loop-term l =
    Remains l.fn.code l.code (puts l.slot l.next (terms_of (map term_of l.terms)))
    (puts l.at l.free (terms_of (map term_of (drop l.term-index l.terms))))
    × (l.free + widths (terms_of (map term_of (drop l.term-index l.terms))) ≡ l.next + widths (terms_of (map term_of l.terms)))
