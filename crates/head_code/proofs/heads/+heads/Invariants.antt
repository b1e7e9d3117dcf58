use Rattle.std.proofs.Common.{◌≡◌, ◌+◌, length, map, drop, vec_len}
use Rattle.std.specs.Prelude.{reverse}
use Rattle.fcp_model.specs.declared.term.Term.{size-Term}
use Rattle.fcp_model.specs.HeadPairs.{mark, marks}
use Rattle.fcp_model.specs.Translation.{term_of, terms_of}
use Rattle.head_code.specs.TermCode.{width, widths}
use Rattle.head_code.proofs.PutLoops.{Remains}
use Rattle.head_code.proofs.OpenLoops.{opening_code, parts_code, shut, RestLeft, PartsLeft}
use Rattle.head_code.proofs.heads.+heads.Given as goal

-- the list's rest is left, and the ends of its pairs
abbrev pub invariant-open_rest-loop-rest : goal.invariant-open_rest-loop-rest
invariant-open_rest-loop-rest l =
    RestLeft l.fn.code l.code (opening_code l.fn.code l.fn.at (term_of l.list)) l.here l.left l.rest l.pairs.items
    (l.fn.at.parts + width (term_of l.list)) (mark l.fn.at.met (term_of l.list)).met (size-Term l.list)

-- the ends of pairs are left
abbrev pub invariant-open_rest-loop-pair : goal.invariant-open_rest-loop-pair
invariant-open_rest-loop-pair l =
    Remains l.fn.code l.code (opening_code l.fn.code l.fn.at (term_of l.list)) (shut (length l.code.instrs.items) (reverse l.pairs.items))
    × (l.end.behind ≡ l.fn.at.parts + width (term_of l.list)) × (l.end.met ≡ (mark l.fn.at.met (term_of l.list)).met)

abbrev pub decreases-open_rest-loop-pair : goal.decreases-open_rest-loop-pair
decreases-open_rest-loop-pair l = vec_len l.pairs

-- the terms from here on are left
abbrev pub invariant-open_parts-loop-term : goal.invariant-open_parts-loop-term
invariant-open_parts-loop-term l =
    PartsLeft l.fn.code l.code (parts_code l.fn.code l.fn.at (terms_of (map term_of l.terms))) l.here (drop l.term-index l.terms)
    (l.fn.at.parts + widths (terms_of (map term_of l.terms))) (marks l.fn.at.met (terms_of (map term_of l.terms))).met
