-- Which cell a word is that says something of a waiting list.
use Rattle.std.proofs.Common.{◌≡◌, ℕ, ◌<◌, true, Option, Some, None, refl, ap, arith, eqb-true}
use Rattle.heap_words.specs.declared.cell.Cell.{Cell}
use Rattle.heap_words.specs.declared.cell.Cell.TheVariants.{Unbound, Ref, RoRef, Small, Wide, Str, Nil, Cons, Tuple, Status, Raw, Top}
use Rattle.heap_words.specs.declared.cell.Stand.TheVariants.{Ready, Waiting, Done}
use Rattle.suspension_lists.specs.Cells.{list_of, link_of, process_of, waits_by}

pub is_raw : (o : Option Cell) (p : ℕ) → process_of o ≡ Some p → o ≡ Some (Raw p)
is_raw (Some (Raw q)) p e = ap (λ (k : Option ℕ). elim k as (λ _. Option Cell) [ None ↦ None | Some r ↦ Some (Raw r) ]) e
is_raw None p e = cc
is_raw (Some (Unbound k)) p e = cc
is_raw (Some (Ref k)) p e = cc
is_raw (Some (RoRef k)) p e = cc
is_raw (Some (Small z)) p e = cc
is_raw (Some (Wide k h)) p e = cc
is_raw (Some (Str s)) p e = cc
is_raw (Some Nil) p e = cc
is_raw (Some (Cons k)) p e = cc
is_raw (Some (Tuple k)) p e = cc
is_raw (Some (Status d)) p e = cc
is_raw (Some (Top k)) p e = cc

pub is_cons : (o : Option Cell) → 0 < link_of o → o ≡ Some (Cons (link_of o))
is_cons (Some (Cons k)) i = refl
is_cons None i = absurd (omega arith)
is_cons (Some (Unbound k)) i = absurd (omega arith)
is_cons (Some (Ref k)) i = absurd (omega arith)
is_cons (Some (RoRef k)) i = absurd (omega arith)
is_cons (Some (Small z)) i = absurd (omega arith)
is_cons (Some (Wide k h)) i = absurd (omega arith)
is_cons (Some (Str s)) i = absurd (omega arith)
is_cons (Some Nil) i = absurd (omega arith)
is_cons (Some (Raw k)) i = absurd (omega arith)
is_cons (Some (Tuple k)) i = absurd (omega arith)
is_cons (Some (Status d)) i = absurd (omega arith)
is_cons (Some (Top k)) i = absurd (omega arith)

pub is_unbound : (o : Option Cell) → 0 < list_of o → o ≡ Some (Unbound (list_of o))
is_unbound (Some (Unbound k)) i = refl
is_unbound None i = absurd (omega arith)
is_unbound (Some (Cons k)) i = absurd (omega arith)
is_unbound (Some (Ref k)) i = absurd (omega arith)
is_unbound (Some (RoRef k)) i = absurd (omega arith)
is_unbound (Some (Small z)) i = absurd (omega arith)
is_unbound (Some (Wide k h)) i = absurd (omega arith)
is_unbound (Some (Str s)) i = absurd (omega arith)
is_unbound (Some Nil) i = absurd (omega arith)
is_unbound (Some (Raw k)) i = absurd (omega arith)
is_unbound (Some (Tuple k)) i = absurd (omega arith)
is_unbound (Some (Status d)) i = absurd (omega arith)
is_unbound (Some (Top k)) i = absurd (omega arith)

pub is_waiting : (n : ℕ) (o : Option Cell) → waits_by n o ≡ true → o ≡ Some (Status (Waiting n))
is_waiting n (Some (Status (Waiting k))) e = ap (λ (m : ℕ). Some (Status (Waiting m))) (eqb-true k n e)
is_waiting n (Some (Status Ready)) e = cc
is_waiting n (Some (Status Done)) e = cc
is_waiting n None e = cc
is_waiting n (Some (Unbound k)) e = cc
is_waiting n (Some (Cons k)) e = cc
is_waiting n (Some (Ref k)) e = cc
is_waiting n (Some (RoRef k)) e = cc
is_waiting n (Some (Small z)) e = cc
is_waiting n (Some (Wide k h)) e = cc
is_waiting n (Some (Str s)) e = cc
is_waiting n (Some Nil) e = cc
is_waiting n (Some (Raw k)) e = cc
is_waiting n (Some (Tuple k)) e = cc
is_waiting n (Some (Top k)) e = cc
