-- Cells that refer to nothing.
use Rattle.std.proofs.Common.{◌≡◌, ℕ, ◌<◌, true, cond, Some, None, refl, sym, ap, ◌∙◌, arith}
use Rattle.std.proofs.lemmas.Bool.{eqb-true}
use Rattle.std.proofs.lemmas.Option.{same_Some}
use Rattle.heap_words.specs.Cells.{decoded}
use Rattle.heap_words.specs.Refers.{Refers, HasPart, teller}
use Rattle.heap_words.specs.declared.cell.Cell.{Cell}
use Rattle.heap_words.specs.declared.cell.Cell.TheVariants.{Unbound, Ref, RoRef, Small, Wide, Str, Nil, Cons, Tuple, Status, Raw, Top}
use Rattle.goal_layout.specs.Laying.{is_quiet}
use Rattle.goal_layout.proofs.Views.{is_constant}

-- one word has one cell
pub same_cell : (x : ℕ) (c d : Cell) → decoded x ≡ Some c → decoded x ≡ Some d → c ≡ d
same_cell x c d e f = same_Some c d (sym e ∙ f)

pub quiet_refers : (c : Cell) (b : ℕ) → is_quiet c ≡ true → Refers c b → ⊥
quiet_refers (Unbound e) b q r = let h : e ≡ 0 = eqb-true e 0 q in let k : 0 < e = r.0 in omega arith
quiet_refers (Small z) b q r = r
quiet_refers (Raw n) b q r = r
quiet_refers (Top a) b q r = r
quiet_refers (Ref a) b q r = cc
quiet_refers (RoRef a) b q r = cc
quiet_refers (Wide a h) b q r = cc
quiet_refers (Str s) b q r = cc
quiet_refers Nil b q r = cc
quiet_refers (Cons a) b q r = cc
quiet_refers (Tuple a) b q r = cc
quiet_refers (Status d) b q r = cc

pub quiet_part : (c : Cell) (b : ℕ) → is_quiet c ≡ true → HasPart c b → ⊥
quiet_part (Unbound e) b q r = quiet_refers (Unbound e) b q r
quiet_part (Small z) b q r = r
quiet_part (Raw n) b q r = r
quiet_part (Top a) b q r = r
quiet_part (Ref a) b q r = cc
quiet_part (RoRef a) b q r = cc
quiet_part (Wide a h) b q r = cc
quiet_part (Str s) b q r = cc
quiet_part Nil b q r = cc
quiet_part (Cons a) b q r = cc
quiet_part (Tuple a) b q r = cc
quiet_part (Status d) b q r = cc

pub quiet_tells : (c : Cell) → is_quiet c ≡ true → teller c ≡ None
quiet_tells (Unbound e) q = ap (λ b. cond b None (Some e)) q
quiet_tells (Small z) q = refl
quiet_tells (Raw n) q = refl
quiet_tells (Top a) q = refl
quiet_tells (Ref a) q = refl
quiet_tells (RoRef a) q = refl
quiet_tells (Wide a h) q = refl
quiet_tells (Str s) q = refl
quiet_tells Nil q = refl
quiet_tells (Cons a) q = cc
quiet_tells (Tuple a) q = cc
quiet_tells (Status d) q = refl

pub constant_refers : (c : Cell) (b : ℕ) → is_constant c ≡ true → Refers c b → ⊥
constant_refers (Small z) b q r = r
constant_refers (Str s) b q r = r
constant_refers Nil b q r = r
constant_refers (Unbound e) b q r = cc
constant_refers (Ref a) b q r = cc
constant_refers (RoRef a) b q r = cc
constant_refers (Wide a h) b q r = cc
constant_refers (Cons a) b q r = cc
constant_refers (Tuple a) b q r = cc
constant_refers (Status d) b q r = cc
constant_refers (Raw n) b q r = cc
constant_refers (Top a) b q r = cc

pub constant_part : (c : Cell) (b : ℕ) → is_constant c ≡ true → HasPart c b → ⊥
constant_part (Small z) b q r = r
constant_part (Str s) b q r = r
constant_part Nil b q r = r
constant_part (Unbound e) b q r = cc
constant_part (Ref a) b q r = cc
constant_part (RoRef a) b q r = cc
constant_part (Wide a h) b q r = cc
constant_part (Cons a) b q r = cc
constant_part (Tuple a) b q r = cc
constant_part (Status d) b q r = cc
constant_part (Raw n) b q r = cc
constant_part (Top a) b q r = cc

pub constant_tells : (c : Cell) → is_constant c ≡ true → teller c ≡ None
constant_tells (Small z) q = refl
constant_tells (Str s) q = refl
constant_tells Nil q = refl
constant_tells (Unbound e) q = cc
constant_tells (Ref a) q = refl
constant_tells (RoRef a) q = refl
constant_tells (Wide a h) q = refl
constant_tells (Cons a) q = cc
constant_tells (Tuple a) q = cc
constant_tells (Status d) q = refl
constant_tells (Raw n) q = refl
constant_tells (Top a) q = refl
