-- The variables that are read for an answer, and what is said of them.
use Rattle.std.proofs.Common.{◌≡◌, List, [], ◌∷◌, ◌++◌, Option, Some, None, ◌∙◌, subst}
use Rattle.fcp_model.specs.Places.{Variable}
use Rattle.fcp_model.specs.Terms.{Bindings, find}
use Rattle.fcp_model.specs.Occurs.{Found, hit, miss}
use Rattle.fcp_model.specs.Pair.{Treated}
use Rattle.fcp_model.specs.Unification.{Ended, done, clash, wait}
use Rattle.fcp_model.specs.Expressions.{Evaluated, gives, bad, unready}
use Rattle.fcp_model.specs.Tests.{Tested, holds, fails, pauses}
use Rattle.fcp_model.specs.Reads.{AreUnbound}
use Rattle.fcp_model.specs.Trials.{Tried, succeeds, try_fails, try_waits}

-- each of the variables has the property
abbrev pub Every : (Variable → Type 0) → List Variable → Type 0
Every P [] = Unit {0}
Every P (v ∷ vs) = P v × Every P vs

pub every_left : (P : Variable → Type 0) (vs us : List Variable) → Every P (vs ++ us) → Every P vs
every_left P [] us h = tt
every_left P (v ∷ vs) us h = (h.0, every_left P vs us h.1)

pub every_right : (P : Variable → Type 0) (vs us : List Variable) → Every P (vs ++ us) → Every P us
every_right P [] us h = h
every_right P (v ∷ vs) us h = every_right P vs us h.1

pub every_both : (P : Variable → Type 0) (vs us : List Variable) → Every P vs → Every P us → Every P (vs ++ us)
every_both P [] us h i = i
every_both P (v ∷ vs) us h i = (h.0, every_both P vs us h.1 i)

pub every_so : (P Q : Variable → Type 0) → ((v : Variable) → P v → Q v) → (vs : List Variable) → Every P vs → Every Q vs
every_so P Q f [] h = tt
every_so P Q f (v ∷ vs) h = (f v h.0, every_so P Q f vs h.1)

-- the variable is not bound
abbrev pub IsUnbound : Bindings → Variable → Type 0
IsUnbound s v = find s v ≡ None

pub each_unbound : (s : Bindings) (vs : List Variable) → AreUnbound s vs → Every (IsUnbound s) vs
each_unbound s [] h = tt
each_unbound s (v ∷ vs) h = (h.0, each_unbound s vs h.1)

-- the variables read for an answer
abbrev pub found_reads : Found → List Variable
found_reads (hit rs) = rs
found_reads (miss rs) = rs

abbrev pub treated_reads : Treated → List Variable
treated_reads t = t.reads

abbrev pub ended_reads : Ended → List Variable
ended_reads (done bs rs) = rs
ended_reads (clash rs) = rs
ended_reads (wait rs) = rs

abbrev pub eval_reads : Evaluated → List Variable
eval_reads (gives z) = []
eval_reads bad = []
eval_reads (unready rs) = rs

abbrev pub tested_reads : Tested → List Variable
tested_reads (holds rs) = rs
tested_reads (fails rs) = rs
tested_reads (pauses rs) = rs

abbrev pub tried_reads : Tried → List Variable
tried_reads (succeeds bs rs) = rs
tried_reads (try_fails rs) = rs
tried_reads (try_waits rs) = rs

-- the answer has the property, where there is one
abbrev pub Gives : {A : Type 0} → (A → Type 0) → Option A → Type 0
Gives Q None = Unit {0}
Gives Q (Some x) = Q x

pub given : {A : Type 0} (Q : A → Type 0) (o : Option A) (x : A) → o ≡ Some x → Gives Q o → Q x
given Q o x e h = subst (Gives Q) e h

pub gives_so : {A : Type 0} (Q R : A → Type 0) → ((x : A) → Q x → R x) → (o : Option A) → Gives Q o → Gives R o
gives_so Q R f None h = tt
gives_so Q R f (Some x) h = f x h

-- the second answer is the first, where what was read for that has the property
abbrev pub Stays : {A : Type 0} → (A → List Variable) → (Variable → Type 0) → Option A → Option A → Type 0
Stays reads P None o = Unit {0}
Stays reads P (Some x) o = Every P (reads x) → o ≡ Some x

-- where what was read for the answer has the property, what was read before has it too
abbrev pub ReadsOn : {A : Type 0} → (A → List Variable) → (Variable → Type 0) → List Variable → Option A → Type 0
ReadsOn reads P rs o = Gives (λ x. Every P (reads x) → Every P rs) o

-- an answer over which the reads went on stays where the second one is another by what was read last
pub stays_behind : {A : Type 0} (reads : A → List Variable) (P : Variable → Type 0) (rs qs : List Variable) (o o' o'' : Option A)
    → ReadsOn reads P (rs ++ qs) o → (Every P qs → o'' ≡ o') → Stays reads P o o' → Stays reads P o o''
stays_behind reads P rs qs None o' o'' on e h = tt
stays_behind reads P rs qs (Some x) o' o'' on e h = λ g. e (every_right P rs qs (on g)) ∙ h g

-- what was read earlier went on too
pub reads_before : {A : Type 0} (reads : A → List Variable) (P : Variable → Type 0) (rs qs : List Variable) (o : Option A)
    → ReadsOn reads P (rs ++ qs) o → ReadsOn reads P rs o
reads_before reads P rs qs o h =
    gives_so (λ x. Every P (reads x) → Every P (rs ++ qs)) (λ x. Every P (reads x) → Every P rs) (λ x f g. every_left P rs qs (f g)) o h
