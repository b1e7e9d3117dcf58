-- Writing a text piece by piece, through a buffer.
use Rattle.std.proofs.Common.{◌≡◌, ℕ, zero, suc, true, false, ◌+◌, ◌≤◌, List, [], ◌∷◌, ◌++◌, length, take, Option, Some, None, ap, sym, ◌∙◌, subst, refl, append_assoc}
use Rattle.std.specs.Prelude.{Result, Ok, Err, IsErr}
use Rattle.std.proofs.lemmas.List.{append-nil}
use Rattle.std.proofs.Math.Seq.{take-append-add}
use Rattle.logix_edge.specs.Causes.{Rose}
use Rattle.logix_edge.specs.Sinks.{appended, StopsShort}
use Rattle.logix_edge.specs.declared.sink.SinkFailed.{SinkFailed}
use Rattle.fcp_text.specs.Writing.{Appends, IsWritten}
use Rattle.fcp_text.specs.Buffering.{Flows, IsBuffered}

-- the text went into the buffer as far as the rest, and no fault was counted
pub record HasRest (old new : Option (List ℕ)) (waited waits : List ℕ) (before now : ℕ) (text rest : List ℕ) : Type 0 where
  pub passed : List ℕ
  pub whole : passed ++ (waits ++ rest) ≡ waited ++ text
  pub below : new ≡ appended old passed
  pub quiet : now ≡ before

pub appended-nil : (old : Option (List ℕ)) → old ≡ appended old []
appended-nil None = refl
appended-nil (Some bs) = ap Some (sym (append-nil bs))

appended-append : (old : Option (List ℕ)) (xs ys : List ℕ) → appended (appended old xs) ys ≡ appended old (xs ++ ys)
appended-append None xs ys = refl
appended-append (Some bs) xs ys = ap Some (append_assoc bs xs ys)

-- at the start the rest is the whole text
pub begin : {old : Option (List ℕ)} {waited : List ℕ} {before : ℕ} {text : List ℕ} → HasRest old old waited waited before before text text
begin {old} {waited} {before} {text} = record { passed = []; whole = refl; below = appended-nil old; quiet = refl }

-- a piece was written, and what is after it is left
pub go_on : {old new new' : Option (List ℕ)} {waited waits waits' : List ℕ} {before now now' : ℕ} {text piece rest : List ℕ}
    → Flows new new' waits waits' now now' piece → HasRest old new waited waits before now text (piece ++ rest)
    → HasRest old new' waited waits' before now' text rest
go_on {old} {new} {new'} {waited} {waits} {waits'} {before} {now} {now'} {text} {piece} {rest} a h = record {
  passed = h.passed ++ a.passed;
  whole = append_assoc h.passed a.passed (waits' ++ rest)
      ∙ ap (λ bs. h.passed ++ bs) (sym (append_assoc a.passed waits' rest) ∙ ap (λ bs. bs ++ rest) a.whole ∙ append_assoc waits piece rest)
      ∙ h.whole;
  below = a.below ∙ ap (λ o. appended o a.passed) h.below ∙ appended-append old h.passed a.passed;
  quiet = a.quiet ∙ h.quiet;
}

-- nothing is left
pub finish : {old new : Option (List ℕ)} {waited waits : List ℕ} {before now : ℕ} {text : List ℕ}
    → HasRest old new waited waits before now text [] → Flows old new waited waits before now text
finish {old} {new} {waited} {waits} {before} {now} {text} h = record {
  passed = h.passed;
  whole = ap (λ bs. h.passed ++ bs) (sym (append-nil waits)) ∙ h.whole;
  below = h.below;
  quiet = h.quiet;
}

-- what is left, written otherwise
pub moved : {old new : Option (List ℕ)} {waited waits : List ℕ} {before now : ℕ} {text rest rest' : List ℕ} → rest ≡ rest'
    → HasRest old new waited waits before now text rest → HasRest old new waited waits before now text rest'
moved {old} {new} {waited} {waits} {before} {now} {text} e h = subst (λ r. HasRest old new waited waits before now text r) e h

-- a text, written otherwise
pub begin_as : {old : Option (List ℕ)} {waited : List ℕ} {before : ℕ} {text text' : List ℕ} → text ≡ text'
    → HasRest old old waited waited before before text text'
begin_as e = moved e begin

-- the last piece was written
pub last : {old new new' : Option (List ℕ)} {waited waits waits' : List ℕ} {before now now' : ℕ} {text rest : List ℕ}
    → Flows new new' waits waits' now now' rest → HasRest old new waited waits before now text rest
    → Flows old new' waited waits' before now' text
last {rest} a h = finish (go_on a (moved (sym (append-nil rest)) h))

-- a front of a piece is one of the piece with more after it
front : (k : ℕ) (xs ys : List ℕ) → (m : ℕ) × (take k xs ≡ take m (xs ++ ys))
front zero xs ys = (zero, refl)
front (suc k) [] ys = (zero, refl)
front (suc k) (x ∷ xs) ys = let f : (m : ℕ) × (take k xs ≡ take m (xs ++ ys)) = front k xs ys in (suc f.0, ap (λ zs. x ∷ zs) f.1)

-- a piece stopped short, of which the rest was the whole
stop_last : {old new new' : Option (List ℕ)} {waited waits : List ℕ} {before now now' : ℕ} {text rest : List ℕ}
    → StopsShort new new' now now' (waits ++ rest) → HasRest old new waited waits before now text rest
    → StopsShort old new' before now' (waited ++ text)
stop_last {old} {new} {new'} {waited} {waits} {before} {now} {now'} {text} {rest} s h =
    let bytes : List ℕ = waits ++ rest in record {
      front = (
        length h.passed + s.front.0,
        s.front.1 ∙ ap (λ o. appended o (take s.front.0 bytes)) h.below ∙ appended-append old h.passed (take s.front.0 bytes)
            ∙ ap (appended old) (sym (take-append-add h.passed bytes s.front.0) ∙ ap (take (length h.passed + s.front.0)) h.whole),
      );
      later = subst (λ n. n ≤ now') h.quiet s.later;
      rose = subst (λ n. Rose n now') h.quiet s.rose;
    }

-- a front of the bytes that waited, with more bytes after them
stop_before : {old new : Option (List ℕ)} {before now : ℕ} {bytes : List ℕ} → StopsShort old new before now bytes → (more : List ℕ)
    → StopsShort old new before now (bytes ++ more)
stop_before {old} {bytes} s more =
    let f : (m : ℕ) × (take s.front.0 bytes ≡ take m (bytes ++ more)) = front s.front.0 bytes more in
    record { front = (f.0, s.front.1 ∙ ap (appended old) f.1); later = s.later; rose = s.rose }

-- a piece stopped short
pub stop : {old new new' : Option (List ℕ)} {waited waits : List ℕ} (waits' : List ℕ) {before now now' : ℕ} {text : List ℕ}
    (piece : List ℕ) (answer : Result (Unit {0}) SinkFailed) → IsErr answer → StopsShort new new' now now' (waits ++ piece)
    → (rest : List ℕ) → HasRest old new waited waits before now text (piece ++ rest)
    → IsBuffered old new' waited waits' before now' text answer
stop waits' piece (Ok done) e s rest h = let p : false ≡ true = e in absurd (cc)
stop {new} {new'} {waits} waits' {now} {now'} piece (Err failed) e s rest h =
    stop_last (subst (StopsShort new new' now now') (append_assoc waits piece rest) (stop_before s rest)) h

-- the last piece was put, whatever came of it
pub end : {old new : Option (List ℕ)} {waited waits : List ℕ} (waits' : List ℕ) {before now : ℕ} {text rest : List ℕ}
    (answer : Result (Unit {0}) SinkFailed) (new' : Option (List ℕ)) (now' : ℕ) → HasRest old new waited waits before now text rest
    → IsBuffered new new' waits waits' now now' rest answer → IsBuffered old new' waited waits' before now' text answer
end waits' (Ok done) new' now' h a = last a h
end waits' (Err failed) new' now' h s = stop_last s h

-- what waited could not be put
pub unflushed : {old new : Option (List ℕ)} {waited : List ℕ} (waits : List ℕ) {before now : ℕ} (text : List ℕ)
    (answer : Result (Unit {0}) SinkFailed) → IsErr answer → StopsShort old new before now waited
    → IsBuffered old new waited waits before now text answer
unflushed waits text (Ok done) e s = let p : false ≡ true = e in absurd (cc)
unflushed waits text (Err failed) e s = stop_before s text

-- a text was put while nothing waited
unbuffered : (old : Option (List ℕ)) (before : ℕ) (text : List ℕ) (answer : Result (Unit {0}) SinkFailed) (new : Option (List ℕ)) (now : ℕ)
    → IsWritten old new before now text answer → IsBuffered old new [] [] before now text answer
unbuffered old before text (Ok done) new now a = record { passed = text; whole = append-nil text; below = a.whole; quiet = a.quiet }
unbuffered old before text (Err failed) new now s = s

-- what waited was put, and then the text itself
pub after_flush : {old new : Option (List ℕ)} {waited : List ℕ} (waits : List ℕ) {before now : ℕ} (text : List ℕ)
    (answer : Result (Unit {0}) SinkFailed) (new' : Option (List ℕ)) (now' : ℕ) → waits ≡ [] → Appends old new before now waited
    → IsWritten new new' now now' text answer → IsBuffered old new' waited waits before now' text answer
after_flush {old} {new} {waited} waits {before} {now} text answer new' now' e a w =
    let flowed : HasRest old new waited [] before now text text =
    record { passed = waited; whole = refl; below = a.whole; quiet = a.quiet } in
    subst (λ ws. IsBuffered old new' waited ws before now' text answer) (sym e)
    (end [] answer new' now' flowed (unbuffered new now text answer new' now' w))

-- a text flowed into a buffer in which nothing waited, and then what waited was put
flushed_all : (old new : Option (List ℕ)) (waits : List ℕ) (before now : ℕ) (text : List ℕ) (answer : Result (Unit {0}) SinkFailed)
    (new' : Option (List ℕ)) (now' : ℕ) → Flows old new [] waits before now text → IsWritten new new' now now' waits answer
    → IsWritten old new' before now' text answer
flushed_all old new waits before now text (Ok done) new' now' f a = record {
  whole = a.whole ∙ ap (λ o. appended o waits) f.below ∙ appended-append old f.passed waits ∙ ap (appended old) f.whole;
  quiet = a.quiet ∙ f.quiet;
}
flushed_all old new waits before now text (Err failed) new' now' f s =
    let flowed : HasRest old new [] [] before now text waits =
    record { passed = f.passed; whole = f.whole; below = f.below; quiet = f.quiet } in
    stop_last s flowed

pub flushed : {old new : Option (List ℕ)} {waited waits : List ℕ} {before now : ℕ} {text : List ℕ} (answer : Result (Unit {0}) SinkFailed)
    (new' : Option (List ℕ)) (now' : ℕ) → waited ≡ [] → Flows old new waited waits before now text
    → IsWritten new new' now now' waits answer → IsWritten old new' before now' text answer
flushed {old} {new} {waited} {waits} {before} {now} {text} answer new' now' e f a =
    flushed_all old new waits before now text answer new' now' (subst (λ ws. Flows old new ws waits before now text) e f) a
