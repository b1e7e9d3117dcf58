-- What is answered to the words, what is written of that, and that what can be done is done.
use Rattle.std.proofs.Common.{◌≡◌, ℕ, ◌<◌, ◌≤◌, List, [], length, Option, Some, None, Ok, Err, ap, sym, ◌∙◌, subst, arith}
use Rattle.std.specs.Prelude.{Result, IfOk, IsSomeAnd}
use Rattle.control_texts.proofs.OneFault.{read-or-fault}
use Rattle.command_words.specs.declared.order.Order.{Order}
use Rattle.command_words.specs.declared.order.Order.TheVariants.{Run, Show}
use Rattle.command_words.specs.Readings.{file_of, IsReading}
use Rattle.command_words.proofs.Answering.{one-reading}
use Rattle.fcp_model.specs.declared.run.Control.{Control}
use Rattle.fcp_model.specs.declared.run.Limits.{Limits}
use Rattle.logix_edge.specs.declared.sink.Put.TheVariants as put
use Rattle.logix_edge.specs.Causes.{Rose}
use Rattle.logix_edge.specs.Shelves.{Entries, bytes_of}
use Rattle.logix_edge.specs.Sinks.{IsPut}
use Rattle.fcp_model.specs.Spelling.{Bytes}
use Rattle.fcp_model.specs.declared.memory.NoMemory.{NoMemory}
use Rattle.logix_app.specs.declared.answer.Answer.{Answer}
use Rattle.logix_app.specs.declared.status.Status.{Status}
use Rattle.logix_app.specs.declared.status.Status.TheVariants as status
use Rattle.logix_app.specs.Answers.{AnswersOrder, CanRun, CanShow, CanDo, IsDoneOrNoMemory}
use Rattle.logix_app.specs.Controls.{AreAsked, HasFaultAt}
use Rattle.logix_app.specs.Headline.{Answers, WritesWhole, Writes, HasWork, IsFetched, IsAnswered, Completes}
use Rattle.logix_app.specs.Parts.{text_of}
use Rattle.logix_app.proofs.KindsOfAnswers.{RunAnswer, ShowAnswer, CallAnswer, run-answer, show-answer, any-answer}
use Rattle.logix_app.proofs.KindsOfAnswers as kinds
use Rattle.logix_app.proofs.OneLoading.{no-fault, no-first-goal-fault}

-- ---- what is answered

-- no order is answered with one of these statuses
not-usage : (o : Order) (file text : Bytes) → AnswersOrder o file status.Usage text → ⊥
not-usage (Run name goal limits control) file text a = a
not-usage (Show name) file text a = a

not-shelf : (o : Order) (file text : Bytes) → AnswersOrder o file status.Shelf text → ⊥
not-shelf (Run name goal limits control) file text a = a
not-shelf (Show name) file text a = a

not-too-long : (o : Order) (file text : Bytes) → AnswersOrder o file status.TooLong text → ⊥
not-too-long (Run name goal limits control) file text a = a
not-too-long (Show name) file text a = a

not-sink : (o : Order) (file text : Bytes) → AnswersOrder o file status.Sink text → ⊥
not-sink (Run name goal limits control) file text a = a
not-sink (Show name) file text a = a

no-memory : (o : Order) (file text : Bytes) → AnswersOrder o file status.NoMemory text → text ≡ []
no-memory (Run name goal limits control) file text a = a
no-memory (Show name) file text a = a

module _ (words : List Bytes) (held : Option Entries) (before now : ℕ) (last : Option Bytes) where
  -- an answer to the order is one to the words
  as-answer : (s : Status) (text : Bytes) → IsAnswered words held before now s text → Answers words held before now last s text
  as-answer (status.Ended o) text a = a
  as-answer status.Shown text a = a
  as-answer (status.Module f) text a = a
  as-answer (status.Goal f) text a = a
  as-answer (status.Control at) text a = a
  as-answer status.NoMemory text a = no-memory a.order a.file text a.answers
  as-answer status.Usage text a = absurd (not-usage a.order a.file text a.answers)
  as-answer status.Shelf text a = absurd (not-shelf a.order a.file text a.answers)
  as-answer status.TooLong text a = absurd (not-too-long a.order a.file text a.answers)
  as-answer status.Sink text a = absurd (not-sink a.order a.file text a.answers)

  module _ (o : Order) (reading : IsReading words o) where
    -- the bytes were fetched
    fetched-answer : (bytes : Bytes) (s : Status) (text : Bytes) → IsFetched held (file_of o) bytes → now ≡ before
        → AnswersOrder o bytes s text → Answers words held before now last s text
    fetched-answer bytes s text f quiet a =
        as-answer s text (record { order = o; reading = reading; file = bytes; fetched = f; answers = a; quiet = quiet })

    -- where memory did not run out
    pub over-file-answers : (bytes : Bytes) (r : Result Answer NoMemory) → IsFetched held (file_of o) bytes → now ≡ before
        → IfOk r (λ a. AnswersOrder o bytes a.status (text_of a.output))
        → IfOk r (λ a. Answers words held before now last a.status (text_of a.output))
    over-file-answers bytes (Ok a) f quiet h = fetched-answer bytes a.status (text_of a.output) f quiet h
    over-file-answers bytes (Err e) f quiet h = tt

-- ---- what is written

module _ (words : List Bytes) (held : Option Entries) (before now : ℕ) (last old new : Option Bytes) (counted count : ℕ) where
  -- no status of an answer is that the sink failed
  whole-text : (s : Status) (text : Bytes) → Answers words held before now last s text
      → WritesWhole (Answers words held before now last s) old new counted count
      → Writes (Answers words held before now last) old new counted count s
  whole-text status.Sink text a w = absurd a
  whole-text (status.Ended o) text a w = w
  whole-text status.Shown text a w = w
  whole-text status.Usage text a w = w
  whole-text (status.Module f) text a w = w
  whole-text (status.Goal f) text a w = w
  whole-text (status.Control at) text a w = w
  whole-text status.Shelf text a w = w
  whole-text status.TooLong text a w = w
  whole-text status.NoMemory text a w = w

  -- the whole text was put
  pub writes-whole : (s : Status) (text : Bytes) → Answers words held before now last s text → IsPut old new counted count text put.Done
      → Writes (Answers words held before now last) old new counted count s
  writes-whole s text a p = whole-text s text a (record { text = text; answers = a; written = p.0; quiet = p.1 })

-- ---- what can be done is done

-- controls that are asked for by a text without a fault
pub no-fault-asked : (control : Option Bytes) (controls : List Control) (at : ℕ) → AreAsked control controls → HasFaultAt control at → ⊥
no-fault-asked None controls at a f = f
no-fault-asked (Some text) controls at a f = read-or-fault text controls at a f

run-is-done : (name goal file : Bytes) (limits : Limits) (control : Option Bytes) (s : Status) (text : Bytes) → CanRun control file goal
    → RunAnswer limits control file goal s text
    → IsDoneOrNoMemory (Run name goal limits control) s
run-is-done name goal file limits control s text can (kinds.ran o e r) =
    subst (IsDoneOrNoMemory (Run name goal limits control)) (sym e) tt
run-is-done name goal file limits control s text can (kinds.module_fault f e line first) =
    absurd (no-fault file can.load.m can.load.loaded.before f can.load.loaded.loaded first)
run-is-done name goal file limits control s text can (kinds.goal_fault f e line first) =
    absurd (no-first-goal-fault file goal can.load.m can.load.g can.load.names f can.load.loaded first)
run-is-done name goal file limits control s text can (kinds.control_fault at e line fault) =
    absurd (no-fault-asked control can.controls at can.asked fault.fault)

show-is-done : (name file : Bytes) (s : Status) (text : Bytes) → CanShow file → ShowAnswer file s text → IsDoneOrNoMemory (Show name) s
show-is-done name file s text can (kinds.shown e r) = subst (IsDoneOrNoMemory (Show name)) (sym e) tt
show-is-done name file s text can (kinds.module_fault f e line first) = absurd (no-fault file can.m can.names f can.loaded first)

-- an answer over the file that is there
order-is-done : (o : Order) (file : Bytes) (s : Status) (text : Bytes) → CanDo o file → AnswersOrder o file s text
    → (s ≡ status.NoMemory → ⊥)
    → IsDoneOrNoMemory o s
order-is-done (Run name goal limits control) file s text can a enough =
    run-is-done name goal file limits control s text can (run-answer limits control file goal s text a enough)
order-is-done (Show name) file s text can a enough = show-is-done name file s text can (show-answer file s text a enough)

above-limit : (o : Option Bytes) (file : Bytes) → o ≡ Some file → IsSomeAnd o (λ bytes. 1048576 < length bytes) → 1048576 < length file
above-limit o file e a = subst (λ x. IsSomeAnd x (λ bytes. 1048576 < length bytes)) e a

one-file : (file other : Bytes) (o : Option Bytes) → o ≡ Some file → o ≡ Some other → other ≡ file
one-file file other o e d = let g : Some other ≡ Some file = sym d ∙ e in cc

-- what is answered over the file of an order that the words ask for
module _ (words : List Bytes) (entries : Entries) (before now : ℕ) (last : Option Bytes) (o : Order) (file : Bytes) where
  -- each reading of the words names this file
  there-too : (p : Order) → IsReading words o → IsReading words p → bytes_of entries (file_of o) ≡ Some file
      → bytes_of entries (file_of p) ≡ Some file
  there-too p r q there = ap (λ x. bytes_of entries (file_of x)) (one-reading words p o q r) ∙ there

  -- the answer is over this file
  over-file : (s : Status) (text : Bytes) → IsReading words o → bytes_of entries (file_of o) ≡ Some file
      → IsAnswered words (Some entries) before now s text → AnswersOrder o file s text
  over-file s text r there a =
      let same : a.file ≡ file =
      one-file file a.file (bytes_of entries (file_of a.order)) (there-too a.order r a.reading there) a.fetched.told in
      subst (λ x. AnswersOrder x file s text) (one-reading words a.order o a.reading r)
      (subst (λ x. AnswersOrder a.order x s text) same a.answers)

  is-done : (s : Status) (text : Bytes) → IsReading words o → bytes_of entries (file_of o) ≡ Some file → length file ≤ 1048576
      → CanDo o file → ¬ Rose before now → (s ≡ status.NoMemory → ⊥) → CallAnswer words (Some entries) before now last s text
      → IsDoneOrNoMemory o s
  is-done s text r there within can quiet enough (kinds.usage e a) = absurd (a.none o r)
  is-done s text r there within can quiet enough (kinds.shelf e a) = absurd (quiet a.rose)
  is-done s text r there within can quiet enough (kinds.too_long e a) =
      let long = above-limit (bytes_of entries (file_of a.order)) file (there-too a.order r a.reading there) a.above in
      absurd (omega (arith, long, within))
  is-done s text r there within can quiet enough (kinds.answered a) =
      order-is-done o file s text can (over-file s text r there a) enough

no-memory-is-done : (o : Order) → IsDoneOrNoMemory o status.NoMemory
no-memory-is-done (Run name goal limits control) = tt
no-memory-is-done (Show name) = tt

module _ (words : List Bytes) (held : Option Entries) (before now : ℕ) (last old new : Option Bytes) (counted count : ℕ) where
  answered : (s : Status) → (s ≡ status.NoMemory → ⊥) → (o : Order) → HasWork words held o → ¬ Rose before now
      → WritesWhole (Answers words held before now last s) old new counted count → IsDoneOrNoMemory o s
  answered s enough o work quiet w =
      let answers = subst (λ x. Answers words x before now last s w.text) work.tells w.answers in
      is-done words work.entries before now last o work.file s w.text work.reading work.there work.within work.can quiet enough
      (any-answer words (Some work.entries) before now last s w.text answers enough)

  -- what was written with a status tells that the work was done, unless a fault was counted or memory ran out
  pub completes : (s : Status) → Writes (Answers words held before now last) old new counted count s
      → Completes words held before now counted count s
  completes status.NoMemory w o work p q = no-memory-is-done o
  completes status.Sink w o work p q = absurd (q w.rose)
  completes (status.Ended x) w o work p q = answered (status.Ended x) (λ e. cc) o work p w
  completes status.Shown w o work p q = answered status.Shown (λ e. cc) o work p w
  completes status.Usage w o work p q = answered status.Usage (λ e. cc) o work p w
  completes (status.Module f) w o work p q = answered (status.Module f) (λ e. cc) o work p w
  completes (status.Goal f) w o work p q = answered (status.Goal f) (λ e. cc) o work p w
  completes (status.Control at) w o work p q = answered (status.Control at) (λ e. cc) o work p w
  completes status.Shelf w o work p q = answered status.Shelf (λ e. cc) o work p w
  completes status.TooLong w o work p q = answered status.TooLong (λ e. cc) o work p w
