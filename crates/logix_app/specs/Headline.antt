-- What a call of the program answers, prints and leaves behind: the statement that the top call carries.
use Rattle.std.specs.Prelude.{◌≡◌, ℕ, ◌<◌, ◌≤◌, List, [], length, take, Option, Some, IsSomeAnd}
use Rattle.command_words.specs.declared.order.Order.{Order}
use Rattle.command_words.specs.Readings.{file_of, IsReading, HasNoReading}
use Rattle.fcp_model.specs.Spelling.{Bytes}
use Rattle.logix_edge.specs.Causes.{Rose}
use Rattle.logix_edge.specs.Shelves.{Entries, bytes_of, Told}
use Rattle.logix_edge.specs.Sinks.{appended}
use Rattle.logix_app.specs.declared.status.Status.{Status}
use Rattle.logix_app.specs.declared.status.Status.TheVariants as status
use Rattle.logix_app.specs.Lines.{usage_line, shelf_line, too_long_line}
use Rattle.logix_app.specs.Answers.{AnswersOrder, CanDo, IsDoneOrNoMemory}

-- ---- what is answered: the words of the call, what the shelf holds, its count of faults before and after the call, and
-- ---- the name of the last fetch that failed, with a status and the text that it prints

-- the bytes of a file, at most 1,048,576: those under its name, where the shelf tells what it holds
pub record IsFetched (held : Option Entries) (name bytes : Bytes) : Type 0 where
  pub within : length bytes ≤ 1048576
  pub told : Told held (λ entries. bytes_of entries name ≡ Some bytes)

-- the words ask for something, the file that they name has these bytes, the answer is one to that, and no fault was counted
pub record IsAnswered (words : List Bytes) (held : Option Entries) (before now : ℕ) (s : Status) (text : Bytes) : Type 0 where
  pub order : Order
  pub reading : IsReading words order
  pub file : Bytes
  pub fetched : IsFetched held (file_of order) file
  pub answers : AnswersOrder order file s text
  pub quiet : now ≡ before

-- the words ask for nothing; no file was fetched
pub record IsUsage (words : List Bytes) (before now : ℕ) (text : Bytes) : Type 0 where
  pub line : text ≡ usage_line
  pub none : HasNoReading words
  pub quiet : now ≡ before

-- the shelf counted a fault of the file
pub record IsShelfFault (words : List Bytes) (before now : ℕ) (last : Option Bytes) (text : Bytes) : Type 0 where
  pub line : text ≡ shelf_line
  pub order : Order
  pub reading : IsReading words order
  pub rose : Rose before now
  pub of_file : last ≡ Some (file_of order)

-- the file has more bytes than 1,048,576
pub record IsTooLong (words : List Bytes) (held : Option Entries) (before now : ℕ) (text : Bytes) : Type 0 where
  pub line : text ≡ too_long_line
  pub order : Order
  pub reading : IsReading words order
  pub above : Told held (λ entries. IsSomeAnd (bytes_of entries (file_of order)) (λ bytes. 1048576 < length bytes))
  pub quiet : now ≡ before

-- by the status; where memory ran out nothing is printed
abbrev pub Answers : List Bytes → Option Entries → ℕ → ℕ → Option Bytes → Status → Bytes → Type 0
Answers words held before now last status.Usage text = IsUsage words before now text
Answers words held before now last status.Shelf text = IsShelfFault words before now last text
Answers words held before now last status.TooLong text = IsTooLong words held before now text
Answers words held before now last status.NoMemory text = text ≡ []
Answers words held before now last status.Sink text = ⊥
Answers words held before now last s text = IsAnswered words held before now s text

-- ---- what is written: `old` and `new` are what the sink took before and after the call, where it tells that

-- just the text of an answer was appended, and the sink counted no fault
pub record WritesWhole (answer : Bytes → Type 0) (old new : Option Bytes) (before now : ℕ) : Type 0 where
  pub text : Bytes
  pub answers : answer text
  pub written : new ≡ appended old text
  pub quiet : now ≡ before

-- the sink counted a fault, and a front of the text of some answer was appended
pub record WritesFront (answer : Status → Bytes → Type 0) (old new : Option Bytes) (before now : ℕ) : Type 0 where
  pub status : Status
  pub text : Bytes
  pub answers : answer status text
  pub count : ℕ
  pub written : new ≡ appended old (take count text)
  pub rose : Rose before now

-- by the status of the call
abbrev pub Writes : (Status → Bytes → Type 0) → Option Bytes → Option Bytes → ℕ → ℕ → Status → Type 0
Writes answer old new before now status.Sink = WritesFront answer old new before now
Writes answer old new before now s = WritesWhole (answer s) old new before now

-- ---- what has to be done: with no fault of the shelf or the sink it is done, unless memory runs out

-- the shelf tells what it holds, and the words ask for what can be done with a file of it that is not too long
pub record HasWork (words : List Bytes) (held : Option Entries) (order : Order) : Type 0 where
  pub entries : Entries
  pub tells : held ≡ Some entries
  pub reading : IsReading words order
  pub file : Bytes
  pub there : bytes_of entries (file_of order) ≡ Some file
  pub within : length file ≤ 1048576
  pub can : CanDo order file

-- where there is work and no fault was counted, neither of the shelf nor of the sink, it is done or memory ran out
abbrev pub Completes : List Bytes → Option Entries → ℕ → ℕ → ℕ → ℕ → Status → Type 0
Completes words held shelf_before shelf_now sink_before sink_now s =
    (order : Order) → HasWork words held order → ¬ Rose shelf_before shelf_now → ¬ Rose sink_before sink_now → IsDoneOrNoMemory order s
