-- The pieces of an expression's text. Only the crate's private clauses cite this file.
use Rattle.std.specs.Prelude.{◌≡◌, ℕ, ◌+◌, ◌*◌, List, [], ◌∷◌, ◌++◌, length, Option, Some, None, codes}
use Rattle.std.specs.List.{AllZip}
use Rattle.fcp_model.specs.declared.term.ArithOp.{ArithOp}
use Rattle.fcp_model.specs.Places.{Variable}
use Rattle.fcp_model.specs.Terms.{Bindings}
use Rattle.fcp_model.specs.Expressions.{Expr, leaf, op}
use Rattle.fcp_model.specs.Spelling.{Bytes}
use Rattle.fcp_model.specs.TermText.{cut_text}
use Rattle.fcp_model.specs.LogText.{both_texts}
use Rattle.fcp_model.specs.ReportText.{operator_text, operand_text}
use Rattle.heap_words.specs.Trails.{WordList, Memory}
use Rattle.ro_unify.specs.Walks.{words_left}
use Rattle.word_states.specs.Words.{Words}
use Rattle.word_states.specs.Denoting.{Addresses, ExprSays}
use Rattle.entry_lines.specs.Additions.{Adds}
use Rattle.process_texts.specs.Reading.{AllWords}
use Rattle.process_texts.specs.declared.items.Item.{Item}
use Rattle.process_texts.specs.declared.items.Item.TheVariants.{Operand, Operator, Close}

-- an operand, an operator, or the end of an operation
pub data Piece : Type 0 where
  operand : Expr Variable → Piece
  operator : ArithOp → Piece
  close : Piece

-- their texts, one after another
abbrev pub piece_text : ℕ → List Bytes → Bindings → Piece → Option Bytes
piece_text n names s (operand e) = operand_text n names s e
piece_text n names s (operator o) = Some (operator_text o)
piece_text n names s close = Some (codes ")")

abbrev pub pieces_text : ℕ → List Bytes → Bindings → List Piece → Option Bytes
pieces_text n names s [] = Some []
pieces_text n names s (p ∷ ps) = both_texts (piece_text n names s p) (pieces_text n names s ps)

-- the items of an operation by its operator and the address of the operator's number, behind which the operands stand
abbrev pub operation_items : Memory → ArithOp × ℕ → List Item
operation_items m o = Operand (m (o.1 + 1)) ∷ Operator o.0 ∷ Operand (m (o.1 + 2)) ∷ []

-- what comes next of an operand that is this operation, or a term
abbrev pub next_items : Memory → Option (ArithOp × ℕ) → List Item
next_items m None = []
next_items m (Some o) = operation_items m o ++ Close ∷ []

-- of an operand a term is written, or a parenthesis
abbrev pub OperandAdds : List Bytes → Bindings → Expr Variable → Bytes → Bytes → Type 0
OperandAdds names s (leaf t) old new = Adds old new (λ n. cut_text n names s 1024 t)
OperandAdds names s (op o a b) old new = new ≡ old ++ codes "("

-- so it was of the operand of a word
abbrev pub AddsOperand : WordList → List Bytes → ℕ → Bytes → Bytes → Type 0
AddsOperand kept names x old new = AllWords kept (λ w vs bound. (e : Expr Variable) → ExprSays w vs x e → OperandAdds names bound e old new)

-- the item is the piece
abbrev pub ItemSays : Words → Addresses → Item → Piece → Type 0
ItemSays w vs (Operand x) (operand e) = ExprSays w vs x e
ItemSays w vs (Operator o) (operator q) = o ≡ q
ItemSays w vs Close close = Unit {0}
ItemSays w vs _ _ = ⊥

-- the texts of the pieces that the items are were put after the text
abbrev pub AddsPieces : WordList → List Bytes → List Item → Bytes → Bytes → Type 0
AddsPieces kept names items old new = AllWords kept (λ w vs bound. (ps : List Piece) → AllZip (ItemSays w vs) items ps
    → Adds old new (λ n. pieces_text n names bound ps))

-- the word of an operand leads to known addresses alone
abbrev pub ItemLeads : (ℕ → Type 0) → Item → Type 0
ItemLeads leads (Operand x) = leads x
ItemLeads leads (Operator o) = Unit {0}
ItemLeads leads Close = Unit {0}

-- The item was taken from the items `before`: the pieces of `after` stand for what is still to be written of its own, and of theirs.
abbrev pub TakesPiece : WordList → List Bytes → Item → List Item → Bytes → List Item → Bytes → Type 0
TakesPiece kept names item before old after new = AllWords kept (λ w vs bound. (p : Piece) (ps : List Piece) → ItemSays w vs item p
    → AllZip (ItemSays w vs) before ps → (qs : List Piece) × AllZip (ItemSays w vs) after qs
    × ((end : Bytes) → Adds new end (λ n. pieces_text n names bound qs) → Adds old end (λ n. pieces_text n names bound (p ∷ ps))))

-- the words of the operands among some items
abbrev pub words_in : List Item → List ℕ
words_in [] = []
words_in (Operand x ∷ is) = x ∷ words_in is
words_in (Operator o ∷ is) = words_in is
words_in (Close ∷ is) = words_in is

-- how many more steps there may be, where these items are left
abbrev pub items_left : ℕ → WordList → WordList → (ℕ → Option ℕ) → List Item → ℕ
items_left n binds kept own is = 4 * words_left n binds kept own (words_in is) + length is
