-- Texts of expressions, piece by piece.
use Rattle.std.proofs.Common.{◌≡◌, ℕ, ◌+◌, List, [], ◌∷◌, ◌++◌, Option, Some, None, refl, sym, ap, ◌∙◌, subst}
use Rattle.std.specs.Prelude.{codes}
use Rattle.std.specs.List.{AllZip}
use Rattle.std.proofs.lemmas.Option.{none-some}
use Rattle.fcp_model.specs.declared.term.ArithOp.{ArithOp}
use Rattle.fcp_model.specs.Places.{Variable}
use Rattle.fcp_model.specs.Terms.{Term, Bindings}
use Rattle.fcp_model.specs.Expressions.{Expr, leaf, op}
use Rattle.fcp_model.specs.Spelling.{Bytes}
use Rattle.fcp_model.specs.TermText.{cut_text}
use Rattle.fcp_model.specs.LogText.{both_texts}
use Rattle.fcp_model.specs.ReportText.{operator_text, expr_text, operand_text}
use Rattle.heap_words.specs.Cells.{decoded}
use Rattle.heap_words.specs.Trails.{WordList, word_at}
use Rattle.heap_words.specs.declared.cell.Cell.TheVariants.{Tuple, Raw}
use Rattle.ro_unify.specs.Occurs.{stack}
use Rattle.word_states.specs.Words.{Words, At}
use Rattle.word_states.specs.Denoting.{Addresses, Denotes, ExprSays, operator_code}
use Rattle.unify_terms.specs.WordsOfTries.{memory_of, naming}
use Rattle.unify_terms.proofs.NamesOfPlaces.{AreOnce}
use Rattle.entry_lines.proofs.DenotedTerms.{denotes_there}
use Rattle.stored_expressions.specs.Listing.{operation_of}
use Rattle.stored_expressions.proofs.Operations.{is_operation, term_no_operation}
use Rattle.entry_lines.specs.Additions.{Adds}
use Rattle.entry_lines.specs.Lines.{HasKept}
use Rattle.entry_lines.proofs.Adding.{gives_same, adds_both, adds_nothing, both-nil, both-assoc}
use Rattle.entry_lines.proofs.Agreeing.{in_memory}
use Rattle.process_texts.specs.declared.items.Item.{Item}
use Rattle.process_texts.specs.declared.items.Item.TheVariants.{Operand, Operator, Close}
use Rattle.process_texts.specs.Reading.{AllWords}
use Rattle.process_texts.specs.Pieces.{Piece, operand, operator, close, pieces_text, operation_items, next_items, OperandAdds, AddsOperand}
use Rattle.process_texts.specs.Pieces.{ItemSays, AddsPieces, TakesPiece}
use Rattle.process_texts.proofs.ArgumentTexts.{adds_known}

-- the pieces that come next of an operand
abbrev next_pieces : Expr Variable → List Piece
next_pieces (leaf t) = []
next_pieces (op o a b) = operand a ∷ operator o ∷ operand b ∷ close ∷ []

zip_append : {A B : Type 0} (R : A → B → Type 0) (xs : List A) (ys : List B) (us : List A) (zs : List B) → AllZip R xs ys → AllZip R us zs
    → AllZip R (xs ++ us) (ys ++ zs)
zip_append R [] [] us zs h k = k
zip_append R [] (y ∷ ys) us zs h k = absurd h
zip_append R (x ∷ xs) [] us zs h k = absurd h
zip_append R (x ∷ xs) (y ∷ ys) us zs h k = (h.0, zip_append R xs ys us zs h.1 k)

-- what words say as operands, in their memory
module _ (w : Words) (vs : Addresses) (once : AreOnce vs) where
  term_no : (x : ℕ) (t : Term Variable) → Denotes w vs x t → operation_of (memory_of w) x ≡ None
  term_no x t d = term_no_operation (naming vs) (memory_of w) x t (denotes_there w vs once x t d)

  is_operation_there : (x c : ℕ) (o : ArithOp) → decoded x ≡ Some (Tuple c) → At w c (Raw (66 + operator_code o))
      → operation_of (memory_of w) x ≡ Some (o, c)
  is_operation_there x c o e h = is_operation (memory_of w) x c o e (ap decoded (in_memory w c h.0 h.1) ∙ h.2)

  operand_there : (a y : ℕ) (e : Expr Variable) → w a ≡ Some y → ExprSays w vs y e → ExprSays w vs (memory_of w a) e
  operand_there a y e i h = subst (λ (z : ℕ). ExprSays w vs z e) (sym (in_memory w a y i)) h

  next_say : (x : ℕ) (e : Expr Variable) → ExprSays w vs x e
      → AllZip (ItemSays w vs) (next_items (memory_of w) (operation_of (memory_of w) x)) (next_pieces e)
  next_say x (leaf t) h =
      subst (λ (q : Option (ArithOp × ℕ)). AllZip (ItemSays w vs) (next_items (memory_of w) q) []) (sym (term_no x t h)) tt
  next_say x (op o a b) h =
      subst (λ (q : Option (ArithOp × ℕ)). AllZip (ItemSays w vs) (next_items (memory_of w) q)
      (operand a ∷ operator o ∷ operand b ∷ close ∷ [])) (sym (is_operation_there x h.0 o h.3 h.4))
      (operand_there (h.0 + 1) h.1 a h.5 h.6, (refl, (operand_there (h.0 + 2) h.2 b h.7 h.8, (tt, tt))))

  module _ (names : List Bytes) (bound : Bindings) (x : ℕ) (one two : Bytes) where
    -- where the word is no operation, and where it is one
    pub operand_term : (e : Expr Variable) → operation_of (memory_of w) x ≡ None
        → ((t : Term Variable) → Denotes w vs x t → Adds one two (λ n. cut_text n names bound 1024 t)) → ExprSays w vs x e
        → OperandAdds names bound e one two
    operand_term (leaf t) none text h = text t h
    operand_term (op o a b) none text h = absurd (none-some (o, h.0) (sym none ∙ is_operation_there x h.0 o h.3 h.4))

    pub operand_opens : (e : Expr Variable) (q : ArithOp × ℕ) → operation_of (memory_of w) x ≡ Some q → two ≡ one ++ codes "("
        → ExprSays w vs x e → OperandAdds names bound e one two
    operand_opens (leaf t) q is text h = absurd (none-some q (sym (term_no x t h) ∙ is))
    operand_opens (op o a b) q is text h = text

    pub expression_term : (e : Expr Variable) → operation_of (memory_of w) x ≡ None
        → ((t : Term Variable) → Denotes w vs x t → Adds one two (λ n. cut_text n names bound 1024 t)) → ExprSays w vs x e
        → Adds one two (λ n. expr_text n names bound e)
    expression_term (leaf t) none text h = text t h
    expression_term (op o a b) none text h = absurd (none-some (o, h.0) (sym none ∙ is_operation_there x h.0 o h.3 h.4))

    pub expression_operation : (e : Expr Variable) (q : ArithOp × ℕ) → operation_of (memory_of w) x ≡ Some q
        → ((ps : List Piece) → AllZip (ItemSays w vs) (operation_items (memory_of w) q) ps → Adds one two (λ n. pieces_text n names bound ps))
        → ExprSays w vs x e → Adds one two (λ n. expr_text n names bound e)
    expression_operation (leaf t) q is text h = absurd (none-some q (sym (term_no x t h) ∙ is))
    expression_operation (op o a b) q is text h =
        let same : (o, h.0) ≡ q = (let e : Some (o, h.0) ≡ Some q = sym (is_operation_there x h.0 o h.3 h.4) ∙ is in cc) in
        let r = text (operand a ∷ operator o ∷ operand b ∷ [])
        (subst (λ (p : ArithOp × ℕ). AllZip (ItemSays w vs) (operation_items (memory_of w) p) (operand a ∷ operator o ∷ operand b ∷ [])) same
        (operand_there (h.0 + 1) h.1 a h.5 h.6, (refl, (operand_there (h.0 + 2) h.2 b h.7 h.8, tt)))) in
        record {
          added = r.added;
          behind = r.behind;
          given = gives_same (λ n. pieces_text n names bound (operand a ∷ operator o ∷ operand b ∷ [])) (λ n. expr_text n names bound (op o a b))
              r.added (λ n. ap (λ (p : Option Bytes). both_texts (operand_text n names bound a) (both_texts (Some (operator_text o)) p))
              (both-nil (operand_text n names bound b))) r.given;
        }

-- the text of an operation, piece by piece
opened : (p a q b c r : Option Bytes)
    → both_texts p (both_texts a (both_texts q (both_texts b (both_texts c r))))
    ≡ both_texts (both_texts p (both_texts (both_texts a (both_texts q b)) c)) r
opened p a q b c r =
    sym (both-assoc p (both_texts (both_texts a (both_texts q b)) c) r
    ∙ ap (both_texts p) (both-assoc (both_texts a (both_texts q b)) c r
    ∙ (both-assoc a (both_texts q b) (both_texts c r) ∙ ap (both_texts a) (both-assoc q b (both_texts c r)))))

operand_added : (names : List Bytes) (s : Bindings) (e : Expr Variable) (ps : List Piece) (one two three : Bytes)
    → OperandAdds names s e one two → Adds two three (λ n. pieces_text n names s (next_pieces e ++ ps))
    → Adds one three (λ n. pieces_text n names s (operand e ∷ ps))
operand_added names s (leaf t) ps one two three a b =
    adds_both (λ n. cut_text n names s 1024 t) (λ n. pieces_text n names s ps) _ one two three a b (λ n. refl)
operand_added names s (op o d e) ps one two three a b =
    adds_both (λ n. Some (codes "(")) (λ n. pieces_text n names s (operand d ∷ operator o ∷ operand e ∷ close ∷ ps)) _ one two three
    (adds_known (codes "(") one two a) b
    (λ n. opened (Some (codes "(")) (operand_text n names s d) (Some (operator_text o)) (operand_text n names s e) (Some (codes ")"))
    (pieces_text n names s ps))

-- one piece was taken
pub operand_taken : (kept : WordList) (names : List Bytes) (x : ℕ) (before after : List Item) (old new : Bytes)
    → AddsOperand kept names x old new
    → ((w : Words) → HasKept kept w → after ≡ next_items (memory_of w) (operation_of (memory_of w) x) ++ before)
    → TakesPiece kept names (Operand x) before old after new
operand_taken kept names x before after old new text items w vs bound has says (operand e) ps h z = (
  next_pieces e ++ ps,
  subst (λ (is : List Item). AllZip (ItemSays w vs) is (next_pieces e ++ ps)) (sym (items w has))
      (zip_append (ItemSays w vs) (next_items (memory_of w) (operation_of (memory_of w) x)) (next_pieces e) before ps
      (next_say w vs says.once x e h) z),
  λ end a. operand_added names bound e ps old new end (text w vs bound has says e h) a,
)
operand_taken kept names x before after old new text items w vs bound has says (operator o) ps h z = absurd h
operand_taken kept names x before after old new text items w vs bound has says close ps h z = absurd h

pub operator_taken : (kept : WordList) (names : List Bytes) (o : ArithOp) (before : List Item) (old new : Bytes) → new ≡ old ++ operator_text o
    → TakesPiece kept names (Operator o) before old before new
operator_taken kept names o before old new text w vs bound has says (operator q) ps h z = (
  ps,
  z,
  λ end a. adds_both (λ n. Some (operator_text q)) (λ n. pieces_text n names bound ps) _ old new end
      (adds_known (operator_text q) old new (text ∙ ap (λ (p : ArithOp). old ++ operator_text p) h)) a (λ n. refl),
)
operator_taken kept names o before old new text w vs bound has says (operand e) ps h z = absurd h
operator_taken kept names o before old new text w vs bound has says close ps h z = absurd h

pub close_taken : (kept : WordList) (names : List Bytes) (before : List Item) (old new : Bytes) → new ≡ old ++ codes ")"
    → TakesPiece kept names Close before old before new
close_taken kept names before old new text w vs bound has says close ps h z = (
  ps,
  z,
  λ end a. adds_both (λ n. Some (codes ")")) (λ n. pieces_text n names bound ps) _ old new end (adds_known (codes ")") old new text) a
      (λ n. refl),
)
close_taken kept names before old new text w vs bound has says (operand e) ps h z = absurd h
close_taken kept names before old new text w vs bound has says (operator q) ps h z = absurd h

-- what is left of the pieces of the first items
abbrev pub PiecesLeft : WordList → List Bytes → List Item → Bytes → List Item → Bytes → Type 0
PiecesLeft kept names first old items now = AllWords kept (λ w vs bound. (ps : List Piece) → AllZip (ItemSays w vs) first ps
    → (qs : List Piece) × AllZip (ItemSays w vs) items qs
    × ((end : Bytes) → Adds now end (λ n. pieces_text n names bound qs) → Adds old end (λ n. pieces_text n names bound ps)))

pub all_left : (kept : WordList) (names : List Bytes) (first : List Item) (old : Bytes) → PiecesLeft kept names first old first old
all_left kept names first old w vs bound has says ps z = (ps, z, λ end a. a)

pub piece_taken : (kept kept' : WordList) → ((a x : ℕ) → word_at kept a ≡ Some x → word_at kept' a ≡ Some x) → (names : List Bytes)
    (first : List Item) (old : Bytes) (item : Item) (before after : List Item) (now next : Bytes)
    → PiecesLeft kept names first old (item ∷ before) now → TakesPiece kept' names item before now after next
    → PiecesLeft kept' names first old after next
piece_taken kept kept' up names first old item before after now next left takes w vs bound has says ps z =
    let r = left w vs bound (λ a x e. has a x (up a x e)) says ps z in go r.0 r.1 r.2
  where
    go : (qs : List Piece) → AllZip (ItemSays w vs) (item ∷ before) qs
        → ((end : Bytes) → Adds now end (λ n. pieces_text n names bound qs) → Adds old end (λ n. pieces_text n names bound ps))
        → (rs : List Piece) × AllZip (ItemSays w vs) after rs
        × ((end : Bytes) → Adds next end (λ n. pieces_text n names bound rs) → Adds old end (λ n. pieces_text n names bound ps))
    go [] y k = absurd y
    go (q ∷ qs) y k = let t = takes w vs bound has says q qs y.0 y.1 in (t.0, t.1, λ end a. k end (t.2 end a))

pub none_left : (kept : WordList) (names : List Bytes) (first items : List Item) (old now : Bytes) → items ≡ []
    → PiecesLeft kept names first old (stack items) now → AddsPieces kept names first old now
none_left kept names first items old now e left w vs bound has says ps z =
    let r = left w vs bound has says ps z in go r.0 (subst (λ (is : List Item). AllZip (ItemSays w vs) (stack is) r.0) e r.1) r.2
  where
    go : (qs : List Piece) → AllZip (ItemSays w vs) [] qs
        → ((end : Bytes) → Adds now end (λ n. pieces_text n names bound qs) → Adds old end (λ n. pieces_text n names bound ps))
        → Adds old now (λ n. pieces_text n names bound ps)
    go [] y k = k now (adds_nothing (λ n. Some []) now (λ n. refl))
    go (q ∷ qs) y k = absurd y
