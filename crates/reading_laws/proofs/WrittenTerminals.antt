-- The terminals of the tokens of pieces are the terminals of the pieces.
use Rattle.std.proofs.Common.{◌≡◌, ℕ, ◌+◌, ◌≤◌, Bool, true, false, List, [], ◌∷◌, ◌++◌, take, length, length-append, append_assoc, refl, ap, ◌∙◌, subst, arith}
use Rattle.std.specs.Prelude.{if◌then◌else◌, ◌==◌}
use Rattle.std.proofs.lemmas.List.{take_at, drop_at}
use Rattle.fcp_model.specs.NameList.{noted}
use Rattle.fcp_model.specs.Spelling.{is_name, string_text}
use Rattle.fcp_grammar.specs.declared.terminals.StringForm.TheVariants as form
use Rattle.fcp_grammar.specs.declared.terminals.Terminal.{Terminal}
use Rattle.fcp_grammar.specs.declared.terminals.Terminal.TheVariants as terminal
use Rattle.fcp_text.specs.declared.pieces.Kind.{Kind}
use Rattle.fcp_text.specs.declared.pieces.Kind.TheVariants as kind
use Rattle.fcp_text.specs.declared.lexer.Token.{Token}
use Rattle.fcp_text.specs.Bytes.{Text}
use Rattle.fcp_text.specs.Tokens.{text_of, sign_after}
use Rattle.fcp_text.proofs.Choices.{and-first, and-second}
use Rattle.fcp_text.proofs.WrittenQuotes.{between_quotes, unquoted-between_quotes}
use Rattle.fcp_terminals.specs.declared.variables.Form.TheVariants.{Module}
use Rattle.fcp_terminals.specs.Lexemes.{lexemes}
use Rattle.fcp_terminals.specs.MarkTerminals.{mark_terminal}
use Rattle.fcp_terminals.specs.Numbering.{Env, env, string_terminal, name_form, terminal_by, env_by, terminals_from, env_from}
use Rattle.text_laws.specs.Spellings.{Spelling, string, number, variable, mark, space, line_feed, mark_text, spelling_text, spellings_text, tokens_at}
use Rattle.text_laws.specs.Fitting.{Fits, sign_behind}
use Rattle.reading_laws.specs.PieceTerminals.{Position, position, string_form, with_number, behind_sign, is_next, in_order, piece_terminals, behind_pieces}
use Rattle.reading_laws.proofs.CanonicalVariables.{canonical, numbered_text, length-canonical, number-canonical, with-canonical, with-most}
use Rattle.fcp_text.specs.Signs as signs

-- the tokens of pieces have the pieces' terminals and strings, where a reader of the text comes to `at`
abbrev Said : Env → Text → ℕ → Position → List Spelling → Type 0
Said e z at p ps =
    (terminals_from Module e (lexemes z (tokens_at at ps)) ≡ piece_terminals p ps)
    × ((env_from Module e (lexemes z (tokens_at at ps))).names ≡ (behind_pieces p ps).names)

-- a reader behind some bytes
abbrev SaidBehind : Text → ℕ → List Text → List Spelling → Type 0
SaidBehind before n ns ps = Said (env ns (canonical n)) (before ++ spellings_text ps) (length before) (position (length before) n ns) ps

-- and behind some bytes more
abbrev SaidNext : Text → Text → ℕ → List Text → List Spelling → Type 0
SaidNext before text n ns ps =
    Said (env ns (canonical n)) (before ++ (text ++ spellings_text ps)) (length before + length text)
    (position (length before + length text) n ns) ps

-- both are the same
moved : (before text : Text) (n : ℕ) (ns : List Text) (ps : List Spelling) → SaidBehind (before ++ text) n ns ps
    → SaidNext before text n ns ps
moved before text n ns ps h =
    subst (λ z. Said (env ns (canonical n)) z (length before + length text) (position (length before + length text) n ns) ps)
    (append_assoc before text (spellings_text ps))
    (subst (λ at. Said (env ns (canonical n)) ((before ++ text) ++ spellings_text ps) at (position at n ns) ps)
    (length-append before text) h)

-- a token of some kind with all bytes of a text, behind others
abbrev token : Kind → Text → Text → Token
token k before text = record { kind = k; at = length before; len = length text }

-- the bytes of such a token
its-text : (k : Kind) (before text rest : Text) → text_of (before ++ (text ++ rest)) (token k before text) ≡ text
its-text k before text rest =
    ap (take (length text)) (drop_at before (text ++ rest) (length before) refl) ∙ take_at text rest (length text) refl

-- the terminals and the strings from a token on, by its bytes
abbrev terminals-by : Env → Kind → ℕ → Text → Text → List Token → List Terminal
terminals-by e k at z text ts = terminal_by e at text k ∷ terminals_from Module (env_by Module e text k) (lexemes z ts)

abbrev names-by : Env → Kind → Text → Text → List Token → List Text
names-by e k z text ts = (env_from Module (env_by Module e text k) (lexemes z ts)).names

-- a token with its terminal, and what is said behind it
one : (k : Kind) (before text : Text) (e : Env) (w : Terminal) (n : ℕ) (ns : List Text) (ps : List Spelling)
    → terminal_by e (length before) text k ≡ w → env_by Module e text k ≡ env ns (canonical n) → SaidBehind (before ++ text) n ns ps
    → (terminals_from Module e (lexemes (before ++ (text ++ spellings_text ps))
    (token k before text ∷ tokens_at (length before + length text) ps))
    ≡ w ∷ piece_terminals (position (length before + length text) n ns) ps)
    × ((env_from Module e (lexemes (before ++ (text ++ spellings_text ps))
    (token k before text ∷ tokens_at (length before + length text) ps))).names
    ≡ (behind_pieces (position (length before + length text) n ns) ps).names)
one k before text e w n ns ps f g h =
    let z = before ++ (text ++ spellings_text ps) in
    let ts = tokens_at (length before + length text) ps in
    let next = moved before text n ns ps h in (
      ap (λ t. terminals-by e k (length before) z t ts) (its-text k before text (spellings_text ps))
          ∙ ap (λ x. x ∷ terminals_from Module (env_by Module e text k) (lexemes z ts)) f
          ∙ ap (λ d. w ∷ terminals_from Module d (lexemes z ts)) g ∙ ap (λ l. w ∷ l) next.0,
      ap (λ t. names-by e k z t ts) (its-text k before text (spellings_text ps))
          ∙ ap (λ d. (env_from Module d (lexemes z ts)).names) g ∙ next.1,
    )

-- ---- the terminals of one piece

-- a string as it is or between quotes, with its terminal and the strings behind it
string-said : (e : Env) (at : ℕ) (bs : Text) (c : Bool)
    → terminal_by e at (if c then bs else between_quotes bs) (if c then kind.Name else kind.Quoted)
    ≡ string_terminal e.names at bs (if c then name_form bs else form.Quoted)
string-said e at bs true = refl
string-said e at bs false = ap (λ t. string_terminal e.names at t form.Quoted) (unquoted-between_quotes bs)

string-noted : (e : Env) (bs : Text) (c : Bool)
    → env_by Module e (if c then bs else between_quotes bs) (if c then kind.Name else kind.Quoted) ≡ env (noted e.names bs) e.variables
string-noted e bs true = refl
string-noted e bs false = ap (λ t. env (noted e.names t) e.variables) (unquoted-between_quotes bs)

-- the variables behind a mark: all, or none behind a `.`
behind-canonical : (n : ℕ) (c : Bool) → (if c then [] else canonical n) ≡ canonical (if c then 0 else n)
behind-canonical n true = refl
behind-canonical n false = refl

sign-most : (n : ℕ) (c : Bool) → n ≤ 250 → (if c then 0 else n) ≤ 250
sign-most n true h = omega arith
sign-most n false h = h

-- ---- the terminals of pieces

-- the order of variables at a place that is counted in another way
ordered : (before text : Text) (n : ℕ) (ns : List Text) (ps : List Spelling)
    → in_order (position (length before + length text) n ns) ps ≡ true → in_order (position (length (before ++ text)) n ns) ps ≡ true
ordered before text n ns ps o = ap (λ at. in_order (position at n ns) ps) (length-append before text) ∙ o

-- by pieces, each behind the bytes of those before it
said : (s : Bool) (before : Text) (n : ℕ) (ns : List Text) (ps : List Spelling) → Fits s ps
    → in_order (position (length before) n ns) ps ≡ true → n ≤ 250 → SaidBehind before n ns ps
said s before n ns [] f o q = (refl, refl)
said s before n ns (string bs ∷ ps) f o q =
    let text : Text = string_text bs in
    one (if is_name bs then kind.Name else kind.Quoted) before text (env ns (canonical n))
    (string_terminal ns (length before) bs (string_form bs)) n (noted ns bs) ps
    (string-said (env ns (canonical n)) (length before) bs (is_name bs)) (string-noted (env ns (canonical n)) bs (is_name bs))
    (said (sign_behind bs) (before ++ text) n (noted ns bs) ps f.2 (ordered before text n (noted ns bs) ps o) q)
said s before n ns (number i ∷ ps) f o q =
    let text : Text = spelling_text (number i) in
    one (kind.Int i) before text (env ns (canonical n)) (terminal.Int i (length before)) n ns ps refl refl
    (said false (before ++ text) n ns ps f.2 (ordered before text n ns ps o) q)
said s before n ns (variable k ∷ ps) f o q =
    let text : Text = numbered_text k in
    let x : is_next n k ≡ true = and-first (is_next n k) _ o in
    one kind.Variable before text (env ns (canonical n)) (terminal.Var k (length before)) (with_number n k) ns ps
    (ap (λ j. terminal.Var j (length before)) (number-canonical n k q x)) (with-canonical ns n k q x)
    (said false (before ++ text) (with_number n k) ns ps f.2 (ordered before text (with_number n k) ns ps (and-second (is_next n k) _ o))
    (with-most n k q x))
said s before n ns (mark m ∷ ps) f o q =
    let text : Text = mark_text m in
    one (kind.Mark m) before text (env ns (canonical n)) (mark_terminal (length before) n m) (behind_sign m n) ns ps
    (ap (λ j. mark_terminal (length before) j m) (length-canonical n)) (ap (env ns) (behind-canonical n (m == signs.dot)))
    (said (sign_after text (kind.Mark m)) (before ++ text) (behind_sign m n) ns ps f.2 (ordered before text (behind_sign m n) ns ps o)
    (sign-most n (m == signs.dot) q))
said s before n ns (space ∷ ps) f o q =
    let text : Text = spelling_text space in
    moved before text n ns ps (said s (before ++ text) n ns ps f (ordered before text n ns ps o) q)
said s before n ns (line_feed ∷ ps) f o q =
    let text : Text = spelling_text line_feed in
    moved before text n ns ps (said s (before ++ text) n ns ps f (ordered before text n ns ps o) q)

-- the terminals behind some bytes, and the strings
pub terminals-behind : (s : Bool) (before : Text) (n : ℕ) (ns : List Text) (ps : List Spelling) → Fits s ps
    → in_order (position (length before) n ns) ps ≡ true → n ≤ 250
    → terminals_from Module (env ns (canonical n)) (lexemes (before ++ spellings_text ps) (tokens_at (length before) ps))
    ≡ piece_terminals (position (length before) n ns) ps
terminals-behind s before n ns ps f o q = (said s before n ns ps f o q).0

pub names-behind : (s : Bool) (before : Text) (n : ℕ) (ns : List Text) (ps : List Spelling) → Fits s ps
    → in_order (position (length before) n ns) ps ≡ true → n ≤ 250
    → (env_from Module (env ns (canonical n)) (lexemes (before ++ spellings_text ps) (tokens_at (length before) ps))).names
    ≡ (behind_pieces (position (length before) n ns) ps).names
names-behind s before n ns ps f o q = (said s before n ns ps f o q).1

-- those of a whole text
pub written-terminals : (ns : List Text) (ps : List Spelling) → Fits true ps → in_order (position 0 0 ns) ps ≡ true
    → terminals_from Module (env ns []) (lexemes (spellings_text ps) (tokens_at 0 ps)) ≡ piece_terminals (position 0 0 ns) ps
written-terminals ns ps f o = terminals-behind true [] 0 ns ps f o (omega arith)

pub written-names : (ns : List Text) (ps : List Spelling) → Fits true ps → in_order (position 0 0 ns) ps ≡ true
    → (env_from Module (env ns []) (lexemes (spellings_text ps) (tokens_at 0 ps))).names ≡ (behind_pieces (position 0 0 ns) ps).names
written-names ns ps f o = names-behind true [] 0 ns ps f o (omega arith)
