-- What was read so far, as a partial tree, and that one more terminal goes on it.
use Rattle.std.proofs.Common.{◌≡◌, List, [], ◌∷◌, ◌++◌, refl, sym, subst, Bool, true, false, ℕ}
use Rattle.fcp_model.specs.declared.names.Sym.{Sym}
use Rattle.fcp_grammar.specs.declared.terminals.StringForm.{StringForm}
use Rattle.fcp_grammar.specs.declared.terminals.Terminal.{Terminal}
use Rattle.fcp_grammar.specs.declared.terminals.Terminal.TheVariants as terminal
use Rattle.fcp_grammar.specs.declared.terms.Frame.{Frame}
use Rattle.fcp_grammar.specs.declared.terms.Frame.TheVariants as F
use Rattle.fcp_grammar.specs.declared.terms.Phase.{Phase}
use Rattle.fcp_grammar.specs.declared.terms.Phase.TheVariants as P
use Rattle.fcp_grammar.specs.declared.terms.TermAt.{TermAt}
use Rattle.fcp_grammar.specs.declared.terms.Told.{Told}
use Rattle.fcp_grammar.specs.declared.terms.Told.TheVariants.{Read, Whole, Refused}
use Rattle.fcp_grammar.specs.Terms.{begin, in_frame, behind, step_by, step, full, is_large, large_by}
use Rattle.fcp_grammar.specs.Grammar.{Marked, Tree, Trees, int, call, name_alone, with_arguments, variable, read_only, nil, list, list_rest, braces, none, and, value, values, plain, spell, spells}
use Rattle.fcp_grammar.proofs.Follow.{at, phase_of}

-- an open bracket, with its trees so far
pub data Part : Type 0 where
  in_call : (s : Sym) (sp : StringForm) (at : ℕ) (open_at : ℕ) (front : Trees) → Part
  in_list : (at : ℕ) (front : Trees) → Part
  in_rest : (at : ℕ) (front : Trees) (last : Tree) → Part
  in_braces : (at : ℕ) (front : Trees) → Part

pub data Last : Type 0 where
  wanted : Last
  opened : (at : ℕ) → Last
  after : (t : Tree) → Last

abbrev pub frame_of : Part → Frame
frame_of (in_call s sp at o ts) = F.Call at s (values ts)
frame_of (in_list at ts) = F.List at (values ts)
frame_of (in_rest at ts t) = F.Rest at (values ts ++ value t ∷ [])
frame_of (in_braces at ts) = F.Braces at (values ts)

abbrev pub frames_of : List Part → List Frame
frames_of [] = []
frames_of (p ∷ ps) = frame_of p ∷ frames_of ps

abbrev pub last_of : Last → Phase
last_of wanted = P.Want
last_of (opened at) = P.Opened at
last_of (after t) = phase_of t

abbrev pub at_of : List Part → Last → TermAt
at_of ps last = at (frames_of ps) (last_of last)

-- the terminals of the open brackets, and then the rest
abbrev pub begun : Bool → List Part → List Marked → List Marked
begun m [] rest = rest
begun m (in_call s sp at o ts ∷ ps) rest =
    begun m ps ((terminal.Str s sp at, full m (frames_of ps)) ∷ plain (terminal.RoundOpen o) ∷ spells true ts rest)
begun m (in_list at ts ∷ ps) rest = begun m ps ((terminal.SquareOpen at, full m (frames_of ps)) ∷ spells false ts rest)
begun m (in_rest at ts t ∷ ps) rest =
    begun m ps ((terminal.SquareOpen at, full m (frames_of ps)) ∷ spells false ts (spell false t (plain terminal.Bar ∷ rest)))
begun m (in_braces at ts ∷ ps) rest = begun m ps ((terminal.CurlyOpen at, full m (frames_of ps)) ∷ spells true ts rest)

abbrev pub so_far : Bool → List Part → Last → List Marked → List Marked
so_far m ps wanted rest = begun m ps rest
so_far m ps (opened at) rest = begun m ps ((terminal.SquareOpen at, full m (frames_of ps)) ∷ rest)
so_far m ps (after t) rest = begun m ps (spell (full m (frames_of ps)) t rest)

-- y is a partial tree too, whose terminals are those of this one and w
pub record Moved (m : Bool) (ps : List Part) (last : Last) (w : Terminal) (mark : Bool) (y : TermAt) : Type 0 where
  pub ps' : List Part
  pub last' : Last
  pub is : at_of ps' last' ≡ y
  pub terminals : (rest : List Marked) → so_far m ps' last' rest ≡ so_far m ps last ((w, mark) ∷ rest)

pub record Ended (ps : List Part) (last : Last) (phase : Phase) : Type 0 where
  pub tree : Tree
  pub alone : ps ≡ []
  pub ends : last ≡ after tree
  pub is : phase ≡ phase_of tree

abbrev pub Goes : Bool → List Part → Last → Terminal → Bool → Told → Type 0
Goes m ps last w mark (Read y) = Moved m ps last w mark y
Goes m ps last w mark (Whole phase) = Ended ps last phase
Goes m ps last w mark Refused = Unit {0}

to : (m : Bool) (ps : List Part) (last : Last) (w : Terminal) (mark : Bool) (ps' : List Part) (last' : Last)
    → ((rest : List Marked) → so_far m ps' last' rest ≡ so_far m ps last ((w, mark) ∷ rest)) → Moved m ps last w mark (at_of ps' last')
to m ps last w mark ps' last' e = record { ps' = ps'; last' = last'; is = refl; terminals = e }

goes-in_frame : (m : Bool) (p : Part) (ps : List Part) (t : Tree) (w : Terminal)
    → Goes m (p ∷ ps) (after t) w (large_by false w) (in_frame (frame_of p) (frames_of ps) (value t) w)
unfolding in_frame full
goes-in_frame m (in_call s sp a o ts) ps t terminal.Comma = to m _ _ _ _ (in_call s sp a o (and ts t) ∷ ps) wanted (λ rest. refl)
goes-in_frame m (in_call s sp a o ts) ps t terminal.RoundClose =
    to m _ _ _ _ ps (after (call (with_arguments s sp a o ts t))) (λ rest. refl)
goes-in_frame m (in_list a ts) ps t terminal.Comma = to m _ _ _ _ (in_list a (and ts t) ∷ ps) wanted (λ rest. refl)
goes-in_frame m (in_list a ts) ps t terminal.Bar = to m _ _ _ _ (in_rest a ts t ∷ ps) wanted (λ rest. refl)
goes-in_frame m (in_list a ts) ps t terminal.SquareClose = to m _ _ _ _ ps (after (list a ts t)) (λ rest. refl)
goes-in_frame m (in_rest a ts u) ps t terminal.SquareClose = to m _ _ _ _ ps (after (list_rest a ts u t)) (λ rest. refl)
goes-in_frame m (in_braces a ts) ps t terminal.Comma = to m _ _ _ _ (in_braces a (and ts t) ∷ ps) wanted (λ rest. refl)
goes-in_frame m (in_braces a ts) ps t terminal.CurlyClose = to m _ _ _ _ ps (after (braces a ts t)) (λ rest. refl)
goes-in_frame m _ ps t _ = tt

goes-behind : (m : Bool) (ps : List Part) (t : Tree) (w : Terminal)
    → Goes m ps (after t) w (large_by false w) (behind (frames_of ps) (phase_of t) w)
unfolding behind
goes-behind m [] t w = record { tree = t; alone = refl; ends = refl; is = refl }
goes-behind m (p ∷ ps) t w =
    subst (λ v. Goes m (p ∷ ps) (after t) w (large_by false w) (in_frame (frame_of p) (frames_of ps) v w))
    (sym (Rattle.fcp_grammar.proofs.Follow.term_of-phase t)) (goes-in_frame m p ps t w)

-- one more terminal
pub goes : (m : Bool) (ps : List Part) (last : Last) (w : Terminal)
    → Goes m ps last w (is_large m (at_of ps last) w) (step (at_of ps last) w)
unfolding step_by begin is_large full
goes m ps wanted (terminal.Int n a) = to m _ _ _ _ ps (after (int n a)) (λ rest. refl)
goes m ps wanted (terminal.Str s sp a) = to m _ _ _ _ ps (after (call (name_alone s sp a))) (λ rest. refl)
goes m ps wanted (terminal.Var k a) = to m _ _ _ _ ps (after (variable k a)) (λ rest. refl)
goes m ps wanted (terminal.SquareOpen a) = to m _ _ _ _ ps (opened a) (λ rest. refl)
goes m ps wanted (terminal.CurlyOpen a) = to m _ _ _ _ (in_braces a none ∷ ps) wanted (λ rest. refl)
goes m ps wanted _ = tt
goes m ps (opened b) terminal.SquareClose = to m _ _ _ _ ps (after (nil b)) (λ rest. refl)
goes m ps (opened b) (terminal.Int n a) = to m _ _ _ _ (in_list b none ∷ ps) (after (int n a)) (λ rest. refl)
goes m ps (opened b) (terminal.Str s sp a) = to m _ _ _ _ (in_list b none ∷ ps) (after (call (name_alone s sp a))) (λ rest. refl)
goes m ps (opened b) (terminal.Var k a) = to m _ _ _ _ (in_list b none ∷ ps) (after (variable k a)) (λ rest. refl)
goes m ps (opened b) (terminal.SquareOpen a) = to m _ _ _ _ (in_list b none ∷ ps) (opened a) (λ rest. refl)
goes m ps (opened b) (terminal.CurlyOpen a) = to m _ _ _ _ (in_braces a none ∷ in_list b none ∷ ps) wanted (λ rest. refl)
goes m ps (opened b) _ = tt
goes m ps (after (call (name_alone s sp a))) (terminal.RoundOpen o) = to m _ _ _ _ (in_call s sp a o none ∷ ps) wanted (λ rest. refl)
goes m ps (after (variable k a)) terminal.Question = to m _ _ _ _ ps (after (read_only k a)) (λ rest. refl)
goes m ps (after (call (name_alone s sp a))) w = goes-behind m ps (call (name_alone s sp a)) w
goes m ps (after (variable k a)) w = goes-behind m ps (variable k a) w
goes m ps (after (int n a)) w = goes-behind m ps (int n a) w
goes m ps (after (call (with_arguments s sp a o ts t))) w = goes-behind m ps (call (with_arguments s sp a o ts t)) w
goes m ps (after (read_only k a)) w = goes-behind m ps (read_only k a) w
goes m ps (after (nil a)) w = goes-behind m ps (nil a) w
goes m ps (after (list a ts t)) w = goes-behind m ps (list a ts t) w
goes m ps (after (list_rest a ts t u)) w = goes-behind m ps (list_rest a ts t u) w
goes m ps (after (braces a ts t)) w = goes-behind m ps (braces a ts t) w
