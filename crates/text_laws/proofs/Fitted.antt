-- Pieces that fit before those that follow them.
use Rattle.std.proofs.Common.{◌≡◌, ℕ, Bool, true, false, List, [], ◌∷◌, refl, subst, sym}
use Rattle.std.specs.Bool.{OnTrue}
use Rattle.fcp_text.specs.declared.pieces.Kind.TheVariants as kind
use Rattle.fcp_text.specs.Tokens.{sign_after}
use Rattle.text_laws.specs.Spellings.{Spelling, mark, mark_text}
use Rattle.text_laws.specs.Fitting.{EndsToken, EndsSign, Fits, begins_more, is_mark}
use Rattle.text_laws.specs.TermSpellings.{Writing, each_after, parted_by, comma}
use Rattle.fcp_text.specs.Signs as signs

-- what may stand behind a token: it fits, whether a sign may stand there or not
abbrev pub Behind : List Spelling → Type 0
Behind ps = EndsToken ps × ((s : Bool) → Fits s ps)

-- pieces that fit where a sign may stand
abbrev pub Starts : Writing → Type 0
Starts w = (ps : List Spelling) → Behind ps → Fits true (w ps)

-- pieces that may stand behind a token
abbrev pub Follows : Writing → Type 0
Follows w = (ps : List Spelling) → Behind ps → Behind (w ps)

-- pieces behind which a sign may stand
abbrev pub Parts : Writing → Type 0
Parts w = (ps : List Spelling) → Fits true ps → Behind (w ps)

-- a mark behind a token, where no longer one begins with it
pub closes : (n : ℕ) → is_mark n ≡ true → begins_more n ≡ false → Follows (λ ps. mark n ∷ ps)
closes n h g ps b = (tt, λ s. (h, subst (λ c. OnTrue c (EndsSign ps)) (sym g) tt, b.1 (sign_after (mark_text n) (kind.Mark n))))

-- the same, where a sign may stand behind it
pub opens : (n : ℕ) → is_mark n ≡ true → begins_more n ≡ false → sign_after (mark_text n) (kind.Mark n) ≡ true → Parts (λ ps. mark n ∷ ps)
opens n h g k ps f = (tt, λ s. (h, subst (λ c. OnTrue c (EndsSign ps)) (sym g) tt, subst (λ t. Fits t ps) (sym k) f))

-- each of some pieces fits
abbrev pub EachStarts : List Writing → Type 0
EachStarts [] = Unit {0}
EachStarts (w ∷ ws) = Starts w × EachStarts ws

pub each-follows : (separator : Writing) (ws : List Writing) → Parts separator → EachStarts ws → Follows (each_after separator ws)
each-follows separator [] k h ps b = b
each-follows separator (w ∷ ws) k h ps b =
    k (w (each_after separator ws ps)) (h.0 (each_after separator ws ps) (each-follows separator ws k h.1 ps b))

pub parted-starts : (separator : Writing) (ws : List Writing) → Parts separator → EachStarts ws → Starts (parted_by separator ws)
parted-starts separator [] k h ps b = b.1 true
parted-starts separator (w ∷ ws) k h ps b = h.0 (each_after separator ws ps) (each-follows separator ws k h.1 ps b)

pub comma-parts : Parts comma
comma-parts = opens signs.comma refl refl refl
