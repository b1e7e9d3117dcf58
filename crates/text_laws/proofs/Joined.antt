-- The texts of pieces, and of pieces one behind the other.
use Rattle.std.proofs.Common.{◌≡◌, List, [], ◌∷◌, ◌++◌, refl, ap, ◌∙◌, sym, append_assoc}
use Rattle.fcp_text.specs.Bytes.{Text}
use Rattle.fcp_text.specs.SourceTerms.{each_behind, parted}
use Rattle.text_laws.specs.Spellings.{Spelling, spellings_text}
use Rattle.text_laws.specs.TermSpellings.{Writing, each_after, parted_by}

-- the text of the pieces is the text, before that of those that follow
abbrev pub Spells : Writing → Text → Type 0
Spells w z = (ps : List Spelling) → spellings_text (w ps) ≡ z ++ spellings_text ps

pub joined : (w v : Writing) (x y : Text) → Spells w x → Spells v y → Spells (λ ps. w (v ps)) (x ++ y)
joined w v x y e f ps = e (v ps) ∙ ap (λ t. x ++ t) (f ps) ∙ sym (append_assoc x y (spellings_text ps))

-- pieces spell texts, one by one
abbrev pub EachSpells : List Writing → List Text → Type 0
EachSpells [] [] = Unit {0}
EachSpells [] (z ∷ zs) = ⊥
EachSpells (w ∷ ws) [] = ⊥
EachSpells (w ∷ ws) (z ∷ zs) = Spells w z × EachSpells ws zs

each-then : (separator : Writing) (m : Text) (ws : List Writing) (zs : List Text) → Spells separator m → EachSpells ws zs
    → Spells (each_after separator ws) (each_behind m zs)
each-then separator m [] [] e es = λ ps. refl
each-then separator m [] (z ∷ zs) e es = absurd es
each-then separator m (w ∷ ws) [] e es = absurd es
each-then separator m (w ∷ ws) (z ∷ zs) e es =
    joined separator (λ ps. w (each_after separator ws ps)) m (z ++ each_behind m zs) e
    (joined w (each_after separator ws) z (each_behind m zs) es.0 (each-then separator m ws zs e es.1))

pub parted-then : (separator : Writing) (m : Text) (ws : List Writing) (zs : List Text) → Spells separator m → EachSpells ws zs
    → Spells (parted_by separator ws) (parted m zs)
parted-then separator m [] [] e es = λ ps. refl
parted-then separator m [] (z ∷ zs) e es = absurd es
parted-then separator m (w ∷ ws) [] e es = absurd es
parted-then separator m (w ∷ ws) (z ∷ zs) e es =
    joined w (each_after separator ws) z (each_behind m zs) es.0 (each-then separator m ws zs e es.1)
