-- The words of what was read are proper.
use Rattle.std.proofs.Common.{◌≡◌, Bool, true, false, List, [], ◌∷◌, ◌++◌, length, Option, subst, refl, arith}
use Rattle.std.specs.Prelude.{◌&&◌, codes, IfOk, IsTrue, Result, Ok, Err, nat_le, if◌then◌else◌}
use Rattle.std.specs.List.{list_all}
use Rattle.std.specs.Option.{option_map_or}
use Rattle.std.proofs.lemmas.List.{length-append}
use Rattle.std.proofs.lemmas.Bool.{and_from, and_parts, leb-true, le-leb}
use Rattle.fcp_model.specs.declared.run.Limits.{Limits}
use Rattle.fcp_model.specs.Spelling.{Bytes}
use Rattle.command_words.specs.declared.order.Order.{Order}
use Rattle.command_words.specs.declared.order.Order.TheVariants.{Run, Show}
use Rattle.command_words.specs.declared.order.WordFault.{WordFault}
use Rattle.command_words.specs.declared.run_option.RunOption.{RunOption}
use Rattle.command_words.specs.declared.run_option.RunOption.TheVariants.{Control}
use Rattle.command_words.specs.Readings.{is_proper, option_word, Part, positional, apart, joined, words_of, positionals, values_of, is_same, is_value, GivesText, IsRun, IsShow, ReadsWords, has_words}

-- where words are proper, the positional ones are
positionals-proper : (ps : List Part) → list_all is_proper (words_of ps) ≡ true → list_all is_proper (positionals ps) ≡ true
positionals-proper [] e = refl
positionals-proper (positional w ∷ ps) e =
    let k = and_parts (is_proper w) (list_all is_proper (words_of ps)) e in
    and_from (is_proper w) (list_all is_proper (positionals ps)) k.0 (positionals-proper ps k.1)
positionals-proper (apart o v ∷ ps) e =
    let k = and_parts (is_proper (option_word o)) (is_proper v && list_all is_proper (words_of ps)) e in
    let j = and_parts (is_proper v) (list_all is_proper (words_of ps)) k.1 in
    positionals-proper ps j.1
positionals-proper (joined o v ∷ ps) e =
    let k = and_parts (is_proper (option_word o ++ codes "=" ++ v)) (list_all is_proper (words_of ps)) e in
    positionals-proper ps k.1

-- and the values are not longer
is_short : Bytes → Bool
is_short v = nat_le (length v) 65536

joined-short : (o : RunOption) (v : Bytes) → is_proper (option_word o ++ codes "=" ++ v) ≡ true → is_short v ≡ true
unfolding is_short
joined-short o v e =
    let w = option_word o ++ codes "=" ++ v in
    let within = leb-true (length w) 65536 (and_parts (nat_le 1 (length w)) (nat_le (length w) 65536) e).1 in
    le-leb (length v) 65536
    (omega (arith, within, length-append (option_word o ++ codes "=") v))

shorter : (same : Bool) (v : Bytes) (vs : List Bytes) → is_short v ≡ true → list_all is_short vs ≡ true
    → list_all is_short (if same then v ∷ vs else vs) ≡ true
shorter true v vs e rest = and_from (is_short v) (list_all is_short vs) e rest
shorter false v vs e rest = rest

values-short : (o : RunOption) (ps : List Part) → list_all is_proper (words_of ps) ≡ true → list_all is_short (values_of o ps) ≡ true
unfolding is_short
values-short o [] e = refl
values-short o (positional w ∷ ps) e = values-short o ps (and_parts (is_proper w) (list_all is_proper (words_of ps)) e).1
values-short o (apart p v ∷ ps) e =
    let k = and_parts (is_proper (option_word p)) (is_proper v && list_all is_proper (words_of ps)) e in
    let j = and_parts (is_proper v) (list_all is_proper (words_of ps)) k.1 in
    shorter (is_same o p) v (values_of o ps) (and_parts (nat_le 1 (length v)) (is_short v) j.0).1 (values-short o ps j.1)
values-short o (joined p v ∷ ps) e =
    let k = and_parts (is_proper (option_word p ++ codes "=" ++ v)) (list_all is_proper (words_of ps)) e in
    shorter (is_same o p) v (values_of o ps) (joined-short p v k.0) (values-short o ps k.1)

value-proper : (v : Bytes) → is_value v ≡ true → is_short v ≡ true → is_proper v ≡ true
unfolding is_short
value-proper [] e s = cc
value-proper (b ∷ bs) e s = and_from (nat_le 1 (length (b ∷ bs))) (is_short (b ∷ bs)) (le-leb 1 (length (b ∷ bs)) (omega arith)) s

text-proper : (vs : List Bytes) (t : Option Bytes) → GivesText vs t → list_all is_short vs ≡ true → option_map_or is_proper t true ≡ true
text-proper [] t h s = rw h
text-proper (v ∷ []) t h s = rw (h.1) (value-proper v h.0 (and_parts (is_short v) true s).0)
text-proper (v ∷ w ∷ vs) t h s = absurd h

run-proper : (words : List Bytes) (file goal : Bytes) (limits : Limits) (control : Option Bytes) → IsRun words file goal limits control
    → has_words (Run file goal limits control) ≡ true
run-proper words file goal limits control r =
    let all : list_all is_proper (codes "run" ∷ r.behind) ≡ true = subst (λ x. list_all is_proper x ≡ true) r.command r.proper in
    let k = and_parts (is_proper (codes "run")) (list_all is_proper r.behind) all in
    let ps : list_all is_proper (words_of r.parts) ≡ true = subst (λ x. list_all is_proper x ≡ true) r.are_parts.spelled k.1 in
    let two : list_all is_proper (file ∷ goal ∷ []) ≡ true =
    subst (λ x. list_all is_proper x ≡ true) r.are_parts.two (positionals-proper r.parts ps) in
    let f = and_parts (is_proper file) (is_proper goal && true) two in
    let g = and_parts (is_proper goal) true f.1 in
    let c = text-proper (values_of Control r.parts) control r.are_parts.asked (values-short Control r.parts ps) in
    and_from (is_proper file && is_proper goal) (option_map_or is_proper control true)
    (and_from (is_proper file) (is_proper goal) f.0 g.0) c

show-proper : (words : List Bytes) (file : Bytes) → IsShow words file → is_proper file ≡ true
show-proper words file r =
    let all : list_all is_proper (codes "show" ∷ file ∷ []) ≡ true = subst (λ x. list_all is_proper x ≡ true) r.command r.proper in
    let k = and_parts (is_proper (codes "show")) (is_proper file && true) all in
    (and_parts (is_proper file) true k.1).0

pub read-proper : (words : List Bytes) (r : Result Order WordFault) → ReadsWords words r → IfOk r (λ o. IsTrue (has_words o))
read-proper words (Ok (Run file goal limits control)) h = run-proper words file goal limits control h.asks
read-proper words (Ok (Show file)) h = show-proper words file h.asks
read-proper words (Err e) h = tt
