-- Texts that are put after a text, one after another.
use Rattle.std.proofs.Common.{◌≡◌, ℕ, zero, suc, ◌+◌, ◌<◌, ◌≤◌, List, [], ◌∷◌, ◌++◌, length, take, get_or, Option, Some, None}
use Rattle.std.proofs.Common.{refl, sym, ap, ◌∙◌, append_assoc, append-nil, arith}
use Rattle.std.specs.Prelude.{option_map, codes}
use Rattle.std.specs.List.{AllZip}
use Rattle.std.proofs.lemmas.List.{take_all, take_more, length-take-le, flat_map_more}
use Rattle.std.proofs.lemmas.Slice.Zip.{AllZip-long}
use Rattle.fcp_model.specs.declared.names.Sym.{Sym}
use Rattle.fcp_model.specs.declared.run.Place.{Place}
use Rattle.fcp_model.specs.declared.run.Proc.{Proc}
use Rattle.fcp_model.specs.Places.{made, placed}
use Rattle.fcp_model.specs.Terms.{var, Bindings}
use Rattle.fcp_model.specs.Spelling.{Bytes, name_at, place_text, process_text}
use Rattle.fcp_model.specs.TermText.{cut_text}
use Rattle.fcp_model.specs.LogText.{both_texts, processes_text}
use Rattle.fcp_model.specs.ReportText.{NamedTerm, named_from, goal_variables, variable_line, variable_lines}
use Rattle.entry_lines.specs.Additions.{Gives, Adds}
use Rattle.entry_lines.specs.Texts.{bound_text, bound_texts}

-- what bounded definitions give
pub gives_both : (f g : ℕ → Option Bytes) (a b : Bytes) → Gives f a → Gives g b → Gives (λ n. both_texts (f n) (g n)) (a ++ b)
gives_both f g a b (n, h) (m, i) = (n + m, λ k j. go (f k) (g k) (h k (omega arith)) (i k (omega arith)))
  where
    go : (x y : Option Bytes) → x ≡ Some a → y ≡ Some b → both_texts x y ≡ Some (a ++ b)
    go x y e d = rw (e, d) refl

pub gives_map : (f : ℕ → Option Bytes) (t : Bytes → Bytes) (a : Bytes) → Gives f a → Gives (λ n. option_map t (f n)) (t a)
gives_map f t a (n, h) = (n, λ k j. ap (option_map t) (h k j))

pub gives_same : (f g : ℕ → Option Bytes) (a : Bytes) → ((n : ℕ) → f n ≡ g n) → Gives f a → Gives g a
gives_same f g a e (n, h) = (n, λ k j. sym (e k) ∙ h k j)

-- one text and then another
pub adds_both : (f g h : ℕ → Option Bytes) (one two three : Bytes) → Adds one two f → Adds two three g
    → ((n : ℕ) → both_texts (f n) (g n) ≡ h n) → Adds one three h
adds_both f g h one two three a b e = record {
  added = a.added ++ b.added;
  behind = b.behind ∙ (ap (λ (l : Bytes). l ++ b.added) a.behind ∙ append_assoc one a.added b.added);
  given = gives_same (λ n. both_texts (f n) (g n)) h _ e (gives_both f g _ _ a.given b.given);
}

-- nothing
pub adds_nothing : (f : ℕ → Option Bytes) (one : Bytes) → ((n : ℕ) → f n ≡ Some []) → Adds one one f
adds_nothing f one h = record { added = []; behind = sym (append-nil one); given = (0, λ k j. h k) }

-- the text of one place that was bound
pub bound_added : (names : List Bytes) (bound : Bindings) (i j : Place) (t0 t1 t2 t3 t4 : Bytes) → i ≡ j → t1 ≡ t0 ++ codes " "
    → t2 ≡ t1 ++ place_text i → t3 ≡ t2 ++ codes "=" → Adds t3 t4 (λ n. cut_text n names bound 64 (var (made j)))
    → Adds t0 t4 (λ n. bound_text n names bound j)
bound_added names bound i j t0 t1 t2 t3 t4 e e1 e2 e3 a = record {
  added = codes " " ++ place_text j ++ codes "=" ++ a.added;
  behind = a.behind ∙ ap (λ (l : Bytes). l ++ a.added) (e3 ∙ ap (λ (l : Bytes). l ++ codes "=") (e2
      ∙ (ap (λ (p : Place). t1 ++ place_text p) e ∙ ap (λ (l : Bytes). l ++ place_text j) e1))) ∙ simp append_assoc refl;
  given = gives_map _ (λ x. codes " " ++ place_text j ++ codes "=" ++ x) a.added a.given;
}

-- the line of one variable that has a name
pub variable_added : (names : List Bytes) (bound : Bindings) (name : Sym) (k : ℕ) (t0 t1 t2 t3 t4 : Bytes)
    → t1 ≡ t0 ++ name_at names name.0 → t2 ≡ t1 ++ codes " = " → Adds t2 t3 (λ n. cut_text n names bound 65536 (var (placed 0 k)))
    → t4 ≡ t3 ++ codes "\n" → Adds t0 t4 (λ n. variable_line n names bound (Some name) (var (placed 0 k)))
variable_added names bound name k t0 t1 t2 t3 t4 e1 e2 a e4 = record {
  added = name_at names name.0 ++ codes " = " ++ a.added ++ codes "\n";
  behind = e4 ∙ ap (λ (l : Bytes). l ++ codes "\n") (a.behind ∙ ap (λ (l : Bytes). l ++ a.added)
      (e2 ∙ ap (λ (l : Bytes). l ++ codes " = ") e1)) ∙ simp append_assoc refl;
  given = gives_map _ (λ x. name_at names name.0 ++ codes " = " ++ x ++ codes "\n") a.added a.given;
}

pub both-nil : (o : Option Bytes) → both_texts o (Some []) ≡ o
both-nil None = refl
both-nil (Some a) = ap Some (append-nil a)

pub nil-both : (o : Option Bytes) → both_texts (Some []) o ≡ o
nil-both None = refl
nil-both (Some a) = refl

pub both-assoc : (a b c : Option Bytes) → both_texts (both_texts a b) c ≡ both_texts a (both_texts b c)
both-assoc None b c = refl
both-assoc (Some a) None c = refl
both-assoc (Some a) (Some b) None = refl
both-assoc (Some a) (Some b) (Some c) = ap Some (append_assoc a b c)

-- one after another, what belongs to the elements of a list
pub next_of : {A B : Type 0} (R : A → B → Type 0) (xs : List A) (ys : List B) (i : ℕ) (d : A) → AllZip R xs ys → i < length xs
    → (y : B) × R (get_or xs i d) y × (take (i + 1) ys ≡ take i ys ++ y ∷ [])
next_of R [] ys i d h l = absurd (omega arith)
next_of R (x ∷ xs) [] i d h l = absurd h
next_of R (x ∷ xs) (y ∷ ys) zero d h l = (y, h.0, refl)
next_of R (x ∷ xs) (y ∷ ys) (suc i) d h l =
    let r = next_of R xs ys i d h.1 (omega arith) in
    let e : suc i + 1 ≡ suc (i + 1) = omega arith in
    (r.0, r.1, ap (λ (k : ℕ). take k (y ∷ ys)) e ∙ ap (λ l. y ∷ l) r.2)

pub all_of : {A B : Type 0} (R : A → B → Type 0) (xs : List A) (ys : List B) (i : ℕ) → AllZip R xs ys → length xs ≤ i → take i ys ≡ ys
all_of R xs ys i h l = take_all i ys (let e = AllZip-long R xs ys h in omega arith)

module _ (n : ℕ) (names : List Bytes) (bound : Bindings) where
  pub bound_texts-append : (js : List Place) (j : Place)
      → bound_texts n names bound (js ++ j ∷ []) ≡ both_texts (bound_texts n names bound js) (bound_text n names bound j)
  bound_texts-append [] j = both-nil _ ∙ sym (nil-both _)
  bound_texts-append (i ∷ js) j = ap (both_texts (bound_text n names bound i)) (bound_texts-append js j) ∙ sym (both-assoc _ _ _)

  variable_lines-append : (vs : List NamedTerm) (v : NamedTerm)
      → variable_lines n names bound (vs ++ v ∷ []) ≡ both_texts (variable_lines n names bound vs) (variable_line n names bound v.0 v.1)
  variable_lines-append [] v = both-nil _ ∙ sym (nil-both _)
  variable_lines-append (u ∷ vs) v =
      ap (both_texts (variable_line n names bound u.0 u.1)) (variable_lines-append vs v) ∙ sym (both-assoc _ _ _)

named_from-append : (k : ℕ) (vs : List (Option Sym)) (v : Option Sym)
    → named_from k (vs ++ v ∷ []) ≡ named_from k vs ++ (v, var (placed 0 (k + length vs))) ∷ []
named_from-append k [] v = let here : k ≡ k + 0 = omega arith in ap (λ (j : ℕ). (v, var (placed 0 j)) ∷ []) here
named_from-append k (u ∷ vs) v =
    let on : (k + 1) + length vs ≡ k + suc (length vs) = omega arith in
    ap (λ l. (u, var (placed 0 k)) ∷ l)
    (named_from-append (k + 1) vs v ∙ ap (λ (j : ℕ). named_from (k + 1) vs ++ (v, var (placed 0 j)) ∷ []) on)

-- the line of one variable more
pub variables_added : (names : List Bytes) (bound : Bindings) (vs : List (Option Sym)) (i : ℕ) (d : Option Sym) (one two three : Bytes)
    → i < length vs
    → Adds one two (λ n. variable_lines n names bound (goal_variables (take i vs)))
    → Adds two three (λ n. variable_line n names bound (get_or vs i d) (var (placed 0 (i + 1))))
    → Adds one three (λ n. variable_lines n names bound (goal_variables (take (i + 1) vs)))
variables_added names bound vs i d one two three h f g =
    let long : length (take i vs) ≡ i = length-take-le i vs (omega arith) in
    let number : 1 + length (take i vs) ≡ i + 1 = omega (arith, long) in
    let all : goal_variables (take (i + 1) vs) ≡ goal_variables (take i vs) ++ (get_or vs i d, var (placed 0 (i + 1))) ∷ [] =
    ap goal_variables (take_more vs i d h) ∙ named_from-append 1 (take i vs) (get_or vs i d)
    ∙ ap (λ (j : ℕ). goal_variables (take i vs) ++ (get_or vs i d, var (placed 0 j)) ∷ []) number in
    adds_both _ _ _ one two three f g (λ n. sym (ap (variable_lines n names bound) all
    ∙ variable_lines-append n names bound (goal_variables (take i vs)) (get_or vs i d, var (placed 0 (i + 1)))))

-- the name of one process more
pub processes_added : (ps : List Proc) (p : Proc) (old one two three : Bytes) → one ≡ old ++ processes_text ps → two ≡ one ++ codes " "
    → three ≡ two ++ process_text p → three ≡ old ++ processes_text (ps ++ p ∷ [])
processes_added ps p old one two three e f g =
    g ∙ (ap (λ (l : Bytes). l ++ process_text p) f ∙ (append_assoc one (codes " ") (process_text p)
    ∙ (ap (λ (l : Bytes). l ++ (codes " " ++ process_text p)) e ∙ flat_map_more (λ (q : Proc). codes " " ++ process_text q) old ps p)))
