-- A term that is small has a tree that spells its pieces.
use Rattle.std.proofs.Common.{◌≡◌, ℕ, ◌+◌, ◌≤◌, Bool, true, false, List, [], ◌∷◌, ◌++◌, map, refl, ap, ap₂, ◌∙◌, sym, subst, arith, append-nil, append_assoc, length-append, if◌then◌else◌, length, nat_le, inl, inr, ℤ}
use Rattle.std.proofs.lemmas.Bool.Decides.{nat_tests}
use Rattle.std.proofs.lemmas.List.{length-map}
use Rattle.fcp_model.specs.declared.names.Sym.{Sym}
use Rattle.fcp_model.specs.declared.term.Term.{Term, Int, Str, Nil, Cons, Tuple, Var, Ro}
use Rattle.fcp_model.specs.Spelling.{name_at}
use Rattle.fcp_model.proofs.Folds.{Each, term_induction}
use Rattle.fcp_text.specs.Bytes.{Text}
use Rattle.fcp_grammar.specs.declared.terminals.Terminal.TheVariants as terminal
use Rattle.fcp_grammar.specs.Grammar.{Marked, Tree, int, call, name_alone, with_arguments, variable, read_only, nil, list, list_rest, braces, Trees, none, and, value, values, plain, spell, spells}
use Rattle.fcp_grammar.specs.Values.{listed, over}
use Rattle.fcp_terminals.specs.Numbering.{Grows}
use Rattle.text_laws.specs.Spellings.{string, number, mark}
use Rattle.text_laws.specs.Spellings as piece
use Rattle.text_laws.specs.TermSpellings.{Writing, comma, each_after, term_spellings}
use Rattle.reading_laws.specs.PieceTerminals.{Position, behind_piece, string_form}
use Rattle.reading_laws.specs.Variables.{are_next, term_variables, terms_variables}
use Rattle.reading_laws.specs.Readable.{size_of, parts_fit, is_small_term, are_small_terms}
use Rattle.reading_laws.specs.Alike.{term_with, terms_with, by_text}
use Rattle.reading_laws.proofs.Following.{Follows, grows-on, next-first, TermReads, PartsRead}
use Rattle.reading_laws.proofs.TreePieces.{chain, rewritten, next-behind, respelled, counted, counted-last, none-follows, read_string, string-follows, string-name, number-follows, variable-follows, mark-round_open, mark-round_close, mark-square_open, mark-square_close, mark-curly_open, mark-curly_close, mark-bar, mark-comma, mark-question}
use Rattle.reading_laws.proofs.TreeLists.{with-int, with-str, with-nil, with-cons, with-tuple, with-var, with-ro, with-append, with-listed, listed-append, not-over}
use Rattle.reading_laws.proofs.TreeShapes.{variables-int, variables-str, variables-nil, variables-cons, variables-tuple, variables-var, variables-ro, small-cons, small-tuple, small-first, small-others, StringOrNone, string-or-none, rest_spellings, Written, behind_bar, written-int, written-str, written-nil, written-var, written-ro, written-cons, braced, called, written-one, written-braces, written-call}
use Rattle.fcp_text.specs.Signs as signs

module _ (names : List Text) where
  -- A term as the rest of a list, up to the `]`: it finishes a list of which the front and the last element so far are known.
  record RestReads (t : Term) (p : Position) : Type 0 where
    finish : ℕ → Trees → Tree → Tree
    spelled : List Marked → List Marked
    after : Position
    follows : Follows (rest_spellings names t) (term_variables t) spelled p after
    finished : (at : ℕ) (front : Trees) (last : Tree) (m : Bool) (rest : List Marked)
        → spell m (finish at front last) rest ≡ (terminal.SquareOpen at, m) ∷ spells false front (spell false last (spelled rest))
    same : (final : List Text) (g : Text → ℕ) → Grows after.names final → (at : ℕ) (front : Trees) (last : Tree)
        → term_with (by_text g final) (value (finish at front last))
        ≡ listed (terms_with (by_text g final) (values front ++ value last ∷ [])) (term_with (by_text g names) t)

  -- Parts behind others, each behind a comma: those before them are a front and a last one.
  record MoreParts (ts : List Term) (front : Trees) (last : Tree) (p : Position) : Type 0 where
    all_but_one : Trees
    last_one : Tree
    spelled : List Marked → List Marked
    after : Position
    follows : Follows (each_after comma (map (term_spellings names) ts)) (terms_variables ts) spelled p after
    finished : (rest : List Marked)
        → spells true all_but_one (spell (over (values all_but_one)) last_one rest)
        ≡ spells true front (spell (over (values front)) last (spelled rest))
    same : (final : List Text) (g : Text → ℕ) → Grows after.names final
        → terms_with (by_text g final) (values all_but_one ++ value last_one ∷ [])
        ≡ terms_with (by_text g final) (values front ++ value last ∷ []) ++ terms_with (by_text g names) ts

  -- ---- terms that are no list

  -- a term is read wherever its variables may stand
  abbrev Alone : Term → Type 0
  Alone t = (p : Position) → are_next p.count (term_variables t) ≡ true → TermReads names t p

  abbrev AsRest : Term → Type 0
  AsRest t = (p : Position) → are_next p.count (term_variables t) ≡ true → RestReads t p

  no_list-rest : (t : Term) (w : Writing) → Written names t w (behind_bar names w) → Alone t → AsRest t
  no_list-rest t w e reads p n =
      let r : TermReads names t (behind_piece p (mark signs.bar)) = reads (behind_piece p (mark signs.bar)) n in
      record {
        finish = λ at front last. list_rest at front last r.tree;
        spelled = λ rest. plain terminal.Bar ∷ spell false r.tree (plain terminal.SquareClose ∷ rest);
        after = behind_piece r.after (mark signs.square_close);
        follows =
            rewritten (rest_spellings names t) (term_variables t) (e.as_rest ∙ ap (behind_bar names) (sym e.alone)) refl
            (counted-last (chain (mark-bar p) (chain r.follows (mark-square_close r.after))));
        finished = λ at front last m rest. refl;
        same =
            λ final g grows at front last. with-listed (by_text g final) (values front ++ value last ∷ []) (value r.tree)
            ∙ ap (listed (terms_with (by_text g final) (values front ++ value last ∷ []))) (r.same final g grows);
      }

  int-alone : (n : ℤ) → Alone (Int n)
  int-alone n p h = record {
    tree = int n p.at;
    after = behind_piece p (number n);
    follows =
        rewritten (term_spellings names (Int n)) (term_variables (Int n)) (written-int names n).alone (variables-int n)
        (number-follows p n);
    same = λ final g grows. with-int (by_text g final) n ∙ sym (with-int (by_text g names) n);
  }

  str-alone : (s : Sym) → Alone (Str s)
  str-alone s p h =
      let t : Text = name_at names s.0 in
      let f : Follows (λ ps. string t ∷ ps) [] (λ rest. plain (terminal.Str (read_string p t) (string_form t) p.at) ∷ rest) p
      (behind_piece p (string t)) = string-follows p t in
      record {
        tree = call (name_alone (read_string p t) (string_form t) p.at);
        after = behind_piece p (string t);
        follows = rewritten (term_spellings names (Str s)) (term_variables (Str s)) (written-str names s).alone (variables-str s) f;
        same =
            λ final g grows. with-str (by_text g final) (read_string p t) ∙ ap (λ x. Str (record { 0 = g x })) (string-name p t final grows)
            ∙ sym (with-str (by_text g names) s);
      }

  var-alone : (k : ℕ) → Alone (Var k)
  var-alone k p h =
      let n : are_next p.count (k ∷ []) ≡ true = subst (λ ks. are_next p.count ks ≡ true) (variables-var k) h in
      record {
        tree = variable k p.at;
        after = behind_piece p (piece.variable k);
        follows =
            rewritten (term_spellings names (Var k)) (term_variables (Var k)) (written-var names k).alone (variables-var k)
            (variable-follows p k n);
        same = λ final g grows. with-var (by_text g final) k ∙ sym (with-var (by_text g names) k);
      }

  ro-alone : (k : ℕ) → Alone (Ro k)
  ro-alone k p h =
      let n : are_next p.count (k ∷ []) ≡ true = subst (λ ks. are_next p.count ks ≡ true) (variables-ro k) h in
      record {
        tree = read_only k p.at;
        after = behind_piece (behind_piece p (piece.variable k)) (mark signs.question);
        follows =
            rewritten (term_spellings names (Ro k)) (term_variables (Ro k)) (written-ro names k).alone (variables-ro k)
            (chain (variable-follows p k n) (mark-question (behind_piece p (piece.variable k))));
        same = λ final g grows. with-ro (by_text g final) k ∙ sym (with-ro (by_text g names) k);
      }

  -- ---- lists

  nil-alone : Alone Nil
  nil-alone p h = record {
    tree = nil p.at;
    after = behind_piece (behind_piece p (mark signs.square_open)) (mark signs.square_close);
    follows =
        rewritten (term_spellings names Nil) (term_variables Nil) (written-nil names).alone variables-nil
        (chain (mark-square_open p) (mark-square_close (behind_piece p (mark signs.square_open))));
    same = λ final g grows. with-nil (by_text g final) ∙ sym (with-nil (by_text g names));
  }

  nil-rest : AsRest Nil
  nil-rest p h = record {
    finish = list;
    spelled = λ rest. plain terminal.SquareClose ∷ rest;
    after = behind_piece p (mark signs.square_close);
    follows = rewritten (rest_spellings names Nil) (term_variables Nil) (written-nil names).as_rest variables-nil (mark-square_close p);
    finished = λ at front last m rest. refl;
    same = λ final g grows at front last.
        with-listed (by_text g final) (values front ++ value last ∷ []) Nil
        ∙ ap (listed (terms_with (by_text g final) (values front ++ value last ∷ [])))
        (with-nil (by_text g final) ∙ sym (with-nil (by_text g names)));
  }

  cons-alone : (h t : Term) → Alone h → AsRest t → Alone (Cons h t)
  cons-alone h t first others p n =
      let m : are_next p.count (term_variables h ++ term_variables t) ≡ true =
      subst (λ ks. are_next p.count ks ≡ true) (variables-cons h t) n in
      let r : TermReads names h (behind_piece p (mark signs.square_open)) =
      first (behind_piece p (mark signs.square_open)) (next-first p.count (term_variables h) (term_variables t) m) in
      let o : RestReads t r.after = others r.after (next-behind (term_variables t) r.follows m) in
      record {
        tree = o.finish p.at none r.tree;
        after = o.after;
        follows =
            rewritten (term_spellings names (Cons h t)) (term_variables (Cons h t)) (written-cons names h t).alone (variables-cons h t)
            (respelled (spell false (o.finish p.at none r.tree)) (chain (mark-square_open p) (chain r.follows o.follows))
            (o.finished p.at none r.tree false));
        same = λ final g grows.
            o.same final g grows p.at none r.tree
            ∙ ap (λ x. Cons x (term_with (by_text g names) t))
            (r.same final g (grows-on r.after.names o.after.names final o.follows.grows grows))
            ∙ sym (with-cons (by_text g names) h t);
      }

  cons-rest : (h t : Term) → Alone h → AsRest t → AsRest (Cons h t)
  cons-rest h t first others p n =
      let m : are_next p.count (term_variables h ++ term_variables t) ≡ true =
      subst (λ ks. are_next p.count ks ≡ true) (variables-cons h t) n in
      let r : TermReads names h (behind_piece p (mark signs.comma)) =
      first (behind_piece p (mark signs.comma)) (next-first p.count (term_variables h) (term_variables t) m) in
      let o : RestReads t r.after = others r.after (next-behind (term_variables t) r.follows m) in
      record {
        finish = λ at front last. o.finish at (and front last) r.tree;
        spelled = λ rest. plain terminal.Comma ∷ spell false r.tree (o.spelled rest);
        after = o.after;
        follows =
            rewritten (rest_spellings names (Cons h t)) (term_variables (Cons h t)) (written-cons names h t).as_rest (variables-cons h t)
            (chain (mark-comma p) (chain r.follows o.follows));
        finished = λ at front last b rest. o.finished at (and front last) r.tree b rest;
        same = λ final g grows at front last.
            let f : ℕ → ℕ = by_text g final in
            let xs : List Term = values front ++ value last ∷ [] in
            o.same final g grows at (and front last) r.tree
            ∙ ap (λ l. listed l (term_with (by_text g names) t)) (with-append f xs (value r.tree ∷ []))
            ∙ listed-append (terms_with f xs) (term_with f (value r.tree)) (term_with (by_text g names) t)
            ∙ ap (listed (terms_with f xs))
            (ap (λ x. Cons x (term_with (by_text g names) t))
            (r.same final g (grows-on r.after.names o.after.names final o.follows.grows grows))
            ∙ sym (with-cons (by_text g names) h t));
      }

  -- ---- parts

  -- a term that is small is read alone and as a rest
  abbrev At : Term → Type 0
  At t = is_small_term t ≡ true → Alone t × AsRest t

  fewer : (xs : List Term) (y t : Term) (ts : List Term) → length xs + length (t ∷ ts) ≤ 64 → length (xs ++ y ∷ []) + length ts ≤ 64
  fewer xs y t ts h = let e : length (xs ++ y ∷ []) ≡ length xs + length (y ∷ []) = length-append xs (y ∷ []) in omega arith

  same-more : (f : ℕ → ℕ) (us xs : List Term) (y z : Term) (all : List Term) → all ≡ terms_with f (xs ++ y ∷ []) ++ us → term_with f y ≡ z
      → all ≡ terms_with f xs ++ (z ∷ us)
  same-more f us xs y z all e h =
      e ∙ ap (λ l. l ++ us) (with-append f xs (y ∷ [])) ∙ append_assoc (terms_with f xs) (term_with f y ∷ []) us
      ∙ ap (λ x. terms_with f xs ++ (x ∷ us)) h

  -- a part behind fewer than 64 is not marked
  unmarked : (front : Trees) (last t : Tree) (rest all : List Marked) → over (values front ++ value last ∷ []) ≡ false
      → all ≡ spells true (and front last) (spell (over (values (and front last))) t rest)
      → all ≡ spells true front (spell (over (values front)) last (plain terminal.Comma ∷ spell false t rest))
  unmarked front last t rest all c e = e ∙ ap (λ d. spells true (and front last) (spell d t rest)) c

  more-parts : (ts : List Term) → Each At ts → (front : Trees) (last : Tree) (p : Position) → are_small_terms ts ≡ true
      → are_next p.count (terms_variables ts) ≡ true
      → length (values front ++ value last ∷ []) + length ts ≤ 64 → MoreParts ts front last p
  more-parts [] e front last p s n b = record {
    all_but_one = front;
    last_one = last;
    spelled = λ rest. rest;
    after = p;
    follows = none-follows p;
    finished = λ rest. refl;
    same = λ final g grows. sym (append-nil (terms_with (by_text g final) (values front ++ value last ∷ [])));
  }
  more-parts (t ∷ ts) e front last p s n b =
      let xs : List Term = values front ++ value last ∷ [] in
      let r : TermReads names t (behind_piece p (mark signs.comma)) =
      (e.0 (small-first t ts s)).0 (behind_piece p (mark signs.comma)) (next-first p.count (term_variables t) (terms_variables ts) n) in
      let o : MoreParts ts (and front last) r.tree r.after =
      more-parts ts e.1 (and front last) r.tree r.after (small-others t ts s) (next-behind (terms_variables ts) r.follows n)
      (fewer xs (value r.tree) t ts b) in
      let c : over xs ≡ false = not-over xs (omega (arith, b)) in
      record {
        all_but_one = o.all_but_one;
        last_one = o.last_one;
        spelled = λ rest. plain terminal.Comma ∷ spell false r.tree (o.spelled rest);
        after = o.after;
        follows = chain (mark-comma p) (chain r.follows o.follows);
        finished =
            λ rest. unmarked front last r.tree (o.spelled rest)
            (spells true o.all_but_one (spell (over (values o.all_but_one)) o.last_one rest)) c (o.finished rest);
        same = λ final g grows.
            same-more (by_text g final) (terms_with (by_text g names) ts) xs (value r.tree) (term_with (by_text g names) t)
            (terms_with (by_text g final) (values o.all_but_one ++ value o.last_one ∷ [])) (o.same final g grows)
            (r.same final g (grows-on r.after.names o.after.names final o.follows.grows grows));
      }

  parts : (t : Term) (ts : List Term) → Each At (t ∷ ts) → (p : Position) → are_small_terms (t ∷ ts) ≡ true
      → are_next p.count (terms_variables (t ∷ ts)) ≡ true → length (t ∷ ts) ≤ 64 → PartsRead names t ts p
  parts t ts e p s n b =
      let r : TermReads names t p = (e.0 (small-first t ts s)).0 p (next-first p.count (term_variables t) (terms_variables ts) n) in
      let o : MoreParts ts none r.tree r.after =
      more-parts ts e.1 none r.tree r.after (small-others t ts s) (next-behind (terms_variables ts) r.follows n) (omega (arith, b)) in
      record {
        front = o.all_but_one;
        last = o.last_one;
        after = o.after;
        follows =
            respelled (λ rest. spells true o.all_but_one (spell (over (values o.all_but_one)) o.last_one rest))
            (chain r.follows o.follows) o.finished;
        same = λ final g grows.
            o.same final g grows
            ∙ ap (λ x. x ∷ terms_with (by_text g names) ts)
            (r.same final g (grows-on r.after.names o.after.names final o.follows.grows grows));
      }

  -- ---- tuples

  braces-alone : (t : Term) (ts : List Term) → Each At (t ∷ ts) → are_small_terms (t ∷ ts) ≡ true → length (t ∷ ts) ≤ 64
      → Written names (Tuple (t ∷ ts)) (braced names (t ∷ ts)) (behind_bar names (braced names (t ∷ ts))) → Alone (Tuple (t ∷ ts))
  braces-alone t ts e s b w p h =
      let n : are_next p.count (terms_variables (t ∷ ts)) ≡ true = subst (λ ks. are_next p.count ks ≡ true) (variables-tuple (t ∷ ts)) h in
      let o : PartsRead names t ts (behind_piece p (mark signs.curly_open)) = parts t ts e (behind_piece p (mark signs.curly_open)) s n b in
      record {
        tree = braces p.at o.front o.last;
        after = behind_piece o.after (mark signs.curly_close);
        follows =
            rewritten (term_spellings names (Tuple (t ∷ ts))) (term_variables (Tuple (t ∷ ts))) w.alone (variables-tuple (t ∷ ts))
            (counted-last (chain (mark-curly_open p) (chain o.follows (mark-curly_close o.after))));
        same =
            λ final g grows. with-tuple (by_text g final) (values o.front ++ value o.last ∷ []) ∙ ap Tuple (o.same final g grows)
            ∙ sym (with-tuple (by_text g names) (t ∷ ts));
      }

  -- the variables of a string with parts behind it are those of the parts
  variables-call : (s : Sym) (ts : List Term) → term_variables (Tuple (Str s ∷ ts)) ≡ terms_variables ts
  variables-call s ts = variables-tuple (Str s ∷ ts) ∙ ap (λ ks. ks ++ terms_variables ts) (variables-str s)

  call-alone : (s : Sym) (u : Term) (us : List Term) → Each At (u ∷ us) → are_small_terms (u ∷ us) ≡ true → length (u ∷ us) ≤ 64
      → Alone (Tuple (Str s ∷ u ∷ us))
  call-alone s u us e small b p h =
      let t : Text = name_at names s.0 in
      let q : Position = behind_piece p (string t) in
      let n : are_next p.count (terms_variables (u ∷ us)) ≡ true = subst (λ ks. are_next p.count ks ≡ true) (variables-call s (u ∷ us)) h in
      let o : PartsRead names u us (behind_piece q (mark signs.round_open)) =
      parts u us e (behind_piece q (mark signs.round_open)) small n b in
      record {
        tree = call (with_arguments (read_string p t) (string_form t) p.at q.at o.front o.last);
        after = behind_piece o.after (mark signs.round_close);
        follows =
            rewritten (term_spellings names (Tuple (Str s ∷ u ∷ us))) (term_variables (Tuple (Str s ∷ u ∷ us)))
            (written-call names s u us).alone (variables-call s (u ∷ us))
            (counted-last (chain (string-follows p t) (chain (mark-round_open q) (chain o.follows (mark-round_close o.after)))));
        same = λ final g grows.
            let f : ℕ → ℕ = by_text g final in
            with-tuple f (Str (read_string p t) ∷ (values o.front ++ value o.last ∷ []))
            ∙ ap₂ (λ x l. Tuple (x ∷ l))
            (with-str f (read_string p t) ∙ ap (λ x. Str (record { 0 = g x }))
            (string-name p t final (grows-on q.names o.after.names final o.follows.grows grows)) ∙ sym (with-str (by_text g names) s))
            (o.same final g grows)
            ∙ sym (with-tuple (by_text g names) (Str s ∷ u ∷ us));
      }

  -- what a tuple of two parts or more says of their number
  at-most : (n : ℕ) (b : Bool) → nat_le n (if b then 64 else 63) ≡ true → n ≤ 64
  at-most n true h = grind (arith, nat_tests)
  at-most n false h = grind (arith, nat_tests)

  at-most-63 : (n : ℕ) (b : Bool) → b ≡ false → nat_le n (if b then 64 else 63) ≡ true → n ≤ 63
  at-most-63 n true e h = absurd (cc)
  at-most-63 n false e h = grind (arith, nat_tests)

  -- a tuple of one kind or the other
  many-alone : (t u : Term) (us : List Term) → Each At (t ∷ u ∷ us) → parts_fit (map size_of (t ∷ u ∷ us)) ≡ true
      → are_small_terms (t ∷ u ∷ us) ≡ true → StringOrNone names t
      → (w : Writing) × Written names (Tuple (t ∷ u ∷ us)) w (behind_bar names w) × Alone (Tuple (t ∷ u ∷ us))
  many-alone t u us e fit small (inl k) =
      let b : length (u ∷ us) ≤ 64 =
      subst (λ n. n ≤ 64) (length-map (u ∷ us) size_of) (at-most (length (map size_of (u ∷ us))) (size_of t).is_string fit) in
      subst (λ x. (w : Writing) × Written names (Tuple (x ∷ u ∷ us)) w (behind_bar names w) × Alone (Tuple (x ∷ u ∷ us))) (sym k.1)
      (called names k.0 (u ∷ us), written-call names k.0 u us, call-alone k.0 u us e.1 (small-others t (u ∷ us) small) b)
  many-alone t u us e fit small (inr k) =
      let b : length (u ∷ us) ≤ 63 =
      subst (λ n. n ≤ 63) (length-map (u ∷ us) size_of) (at-most-63 (length (map size_of (u ∷ us))) (size_of t).is_string k.1 fit) in
      let w = written-braces names t u us k.0 in
      (braced names (t ∷ u ∷ us), w, braces-alone t (u ∷ us) e small (omega (arith, b)) w)

  with-rest : (t : Term) → (w : Writing) × Written names t w (behind_bar names w) × Alone t → Alone t × AsRest t
  with-rest t x = (x.2, no_list-rest t x.0 x.1 x.2)

  at-tuple : (ts : List Term) → Each At ts → At (Tuple ts)
  at-tuple [] e s = absurd (none-fit (small-tuple [] s).0)
    where
      none-fit : false ≡ true → ⊥
      none-fit h = cc
  at-tuple (t ∷ []) e s =
      let w = written-one names t in
      with-rest (Tuple (t ∷ [])) (braced names (t ∷ []), w, braces-alone t [] e (small-tuple (t ∷ []) s).1 (omega arith) w)
  at-tuple (t ∷ u ∷ us) e s =
      let small = small-tuple (t ∷ u ∷ us) s in
      with-rest (Tuple (t ∷ u ∷ us)) (many-alone t u us e small.0 small.1 (string-or-none names t))

  -- ---- all terms

  at-cons : (h t : Term) → At h → At t → At (Cons h t)
  at-cons h t e f s =
      let small = small-cons h t s in
      let first = (e small.0).0 in
      let others = (f small.1).1 in
      (cons-alone h t first others, cons-rest h t first others)

  at-term : (t : Term) → At t
  at-term =
      term_induction At
      (λ n s. with-rest (Int n) (_, written-int names n, int-alone n))
      (λ a s. with-rest (Str a) (_, written-str names a, str-alone a))
      (λ s. (nil-alone, nil-rest))
      at-cons
      at-tuple
      (λ k s. with-rest (Var k) (_, written-var names k, var-alone k))
      (λ k s. with-rest (Ro k) (_, written-ro names k, ro-alone k))

  each-term : (ts : List Term) → Each At ts
  each-term [] = tt
  each-term (t ∷ ts) = (at-term t, each-term ts)

-- a small term has a tree, wherever its variables may stand
pub term-reads : (names : List Text) (t : Term) (p : Position) → is_small_term t ≡ true → are_next p.count (term_variables t) ≡ true
    → TermReads names t p
term-reads names t p s n = (at-term names t s).0 p n

-- so have arguments or parts
pub parts-read : (names : List Text) (t : Term) (ts : List Term) (p : Position) → are_small_terms (t ∷ ts) ≡ true → length (t ∷ ts) ≤ 64
    → are_next p.count (terms_variables (t ∷ ts)) ≡ true → PartsRead names t ts p
parts-read names t ts p s b n = parts names t ts (each-term names (t ∷ ts)) p s n b
