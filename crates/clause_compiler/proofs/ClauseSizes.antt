-- Sizes of clauses that are left.
use Rattle.std.proofs.Common.{◌≡◌, ℕ, suc, ◌+◌, ◌<◌, ◌≤◌, List, [], ◌∷◌, ◌++◌, length, map, drop, Some, sym, ap, ◌∙◌, subst, append_assoc, append-nil, drop_of_length-le, arith}
use Rattle.std.specs.Prelude.{get_or, slice_get, slice_index_or}
use Rattle.std.proofs.Math.Seq.{drop-cons}
use Rattle.std.proofs.lemmas.Option.{slice_get_within, get_or_from_slice_get}
use Rattle.fcp_model.specs.declared.source.Clause as read
use Rattle.fcp_model.specs.declared.source.Module.{Module}
use Rattle.fcp_model.specs.declared.loaded.ProcedureName.{ProcedureName}
use Rattle.fcp_model.specs.ProcedureNames.{procedure_names, positions_in}
use Rattle.fcp_model.specs.Translation.{clause_of, program_of}
use Rattle.machine_code.specs.declared.code.ClauseSize.{ClauseSize}
use Rattle.machine_code.specs.Correct.{clause_size}
use Rattle.clause_compiler.specs.ClauseCode.{clauses_in}
use Rattle.clause_compiler.proofs.ProcedureLoops.{Picks, picked}
use Rattle.machine_code.proofs.Each.{either_default}

-- the sizes of a module's clauses, as they are read
abbrev pub read_sizes : Module → List read.Clause → List ClauseSize
read_sizes m ds = map clause_size (map (clause_of (procedure_names m.clauses)) ds)

-- the sizes so far, and those of the clauses that are left
abbrev pub SizesLeft : Module → List ClauseSize → List ClauseSize → List ℕ → Type 0
SizesLeft m xs whole ps = (ds : List read.Clause) × Picks m.clauses ps ds × (xs ++ read_sizes m ds ≡ whole)

pub sizes_begin : (m : Module) (xs : List ClauseSize) (p : ℕ) (ps : List ℕ) → slice_get (positions_in m.clauses) p ≡ Some ps → xs ≡ []
    → SizesLeft m xs (map clause_size (clauses_in (program_of m) p)) ps
sizes_begin m xs p ps h e =
    let (ds, picks, all) = picked m p ps h in
    (ds, picks, ap (λ l. l ++ read_sizes m ds) e ∙ sym (ap (map clause_size) all))

pub size_within : (m : Module) (xs whole : List ClauseSize) (idx : ℕ) (ps : List ℕ) (cs : List read.Clause) → idx < length ps
    → cs ≡ m.clauses → SizesLeft m xs whole (drop idx ps) → slice_index_or ps idx 0 < length cs
size_within m xs whole idx ps cs lt ec (ds, picks, e) =
    let x = get_or ps idx 0 in
    let cut : drop idx ps ≡ x ∷ drop (suc idx) ps =
    drop-cons ps idx x lt ∙ ap (λ y. y ∷ drop (suc idx) ps) (either_default ps idx x 0 lt) in
    subst (λ l. x < length l) (sym ec) (go x ds (subst (λ l. Picks m.clauses l ds) cut picks))
  where
    go : (x : ℕ) (ds : List read.Clause) → Picks m.clauses (x ∷ drop (suc idx) ps) ds → x < length m.clauses
    go x [] h = absurd h
    go x (d ∷ ds) h = slice_get_within m.clauses x d h.0

pub sizes_next : (m : Module) (xs xs' whole : List ClauseSize) (idx : ℕ) (ps : List ℕ) (cs : List read.Clause) (cl : read.Clause)
    (s : ClauseSize) → idx < length ps → cs ≡ m.clauses → cl ≡ get_or cs (slice_index_or ps idx 0) cl → xs' ≡ xs ++ s ∷ []
    → ((hs : List ProcedureName) → s ≡ clause_size (clause_of hs cl))
    → SizesLeft m xs whole (drop idx ps) → SizesLeft m xs' whole (drop (idx + 1) ps)
sizes_next m xs xs' whole idx ps cs cl s lt ec ic ex es (ds, picks, e) =
    let x = get_or ps idx 0 in
    let next : idx + 1 ≡ suc idx = omega arith in
    let cut : drop idx ps ≡ x ∷ drop (idx + 1) ps = drop-cons ps idx x lt ∙ (λ j. either_default ps idx x 0 lt j ∷ drop (sym next j) ps) in
    go ds (subst (λ l. Picks m.clauses l ds) cut picks) e
  where
    go : (ds : List read.Clause) → Picks m.clauses (get_or ps idx 0 ∷ drop (idx + 1) ps) ds → xs ++ read_sizes m ds ≡ whole
        → SizesLeft m xs' whole (drop (idx + 1) ps)
    go [] h e = absurd h
    go (d ∷ ds) h e =
        let z : d ≡ cl =
        sym (get_or_from_slice_get m.clauses (get_or ps idx 0) d cl h.0) ∙ sym (ic ∙ ap (λ l. get_or l (get_or ps idx 0) cl) ec) in
        let sz : s ≡ clause_size (clause_of (procedure_names m.clauses) d) =
        es (procedure_names m.clauses) ∙ ap (λ y. clause_size (clause_of (procedure_names m.clauses) y)) (sym z) in (
          ds,
          h.1,
          ap (λ l. l ++ read_sizes m ds) ex ∙ append_assoc xs (s ∷ []) (read_sizes m ds) ∙ ap (λ y. xs ++ (y ∷ read_sizes m ds)) sz
              ∙ e,
        )

pub sizes_end : (m : Module) (xs whole : List ClauseSize) (idx : ℕ) (ps : List ℕ) → SizesLeft m xs whole (drop idx ps) → length ps ≤ idx
    → xs ≡ whole
sizes_end m xs whole idx ps (ds, picks, e) h = go ds (subst (λ l. Picks m.clauses l ds) (drop_of_length-le ps h) picks) e
  where
    go : (ds : List read.Clause) → Picks m.clauses [] ds → xs ++ read_sizes m ds ≡ whole → xs ≡ whole
    go [] p e = sym (append-nil xs) ∙ e
    go (d ∷ ds) p e = absurd p
