-- Clauses of a procedure that are left.
use Rattle.std.proofs.Common.{◌≡◌, ℕ, suc, ◌+◌, ◌<◌, Bool, true, false, cond, List, [], ◌∷◌, ◌++◌, length, map, filter, drop, Option, Some, None, refl, sym, ap, ◌∙◌, subst, append_assoc, append-nil, drop_of_length-le, length-append, ◌≤◌, arith}
use Rattle.std.specs.Prelude.{get_or, slice_get, slice_index_or, option_map}
use Rattle.std.proofs.Math.Seq.{drop-cons, get_or-append_seam}
use Rattle.std.proofs.lemmas.Option.{slice_get-map, slice_get_within, slice_get-get_or, get_or_from_slice_get}
use Rattle.fcp_model.specs.declared.loaded.ProcedureName.{ProcedureName}
use Rattle.fcp_model.specs.declared.source.Clause as read
use Rattle.fcp_model.specs.declared.source.Module.{Module}
use Rattle.fcp_model.specs.ProcedureNames.{procedure_names, procedure_name, same_procedure, put_if, positions_from, positions_in}
use Rattle.fcp_model.specs.Programs.{Clause}
use Rattle.fcp_model.specs.Translation.{clause_of, clauses_called, procedure_of, program_of}
use Rattle.head_code.specs.declared.emitter.Emitter.{Emitter}
use Rattle.machine_code.specs.Instructions.{Op}
use Rattle.clause_compiler.specs.ClauseCode.{clause_code, clauses_code, clauses_in}
use Rattle.head_code.specs.Emitting.{Emits}
use Rattle.machine_code.proofs.Each.{either_default}
use Rattle.head_code.proofs.PutLoops.{Remains, all_remains, remains_as, fewer_remain, none_remains}

-- the clauses at some positions
abbrev pub Picks : List read.Clause → List ℕ → List read.Clause → Type 0
Picks cs [] [] = Unit {0}
Picks cs [] (d ∷ ds) = ⊥
Picks cs (p ∷ ps) [] = ⊥
Picks cs (p ∷ ps) (d ∷ ds) = (slice_get cs p ≡ Some d) × Picks cs ps ds

picks_from : (h : ProcedureName) (cs pre : List read.Clause) (n : ℕ) → n ≡ length pre
    → Picks (pre ++ cs) (positions_from n h cs) (filter (λ c. same_procedure h (procedure_name c)) cs)
picks_from h [] pre n e = tt
picks_from h (c ∷ cs) pre n e =
    let more = picks_from h cs (pre ++ c ∷ []) (n + 1) (omega (arith, e, length-append pre (c ∷ []))) in
    by (same_procedure h (procedure_name c))
    (subst (λ l. Picks l (positions_from (n + 1) h cs) (filter (λ x. same_procedure h (procedure_name x)) cs))
    (append_assoc pre (c ∷ []) cs) more)
  where
    here : slice_get (pre ++ c ∷ cs) n ≡ Some c
    here =
        ap (slice_get (pre ++ c ∷ cs)) e ∙ slice_get-get_or (pre ++ c ∷ cs) (length pre) c (omega (arith, length-append pre (c ∷ cs)))
        ∙ ap Some (get_or-append_seam pre c cs c)

    by : (b : Bool) → Picks (pre ++ c ∷ cs) (positions_from (n + 1) h cs) (filter (λ x. same_procedure h (procedure_name x)) cs)
        → Picks (pre ++ c ∷ cs) (put_if b n (positions_from (n + 1) h cs))
        (cond b (c ∷ filter (λ x. same_procedure h (procedure_name x)) cs) (filter (λ x. same_procedure h (procedure_name x)) cs))
    by true k = (here, k)
    by false k = k

-- the clauses from here on are left
abbrev pub ClausesLeft : Module → Emitter → Emitter → List Op → ℕ → List ℕ → Type 0
ClausesLeft m a b whole k ps =
    (ds : List read.Clause) × Picks m.clauses ps ds
    × Remains a b whole (clauses_code (length b.instrs.items) k (map (clause_of (procedure_names m.clauses)) ds))

-- the clauses at the positions of a procedure are those of the program
pub picked : (m : Module) (p : ℕ) (ps : List ℕ) → slice_get (positions_in m.clauses) p ≡ Some ps
    → (ds : List read.Clause) × Picks m.clauses ps ds
    × (clauses_in (program_of m) p ≡ map (clause_of (procedure_names m.clauses)) ds)
picked m p ps h =
    by (slice_get (procedure_names m.clauses) p) refl
    (sym (slice_get-map (λ x. positions_from 0 x m.clauses) (procedure_names m.clauses) p) ∙ h)
  where
    by : (o : Option ProcedureName) → slice_get (procedure_names m.clauses) p ≡ o
        → option_map (λ x. positions_from 0 x m.clauses) o ≡ Some ps
        → (ds : List read.Clause) × Picks m.clauses ps ds
        × (clauses_in (program_of m) p ≡ map (clause_of (procedure_names m.clauses)) ds)
    by None i j = let no : ⊥ = cc in absurd no
    by (Some x) i j =
        let z : positions_from 0 x m.clauses ≡ ps = cc in
        let q : clauses_in (program_of m) p ≡ clauses_called (procedure_names m.clauses) x m.clauses =
        ap (λ o. elim o as (λ _. List Clause) [ None ↦ [] | Some d ↦ d.clauses ])
        (slice_get-map (procedure_of (procedure_names m.clauses) m.clauses) (procedure_names m.clauses) p
        ∙ ap (option_map (procedure_of (procedure_names m.clauses) m.clauses)) i) in (
          filter (λ c. same_procedure x (procedure_name c)) m.clauses,
          subst
              (λ l. Picks m.clauses l (filter (λ c. same_procedure x (procedure_name c)) m.clauses)) z (picks_from x m.clauses [] 0 refl),
          q,
        )

pub clauses_begin : (m : Module) (e : Emitter) (p : ℕ) (ps : List ℕ) → slice_get (positions_in m.clauses) p ≡ Some ps
    → ClausesLeft m e e (clauses_code (length e.instrs.items) 1 (clauses_in (program_of m) p)) 1 ps
clauses_begin m e p ps h =
    let (ds, picks, all) = picked m p ps h in (
      ds,
      picks,
      remains_as e e _ _ _ (ap (clauses_code (length e.instrs.items) 1) all)
          (all_remains e (clauses_code (length e.instrs.items) 1 (clauses_in (program_of m) p))),
    )

pub place_within : (m : Module) (a b : Emitter) (whole : List Op) (k idx x : ℕ) (ps : List ℕ) → idx < length ps → x ≡ get_or ps idx x
    → ClausesLeft m a b whole k (drop idx ps) → x < length m.clauses
place_within m a b whole k idx x ps lt is (ds, picks, rem) =
    let cut : drop idx ps ≡ x ∷ drop (suc idx) ps = drop-cons ps idx x lt ∙ ap (λ y. y ∷ drop (suc idx) ps) (sym is) in
    go ds (subst (λ l. Picks m.clauses l ds) cut picks)
  where
    go : (ds : List read.Clause) → Picks m.clauses (x ∷ drop (suc idx) ps) ds → x < length m.clauses
    go [] h = absurd h
    go (d ∷ ds) h = slice_get_within m.clauses x d h.0

pub clauses_step : (m : Module) (a b c : Emitter) (whole : List Op) (k k' idx x : ℕ) (ps : List ℕ) (cl : read.Clause) → idx < length ps
    → x ≡ get_or ps idx x → cl ≡ get_or m.clauses x cl → k' ≡ k + 1
    → Emits b c (clause_code (length b.instrs.items) k (clause_of (procedure_names m.clauses) cl))
    → ClausesLeft m a b whole k (drop idx ps) → ClausesLeft m a c whole k' (drop (idx + 1) ps)
clauses_step m a b c whole k k' idx x ps cl lt is ic ek bc (ds, picks, rem) =
    let next : idx + 1 ≡ suc idx = omega arith in
    let cut : drop idx ps ≡ x ∷ drop (idx + 1) ps = drop-cons ps idx x lt ∙ (λ j. sym is j ∷ drop (sym next j) ps) in
    go ds (subst (λ l. Picks m.clauses l ds) cut picks) rem
  where
    go : (ds : List read.Clause) → Picks m.clauses (x ∷ drop (idx + 1) ps) ds
        → Remains a b whole (clauses_code (length b.instrs.items) k (map (clause_of (procedure_names m.clauses)) ds))
        → ClausesLeft m a c whole k' (drop (idx + 1) ps)
    go [] h rem = absurd h
    go (d ∷ ds) h rem =
        let z : d ≡ cl = sym (get_or_from_slice_get m.clauses x d cl h.0) ∙ sym ic in
        let g = clause_code (length b.instrs.items) k (clause_of (procedure_names m.clauses) cl) in
        let here : length b.instrs.items + length g ≡ length c.instrs.items = sym bc.size in
        let ek' : suc k ≡ k' = omega (arith, ek) in
        let rest = map (clause_of (procedure_names m.clauses)) ds in (
          ds,
          h.1,
          fewer_remain a b c whole g (clauses_code (length c.instrs.items) k' rest)
              (remains_as a b whole _ _ (ap (λ y. clauses_code (length b.instrs.items) k (clause_of (procedure_names m.clauses) y ∷ rest))
              z ∙ (λ j. g ++ clauses_code (here j) (ek' j) rest)) rem) bc,
        )

pub clauses_end : (m : Module) (a b c : Emitter) (whole : List Op) (k idx : ℕ) (ps : List ℕ) → length ps ≤ idx
    → Emits b c (clauses_code (length b.instrs.items) k []) → ClausesLeft m a b whole k (drop idx ps) → Emits a c whole
clauses_end m a b c whole k idx ps h bc (ds, picks, rem) =
    go ds (subst (λ l. Picks m.clauses l ds) (drop_of_length-le ps h) picks) rem
  where
    go : (ds : List read.Clause) → Picks m.clauses [] ds
        → Remains a b whole (clauses_code (length b.instrs.items) k (map (clause_of (procedure_names m.clauses)) ds)) → Emits a c whole
    go [] e rem =
        none_remains a c whole (fewer_remain a b c whole (clauses_code (length b.instrs.items) k []) []
        (remains_as a b whole _ _ (sym (append-nil (clauses_code (length b.instrs.items) k []))) rem) bc)
    go (d ∷ ds) e rem = absurd e

pub place_bound : (m : Module) (a b : Emitter) (whole : List Op) (k idx : ℕ) (ps : List ℕ) (cs : List read.Clause) → idx < length ps
    → cs ≡ m.clauses → ClausesLeft m a b whole k (drop idx ps) → slice_index_or ps idx 0 < length cs
place_bound m a b whole k idx ps cs lt ec left =
    let x = get_or ps idx 0 in
    subst (λ l. x < length l) (sym ec) (place_within m a b whole k idx x ps lt (either_default ps idx 0 x lt) left)

pub clauses_next : (m : Module) (a b c : Emitter) (whole : List Op) (k k' idx : ℕ) (ps : List ℕ) (cs : List read.Clause) (cl : read.Clause)
    → idx < length ps → cs ≡ m.clauses → cl ≡ get_or cs (slice_index_or ps idx 0) cl → k' ≡ k + 1
    → Emits b c (clause_code (length b.instrs.items) k (clause_of (procedure_names m.clauses) cl))
    → ClausesLeft m a b whole k (drop idx ps) → ClausesLeft m a c whole k' (drop (idx + 1) ps)
clauses_next m a b c whole k k' idx ps cs cl lt ec ic ek bc left =
    let x = get_or ps idx 0 in
    clauses_step m a b c whole k k' idx x ps cl lt (either_default ps idx 0 x lt) (ic ∙ ap (λ l. get_or l x cl) ec) ek bc left
