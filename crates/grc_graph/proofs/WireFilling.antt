-- The wires of a program's graph, appended instance by instance.
use Rattle.std.proofs.Common.{◌≡◌, ℕ, ◌+◌, ◌<◌, ◌≤◌, Bool, List, [], ◌∷◌, ◌++◌, length, map, take, drop, refl, sym, ap, ◌∙◌, subst, arith, length-append}
use Rattle.std.proofs.Common.{append_assoc}
use Rattle.std.specs.List.{flat_map, range_with_len}
use Rattle.std.proofs.lemmas.List.{length-map, map-append, take_more, append-nil, take-append-drop, take_all}
use Rattle.std.proofs.lemmas.List.Concat.{flat_map-append}
use Rattle.std.proofs.lemmas.List.Folds.{flat_map-map}
use Rattle.std.proofs.lemmas.Simd.{map-map}
use Rattle.base_types.specs.declared.bounds.TheConstants.Limits.{WIRES}
use Rattle.est_kernel.specs.Plain.{Program, outgoing_count}
use Rattle.est_kernel.specs.WellFormed.{IsKernel}
use Rattle.grc_graph.specs.declared.wires.Wire.{Wire}
use Rattle.grc_graph.specs.declared.wires.Wire.TheVariants as wires
use Rattle.grc_graph.specs.Instances as plain
use Rattle.grc_graph.specs.Neighbouring.{program_wires}
use Rattle.grc_graph.specs.PlainGraphs.{wire_of, instance_at}
use Rattle.grc_graph.specs.Rows.{Row, program_rows, row_at, spot_at}
use Rattle.grc_graph.specs.Wires as names
use Rattle.grc_graph.specs.WireTables.{AreRuns, AreOutgoing, wire_run, is_local}
use Rattle.grc_graph.proofs.RowSpots.{program_spots_by_row}
use Rattle.grc_graph.proofs.WireRuns.{AreRuns-none, AreRuns-more, AreOutgoing-none, AreOutgoing-more, run_names, length-flat_map_nonempty}

abbrev pub row_wires : List Row → plain.Instance → List names.Wire
row_wires W x = names.instance_wires (row_at W x.path).statement x.path x.layer

abbrev pub outs_of : Program → List names.Wire
outs_of p = map names.Out (range_with_len p.inputs (outgoing_count p))

pub record Filled (p : Program) (insts : List plain.Instance) (i : ℕ) (list : List Wire) (first : List ℕ) : Type 0 where
  pub runs : AreRuns i list first
  pub outs : AreOutgoing p.inputs (outgoing_count p) list
  pub names : map (wire_of insts) list ≡ outs_of p ++ flat_map (row_wires (program_rows p)) (take i insts)

pub Filled-none : (p : Program) (insts : List plain.Instance) (list : List Wire) (first : List ℕ)
    → list ≡ map (λ s. wires.Out (record { 0 = s })) (range_with_len p.inputs (outgoing_count p))
    → first ≡ outgoing_count p ∷ []
    → Filled p insts 0 list first
Filled-none p insts list first e f = record {
  runs = subst (λ l. AreRuns 0 list l) (sym f) (AreRuns-none p.inputs (outgoing_count p) list e);
  outs = AreOutgoing-none p.inputs (outgoing_count p) list e;
  names = ap (map (wire_of insts)) e ∙ map-map (wire_of insts) (λ s. wires.Out (record { 0 = s })) (range_with_len p.inputs (outgoing_count p))
      ∙ sym (append-nil (outs_of p));
}

pub Filled-more : (p : Program) (insts : List plain.Instance) (i : ℕ) (list new : List Wire) (first : List ℕ) (b : Bool) (A : ℕ → Bool) (end : ℕ)
    → Filled p insts i list first
    → i < length insts
    → b ≡ is_local (row_at (program_rows p) (instance_at insts i).path).statement
    → A ≡ names.instance_codes (row_at (program_rows p) (instance_at insts i).path).statement (instance_at insts i).layer
    → new ≡ list ++ wire_run b A i
    → end ≡ length new
    → Filled p insts (i + 1) new (first ++ end ∷ [])
Filled-more p insts i list new first b A end f h e g n z =
    let x = instance_at insts i in
    let W = program_rows p in
    record {
      runs = subst (λ l. AreRuns (i + 1) l (first ++ end ∷ [])) (sym n) (AreRuns-more i list first b A end f.runs (z ∙ ap length n));
      outs = subst (λ l. AreOutgoing p.inputs (outgoing_count p) l) (sym n) (AreOutgoing-more p.inputs (outgoing_count p) i list b A f.outs);
      names = ap (map (wire_of insts)) n ∙ map-append (wire_of insts) list (wire_run b A i)
          ∙ (λ j. f.names j ++ run_names insts i x (row_at W x.path).statement b A refl e g j)
          ∙ append_assoc (outs_of p) (flat_map (row_wires W) (take i insts)) (row_wires W x)
          ∙ ap (λ l. outs_of p ++ l) (ap (λ l. flat_map (row_wires W) (take i insts) ++ l) (sym (append-nil (row_wires W x)))
          ∙ sym (flat_map-append (row_wires W) (take i insts) (x ∷ []))
          ∙ ap (flat_map (row_wires W)) (sym (take_more insts i _ h)));
    }

-- what the definition has
pub program_wires_by_row : (p : Program) → IsKernel p.body → program_wires p ≡ outs_of p ++ flat_map (row_wires (program_rows p)) (plain.body_instances p.body)
program_wires_by_row p k =
    ap (λ l. outs_of p ++ l)
    (ap (flat_map (λ x. names.instance_wires x.statement x.path x.layer)) (program_spots_by_row p k)
    ∙ flat_map-map (λ x. names.instance_wires x.statement x.path x.layer) (spot_at (program_rows p)) (plain.body_instances p.body))

pub Filled-all : (p : Program) (insts : List plain.Instance) (i : ℕ) (list : List Wire) (first : List ℕ)
    → IsKernel p.body
    → insts ≡ plain.body_instances p.body
    → i ≡ length insts
    → Filled p insts i list first
    → map (wire_of insts) list ≡ program_wires p
Filled-all p insts i list first k e n f =
    f.names ∙ ap (λ l. outs_of p ++ flat_map (row_wires (program_rows p)) l) (whole ∙ e) ∙ sym (program_wires_by_row p k)
  where
    whole : take i insts ≡ insts
    whole = take_all i insts (omega arith)

pub Filled-few : (p : Program) (insts : List plain.Instance) (i : ℕ) (list : List Wire) (first : List ℕ)
    → IsKernel p.body
    → insts ≡ plain.body_instances p.body
    → length (program_wires p) ≤ WIRES
    → Filled p insts i list first
    → length list ≤ WIRES
Filled-few p insts i list first k e h f =
    let F = row_wires (program_rows p) in
    let all : length (program_wires p) ≡ length (outs_of p) + length (flat_map F insts)
    = ap length (program_wires_by_row p k ∙ ap (λ l. outs_of p ++ flat_map F l) (sym e)) ∙ length-append (outs_of p) (flat_map F insts) in
    let split : length (flat_map F insts) ≡ length (flat_map F (take i insts)) + length (flat_map F (drop i insts))
    = ap (λ l. length (flat_map F l)) (sym (take-append-drop i insts)) ∙ ap length (flat_map-append F (take i insts) (drop i insts)) ∙ length-append _ _ in
    let here : length list ≡ length (outs_of p) + length (flat_map F (take i insts))
    = sym (length-map list (wire_of insts)) ∙ ap length f.names ∙ length-append (outs_of p) (flat_map F (take i insts)) in
    omega arith

pub few_instances : (p : Program) (insts : List plain.Instance)
    → IsKernel p.body
    → insts ≡ plain.body_instances p.body
    → length (program_wires p) ≤ WIRES
    → length insts ≤ WIRES
few_instances p insts k e h =
    let F = row_wires (program_rows p) in
    let all : length (program_wires p) ≡ length (outs_of p) + length (flat_map F insts)
    = ap length (program_wires_by_row p k ∙ ap (λ l. outs_of p ++ flat_map F l) (sym e)) ∙ length-append (outs_of p) (flat_map F insts) in
    let each : length insts ≤ length (flat_map F insts) = length-flat_map_nonempty F (λ x. omega arith) insts in
    omega arith
