-- The depth of a circuit, from the depths of the nets of its names.
use Rattle.std.proofs.Common.{◌≡◌, ℕ, ◌+◌, ◌-◌, ◌<◌, List, [], length, map, get_or, replicate, slice_index, ◌⊎◌, inl, inr, sym, ap, ◌∙◌, subst, arith}
use Rattle.std.proofs.lemmas.List.{get_or-map, get_or_default, length-map, length-append, get_or_append_left, get_or-append-add}
use Rattle.std.proofs.lemmas.Simd.{map-map}
use Rattle.std.proofs.lemmas.List.Elements.{recursion_from_All}
use Rattle.net_ir.specs.declared.netlist.Gate.{Gate}
use Rattle.base_types.specs.declared.indices.NetId.{NetId}
use Rattle.blif_text.specs.Circuits.{Circuit, CircuitLatch, Table}
use Rattle.blif_text.proofs.Exports.{IsSound}
use Rattle.run_steps.specs.Equations.{NameEquation}
use Rattle.run_steps.specs.Order.{IsEvaluationOrder, no_equation, slots_read}
use Rattle.run_steps.specs.Slots.{slot_in}
use Rattle.run_steps.specs.Solvers.{equation_edges}
use Rattle.run_steps.specs.Steps.{AreSound, driven}
use Rattle.run_steps.proofs.Exports.{given-slot, output-slot, reads-at}
use Rattle.blif_run.specs.Loops.{equation_of, equations_of}
use Rattle.blif_run.specs.Plans.{given_names}
use Rattle.blif_run.specs.Truths.{no_table}
use Rattle.blif_run.proofs.Exports.{equation-at, sound-equations}
use Rattle.blif_net.specs.Depths.{HasDepth, gate_depths, greatest, table_depth}
use Rattle.blif_net.specs.Tables.{slot_depths, slots_depth}
use Rattle.blif_net.proofs.SlotDepths.{DepthsTo, IsPlaced, greatest-is, placed}

module _ (c : Circuit) (sound : IsSound c) (order : List ℕ)
    (is : IsEvaluationOrder (length (equations_of c)) (equation_edges (given_names c) (equations_of c)) order) where
  abbrev given : List (List ℕ)
  given = given_names c

  abbrev names : List (List ℕ)
  names = driven given (equations_of c)

  abbrev first : ℕ
  first = length given

  abbrev reads : List (List ℕ)
  reads = slots_read names (equations_of c)

  abbrev count : ℕ
  count = length (equations_of c)

  counted : count ≡ length c.tables
  counted = length-map c.tables equation_of

  own : AreSound given (equations_of c)
  own = sound-equations c sound

  abbrev place : ℕ → ℕ
  place = λ t. length is.ranks - 1 - slice_index is.ranks t

  module _ (depths : List ℕ) (most : ℕ) (d : DepthsTo first c.tables reads place (length order) depths most)
      (p : IsPlaced first (length c.tables) reads order place) where
    abbrev depth : List ℕ → ℕ
    depth x = get_or depths (slot_in names x) 0

    flat : (k : ℕ) → k < first → depth (get_or given k []) ≡ 0
    flat k low = ap (λ s. get_or depths s 0) (given-slot given (equations_of c) own.differ k low) ∙ d.flat k low

    output-depth : (t : ℕ) → t < length c.tables → depth (get_or c.tables t no_table).output ≡ get_or depths (first + t) 0
    output-depth t low =
        let e : (get_or (equations_of c) t no_equation).output ≡ (get_or c.tables t no_table).output =
        ap (λ (q : NameEquation). q.output) (equation-at c t low) in
        ap depth (sym e) ∙ ap (λ s. get_or depths s 0) (output-slot given (equations_of c) own.differ t (omega (arith, low, counted)))

    table-depth : (t : ℕ) → t < length c.tables
        → depth (get_or c.tables t no_table).output ≡ table_depth (get_or c.tables t no_table).rows (map depth (get_or c.tables t no_table).inputs)
    table-depth t low =
        let rows = (get_or c.tables t no_table).rows in
        let read : get_or reads t [] ≡ map (slot_in names) (get_or c.tables t no_table).inputs =
        reads-at given (equations_of c) own t (omega (arith, low, counted)) ∙ ap (λ (q : NameEquation). map (slot_in names) q.reads) (equation-at c t low) in
        output-depth t low ∙ d.each t low (p.places t low) ∙ ap (λ r. slots_depth r rows depths) read
        ∙ ap (table_depth rows) (map-map (λ s. get_or depths s 0) (slot_in names) (get_or c.tables t no_table).inputs)

    abbrev outs : List ℕ
    outs = map (λ (t : Table). depth t.output) c.tables

    at : (t : ℕ) → t < length c.tables → get_or outs t 0 ≡ get_or depths (first + t) 0
    at t low = get_or-map (λ (t : Table). depth t.output) c.tables t no_table 0 low ∙ output-depth t low

    has-depth : HasDepth c most
    has-depth = record {
      depth = depth;
      are = record {
        inputs = recursion_from_All (λ x. depth x ≡ 0) c.inputs (λ k e low.
            let wide = length-append c.inputs (map (λ (l : CircuitLatch). l.target) c.latches) in
            ap depth (get_or_default c.inputs k e [] low ∙ sym (get_or_append_left c.inputs (map (λ (l : CircuitLatch). l.target) c.latches) [] k low))
            ∙ flat k (omega (arith, low, wide)));
        latches = recursion_from_All (λ (l : CircuitLatch). depth l.target ≡ 0) c.latches (λ k e low.
            let targets = map (λ (l : CircuitLatch). l.target) c.latches in
            let wide = length-append c.inputs targets in
            ap depth (sym (get_or-map (λ (l : CircuitLatch). l.target) c.latches k e [] low) ∙ sym (get_or-append-add c.inputs targets k []))
            ∙ flat (length c.inputs + k) (omega (arith, low, wide, length-map c.latches (λ (l : CircuitLatch). l.target))));
        tables = recursion_from_All (λ (t : Table). depth t.output ≡ table_depth t.rows (map depth t.inputs)) c.tables (λ k e low.
            subst (λ (t : Table). depth t.output ≡ table_depth t.rows (map depth t.inputs)) (get_or_default c.tables k no_table e low) (table-depth k low));
      };
      is = greatest-is outs most
          (λ k low.
          let inside : k < length c.tables = omega (arith, low, length-map c.tables (λ (t : Table). depth t.output)) in
          omega (arith, at k inside, d.low k inside (p.places k inside)))
          (some d.some);
    }
      where
        some : (most ≡ 0) ⊎ ((t : ℕ) × (t < length c.tables) × (place t < length order) × (get_or depths (first + t) 0 ≡ most))
            → (most ≡ 0) ⊎ ((k : ℕ) × (k < length outs) × (get_or outs k 0 ≡ most))
        some (inl z) = inl z
        some (inr (t, low, earlier, e)) =
            inr (t, (omega (arith, low, length-map c.tables (λ (t : Table). depth t.output))), (at t low ∙ e))

  pub drawn-depth : (start : ℕ) (lists : List (List ℕ)) → start ≡ first → lists ≡ reads → (gates : List Gate) (nets : List NetId)
      → ((place : ℕ → ℕ) → IsPlaced start (length c.tables) lists order place
      → DepthsTo start c.tables lists place (length order) (slot_depths nets gates (replicate start 0)) (greatest (gate_depths (replicate start 0) gates)))
      → HasDepth c (greatest (gate_depths (replicate first 0) gates))
  drawn-depth start lists e r gates nets all =
      let here : (place : ℕ → ℕ) → IsPlaced first (length c.tables) reads order place
      → DepthsTo first c.tables reads place (length order) (slot_depths nets gates (replicate first 0)) (greatest (gate_depths (replicate first 0) gates)) =
      subst (λ n. (place : ℕ → ℕ) → IsPlaced n (length c.tables) reads order place
      → DepthsTo n c.tables reads place (length order) (slot_depths nets gates (replicate n 0)) (greatest (gate_depths (replicate n 0) gates))) e
      (subst (λ l. (place : ℕ → ℕ) → IsPlaced start (length c.tables) l order place
      → DepthsTo start c.tables l place (length order)
      (slot_depths nets gates (replicate start 0)) (greatest (gate_depths (replicate start 0) gates))) r all) in
      let p : IsPlaced first (length c.tables) reads order place =
      subst (λ n. IsPlaced first n reads order place) counted
      (placed first count reads order (length-map (equations_of c) (λ (q : NameEquation). map (slot_in names) q.reads)) is) in
      has-depth (slot_depths nets gates (replicate first 0)) (greatest (gate_depths (replicate first 0) gates)) (here place p) p
