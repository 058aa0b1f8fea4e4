use Rattle.std.proofs.Common.{rules, ◌≡◌, ◌+◌, ◌<◌, ℕ, max, replicate, set, List, [], ◌∷◌, ◌++◌, length, map, take, get_or, All, sym, ap, subst, ◌∙◌, arith}
use Rattle.std.specs.declared.alloc.Global.{Global}
use Rattle.std.specs.declared.vec.Vec.{Vec}
use Rattle.std.specs.List.{sum_by}
use Rattle.std.proofs.lemmas.List.{get_or-map, length-map, length-replicate, take_all}
use Rattle.std.proofs.lemmas.List.Sums.{sum_by_more}
use Rattle.std.proofs.lemmas.List.Elements.{recursion_from_All}
use Rattle.blif_text.specs.Plain.{plain_circuit, plain_table, plain_row}
use Rattle.blif_text.proofs.Exports.{described-sound}
use Rattle.run_steps.specs.Solvers.{ordered_steps}
use Rattle.run_steps.specs.Steps.{Step}
use Rattle.run_steps.proofs.Exports.{reads-within, parts-within}
use Rattle.blif_run.specs.Loops.{equation_of, equations_of}
use Rattle.blif_run.specs.Plans.{given_names}
use Rattle.blif_run.specs.Truths.{no_table}
use Rattle.blif_run.proofs.Exports.{sound-equations, tables-count}
use Rattle.blif_net.specs.Depths.{gate_depths, greatest}
use Rattle.blif_net.specs.Sizes.{table_gates, table_nets}
use Rattle.blif_net.specs.Tables.{BeginsFlat, Settles, drawn_step, rows_step, slot_depths, slots_depth}
use Rattle.blif_net.proofs.DrawnSizes.{gate_cost, given-few, next-made, next-room, order-gates, slots-width}
use Rattle.blif_net.proofs.NamedDepths.{drawn-depth}
use Rattle.blif_net.proofs.SlotDepths.{DepthsTo, next-depths, no-depths}
use Rattle.blif_net.proofs.Slots.{steps-more, step-is, settles-as, table-rows, table-steps}
use Rattle.blif_net.proofs.drawing.drawn_tables.Goals as goal

pub draw_table-requires-clause-reads : goal.draw_table-requires-clause-reads
draw_table-requires-clause-reads c =
    let circuit = plain_circuit c.args.blif.now in
    let sound = described-sound c.requires.described.0 circuit c.requires.described.1 in
    let own = sound-equations circuit sound in
    let resolved = c.args.resolved.now in
    let reads = resolved.reads.items in
    let lists : List (List ℕ) = map (λ (s : Vec ℕ Global). s.items) reads in
    let t = get_or c.args.order.now c.loop-table.table-index 0 in
    let count = tables-count circuit sound _ _ _ _ c.requires.resolved in
    let wide = length-map c.args.blif.now.tables.items plain_table in
    let many : length reads ≡ length lists = sym (length-map reads (λ (s : Vec ℕ Global). s.items)) in
    let node : t < length circuit.tables =
    omega (arith, c.requires.order.against.nodes c.loop-table.table-index 0 (omega arith), c.requires.order.each_node, length-map circuit.tables equation_of) in
    let within = parts-within (λ (s : Vec ℕ Global). s.items) (resolved.first + length lists) reads
    (reads-within (given_names circuit) (equations_of circuit) own _ _ _ _ c.requires.resolved) in
    let here : All (λ slot. slot < resolved.first + length lists) c.deref.result.now =
    subst (λ (l : List ℕ). All (λ slot. slot < resolved.first + length lists) l)
    (sym (c.deref.ensures.value ∙ ap (λ (s : Vec ℕ Global). s.items) c.index.ensures))
    (within t c.index.result.now (omega (arith, node, count, many))) in
    λ k d low.
    let slot = here k d low in
    omega (arith, slot, c.loop-table.invariant.settles.each_slot, count, wide)

pub loop-table-preserved : goal.loop-table-preserved
loop-table-preserved c =
    let circuit = plain_circuit c.args.blif.now in
    let sound = described-sound c.requires.described.0 circuit c.requires.described.1 in
    let resolved = c.args.resolved.now in
    let first = resolved.first in
    let reads = resolved.reads.items in
    let tables = c.args.blif.now.tables.items in
    let order = c.args.order.now in
    let i = c.loop-table.table-index in
    let t = get_or order i 0 in
    let lists : List (List ℕ) = map (λ (s : Vec ℕ Global). s.items) reads in
    let count = tables-count circuit sound _ _ _ _ c.requires.resolved in
    let wide = length-map tables plain_table in
    let many = length-map reads (λ (s : Vec ℕ Global). s.items) in
    let node : t < length circuit.tables =
    omega (arith, c.requires.order.against.nodes i 0 (omega arith), c.requires.order.each_node, length-map circuit.tables equation_of) in
    let f : ℕ → Step = drawn_step circuit.tables first lists in
    let made : Settles first (length tables) c.draw_table.new.drawing.gates.items c.draw_table.new.drawing.nets.items
    (map f (take i order) ++ rows_step (first + t) c.deref.result.now (map plain_row c.deref-in-loop-table.result.now) ∷ []) =
    c.in_ok-draw_table.ensures.adds.settles (length tables) (map f (take i order)) c.loop-table.invariant.settles in
    let one : rows_step (first + t) c.deref.result.now (map plain_row c.deref-in-loop-table.result.now) ≡ f t =
    step-is tables reads first t c.deref.result.now c.deref-in-loop-table.result.now c.index.result.now c.index-in-loop-table.result.now
    (omega (arith, node, count, many)) (omega (arith, node, wide)) c.deref.ensures.value c.index.ensures c.deref-in-loop-table.ensures.value
    c.index-in-loop-table.ensures in
    let rows = table-rows tables t c.deref-in-loop-table.result.now c.index-in-loop-table.result.now (omega (arith, node, wide))
    c.deref-in-loop-table.ensures.value c.index-in-loop-table.ensures in
    let read : c.deref.result.now ≡ get_or lists t [] =
    c.deref.ensures.value ∙ ap (λ (s : Vec ℕ Global). s.items) c.index.ensures
    ∙ sym (get_or-map (λ (s : Vec ℕ Global). s.items) reads t c.index.result.now [] (omega (arith, node, count, many))) in
    let width : length c.deref.result.now ≡ length (get_or circuit.tables t no_table).inputs =
    ap length read ∙ slots-width _ circuit.tables lists t node c.requires.resolved.reads_are in
    let own_gates : table_gates (length c.deref.result.now) (map plain_row c.deref-in-loop-table.result.now) ≡ gate_cost circuit t =
    ap (λ n. table_gates n (map plain_row c.deref-in-loop-table.result.now)) width
    ∙ ap (table_gates (length (get_or circuit.tables t no_table).inputs)) rows in
    record {
      settles = subst (λ (l : List Step). Settles first (length tables) c.draw_table.new.drawing.gates.items c.draw_table.new.drawing.nets.items l)
          (ap (λ s. map f (take i order) ++ s ∷ []) one ∙ sym (steps-more f order i 0 (omega arith))) made;
      count = omega (arith, c.in_ok-draw_table.ensures.count, c.loop-table.invariant.count, sum_by_more (gate_cost circuit) order i 0 (omega arith), own_gates);
      depths = λ place p.
          let zeros = replicate first 0 in
          let flat : length zeros ≡ first = length-replicate first 0 in
          let old = c.loop-table.drawing in
          let adds = c.in_ok-draw_table.ensures.deep in
          let before = slot_depths old.nets.items old.gates.items zeros in
          let own : slots_depth c.deref.result.now (map plain_row c.deref-in-loop-table.result.now)
          ≡ slots_depth (get_or lists t []) (get_or circuit.tables t no_table).rows =
          (λ j. slots_depth (read j) (rows j)) in
          let same : slots_depth c.deref.result.now (map plain_row c.deref-in-loop-table.result.now) before
          ≡ slots_depth (get_or lists t []) (get_or circuit.tables t no_table).rows before = ap (λ (f : List ℕ → ℕ). f before) own in
          let next = next-depths first circuit.tables lists order place p i (omega arith) before (greatest (gate_depths zeros old.gates.items))
          (c.loop-table.invariant.depths place p) in
          subst (λ d. DepthsTo first circuit.tables lists place (i + 1) d (greatest (gate_depths zeros c.draw_table.new.drawing.gates.items)))
          (sym (adds.deep zeros flat ∙ ap (set before (first + t)) same))
          (subst (λ m. DepthsTo first circuit.tables lists place (i + 1)
          (set before (first + t) (slots_depth (get_or lists t []) (get_or circuit.tables t no_table).rows before)) m)
          (sym (adds.top zeros flat ∙ ap (max (greatest (gate_depths zeros old.gates.items))) same)) next);
      few = next-made circuit order i (length c.loop-table.drawing.gates.items) (length c.draw_table.new.drawing.gates.items) (omega arith)
          c.loop-table.invariant.few (omega (arith, c.in_ok-draw_table.ensures.few, ap table_nets rows));
    }

pub loop-table-init : goal.loop-table-init
loop-table-init c =
    let circuit = plain_circuit c.args.blif.now in
    let first = c.args.resolved.now.first in
    let tables = c.args.blif.now.tables.items in
    let gates = c.in_ok-drawing.drawing.gates.items in
    let nets = c.in_ok-drawing.drawing.nets.items in
    let e = c.in_ok-drawing.ensures in
    let count : c.len.result ≡ length tables = search rules in
    record {
      settles = subst (λ n. Settles first n gates nets []) count e.settles;
      count = e.one;
      depths = λ place p. no-depths first circuit.tables (map (λ (s : Vec ℕ Global). s.items) c.args.resolved.now.reads.items) place gates nets
          (subst (λ n. BeginsFlat first n gates nets) (count ∙ sym (length-map tables plain_table)) e.deep);
      few = omega (arith, e.one);
    }

pub returns-clause-deep : goal.returns-clause-deep
returns-clause-deep c =
    let circuit = plain_circuit c.args.blif.now in
    let sound = described-sound c.requires.described.0 circuit c.requires.described.1 in
    let resolved = c.args.resolved.now in
    let order = c.args.order.now in
    let reads : List (List ℕ) = map (λ (s : Vec ℕ Global). s.items) resolved.reads.items in
    let drawing = c.loop-table.drawing in
    let all : c.loop-table.table-index ≡ length order = omega arith in
    drawn-depth circuit sound order c.requires.order resolved.first reads c.requires.resolved.first_is c.requires.resolved.reads_are
    drawing.gates.items drawing.nets.items
    (λ place p. subst (λ n. DepthsTo resolved.first circuit.tables reads place n
    (slot_depths drawing.nets.items drawing.gates.items (replicate resolved.first 0)) (greatest (gate_depths (replicate resolved.first 0) drawing.gates.items)))
    all (c.loop-table.invariant.depths place p))

pub returns-clause-settles : goal.returns-clause-settles
returns-clause-settles c =
    let circuit = plain_circuit c.args.blif.now in
    let sound = described-sound c.requires.described.0 circuit c.requires.described.1 in
    let resolved = c.args.resolved.now in
    let order = c.args.order.now in
    let tables = c.args.blif.now.tables.items in
    let reads : List (List ℕ) = map (λ (s : Vec ℕ Global). s.items) resolved.reads.items in
    let a = length-map tables plain_table in
    let b = length-map circuit.tables equation_of in
    let count : length tables ≡ length (equations_of circuit) = omega (arith, a, b) in
    let all : take c.loop-table.table-index order ≡ order = take_all c.loop-table.table-index order (omega arith) in
    let nodes : All (λ k. k < length circuit.tables) order = λ k d low.
    let inside = c.requires.order.against.nodes k d low in
    omega (arith, inside, c.requires.order.each_node, b) in
    let steps : map (drawn_step circuit.tables resolved.first reads) (take c.loop-table.table-index order)
    ≡ ordered_steps (given_names circuit) (equations_of circuit) order =
    ap (map (drawn_step circuit.tables resolved.first reads)) all
    ∙ ap (λ f. map (drawn_step circuit.tables f reads) order) c.requires.resolved.first_is
    ∙ ap (λ rs. map (drawn_step circuit.tables (length (given_names circuit)) rs) order) c.requires.resolved.reads_are
    ∙ table-steps circuit sound order (recursion_from_All (λ k. k < length circuit.tables) order nodes) in
    settles-as resolved.first (length (given_names circuit)) (length tables) (length (equations_of circuit)) c.loop-table.drawing.gates.items
    c.loop-table.drawing.nets.items _ _ c.requires.resolved.first_is count steps c.loop-table.invariant.settles

pub returns-clause-count : goal.returns-clause-count
returns-clause-count c =
    let circuit = plain_circuit c.args.blif.now in
    let order = c.args.order.now in
    let all : take c.loop-table.table-index order ≡ order = take_all c.loop-table.table-index order (omega arith) in
    c.loop-table.invariant.count ∙ ap (λ l. 1 + sum_by (gate_cost circuit) l) all ∙ order-gates circuit _ order c.requires.order

pub first_drawing-requires-clause-few : goal.first_drawing-requires-clause-few
first_drawing-requires-clause-few c = omega (arith, c.requires.resolved.first_is, given-few (plain_circuit c.args.blif.now) c.requires.few)

pub draw_table-requires-clause-room : goal.draw_table-requires-clause-room
draw_table-requires-clause-room c =
    let circuit = plain_circuit c.args.blif.now in
    let tables = c.args.blif.now.tables.items in
    let order = c.args.order.now in
    let i = c.loop-table.table-index in
    let t = get_or order i 0 in
    let node : t < length circuit.tables =
    omega (arith, c.requires.order.against.nodes i 0 (omega arith), c.requires.order.each_node, length-map circuit.tables equation_of) in
    let rows = table-rows tables t c.deref-in-loop-table.result.now c.index-in-loop-table.result.now (omega (arith, node, length-map tables plain_table))
    c.deref-in-loop-table.ensures.value c.index-in-loop-table.ensures in
    let room = next-room circuit _ order i (length c.loop-table.drawing.gates.items) c.requires.order c.requires.few (omega arith) c.loop-table.invariant.few in
    omega (arith, room, ap table_nets rows, c.requires.resolved.first_is)
