-- The shared wires of a program by number, from the least member of each wire.
use Rattle.std.proofs.Common.{◌≡◌, ◌≢◌, ℕ, ◌<◌, List, length, map, get_or, sym, ap, ◌∙◌, subst, ⊎_elim, arith}
use Rattle.std.specs.Prelude.{All, slice_index}
use Rattle.std.proofs.lemmas.Bool.{cases_order}
use Rattle.std.proofs.lemmas.List.{get_or-map, length-map}
use Rattle.std.proofs.lemmas.List.Elements.{All-get_or}
use Rattle.std.proofs.lemmas.List.Kept.{AllPairs-filter}
use Rattle.base_types.specs.declared.indices.WireId.{WireId}
use Rattle.est_kernel.specs.Plain.{Program, interface_count, program_of}
use Rattle.est_kernel.specs.WellFormed.{IsKernel, KeepsLimits}
use Rattle.est_kernel.proofs.Exports.{trees_are_kernels_lem}
use Rattle.grc_graph.specs.declared.graph.Graph.{Graph}
use Rattle.grc_graph.specs.BuiltGraphs.{IsGraphOf}
use Rattle.grc_graph.specs.GraphRuns.{program_wires}
use Rattle.grc_graph.specs.Layers.{Resumed, body_liveness}
use Rattle.grc_graph.specs.PlainGraphs.{instances_of, names_of, wire_at, wire_of}
use Rattle.grc_graph.specs.Rows.{program_rows}
use Rattle.grc_graph.specs.Scopes.{program_scope}
use Rattle.grc_graph.specs.Selected.{HasExitCodes}
use Rattle.grc_graph.specs.Statements.{Body}
use Rattle.grc_graph.specs.Wires.{Wire, Go, same_wire}
use Rattle.grc_graph.proofs.Exports.{length-program_rows, program_kernel, row_read, stands_whole}
use Rattle.grc_solutions.specs.GraphWires.{Differ}
use Rattle.grc_solutions.proofs.Exports.{wires_differ_lem}
use Rattle.grc_share.specs.LeastMembers.{AreLeastWires, Settled, leaders}
use Rattle.grc_share.specs.SharedInstances.{body_sharing}
use Rattle.grc_share.specs.SharedNumbers.{AreSharedWires}
use Rattle.grc_share.specs.SharedWires.{shared_wire, shared_wires}
use Rattle.grc_share.proofs.Leaders.{Apart, leaders-all, leaders-named, leaders-settled}
use Rattle.grc_share.proofs.WireMembers.{wire-twice}

-- the exits of a program's body have codes that fit
pub body_codes : (p : Program) → IsKernel p.body → KeepsLimits p.body → HasExitCodes p.body
body_codes p kernel limits =
    let r = row_read (program_rows p) (body_liveness p.body) (program_scope p.inputs (interface_count p)) Body p.body 0 (stands_whole (program_rows p)) in
    subst HasExitCodes (ap (λ x. x.statement) r.same) (program_kernel p 0 kernel limits (omega (arith, r.within, length-program_rows p)))

-- no two places of wires that differ have one wire
differ-apart : (names : List Wire) → Differ names → Apart names
differ-apart names h i j l m e =
    ⊎_elim (λ q. q) (λ d. ⊎_elim (λ a. absurd (h i j (Go 0 Resumed) a m e)) (λ a. absurd (h j i (Go 0 Resumed) a l (sym e))) d) (cases_order i j)

module _ (p : Program) (kernel : IsKernel p.body) (limits : KeepsLimits p.body) where
  differ : Differ (program_wires p)
  differ = (wires_differ_lem p (body_codes p kernel limits)).1

  wires-apart : Apart (program_wires p)
  wires-apart = differ-apart (program_wires p) differ

  pub shared-differ : Differ (shared_wires p)
  shared-differ = AllPairs-filter (λ u w. u ≢ w) (λ w. same_wire (shared_wire (body_sharing p.body) w) w) (program_wires p) differ

  pub shared-apart : Apart (shared_wires p)
  shared-apart = differ-apart (shared_wires p) shared-differ

  pub members-settled : (members : List WireId) → length members ≡ length (program_wires p)
      → AreLeastWires (body_sharing p.body) (program_wires p) members → Settled members
  members-settled members e h =
      leaders-settled (program_wires p) (shared_wire (body_sharing p.body)) wires-apart members e (wire-twice (body_sharing p.body)) h

  pub are-shared : (members least : List WireId) (numbers : List ℕ) → length members ≡ length (program_wires p)
      → AreLeastWires (body_sharing p.body) (program_wires p) members
      → least ≡ leaders 0 members
      → length numbers ≡ length members
      → All (λ k. k < length least) numbers
      → ((w : ℕ) (d : WireId) → w < length members → get_or least (slice_index numbers w) d ≡ get_or members w d)
      → AreSharedWires p least numbers
  are-shared members least numbers e are is each within same = record {
    least_members = names;
    least_within = subst (λ (l : List WireId). All (λ w. w.0 < length (program_wires p)) l) (sym is)
        (leaders-all (λ w. w.0 < length (program_wires p)) 0 members (λ w d l. (are w d l).within));
    each_wire = each ∙ e;
    within = within;
    named = λ w l.
        let low : w < length members = omega (arith, l, e) in
        let d : WireId = record { 0 = 0 } in
        let k = slice_index numbers w in
        let fits : k < length least = All-get_or (λ k. k < length least) numbers w 0 (omega (arith, low, each)) within in
        ap (λ ns. wire_at ns k) (sym names)
        ∙ get_or-map (λ (v : WireId). wire_at (program_wires p) v.0) least k d (Go 0 Resumed) fits
        ∙ ap (λ (v : WireId). wire_at (program_wires p) v.0) (same w d low) ∙ (are w d low).same _;
  }
    where
      names : map (λ (w : WireId). wire_at (program_wires p) w.0) least ≡ shared_wires p
      names =
          ap (map (λ (w : WireId). wire_at (program_wires p) w.0)) is
          ∙ leaders-named (program_wires p) (shared_wire (body_sharing p.body)) wires-apart members e are

-- ---- of a graph

module _ (g : Graph) (built : IsGraphOf g (program_of g.program)) (members : List WireId) (each : length members ≡ length g.wires.items)
    (are : AreLeastWires (body_sharing (program_of g.program).body) (names_of g) members) where
  p : Program
  p = program_of g.program

  long : length members ≡ length (program_wires (program_of g.program))
  long = each ∙ sym (length-map g.wires.items (wire_of (instances_of g))) ∙ ap length built.wires

  least : AreLeastWires (body_sharing (program_of g.program).body) (program_wires (program_of g.program)) members
  least = subst (λ (ns : List Wire). AreLeastWires (body_sharing (program_of g.program).body) ns members) built.wires are

  pub graph-settled : Settled members
  graph-settled = members-settled (program_of g.program) (trees_are_kernels_lem g.program.body) g.laid_out.formed.body members long least

  pub graph-within : All (λ w. w.0 < length members) members
  graph-within = λ w d l. omega (arith, (least w d l).within, long)

  pub graph-shared : (first : List WireId) (numbers : List ℕ) → first ≡ leaders 0 members → length numbers ≡ length members
      → All (λ k. k < length first) numbers
      → ((w : ℕ) (d : WireId) → w < length members → get_or first (slice_index numbers w) d ≡ get_or members w d)
      → AreSharedWires (program_of g.program) first numbers
  graph-shared first numbers = are-shared (program_of g.program) (trees_are_kernels_lem g.program.body) g.laid_out.formed.body members first numbers long least

-- no two wires of a graph have one name
pub graph-apart : (g : Graph) → IsGraphOf g (program_of g.program) → Apart (names_of g)
graph-apart g built =
    subst Apart (sym built.wires) (wires-apart (program_of g.program) (trees_are_kernels_lem g.program.body) g.laid_out.formed.body)
