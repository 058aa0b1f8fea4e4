-- What the graph of a program gives to its runner.
use Rattle.std.proofs.Common.{◌≡◌, ◌<◌, false, List, length, slice_index_or, All, sym, ap, ◌∙◌, subst, arith}
use Rattle.std.proofs.lemmas.List.{get_or_default}
use Rattle.est_kernel.specs.Plain.{Program}
use Rattle.grc_graph.specs.declared.formulas.Formula.{Formula}
use Rattle.grc_graph.specs.declared.formulas.Formula.TheVariants as variants
use Rattle.grc_graph.specs.declared.graph.Graph.{Graph}
use Rattle.grc_graph.specs.BuiltGraphs.{IsGraphOf}
use Rattle.grc_graph.specs.Equations.{Equation}
use Rattle.grc_graph.specs.Formulas as plain
use Rattle.grc_graph.specs.GraphRuns.{PlainGraph, graph_of}
use Rattle.grc_graph.specs.Instances.{Instance}
use Rattle.grc_graph.specs.Layers.{Resumed}
use Rattle.grc_graph.specs.PlainGraphs.{formula_of, instances_of, names_of, plain_graph}
use Rattle.grc_graph.specs.Reads.{ReadsOnly}
use Rattle.grc_graph.specs.Wires.{Wire, Go}
use Rattle.grc_graph.specs.Selected.{HasExitCodes}
use Rattle.grc_evaluate.specs.Evaluations.{IsKnown}
use Rattle.grc_solutions.specs.GraphWires.{Differ, ReadsAreEdges, WiresDiffer}
use Rattle.grc_ternary_run.specs.Systems.{equation_at}
use Rattle.grc_ternary_run.proofs.Naming.{formula-of-equation, many-equations}

-- a formula that reads wires alone has no word of the next state
plain-known : (P : Wire → Type 0) (f : Formula) (insts : List Instance) (names : List Wire) → ReadsOnly P (formula_of insts names f) → IsKnown ⊥ f
plain-known P (variants.Const b) insts names reads = tt
plain-known P variants.Boot insts names reads = tt
plain-known P (variants.Input x) insts names reads = tt
plain-known P (variants.Wire v) insts names reads = tt
plain-known P (variants.Selected n) insts names reads = tt
plain-known P (variants.Upto i k) insts names reads = tt
plain-known P (variants.Kept i) insts names reads = reads
plain-known P (variants.Held i) insts names reads = reads
plain-known P (variants.Not' x f) insts names reads = plain-known P f insts names reads
plain-known P (variants.And' x f y h) insts names reads = (plain-known P f insts names reads.0, plain-known P h insts names reads.1)
plain-known P (variants.Or' x f y h) insts names reads = (plain-known P f insts names reads.0, plain-known P h insts names reads.1)
plain-known P (variants.AnyOf v) insts names reads = tt

-- no two wires of a program's graph are the same
pub wires-differ : (g : Graph) (p : Program) → WiresDiffer → HasExitCodes p.body → IsGraphOf g p → Differ (names_of g)
wires-differ g p law kernel is = subst Differ (sym is.wires) (law p kernel).1

-- no equation of a program's graph has a word of the next state
pub equations-plain : (g : Graph) (p : Program) → ReadsAreEdges → HasExitCodes p.body → IsGraphOf g p → All (λ f. IsKnown ⊥ f) g.equations.items
equations-plain g p law kernel is k d low =
    let d2 : Equation = record { wire = Go 0 Resumed; formula = plain.Boot } in
    let all = g.indices.equations_all in
    let many = many-equations g in
    let under : k < length (plain_graph g).equations = omega arith in
    let here : k < length (graph_of p).equations = subst (λ (P : PlainGraph). k < length P.equations) is.graph under in
    let reads = law p kernel k d2 here in
    let e = slice_index_or (graph_of p).equations k d2 in
    let at : e.formula ≡ formula_of (instances_of g) (names_of g) (equation_at g k) =
    ap (λ (P : PlainGraph). (slice_index_or P.equations k d2).formula) (sym is.graph) ∙ formula-of-equation g k d2 under in
    let known = plain-known _ (equation_at g k) (instances_of g) (names_of g) (subst (ReadsOnly _) at reads) in
    subst (IsKnown ⊥) (get_or_default g.equations.items k (variants.Const false) d low) known
