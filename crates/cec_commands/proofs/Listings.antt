-- Listings of graphs, and lines of counts.
use Rattle.std.proofs.Common.{◌≡◌, ℕ, ◌-◌, ◌^◌, List, [], ◌++◌, length, Option, sym, ap, ◌∙◌, arith}
use Rattle.std.specs.Prelude.{codes, decimal, min}
use Rattle.std.proofs.lemmas.List.{length-map}
use Rattle.est_kernel.specs.Plain.{Program, program_of}
use Rattle.est_kernel.specs.Sizes.{size_of}
use Rattle.grc_graph.specs.GraphRuns.{program_wires}
use Rattle.grc_graph.specs.Instances.{body_instances}
use Rattle.grc_graph.specs.PlainInstances.{instance_of}
use Rattle.grc_graph.specs.SelectionTrees.{body_leaves}
use Rattle.grc_list.specs.Listings.{program_listing}
use Rattle.cec_compile.specs.declared.passes.Graphed.{Graphed}
use Rattle.cec_compile.specs.Compiling.{IsGraphed, StandsForGraph}
use Rattle.cec_compile.proofs.Exports.{own_graph, own_source, graph_compiles}
use Rattle.cec_commands.specs.Answers.{StandsForListing, StandsForCounts, counts_line}

pub listing_stands : (bytes : List ℕ) (main : Option (List ℕ)) (g : Graphed) (text : List ℕ) → StandsForGraph bytes main g
    → text ≡ program_listing (program_of g.graph.program) → StandsForListing bytes main text
listing_stands bytes main g text s told =
    let own = own_graph g s.program s.graphed in
    record {
      program = program_of g.graph.program;
      source = own_source bytes main g s;
      compiles = graph_compiles g (program_of g.graph.program) own;
      listing = told;
    }

pub counts_stand : (bytes : List ℕ) (main : Option (List ℕ)) (g : Graphed) (text : List ℕ) → StandsForGraph bytes main g
    → text ≡ counts_line (program_of g.graph.program) → StandsForCounts bytes main text
counts_stand bytes main g text s told = record {
  program = program_of g.graph.program;
  source = own_source bytes main g s;
  compiles = graph_compiles g (program_of g.graph.program) (own_graph g s.program s.graphed);
  counts = told;
}

-- the counts of a graph are those of its program
pub size_counted : (g : Graphed) → IsGraphed g (program_of g.graph.program) → (n : ℕ) → n ≡ min (size_of (program_of g.graph.program).body) (2 ^ 64 - 1)
    → n ≡ size_of (program_of g.graph.program).body
size_counted g h n e = omega (arith, e, h.formed.body.size)

pub instances_counted : (g : Graphed) → IsGraphed g (program_of g.graph.program) →
    length g.graph.instances.list.items ≡ length (body_instances (program_of g.graph.program).body)
instances_counted g h = sym (length-map g.graph.instances.list.items instance_of) ∙ ap length h.graph.instances

pub counts_pieces : (p : Program) (name nodes pauses instances count : List ℕ) → name ≡ p.name → nodes ≡ decimal (size_of p.body) →
    pauses ≡ decimal (length (body_leaves p.body))
    → instances ≡ decimal (length (body_instances p.body)) → count ≡ decimal (length (program_wires p))
    → name ++ (codes ": " ++ (nodes ++ (codes " nodes, " ++ (pauses
    ++ (codes " pauses, " ++ (instances ++ (codes " instances, " ++ (count ++ (codes " wires\n" ++ [])))))))))
    ≡ counts_line p
counts_pieces p name nodes pauses instances count a b c d e = λ i.
    a i ++ (codes ": " ++ (b i ++ (codes " nodes, " ++ (c i ++ (codes " pauses, " ++ (d i ++ (codes " instances, " ++ (e i ++ (codes " wires\n" ++ [])))))))))
