-- What the passes above read of a program's graph.
use Rattle.std.proofs.Common.{◌≡◌, List, [], ◌∷◌, length, map, refl, sym, ap, ◌∙◌, arith}
use Rattle.std.specs.Prelude.{zip}
use Rattle.std.proofs.lemmas.List.{length-map}
use Rattle.est_kernel.specs.Plain.{Program, given_count, interface_of}
use Rattle.grc_graph.specs.declared.formulas.Formula as stored
use Rattle.grc_graph.specs.declared.graph.Graph.{Graph}
use Rattle.grc_graph.specs.BuiltGraphs.{IsGraphOf}
use Rattle.grc_graph.specs.Equations.{Equation, equations}
use Rattle.grc_graph.specs.Formulas.{Formula}
use Rattle.grc_graph.specs.GraphRuns.{program_spots}
use Rattle.grc_graph.specs.Instances.{Instance}
use Rattle.grc_graph.specs.PlainGraphs.{formula_of, instances_of, names_of, wire_of}
use Rattle.grc_graph.specs.Wires.{Wire}

abbrev pub formula_in : Equation → Formula
formula_in e = e.formula

abbrev equation_in : List Instance → List Wire → Wire × stored.Formula → Equation
equation_in insts all e = record { wire = e.0; formula = formula_of insts all e.1 }

formulas_read : (insts : List Instance) (all names : List Wire) (fs : List stored.Formula) → length fs ≡ length names
    → map formula_in (map (equation_in insts all) (zip names fs)) ≡ map (formula_of insts all) fs
formulas_read insts all [] [] e = refl
formulas_read insts all [] (f ∷ fs) e = absurd (omega (arith, e))
formulas_read insts all (u ∷ us) [] e = refl
formulas_read insts all (u ∷ us) (f ∷ fs) e = ap (λ l. formula_of insts all f ∷ l) (formulas_read insts all us fs (omega (arith, e)))

-- its formulas are those of the program's equations
pub formulas_each : (g : Graph) (p : Program) → IsGraphOf g p
    → map (formula_of (instances_of g) (names_of g)) g.equations.items
    ≡ map formula_in (equations (given_count p) (interface_of p).outgoing (program_spots p))
formulas_each g p h =
    let insts = instances_of g in
    let names = names_of g in
    let each : length g.equations.items ≡ length names = g.indices.equations_all ∙ sym (length-map g.wires.items (wire_of insts)) in
    sym (formulas_read insts names names g.equations.items each) ∙ ap (λ x. map formula_in x.equations) h.graph
