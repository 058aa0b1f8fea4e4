-- Contract: what a graph keeps: each index is in range.
use Rattle.std.specs.Prelude.{◌≡◌, ℕ, Bool, true, ◌&&◌, nat_lt, List, length, All, IsTrue}
use Rattle.std.specs.List.{list_all}
use Rattle.grc_graph.specs.declared.formulas.Formula.{Formula}
use Rattle.grc_graph.specs.declared.formulas.Formula.TheVariants as formulas
use Rattle.grc_graph.specs.declared.wires.Wire.{Wire}
use Rattle.grc_graph.specs.declared.wires.Wire.TheVariants as wires
use Rattle.grc_graph.specs.declared.wires.Node.{Node}
use Rattle.grc_graph.specs.declared.wires.Node.TheVariants as nodes

-- the instances of a wire are among so many
abbrev pub wire_fits : ℕ → Wire → Bool
wire_fits insts (wires.Go i) = nat_lt i.0 insts
wire_fits insts (wires.End i k) = nat_lt i.0 insts
wire_fits insts (wires.Local i) = nat_lt i.0 insts
wire_fits insts (wires.Out s) = true

-- the instances and wires of a formula are among so many
abbrev pub formula_fits : (insts wires : ℕ) → Formula → Bool
formula_fits insts n (formulas.Const b) = true
formula_fits insts n formulas.Boot = true
formula_fits insts n (formulas.Input s) = true
formula_fits insts n (formulas.Wire w) = nat_lt w.0 n
formula_fits insts n (formulas.Selected p) = true
formula_fits insts n (formulas.Upto i k) = nat_lt i.0 insts
formula_fits insts n (formulas.Kept i) = nat_lt i.0 insts
formula_fits insts n (formulas.Held i) = nat_lt i.0 insts
formula_fits insts n (formulas.Not' _ a) = formula_fits insts n a
formula_fits insts n (formulas.And' _ a _ b) = formula_fits insts n a && formula_fits insts n b
formula_fits insts n (formulas.Or' _ a _ b) = formula_fits insts n a && formula_fits insts n b
formula_fits insts n (formulas.AnyOf v) = list_all (λ w. nat_lt w.0 n) v.items

-- the instances and wires of a node are among so many
abbrev pub node_fits : (insts wires : ℕ) → Node → Bool
node_fits insts n (nodes.Fork i j) = nat_lt i.0 insts && nat_lt j.0 insts
node_fits insts n (nodes.Sync i) = nat_lt i.0 insts
node_fits insts n (nodes.Switch i) = nat_lt i.0 insts
node_fits insts n (nodes.Test i) = nat_lt i.0 insts
node_fits insts n (nodes.Enter i) = nat_lt i.0 insts
node_fits insts n (nodes.Emit i w) = nat_lt i.0 insts && nat_lt w.0 n
node_fits insts n (nodes.Define i w) = nat_lt i.0 insts && nat_lt w.0 n
node_fits insts n (nodes.Exit i k) = nat_lt i.0 insts
node_fits insts n (nodes.Through i) = nat_lt i.0 insts

-- a graph with these lists has a node per instance and an equation per wire, and each index in it is in range
pub record IndicesFit (insts : ℕ) (wires : List Wire) (nodes : List Node) (equations next : List Formula) : Type 0 where
  pub nodes_all : length nodes ≡ insts
  pub equations_all : length equations ≡ length wires
  pub wires_fit : All (λ w. IsTrue (wire_fits insts w)) wires
  pub nodes_fit : All (λ x. IsTrue (node_fits insts (length wires) x)) nodes
  pub equations_fit : All (λ f. IsTrue (formula_fits insts (length wires) f)) equations
  pub next_fit : All (λ f. IsTrue (formula_fits insts (length wires) f)) next
