-- Contract: the plain form of a module.
use Rattle.std.specs.Prelude.{map}
use Rattle.net_expressions.specs.Views.{expr_of}
use Rattle.vlog_text.specs.declared.trees.Register.{Register as CodeRegister}
use Rattle.vlog_text.specs.declared.trees.Assign.{Assign as CodeAssign}
use Rattle.vlog_text.specs.declared.trees.Module.{Module as CodeModule}
use Rattle.net_expressions.specs.Trees.{Expr}
use Rattle.vlog_text.specs.Trees.{Register, Assign, VerilogModule}

abbrev pub register_of : CodeRegister → Register
register_of r = record { name = r.name; init = r.init; from = r.from }

abbrev pub assign_of : CodeAssign → Assign Expr
assign_of a = record { target = a.to; value = expr_of a.value }

abbrev pub module_of : CodeModule → VerilogModule
module_of m = record {
  name = m.name;
  inputs = m.inputs.items;
  outputs = m.outputs.items;
  registers = map register_of m.registers.items;
  wires = m.wires.items;
  assigns = map assign_of m.assigns.items;
}
