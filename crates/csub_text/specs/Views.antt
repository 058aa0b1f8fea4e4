-- Contract: the plain form of a program.
use Rattle.std.specs.Prelude.{map}
use Rattle.csub_text.specs.declared.trees.State.{State as CodeState}
use Rattle.csub_text.specs.declared.trees.Assign.{Assign as CodeAssign}
use Rattle.csub_text.specs.declared.trees.CProgram.{CProgram}
use Rattle.csub_text.specs.Trees.{StateVariable, Assign, Program}
pub use Rattle.net_expressions.specs.Views.{expr_of, exprs_of}

abbrev pub state_of : CodeState → StateVariable
state_of s = record { name = s.name; init = s.init }

abbrev pub assign_of : CodeAssign → Assign
assign_of a = record { target = a.to; value = expr_of a.value }

abbrev pub program_of : CProgram → Program
program_of p = record {
  states = map state_of p.states.items;
  globals = p.globals.items;
  locals = p.locals.items;
  body = map assign_of p.body.items;
  answer = expr_of p.answer;
}
