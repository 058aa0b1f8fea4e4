-- A worked module by hand: its net, its text, its tokens, and a run of it. And words, tokens, resets and names.
use Rattle.std.proofs.Common.{◌≡◌, ℕ, Bool, true, false, List, [], ◌∷◌, ◌++◌, map, refl, None, Some, codes}
use Rattle.std.specs.Prelude.{find}
use Rattle.base_types.specs.Items.{Event, Reset}
use Rattle.net_ir.specs.NameLists.{first_again, is_among}
use Rattle.net_ir.specs.declared.netlist.Op.TheVariants as ops
use Rattle.net_ir.specs.Netlists.{Netlist}
use Rattle.net_expressions.specs.Trees.{Name, Const, Not, And, Or, NoExprs, MoreExprs}
use Rattle.net_expressions.specs.Operators.{pair}
use Rattle.vlog_reset.specs.Faults.{outer_names, own_names}
use Rattle.vlog_reset.specs.Grammar.{expr_kinds, module_kinds}
use Rattle.vlog_reset.specs.Machine.{Edge, IsEdgeRun, Pulse, ClockStep, step_items, is_active, seen_by}
use Rattle.vlog_reset.specs.Names.{is_identifier, is_reserved}
use Rattle.vlog_reset.specs.Options.{ModuleOptions}
use Rattle.vlog_reset.specs.Tokens.{Word, Mark, Bad, kinds}
use Rattle.vlog_reset.specs.Trees.{Manner, ResetModule}
use Rattle.vlog_reset.specs.Written.{body_text, gate_word, module_text, reset_module, state_word}

-- asynchronous, active low, with first values at power-up; and the opposite
abbrev at_once : Manner
at_once = record { is_asynchronous = true; is_active_low = true; is_initialized = true }

abbrev at_edges : Manner
at_edges = record { is_asynchronous = false; is_active_low = false; is_initialized = false }

-- the module, where the names of the registers and of the wires are these
abbrev two_of : (s0 s1 g0 g1 g2 : List ℕ) → ResetModule
two_of s0 s1 g0 g1 g2 = record {
  design = record {
    name = codes "two";
    inputs = codes "clk" ∷ codes "A" ∷ codes "B" ∷ [];
    outputs = codes "O" ∷ codes "paused" ∷ [];
    registers = record { name = s0; init = true; from = g2 } ∷ record { name = s1; init = false; from = s0 } ∷ [];
    wires = g0 ∷ g1 ∷ g2 ∷ [];
    assigns = record { target = g0; value = Or (pair s0 (codes "A")) } ∷ record { target = g1; value = Not (Name g0) }
        ∷ record { target = g2; value = And (pair g1 (codes "B")) } ∷ record { target = codes "O"; value = Name g2 }
        ∷ record { target = codes "paused"; value = Name s1 } ∷ [];
  };
  reset = codes "rst_n";
  manner = at_once;
}

abbrev two : ResetModule
two = two_of (codes "state0") (codes "state1") (codes "gate0") (codes "gate1") (codes "gate2")

-- the nets are A, B, the two latches, and the three gates
two_net : Netlist
two_net = record {
  name = codes "two";
  inputs = codes "A" ∷ codes "B" ∷ [];
  outputs = record { name = codes "O"; net = record { 0 = 6 } } ∷ [];
  paused = 3;
  latches = record { init = true; from = record { 0 = 6 } } ∷ record { init = false; from = record { 0 = 2 } } ∷ [];
  gates = record { op = ops.Or (record { 0 = 2 }) (record { 0 = 0 }); wire = None } ∷ record { op = ops.Not (record { 0 = 4 }); wire = None }
      ∷ record { op = ops.And (record { 0 = 5 }) (record { 0 = 1 }); wire = None } ∷ [];
}

abbrev plain_names : ModuleOptions
plain_names = record { name = None; reset = codes "rst_n"; manner = at_once; has_prefixes = false }

the-net : reset_module plain_names two_net ≡ two_of (state_word 0) (state_word 1) (gate_word 0) (gate_word 1) (gate_word 2)
unfolding two_net
the-net = refl

the-text : module_text two ≡ codes "`default_nettype none\n"
    ++ codes "// two, by cec-opt 0.1.0: cec-opt verilog --reset. An instant is a rising edge of clk.\n"
    ++ codes "// rst_n resets it while it is low, at once; paused is whether the program is still running.\n"
    ++ codes "// verilator lint_off UNUSED\n// verilator lint_off SYMRSVDWORD\nmodule two (\n    input wire clk,\n    input wire rst_n,\n"
    ++ codes "    input wire A,\n    input wire B,\n    output wire O,\n    output wire paused\n);\n    reg state0;\n    reg state1;\n"
    ++ codes "    wire gate0;\n    wire gate1;\n    wire gate2;\n    initial state0 = 1'b1;\n    initial state1 = 1'b0;\n"
    ++ codes "    assign gate0 = state0 | A;\n    assign gate1 = ~gate0;\n    assign gate2 = gate1 & B;\n    assign O = gate2;\n"
    ++ codes "    assign paused = state1;\n    always @(posedge clk or negedge rst_n)\n        if (!rst_n) begin\n"
    ++ codes "            state0 <= 1'b1;\n            state1 <= 1'b0;\n        end else begin\n            state0 <= gate2;\n"
    ++ codes "            state1 <= state0;\n        end\nendmodule\n\n`default_nettype wire\n"
the-text = refl

the-tokens : kinds (body_text two) ≡ module_kinds two
the-tokens = refl

-- the same with the opposite manner, and other names
abbrev other : ResetModule
other = record two { manner = at_edges; reset = codes "rst" }

other-tokens : kinds (body_text other) ≡ module_kinds other
other-tokens = refl

other-always : kinds (codes "always @(posedge clk)\n if (rst) begin")
    ≡ Word (codes "always") ∷ Mark (codes "@") ∷ Mark (codes "(") ∷ Word (codes "posedge") ∷ Word (codes "clk") ∷ Mark (codes ")") ∷ Word (codes "if")
    ∷ Mark (codes "(") ∷ Word (codes "rst") ∷ Mark (codes ")") ∷ Word (codes "begin") ∷ []
other-always = refl

-- ---- names

abbrev other_names : ModuleOptions
other_names = record { name = Some (codes "top"); reset = codes "rst"; manner = at_edges; has_prefixes = true }

with-prefixes : outer_names other_names two_net
    ≡ codes "top" ∷ codes "rst" ∷ codes "i_A" ∷ codes "i_B" ∷ codes "o_O" ∷ codes "paused" ∷ []
unfolding two_net
with-prefixes = refl

without : outer_names plain_names two_net ≡ codes "two" ∷ codes "rst_n" ∷ codes "A" ∷ codes "B" ∷ codes "O" ∷ codes "paused" ∷ []
unfolding two_net
without = refl

own : own_names two_net ≡ codes "clk" ∷ state_word 0 ∷ state_word 1 ∷ gate_word 0 ∷ gate_word 1 ∷ gate_word 2 ∷ []
unfolding two_net
own = refl

-- a reset with the name of an input, an input that is the clock, an output that is a register, and no name twice
reset-again : first_again (codes "clk" ∷ []) (codes "m" ∷ codes "A" ∷ codes "A" ∷ []) ≡ Some (codes "A")
reset-again = refl

clock-again : first_again (codes "clk" ∷ []) (codes "m" ∷ codes "r" ∷ codes "clk" ∷ codes "A" ∷ codes "A" ∷ []) ≡ Some (codes "clk")
clock-again = refl

register-again : first_again (codes "clk" ∷ codes "state0" ∷ []) (codes "m" ∷ codes "r" ∷ codes "state0" ∷ []) ≡ Some (codes "state0")
register-again = refl

none-again : first_again (codes "clk" ∷ []) (codes "m" ∷ codes "r" ∷ codes "A" ∷ codes "B" ∷ []) ≡ None
none-again = refl

-- ---- a run

-- the valuation by which these names are true, and no others
abbrev holds : List (List ℕ) → List ℕ → Bool
holds names name = is_among name names

-- A reset while A is absent and B present; then two edges with B alone, and one with A and B. The first of them clears
-- `state0` and sets `state1`, and the second one sets O, which sets `state0` again.
abbrev steps : List ClockStep
steps =
    Edge false (false ∷ true ∷ []) ∷ Edge true (false ∷ true ∷ []) ∷ Edge true (false ∷ true ∷ []) ∷ Edge true (true ∷ true ∷ []) ∷ []

abbrev valuations : List (List ℕ → Bool)
valuations =
    holds (codes "B" ∷ codes "state0" ∷ codes "gate0" ∷ []) ∷ holds (codes "B" ∷ codes "state0" ∷ codes "gate0" ∷ [])
    ∷ holds (codes "B" ∷ codes "state1" ∷ codes "gate1" ∷ codes "gate2" ∷ codes "O" ∷ codes "paused" ∷ [])
    ∷ holds (codes "A" ∷ codes "B" ∷ codes "state0" ∷ codes "gate0" ∷ []) ∷ []

a-run : IsEdgeRun two (false ∷ true ∷ []) steps valuations
a-run = (
  record { inputs_given = refl; registers_kept = refl; assigns_met = (refl, (refl, (refl, (refl, (refl, tt))))) },
  (
    record { inputs_given = refl; registers_kept = refl; assigns_met = (refl, (refl, (refl, (refl, (refl, tt))))) },
    (
      record { inputs_given = refl; registers_kept = refl; assigns_met = (refl, (refl, (refl, (refl, (refl, tt))))) },
      (record { inputs_given = refl; registers_kept = refl; assigns_met = (refl, (refl, (refl, (refl, (refl, tt))))) }, tt),
    ),
  ),
)

the-items : step_items at_once steps ≡ Reset ∷ Event (false ∷ true ∷ []) ∷ Event (false ∷ true ∷ []) ∷ Event (true ∷ true ∷ []) ∷ []
the-items = refl

seen : seen_by (λ v. map v two.design.outputs) at_once steps valuations ≡ (false ∷ false ∷ []) ∷ (true ∷ true ∷ []) ∷ (false ∷ false ∷ []) ∷ []
seen = refl

-- a pulse is a reset of an asynchronous module alone, and the level by which a reset is active is the manner's
pulses : step_items at_once (Pulse ∷ []) ≡ Reset ∷ []
pulses = refl

no-pulses : step_items at_edges (Pulse ∷ Edge true [] ∷ Edge false [] ∷ []) ≡ Reset ∷ Event [] ∷ []
no-pulses = refl

levels : is_active at_once false ∷ is_active at_once true ∷ is_active at_edges false ∷ is_active at_edges true ∷ [] ≡ true ∷ false ∷ false ∷ true ∷ []
levels = refl

-- ---- a module with nothing

abbrev none : ResetModule
none = record {
  design = record {
    name = codes "none";
    inputs = codes "clk" ∷ codes "i_I" ∷ [];
    outputs = codes "paused" ∷ [];
    registers = [];
    wires = codes "gate0" ∷ [];
    assigns = record { target = codes "gate0"; value = Const false } ∷ record { target = codes "paused"; value = Name (codes "gate0") } ∷ [];
  };
  reset = codes "rst";
  manner = at_edges;
}

no-registers : module_text none ≡ codes "`default_nettype none\n"
    ++ codes "// none, by cec-opt 0.1.0: cec-opt verilog --reset. An instant is a rising edge of clk.\n"
    ++ codes "// rst resets it while it is high at such an edge; paused is whether the program is still running.\n"
    ++ codes "// verilator lint_off UNUSED\n// verilator lint_off SYMRSVDWORD\nmodule none (\n    input wire clk,\n    input wire rst,\n"
    ++ codes "    input wire i_I,\n    output wire paused\n);\n    wire gate0;\n    assign gate0 = 1'b0;\n    assign paused = gate0;\n"
    ++ codes "endmodule\n\n`default_nettype wire\n"
no-registers = refl

none-tokens : kinds (body_text none) ≡ module_kinds none
none-tokens = refl

-- ---- tokens

spaced : kinds (codes "a<=1'b0; // x <= y\n~(c_1)|1'b1&=@,!")
    ≡ Word (codes "a") ∷ Mark (codes "<=") ∷ Mark (codes "1'b0") ∷ Mark (codes ";") ∷ Mark (codes "~") ∷ Mark (codes "(") ∷ Word (codes "c_1")
    ∷ Mark (codes ")") ∷ Mark (codes "|") ∷ Mark (codes "1'b1") ∷ Mark (codes "&") ∷ Mark (codes "=") ∷ Mark (codes "@") ∷ Mark (codes ",")
    ∷ Mark (codes "!") ∷ []
spaced = refl

half-arrow : kinds (codes "a< =b") ≡ Word (codes "a") ∷ Bad ∷ []
half-arrow = refl

no-constant : kinds (codes "a 1'b2") ≡ Word (codes "a") ∷ Bad ∷ []
no-constant = refl

no-comment : kinds (codes "a / b") ≡ Word (codes "a") ∷ Bad ∷ []
no-comment = refl

directive : kinds (codes "a `b") ≡ Word (codes "a") ∷ Bad ∷ []
directive = refl

last-comment : kinds (codes "a // b") ≡ Word (codes "a") ∷ []
last-comment = refl

-- a part of several parts is in brackets
brackets : expr_kinds (Not (And (pair (codes "a") (codes "b")))) ≡ kinds (codes "~(a & b)")
brackets = refl

parts : expr_kinds (Or (MoreExprs (And (pair (codes "a") (codes "b"))) (MoreExprs (Const true) NoExprs))) ≡ kinds (codes "(a & b) | 1'b1")
parts = refl

-- ---- words

words-reserved : map is_reserved (codes "accept_on" ∷ codes "begin" ∷ codes "logic" ∷ codes "module" ∷ codes "reg" ∷ codes "xor" ∷ [])
    ≡ true ∷ true ∷ true ∷ true ∷ true ∷ true ∷ []
unfolding is_reserved
words-reserved = refl

words-free : map is_reserved (codes "Begin" ∷ codes "clk" ∷ codes "paused" ∷ codes "states" ∷ codes "gate0" ∷ []) ≡ false ∷ false ∷ false ∷ false ∷ false ∷ []
unfolding is_reserved
words-free = refl

words : map is_identifier (codes "_a1" ∷ codes "1a" ∷ [] ∷ codes "a$b" ∷ []) ≡ true ∷ false ∷ false ∷ false ∷ []
words = refl

no-word : find is_reserved (codes "top" ∷ codes "rst" ∷ codes "wire" ∷ codes "reg" ∷ []) ≡ Some (codes "wire")
unfolding is_reserved
no-word = refl
