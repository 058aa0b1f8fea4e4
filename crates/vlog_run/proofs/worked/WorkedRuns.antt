-- Written by hand, with values of the reference implementation: worked modules: their valuations over items, their lines, and a combinational cycle.
-- The values are those of the reference implementation.
use Rattle.std.proofs.Common.{◌≡◌, ℕ, ◌+◌, ◌<◌, zero, suc, Bool, true, false, List, [], ◌∷◌, map, codes, refl, arith}
use Rattle.base_types.specs.Items.{Item, Event, Reset}
use Rattle.net_expressions.specs.Trees.{Expr, Exprs, Name, Const, Not, And, Or, NoExprs, MoreExprs}
use Rattle.base_machines.specs.Machines.{IsRun, Shows}
use Rattle.net_ir.proofs.Exports.{looked_up}
use Rattle.run_over_traces.specs.Machines.{ShownAnswer, answer_lines}
use Rattle.vlog_text.specs.Machine.{initial_registers, vlog_machine}
use Rattle.vlog_text.specs.Texts.{Describes}
use Rattle.vlog_text.specs.Trees.{VerilogModule}
use Rattle.run_steps.specs.Equations.{NeedsName, name_at}
use Rattle.vlog_run.specs.Loops.{IsDescribed, IsLoop, equation_of, equations_of}
use Rattle.vlog_run.specs.ModuleAnswers.{bare_inputs, bare_outputs, module_answer, module_shows, tells_pause}

abbrev two : Expr → Expr → Exprs
two a b = MoreExprs a (MoreExprs b NoExprs)

-- assign g0 = i_A & s0; assign g1 = ~g0; assign o_O = g0; assign paused = s0; s0, at first 0, gets g1
abbrev toggle : VerilogModule
toggle = record {
  name = codes "m_T";
  inputs = codes "clk" ∷ codes "i_A" ∷ [];
  outputs = codes "o_O" ∷ codes "paused" ∷ [];
  registers = record { name = codes "s0"; init = false; from = codes "g1" } ∷ [];
  wires = codes "g0" ∷ codes "g1" ∷ [];
  assigns = record { target = codes "g0"; value = And (two (Name (codes "i_A")) (Name (codes "s0"))) }
      ∷ record { target = codes "g1"; value = Not (Name (codes "g0")) } ∷ record { target = codes "o_O"; value = Name (codes "g0") }
      ∷ record { target = codes "paused"; value = Name (codes "s0") } ∷ [];
}

abbrev toggle_names : List (List ℕ)
toggle_names = codes "i_A" ∷ codes "s0" ∷ codes "g0" ∷ codes "g1" ∷ codes "o_O" ∷ codes "paused" ∷ []

abbrev toggle_items : List Item
toggle_items = Event (true ∷ []) ∷ Event (true ∷ []) ∷ Event (true ∷ []) ∷ Reset ∷ Event (true ∷ []) ∷ Event (true ∷ []) ∷ Event (false ∷ []) ∷ []

abbrev toggle_values : List (List Bool)
toggle_values = (true ∷ false ∷ false ∷ true ∷ false ∷ false ∷ []) ∷ (true ∷ true ∷ true ∷ false ∷ true ∷ true ∷ [])
    ∷ (true ∷ false ∷ false ∷ true ∷ false ∷ false ∷ []) ∷ (true ∷ false ∷ false ∷ true ∷ false ∷ false ∷ [])
    ∷ (true ∷ true ∷ true ∷ false ∷ true ∷ true ∷ []) ∷ (false ∷ false ∷ false ∷ true ∷ false ∷ false ∷ []) ∷ []

toggle_inputs : bare_inputs toggle ≡ codes "A" ∷ []
toggle_inputs = refl

toggle_outputs : bare_outputs toggle ≡ codes "O" ∷ []
toggle_outputs = refl

toggle_runs : IsRun (vlog_machine toggle) toggle_items (map (looked_up toggle_names) toggle_values)
toggle_runs = (
  record { inputs_given = refl; registers_kept = refl; assigns_met = (refl, (refl, (refl, (refl, tt)))) },
  (
    record { inputs_given = refl; registers_kept = refl; assigns_met = (refl, (refl, (refl, (refl, tt)))) },
    (
      record { inputs_given = refl; registers_kept = refl; assigns_met = (refl, (refl, (refl, (refl, tt)))) },
      (
        record { inputs_given = refl; registers_kept = refl; assigns_met = (refl, (refl, (refl, (refl, tt)))) },
        (
          record { inputs_given = refl; registers_kept = refl; assigns_met = (refl, (refl, (refl, (refl, tt)))) },
          (
            record { inputs_given = refl; registers_kept = refl; assigns_met = (refl, (refl, (refl, (refl, tt)))) },
            tt,
          ),
        ),
      ),
    ),
  ),
)

toggle_lines : answer_lines (bare_outputs toggle) (map (module_answer toggle) (map (looked_up toggle_names) toggle_values))
    ≡ codes "- | ended\nO | paused\n- | ended\n- | ended\nO | paused\n- | ended\n"
toggle_lines = refl

-- assign o_Z = w | ~(i_A & p); assign w = q & ~i_B & (p | 1'b0); assign o_Y = ~~p; p, at first 1, gets o_Z; q, at first
-- 0, gets p
abbrev turned : VerilogModule
turned = record {
  name = codes "turn";
  inputs = codes "tick" ∷ codes "i_B" ∷ codes "i_A" ∷ [];
  outputs = codes "o_Z" ∷ codes "o_Y" ∷ [];
  registers = record { name = codes "p"; init = true; from = codes "o_Z" } ∷ record { name = codes "q"; init = false; from = codes "p" } ∷ [];
  wires = codes "w" ∷ [];
  assigns = record { target = codes "o_Z"; value = Or (two (Name (codes "w")) (Not (And (two (Name (codes "i_A")) (Name (codes "p")))))) }
      ∷ record {
        target = codes "w";
        value = And (MoreExprs (Name (codes "q")) (two (Not (Name (codes "i_B"))) (Or (two (Name (codes "p")) (Const false)))));
      }
      ∷ record { target = codes "o_Y"; value = Not (Not (Name (codes "p"))) } ∷ [];
}

abbrev turned_names : List (List ℕ)
turned_names = codes "i_B" ∷ codes "i_A" ∷ codes "p" ∷ codes "q" ∷ codes "o_Z" ∷ codes "w" ∷ codes "o_Y" ∷ []

abbrev turned_items : List Item
turned_items = Event (false ∷ false ∷ []) ∷ Event (true ∷ true ∷ []) ∷ Event (false ∷ true ∷ []) ∷ Event (false ∷ true ∷ []) ∷ Reset
    ∷ Event (true ∷ true ∷ []) ∷ Event (false ∷ true ∷ []) ∷ []

abbrev turned_values : List (List Bool)
turned_values = (false ∷ false ∷ true ∷ false ∷ true ∷ false ∷ true ∷ []) ∷ (true ∷ true ∷ true ∷ true ∷ false ∷ false ∷ true ∷ [])
    ∷ (false ∷ true ∷ false ∷ true ∷ true ∷ false ∷ false ∷ []) ∷ (false ∷ true ∷ true ∷ false ∷ false ∷ false ∷ true ∷ [])
    ∷ (true ∷ true ∷ true ∷ false ∷ false ∷ false ∷ true ∷ []) ∷ (false ∷ true ∷ false ∷ true ∷ true ∷ false ∷ false ∷ []) ∷ []

turned_inputs : bare_inputs turned ≡ codes "B" ∷ codes "A" ∷ []
turned_inputs = refl

turned_outputs : bare_outputs turned ≡ codes "Z" ∷ codes "Y" ∷ []
turned_outputs = refl

turned_runs : IsRun (vlog_machine turned) turned_items (map (looked_up turned_names) turned_values)
turned_runs = (
  record { inputs_given = refl; registers_kept = refl; assigns_met = (refl, (refl, (refl, tt))) },
  (
    record { inputs_given = refl; registers_kept = refl; assigns_met = (refl, (refl, (refl, tt))) },
    (
      record { inputs_given = refl; registers_kept = refl; assigns_met = (refl, (refl, (refl, tt))) },
      (
        record { inputs_given = refl; registers_kept = refl; assigns_met = (refl, (refl, (refl, tt))) },
        (
          record { inputs_given = refl; registers_kept = refl; assigns_met = (refl, (refl, (refl, tt))) },
          (
            record { inputs_given = refl; registers_kept = refl; assigns_met = (refl, (refl, (refl, tt))) },
            tt,
          ),
        ),
      ),
    ),
  ),
)

turned_lines : answer_lines (bare_outputs turned) (map (module_answer turned) (map (looked_up turned_names) turned_values))
    ≡ codes "Z Y\nY\nZ\nY\nY\nZ\n"
turned_lines = refl

-- assign g0 = g1; assign g1 = ~g0;
abbrev turning : VerilogModule
turning = record {
  name = codes "m_T";
  inputs = codes "clk" ∷ [];
  outputs = [];
  registers = [];
  wires = codes "g0" ∷ codes "g1" ∷ [];
  assigns = record { target = codes "g0"; value = Name (codes "g1") } ∷ record { target = codes "g1"; value = Not (Name (codes "g0")) } ∷ [];
}

turning_loop : IsLoop turning (codes "g0" ∷ codes "g1" ∷ [])
turning_loop = record {
  some_name = omega arith;
  steps = λ k h. first k h;
  closes = record {
    equation = equation_of (record { target = codes "g1"; value = Not (Name (codes "g0")) });
    stands = (1, omega arith, refl);
    drives = refl;
    reads = (0, omega arith, refl);
  };
}
  where
    first : (k : ℕ) → k + 1 < 2 → NeedsName (equations_of turning) (name_at (codes "g0" ∷ codes "g1" ∷ []) k)
        (name_at (codes "g0" ∷ codes "g1" ∷ []) (k + 1))
    first zero h = record {
      equation = equation_of (record { target = codes "g0"; value = Name (codes "g1") });
      stands = (0, omega arith, refl);
      drives = refl;
      reads = (0, omega arith, refl);
    }
    first (suc k) h = absurd (omega (arith, h))

-- ---- what tells that a module pauses, and what it shows

who_tells : map tells_pause (toggle.outputs ∷ turned.outputs ∷ [] ∷ []) ≡ true ∷ false ∷ false ∷ []
who_tells = refl

what_is_shown_over_items : (design : VerilogModule) (items : List Item) (answers : List ShownAnswer) → module_shows design items answers
    → Shows (vlog_machine design) (module_answer design) (initial_registers design) items answers
what_is_shown_over_items design items answers h = h

described : (design : VerilogModule) (text : List ℕ) → Describes text design → IsDescribed design
described design text is = (text, is)
