-- Written by hand, with values of the reference implementation: a worked program and its lines. The values are those of the reference implementation.
use Rattle.std.proofs.Common.{◌≡◌, true, false, List, [], ◌∷◌, map, codes, refl}
use Rattle.base_types.specs.Items.{Item, Event, Reset}
use Rattle.base_types.specs.Names.{is_same_name}
use Rattle.csub_text.specs.Trees.{Expr, Exprs, Name, Not, And, Or, NoExprs, MoreExprs, Program}
use Rattle.csub_text.specs.Machine.{first_memory, program_machine, run}
use Rattle.base_machines.specs.Machines.{Shows}
use Rattle.csub_run.specs.ProgramAnswers.{answer_seen, bare_inputs, bare_outputs, call_answer, program_shows}
use Rattle.run_trace_io.specs.declared.lines.Word.TheVariants.{Paused}
use Rattle.run_over_traces.specs.Machines.{ShownAnswer, answer_lines}

abbrev two : Expr → Expr → Exprs
two a b = MoreExprs a (MoreExprs b NoExprs)

-- O_A = I_A | O_Y; O_Y = I_B & !k; k = I_B; return O_A;
abbrev signs : Program
signs = record {
  states = record { name = codes "k"; init = true } ∷ [];
  globals = codes "O_Y" ∷ codes "I_B" ∷ codes "I_A" ∷ codes "O_A" ∷ [];
  locals = [];
  body = record { target = codes "O_A"; value = Or (two (Name (codes "I_A")) (Name (codes "O_Y"))) }
      ∷ record { target = codes "O_Y"; value = And (two (Name (codes "I_B")) (Not (Name (codes "k")))) }
      ∷ record { target = codes "k"; value = Name (codes "I_B") } ∷ [];
  answer = Name (codes "O_A");
}

-- B; B; A B; ; A B; !reset; B; ;
abbrev items : List Item
items = Event (true ∷ false ∷ []) ∷ Event (true ∷ false ∷ []) ∷ Event (true ∷ true ∷ []) ∷ Event (false ∷ false ∷ []) ∷ Event (true ∷ true ∷ []) ∷ Reset
    ∷ Event (true ∷ false ∷ []) ∷ Event (false ∷ false ∷ []) ∷ []

inputs_in_order : bare_inputs signs ≡ codes "B" ∷ codes "A" ∷ []
inputs_in_order = refl

outputs_in_order : bare_outputs signs ≡ codes "Y" ∷ codes "A" ∷ []
outputs_in_order = refl

lines : answer_lines (bare_outputs signs) (map answer_seen (run signs items)) ≡ codes "- | ended\n- | ended\nA | paused\n- | ended\nY A | paused\n- | ended\n- | ended\n"
lines = refl

-- behind a call that left these values
of_a_memory : call_answer signs (is_same_name (codes "O_A")) ≡ record { present = false ∷ true ∷ []; word = Paused }
of_a_memory = refl

what_is_shown_over_items : (p : Program) (items : List Item) (answers : List ShownAnswer) → program_shows p items answers
    → Shows (program_machine p) (call_answer p) (first_memory p.states) items answers
what_is_shown_over_items p items answers h = h
