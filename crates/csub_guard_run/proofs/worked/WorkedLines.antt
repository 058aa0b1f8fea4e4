-- Written by hand, with values of the reference implementation: a worked program, its lines and the line of its count. The values are those of the
-- reference implementation.
use Rattle.std.proofs.Common.{◌≡◌, true, false, List, [], ◌∷◌, ◌++◌, map, codes, refl}
use Rattle.std.specs.Prelude.{decimal}
use Rattle.base_types.specs.Items.{Item, Event, Reset}
use Rattle.csub_guard.specs.Machine.{calls}
use Rattle.csub_guard.specs.Trees.{One, If, Program}
use Rattle.csub_text.specs.Trees.{Name, Not, Const}
use Rattle.csub_guard_run.specs.ProgramAnswers.{bare_inputs, bare_outputs, call_answer, last_line}
use Rattle.run_over_traces.specs.Machines.{answer_lines}

-- i0 = I_A; if (i0) { g0 = !s; g1 = g0; } else { g1 = 0; } O_O = g1; s = i0; return i0;
abbrev edge : Program
edge = record {
  states = record { name = codes "s"; init = false } ∷ [];
  globals = codes "I_A" ∷ codes "O_O" ∷ [];
  locals = codes "i0" ∷ codes "g0" ∷ codes "g1" ∷ [];
  body = One (record { target = codes "i0"; value = Name (codes "I_A") })
      ∷ If (codes "i0")
      (record { target = codes "g0"; value = Not (Name (codes "s")) } ∷ record { target = codes "g1"; value = Name (codes "g0") } ∷ [])
      (record { target = codes "g1"; value = Const false } ∷ [])
      ∷ One (record { target = codes "O_O"; value = Name (codes "g1") })
      ∷ One (record { target = codes "s"; value = Name (codes "i0") })
      ∷ [];
  answer = Name (codes "i0");
}

-- A; A; !reset; ; A;
abbrev items : List Item
items = Event (true ∷ []) ∷ Event (true ∷ []) ∷ Reset ∷ Event (false ∷ []) ∷ Event (true ∷ []) ∷ []

names : (bare_inputs edge ≡ codes "A" ∷ []) × (bare_outputs edge ≡ codes "O" ∷ [])
names = (refl, refl)

lines : answer_lines (bare_outputs edge) (map (call_answer edge) (calls edge items)) ≡ codes "O | paused\n- | paused\n- | ended\nO | paused\n"
lines = refl

last : last_line edge items ≡ codes "assignments " ++ (decimal 19 ++ codes "\n")
last = refl
