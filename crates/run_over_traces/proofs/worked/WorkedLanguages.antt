-- Worked texts, by hand: the lines of a small net over items, and what it means that a machine is of a net, of a program, and brings lines about.
use Rattle.std.proofs.Common.{◌≡◌, ℕ, true, false, List, [], ◌∷◌, length, map, Result, codes, refl}
use Rattle.base_types.specs.Items.{Item, Event, Reset, EachEvent}
use Rattle.base_types.specs.SinkChanges.{SinkChange}
use Rattle.net_ir.specs.Netlists.{Netlist}
use Rattle.net_ir.specs.Runs.{net_run}
use Rattle.run_trace_io.specs.Answers.{beginning}
use Rattle.run_trace_io.specs.declared.lines.Word.TheVariants.{Paused}
use Rattle.run_over_traces.specs.declared.running.RunFault.{RunFault}
use Rattle.run_over_traces.specs.Languages.{RunsIn, ShowsNet, IsOfNet, IsOfProgram, shown_answer}
use Rattle.run_over_traces.specs.Machines.{ShownAnswer, Answered, Brings, PutBack, answer_lines}
use Rattle.run_over_traces.specs.Running.{RunsTrace}

-- the output O is the latch, which begins with true and gets the input, and `paused` is the input
abbrev delay : Netlist
delay = record {
  name = codes "T";
  inputs = codes "A" ∷ [];
  outputs = record { name = codes "O"; net = record { 0 = 1 } } ∷ [];
  paused = 0;
  latches = record { init = true; from = record { 0 = 0 } } ∷ [];
  gates = [];
}

lines_of_a_net : ShowsNet (codes "O" ∷ []) delay (Event (false ∷ []) ∷ Event (true ∷ []) ∷ Event (true ∷ []) ∷ Reset ∷ Event (false ∷ []) ∷ [])
    (codes "O | ended\n- | paused\nO | paused\nO | ended\n")
lines_of_a_net = refl

-- ---- a machine that shows, to as many events, answers with nothing present

abbrev still : List ShownAnswer → List ShownAnswer
still answers = map (λ answer. record { present = []; word = Paused }) answers

abbrev shows : ℕ → List Item → List ShownAnswer → Type 0
shows s items answers = answers ≡ still answers

brings_lines : Brings shows (codes "O" ∷ []) 0 (Event [] ∷ []) (codes "- | paused\n")
brings_lines = record { answers = record { present = []; word = Paused } ∷ []; shown = refl; lines = refl }

brings_no_other : (h : Brings shows (codes "O" ∷ []) 0 (Event [] ∷ []) (codes "O\n")) → (codes "O\n" ≡ answer_lines (codes "O" ∷ []) h.answers)
    × shows 0 (Event [] ∷ []) h.answers
brings_no_other h = (h.lines, h.shown)

in_front_of_what_it_shows : (answer : ShownAnswer) → Answered shows 0 [] answer 1 → shows 1 [] [] → shows 0 (Event [] ∷ []) (answer ∷ [])
in_front_of_what_it_shows answer h later = h.in_front [] [] later

put_back_so : PutBack shows 0 1 → shows 1 [] [] → shows 0 (Reset ∷ []) []
put_back_so h later = h [] [] later

of_a_net : (s : ℕ) → IsOfNet shows s delay → (items : List Item) (answers : List ShownAnswer) → EachEvent (λ event. length event ≡ 1) items
    → shows s items answers
    → answers ≡ map shown_answer (net_run delay items)
of_a_net s h items answers each shown = h.told items answers each shown

of_a_program : (s p : ℕ) → IsOfProgram shows (λ p items answers. answers ≡ []) s p → (items : List Item) (answers : List ShownAnswer) → shows s items answers
    → answers ≡ []
of_a_program s p h items answers shown = h.told items answers shown

-- ---- texts of a language whose programs are their own texts

abbrev names : List ℕ → List (List ℕ)
names program = program ∷ []

run_by_its_own_meaning : (trace : List ℕ) (s : SinkChange) (result : Result (Unit {0}) RunFault)
    (h : RunsIn (λ text program. program ≡ text) names (λ program. []) (λ program items answers. answers ≡ []) (codes "a") trace s result)
    → (h.program ≡ codes "a") × RunsTrace (Brings (λ program items answers. answers ≡ []) [] h.program) (beginning trace (names h.program) []) s result
run_by_its_own_meaning trace s result h = (h.read, h.ran)
