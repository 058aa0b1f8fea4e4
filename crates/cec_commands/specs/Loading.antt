-- Inner: what is counted of a machine's answers.
use Rattle.std.specs.Prelude.{◌≡◌, ℕ, zero, suc, ◌+◌, ◌≤◌, Bool, List, [], ◌∷◌, None, map, count_by, codes, decimal}
use Rattle.std.specs.List.{concat}
use Rattle.base_types.specs.Draws.{state_after}
use Rattle.base_types.specs.Items.{Item}
use Rattle.net_ir.specs.Netlists.{Netlist}
use Rattle.net_ir.specs.Runs.{net_run}
use Rattle.run_trace_io.specs.declared.lines.Word.{Word}
use Rattle.run_trace_io.specs.declared.lines.Word.TheVariants.{Paused, Ended, Bare}
use Rattle.run_over_traces.specs.Machines.{ShownAnswer, Answered}
use Rattle.run_over_traces.specs.Steps.{Led}
use Rattle.run_over_traces.specs.Languages.{shown_answer}
use Rattle.est_front.specs.Sources.{StandsFor}
use Rattle.est_kernel.specs.Plain.{Program}
use Rattle.est_gen_laws.specs.Laws.{HasDrawnInterface}
use Rattle.cec_commands.specs.declared.commands.load.Counts.{Counts}

-- each program that a source stands for has the interface of a generated one
abbrev pub IsDrawn : List ℕ → Type 0
IsDrawn source = (p : Program) → StandsFor source None p → HasDrawnInterface p

-- how many outgoing signals are present in some instants
abbrev pub present_count : List ShownAnswer → ℕ
present_count [] = 0
present_count (a ∷ answers) = count_by (λ b. b) a.present + present_count answers

-- one for a program that is paused
abbrev pub pause_of : Word → ℕ
pause_of Paused = 1
pause_of Ended = 0
pause_of Bare = 0

abbrev pub pause_count : List ShownAnswer → ℕ
pause_count [] = 0
pause_count (a ∷ answers) = pause_of a.word + pause_count answers

-- the counts are those of these answers
pub record CountsOf (answers : List ShownAnswer) (c : Counts) : Type 0 where
  pub emitted : c.emitted ≡ present_count answers
  pub paused : c.paused ≡ pause_count answers

-- a machine showed answers to items on its way to a later state, and the counts are theirs
pub record CountsMachine {S : Type 0} (shows : S → List Item → List ShownAnswer → Type 0) (old new : S)
    (items : List Item)
    (c : Counts) : Type 0 where
  pub answers : List ShownAnswer
  pub led : Led shows old items answers new
  pub counts : CountsOf answers c

-- a machine reacts once, and this is what its answer adds to counts
pub record CountsMore {S : Type 0} (shows : S → List Item → List ShownAnswer → Type 0) (old : S) (event : List Bool)
    (new : S) (before now : Counts) : Type 0 where
  pub answer : ShownAnswer
  pub answered : Answered shows old event answer new
  pub emitted : now.emitted ≡ before.emitted + count_by (λ b. b) answer.present
  pub few : count_by (λ b. b) answer.present ≤ 8
  pub paused : now.paused ≡ before.paused + pause_of answer.word

-- the counts are those of what a net shows over items
abbrev pub CountsNet : Netlist → List Item → Counts → Type 0
CountsNet net items c = CountsOf (map shown_answer (net_run net items)) c

-- the state after some drawn events
abbrev pub drawn_state : ℕ → ℕ → ℕ
drawn_state zero x = x
drawn_state (suc n) x = drawn_state n (state_after 8 x)

-- the three lines, by their numbers
abbrev pub counted_text : ℕ → ℕ → ℕ → List ℕ
counted_text instants emitted paused =
    concat (codes "instants " ∷ decimal instants ∷ codes "\nemitted " ∷ decimal emitted ∷ codes "\npaused " ∷
    decimal paused ∷ codes "\n" ∷ [])
