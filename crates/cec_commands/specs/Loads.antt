-- To believe: the numbers of a generated source's run over drawn events.
use Rattle.std.specs.Prelude.{◌≡◌, ℕ, zero, suc, ◌+◌, ◌*◌, ◌==◌, if◌then◌else◌, List, [], ◌∷◌, Some, None, codes}
use Rattle.std.specs.Prelude.{decimal, count_by}
use Rattle.std.specs.List.{concat}
use Rattle.base_types.specs.Items.{Item, Event}
use Rattle.base_types.specs.Draws.{first_state, state_after}
use Rattle.est_gen.specs.Events.{event_from}
use Rattle.est_kernel.specs.Plain.{Program}
use Rattle.est_kernel.specs.Reactions.{Answer, run_of}
use Rattle.est_front.specs.Sources.{StandsFor}
use Rattle.cec_compile.specs.Meaning.{AreItems}
use Rattle.cec_compile.specs.Refusals.{Compiles}

-- instants of eight inputs, drawn one after another from a state on
abbrev pub drawn_items : ℕ → ℕ → List Item
drawn_items zero x = []
drawn_items (suc n) x = Event (event_from 8 x) ∷ drawn_items n (state_after 8 x)

-- how many outgoing signals are present in some instants, and how many of these end paused
abbrev pub emitted_count : List Answer → ℕ
emitted_count [] = 0
emitted_count (a ∷ answers) = count_by (λ b. b) a.outputs + emitted_count answers

abbrev pub paused_count : List Answer → ℕ
paused_count [] = 0
paused_count (a ∷ answers) = (if a.code == 1 then 1 else 0) + paused_count answers

abbrev pub summary_text : ℕ → List Answer → List ℕ
summary_text instants answers =
    concat (codes "instants " ∷ decimal instants ∷ codes "\nemitted " ∷ decimal (emitted_count answers)
    ∷ codes "\npaused " ∷ decimal (paused_count answers) ∷ codes "\n" ∷ [])

-- The compiler-correctness theorem for a load: the bytes stand for a program that compiles, the events drawn from a
-- state on are events of the program, its run over them is constructive in each instant, and the text has the numbers
-- of that run.
pub record IsSummary (bytes : List ℕ) (state instants : ℕ) (text : List ℕ) : Type 0 where
  pub program : Program
  pub source : StandsFor bytes None program
  pub compiles : Compiles program
  pub events : AreItems program (drawn_items instants state)
  pub answers : List Answer
  pub constructive : run_of program (drawn_items instants state) ≡ Some answers
  pub numbers : text ≡ summary_text instants answers

-- the state of the draws after those of a generated source
abbrev pub state_behind : (start branches : ℕ) → ℕ
state_behind start branches = state_after (3 * branches) (first_state start)
