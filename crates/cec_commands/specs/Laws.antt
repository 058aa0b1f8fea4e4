-- To believe: laws of what is refused, and of what is done.
use Rattle.std.specs.Prelude.{◌≡◌, ◌⊎◌, ℕ, ◌+◌, List, Option, Some}
use Rattle.base_types.specs.Faults.{Rose}
use Rattle.base_types.specs.SinkChanges.{SinkChange}
use Rattle.cec_commands.specs.declared.outcome.Outcome.{Outcome}
use Rattle.cec_commands.specs.declared.outcome.Outcome.TheVariants as outcomes
use Rattle.cec_compile.specs.declared.refusal.Refusal.{Refusal}
use Rattle.cec_compile.specs.declared.refusal.Refusal.TheVariants.{NoMemory}
use Rattle.cec_commands.specs.declared.unknown_wires.UnknownWires.{UnknownWires}
use Rattle.cec_commands.specs.Accepted.{ComesToStop, IsAccepted}
use Rattle.cec_commands.specs.Jobs.{Job, Request, RunTri}
use Rattle.cec_commands.specs.Outcomes.{IsOutcomeOf, CountsFiles, GainsOut}
use Rattle.cec_compile.specs.Refusals.{IsRefused}
use Rattle.cec_compile.specs.Sources.{IsSource}
use Rattle.cec_commands.specs.TriRuns.{event_count}

-- A source that compiles has no cause of a refusal; out of memory needs none.
abbrev pub CompilingSourcesAreNotRefused : Type 0
CompilingSourcesAreNotRefused =
    (main : Option (List ℕ)) (bytes : List ℕ) (refusal : Refusal) →
    IsSource main bytes → IsRefused bytes main refusal → refusal ≡ NoMemory

-- The refusals of the top call are complete: where no count of faults rises, and nothing that the files hold is
-- refused, a request is done, unless memory runs out.
abbrev pub AcceptedRequestsAreDone : Type 0
AcceptedRequestsAreDone =
    (request : Request) (held : List ℕ → List ℕ) (outcome : Outcome) (before now : ℕ)
    → (failed_before failed_now : List ℕ) (s : SinkChange) → IsAccepted request held
    → IsOutcomeOf (Some request) (Some held) outcome
    → CountsFiles (Some request) outcome before now failed_before failed_now → (Rose before now → ⊥)
    → GainsOut (Some request) (Some held) outcome s → (Rose s.faults_before s.faults_now → ⊥)
    → (outcome ≡ outcomes.Done) ⊎ (outcome ≡ outcomes.NoMemory)

-- A run by three-valued reactions stops where the program is not constructive: where no count of faults rises, and
-- nothing is refused before the first such instant, the outcome has its number, unless memory runs out.
abbrev pub StoppingRunsAreTold : Type 0
StoppingRunsAreTold =
    (job : Job) (trace : List ℕ) (held : List ℕ → List ℕ) (outcome : Outcome) (before now : ℕ)
    → (failed_before failed_now : List ℕ) (s : SinkChange)
    → (stop : ComesToStop job.main (held job.name) (held trace))
    → IsOutcomeOf (Some (RunTri job trace)) (Some held) outcome
    → CountsFiles (Some (RunTri job trace)) outcome before now failed_before failed_now → (Rose before now → ⊥)
    → GainsOut (Some (RunTri job trace)) (Some held) outcome s → (Rose s.faults_before s.faults_now → ⊥)
    → ((wires : UnknownWires) × (outcome ≡ outcomes.NotConstructive wires)
    × (wires.instant ≡ 1 + event_count stop.items)) ⊎ (outcome ≡ outcomes.NoMemory)
