-- Inner: the plain forms of a job and of what is asked for, and what is known of a number of branches.
use Rattle.std.specs.Prelude.{ℕ, ◌<◌, ◌≤◌, ⊤, option_map}
use Rattle.base_types.specs.declared.bounds.TheConstants.Limits.{BRANCHES}
use Rattle.cec_commands.specs.declared.jobs.Job as jobs
use Rattle.cec_commands.specs.declared.jobs.Request as requests
use Rattle.cec_commands.specs.declared.jobs.Request.TheVariants as asks
use Rattle.cec_commands.specs.Jobs.{Job, Request, Help, Make, Run, RunTri, Exec, Generate, Load}

abbrev pub plain_job : jobs.Job → Job
plain_job j = record { name = j.name.now; main = option_map (λ m. m.now) j.main; pick = j.pick }

abbrev pub plain_request : requests.Request → Request
plain_request asks.Help = Help
plain_request (asks.Make task job) = Make task (plain_job job)
plain_request (asks.Run via job trace) = Run via (plain_job job) trace.now
plain_request (asks.RunTri job trace) = RunTri (plain_job job) trace.now
plain_request (asks.Exec via text trace) = Exec via text.now trace.now
plain_request (asks.Generate start branches) = Generate start branches
plain_request (asks.Load start branches instants) = Load start branches instants

-- a number of branches for which there is a generated source
pub record AreBranches (branches : ℕ) : Type 0 where
  pub some : 0 < branches
  pub few : branches ≤ BRANCHES

-- what is asked for can be generated
abbrev pub CanBeGenerated : Request → Type 0
CanBeGenerated (Generate start branches) = AreBranches branches
CanBeGenerated (Load start branches instants) = AreBranches branches
CanBeGenerated others = ⊤
