-- Where nothing is refused and nothing outside fails, a command is done.
use Rattle.std.proofs.Common.{◌≡◌, ℕ, ◌≤◌, ◌<◌, ◌⊎◌, List, [], Option, Result, Some, Ok, inl, inr, refl, sym, subst, arith}
use Rattle.base_types.specs.Faults.{Rose}
use Rattle.base_types.specs.SinkChanges.{SinkChange}
use Rattle.cec_text_io.proofs.Exports.{never_rose}
use Rattle.cec_opt_commands.specs.Laws.{FitsSource, FitsText, IsAccepted, IsFaultless, IsNotRefused, AcceptedTextsAreDone}
use Rattle.cec_compile.specs.declared.refusal.Refusal.{Refusal}
use Rattle.cec_compile.specs.declared.refusal.Refusal.TheVariants as refusing
use Rattle.cec_opt_commands.specs.Outcomes.{IsOptOutcomeOf, CountsFiles, LeavesAnswer, IsTextOf, IsSourceTextOf, GainsOut, IsGraphRefusedFor}
use Rattle.cec_opt_commands.specs.Words.{Request, Task, Tell, Do, Make, Write, Embed, Reset, Check}
use Rattle.cec_opt_commands.specs.declared.outcome.OptOutcome.{OptOutcome}
use Rattle.cec_opt_commands.specs.declared.outcome.OptOutcome.TheVariants.{Done, Usage, FileFault, BadText, TooLong, Refused, WriteFault, NoMemory}
use Rattle.cec_opt_commands.specs.declared.outcome.OptOutcome.TheVariants.{BadComponent, BadModule, NotConstructive, Undecided, TooManyNets}

not_long : (n limit : ℕ) → n ≤ limit → limit < n → ⊥
not_long n limit short long = omega (arith, short, long)

-- a write that failed raised the count
answer_rose : (task : Task) (P : List ℕ → Type 0) (s : SinkChange) → LeavesAnswer task P s WriteFault → Rose s.faults_before s.faults_now
answer_rose (Write form) P s l = l.2.faults
answer_rose (Embed component layout) P s l = l.2.faults
answer_rose (Reset options coding) P s l = l.2.faults
answer_rose Check P s l = l.2.faults

graph_refused : (main : Option (List ℕ)) (source : List ℕ) (refusal : Refusal) → IsNotRefused main source → IsGraphRefusedFor main refusal source → ⊥
graph_refused main source (refusing.Static fault) none cause = none (refusing.Static fault) cause
graph_refused main source (refusing.Cyclic cycle) none cause = absurd cause
graph_refused main source (refusing.Limit limit) none cause = none (refusing.Limit limit) cause
graph_refused main source refusing.NoMemory none cause = absurd cause

pub accepted_done : AcceptedTextsAreDone
accepted_done (Tell about) held Done before now failed_before failed_now s accepted agrees counts still out steady = inl refl
accepted_done (Tell about) held Usage before now failed_before failed_now s accepted agrees counts still out steady = absurd agrees
accepted_done (Tell about) held FileFault before now failed_before failed_now s accepted agrees counts still out steady = absurd agrees
accepted_done (Tell about) held (BadText fault) before now failed_before failed_now s accepted agrees counts still out steady = absurd agrees
accepted_done (Tell about) held (BadComponent fault) before now failed_before failed_now s accepted agrees counts still out steady = absurd agrees
accepted_done (Tell about) held (BadModule fault) before now failed_before failed_now s accepted agrees counts still out steady = absurd agrees
accepted_done (Tell about) held TooLong before now failed_before failed_now s accepted agrees counts still out steady = absurd agrees
accepted_done (Tell about) held (Refused refusal) before now failed_before failed_now s accepted agrees counts still out steady = absurd agrees
accepted_done (Tell about) held (NotConstructive stuck) before now failed_before failed_now s accepted agrees counts still out steady = absurd agrees
accepted_done (Tell about) held (Undecided cycle) before now failed_before failed_now s accepted agrees counts still out steady = absurd agrees
accepted_done (Tell about) held (TooManyNets cycle) before now failed_before failed_now s accepted agrees counts still out steady = absurd agrees
accepted_done (Tell about) held WriteFault before now failed_before failed_now s accepted agrees counts still out steady = absurd (steady out.2.faults)
accepted_done (Tell about) held NoMemory before now failed_before failed_now s accepted agrees counts still out steady = inr refl
accepted_done (Do task given name) held Done before now failed_before failed_now s accepted agrees counts still out steady = inl refl
accepted_done (Do task given name) held Usage before now failed_before failed_now s accepted agrees counts still out steady = absurd agrees.2
accepted_done (Do task given name) held FileFault before now failed_before failed_now s accepted agrees counts still out steady =
    absurd (still counts.faults)
accepted_done (Do task given name) held (BadText fault) before now failed_before failed_now s accepted agrees counts still out steady =
    absurd ((subst (IsFaultless given) (sym agrees.1) accepted.0).faultless fault agrees.2.1)
accepted_done (Do task given name) held (BadComponent fault) before now failed_before failed_now s accepted agrees counts still out steady =
    absurd ((subst (FitsText task given) (sym agrees.1) accepted.1).component fault agrees.2)
accepted_done (Do task given name) held (BadModule fault) before now failed_before failed_now s accepted agrees counts still out steady =
    absurd ((subst (FitsText task given) (sym agrees.1) accepted.1).names fault agrees.2)
accepted_done (Do task given name) held TooLong before now failed_before failed_now s accepted agrees counts still out steady =
    absurd (not_long _ _ (subst (IsFaultless given) (sym agrees.1) accepted.0).short agrees.2)
accepted_done (Do task given name) held (Refused refusal) before now failed_before failed_now s accepted agrees counts still out steady = absurd agrees.2
accepted_done (Do task given name) held (NotConstructive stuck) before now failed_before failed_now s accepted agrees counts still out steady = absurd agrees.2
accepted_done (Do task given name) held (Undecided cycle) before now failed_before failed_now s accepted agrees counts still out steady = absurd agrees.2
accepted_done (Do task given name) held (TooManyNets cycle) before now failed_before failed_now s accepted agrees counts still out steady = absurd agrees.2
accepted_done (Do task given name) held WriteFault before now failed_before failed_now s accepted agrees counts still out steady =
    absurd (steady (answer_rose task (IsTextOf task given name (Some held)) s out))
accepted_done (Do task given name) held NoMemory before now failed_before failed_now s accepted agrees counts still out steady = inr refl
accepted_done (Make task name main) held Done before now failed_before failed_now s accepted agrees counts still out steady = inl refl
accepted_done (Make task name main) held Usage before now failed_before failed_now s accepted agrees counts still out steady = absurd agrees.2
accepted_done (Make task name main) held FileFault before now failed_before failed_now s accepted agrees counts still out steady =
    absurd (still counts.faults)
accepted_done (Make task name main) held (BadText fault) before now failed_before failed_now s accepted agrees counts still out steady = absurd agrees.2
accepted_done (Make task name main) held (BadComponent fault) before now failed_before failed_now s accepted agrees counts still out steady =
    absurd ((subst (FitsSource task main) (sym agrees.1) accepted.1).component fault agrees.2)
accepted_done (Make task name main) held (BadModule fault) before now failed_before failed_now s accepted agrees counts still out steady =
    absurd ((subst (FitsSource task main) (sym agrees.1) accepted.1).names fault agrees.2)
accepted_done (Make task name main) held TooLong before now failed_before failed_now s accepted agrees counts still out steady = absurd agrees.2
accepted_done (Make task name main) held (Refused refusal) before now failed_before failed_now s accepted agrees counts still out steady =
    absurd (graph_refused main agrees.0 refusal (subst (IsNotRefused main) (sym agrees.1) accepted.0) agrees.2)
accepted_done (Make task name main) held (NotConstructive stuck) before now failed_before failed_now s accepted agrees counts still out steady =
    absurd (subst (IsNotRefused main) (sym agrees.1) accepted.0 (refusing.Cyclic agrees.2.cycle) agrees.2.has_cycle)
accepted_done (Make task name main) held (Undecided cycle) before now failed_before failed_now s accepted agrees counts still out steady =
    absurd (subst (IsNotRefused main) (sym agrees.1) accepted.0 (refusing.Cyclic cycle) agrees.2)
accepted_done (Make task name main) held (TooManyNets cycle) before now failed_before failed_now s accepted agrees counts still out steady =
    absurd (subst (IsNotRefused main) (sym agrees.1) accepted.0 (refusing.Cyclic cycle) agrees.2)
accepted_done (Make task name main) held WriteFault before now failed_before failed_now s accepted agrees counts still out steady =
    absurd (steady (answer_rose task (IsSourceTextOf WriteFault task name main (Some held)) s out))
accepted_done (Make task name main) held NoMemory before now failed_before failed_now s accepted agrees counts still out steady = inr refl

-- over files and sinks that count no fault
pub steady_end : (asked : Result Request (List ℕ)) (request : Request) (held : List ℕ → List ℕ) (outcome : OptOutcome) (old new : Option (List ℕ))
    → asked ≡ Ok request → IsAccepted request held → IsOptOutcomeOf asked (Some held) outcome → CountsFiles asked outcome 0 0 [] []
    → GainsOut asked (Some held) outcome (record { before = old; after = new; faults_before = 0; faults_now = 0 })
    → (outcome ≡ Done) ⊎ (outcome ≡ NoMemory)
steady_end asked request held outcome old new is accepted agrees counts gains =
    let s : SinkChange = record { before = old; after = new; faults_before = 0; faults_now = 0 } in
    accepted_done request held outcome 0 0 [] [] s accepted (subst (λ a. IsOptOutcomeOf a (Some held) outcome) is agrees)
    (subst (λ a. CountsFiles a outcome 0 0 [] []) is counts) never_rose (subst (λ a. GainsOut a (Some held) outcome s) is gains) never_rose
