-- Contract: a machine that a trace drives, and what it shows and counts from its present state on.
use Rattle.std.specs.Prelude.{◌≡◌, ℕ, ◌+◌, ◌*◌, ◌<◌, ◌^◌, List, [], ◌∷◌, Option, Some, None, SomeIff}
use Rattle.base_types.specs.Items.{Item}
use Rattle.base_machines.specs.Machines.{Shows, run_from}
use Rattle.csub_guard.specs.Machine.{Counted, guarded_machine, call}
use Rattle.csub_guard.specs.Trees.{Program}
use Rattle.csub_text.specs.Machine.{Memory, first_memory}
use Rattle.csub_guard_run.specs.ProgramAnswers.{call_answer}
use Rattle.csub_guard_run.specs.Runners.{Runner, IsFresh, program_in, memory_of}
use Rattle.run_over_traces.specs.Machines.{ShownAnswer}

-- the machine of a program, and the number of assignments of all calls so far, where a counter holds it
pub record Counter : Type 0 where
  pub calls : Runner
  pub total : Option ℕ

abbrev pub counted_program : Counter → Program
counted_program m = program_in m.calls

-- before the first item no assignment was run
pub record IsNew (m : Counter) : Type 0 where
  pub calls : IsFresh m.calls
  pub total : m.total ≡ Some 0

-- what it shows is what its program's machine does from this memory on
abbrev pub counter_shows : Counter → List Item → List ShownAnswer → Type 0
counter_shows m items answers =
    Shows (guarded_machine (counted_program m)) (call_answer (counted_program m)) (memory_of m.calls) items answers

-- what is after each call from this memory on
abbrev pub calls_from : Program → Memory → List Item → List Counted
calls_from p memory items =
    run_from (first_memory p.states) (λ m inputs. call p inputs m) (λ m inputs behind. behind.memory) memory items

-- the sum of a number and a count, where a counter holds it
abbrev pub IsSum : Option ℕ → ℕ → Option ℕ → Type 0
IsSum None count sum = sum ≡ None
IsSum (Some before) count sum = SomeIff sum (before + count < 2 ^ 64 * 10 ^ 38) (before + count)

-- a number, where 64 bits hold it
abbrev pub IsHeld : Option ℕ → Option ℕ → Type 0
IsHeld None held = held ≡ None
IsHeld (Some n) held = SomeIff held (n < 2 ^ 64) n

-- the counts of calls on top of a number, one after another, each of at most 128 bits
abbrev pub Summed : Option ℕ → List Counted → Option ℕ → Type 0
Summed total [] last = last ≡ total
Summed total (behind ∷ calls) last =
    (sum : Option ℕ) × IsSum total behind.count sum × Summed sum calls last × (behind.count < 2 ^ 128)

-- after the items the number is greater by the counts of their calls
abbrev pub adds_up : Counter → List Item → Counter → Type 0
adds_up m items last = Summed m.total (calls_from (counted_program m) (memory_of m.calls) items) last.total
