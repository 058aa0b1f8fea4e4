-- Inner: the plan of a program.
use Rattle.std.specs.Prelude.{◌≡◌, ◌<◌, ◌≤◌, ℕ, Bool, false, List, ◌∷◌, ◌++◌, length, map, slice_set}
use Rattle.csub_text.specs.Machine.{value_of}
use Rattle.csub_text.specs.Names.{declared, inputs_of, outputs_of}
use Rattle.csub_text.specs.Trees.{Assign, Program}
use Rattle.run_steps.specs.Slots.{slot_in, memory_in}
use Rattle.run_steps.specs.Plans.{Planned, Makes, Says}
use Rattle.run_steps.specs.Expressions.{expr_step}
use Rattle.run_steps.specs.Steps.{Step}
use Rattle.run_steps.specs.declared.term.Term.{Term}
use Rattle.csub_run.specs.declared.plan.CallPlan.{CallPlan}

-- each slot gets a value, one after another
abbrev pub put_all : List ℕ → List Bool → List Bool → List Bool
put_all (slot ∷ slots) (value ∷ given) values = put_all slots given (slice_set values slot value)
put_all others more values = values

-- the values of the states, and 0 for all others
abbrev pub first_values : Program → List Bool
first_values p = (map (λ s. s.init) p.states ++ map (λ _. false) p.globals) ++ map (λ _. false) p.locals

-- the step of an assignment
abbrev pub assign_step : List (List ℕ) → Assign → Step
assign_step names a = expr_step names a.target a.value

-- the plan of the body makes the assignments, and has a term of the value that is returned
pub record IsBody (p : Program) (body : Planned) (answer : Term) : Type 0 where
  pub named_is : body.named ≡ length (declared p)
  pub named_low : body.named < body.slots
  pub free_low : body.free ≤ body.slots
  pub makes : Makes body (map (assign_step (declared p)) p.body)
  pub says : Says body answer (λ values. value_of (memory_in (declared p) values) p.answer)

-- the plan of a program
pub record IsPlan (p : Program) (plan : CallPlan) : Type 0 where
  pub inputs_are : plan.inputs.items ≡ map (slot_in (declared p)) (inputs_of p)
  pub outputs_are : plan.outputs.items ≡ map (slot_in (declared p)) (outputs_of p)
  pub body_is : IsBody p plan.body plan.answer
  pub initial_is : plan.initial.items ≡ first_values p
