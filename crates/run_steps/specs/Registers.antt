-- Inner: registers, and what an instant makes of them. The slots of the inputs come first, then those of registers.
use Rattle.std.specs.Prelude.{◌≡◌, ℕ, ◌+◌, ◌<◌, ◌≤◌, Bool, false, List, ◌++◌, length, map, take, replicate, All}
use Rattle.run_steps.specs.declared.registers.Registers.TheInside.{Inside}
use Rattle.run_steps.specs.Slots.{value_at}
use Rattle.run_steps.specs.Plans.{Planned, made}

-- Registers, with the plan that computes an instant. These fields stay the same: the plan, the number of inputs, the
-- initial value of each register, the slot whose value each register gets, and the slot of each output. Each instant
-- changes the others: the values of the registers in the next instant, and those of the outputs in the last one.
pub record Frame : Type 0 where
  pub plan : Planned
  pub inputs : ℕ
  pub initial : List Bool
  pub sources : List ℕ
  pub shown : List ℕ
  pub registers : List Bool
  pub outputs : List Bool

abbrev pub frame_of : Inside → Frame
frame_of r = record {
  plan = r.plan;
  inputs = r.inputs;
  initial = r.initial.items;
  sources = r.sources.items;
  shown = r.shown.items;
  registers = r.registers.items;
  outputs = r.outputs.items;
}

-- each slot, register and output has a value, and each slot that is taken is one of a name
pub record IsFramed (r : Inside) : Type 0 where
  pub each_slot : length r.values.items ≡ r.plan.slots
  pub each_source : length r.sources.items ≡ length r.initial.items
  pub each_register : length r.registers.items ≡ length r.initial.items
  pub each_output : length r.outputs.items ≡ length r.shown.items
  pub front_low : r.inputs + length r.initial.items ≤ r.plan.named
  pub named_low : r.plan.named ≤ r.plan.slots
  pub sources_low : All (λ slot. slot < r.plan.named) r.sources.items
  pub shown_low : All (λ slot. slot < r.plan.named) r.shown.items

-- what stays from instant to instant
pub record StaysSame (old new : Frame) : Type 0 where
  pub plan : new.plan ≡ old.plan
  pub inputs : new.inputs ≡ old.inputs
  pub initial : new.initial ≡ old.initial
  pub sources : new.sources ≡ old.sources
  pub shown : new.shown ≡ old.shown

-- One instant: the plan's lookups begin with the inputs and the registers in front, the registers get the values of
-- their sources after them, and the outputs those of their slots.
pub record Advances (old : Frame) (inputs : List Bool) (new : Frame) : Type 0 where
  pub same : StaysSame old new
  pub start : List Bool
  pub each_slot : length start ≡ old.plan.slots
  pub named_low : old.plan.named ≤ old.plan.slots
  pub each_register : length old.registers ≡ length old.initial
  pub front : take (length inputs + length old.registers) start ≡ inputs ++ old.registers
  pub registers : new.registers ≡ map (value_at (made old.plan.lookups start)) old.sources
  pub outputs : new.outputs ≡ map (value_at (made old.plan.lookups start)) old.shown

-- before the first instant and after a reset each register has its first value, and every output is false
pub record IsBegun (r : Frame) : Type 0 where
  pub registers : r.registers ≡ r.initial
  pub outputs : r.outputs ≡ replicate (length r.shown) false

pub record Restarts (old new : Frame) : Type 0 where
  pub same : StaysSame old new
  pub begun : IsBegun new
