-- To believe: the kernel program of a flat program, or the first fault.
use Rattle.std.specs.Prelude.{nat_lt, if◌then◌else◌, List, [], ◌∷◌, ◌++◌, length, replicate, codes}
use Rattle.base_types.specs.declared.place.Span.{Span}
use Rattle.base_types.specs.declared.bounds.TheConstants.Limits.{KERNEL_NODES, KERNEL_HEIGHT, TRAPS}
use Rattle.est_kernel.specs.Terms.{Term}
use Rattle.est_kernel.specs.Plain.{Program}
use Rattle.est_kernel.specs.Sizes.{size_of, height_of, trap_depth}
use Rattle.est_ast.specs.FlatTrees.{Flat}
use Rattle.est_dismantle.specs.Kernels.{kernel}
use Rattle.est_ast.specs.NewSignals.{new_in}
use Rattle.est_dismantle.specs.Counts.{bad_in}

-- what a flat program stands for
pub data Expansion : Type 0 where
  Expanded : (p : Program) → Expansion
  BadCount : (place : Span) → Expansion
  TooLarge : Expansion
  TooHigh : Expansion
  TooManyTraps : Expansion

-- the body's kernel term; its new signals are numbered after the others
abbrev pub kernel_body : Flat → Term
kernel_body flat = kernel [] (length flat.signals) flat.body

-- the kernel program of a flat one; the name of each new signal is `x`
abbrev pub program_in : Flat → Term → Program
program_in flat body = record {
  name = flat.name;
  signals = flat.signals ++ replicate (new_in flat.body) (codes "x");
  inputs = flat.inputs;
  both = flat.both;
  outputs = flat.outputs;
  relations = flat.relations;
  body = body;
}

-- within the limits, in this order: the size, the height, the traps one in another
abbrev pub limited : Flat → Term → Expansion
limited flat body =
    if nat_lt KERNEL_NODES (size_of body) then TooLarge
    else if nat_lt KERNEL_HEIGHT (height_of body) then TooHigh
    else if nat_lt TRAPS (trap_depth body) then TooManyTraps
    else Expanded (program_in flat body)

-- the first bad count, before all limits
abbrev pub counted : Flat → List Span → Expansion
counted flat [] = limited flat (kernel_body flat)
counted flat (place ∷ places) = BadCount place

abbrev pub expansion : Flat → Expansion
expansion flat = counted flat (bad_in flat.body)
