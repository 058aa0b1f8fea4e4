-- Inner: tests of names as the code makes them, and the faults that it finds.
use Rattle.std.specs.Prelude.{◌≡◌, ℕ, Bool, true, false, not, ◌&&◌, ◌||◌, List, [], ◌∷◌, Option, Some, None, codes}
use Rattle.std.specs.Prelude.{if◌then◌else◌}
use Rattle.base_types.specs.Names.{is_same_name}
use Rattle.vlog_text.specs.Trees.{Sort, Input, Output, Reg, Declaration}
use Rattle.vlog_text.specs.Names.{is_input, is_output, is_wire, is_reg, names_of, has_sign, paused_name}
use Rattle.vlog_text.specs.Names.{Use, Kept, Assigned, Taken, NameFault, Twice, Port, Undeclared, TwoDrivers, NoDriver}
use Rattle.vlog_read.specs.declared.sources.Group.{Group}
use Rattle.vlog_read.specs.declared.sources.Group.TheVariants as groups
use Rattle.vlog_read.specs.declared.uses.Use.{Use as CodeUse}
use Rattle.vlog_read.specs.declared.uses.Use.TheVariants as places
use Rattle.vlog_read.specs.declared.faults.NameFault.{NameFault as CodeFault}
use Rattle.vlog_read.specs.declared.faults.NameFault.TheVariants as found
use Rattle.vlog_read.specs.declared.refusal.VlogFault.{VlogFault}
use Rattle.vlog_read.specs.declared.refusal.VlogFault.TheVariants as faults

-- the sorts of a group
abbrev pub group_test : Group → Sort → Bool
group_test groups.Inputs sort = is_input sort
group_test groups.Outputs sort = is_output sort
group_test groups.Wires sort = is_wire sort
group_test groups.Regs sort = is_reg sort
group_test groups.Interface sort = is_input sort || is_output sort
group_test groups.Driven sort = is_input sort || is_reg sort

-- an input or an output that is none of the ports, by what is known of them
abbrev pub lacks_port : (List ℕ → Bool) → Declaration → Bool
lacks_port ports d = (is_input d.sort || is_output d.sort) && not (ports d.name)

-- the last of some names
abbrev pub last_name : List (List ℕ) → Option (List ℕ)
last_name [] = None
last_name (last ∷ []) = Some last
last_name (first ∷ next ∷ others) = last_name (next ∷ others)

-- the name of the first input, and that of the last output
abbrev pub first_of : List Declaration → Option (List ℕ)
first_of [] = None
first_of (d ∷ others) = if is_input d.sort then Some d.name else first_of others

abbrev pub last_of : List Declaration → Option (List ℕ)
last_of declarations = last_name (names_of is_output declarations)

-- whether a name is the one that there may be
abbrev pub is_told : Option (List ℕ) → List ℕ → Bool
is_told None name = false
is_told (Some one) name = is_same_name name one

-- a name that it may not have, where the first input and the last output are given
abbrev pub ill_by : Option (List ℕ) → Option (List ℕ) → Sort → List ℕ → Bool
ill_by first last Input name = not (is_told first name) && not (has_sign (codes "i_") name)
ill_by first last Output name =
    not (has_sign (codes "o_") name) && not (is_told last name && is_same_name name paused_name)
ill_by first last others name = false

abbrev pub use_of : CodeUse → Use
use_of (places.Kept name) = Kept name.now
use_of (places.Assigned name) = Assigned name.now
use_of (places.Taken name) = Taken name.now

-- a use that is wrong, by what is known of the regs, of the declared names and of the clock
abbrev pub wrong_use : (List ℕ → Bool) → (List ℕ → Bool) → Option (List ℕ) → Use → Bool
wrong_use regs declared clock (Kept name) = not (regs name)
wrong_use regs declared clock (Assigned name) = not (declared name)
wrong_use regs declared clock (Taken name) = not (declared name) || is_told clock name

-- whether a declared name has its drivers, by what is known of those
abbrev pub driven_by : (List ℕ → Bool) → (List ℕ → Bool) → (List ℕ → Bool) → Sort → List ℕ → Bool
driven_by initials targets nexts Input name = true
driven_by initials targets nexts Reg name = initials name && nexts name
driven_by initials targets nexts others name = targets name

-- a fault that code found
abbrev pub fault_told : Option CodeFault → Option NameFault
fault_told None = None
fault_told (Some (found.Twice name)) = Some (Twice name.now)
fault_told (Some (found.Port name)) = Some (Port name.now)
fault_told (Some (found.Undeclared name)) = Some (Undeclared name.now)
fault_told (Some (found.TwoDrivers name)) = Some (TwoDrivers name.now)
fault_told (Some (found.NoDriver name)) = Some (NoDriver name.now)

-- a fault of a text that is one of names
abbrev pub SaysFault : Option NameFault → VlogFault → Type 0
SaysFault first (faults.Twice name) = first ≡ Some (Twice name)
SaysFault first (faults.Port name) = first ≡ Some (Port name)
SaysFault first (faults.Undeclared name) = first ≡ Some (Undeclared name)
SaysFault first (faults.TwoDrivers name) = first ≡ Some (TwoDrivers name)
SaysFault first (faults.NoDriver name) = first ≡ Some (NoDriver name)
SaysFault first others = ⊥
