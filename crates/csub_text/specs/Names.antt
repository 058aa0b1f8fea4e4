-- To believe: the rules on names. All declared names differ, each name that is used is declared, no input is assigned,
-- and no local is read before it is assigned. The first rule that is broken counts, at its first place in the text.
use Rattle.std.specs.Prelude.{ℕ, Bool, not, ◌||◌, List, [], ◌∷◌, ◌++◌, map, flat_map, find, filter}
use Rattle.std.specs.Prelude.{Option, Some, None}
use Rattle.base_types.specs.Names.{is_same_name}
use Rattle.net_ir.specs.NameLists.{is_among, first_again}
pub use Rattle.net_expressions.specs.Names.{names_in, all_names, or_else}
use Rattle.csub_text.specs.Trees.{Expr, Assign, Program}
use Rattle.csub_text.specs.Grammar.{begins_input, begins_output}

-- the inputs and the outputs of a program, in declared order
abbrev pub inputs_of : Program → List (List ℕ)
inputs_of p = filter begins_input p.globals

abbrev pub outputs_of : Program → List (List ℕ)
outputs_of p = filter begins_output p.globals

abbrev pub declared : Program → List (List ℕ)
declared p = map (λ s. s.name) p.states ++ p.globals ++ p.locals

-- the first name that is declared a second time
abbrev pub declared_twice : Program → Option (List ℕ)
declared_twice p = first_again [] (declared p)

-- a name that is assigned, or one that is read
pub data Use : Type 0 where
  Assigned : (name : List ℕ) → Use
  Taken : (name : List ℕ) → Use

abbrev pub used_name : Use → List ℕ
used_name (Assigned name) = name
used_name (Taken name) = name

abbrev pub uses_in : Assign → List Use
uses_in a = Assigned a.target ∷ map Taken (names_in a.value)

abbrev pub uses : Program → List Use
uses p = flat_map uses_in p.body ++ map Taken (names_in p.answer)

-- a name that is not declared, or an input that is assigned
abbrev pub is_wrong : List (List ℕ) → Use → Bool
is_wrong names (Assigned name) = begins_input name || not (is_among name names)
is_wrong names (Taken name) = not (is_among name names)

abbrev pub name_found : Option Use → Option (List ℕ)
name_found None = None
name_found (Some found) = Some (used_name found)

-- the first name that is used and not declared, or is assigned and is an input
abbrev pub undeclared : Program → Option (List ℕ)
undeclared p = name_found (find (is_wrong (declared p)) (uses p))

-- the first of some locals that is read before it is assigned
abbrev pub unset_from : List (List ℕ) → List Assign → Expr → Option (List ℕ)
unset_from locals [] answer = find (λ n. is_among n locals) (names_in answer)
unset_from locals (a ∷ body) answer =
    or_else (find (λ n. is_among n locals) (names_in a.value))
    (unset_from (filter (λ n. not (is_same_name a.target n)) locals) body answer)

abbrev pub unset : Program → Option (List ℕ)
unset p = unset_from p.locals p.body p.answer

-- why a program breaks the rules on names
pub data NameFault : Type 0 where
  Twice : (name : List ℕ) → NameFault
  Undeclared : (name : List ℕ) → NameFault
  Unset : (name : List ℕ) → NameFault

abbrev pub fault_by : (List ℕ → NameFault) → Option (List ℕ) → Option NameFault → Option NameFault
fault_by fault None later = later
fault_by fault (Some name) later = Some (fault name)

-- the first fault, in the order of the rules
abbrev pub name_fault : Program → Option NameFault
name_fault p = fault_by Twice (declared_twice p) (fault_by Undeclared (undeclared p) (fault_by Unset (unset p) None))
