-- To believe: the rules on names. The first rule that is broken counts, at its first place in the text.
use Rattle.std.specs.Prelude.{ℕ, Bool, true, false, not, ◌&&◌, ◌||◌, List, [], ◌∷◌, ◌++◌, map, flat_map, find, filter}
use Rattle.std.specs.Prelude.{Option, Some, None, take, codes, length, nat_lt, if◌then◌else◌}
use Rattle.base_types.specs.Names.{is_same_name}
use Rattle.net_ir.specs.NameLists.{is_among, first_again}
use Rattle.net_expressions.specs.Trees.{Expr}
use Rattle.net_expressions.specs.Names.{names_in, or_else}
use Rattle.vlog_text.specs.Trees.{Sort, Input, Output, Wire, Reg, Declaration, Assign, Next, Source}

-- ---- what is declared

abbrev pub is_input : Sort → Bool
is_input Input = true
is_input others = false

abbrev pub is_output : Sort → Bool
is_output Output = true
is_output others = false

abbrev pub is_wire : Sort → Bool
is_wire Wire = true
is_wire others = false

abbrev pub is_reg : Sort → Bool
is_reg Reg = true
is_reg others = false

-- the declared names of some sorts, in the order of their declarations
abbrev pub names_of : (Sort → Bool) → List Declaration → List (List ℕ)
names_of test declarations = map (λ d. d.name) (filter (λ d. test d.sort) declarations)

abbrev pub declared : List Declaration → List (List ℕ)
declared declarations = map (λ d. d.name) declarations

-- ---- each name is declared once

abbrev pub declared_twice : Source Expr → Option (List ℕ)
declared_twice s = first_again [] (declared s.declarations)

-- ---- the ports are the declared inputs and then the declared outputs

abbrev pub interface_names : List Declaration → List (List ℕ)
interface_names declarations = names_of is_input declarations ++ names_of is_output declarations

-- the first port that is not the declaration at its place
abbrev pub misplaced : List (List ℕ) → List (List ℕ) → Option (List ℕ)
misplaced [] expected = None
misplaced (port ∷ ports) [] = Some port
misplaced (port ∷ ports) (name ∷ expected) = if is_same_name port name then misplaced ports expected else Some port

abbrev pub declaration_found : Option Declaration → Option (List ℕ)
declaration_found None = None
declaration_found (Some d) = Some d.name

-- the first declared input or output that is no port
abbrev pub portless : Source Expr → Option (List ℕ)
portless s =
    declaration_found
    (find (λ d. (is_input d.sort || is_output d.sort) && not (is_among d.name s.ports)) s.declarations)

abbrev pub is_first : List (List ℕ) → List ℕ → Bool
is_first [] name = false
is_first (first ∷ others) name = is_same_name name first

abbrev pub is_last : List (List ℕ) → List ℕ → Bool
is_last [] name = false
is_last (last ∷ []) name = is_same_name name last
is_last (first ∷ next ∷ others) name = is_last (next ∷ others) name

-- a name that begins with these two bytes and is longer
abbrev pub has_sign : List ℕ → List ℕ → Bool
has_sign sign name = is_same_name (take 2 name) sign && nat_lt 2 (length name)

-- the name of the output that says whether the program is still active
abbrev pub paused_name : List ℕ
paused_name = codes "paused"

-- The first input is the clock and has any name; the others begin with `i_`, and the outputs with `o_`, but that the
-- last one may be `paused`.
abbrev pub is_ill_named : List Declaration → Sort → List ℕ → Bool
is_ill_named all Input name = not (is_first (names_of is_input all) name) && not (has_sign (codes "i_") name)
is_ill_named all Output name =
    not (has_sign (codes "o_") name) && not (is_last (names_of is_output all) name && is_same_name name paused_name)
is_ill_named all others name = false

abbrev pub ill_named : Source Expr → Option (List ℕ)
ill_named s = declaration_found (find (λ d. is_ill_named s.declarations d.sort d.name) s.declarations)

-- whether a name is the clock, the first input: a text without inputs has none
abbrev pub is_clock : List Declaration → List ℕ → Bool
is_clock declarations name = is_first (names_of is_input declarations) name

-- the name after `posedge`, if it is not the clock
abbrev pub other_clock : Source Expr → Option (List ℕ)
other_clock s = if is_clock s.declarations s.clock then None else Some s.clock

abbrev pub wrong_port : Source Expr → Option (List ℕ)
wrong_port s =
    or_else (misplaced s.ports (interface_names s.declarations))
    (or_else (portless s) (or_else (ill_named s) (other_clock s)))

-- ---- each name that is used is declared

-- a reg under `initial` or left of `<=`, a name under `assign`, or a name whose value is taken
pub data Use : Type 0 where
  Kept : (name : List ℕ) → Use
  Assigned : (name : List ℕ) → Use
  Taken : (name : List ℕ) → Use

abbrev pub used_name : Use → List ℕ
used_name (Kept name) = name
used_name (Assigned name) = name
used_name (Taken name) = name

abbrev pub assign_uses : Assign Expr → List Use
assign_uses a = Assigned a.target ∷ map Taken (names_in a.value)

abbrev pub next_uses : Next → List Use
next_uses n = Kept n.target ∷ Taken n.source ∷ []

-- the uses of names in the order of the text
abbrev pub uses : Source Expr → List Use
uses s = map (λ i. Kept i.name) s.initials ++ (flat_map assign_uses s.assigns ++ flat_map next_uses s.nexts)

-- a name that is kept and no reg, that is assigned and not declared, or that is taken and not declared or the clock
abbrev pub is_wrong : List Declaration → Use → Bool
is_wrong declarations (Kept name) = not (is_among name (names_of is_reg declarations))
is_wrong declarations (Assigned name) = not (is_among name (declared declarations))
is_wrong declarations (Taken name) = not (is_among name (declared declarations)) || is_clock declarations name

abbrev pub use_found : Option Use → Option (List ℕ)
use_found None = None
use_found (Some found) = Some (used_name found)

abbrev pub undeclared : Source Expr → Option (List ℕ)
undeclared s = use_found (find (is_wrong s.declarations) (uses s))

-- ---- each name is driven once

abbrev pub targets : List (Assign Expr) → List (List ℕ)
targets assigns = map (λ a. a.target) assigns

-- The first name that is driven a second time: each reg has one `initial` and one `<=`, each other name one `assign`,
-- and the inputs and the regs are driven before any `assign`.
abbrev pub driven_twice : Source Expr → Option (List ℕ)
driven_twice s =
    or_else (first_again [] (map (λ i. i.name) s.initials))
    (or_else (first_again (names_of (λ sort. is_input sort || is_reg sort) s.declarations) (targets s.assigns))
    (first_again [] (map (λ n. n.target) s.nexts)))

-- whether a reg has its `initial` and its `<=`, and a wire or an output its `assign`
abbrev pub is_driven : Source Expr → Sort → List ℕ → Bool
is_driven s Input name = true
is_driven s Reg name =
    is_among name (map (λ i. i.name) s.initials) && is_among name (map (λ n. n.target) s.nexts)
is_driven s others name = is_among name (targets s.assigns)

abbrev pub undriven : Source Expr → Option (List ℕ)
undriven s = declaration_found (find (λ d. not (is_driven s d.sort d.name)) s.declarations)

-- ---- the first fault

-- why a source breaks the rules on names
pub data NameFault : Type 0 where
  Twice : (name : List ℕ) → NameFault
  Port : (name : List ℕ) → NameFault
  Undeclared : (name : List ℕ) → NameFault
  TwoDrivers : (name : List ℕ) → NameFault
  NoDriver : (name : List ℕ) → NameFault

abbrev pub fault_by : (List ℕ → NameFault) → Option (List ℕ) → Option NameFault → Option NameFault
fault_by fault None later = later
fault_by fault (Some name) later = Some (fault name)

-- the first fault, in the order of the rules
abbrev pub name_fault : Source Expr → Option NameFault
name_fault s =
    fault_by Twice (declared_twice s) (fault_by Port (wrong_port s) (fault_by Undeclared (undeclared s)
    (fault_by TwoDrivers (driven_twice s) (fault_by NoDriver (undriven s) None))))
