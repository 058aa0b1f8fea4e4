-- To believe: what the names of signals mean at a place, and which signals a module shows.
use Rattle.std.specs.Prelude.{ℕ, ◌+◌, Bool, true, false, List, [], ◌∷◌, ◌++◌, map, flat_map, length, Option, Some, None}
use Rattle.std.specs.Prelude.{if◌then◌else◌}
use Rattle.base_types.specs.Names.{is_same_name}
use Rattle.est_ast.specs.Trees.{Decl, Input, InputOutput, Output, Relations, Module}
use Rattle.est_names.specs.Names.{texts}
use Rattle.est_expand.specs.declared.scope.Meaning.{Meaning}

-- A scope: the names that are visible, the nearest binder first. A name means a signal of the whole program, by its
-- number, and may be declared as an input of the module that the place is in.
abbrev pub NameScope : Type 0
NameScope = List (List ℕ × Meaning)

-- what a name means: its nearest binder counts
abbrev pub meaning : NameScope → List ℕ → Option Meaning
meaning [] name = None
meaning (bound ∷ scope) name = if is_same_name name bound.0 then Some bound.1 else meaning scope name

-- inside binders of these names, with the signals from this number on
abbrev pub binding : Bool → List (List ℕ) → ℕ → NameScope → NameScope
binding input [] next scope = scope
binding input (name ∷ names) next scope =
    binding input names (next + 1) ((name, record { signal = next; input = input }) ∷ scope)

-- ---- interfaces

-- a signal that a module shows
pub record Formal : Type 0 where
  pub name : List ℕ
  pub input : Bool

abbrev pub formals_of : Bool → List (List ℕ) → List Formal
formals_of input names = map (λ name. record { name = name; input = input }) names

abbrev pub formals_in : Decl → List Formal
formals_in (Input names) = formals_of true (texts names)
formals_in (InputOutput names) = formals_of false (texts names)
formals_in (Output names) = formals_of false (texts names)
formals_in (Relations relations) = []

-- the interface of a module, in the order of the text
abbrev pub interface : Module → List Formal
interface m = flat_map formals_in m.decls

-- ---- the main module

abbrev pub inputs_in : Decl → List (List ℕ)
inputs_in (Input names) = texts names
inputs_in (InputOutput names) = []
inputs_in (Output names) = []
inputs_in (Relations relations) = []

abbrev pub both_in : Decl → List (List ℕ)
both_in (Input names) = []
both_in (InputOutput names) = texts names
both_in (Output names) = []
both_in (Relations relations) = []

abbrev pub outputs_in : Decl → List (List ℕ)
outputs_in (Input names) = []
outputs_in (InputOutput names) = []
outputs_in (Output names) = texts names
outputs_in (Relations relations) = []

-- the names of its inputs, of its signals that are input and output, and of its outputs
pub record ModuleInterface : Type 0 where
  pub inputs : List (List ℕ)
  pub both : List (List ℕ)
  pub outputs : List (List ℕ)

abbrev pub main_interface : Module → ModuleInterface
main_interface m = record {
  inputs = flat_map inputs_in m.decls;
  both = flat_map both_in m.decls;
  outputs = flat_map outputs_in m.decls;
}

-- its signals in the order of their numbers
abbrev pub main_signals : ModuleInterface → List (List ℕ)
main_signals i = i.inputs ++ (i.both ++ i.outputs)

abbrev pub main_scope : ModuleInterface → NameScope
main_scope i =
    binding true i.inputs 0
    (binding false i.both (length i.inputs) (binding false i.outputs (length i.inputs + length i.both) []))
