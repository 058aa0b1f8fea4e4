-- To believe: what is wrong with the names of a program, in the order of the text.
use Rattle.std.specs.Prelude.{◌≡◌, ℕ, List, [], ◌∷◌, ◌++◌, map, flat_map, Option, Some, None, if◌then◌else◌}
use Rattle.base_types.specs.declared.place.Span.{Span}
use Rattle.est_ast.specs.declared.trees.Name.{Name}
use Rattle.est_ast.specs.Trees.{Stmt, At, Form, Nothing, Pause, Halt, Emit, Sustain, Await, AwaitCase, Present}
use Rattle.est_ast.specs.Trees.{PresentCase, Loop, LoopEach, Every, Repeat, Abort, AbortCase, WeakAbort, Suspend, Trap}
use Rattle.est_ast.specs.Trees.{Exit, Signal, Run, Seq, Par, Group, Part, Missing, Written, Handler, NoHandler, Handled}
use Rattle.est_ast.specs.Trees.{Stmts, NoStmts, MoreStmts, Cases, NoCases, MoreCases, NamedRelation, Implies, Excludes}
use Rattle.est_ast.specs.Trees.{Decl}
use Rattle.est_ast.specs.Trees.{Input, InputOutput, Output, Relations, Module, SourceProgram}
use Rattle.est_names.specs.declared.refusal.NameFault.{NameFault}
use Rattle.est_names.specs.declared.refusal.NameFault.TheVariants.{DuplicateModule, NoMain, DuplicateSignal}
use Rattle.est_names.specs.declared.refusal.NameFault.TheVariants.{RelationName}
use Rattle.est_names.specs.Names.{texts, is_among, place_of}

-- a fault at each name that is in the list, or in the one before it, already
abbrev pub again : (Span → NameFault) → List (List ℕ) → List Name → List NameFault
again fault before [] = []
again fault before (name ∷ names) =
    (if is_among name.text before then fault name.span ∷ [] else []) ++ again fault (before ++ name.text ∷ []) names

-- ---- interfaces

-- the names that a declaration declares
abbrev pub declared_in : Decl → List Name
declared_in (Input names) = names
declared_in (InputOutput names) = names
declared_in (Output names) = names
declared_in (Relations relations) = []

-- those of signals that the environment may give
abbrev pub given_in : Decl → List Name
given_in (Input names) = names
given_in (InputOutput names) = names
given_in (Output names) = []
given_in (Relations relations) = []

abbrev pub names_of_relation : NamedRelation → List Name
names_of_relation (Implies cause effect) = cause ∷ effect ∷ []
names_of_relation (Excludes names) = names

-- the names that a declaration relates
abbrev pub related_in : Decl → List Name
related_in (Input names) = []
related_in (InputOutput names) = []
related_in (Output names) = []
related_in (Relations relations) = flat_map names_of_relation relations

-- a fault at each name that is not one of those given
abbrev pub not_given : List (List ℕ) → List Name → List NameFault
not_given given names = flat_map (λ name. if is_among name.text given then [] else RelationName name.span ∷ []) names

-- Of the declarations of a module, where these names are declared before them. No name is declared twice, and a
-- relation speaks of signals that the environment may give, wherever the module declares them.
abbrev pub decl_faults : List (List ℕ) → List (List ℕ) → List Decl → List NameFault
decl_faults given before [] = []
decl_faults given before (decl ∷ decls) =
    again DuplicateSignal before (declared_in decl)
    ++ (not_given given (related_in decl) ++ decl_faults given (before ++ texts (declared_in decl)) decls)

abbrev pub interface_faults : List Decl → List NameFault
interface_faults decls = decl_faults (texts (flat_map given_in decls)) [] decls

-- ---- bodies

-- the lists of names after `signal`
abbrev mutual
  pub signal_lists : Stmt → List (List Name)
  signal_lists (At span form) = signal_lists_in form

  pub signal_lists_in : Form → List (List Name)
  signal_lists_in Nothing = []
  signal_lists_in Pause = []
  signal_lists_in Halt = []
  signal_lists_in (Emit name) = []
  signal_lists_in (Sustain name) = []
  signal_lists_in (Await delay q) = signal_lists_part q
  signal_lists_in (AwaitCase cases) = signal_lists_cases cases
  signal_lists_in (Present e p q) = signal_lists_part p ++ signal_lists_part q
  signal_lists_in (PresentCase cases q) = signal_lists_cases cases ++ signal_lists_part q
  signal_lists_in (Loop p) = signal_lists p
  signal_lists_in (LoopEach p delay) = signal_lists p
  signal_lists_in (Every delay p) = signal_lists p
  signal_lists_in (Repeat count span p) = signal_lists p
  signal_lists_in (Abort p delay q) = signal_lists p ++ signal_lists_part q
  signal_lists_in (AbortCase p cases) = signal_lists p ++ signal_lists_cases cases
  signal_lists_in (WeakAbort p delay) = signal_lists p
  signal_lists_in (Suspend p delay) = signal_lists p
  signal_lists_in (Trap name p handler) = signal_lists p ++ signal_lists_handler handler
  signal_lists_in (Exit name) = []
  signal_lists_in (Signal names p) = names ∷ signal_lists p
  signal_lists_in (Run name renames) = []
  signal_lists_in (Seq parts) = signal_lists_all parts
  signal_lists_in (Par parts) = signal_lists_all parts
  signal_lists_in (Group p) = signal_lists p

  pub signal_lists_part : Part → List (List Name)
  signal_lists_part Missing = []
  signal_lists_part (Written p) = signal_lists p

  pub signal_lists_handler : Handler → List (List Name)
  signal_lists_handler NoHandler = []
  signal_lists_handler (Handled name p) = signal_lists p

  pub signal_lists_all : Stmts → List (List Name)
  signal_lists_all NoStmts = []
  signal_lists_all (MoreStmts p others) = signal_lists p ++ signal_lists_all others

  pub signal_lists_cases : Cases → List (List Name)
  signal_lists_cases NoCases = []
  signal_lists_cases (MoreCases event body others) = signal_lists_part body ++ signal_lists_cases others

-- no name stands twice after one `signal`
abbrev pub body_faults : Stmt → List NameFault
body_faults body = flat_map (again DuplicateSignal []) (signal_lists body)

-- ---- programs

abbrev pub module_names : SourceProgram → List (List ℕ)
module_names program = map (λ m. m.name.text) program

abbrev pub module_faults : Module → List NameFault
module_faults m = interface_faults m.decls ++ body_faults m.body

-- The place of the main module among the names of the modules: that of the given name, or the first where no name is
-- given. A program of a text has a module, so where no name is given there is a main one.
abbrev pub main_place : Option (List ℕ) → List (List ℕ) → Option ℕ
main_place None [] = None
main_place None (name ∷ names) = Some 0
main_place (Some name) names = place_of name names

abbrev pub main_faults : Option ℕ → List NameFault
main_faults None = NoMain ∷ []
main_faults (Some place) = []

-- Of a program: each module with the name of an earlier one, then the main module where there is none, then those of
-- the modules.
abbrev pub name_faults : Option (List ℕ) → SourceProgram → List NameFault
name_faults main program =
    again DuplicateModule [] (map (λ m. m.name) program)
    ++ (main_faults (main_place main (module_names program)) ++ flat_map module_faults program)

-- ---- answers

abbrev pub first : List NameFault → Option NameFault
first [] = None
first (fault ∷ faults) = Some fault

-- this is the first of the faults
abbrev pub IsFirst : List NameFault → NameFault → Type 0
IsFirst faults fault = first faults ≡ Some fault
