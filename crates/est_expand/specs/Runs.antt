-- To believe: what a `run` leads to, and what the names of the module that it runs mean there.
use Rattle.std.specs.Prelude.{ℕ, not, ◌&&◌, if◌then◌else◌, List, [], ◌∷◌, ◌++◌, map, find, is_some, Result, Ok, Err}
use Rattle.std.specs.Option.{option_or}
use Rattle.base_types.specs.declared.place.Span.{Span}
use Rattle.base_types.specs.Names.{is_same_name}
use Rattle.est_ast.specs.declared.trees.Name.{Name}
use Rattle.est_ast.specs.declared.trees.Rename.{Rename}
use Rattle.est_ast.specs.Trees.{Module, SourceProgram}
use Rattle.est_names.specs.Names.{is_among}
use Rattle.est_expand.specs.Faults.{FlattenFault, UnknownModule, Recursive, BadRename, Unbound}
use Rattle.est_expand.specs.Scopes.{NameScope, meaning, Formal}
use Rattle.est_expand.specs.Walks.{on_ok}
use Rattle.est_expand.specs.Tests.{found_or, signal_of}

-- the module that a `run` names
abbrev pub module_named : SourceProgram → Name → Result Module FlattenFault
module_named modules name =
    found_or (UnknownModule name.span) (find (λ m. is_same_name name.text m.name.text) modules)

-- the modules that the body of the named one is in, from the main module on, unless it is one of them already
abbrev pub chain_with : List (List ℕ) → Name → Result (List (List ℕ)) FlattenFault
chain_with chain name =
    if is_among name.text chain then Err (Recursive name.span (chain ++ name.text ∷ []))
    else Ok (chain ++ name.text ∷ [])

abbrev pub formal_names : List Formal → List (List ℕ)
formal_names formals = map (λ formal. formal.name) formals

-- The formals that are renamed, with what their actuals mean. A formal is one of the module's, and not renamed before.
abbrev pub renamed : List Formal → NameScope → NameScope → List Rename → Result NameScope FlattenFault
renamed formals scope given [] = Ok given
renamed formals scope given (rename ∷ renames) =
    if is_among rename.formal.text (formal_names formals) && not (is_some (meaning given rename.formal.text))
    then on_ok (signal_of scope rename.actual)
    (λ actual. renamed formals scope ((rename.formal.text, actual) ∷ given) renames)
    else Err (BadRename rename.formal.span)

-- The scope of a module's body. Each formal means its actual, or else the signal of the same name that is visible at
-- the `run`, whose module name is at this place.
abbrev pub opened : Span → NameScope → NameScope → NameScope → List Formal → Result NameScope FlattenFault
opened place scope given inner [] = Ok inner
opened place scope given inner (formal ∷ formals) =
    on_ok (found_or (Unbound place formal.name) (option_or (meaning given formal.name) (meaning scope formal.name)))
    (λ actual. opened place scope given
    ((formal.name, record { signal = actual.signal; input = formal.input }) ∷ inner) formals)
