-- Contract: laws of flattening.
use Rattle.std.specs.Prelude.{◌≡◌, [], IfOk}
use Rattle.est_ast.specs.Trees.{Stmt, SourceProgram, Module}
use Rattle.est_names.specs.NameFaults.{interface_faults}
use Rattle.est_expand.specs.Flattening.{flattened}
use Rattle.est_ast.specs.FlatPrograms.{IsFlat, IsNamed}
use Rattle.est_expand.specs.NamedModules.{IsNamedModule}
use Rattle.est_expand.specs.Renaming.{no_binders, SameStmt, SamePrograms, BothAre, SameButForNames}

-- The flat form of a program, where the names of its main module's interface have no fault, keeps what a flat program
-- keeps: signals and exits in their places, no input of the main module emitted, relations of given signals, an
-- interface whose names differ, and no more signals than a program may have, with those that its expansion will need.
abbrev pub FlatFormsFit : Type 0
FlatFormsFit = (modules : SourceProgram) (main : Module) → interface_faults main.decls ≡ [] →
    IfOk (flattened modules main) IsFlat

-- Where the names of the main module and of its interface can be written, those of the flat program can.
abbrev pub FlatFormsAreNamed : Type 0
FlatFormsAreNamed = (modules : SourceProgram) (main : Module) → IsNamedModule main
    → IfOk (flattened modules main) IsNamed

-- Renaming captures nothing. Let two programs be the same except for the names of what their modules bind, and let the
-- body of a main module be written for another one in the same way. Then the flat forms are the same except for the
-- names of local signals, or both programs have the same fault at the same place.
abbrev pub RenamingChangesNamesAlone : Type 0
RenamingChangesNamesAlone =
    (modules others : SourceProgram) (main : Module) (body : Stmt) → SamePrograms modules others
    → SameStmt modules others no_binders main.body body
    → BothAre SameButForNames (flattened modules main) (flattened others (record main { body = body }))
