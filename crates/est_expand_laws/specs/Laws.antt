-- Contract: laws of inlining.
use Rattle.std.specs.Prelude.{◌≡◌, Bool, true, false, [], map, drop, Ok, Err, IfOk, IsTrue}
use Rattle.est_ast.specs.FlatTrees.{Flat}
use Rattle.est_ast.specs.Trees.{Module, SourceProgram}
use Rattle.est_expand.specs.Faults.{FlattenFault, UnknownModule, Recursive, BadRename, UnknownSignal, Unbound}
use Rattle.est_expand.specs.Faults.{UnknownTrap}
use Rattle.est_expand.specs.Faults.{EmitInput, TooManyStatements, TooDeep, TooManySignals}
use Rattle.est_expand.specs.Flattening.{flattened}
use Rattle.est_expand.specs.Walks.{on_ok}
use Rattle.est_expand_laws.specs.Inlining.{inlined}

-- the names of its signals without what was written before them
abbrev pub with_source_names : Flat → Flat
with_source_names flat = record flat { signals = map (drop 1) flat.signals }

-- Where the walk over a program has no fault, it gives the flat form of the inlined main module by itself. There is no
-- other module, so no `run` is left in that.
abbrev pub InliningIsFlattening : Type 0
InliningIsFlattening = (modules : SourceProgram) (main : Module) →
    IfOk (flattened modules main) (λ flat.
    on_ok (flattened [] (inlined modules main)) (λ alone. Ok (with_source_names alone)) ≡ Ok flat)

-- a limit is passed
abbrev pub is_limit : FlattenFault → Bool
is_limit (UnknownModule place) = false
is_limit (Recursive place names) = false
is_limit (BadRename place) = false
is_limit (UnknownSignal place) = false
is_limit (Unbound place formal) = false
is_limit (UnknownTrap place) = false
is_limit (EmitInput place) = false
is_limit TooManyStatements = true
is_limit TooDeep = true
is_limit TooManySignals = true

-- Where the walk over a program passes a limit, the walk over the inlined main module passes the same one.
abbrev pub InliningKeepsLimits : Type 0
InliningKeepsLimits = (modules : SourceProgram) (main : Module) (fault : FlattenFault) → IsTrue (is_limit fault) →
    flattened modules main ≡ Err fault → flattened [] (inlined modules main) ≡ Err fault
