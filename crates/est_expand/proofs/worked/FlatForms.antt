-- Inner: flat programs, as equations write them.
use Rattle.std.proofs.Common.{ℕ, List, [], Result}
use Rattle.std.specs.Prelude.{slice_index_or}
use Rattle.base_types.specs.Relations.{Relation}
use Rattle.est_ast.specs.FlatTrees as f
use Rattle.est_ast.specs.FlatTrees.{Stmt, Flat}
use Rattle.est_ast.specs.Trees.{At, Nothing, SourceProgram}
use Rattle.est_names.proofs.worked.PlainTrees.{at, n, modul}
use Rattle.est_expand.specs.Faults.{FlattenFault}
use Rattle.est_expand.specs.Flattening.{flattened}

-- a flat statement at its place
abbrev pub fs : ℕ → ℕ → f.Form → f.Stmt
fs start end form = f.At (at start end) form

abbrev pub made : List ℕ → List (List ℕ) → ℕ → ℕ → ℕ → List Relation → Stmt → Flat
made name signals inputs both outputs relations body = record {
  name = name;
  signals = signals;
  inputs = inputs;
  both = both;
  outputs = outputs;
  relations = relations;
  body = body;
}

-- the flat form of a program with the main module at this place
abbrev pub flattened_at : ℕ → SourceProgram → Result Flat FlattenFault
flattened_at place modules = flattened modules (slice_index_or modules place (modul (n [] 0 0) [] (At (at 0 0) Nothing)))
