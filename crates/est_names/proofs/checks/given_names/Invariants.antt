use Rattle.std.proofs.Common.{◌≡◌, ℕ, List, map, take}
use Rattle.std.specs.Prelude.{flat_map}
use Rattle.est_ast.specs.Views.{decl_of}
use Rattle.est_names.specs.Names.{texts, is_among}
use Rattle.est_names.specs.NameFaults.{given_in}
use Rattle.est_names.proofs.checks.given_names.Given as goal

abbrev pub invariant-loop-decl : goal.invariant-loop-decl
invariant-loop-decl l =
    (name : List ℕ) → is_among name l.given ≡ is_among name (texts (flat_map given_in (map decl_of (take l.decl-index l.decls))))
