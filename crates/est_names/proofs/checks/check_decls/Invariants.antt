use Rattle.std.proofs.Common.{◌≡◌, [], map, drop}
use Rattle.est_ast.specs.Views.{decl_of}
use Rattle.est_names.specs.NameFaults.{decl_faults}
use Rattle.est_names.proofs.checks.check_decls.Given as goal

-- what is left has all faults
abbrev pub invariant-loop-decl : goal.invariant-loop-decl
invariant-loop-decl l = decl_faults l.given [] (map decl_of l.decls) ≡ decl_faults l.given l.seen (map decl_of (drop l.decl-index l.decls))
