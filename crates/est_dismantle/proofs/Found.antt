-- What a search of a flat tree found, or did not find.
use Rattle.std.proofs.Common.{None, Some, ◌≡◌}
use Rattle.est_ast.specs.declared.flat.FlatStmt.{FlatStmt}

pub none-some : (p : FlatStmt) → None ≡ Some p → ⊥
none-some p h = cc

pub some-same : (p q : FlatStmt) → Some p ≡ Some q → p ≡ q
some-same p q h = cc
