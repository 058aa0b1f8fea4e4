-- Inner: plain trees with their places, as equations write them.
use Rattle.std.proofs.Common.{ℕ, ◌+◌, List, length}
use Rattle.base_types.specs.declared.place.Span.{Span}
use Rattle.est_ast.specs.declared.trees.Name.{Name}
use Rattle.est_ast.specs.declared.trees.Rename.{Rename}
use Rattle.est_ast.specs.Trees.{Decl, Stmt, At, Form, Module}

-- a place
abbrev pub at : ℕ → ℕ → Span
at start end = record { start = start; end = end }

-- a name
abbrev pub n : List ℕ → ℕ → ℕ → Name
n text start end = record { text = text; span = at start end }

-- a name at its first byte
abbrev pub v : List ℕ → ℕ → Name
v text start = n text start (start + length text)

-- a statement at its place
abbrev pub s : ℕ → ℕ → Form → Stmt
s start end form = At (at start end) form

-- a renaming
abbrev pub as_ : Name → Name → Rename
as_ actual formal = record { actual = actual; formal = formal }

abbrev pub modul : Name → List Decl → Stmt → Module
modul name decls body = record { name = name; decls = decls; body = body }
