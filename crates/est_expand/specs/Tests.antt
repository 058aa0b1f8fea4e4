-- To believe: tests and delays of a flat program. A name of a test is the signal that it means.
use Rattle.std.specs.Prelude.{Option, Some, None, Result, Ok, Err}
use Rattle.est_ast.specs.declared.trees.Name.{Name}
use Rattle.est_ast.specs.FlatTrees as flat
use Rattle.est_ast.specs.Trees.{Expr, Tick, Sig, Not, And, Or, Round, Square, Exprs, NoExprs, MoreExprs, Delay, Plain}
use Rattle.est_ast.specs.Trees.{Immediate, Count}
use Rattle.est_expand.specs.declared.scope.Meaning.{Meaning}
use Rattle.est_expand.specs.Faults.{FlattenFault, UnknownSignal}
use Rattle.est_expand.specs.Scopes.{NameScope, meaning}
use Rattle.est_expand.specs.Walks.{on_ok}

-- what is there, or else a fault
abbrev pub found_or : {A : Type 0} → FlattenFault → Option A → Result A FlattenFault
found_or fault (Some value) = Ok value
found_or fault None = Err fault

-- what a name of a signal means
abbrev pub signal_of : NameScope → Name → Result Meaning FlattenFault
signal_of scope name = found_or (UnknownSignal name.span) (meaning scope name.text)

abbrev mutual
  pub test : NameScope → Expr → Result flat.Expr FlattenFault
  test scope (Tick span) = Ok (flat.Tick span)
  test scope (Sig name) = on_ok (signal_of scope name) (λ s. Ok (flat.Sig s.signal))
  test scope (Not e) = on_ok (test scope e) (λ e. Ok (flat.Not e))
  test scope (And parts) = on_ok (tests scope parts) (λ parts. Ok (flat.And parts))
  test scope (Or parts) = on_ok (tests scope parts) (λ parts. Ok (flat.Or parts))
  test scope (Round e) = test scope e
  test scope (Square e) = test scope e

  pub tests : NameScope → Exprs → Result flat.Exprs FlattenFault
  tests scope NoExprs = Ok flat.NoExprs
  tests scope (MoreExprs e others) =
      on_ok (test scope e) (λ e. on_ok (tests scope others) (λ others. Ok (flat.MoreExprs e others)))

abbrev pub awaited : NameScope → Delay → Result flat.Delay FlattenFault
awaited scope (Plain event) = on_ok (test scope event) (λ event. Ok (flat.Plain event))
awaited scope (Immediate event) = on_ok (test scope event) (λ event. Ok (flat.Immediate event))
awaited scope (Count count span event) = on_ok (test scope event) (λ event. Ok (flat.Count count span event))
