-- Contract: modules whose names can be written.
use Rattle.std.specs.Prelude.{All, IsTrue}
use Rattle.base_types.specs.Names.{is_name}
use Rattle.est_ast.specs.Trees.{Module}
use Rattle.est_expand.specs.Scopes.{main_interface, main_signals}

-- the names of a main module and of its interface can be written
pub record IsNamedModule (main : Module) : Type 0 where
  pub name : IsTrue (is_name main.name.text)
  pub names : All (λ n. IsTrue (is_name n)) (main_signals (main_interface main))
