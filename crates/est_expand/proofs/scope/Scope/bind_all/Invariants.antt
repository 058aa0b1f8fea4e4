use Rattle.std.proofs.Common.{◌≡◌, ◌+◌, map, drop}
use Rattle.est_expand.specs.Scopes.{binding}
use Rattle.est_expand.proofs.scope.Scope.bind_all.Given as goal

-- what is left of the names gives the scope
abbrev pub invariant-loop-name : goal.invariant-loop-name
invariant-loop-name l = record {
  number : l.signal ≡ l.first + l.name-index;
  left : binding l.input (map (λ name. name.now) (drop l.name-index l.names)) l.signal l.self
      ≡ binding l.input (map (λ name. name.now) l.names) l.first l.fn.self;
}
