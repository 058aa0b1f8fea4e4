use Rattle.std.proofs.Common.{◌-◌, length, map, Some, sym, ap, subst, ◌∙◌, arith}
use Rattle.est_expand.specs.Flattening.{traps_between}
use Rattle.est_expand.proofs.TrapPlaces.{IsBetween, traps_between-numbered}
use Rattle.est_expand.proofs.traps.Traps.place.Goals as goal

pub overflow_sub-result-2 : goal.overflow_sub-result-2
overflow_sub-result-2 c =
    let traps = c.self.inside.around in
    let between = traps_between c.args.name.now (map (λ b. b.0) traps) in
    let is = subst (λ m. IsBetween m (length traps) between) (sym c.find.ensures ∙ c.in_ok-found.was)
    (traps_between-numbered traps c.args.name.now c.self.invariant.numbered) in
    omega (arith, is.0, c.self.invariant.all)

pub returns : goal.returns
returns c =
    let traps = c.self.inside.around in
    let between = traps_between c.args.name.now (map (λ b. b.0) traps) in
    let is = subst (λ m. IsBetween m (length traps) between) (sym c.find.ensures ∙ c.in_ok-found.was)
    (traps_between-numbered traps c.args.name.now c.self.invariant.numbered) in
    ap (λ n. Some (n - 1 - c.in_ok-found.found.signal)) c.self.invariant.all ∙ sym is.1 ∙ ap (traps_between c.args.name.now) c.self.view_is

pub returns-in_err-found : goal.returns-in_err-found
returns-in_err-found c =
    let traps = c.self.inside.around in
    let between = traps_between c.args.name.now (map (λ b. b.0) traps) in
    rw c.from_residual.ensures
    (sym (subst (λ m. IsBetween m (length traps) between) (sym c.find.ensures ∙ c.in_err-found.was)
    (traps_between-numbered traps c.args.name.now c.self.invariant.numbered))
    ∙ ap (traps_between c.args.name.now) c.self.view_is)
