use Rattle.std.proofs.Common.{◌≡◌, Bool, true, subst}
use Rattle.net_follow.specs.Literals.{meets_clause}
use Rattle.net_follow.specs.Proving.{Shown}
use Rattle.net_follow.proofs.Clausal.{shown-equation}
use Rattle.net_follow.proofs.proving.Prover.follows.Goals as goal

pub returns : goal.returns
returns c =
    let old = c.args.self.now in
    let one = c.shows.new.self in
    let two = c.shows-2.new.self in
    let p = c.from_parts.result in
    let q = c.to_left.result in
    let first = subst (λ (b : Bool). Shown (λ V. meets_clause V p ≡ true) old one b) c.if-not-branch.false c.in_ok-shows.ensures in
    let second = subst (λ (b : Bool). Shown (λ V. meets_clause V q ≡ true) one two b) c.if-not-branch-2.false c.in_ok-shows-2.ensures in
    shown-equation c.args.equation p q c.to_right.result old one two c.shows-3.new.self c.in_ok-shows-3.field-0 c.from_parts.ensures c.to_left.ensures
    c.to_right.ensures first second c.in_ok-shows-3.ensures
