use Rattle.std.proofs.Common.{◌≡◌, map, drop}
use Rattle.vlog_text.specs.Names.{misplaced}
use Rattle.vlog_read.proofs.ports.misplaced.Given as goal

-- the first that is misplaced is among those that are left
abbrev pub invariant-loop-at : goal.invariant-loop-at
invariant-loop-at l =
    misplaced (map (λ w. w.now) l.ports) (map (λ w. w.now) l.expected)
    ≡ misplaced (map (λ w. w.now) (drop l.at l.ports)) (map (λ w. w.now) (drop l.at l.expected))
