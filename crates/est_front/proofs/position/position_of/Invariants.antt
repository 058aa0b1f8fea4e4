use Rattle.std.proofs.Common.{◌≡◌, ◌+◌, ◌≤◌, drop, fold}
use Rattle.est_front.specs.Positions.{position, behind}
use Rattle.est_front.proofs.position.position_of.Given as goal

abbrev pub invariant-loop-byte : goal.invariant-loop-byte
invariant-loop-byte l =
    (fold behind (record { line = l.line; column = l.column }) (drop l.byte-index l.byte-items) ≡ position l.source l.place)
    × (l.line ≤ l.byte-index + 1) × (l.column ≤ l.byte-index + 1)
