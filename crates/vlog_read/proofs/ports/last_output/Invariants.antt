use Rattle.std.proofs.Common.{◌≡◌, ◌≤◌, length, map, take}
use Rattle.vlog_read.specs.NameTests.{last_of}
use Rattle.vlog_read.specs.Sources.{declaration_of}
use Rattle.vlog_read.proofs.ports.last_output.Given as goal

-- the last output is among those that are left
abbrev pub invariant-outputs : goal.invariant-outputs
invariant-outputs l = record {
  within : l.left ≤ length l.declarations;
  last : last_of (map declaration_of (take l.left l.declarations)) ≡ last_of (map declaration_of l.declarations);
}

abbrev pub decreases-outputs : goal.decreases-outputs
decreases-outputs l = l.left
