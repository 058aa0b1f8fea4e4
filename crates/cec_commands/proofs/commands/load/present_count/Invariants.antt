use Rattle.std.proofs.Common.{◌≡◌, ◌≤◌, take}
use Rattle.std.specs.Prelude.{count_by}
use Rattle.cec_commands.proofs.commands.load.present_count.Given as goal

-- of the first signals
abbrev pub invariant-loop-signal : goal.invariant-loop-signal
invariant-loop-signal l = record {
  counted : l.count ≡ count_by (λ b. b) (take l.signal-index l.present);
  few : l.count ≤ l.signal-index;
}
