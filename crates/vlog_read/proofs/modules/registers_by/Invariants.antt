use Rattle.std.proofs.Common.{◌≡◌, map, take}
use Rattle.vlog_text.specs.Views.{register_of}
use Rattle.vlog_read.specs.Registers.{register_by}
use Rattle.vlog_read.proofs.modules.registers_by.Given as goal

abbrev pub invariant-loop-name : goal.invariant-loop-name
invariant-loop-name l = map register_of l.registers.items ≡ map (register_by l.tables) (map (λ w. w.now) (take l.name-index l.names))
