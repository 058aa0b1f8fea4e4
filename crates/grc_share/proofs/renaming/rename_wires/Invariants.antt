use Rattle.std.proofs.Common.{◌≡◌, take}
use Rattle.grc_share.specs.Renamings.{renamed_wires}
use Rattle.grc_share.proofs.renaming.rename_wires.Given as goal

-- the wires so far
abbrev pub invariant-loop-w : goal.invariant-loop-w
invariant-loop-w l = l.wires.items ≡ renamed_wires l.numbers (take l.w-index l.list)
