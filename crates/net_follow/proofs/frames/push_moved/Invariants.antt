use Rattle.std.proofs.Common.{◌≡◌, ◌++◌, take, map}
use Rattle.net_follow.specs.Literals.{moved_equation}
use Rattle.net_follow.proofs.frames.push_moved.Given as goal

abbrev pub invariant-loop-equation : goal.invariant-loop-equation
invariant-loop-equation l = l.list.items ≡ l.initial.list.items ++ map (moved_equation l.late) (take l.equation-index l.equations)
