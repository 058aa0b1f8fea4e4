use Rattle.std.proofs.Common.{◌≡◌, map, take}
use Rattle.vlog_text.specs.Names.{declared}
use Rattle.vlog_read.specs.Sources.{declaration_of}
use Rattle.vlog_read.proofs.uses.declared_names.Given as goal

abbrev pub invariant-loop-declaration : goal.invariant-loop-declaration
invariant-loop-declaration l = map (λ w. w.now) l.names.items ≡ declared (map declaration_of (take l.declaration-index l.declarations))
