use Rattle.std.proofs.Common.{◌≡◌, ◌++◌, map, take}
use Rattle.std.specs.Prelude.{flat_map}
use Rattle.net_expressions.specs.Plain.{names_at}
use Rattle.net_expressions.proofs.names.+names.Given as goal

abbrev pub invariant-put_all_names-loop-part : goal.invariant-put_all_names-loop-part
invariant-put_all_names-loop-part l =
    map (λ w. w.now) l.names.items ≡ map (λ w. w.now) l.fn.names.items ++ flat_map names_at (take l.part-index l.parts)
