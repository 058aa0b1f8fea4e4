use Rattle.std.specs.Prelude.{Vec}
use Rattle.std.specs.Option.{option_map}
use Rattle.std.specs.declared.alloc.Global.{Global}
use Rattle.std.proofs.lemmas.List.{map-set}
use Rattle.sat_kernel.specs.declared.literals.Literal.{Literal}
use Rattle.sat_kernel.proofs.kernel.put.Goals as goal

pub returns-then-place-derived : goal.returns-then-place-derived
returns-then-place-derived c = map-set (option_map (λ (v : Vec Literal Global). v.items)) c.args.derived.now c.args.place c.args.clause
