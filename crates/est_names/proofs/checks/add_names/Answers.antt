use Rattle.std.proofs.Common.{◌≡◌, ◌+◌, ◌++◌, ◌∷◌, [], take, arith}
use Rattle.std.proofs.lemmas.Grind.{common_steps}
use Rattle.est_names.specs.Names.{texts}
use Rattle.est_names.proofs.NameSets.{is_among-put}
use Rattle.est_names.proofs.checks.add_names.Goals as goal

pub loop-name-preserved : goal.loop-name-preserved
loop-name-preserved c = λ name.
    let before = c.args.set.now ++ texts (take c.loop-name.name-index c.args.names.now) in
    let all = c.args.set.now ++ texts (take (c.loop-name.name-index + 1) c.args.names.now) in
    let last : all ≡ before ++ c.bytes.result.now ∷ [] = grind (arith, common_steps) in
    is_among-put name c.bytes.result.now c.in_ok-insert.field-0 c.loop-name.set c.insert.new.self before all
    c.in_ok-insert.ensures.new c.in_ok-insert.ensures.names (c.loop-name.invariant name) last
