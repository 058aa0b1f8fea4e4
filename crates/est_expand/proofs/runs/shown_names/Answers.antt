use Rattle.std.proofs.Common.{◌≡◌, ◌+◌, ◌++◌, ◌∷◌, [], map, take, get_or, false, arith}
use Rattle.std.proofs.lemmas.Grind.{common_steps}
use Rattle.est_expand.specs.declared.interface.Formal.{Formal}
use Rattle.est_names.proofs.Exports.{is_among-put}
use Rattle.est_expand.specs.Runs.{formal_names}
use Rattle.est_expand.specs.Views.{formal_of}
use Rattle.est_expand.proofs.runs.shown_names.Goals as goal

pub loop-formal-preserved : goal.loop-formal-preserved
loop-formal-preserved c = λ name.
    let none : Formal = record { name = record { ref_ptr = (0, 0); now = [] }; input = false } in
    let new = (get_or c.args.formals.now c.loop-formal.formal-index none).name.now in
    let before = formal_names (map formal_of (take c.loop-formal.formal-index c.args.formals.now)) in
    let all = formal_names (map formal_of (take (c.loop-formal.formal-index + 1) c.args.formals.now)) in
    let last : all ≡ before ++ new ∷ [] = grind (arith, common_steps) in
    is_among-put name new c.in_ok-insert.field-0 c.loop-formal.shown c.insert.new.self before all
    c.in_ok-insert.ensures.new c.in_ok-insert.ensures.names (c.loop-formal.invariant name) last
