use Rattle.std.proofs.Common.{ℕ, List, [], arith, Bor}
use Rattle.net_ir.proofs.Exports.{members-next}
use Rattle.net_expressions.proofs.tables.name_set.Goals as goal

pub loop-name-preserved : goal.loop-name-preserved
loop-name-preserved c =
    let bytes = λ (w : Bor (List ℕ)). w.now in
    let none : Bor (List ℕ) = record { ref_ptr = (0, 0); now = [] } in
    λ n. members-next bytes c.args.names.now c.loop-name.name-index none (omega arith) n _ _ (c.loop-name.invariant n)
    (c.in_ok-insert.ensures.updates.0 (record { ref_ptr = (0, 0); now = n }))
