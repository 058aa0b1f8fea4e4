use Rattle.std.proofs.Common.{ℕ, ◌<◌, List, [], length, map, arith, Bor}
use Rattle.std.proofs.lemmas.List.{length-map}
use Rattle.net_ir.proofs.Exports.{new-at, keys-next}
use Rattle.run_steps.proofs.slots.slot_table.Goals as goal

pub loop-name-preserved : goal.loop-name-preserved
loop-name-preserved c =
    let bytes = λ (w : Bor (List ℕ)). w.now in
    let names = map bytes c.args.names.now in
    let i = c.loop-name.name-index in
    let low : i < length names = omega (arith, length-map c.args.names.now bytes) in
    keys-next bytes c.args.names.now i (record { ref_ptr = (0, 0); now = [] }) c.loop-name.slots.keys _ (omega arith) c.loop-name.invariant
    (new-at names c.requires i low) c.in_ok-insert.ensures.keys
