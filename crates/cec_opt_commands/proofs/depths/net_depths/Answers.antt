use Rattle.std.proofs.Common.{rules, ◌≡◌, ◌+◌, ◌<◌, ◌≤◌, ◌++◌, ◌∷◌, [], None, false, take, length, slice_index_or, sym, subst, arith}
use Rattle.std.proofs.lemmas.List.{take_more, length-take}
use Rattle.net_ir.specs.Gates.{operand_end}
use Rattle.net_ir.specs.declared.netlist.Gate.{Gate}
use Rattle.net_ir.specs.declared.netlist.Op.TheVariants.{Const}
use Rattle.blif_net.specs.Depths.{op_depth}
use Rattle.cec_opt_commands.proofs.DepthLaws.{DepthsSoFar, count_so_far, one_gate_more}
use Rattle.cec_opt_commands.proofs.depths.net_depths.Goals as goal

pub op_depth-depth-requires-clause-reads : goal.op_depth-depth-requires-clause-reads
op_depth-depth-requires-clause-reads c =
    let gates = c.args.net.now.gates.items in
    let i = c.loop-gate.gate-index in
    let first = length c.args.net.now.inputs.items + length c.args.net.now.latches.items in
    let d : Gate = record { op = Const false; wire = None } in
    let within : i < length gates = search rules in
    let low : operand_end (slice_index_or gates i d).op ≤ first + i = c.args.net.now.is_net.reads_lower i d within in
    rw (c.deref-gate-items.ensures.value, c.deref.ensures.value)
    (omega (arith, low, within, count_so_far first (take i gates) c.loop-gate.depths.items c.loop-gate.invariant, length-take i gates))

pub loop-gate-preserved : goal.loop-gate-preserved
loop-gate-preserved c =
    let gates = c.args.net.now.gates.items in
    let depths = c.loop-gate.depths.items in
    let i = c.loop-gate.gate-index in
    let first = length c.args.net.now.inputs.items + length c.args.net.now.latches.items in
    let d : Gate = record { op = Const false; wire = None } in
    let depth = c.op_depth-depth.result in
    let within : i < length gates = search rules in
    let low : operand_end (slice_index_or gates i d).op ≤ first + i = c.args.net.now.is_net.reads_lower i d within in
    let fits : operand_end (slice_index_or gates i d).op ≤ length depths =
    omega (arith, low, within, count_so_far first (take i gates) depths c.loop-gate.invariant, length-take i gates) in
    let is : depth ≡ op_depth (λ n. slice_index_or depths n 0) (slice_index_or gates i d).op =
    rw (← c.deref.ensures.value, ← c.deref-gate-items.ensures.value) c.op_depth-depth.ensures in
    let pushed : c.push.new.self.items ≡ depths ++ depth ∷ [] = search rules in
    subst (λ l. DepthsSoFar first (take (i + 1) gates) l) (sym pushed)
    (subst (λ gs. DepthsSoFar first gs (depths ++ depth ∷ [])) (sym (take_more gates i d within))
    (one_gate_more first (take i gates) depths (slice_index_or gates i d) depth c.loop-gate.invariant fits is))
