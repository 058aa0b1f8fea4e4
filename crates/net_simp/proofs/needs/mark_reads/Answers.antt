use Rattle.std.proofs.Common.{◌≡◌, ◌+◌, ◌-◌, ◌<◌, false, None, length, slice_index_or, subst, sym, arith}
use Rattle.net_ir.specs.declared.netlist.Gate.{Gate}
use Rattle.net_ir.specs.declared.netlist.Op.TheVariants.{Const}
use Rattle.net_simp.specs.Needs.{NeedsMet}
use Rattle.net_simp.proofs.Marking.{needs-start, needs-mark}
use Rattle.net_simp.proofs.needs.mark_reads.Goals as goal

pub loop-k-init : goal.loop-k-init
loop-k-init c = needs-start c.args.first c.args.gates.now c.args.marks.now (length c.args.gates.now) (omega arith)

pub loop-k-preserved-then-marks-first : goal.loop-k-preserved-then-marks-first
loop-k-preserved-then-marks-first c =
    let gates = c.args.gates.now in
    let k = c.loop-k.k - 1 in
    let d : Gate = record { op = Const false; wire = None } in
    let e : c.loop-k.k ≡ k + 1 = omega arith in
    let here : k < length gates = omega arith in
    needs-mark c.args.first gates c.args.marks.now c.loop-k.marks c.mark_operands.new.marks k d c.requires.reads_lower here
    (subst (NeedsMet c.args.first gates c.args.marks.now c.loop-k.marks) e c.loop-k.invariant) c.if-marks-first.true
    c.mark_operands.ensures.count c.mark_operands.ensures.marks
