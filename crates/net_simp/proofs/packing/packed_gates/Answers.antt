use Rattle.std.proofs.Common.{◌≡◌, ◌+◌, ◌∷◌, [], ◌++◌, false, None, length, slice_index_or, subst, sym, refl, ap, ◌∙◌, take, arith, Vec, Global}
use Rattle.std.proofs.lemmas.List.{take_all}
use Rattle.base_types.specs.declared.indices.NetId.{NetId}
use Rattle.net_ir.specs.declared.netlist.Gate.{Gate}
use Rattle.net_ir.specs.declared.netlist.Op.TheVariants.{Const}
use Rattle.net_simp.specs.Renaming.{stand_in, renamed_op}
use Rattle.net_simp.specs.Packing.{Packed}
use Rattle.net_simp.proofs.Ranks.{numbered, packed-start, packed-next, packed-past}
use Rattle.net_simp.proofs.packing.packed_gates.Goals as goal
use Rattle.net_simp.proofs.packing.packed_gates.Goals.{then-marks-first+in_ok-push+in_ok-push-2, else-marks-first+in_ok-push-3}

pub loop-k-init : goal.loop-k-init
loop-k-init c =
    subst (λ kept. Packed c.args.first c.args.marks.now [] kept c.in_ok-names.names.items) (sym c.new-kept.ensures.items)
    (packed-start c.args.first c.args.marks.now c.in_ok-names.names.items c.requires.closed.low c.in_ok-names.ensures.count c.in_ok-names.ensures.own)

pub loop-k-preserved : goal.loop-k-preserved
loop-k-preserved c =
    let gates = c.args.gates.now in
    let marks = c.args.marks.now in
    let first = c.args.first in
    let k = c.loop-k.k in
    let names = c.loop-k.names.items in
    let kept = c.loop-k.kept.items in
    let d : Gate = record { op = Const false; wire = None } in
    let g : Gate = slice_index_or gates k d in
    elim c.if-marks-first.branch [
      | then-marks-first+in_ok-push+in_ok-push-2 w ↦
          let total : first + w.len.result ≡ first + length kept = omega (arith, c.loop-k.kept.ok.0, w.len.ensures) in
          let names_are = ap (λ (v : Vec NetId Global). v.items) w.names-is ∙ w.in_ok-push.ensures.items
          ∙ ap (λ t. names ++ numbered t ∷ []) total in
          let kept_are = ap (λ (v : Vec Gate Global). v.items) w.kept-is ∙ w.in_ok-push-2.ensures.items in
          let op = w.renamed_op-op.ensures ∙ ap (λ ns. renamed_op (stand_in ns) g.op) w.deref.ensures.value in
          packed-next first k marks gates kept c.if-marks-first.kept.items names c.if-marks-first.names.items g
          (record { op = w.renamed_op-op.result; wire = g.wire }) d c.requires.closed c.requires.reads_lower c.loop-k.invariant c.loop-k-test.true refl
          w.if-marks-first.true op refl kept_are names_are
      | else-marks-first+in_ok-push-3 w ↦
          let total : first + w.len-else-marks-first.result ≡ first + length kept = omega (arith, c.loop-k.kept.ok.0, w.len-else-marks-first.ensures) in
          let names_are = ap (λ (v : Vec NetId Global). v.items) w.names-is ∙ w.in_ok-push-3.ensures.items
          ∙ ap (λ t. names ++ numbered t ∷ []) total in
          let same = ap (λ (v : Vec Gate Global). v.items) w.kept-is in
          subst (λ gs. Packed first marks (take (k + 1) gates) gs c.if-marks-first.names.items) (sym same)
          (packed-past first k marks gates kept names c.if-marks-first.names.items d c.requires.closed c.loop-k.invariant c.loop-k-test.true
          w.if-marks-first.false names_are)
    ]

pub returns : goal.returns
returns c =
    let all = take_all c.loop-k.k c.args.gates.now (omega arith) in
    subst (λ old. Packed c.args.first c.args.marks.now old c.loop-k.kept.items c.loop-k.names.items) all c.loop-k.invariant
