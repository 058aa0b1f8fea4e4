use Rattle.std.proofs.Common.{◌-◌, sym, ◌∙◌, arith}
use Rattle.est_kernel.specs.Plain.{program_of, term_of}
use Rattle.est_kernel.proofs.Exports.{trees_are_kernels_lem}
use Rattle.grc_share.proofs.LeastInstances.{least_first, least_other, least_same, root_of}
use Rattle.grc_share.proofs.least_members.least_instance.Goals as goal
use Rattle.grc_share.proofs.least_members.least_instance.Goals.{else-i-gt0-via-then-i-gt0+else-starts_as, else-i-gt0-via-else-i-gt0}

pub starts_as-requires-clause-first : goal.starts_as-requires-clause-first
starts_as-requires-clause-first c =
    let g = c.args.graph.now in
    root_of (program_of g.program) (trees_are_kernels_lem g.program.body) g.instances.list.items c.requires.built.instances (c.args.i - 1) c.index.result.now _
    c.requires.each c.index.ensures (omega arith)

pub starts_as-requires-clause-second : goal.starts_as-requires-clause-second
starts_as-requires-clause-second c =
    let g = c.args.graph.now in
    root_of (program_of g.program) (trees_are_kernels_lem g.program.body) g.instances.list.items c.requires.built.instances c.args.i
    c.index-then-i-gt0.result.now _ c.requires.each c.index-then-i-gt0.ensures (omega arith)

pub returns-then-starts_as : goal.returns-then-starts_as
returns-then-starts_as c =
    let g = c.args.graph.now in
    least_same (program_of g.program) (trees_are_kernels_lem g.program.body) g.instances.list.items c.requires.built.instances c.args.i (c.args.i - 1)
    c.index.result.now c.index-then-i-gt0.result.now _ (omega arith) (omega arith) c.index.ensures c.index-then-i-gt0.ensures
    (sym (c.starts_as.ensures (term_of g.program.body) c.requires.counts) ∙ c.if-starts_as.true)
    (c.requires.least (c.args.i - 1) _ (omega arith))

pub returns-else-i-gt0 : goal.returns-else-i-gt0
returns-else-i-gt0 c =
    let g = c.args.graph.now in
    elim c.else-i-gt0.branch [
      | else-i-gt0-via-then-i-gt0+else-starts_as w ↦
          least_other (program_of g.program) (trees_are_kernels_lem g.program.body) g.instances.list.items c.requires.built.instances c.args.i (c.args.i - 1)
          w.index.result.now w.index-then-i-gt0.result.now (omega arith) (omega arith) w.index.ensures w.index-then-i-gt0.ensures
          (sym (w.starts_as.ensures (term_of g.program.body) c.requires.counts) ∙ w.if-starts_as.false)
      | else-i-gt0-via-else-i-gt0 w ↦
          least_first (program_of g.program) (trees_are_kernels_lem g.program.body) g.instances.list.items c.requires.built.instances c.args.i
          (omega arith) (omega arith)
    ]
