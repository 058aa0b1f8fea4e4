use Rattle.std.proofs.Common.{◌≡◌, ℕ, ◌+◌, ◌<◌, ◌≤◌, ◌++◌, ◌∷◌, ◌∙◌, List, [], map, take, length, get_or, ap, sym, arith}
use Rattle.std.specs.Prelude.{flat_map}
use Rattle.std.proofs.lemmas.List.{append-nil, map_more, flat_map_more, get_or_default, take_all}
use Rattle.est_kernel.specs.Plain.{Program, program_of}
use Rattle.est_kernel.specs.Preorder.{statement_count}
use Rattle.est_kernel.proofs.Exports.{trees_are_kernels_lem}
use Rattle.grc_graph.specs.declared.instances.Instance.{Instance}
use Rattle.grc_graph.specs.declared.instances.Layer.TheVariants as layers
use Rattle.grc_graph.specs.Edges.{edges_at}
use Rattle.grc_graph.specs.Instances.{body_instances}
use Rattle.grc_graph.specs.PlainInstances.{instance_of, layer_of}
use Rattle.grc_graph.specs.Rows.{program_rows, row_at}
use Rattle.grc_graph.proofs.Exports.{path_within, statement_read, length-statements}
use Rattle.grc_dep.specs.InstanceEdges.{instance_edges}
use Rattle.grc_dep.specs.Found.{found_by}
use Rattle.grc_dep.proofs.Founds.{found_none, pushed_2}
use Rattle.grc_dep.proofs.PartReads.{reads_row, spots_edges}
use Rattle.grc_dep.proofs.graph_edges.push_edges.Goals as goal

-- the instance that a list has at a place
abbrev first : Instance
first = record { path = record { 0 = 0 }; layer = layers.Resumed }

inside : (p : Program) (insts : List Instance) (i : ℕ) → map instance_of insts ≡ body_instances p.body → i < length insts
    → (get_or insts i first).path.0 < statement_count p.body
inside p insts i e low = path_within p.body insts i (get_or insts i first) e low (get_or_default insts i first _ low)

pub bounds-statements-instance : goal.bounds-statements-instance
bounds-statements-instance c =
    let p = program_of c.args.graph.now.program in
    let live = ap (map instance_of) c.deref-instance-items.ensures.value ∙ c.requires.built.instances in
    omega (
      arith,
      inside p c.deref-instance-items.result.now c.loop-instance.instance-index live c.loop-instance-test.true,
      length-statements p c.args.statements.now c.requires.statements,
    )

pub push_edges_at-requires : goal.push_edges_at-requires
push_edges_at-requires c =
    let p = program_of c.args.graph.now.program in
    let live = ap (map instance_of) c.deref-instance-items.ensures.value ∙ c.requires.built.instances in
    let n = (get_or c.deref-instance-items.result.now c.loop-instance.instance-index first).path.0 in
    let s = c.index-statements-instance.result in
    let low : n < statement_count p.body = inside p c.deref-instance-items.result.now c.loop-instance.instance-index live c.loop-instance-test.true in
    let reads = reads_row p c.args.graph.now.codes s n c.args.graph.now.laid_out.formed.body c.args.graph.now.code_sets low
    (statement_read p c.args.statements.now n s c.requires.statements low c.index-statements-instance.is) in
    record { codes = reads.codes; listed = reads.listed }

pub loop-instance-init : goal.loop-instance-init
loop-instance-init c = sym (ap (λ l. c.args.pairs.now.items ++ l) (found_none _) ∙ append-nil c.args.pairs.now.items)

pub loop-instance-preserved : goal.loop-instance-preserved
loop-instance-preserved c =
    let p = program_of c.args.graph.now.program in
    let W = program_rows p in
    let w = c.args.lookups.now in
    let insts = c.args.graph.now.instances.list.items in
    let same = c.deref-instance-items.ensures.value in
    let live = ap (map instance_of) same ∙ c.requires.built.instances in
    let i = c.loop-instance.instance-index in
    let x = get_or c.deref-instance-items.result.now i first in
    let n = x.path.0 in
    let s = c.index-statements-instance.result in
    let low : n < statement_count p.body = inside p c.deref-instance-items.result.now i live c.loop-instance-test.true in
    let reads = reads_row p c.args.graph.now.codes s n c.args.graph.now.laid_out.formed.body c.args.graph.now.code_sets low
    (statement_read p c.args.statements.now n s c.requires.statements low c.index-statements-instance.is) in
    let here = c.in_ok-push_edges_at.ensures (row_at W n).scope reads.signals
    ∙ λ j. c.loop-instance.pairs.items ++ found_by w (edges_at (row_at W n).scope (reads.statement j) n (layer_of x.layer)) in
    let next : map instance_of (take (i + 1) insts) ≡ map instance_of (take i insts) ++ instance_of x ∷ [] =
    map_more instance_of insts i first (omega (arith, ap length same, c.loop-instance-test.true))
    ∙ ap (λ l. map instance_of (take i insts) ++ instance_of (get_or l i first) ∷ []) (sym same) in
    pushed_2 _ _ _ _ (flat_map (instance_edges W) (map instance_of (take i insts))) (instance_edges W (instance_of x)) c.loop-instance.invariant here
    ∙ ap (λ es. c.args.pairs.now.items ++ found_by w es)
    (flat_map_more (instance_edges W) [] (map instance_of (take i insts)) (instance_of x) ∙ ap (flat_map (instance_edges W)) (sym next))

pub returns : goal.returns
returns c =
    let p = program_of c.args.graph.now.program in
    let insts = c.args.graph.now.instances.list.items in
    let i = c.loop-instance.instance-index in
    let long : length insts ≤ i = omega (arith, ap length c.deref-instance-items.ensures.value) in
    c.loop-instance.invariant
    ∙ ap (λ xs. c.args.pairs.now.items ++ found_by c.args.lookups.now (flat_map (instance_edges (program_rows p)) xs))
    (ap (map instance_of) (take_all i insts long) ∙ c.requires.built.instances)
    ∙ ap (λ es. c.args.pairs.now.items ++ found_by c.args.lookups.now es) (sym (spots_edges p (trees_are_kernels_lem c.args.graph.now.program.body)))
