use Rattle.std.proofs.Common.{◌≡◌, ℕ, ◌+◌, ◌<◌, List, [], ◌∷◌, ◌++◌, length, slice_index_or, sym, ap, ◌∙◌, subst, arith}
use Rattle.std.proofs.lemmas.List.{get_or-map, length-map}
use Rattle.est_kernel.specs.Plain.{program_of}
use Rattle.est_kernel.proofs.Exports.{trees_are_kernels_lem}
use Rattle.grc_graph.specs.declared.graph.Graph.{Graph}
use Rattle.grc_graph.specs.declared.instances.Instance as declared
use Rattle.grc_graph.specs.declared.neighbours.Neighbours.{Neighbours}
use Rattle.grc_graph.specs.declared.statements.Statement.{Statement}
use Rattle.grc_graph.specs.Layers.{Resumed}
use Rattle.grc_graph.specs.PlainGraphs.{instances_of, instance_at}
use Rattle.grc_graph.specs.PlainInstances.{instance_of}
use Rattle.grc_graph.proofs.Exports.{length-statements, LiveAt, own-layer}
use Rattle.grc_formulas.specs.Holdings.{AreListed, HoldingsMade}
use Rattle.grc_formulas.proofs.HoldingSteps.{holdings-begun, holdings-now, holdings-step}
use Rattle.grc_formulas.proofs.Listing.{live-number, statement-read}
use Rattle.grc_formulas.proofs.held.make_holdings.Goals as goal

reads : (g : Graph) (i : ℕ) (x : declared.Instance) → i < length g.instances.list.items → x ≡ slice_index_or g.instances.list.items i x
    → instance_at (instances_of g) i ≡ instance_of x
reads g i x low is = get_or-map instance_of g.instances.list.items i x (record { path = 0; layer = Resumed }) low ∙ ap instance_of (sym is)

at : (g : Graph) (near : Neighbours) (list : List Statement) (i : ℕ) (x : declared.Instance) → AreListed g near list → i < length g.instances.list.items
    → x ≡ slice_index_or g.instances.list.items i x → LiveAt (program_of g.program) (instance_of x).path (instance_of x).layer
at g near list i x l low is = live-number g near list i (instance_of x) l (record { low = low; same = reads g i x low is })

pub loop-i-init : goal.loop-i-init
loop-i-init c =
    let g = c.args.graph.now in
    let rs = c.args.rows.now.items in
    subst (λ ks. HoldingsMade g rs rs ks c.new-2.result.items 0) (sym c.new.ensures.items)
    (subst (λ hs. HoldingsMade g rs rs [] hs 0) (sym c.new-2.ensures.items) (holdings-begun g rs c.requires.fit))

pub bounds-statements-instance : goal.bounds-statements-instance
bounds-statements-instance c =
    let g = c.args.graph.now in
    let list = c.args.statements.now in
    let low : c.loop-i.i < length g.instances.list.items = omega (arith, c.loop-i-test.true, c.loop-i.auto) in
    let live = at g c.args.near.now list c.loop-i.i c.index-instance.result.now c.requires.listed low c.index-instance.ensures in
    omega (arith, live.within, length-statements (program_of g.program) list c.requires.listed.statements)

pub above_sources-requires-clause-made : goal.above_sources-requires-clause-made
above_sources-requires-clause-made c =
    let g = c.args.graph.now in
    let m = c.loop-i.invariant in
    subst (λ n. HoldingsMade g c.loop-i.rows.items c.loop-i.rows.items c.loop-i.made.kept.items c.loop-i.made.held.items n) (sym m.kept_all)
    (holdings-now g c.args.rows.now.items c.loop-i.rows.items c.loop-i.made.kept.items c.loop-i.made.held.items c.loop-i.i m)

pub own_source-requires-clause-statement : goal.own_source-requires-clause-statement
own_source-requires-clause-statement c =
    let g = c.args.graph.now in
    let list = c.args.statements.now in
    let low : c.loop-i.i < length g.instances.list.items = omega (arith, c.loop-i-test.true, c.loop-i.auto) in
    let live = at g c.args.near.now list c.loop-i.i c.index-instance.result.now c.requires.listed low c.index-instance.ensures in
    statement-read g c.args.near.now list c.index-instance.result.now.path.0 c.index-statements-instance.result c.requires.listed live.within
    c.index-statements-instance.is

pub loop-i-preserved : goal.loop-i-preserved
loop-i-preserved c =
    let g = c.args.graph.now in
    let list = c.args.statements.now in
    let x = c.index-instance.result.now in
    let i = c.loop-i.i in
    let low : i < length g.instances.list.items = omega (arith, c.loop-i-test.true, c.loop-i.auto) in
    let live = at g c.args.near.now list i x c.requires.listed low c.index-instance.ensures in
    let kernel = trees_are_kernels_lem g.program.body in
    let old = c.args.rows.now.items in
    let kept = c.loop-i.made.kept.items in
    let held = c.loop-i.made.held.items in
    let step = holdings-step g (instance_of x) old c.loop-i.rows.items c.above_sources.new.rows.items c.own_source.new.rows.items c.both.new.rows.items
    c.either.new.rows.items kept held i c.in_ok-above.above.kept c.in_ok-above.above.held c.in_ok-own.own c.in_ok-kept_own.kept_own c.in_ok-held.held
    kernel live.within (own-layer (program_of g.program) (instance_of x).path (instance_of x).layer live)
    (omega (arith, low, length-map g.instances.list.items instance_of)) (reads g i x low c.index-instance.ensures)
    c.loop-i.invariant c.in_ok-above.ensures c.in_ok-own.ensures c.in_ok-kept_own.ensures.rows c.in_ok-kept_own.ensures.source
    c.in_ok-held.ensures.rows c.in_ok-held.ensures.source in
    subst (λ ks. HoldingsMade g old c.either.new.rows.items ks c.push-in-loop-i.new.self.items (i + 1)) (sym c.in_ok-push.ensures.items)
    (subst (λ hs. HoldingsMade g old c.either.new.rows.items (kept ++ c.in_ok-above.above.kept ∷ []) hs (i + 1)) (sym c.in_ok-push-2.ensures.items) step)
