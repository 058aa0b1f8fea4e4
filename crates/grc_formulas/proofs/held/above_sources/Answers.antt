use Rattle.std.proofs.Common.{◌≡◌, ℕ, ◌<◌, List, Option, Some, None, length, slice_index_or, sym, ap, ◌∙◌, subst, arith}
use Rattle.std.specs.Prelude.{Contains}
use Rattle.std.proofs.lemmas.List.{get_or_default}
use Rattle.est_kernel.specs.Plain.{program_of, term_of}
use Rattle.est_kernel.proofs.Exports.{trees_are_kernels_lem}
use Rattle.grc_graph.specs.declared.graph.Graph.{Graph}
use Rattle.grc_graph.specs.declared.neighbours.Neighbours.{Neighbours}
use Rattle.grc_graph.specs.declared.statements.Statement.{Statement}
use Rattle.grc_graph.specs.Instances.{Instance}
use Rattle.grc_graph.specs.Layers.{layer_above}
use Rattle.grc_graph.specs.Neighbouring.{instances_in}
use Rattle.grc_graph.specs.PlainInstances.{instance_of, layer_of}
use Rattle.grc_graph.specs.Statements.{Listed}
use Rattle.grc_graph.specs.StatementViews.{entry_view}
use Rattle.grc_graph.proofs.Exports.{LiveAround, row-around, above_above, length-statements}
use Rattle.grc_formulas.specs.Building.{with_both, both_source}
use Rattle.grc_formulas.specs.Enclosures.{around}
use Rattle.grc_formulas.specs.Holdings.{AreListed, IsLive, LastsMade}
use Rattle.grc_formulas.specs.Sizes.{statement_row}
use Rattle.grc_formulas.proofs.HoldingSteps.{above-none, above-some}
use Rattle.grc_graph.specs.WireTables.{IsNumberOf}
use Rattle.grc_formulas.proofs.Listing.{enclosing-there, live-number, statement-read, instance-before, found-below, found-at}
use Rattle.grc_formulas.proofs.held.above_sources.Goals as goal

within : (g : Graph) (near : Neighbours) (list : List Statement) (i : ℕ) (x : Instance) → AreListed g near list → IsLive g i x → x.path < length list
within g near list i x l live =
    let at = live-number g near list i x l live in
    omega (arith, at.within, length-statements (program_of g.program) list l.statements)

entry-is : (g : Graph) (near : Neighbours) (list : List Statement) (i : ℕ) (x : Instance) (s : Statement) (o : Option ℕ) → AreListed g near list → IsLive g i x
    → s ≡ slice_index_or list x.path s → around (entry_view s.control) ≡ o → around (statement_row g x.path).entry ≡ o
entry-is g near list i x s o l live read is =
    let at = live-number g near list i x l live in
    let row = statement-read g near list x.path s l at.within read in
    sym (ap (λ (y : Listed). around y.entry) row.same) ∙ is

beside : (g : Graph) (near : Neighbours) (list : List Statement) (i n : ℕ) (x : Instance) (s : Statement) → AreListed g near list → IsLive g i x
    → s ≡ slice_index_or list x.path s → around (entry_view s.control) ≡ Some n → LiveAround (program_of g.program) n x.path x.layer
beside g near list i n x s l live read is =
    row-around (program_of g.program) n x.path x.layer (live-number g near list i x l live) (entry-is g near list i x s (Some n) l live read is)

pub bounds-statements-path : goal.bounds-statements-path
bounds-statements-path c =
    within c.args.graph.now c.args.near.now c.args.statements.now (length c.args.made.now.kept.items)
    (instance_of c.args.instance) c.requires.listed c.requires.live

pub bounds-statements-path-2 : goal.bounds-statements-path-2
bounds-statements-path-2 c =
    within c.args.graph.now c.args.near.now c.args.statements.now (length c.args.made.now.kept.items)
    (instance_of c.args.instance) c.requires.listed c.requires.live

pub unreachable-requires : goal.unreachable-requires
unreachable-requires c =
    let g = c.args.graph.now in
    let x = instance_of c.args.instance in
    let i = length c.args.made.now.kept.items in
    let entry = entry-is g c.args.near.now c.args.statements.now i x c.index-statements-path.result (Some c.in-Some.n) c.requires.listed c.requires.live
    c.index-statements-path.is (ap (λ (z : Statement). around (entry_view z.control)) c.index-statements-path.is ∙ sym c.around.ensures ∙ c.in-Some.is) in
    c.in-None-find_above.ensures (subst (λ xs. Contains xs (record { path = c.in-Some.n; layer = layer_above c.in-Some.n x.layer }))
    (sym c.requires.listed.instances) (enclosing-there g i c.in-Some.n x c.requires.live entry))

pub bounds-statements-n : goal.bounds-statements-n
bounds-statements-n c =
    let g = c.args.graph.now in
    let side = beside g c.args.near.now c.args.statements.now (length c.args.made.now.kept.items) c.in-Some.n
    (instance_of c.args.instance) c.index-statements-path.result
    c.requires.listed c.requires.live c.index-statements-path.is (ap (λ (z : Statement). around (entry_view z.control)) c.index-statements-path.is
    ∙ sym c.around.ensures ∙ c.in-Some.is) in
    omega (arith, side.within, length-statements (program_of g.program) c.args.statements.now c.requires.listed.statements)

pub bounds-statements-n-in-Some-find_above : goal.bounds-statements-n-in-Some-find_above
bounds-statements-n-in-Some-find_above c =
    let g = c.args.graph.now in
    let side = beside g c.args.near.now c.args.statements.now (length c.args.made.now.kept.items) c.in-Some.n
    (instance_of c.args.instance) c.index-statements-path.result
    c.requires.listed c.requires.live c.index-statements-path.is (ap (λ (z : Statement). around (entry_view z.control)) c.index-statements-path.is
    ∙ sym c.around.ensures ∙ c.in-Some.is) in
    omega (arith, side.within, length-statements (program_of g.program) c.args.statements.now c.requires.listed.statements)

pub index-requires : goal.index-requires
index-requires c =
    let g = c.args.graph.now in
    let near = c.args.near.now in
    let list = c.args.statements.now in
    let i = length c.args.made.now.kept.items in
    let x = instance_of c.args.instance in
    let side = beside g near list i c.in-Some.n x c.index-statements-path.result c.requires.listed c.requires.live c.index-statements-path.is
    (ap (λ (z : Statement). around (entry_view z.control)) c.index-statements-path.is ∙ sym c.around.ensures ∙ c.in-Some.is) in
    let y : Instance = record { path = c.in-Some.n; layer = layer_above c.in-Some.n x.layer } in
    let found : IsNumberOf (instances_in near) c.in-Some-find_above.i.0 y = c.in-Some-find_above.ensures in
    let low = found-below g near list c.in-Some-find_above.i.0 y c.requires.listed found in
    let before = instance-before g near list i c.in-Some-find_above.i.0 x y c.requires.listed c.requires.live low
    (found-at g near list c.in-Some-find_above.i.0 y c.requires.listed found) side.before in
    omega (arith, before, c.args.made.now.kept.ok.0)

pub index-requires-in-Some : goal.index-requires-in-Some
index-requires-in-Some c =
    let g = c.args.graph.now in
    let near = c.args.near.now in
    let list = c.args.statements.now in
    let i = length c.args.made.now.kept.items in
    let x = instance_of c.args.instance in
    let side = beside g near list i c.in-Some.n x c.index-statements-path.result c.requires.listed c.requires.live c.index-statements-path.is
    (ap (λ (z : Statement). around (entry_view z.control)) c.index-statements-path.is ∙ sym c.around.ensures ∙ c.in-Some.is) in
    let y : Instance = record { path = c.in-Some.n; layer = layer_above c.in-Some.n x.layer } in
    let found : IsNumberOf (instances_in near) c.in-Some-find_above.i.0 y = c.in-Some-find_above.ensures in
    let low = found-below g near list c.in-Some-find_above.i.0 y c.requires.listed found in
    let before = instance-before g near list i c.in-Some-find_above.i.0 x y c.requires.listed c.requires.live low
    (found-at g near list c.in-Some-find_above.i.0 y c.requires.listed found) side.before in
    omega (arith, before, c.args.made.now.held.ok.0, c.requires.made.held_all)

pub returns-in-None : goal.returns-in-None
returns-in-None c =
    let g = c.args.graph.now in
    let x = instance_of c.args.instance in
    let i = length c.args.made.now.kept.items in
    let at = live-number g c.args.near.now c.args.statements.now i x c.requires.listed c.requires.live in
    let entry = entry-is g c.args.near.now c.args.statements.now i x c.index-statements-path.result None c.requires.listed c.requires.live
    c.index-statements-path.is (ap (λ (z : Statement). around (entry_view z.control)) c.index-statements-path.is ∙ sym c.around.ensures ∙ c.in-None.is) in
    above-none g x c.args.rows.now.items c.requires.made.extends.fit (trees_are_kernels_lem g.program.body) at.within entry

pub returns-in_ok-kept-in-Some : goal.returns-in_ok-kept-in-Some
returns-in_ok-kept-in-Some c =
    let g = c.args.graph.now in
    let near = c.args.near.now in
    let list = c.args.statements.now in
    let i = length c.args.made.now.kept.items in
    let x = instance_of c.args.instance in
    let n = c.in-Some.n in
    let at = live-number g near list i x c.requires.listed c.requires.live in
    let told = ap (λ (z : Statement). around (entry_view z.control)) c.index-statements-path.is ∙ sym c.around.ensures ∙ c.in-Some.is in
    let side = beside g near list i n x c.index-statements-path.result c.requires.listed c.requires.live c.index-statements-path.is told in
    let entry = entry-is g near list i x c.index-statements-path.result (Some n) c.requires.listed c.requires.live c.index-statements-path.is told in
    let y : Instance = record { path = n; layer = layer_above n x.layer } in
    let j = c.in-Some-find_above.i.0 in
    let found : IsNumberOf (instances_in near) j y = c.in-Some-find_above.ensures in
    let low = found-below g near list j y c.requires.listed found in
    let here = found-at g near list j y c.requires.listed found in
    let before = instance-before g near list i j x y c.requires.listed c.requires.live low here side.before in
    let row = statement-read g near list n c.index-statements-n.result c.requires.listed side.within c.index-statements-n.is in
    let body : term_of (slice_index_or list n c.index-statements-n.result).body.now ≡ (statement_row g n).statement =
    ap (λ (z : Statement). term_of z.body.now) (sym c.index-statements-n.is) ∙ ap (λ (z : Listed). z.statement) row.same in
    let rows = c.args.rows.now.items in
    let mid = c.lasts_source.new.rows.items in
    let lasts = c.in_ok-lasts-in-Some.lasts in
    let said : LastsMade g (statement_row g n).statement n (layer_above n x.layer) rows mid lasts =
    subst (λ l. LastsMade g (statement_row g n).statement n l rows mid lasts) c.layer_above-layer.ensures
    (subst (λ s. LastsMade g s n (layer_of c.layer_above-layer.result) rows mid lasts) body c.in_ok-lasts-in-Some.ensures) in
    let kept = c.args.made.now.kept.items in
    let held = c.args.made.now.held.items in
    let k = c.index.result.now in
    let grown = c.in_ok-kept-in-Some.ensures.rows ∙ ap (λ z. with_both mid z lasts) c.index.ensures in
    let fresh = c.in_ok-kept-in-Some.ensures.source ∙ ap (λ z. both_source mid z lasts) c.index.ensures in
    let read = c.index-in-Some.ensures ∙ get_or_default held j c.index-in-Some.result.now k (omega (arith, before, c.requires.made.held_all)) in
    above-some g x rows mid c.both.new.rows.items n j kept held (length kept) lasts c.in_ok-kept-in-Some.kept c.index-in-Some.result.now k
    (trees_are_kernels_lem g.program.body) at.within entry c.requires.made before here said grown fresh read

pub lasts_source-requires-clause-within : goal.lasts_source-requires-clause-within
lasts_source-requires-clause-within c =
    let side = beside c.args.graph.now c.args.near.now c.args.statements.now (length c.args.made.now.kept.items) c.in-Some.n
    (instance_of c.args.instance) c.index-statements-path.result
    c.requires.listed c.requires.live c.index-statements-path.is (ap (λ (z : Statement). around (entry_view z.control)) c.index-statements-path.is
    ∙ sym c.around.ensures ∙ c.in-Some.is) in
    side.within

pub lasts_source-requires-clause-root : goal.lasts_source-requires-clause-root
lasts_source-requires-clause-root c =
    let n = c.in-Some.n in
    let l = layer_of c.args.instance.layer in
    let e = c.layer_above-layer.ensures in
    ap (layer_above n) e ∙ above_above n n l (omega arith) ∙ sym e
