use Rattle.std.proofs.Common.{◌≡◌, Some, None, length, option_map, refl, sym, ap, ◌∙◌, subst, arith, Bor}
use Rattle.grc_formulas.specs.Testing.{TestMade}
use Rattle.est_kernel.specs.Plain.{expression_of}
use Rattle.est_kernel.specs.Reactions.{is_given}
use Rattle.est_kernel.specs.declared.signal_tests.Test.{Test}
use Rattle.grc_graph.specs.Instances.{Instance}
use Rattle.grc_graph.specs.Layers.{Resumed}
use Rattle.grc_graph.specs.Neighbouring.{names_in, instances_in}
use Rattle.grc_graph.specs.PlainGraphs.{instance_at}
use Rattle.grc_graph.specs.PlainInstances.{instance_of, layer_of}
use Rattle.grc_graph.specs.Statements.{Listed}
use Rattle.grc_graph.specs.Wires.{Go}
use Rattle.grc_graph.specs.WireTables.{IsNumberOf}
use Rattle.grc_formulas.specs.Holdings.{OwnMade}
use Rattle.grc_formulas.specs.Sizes.{statement_row}
use Rattle.grc_graph.specs.RowCosts.{test_of}
use Rattle.grc_formulas.proofs.HoldingSteps.{own-other, own-suspends, suspension-room, suspends_by}
use Rattle.grc_formulas.proofs.held.own_source.Goals as goal

pub test_source-requires-clause-place : goal.test_source-requires-clause-place
test_source-requires-clause-place c =
    let g = c.args.graph.now in
    let same = c.requires.statement.same in
    let is : test_of (statement_row g c.args.instance.path.0).statement ≡ Some (expression_of c.in-Some.test.now) =
    sym (ap (λ (y : Listed). test_of y.statement) same) ∙ sym c.suspension_test.ensures
    ∙ ap (option_map (λ (t : Bor Test). expression_of t.now)) c.in-Some.is in
    let room = suspension-room g c.args.instance.path.0 (expression_of c.in-Some.test.now) c.args.statement.now.signals.items is
    (ap (λ (y : Listed). y.signals) same) in
    omega (arith, room, ap length c.as_slice.ensures.value)

pub returns-in_ok-source-in-Resumed : goal.returns-in_ok-source-in-Resumed
returns-in_ok-source-in-Resumed c =
    let g = c.args.graph.now in
    let near = c.args.near.now in
    let n = c.args.instance.path.0 in
    let same = c.requires.statement.same in
    let is : test_of (statement_row g n).statement ≡ Some (expression_of c.in-Some.test.now) =
    sym (ap (λ (y : Listed). test_of y.statement) same) ∙ sym c.suspension_test.ensures
    ∙ ap (option_map (λ (t : Bor Test). expression_of t.now)) c.in-Some.is in
    let resumed : instance_of c.args.instance ≡ record { path = n; layer = Resumed } =
    ap (λ l. let x : Instance = record { path = n; layer = layer_of l } in x) c.in-Resumed.is in
    let here : instance_at (instances_in near) c.args.i ≡ record { path = n; layer = Resumed } =
    ap (λ xs. instance_at xs c.args.i) c.requires.instances ∙ c.requires.instance ∙ resumed in
    let go = subst (λ (x : Instance). IsNumberOf (names_in near) c.go-go.result.0 (Go x.path x.layer)) here c.go-go.ensures in
    let made = subst (λ xs. TestMade g xs (expression_of c.in-Some.test.now) 0 c.args.rows.now.items c.test_source.new.rows.items
    c.in_ok-tested-in-Resumed.tested)
    c.as_slice.ensures.value c.in_ok-tested-in-Resumed.ensures in
    let own = own-suspends g near n (expression_of c.in-Some.test.now) c.args.statement.now.signals.items c.go-go.result c.args.rows.now.items
    c.test_source.new.rows.items c.both.new.rows.items c.in_ok-tested-in-Resumed.tested c.in_ok-source-in-Resumed.source is
    (ap (λ (y : Listed). y.signals) same) c.requires.wires go made c.in_ok-source-in-Resumed.ensures.rows c.in_ok-source-in-Resumed.ensures.source in
    subst (λ x. OwnMade g x c.args.rows.now.items c.both.new.rows.items c.in_ok-source-in-Resumed.source) (sym resumed) own

pub returns-in-Started : goal.returns-in-Started
returns-in-Started c =
    let g = c.args.graph.now in
    let same = c.requires.statement.same in
    let n = c.args.instance.path.0 in
    let is : test_of (statement_row g n).statement ≡ Some (expression_of c.in-Some.test.now) =
    sym (ap (λ (y : Listed). test_of y.statement) same) ∙ sym c.suspension_test.ensures
    ∙ ap (option_map (λ (t : Bor Test). expression_of t.now)) c.in-Some.is in
    let layer = ap layer_of c.in-Started.is in
    own-other g (instance_of c.args.instance) c.args.rows.now.items (Some (expression_of c.in-Some.test.now)) c.requires.fit is
    (λ t. ap (λ l. suspends_by (is_given t.event) t.valuation (statement_row g n).scope (Some (expression_of c.in-Some.test.now)) n l) layer)

pub returns-in-None : goal.returns-in-None
returns-in-None c =
    let g = c.args.graph.now in
    let is : test_of (statement_row g c.args.instance.path.0).statement ≡ None =
    sym (ap (λ (y : Listed). test_of y.statement) c.requires.statement.same) ∙ sym c.suspension_test.ensures
    ∙ ap (option_map (λ (t : Bor Test). expression_of t.now)) c.in-None.is in
    own-other g (instance_of c.args.instance) c.args.rows.now.items None c.requires.fit is (λ t. refl)
