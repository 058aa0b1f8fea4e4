use Rattle.std.proofs.Common.{◌≡◌, ℕ, ◌∙◌, ◌++◌, map, length, sym, ap}
use Rattle.std.specs.Prelude.{flat_map}
use Rattle.std.proofs.lemmas.List.{length-map}
use Rattle.std.proofs.lemmas.Result.{on_ok_weaker}
use Rattle.base_types.specs.declared.indices.SigId.{SigId}
use Rattle.est_kernel.specs.Plain.{expression_of}
use Rattle.grc_graph.specs.PlainInstances.{layer_of}
use Rattle.grc_graph.specs.Statements.{signals_in}
use Rattle.grc_graph.specs.Wires.{status_wire}
use Rattle.grc_graph.specs.Edges.{edges_if, status_to, test_to}
use Rattle.grc_dep.specs.Names.{wire_named}
use Rattle.grc_dep.specs.Found.{found_by}
use Rattle.grc_dep.proofs.Founds.{nothing_found, test_to-signals}
use Rattle.grc_dep.proofs.statuses.push_test_if.Goals as goal

pub returns-then-not-holds : goal.returns-then-not-holds
returns-then-not-holds c = λ B e. nothing_found _ _ c.args.holds _ c.if-not-holds.true

pub push_statuses-requires : goal.push_statuses-requires
push_statuses-requires c =
    let number : SigId → ℕ = λ s. s.0 in
    let e = expression_of c.args.test.now.test.now in
    let listed : map number c.deref.result.now ≡ signals_in e =
    ap (map number) c.deref.ensures.value ∙ c.in_ok-list_signals.ensures ∙ ap (λ l. map number l ++ signals_in e) c.new-signals.ensures.items in
    c.requires ∙ sym (ap length listed) ∙ length-map c.deref.result.now number

pub returns : goal.returns
returns c =
    let number : SigId → ℕ = λ s. s.0 in
    let e = expression_of c.args.test.now.test.now in
    let l = layer_of c.args.layer in
    let to = wire_named c.args.to in
    let w = c.args.lookups.now in
    let listed : map number c.deref.result.now ≡ signals_in e =
    ap (map number) c.deref.ensures.value ∙ c.in_ok-list_signals.ensures ∙ ap (λ l. map number l ++ signals_in e) c.new-signals.ensures.items in
    on_ok_weaker c.push_statuses.result (λ h B bound. h B (bound ∙ ap (map B) (sym listed))
    ∙ ap (λ ss. c.args.pairs.now.items ++ found_by w (flat_map (λ s. status_to (status_wire (B s) s l) to) ss)) listed
    ∙ ap (λ es. c.args.pairs.now.items ++ found_by w es) (sym (test_to-signals B e l to))
    ∙ ap (λ b. c.args.pairs.now.items ++ found_by w (edges_if b (test_to B e l to))) (sym c.if-not-holds.false)) c.push_statuses.ensures
