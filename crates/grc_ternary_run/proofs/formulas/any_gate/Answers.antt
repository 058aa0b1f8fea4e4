use Rattle.std.proofs.Common.{◌≡◌, ℕ, ◌+◌, ◌-◌, ◌<◌, List, length, drop, sym, subst, arith}
use Rattle.grc_ternary_gates.specs.declared.gates.Gate.{Gate}
use Rattle.grc_ternary_run.specs.Meanings.{NodeMade, any_meaning}
use Rattle.grc_ternary_run.proofs.Making.{any-last, any-more, is-filled, same-made}
use Rattle.grc_ternary_run.proofs.formulas.any_gate.Goals as goal

pub loop-place-init : goal.loop-place-init
loop-place-init c =
    let m = c.args.making.now in
    let list = c.args.list.now in
    let t = c.args.table.now.items in
    let some : 0 < length list = is-filled list _ c.is_empty.ensures c.if-is_empty.false in
    record {
      within = omega arith;
      made = any-last m t list (length list - 1) (record { 0 = 0 }) c.requires.ready (omega arith)
          (c.requires.fits (length list - 1) (record { 0 = 0 }) (omega arith));
    }

pub loop-place-preserved : goal.loop-place-preserved
loop-place-preserved c =
    let m = c.args.making.now in
    let list = c.args.list.now in
    let old = c.args.table.now.items in
    let t = c.loop-place.table.items in
    let some : 0 < length list = is-filled list _ c.is_empty.ensures c.if-is_empty.false in
    let place = c.loop-place.place - 1 in
    let within = c.loop-place.invariant.within in
    let test = c.loop-place-test.true in
    let next : c.loop-place.place ≡ place + 1 = omega arith in
    let before : NodeMade m old t c.loop-place.node (any_meaning (drop (place + 1) list)) =
    subst (λ n. NodeMade m old t c.loop-place.node (any_meaning (drop n list))) next c.loop-place.invariant.made in
    let made = any-more m old t list place c.loop-place.node (record { 0 = 0 }) c.requires.ready (omega arith)
    (c.requires.fits place (record { 0 = 0 }) (omega arith)) before in
    let count : c.len-wires.result ≡ length m.graph.now.wires.items = omega (arith, c.len-wires.ensures, m.graph.now.wires.ok.0) in
    let node : length m.graph.now.wires.items + length t ≡ c.len-wires.result + c.in_ok-added.added = let n = c.in_ok-added.ensures.place in omega arith in
    let N : List Gate → ℕ → Type 0 = λ xs n. NodeMade m old xs n (any_meaning (drop place list)) in
    record {
      within = omega arith;
      made = subst (λ n. N c.push_gate.new.table.items n) node
          (subst (λ xs. N xs (length m.graph.now.wires.items + length t)) (sym c.in_ok-added.ensures.table) made);
    }

pub returns : goal.returns
returns c =
    let m = c.args.making.now in
    let list = c.args.list.now in
    let none : c.loop-place.place ≡ 0 = omega arith in
    let made = subst (λ n. NodeMade m c.args.table.now.items c.loop-place.table.items c.loop-place.node (any_meaning (drop n list))) none
    c.loop-place.invariant.made in
    same-made m c.args.table.now.items c.loop-place.table.items c.loop-place.node (any_meaning list) made
