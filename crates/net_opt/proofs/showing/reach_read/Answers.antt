use Rattle.std.proofs.Common.{◌+◌, ◌-◌, ◌∙◌, arith}
use Rattle.net_ir.specs.Runs.{netlist_of}
use Rattle.net_opt.proofs.Reading.{latch-read, gate-read}
use Rattle.net_opt.proofs.showing.reach_read.Goals as goal

pub returns-then-place-first-clause-shown : goal.returns-then-place-first-clause-shown
returns-then-place-first-clause-shown c = λ P closed here all.
    let net = c.args.net.now in
    let a = c.len.ensures ∙ net.inputs.ok.0 in
    let b = c.len-2.ensures ∙ net.latches.ok.0 in
    let d = c.len-3.ensures ∙ net.inputs.ok.0 in
    let e = c.len-then-place-first.ensures ∙ net.inputs.ok.0 in
    let k = c.args.reader.0 - c.len-then-place-first.result in
    c.in_ok-reach.ensures.shown P
    (latch-read (netlist_of net) P closed c.args.reader.0 k c.index-latch.result.now
    (omega (arith, a, b, d, e, c.if-place-len.false)) (omega (arith, a, b, d, e, c.if-place-len.false, c.if-place-first.true)) c.index-latch.ensures here) all

pub returns-clause-shown : goal.returns-clause-shown
returns-clause-shown c = λ P closed here all.
    let net = c.args.net.now in
    let a = c.len.ensures ∙ net.inputs.ok.0 in
    let b = c.len-2.ensures ∙ net.latches.ok.0 in
    let d = c.len-4.ensures ∙ net.gates.ok.0 in
    let k = c.args.reader.0 - (c.len.result + c.len-2.result) in
    c.in_ok-reach_operands.ensures.shown P
    (gate-read (netlist_of net) P closed c.args.reader.0 k c.index-gate.result.now
    (omega (arith, a, b, d, c.if-place-first.false)) (omega (arith, a, b, d, c.if-place-first.false, c.if-place-first-2.false)) c.index-gate.ensures here) all
