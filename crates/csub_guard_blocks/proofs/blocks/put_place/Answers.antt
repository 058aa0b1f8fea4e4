use Rattle.std.proofs.Common.{◌≡◌, ◌+◌, ◌-◌, ◌<◌, ◌≤◌, inl, inr, Some, length, map, ap, subst, sym, arith, ◌∙◌}
use Rattle.std.proofs.lemmas.Result.{IfOk-weaker}
use Rattle.net_ir.specs.Runs.{netlist_of}
use Rattle.net_writer.specs.Parts.{PutsPlace}
use Rattle.csub_text.specs.Parts.{net_parts}
use Rattle.csub_guard_blocks.specs.Blocks.{parts_before}
use Rattle.csub_guard_blocks.specs.Pieces.{PutsPlain, text_from}
use Rattle.csub_guard_blocks.specs.Usages.{owner_in}
use Rattle.csub_guard_blocks.proofs.BlockTexts.{plain-puts, group-puts}
use Rattle.csub_guard_blocks.proofs.blocks.put_place.Goals as goal

pub returns-then-place-begin : goal.returns-then-place-begin
returns-then-place-begin c =
    let net = netlist_of c.args.net.now in
    let owners = map owner_in c.args.owners.now in
    let old = c.args.text.now.items in
    let new = c.put_plain.new.text.items in
    let low : c.args.place < length (parts_before net) = omega (arith, c.if-place-begin.true, c.gates_begin-begin.ensures.number) in
    IfOk-weaker c.put_plain.result (PutsPlain (net_parts net) c.args.place old new) (PutsPlace (text_from net owners) c.args.place old new)
    (λ next puts. plain-puts net owners c.args.place old new next (inl low) puts) c.put_plain.ensures

pub returns-then-end-place : goal.returns-then-end-place
returns-then-end-place c =
    let net = netlist_of c.args.net.now in
    let owners = map owner_in c.args.owners.now in
    let old = c.args.text.now.items in
    let new = c.put_plain-then-end-place.new.text.items in
    let count = c.len.ensures ∙ c.args.net.now.gates.ok.0 in
    let high : length (parts_before net) + length net.gates ≤ c.args.place =
    omega (arith, c.if-end-place.true, c.gates_begin-begin.ensures.number, count) in
    IfOk-weaker c.put_plain-then-end-place.result (PutsPlain (net_parts net) c.args.place old new) (PutsPlace (text_from net owners) c.args.place old new)
    (λ next puts. plain-puts net owners c.args.place old new next (inr high) puts) c.put_plain-then-end-place.ensures

pub returns : goal.returns
returns c =
    let net = netlist_of c.args.net.now in
    let owners = map owner_in c.args.owners.now in
    let old = c.args.text.now.items in
    let new = c.put_group.new.text.items in
    let begin = c.gates_begin-begin.result in
    let next = c.in_ok-next.next in
    let k = c.args.place - begin in
    let here : length (parts_before net) + k ≡ c.args.place = omega (arith, c.gates_begin-begin.ensures.number, c.if-place-begin.false) in
    let behind : length (parts_before net) + next ≡ begin + next = omega (arith, c.gates_begin-begin.ensures.number) in
    subst (λ p. PutsPlace (text_from net owners) p old new (Some (begin + next))) here
    (subst (λ q. PutsPlace (text_from net owners) (length (parts_before net) + k) old new (Some q)) behind
    (group-puts net owners k next old new c.in_ok-next.ensures.more (omega (arith, c.in_ok-next.ensures.within, c.requires.count))
    c.in_ok-next.ensures.text))
