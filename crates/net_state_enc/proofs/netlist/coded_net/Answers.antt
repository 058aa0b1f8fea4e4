use Rattle.std.proofs.Common.{◌≡◌, ◌+◌, ◌∷◌, ◌∙◌, true, false, length, subst, sym, ap, arith, Vec, Global}
use Rattle.std.specs.Prelude.{replicate}
use Rattle.std.proofs.lemmas.List.{length-map}
use Rattle.net_ir.specs.Netlists.{IsNet}
use Rattle.net_ir.specs.Runs.{netlist_of}
use Rattle.net_simp.specs.Renaming.{stand_in}
use Rattle.net_state_enc.specs.declared.codes.Literal.{Literal}
use Rattle.net_state_enc.specs.Drafts.{literals_of}
use Rattle.net_state_enc.specs.Recodings.{coded_net, IsCodedNet}
use Rattle.net_state_enc.proofs.CodedNets.{drawn-is-net, is-coded-net}
use Rattle.net_state_enc.proofs.netlist.coded_net.Goals as goal

pub net_around-requires-clause-is_net : goal.net_around-requires-clause-is_net
net_around-requires-clause-is_net c =
    let old = c.args.net.now in
    let net = netlist_of old in
    let made = c.in_ok-names.field-0 in
    let codes = literals_of c.args.codes.now in
    let many = length-map c.args.codes.now (λ (x : Vec Literal Global). x.items) in
    let count : length codes + 1 ≡ length net.latches = (let q = c.requires.count in omega (arith, many)) in
    let inits = c.requires.inits ∙ ap (λ n. true ∷ replicate n false) (sym many) in
    let is = drawn-is-net net c.args.width codes made.names.items made.gates.items made.bits.items old.is_net count inits c.in_ok-names.ensures in
    subst (λ ns. IsNet (coded_net net (stand_in ns) made.gates.items c.deref-2.result.now)) (sym c.deref.ensures.value)
    (subst (λ bs. IsNet (coded_net net (stand_in made.names.items) made.gates.items bs)) (sym c.deref-2.ensures.value) is)

pub returns-clause-coded : goal.returns-clause-coded
returns-clause-coded c =
    let old = c.args.net.now in
    let net = netlist_of old in
    let made = c.in_ok-names.field-0 in
    let codes = literals_of c.args.codes.now in
    let many = length-map c.args.codes.now (λ (x : Vec Literal Global). x.items) in
    let count : length codes + 1 ≡ length net.latches = (let q = c.requires.count in omega (arith, many)) in
    let inits = c.requires.inits ∙ ap (λ n. true ∷ replicate n false) (sym many) in
    let is = is-coded-net net c.args.width codes made.names.items made.gates.items made.bits.items old.is_net count inits c.in_ok-names.ensures in
    subst (λ new. IsCodedNet net new c.args.width codes)
    (sym (c.in_ok-made.ensures ∙ (λ i. coded_net net (stand_in (c.deref.ensures.value i)) made.gates.items (c.deref-2.ensures.value i)))) is
