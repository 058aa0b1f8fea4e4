use Rattle.std.proofs.Common.{sym, ap, ◌∙◌, arith}
use Rattle.base_types.specs.Names.{is_same_name}
use Rattle.net_ir.specs.declared.netlist.NetOut.{NetOut}
use Rattle.cec_prove_sources.proofs.FoundPlaces.{found-place}
use Rattle.cec_prove_sources.proofs.places.place_among.Goals as goal

pub returns-then-eq-clause-found : goal.returns-then-eq-clause-found
returns-then-eq-clause-found c =
    let name = c.args.name.now in
    found-place c.args.outputs.now c.loop-k.k c.index-outputs-k.result name (omega arith)
    (ap (λ (o : NetOut). is_same_name name o.name) (sym c.index-outputs-k.is) ∙ ap (is_same_name name) (sym c.bytes.ensures) ∙ sym c.if-eq.ensures)
