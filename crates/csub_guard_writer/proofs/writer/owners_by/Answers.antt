use Rattle.std.proofs.Common.{◌≡◌, IfOk, All, length, map, ap, refl, sym, ◌∙◌, arith}
use Rattle.std.proofs.lemmas.List.{length-map}
use Rattle.std.proofs.lemmas.Result.{IfOk-weaker}
use Rattle.std.specs.declared.vec.Vec.{Vec}
use Rattle.std.specs.declared.alloc.Global.{Global}
use Rattle.net_ir.specs.Runs.{netlist_of}
use Rattle.csub_guard_blocks.specs.Blocks.{HasHead}
use Rattle.csub_guard_blocks.specs.Owners.{owners}
use Rattle.csub_guard_blocks.specs.Usages.{owner_in, region_in}
use Rattle.csub_guard_blocks.specs.declared.owning.Owner.{Owner as OwnerCode}
use Rattle.csub_guard_writer.specs.Regions.{region_by}
use Rattle.csub_guard_writer.proofs.GateRegions.{heads-fit}
use Rattle.csub_guard_writer.proofs.OwnerFits.{many}
use Rattle.csub_guard_writer.proofs.OwnersFound.{owners-found, heads-found}
use Rattle.csub_guard_writer.proofs.writer.owners_by.Goals as goal

found : (c : goal.After-drop-of_gates) → (o : Vec OwnerCode Global) → map owner_in o.items ≡ owners (netlist_of c.args.net.now) (region_in c.deref.result.now)
    → map owner_in o.items ≡ owners (netlist_of c.args.net.now) (region_by (netlist_of c.args.net.now) c.args.regions.now)
found c o made =
    owners-found (netlist_of c.args.net.now) c.args.regions.now c.in_ok-of_gates.of_gates.items c.deref.result.now o.items o.items
    c.in_ok-of_gates.ensures.are c.deref.ensures.value made refl

pub returns-clause-are : goal.returns-clause-are
returns-clause-are c =
    let net = netlist_of c.args.net.now in
    IfOk-weaker c.owners.result (λ o. map owner_in o.items ≡ owners net (region_in c.deref.result.now))
    (λ o. map owner_in o.items ≡ owners net (region_by net c.args.regions.now)) (λ o made. found c o made) c.owners.ensures

pub returns-clause-count : goal.returns-clause-count
returns-clause-count c =
    let net = netlist_of c.args.net.now in
    let all = many net c.requires (region_by net c.args.regions.now) (heads-fit net c.args.regions.now) in
    IfOk-weaker c.owners.result (λ o. map owner_in o.items ≡ owners net (region_in c.deref.result.now)) (λ o. length o.items ≡ length net.gates)
    (λ o made. omega (arith, length-map o.items owner_in, ap length (found c o made), all)) c.owners.ensures

pub returns-clause-heads : goal.returns-clause-heads
returns-clause-heads c =
    let net = netlist_of c.args.net.now in
    IfOk-weaker c.owners.result (λ o. map owner_in o.items ≡ owners net (region_in c.deref.result.now))
    (λ o. All (λ x. HasHead (length net.gates) (owner_in x)) o.items)
    (λ o made. heads-found net c.requires c.args.regions.now o.items (found c o made)) c.owners.ensures
