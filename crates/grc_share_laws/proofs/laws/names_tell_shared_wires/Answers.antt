use Rattle.grc_share.specs.SharedInstances.{body_sharing}
use Rattle.grc_share.proofs.Exports.{named-one_wire, one_wire-named, wires_live}
use Rattle.grc_share_laws.proofs.laws.names_tell_shared_wires.Goals as goal

pub returns : goal.returns
returns c p u w kernel inside within =
    let K = body_sharing p.body in
    let v = wires_live p kernel u inside in
    let x = wires_live p kernel w within in
    (λ h. one_wire-named K u w v h x, λ h. named-one_wire K u w v h x)
