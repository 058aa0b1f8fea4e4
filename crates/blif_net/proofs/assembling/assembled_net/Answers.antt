use Rattle.blif_net.proofs.assembling.assembled_net.Goals as goal

pub returns : goal.returns
returns c = record {
  named = c.in_ok-named.named;
  are_named = rw c.deref.ensures.value at c.in_ok-named.ensures;
  net_is = c.joined_net.ensures;
}
