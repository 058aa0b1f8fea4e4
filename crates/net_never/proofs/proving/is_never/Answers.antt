use Rattle.std.proofs.Common.{subst}
use Rattle.net_ir.specs.Runs.{netlist_of}
use Rattle.sat_kernel.specs.Clauses.{plain_assumed}
use Rattle.net_never.specs.Inductive.{Closes}
use Rattle.net_never.proofs.Induction.{inductive-never}
use Rattle.net_never.proofs.proving.is_never.Goals as goal

pub returns : goal.returns
returns c = λ yes.
    let net = netlist_of c.args.net.now in
    let invariant = plain_assumed c.args.invariant.now in
    inductive-never net (plain_assumed c.args.allowed.now) invariant c.args.bad c.args.net.now.is_net (record {
      over = c.begins.ensures.over c.if-not-begins.false;
      initial = c.begins.ensures.first c.if-not-begins.false;
      closes = subst (λ k. Closes net k invariant c.args.bad) c.in_ok-known.ensures (c.in_ok-closes.ensures yes);
    })
