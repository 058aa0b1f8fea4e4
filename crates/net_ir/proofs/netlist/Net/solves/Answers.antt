use Rattle.std.proofs.Common.{IsTrue, ◌↔◌, arith, rules}
use Rattle.net_ir.proofs.Values.{Solves_iff}
use Rattle.net_ir.specs.Gates.{Solves}
use Rattle.net_ir.specs.Netlists.{first_gate}
use Rattle.net_ir.specs.Runs.{netlist_of}
use Rattle.net_ir.proofs.netlist.Net.solves.Goals as goal

pub returns-clause-settled : goal.returns-clause-settled
returns-clause-settled c =
    let net = c.args.self.now in
    let held : IsTrue c.equations_hold.result ↔ Solves (first_gate (netlist_of net)) net.gates.items c.args.values.now = search rules in
    let settled = Solves_iff (first_gate (netlist_of net)) net.gates.items c.args.values.now net.is_net.reads_lower (omega arith) in
    (λ t. settled.0 (held.0 t), λ e. held.1 (settled.1 e))
