use Rattle.std.proofs.Common.{sym, ap, ◌∙◌, subst}
use Rattle.net_ir.specs.Runs.{netlist_of}
use Rattle.csub_embed.specs.Faults.{IsEmbeddable, signals}
use Rattle.csub_embed.specs.Names.{is_reserved, is_type}
use Rattle.csub_embed.proofs.Finding.{none-passes, none-told}
use Rattle.csub_embed.proofs.naming.embedded_net.Goals as goal

pub returns-clause-fits : goal.returns-clause-fits
returns-clause-fits c = subst IsEmbeddable (sym c.renamed.ensures) (record {
  type_free = ap is_type c.in_ok-name.ensures ∙ sym c.is_type.ensures ∙ c.if-is_type.false;
  signals_free = none-passes is_reserved (signals (netlist_of c.args.net)) (sym c.reserved_signal.ensures ∙ none-told c.reserved_signal.result c.in_default.is);
})
