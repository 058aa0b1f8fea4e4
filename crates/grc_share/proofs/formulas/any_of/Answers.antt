use Rattle.std.proofs.Common.{length, nat_lt, ap, ◌∙◌}
use Rattle.std.specs.List.{list_all}
use Rattle.base_types.specs.declared.indices.WireId.{WireId}
use Rattle.grc_graph.specs.Formulas.{any_of}
use Rattle.grc_share.specs.Renamings.{values}
use Rattle.grc_share.proofs.RenamedFormulas.{fits-all}
use Rattle.grc_share.proofs.formulas.any_of.Goals as goal

pub returns : goal.returns
returns c = λ insts names low. record {
  same = ap (λ l. any_of (values names l)) c.in_ok-list.ensures.items;
  fits = ap (list_all (λ (w : WireId). nat_lt w.0 (length names))) c.in_ok-list.ensures.items ∙ fits-all (length names) c.args.wires.now low;
}
