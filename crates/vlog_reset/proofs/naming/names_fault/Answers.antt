use Rattle.std.proofs.Common.{Some, sym, ap, ◌∙◌}
use Rattle.std.specs.Prelude.{option_map}
use Rattle.net_expressions.specs.NameTables.{name_told}
use Rattle.vlog_reset.proofs.naming.names_fault.Goals as goal

pub returns-in-Some-2 : goal.returns-in-Some-2
returns-in-Some-2 c = (
  sym c.reserved_name.ensures ∙ ap (option_map (λ w. w.now)) c.in_default.is,
  sym c.in_ok-name.ensures ∙ ap name_told c.in-Some-2.is ∙ ap Some (sym c.in_ok-name-2.ensures),
)

pub returns : goal.returns
returns c = record {
  free = sym c.reserved_name.ensures ∙ ap (option_map (λ w. w.now)) c.in_default.is;
  once = sym c.in_ok-name.ensures ∙ ap name_told c.in_default-2.is;
}
