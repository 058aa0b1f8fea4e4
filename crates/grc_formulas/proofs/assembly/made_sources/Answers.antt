use Rattle.std.proofs.Common.{arith}
use Rattle.grc_formulas.proofs.assembly.made_sources.Goals as goal

pub returns : goal.returns
returns c = record {
  early_rows = c.selected_sources.new.rows.items;
  late_rows = c.make_holdings.new.rows.items;
  early = omega (arith, c.len-early.ensures);
  selected = c.in_ok-selected.ensures;
  holdings = c.in_ok-made.ensures;
  paused = c.in_ok-paused.ensures;
}
