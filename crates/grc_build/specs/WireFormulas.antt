-- Inner: the formula of each wire of a program's graph, by its name.
use Rattle.std.specs.Prelude.{nat_lt, ◌++◌}
use Rattle.est_kernel.specs.Plain.{Program, given_count}
use Rattle.grc_graph.specs.Equations.{emissions, end_formula}
use Rattle.grc_graph.specs.Formulas.{Formula, Input, any_of}
use Rattle.grc_graph.specs.GraphRuns.{program_spots}
use Rattle.grc_graph.specs.Rows.{program_rows, row_at, entry_formula}
use Rattle.grc_graph.specs.Wires.{Wire, Out, Go, StatusOf, End}
use Rattle.grc_build.specs.Meanings.{formula_if}

abbrev pub wire_formula : Program → Wire → Formula
wire_formula p (Out s) = any_of (formula_if (nat_lt s (given_count p)) (Input s) ++ emissions (Out s) (program_spots p))
wire_formula p (Go n l) = entry_formula (row_at (program_rows p) n).scope (row_at (program_rows p) n).entry n l
wire_formula p (StatusOf n l) = any_of (emissions (StatusOf n l) (program_spots p))
wire_formula p (End n l k) = end_formula (row_at (program_rows p) n).scope (row_at (program_rows p) n).statement n l k
