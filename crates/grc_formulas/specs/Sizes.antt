-- Contract: the greatest number of rows of a table of words.
use Rattle.std.specs.Prelude.{ℕ}
use Rattle.est_kernel.specs.Plain.{program_of}
use Rattle.grc_graph.specs.declared.graph.Graph.{Graph}
use Rattle.grc_graph.specs.Instances.{Instance}
use Rattle.grc_graph.specs.PlainGraphs.{instances_of}
use Rattle.grc_graph.specs.RowCosts.{rows_by, rows_over, test_of, with_lasting}
use Rattle.grc_graph.specs.Rows as listed_rows

-- a statement with its number
abbrev pub statement_row : Graph → ℕ → listed_rows.Row
statement_row g c = listed_rows.row_at (listed_rows.program_rows (program_of g.program)) c

abbrev pub instance_rows : Graph → Instance → ℕ
instance_rows g x = with_lasting g.loops (rows_by (test_of (statement_row g x.path).statement) x.layer)

-- the rows that it takes to say what an instance sees of the end of a parallel around it
abbrev pub lasting_rows : Graph → ℕ
lasting_rows g = with_lasting g.loops 0

abbrev pub rows_at_most : Graph → ℕ
rows_at_most g = rows_over (program_of g.program) (instances_of g) g.loops
