use Rattle.std.proofs.Common.{◌∙◌}
use Rattle.base_types.specs.Codes.{maxima}
use Rattle.est_codes.proofs.CodeSets.{resumed_row}
use Rattle.est_codes.proofs.entries.Entry.beside.Goals as goal

pub returns : goal.returns
returns c p q h g = record {
  started = c.max_of.ensures ∙ λ i. maxima (h.started i) (g.started i);
  resumed = c.resumed_in_parallel.ensures ∙ resumed_row _ _ _ _ _ _ _ _ h.started h.resumed g.started g.resumed;
}
