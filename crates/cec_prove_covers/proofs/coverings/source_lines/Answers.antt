use Rattle.cec_prove_covers.proofs.coverings.source_lines.Goals as goal

pub returns-clause-lines : goal.returns-clause-lines
returns-clause-lines g c = record { flat = _; flattens = c.in_ok-flat.ensures.flattens; lines = c.in_ok-lines.ensures }
