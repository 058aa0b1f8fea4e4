use Rattle.std.proofs.Common.{◌≡◌, map, vec_len}
use Rattle.blif_read.specs.PlainStatements.{plain_statement}
use Rattle.blif_read.specs.Drafts.{no_parts, behind, draft_parts}
use Rattle.blif_read.proofs.draft.circuit.Given as goal

-- the statements that are left, in front of the draft, are all
abbrev pub invariant-loop-statement : goal.invariant-loop-statement
invariant-loop-statement l =
    behind (map plain_statement l.statements.items) (draft_parts l.draft) ≡ behind (map plain_statement l.fn.statements.items) no_parts

abbrev pub decreases-loop-statement : goal.decreases-loop-statement
decreases-loop-statement l = vec_len l.statements
