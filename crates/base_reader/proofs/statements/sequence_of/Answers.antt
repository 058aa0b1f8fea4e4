use Rattle.std.proofs.Common.{◌<◌, length, map, sym, ◌∙◌, arith}
use Rattle.std.proofs.lemmas.List.{length-map}
use Rattle.base_reader.specs.StatementGrammar.{plain_of}
use Rattle.base_reader.proofs.StatementRows.{plain-Sequence, list_of-many}
use Rattle.base_reader.proofs.statements.sequence_of.Goals as goal

pub returns-then-len-gt1 : goal.returns-then-len-gt1
returns-then-len-gt1 c =
    let many : 1 < length (map plain_of c.args.items.items) = simp length-map (omega arith) in
    plain-Sequence c.args.items ∙ sym (list_of-many (map plain_of c.args.items.items) many)
