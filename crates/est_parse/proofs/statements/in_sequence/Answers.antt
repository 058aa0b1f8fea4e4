use Rattle.std.proofs.Common.{◌<◌, length, map, sym, ap, ◌∙◌, arith}
use Rattle.std.proofs.lemmas.List.{length-map}
use Rattle.est_ast.specs.Trees.{At, Seq}
use Rattle.est_ast.specs.Views.{stmt_of}
use Rattle.est_ast.proofs.Exports.{form-Seq}
use Rattle.est_parse.proofs.Lists.{stmt_list-many}
use Rattle.est_parse.proofs.statements.in_sequence.Goals as goal

pub returns-then-len-gt1 : goal.returns-then-len-gt1
returns-then-len-gt1 c =
    let many : 1 < length (map stmt_of c.args.parts.items) = simp length-map (omega arith) in
    ap (At c.args.span) (form-Seq c.args.parts) ∙ sym (stmt_list-many Seq (map stmt_of c.args.parts.items) c.args.span many)
