use Rattle.std.proofs.Common.{◌≡◌, length, subst, arith}
use Rattle.std.specs.Prelude.{nat_lt}
use Rattle.std.proofs.lemmas.List.{length-map}
use Rattle.est_kernel.specs.Plain.{term_of, program_of, interface_count}
use Rattle.grc_graph.specs.Statements.{LocalsFit}
use Rattle.grc_graph.proofs.CodeReads.{statement_count-le}
use Rattle.grc_graph.proofs.StatementLists.{locals_fit}
use Rattle.grc_graph.proofs.statements.list_statements.Goals as goal

pub list_part-requires-clause-locals : goal.list_part-requires-clause-locals
list_part-requires-clause-locals c =
    let p = program_of c.args.program.now in
    let e : length p.signals ≡ length c.in_ok-scope.scope.items
    = omega (arith, length-map c.args.program.now.signals.items (λ s. s.name), c.in_ok-scope.ensures.length) in
    subst (λ n. LocalsFit n p.body) e
    (locals_fit p.inputs (interface_count p) (length p.signals) (λ s. nat_lt s (interface_count p)) p.body c.requires.signals)

pub list_part-requires-clause-fits : goal.list_part-requires-clause-fits
list_part-requires-clause-fits c = omega (arith, c.requires.body.size, statement_count-le (term_of c.args.program.now.body))
