use Rattle.std.proofs.Common.{◌++◌, ◌∷◌, [], length, map, sym, ap, ◌∙◌, arith}
use Rattle.std.proofs.lemmas.List.{length-map, map-append}
use Rattle.std.proofs.lemmas.List.FromFn.{map-range_with_len_more, length-map-range_with_len}
use Rattle.grc_graph.specs.Scopes.{program_scope}
use Rattle.grc_graph.specs.StatementViews.{binding_of}
use Rattle.grc_graph.proofs.StatementLists.{first_scope}
use Rattle.grc_graph.proofs.statements.program_scope.Goals as goal

pub loop-signal-preserved : goal.loop-signal-preserved
loop-signal-preserved c =
    ap (map binding_of) c.in_ok-push.ensures.items ∙ map-append binding_of c.loop-signal.table.items (c.first_binding.result ∷ [])
    ∙ (λ i. c.loop-signal.invariant i ++ c.first_binding.ensures i ∷ [])
    ∙ sym (map-range_with_len_more (program_scope c.args.inputs c.args.interface) 0 c.loop-signal.signal c.loop-signal.signal (omega arith))

pub returns-clause-length : goal.returns-clause-length
returns-clause-length c =
    sym (length-map c.loop-signal.table.items binding_of) ∙ ap length c.loop-signal.invariant
    ∙ length-map-range_with_len (program_scope c.args.inputs c.args.interface) 0 c.loop-signal.signal ∙ (omega arith)

pub returns-clause-scope : goal.returns-clause-scope
returns-clause-scope c =
    first_scope c.loop-signal.table.items c.args.inputs c.args.interface c.loop-signal.signal c.requires.inputs (omega arith) c.loop-signal.invariant
