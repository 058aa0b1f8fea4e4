use Rattle.grc_formulas.proofs.EndSteps.{paused-made}
use Rattle.grc_formulas.proofs.assembly.paused_source.Goals as goal

pub returns : goal.returns
returns c =
    paused-made c.args.graph.now c.args.near.now c.find_end.result c.find_end-2.result c.wire_source-resumed.result c.wire_source-started.result
    c.in_ok-paused.paused c.args.rows.now.items c.either.new.rows.items c.requires.names c.requires.fit c.find_end.ensures c.find_end-2.ensures
    c.wire_source-resumed.ensures c.wire_source-started.ensures c.in_ok-paused.ensures.rows c.in_ok-paused.ensures.source
