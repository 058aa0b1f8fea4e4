use Rattle.std.proofs.Common.{◌≡◌, length, map, None, refl, ap, sym, ◌∙◌, arith}
use Rattle.std.proofs.lemmas.List.{length-map}
use Rattle.std.proofs.lemmas.Result.{IfErr-weaker, IfOk-at_ok, IfOk-weaker}
use Rattle.est_kernel.specs.Plain.{given_count, outgoing_count}
use Rattle.net_ir.specs.declared.netlist.NetOut.{NetOut}
use Rattle.net_ir.specs.Runs.{net_run, netlist_of}
use Rattle.run_over_traces.specs.Languages.{shown_answer}
use Rattle.cec_commands.specs.Loading.{pause_count, present_count}
use Rattle.cec_commands.specs.Loads.{drawn_items}
use Rattle.cec_commands.specs.declared.commands.load.Counts.{Counts}
use Rattle.cec_commands.proofs.DrawnRuns.{drawn-fits, counts-seen}
use Rattle.cec_commands.proofs.RunLines.{given_wide, outgoing_wide}
use Rattle.cec_commands.proofs.TextSizes.{both_fit}
use Rattle.cec_commands.proofs.commands.load.summary.Goals as goal

pub net_summary-requires-clause-inputs : goal.net_summary-requires-clause-inputs
net_summary-requires-clause-inputs c =
    let s = c.in-Ok.ensures.compiles in
    let drawn = c.requires.drawn s.program s.source in
    let wide : given_count s.program ≡ 8 = omega (arith, drawn.inputs, drawn.both) in
    ap length s.compiled.keeps.inputs ∙ sym (given_wide s.program s.compiled.formed) ∙ wide

pub net_summary-requires-clause-outputs : goal.net_summary-requires-clause-outputs
net_summary-requires-clause-outputs c =
    let s = c.in-Ok.ensures.compiles in
    let drawn = c.requires.drawn s.program s.source in
    let wide : outgoing_count s.program ≡ 8 = omega (arith, drawn.outputs, drawn.both) in
    sym (length-map c.in-Ok.compiled.net.outputs.items (λ (o : NetOut). o.name)) ∙ ap length s.compiled.keeps.outputs
    ∙ sym (outgoing_wide s.program s.compiled.formed) ∙ wide

pub net_summary-requires-clause-fits : goal.net_summary-requires-clause-fits
net_summary-requires-clause-fits c = both_fit c.args.source.now None c.in-Ok.compiled c.requires.short c.in-Ok.ensures.compiles

pub returns-in-Ok-clause-text : goal.returns-in-Ok-clause-text
returns-in-Ok-clause-text c =
    let s = c.in-Ok.ensures.compiles in
    let net = netlist_of c.in-Ok.compiled.net in
    let p = s.program in
    let drawn = c.requires.drawn p s.source in
    let items = drawn_items c.args.instants c.args.draw in
    let wide : given_count p ≡ 8 = omega (arith, drawn.inputs, drawn.both) in
    let events = drawn-fits p wide drawn.relations c.args.instants c.args.draw in
    let found = s.compiled.keeps.runs items events in
    let shown = map shown_answer (net_run net items) in
    let counts : Counts = record { emitted = present_count shown; paused = pause_count shown } in
    IfOk-weaker c.text_made.result _ _ (λ text is. record {
      program = p;
      source = s.source;
      compiles = s.compiled.compiles;
      events = events;
      answers = found.0;
      constructive = found.1;
      numbers = IfOk-at_ok _ is c.net_summary.ensures
          ∙ counts-seen found.0 net items c.args.instants counts found.2 (record { emitted = refl; paused = refl });
    }) c.text_made.ensures.text

pub returns-in-Ok-clause-refuses : goal.returns-in-Ok-clause-refuses
returns-in-Ok-clause-refuses c = IfErr-weaker c.text_made.result _ _ (λ r is. rw is tt) c.text_made.ensures.refuses
