use Rattle.std.proofs.Common.{map, sym, ap, ◌∙◌}
use Rattle.std.specs.Prelude.{find, option_map}
use Rattle.net_ir.specs.declared.netlist.NetOut.{NetOut}
use Rattle.net_ir.specs.Runs.{netlist_of}
use Rattle.csub_embed.specs.Names.{is_reserved}
use Rattle.csub_embed.proofs.Finding.{found-input, found-output}
use Rattle.csub_embed.proofs.naming.reserved_signal.Goals as goal

pub returns-in-Some : goal.returns-in-Some
returns-in-Some c =
    found-input (netlist_of c.args.net.now) c.in-Some.word.now
    (sym (ap (option_map (λ w. w.now)) c.in-Some.is) ∙ c.reserved_input.ensures ∙ ap (find is_reserved) c.deref.ensures.value)

pub returns-in-None : goal.returns-in-None
returns-in-None c =
    found-output (netlist_of c.args.net.now) _
    (sym (ap (option_map (λ w. w.now)) c.in-None.is) ∙ c.reserved_input.ensures ∙ ap (find is_reserved) c.deref.ensures.value)
    (c.reserved_output.ensures ∙ ap (λ l. find is_reserved (map (λ (o : NetOut). o.name) l)) c.deref-in-None.ensures.value)
