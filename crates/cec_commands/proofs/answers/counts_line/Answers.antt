use Rattle.std.proofs.Common.{rules, ◌≡◌, length, ap, ◌∙◌}
use Rattle.std.specs.Prelude.{decimal}
use Rattle.est_kernel.specs.Plain.{program_of}
use Rattle.cec_compile.proofs.Exports.{wire_count}
use Rattle.cec_commands.proofs.Listings.{size_counted, instances_counted, counts_pieces}
use Rattle.cec_commands.proofs.answers.counts_line.Goals as goal

pub returns : goal.returns
returns c =
    let found = c.args.found.now in
    let p = program_of found.graph.program in
    let instances : c.len.result ≡ length found.graph.instances.list.items = search rules in
    let wires : c.len-2.result ≡ length found.graph.wires.items = search rules in
    c.in_ok-text.ensures
    ∙ counts_pieces p _ _ _ _ _ c.bytes.ensures
    (c.as_bytes.ensures.value ∙ c.format.ensures.text ∙ ap decimal (size_counted found c.requires _ c.size.ensures))
    (c.as_bytes-2.ensures.value ∙ c.format-2.ensures.text ∙ ap decimal c.requires.leaves)
    (c.as_bytes-3.ensures.value ∙ c.format-3.ensures.text ∙ ap decimal (instances ∙ instances_counted found c.requires))
    (c.as_bytes-4.ensures.value ∙ c.format-4.ensures.text ∙ ap decimal (wires ∙ wire_count found.graph p c.requires.graph))
