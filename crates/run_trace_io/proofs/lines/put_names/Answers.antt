use Rattle.std.proofs.Common.{◌+◌, ◌++◌, ◌||◌, ◌∙◌, if◌then◌else◌, [], false, drop, get_or, ap, sym, arith, append_assoc}
use Rattle.run_trace_io.specs.Lines.{shown, spaced}
use Rattle.run_trace_io.proofs.Shown.{shown-drop}
use Rattle.run_trace_io.proofs.lines.put_names.Goals as goal

pub loop-k-preserved : goal.loop-k-preserved
loop-k-preserved c =
    let names = c.args.names.now in
    let present = c.args.present.now in
    let k = c.loop-k.k in
    let any = c.loop-k.any in
    let name = c.index-names-k.result in
    let text = c.loop-k.text.items in
    let here = get_or present k false in
    let rest = shown (any || here) (drop (k + 1) names) (drop (k + 1) present) in
    ap (λ a. c.put_name.new.text.items ++ shown a (drop (k + 1) names) (drop (k + 1) present)) c.in_ok-any.ensures.any
    ∙ ap (λ t. t ++ rest) c.in_ok-any.ensures.text
    ∙ append_assoc text (if here then spaced any name else []) rest
    ∙ ap (λ n. text ++ ((if here then spaced any n else []) ++ rest)) c.index-names-k.is
    ∙ ap (λ t. text ++ t) (sym (shown-drop any names present k name false (omega arith) (omega (arith, c.requires))))
    ∙ c.loop-k.invariant
