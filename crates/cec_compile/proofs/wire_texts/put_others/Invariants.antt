use Rattle.std.proofs.Common.{◌≡◌, ◌++◌, take}
use Rattle.std.specs.List.{flat_map}
use Rattle.grc_graph.specs.PlainWireNames.{wire_name_of}
use Rattle.grc_list.specs.Listings.{wire_text}
use Rattle.cec_compile.proofs.wire_texts.put_others.Given as goal

-- the texts so far
abbrev pub invariant-loop-wire : goal.invariant-loop-wire
invariant-loop-wire l = l.text.items ≡ l.initial.text.items ++ flat_map (λ w. l.between ++ wire_text (wire_name_of w)) (take l.wire-index l.wires)
