use Rattle.std.proofs.Common.{◌≡◌, drop, map}
use Rattle.base_types.specs.declared.indices.SigId.{SigId}
use Rattle.cec_opt_texts.specs.Related.{input_numbers}
use Rattle.cec_opt_texts.proofs.Named.{after_these}
use Rattle.cec_opt_texts.proofs.relations.input_numbers.Given as goal

-- the numbers so far, before those of the other names, are all
abbrev pub invariant-loop-name : goal.invariant-loop-name
invariant-loop-name l =
    after_these (map (λ (s : SigId). s.0) l.found.items) (input_numbers l.inputs (map (λ n. n.now) (drop l.name-index l.names)))
    ≡ input_numbers l.inputs (map (λ n. n.now) l.names)
