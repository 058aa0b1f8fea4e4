use Rattle.std.proofs.Common.{◌≡◌, ◌++◌, drop, codes, decimal}
use Rattle.std.specs.Prelude.{flat_map}
use Rattle.grc_list.proofs.texts.put_steps.Given as goal

-- what is written, and what is still to write, are the whole
abbrev pub invariant-loop-child : goal.invariant-loop-child
invariant-loop-child l =
    l.text.items ++ flat_map (λ child. codes "." ++ decimal child) (drop l.child-index l.steps)
    ≡ l.fn.text.items ++ flat_map (λ child. codes "." ++ decimal child) l.steps
