use Rattle.std.proofs.Common.{◌≡◌, ◌-◌, ◌*◌, ◌++◌}
use Rattle.base_types.specs.Draws.{state_after}
use Rattle.est_gen.specs.Sources.{branches_text}
use Rattle.est_gen.proofs.sources.put_branches.Given as goal

-- what is written, and what is still to write, are the whole
abbrev pub invariant-loop-number : goal.invariant-loop-number
invariant-loop-number l = record {
  text : l.text.items ++ branches_text l.number (l.branches - l.number) l.draw ≡ l.fn.text.items ++ branches_text 0 l.branches l.fn.draw;
  state : state_after (3 * (l.branches - l.number)) l.draw ≡ state_after (3 * l.branches) l.fn.draw;
}
