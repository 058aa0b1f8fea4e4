use Rattle.std.proofs.Common.{◌≡◌, ◌++◌, ◌+◌, ◌*◌, ◌<◌, ℕ, length, map, vec_len}
use Rattle.base_expressions.specs.declared.language.Joint.{Joint}
use Rattle.base_expressions.specs.declared.language.Joint.TheVariants as joints
use Rattle.base_expressions.specs.Reading.{list_of, tier, below, list_step, inside}
use Rattle.base_reader.specs.Readings.{mapped, loop}
use Rattle.base_expressions.proofs.reader.+tiers.Given as goal

abbrev height : Joint → ℕ
height joints.And = 1
height joints.Or = 3

abbrev pub decreases-read_part : goal.decreases-read_part
decreases-read_part g l = l.room * 8

abbrev pub decreases-read_below : goal.decreases-read_below
decreases-read_below g l = l.room * 8 + height l.joint

abbrev pub decreases-read_joined : goal.decreases-read_joined
decreases-read_joined g l = l.room * 8 + height l.joint + 1

-- What was read so far, in front of the steps on the rest, is the whole.
abbrev pub invariant-read_joined-loop-behind : goal.invariant-read_joined-loop-behind
invariant-read_joined-loop-behind g l =
    let lang = g.L.ExprLanguage in
    record {
      some : 0 < vec_len l.parts;
      whole : mapped (λ others. list_of (lang.tiers.joined l.joint) (map lang.tree_of l.parts.items ++ others))
          (loop (list_step (lang.tiers.mark l.joint) (below lang.tiers l.joint l.room (inside lang.tiers l.room)))) (map lang.token_of l.rest)
          ≡ tier lang.tiers l.joint l.room (inside lang.tiers l.room) (map lang.token_of l.tokens);
    }

abbrev pub decreases-read_joined-loop-behind : goal.decreases-read_joined-loop-behind
decreases-read_joined-loop-behind g l = length l.rest
