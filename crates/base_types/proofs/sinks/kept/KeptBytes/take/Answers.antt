use Rattle.std.proofs.Common.{◌≡◌, ◌≤◌, ◌+◌, ◌-◌, ◌^◌, ◌++◌, length, take, min, arith}
use Rattle.std.proofs.lemmas.Grind.{common_steps}
use Rattle.base_types.proofs.Room.{same_kept, take-append-room, beyond_room}
use Rattle.base_types.proofs.sinks.kept.KeptBytes.take.Goals as goal

pub returns : goal.returns
returns c =
    let within : length c.self.inside.bytes.items ≤ c.self.inside.room = grind (arith, common_steps, c.self.invariant.within) in
    let kept : c.extend_from_slice.new.self.items ≡ take c.self.inside.room (c.self.inside.bytes.items ++ c.args.piece.now) =
    grind (arith, common_steps, take-append-room c.self.inside.bytes.items c.args.piece.now c.self.inside.room within) in
    let beyond : c.saturating_add-self-inside.result ≡ min (c.self.inside.beyond
    + (length c.self.inside.bytes.items + length c.args.piece.now - c.self.inside.room)) (2 ^ 64 - 1) =
    grind (arith, beyond_room (length c.self.inside.bytes.items) (length c.args.piece.now) c.self.inside.room within) in
    rw (← c.self.view_is) (same_kept c.self.inside.room kept beyond)
