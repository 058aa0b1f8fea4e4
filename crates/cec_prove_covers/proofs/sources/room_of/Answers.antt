use Rattle.est_kernel.specs.Plain.{program_of}
use Rattle.cec_prove_covers.proofs.sources.room_of.Goals as goal

pub room_beside-room-requires : goal.room_beside-room-requires
room_beside-room-requires g c = record { keeps = c.in_ok-made.ensures.compiles.keeps }

pub returns-clause-room : goal.returns-clause-room
returns-clause-room g c =
    let s = c.in_ok-made.ensures.compiles in
    record { program = program_of c.in_ok-made.made.program; stands = s.source; limits = s.limits; none = c.room_beside-room.ensures.none }
