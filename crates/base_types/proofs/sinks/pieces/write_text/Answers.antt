use Rattle.std.proofs.Common.{arith}
use Rattle.base_types.proofs.Gains.{appends-twice, stops-behind, take_piece, text_at}
use Rattle.base_types.proofs.sinks.pieces.write_text.Goals as goal

pub returns-in-Err : goal.returns-in-Err
returns-in-Err g c =
    rw (← text_at c.loop-start.start c.min.result c.args.text.now) (stops-behind _ _ _ _ _ _ _ _ _ c.loop-start.invariant.so_far c.in-Err.ensures)

pub loop-start-preserved : goal.loop-start-preserved
loop-start-preserved g c =
    record {
      within = omega arith;
      so_far = rw (take_piece c.loop-start.start c.min.result c.args.text.now)
          (appends-twice _ _ _ _ _ _ _ _ c.loop-start.invariant.so_far c.in_default.ensures);
    }
