use Rattle.std.proofs.Common.{arith, length, ◌<◌}
use Rattle.base_types.proofs.Contents.{all_read}
use Rattle.base_types.proofs.files.disk.read_open.Goals as goal

pub returns-clause-whole : goal.returns-clause-whole
returns-clause-whole g c =
    let short : length c.read_to_end.new.buf.items < c.take.result.limit =
    omega (arith, c.take.ensures.limit, c.saturating_add.ensures, c.len.ensures, c.if-len-limit.false, c.read_to_end.new.buf.small, c.read_to_end.new.buf.ok) in
    all_read (g.T.Read.remaining) c.args.reader c.take.result.inner c.args.limit c.take.result.limit _ _ c.take.ensures.inner (c.in_ok-bytes.ensures).items
    (c.in_ok-read_to_end.ensures).bytes short
