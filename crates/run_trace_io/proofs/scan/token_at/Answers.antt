use Rattle.std.proofs.Common.{arith}
use Rattle.run_trace_io.proofs.Scanning.{tokens-from_name}
use Rattle.run_trace_io.proofs.scan.token_at.Goals as goal

pub returns-then-is_trace_byte : goal.returns-then-is_trace_byte
returns-then-is_trace_byte c =
    let name = c.name_end.ensures in
    (omega arith, name.some, name.within, tokens-from_name c.args.text.now c.args.at c.name_end.result name)
