use Rattle.std.proofs.Common.{map, sym}
use Rattle.csub_read.specs.Tokens.{kind_in}
use Rattle.net_expressions.proofs.Exports.{whole-ended}
use Rattle.csub_guard_read.specs.Reading.{program_in, program_rule}
use Rattle.csub_guard_read.proofs.reader.read_whole.Goals as goal

pub returns : goal.returns
returns c =
    whole-ended (program_rule c.args.room) program_in kind_in (map kind_in c.args.tokens.now) c.in_ok-program.program c.in_ok-ended.field-0
    c.in_ok-program.rest.now c.in_ok-program.ensures (sym c.in_ok-ended.ensures)
