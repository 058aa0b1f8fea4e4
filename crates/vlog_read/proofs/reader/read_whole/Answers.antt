use Rattle.std.proofs.Common.{map, sym}
use Rattle.net_expressions.specs.Reading.{makes_expr}
use Rattle.net_expressions.proofs.Exports.{whole-ended}
use Rattle.vlog_read.specs.Lexed.{kind_in}
use Rattle.vlog_read.specs.Reading.{text_rule}
use Rattle.vlog_read.specs.Sources.{plain_source}
use Rattle.vlog_read.proofs.reader.read_whole.Goals as goal

pub returns : goal.returns
returns c =
    whole-ended (text_rule makes_expr c.args.room) plain_source kind_in (map kind_in c.args.tokens.now) c.in_ok-source.source c.in_ok-ended.field-0
    c.in_ok-source.rest.now c.in_ok-source.ensures (sym c.in_ok-ended.ensures)
