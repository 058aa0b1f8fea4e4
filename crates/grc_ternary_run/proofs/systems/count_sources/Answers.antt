use Rattle.std.proofs.Common.{◌+◌, ap, arith}
use Rattle.grc_ternary_run.proofs.systems.count_sources.Goals as goal

pub returns : goal.returns
returns c =
    let given = ap (λ p. p.inputs + p.both) c.program-program.ensures in
    record {
      given = omega (arith, given);
      statements = omega (arith, c.len-statements.ensures);
      small = omega (arith, c.len-statements.ensures, c.args.words.now.selected.ok.0);
    }
