use Rattle.std.proofs.Common.{subst}
use Rattle.cec_compile.specs.WireGroups.{SharesWires, is_shared}
use Rattle.cec_opt_commands.proofs.counts.source_counts.Goals as goal

pub light_lines-requires-clause-stands : goal.light_lines-requires-clause-stands
light_lines-requires-clause-stands c = let s = c.in_ok-compiled.ensures.compiles in (s.program, s.compiled)

pub returns-clause-lines : goal.returns-clause-lines
returns-clause-lines c =
    let compiled = c.in_ok-compiled.compiled in
    let s = c.in_ok-compiled.ensures.compiles in
    let lines = c.in_ok-lines.ensures s.program s.compiled in
    record {
      compiled = compiled;
      net = lines.0;
      light = record {
        stands = s;
        shares = subst (λ q. SharesWires q (is_shared compiled.graph)) s.compiled.program c.in_ok-compiled.ensures.shares;
        light = lines.1;
      };
      is = lines.2;
    }
