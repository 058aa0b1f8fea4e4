use Rattle.std.proofs.Common.{◌≡◌, ap, ◌∙◌, sym, subst}
use Rattle.std.specs.Prelude.{option_map}
use Rattle.est_kernel.specs.Plain.{program_of}
use Rattle.csub_guard_blocks.specs.Blocks.{guarded_text}
use Rattle.csub_guard_blocks.specs.Owners.{owners}
use Rattle.csub_guard_writer.specs.Regions.{region_by}
use Rattle.csub_guard_writer_laws.specs.Guarded.{GuardedRuns}
use Rattle.cec_compile.proofs.GuardedTexts.{guarded_is, own_made}
use Rattle.cec_compile.proofs.guarded_texts.guarded_made.Goals as goal

pub guarded_text-requires-clause-built : goal.guarded_text-requires-clause-built
guarded_text-requires-clause-built g c =
    own_made c.in_ok-compiled.compiled c.in_ok-compiled.ensures.compiles c.in_ok-compiled.ensures.own

pub returns-clause-made : goal.returns-clause-made
returns-clause-made g c =
    let s = c.in_ok-compiled.ensures.compiles in
    let e = c.in_ok-made.ensures in
    let by = c.in_ok-text.ensures s.program s.compiled in
    record {
      made = record {
        compiled = c.in_ok-compiled.compiled;
        source = s;
        shares = c.in_ok-compiled.ensures.own;
        follows = c.in_ok-compiled.ensures.follows;
        program = ap program_of e.program ∙ s.compiled.program;
        net = e.net s.program s.compiled;
      };
      means = record {
        regions = by.regions;
        spelled = subst (λ n. c.in_ok-text.text.items ≡ guarded_text n (owners n (region_by n by.regions))) (sym (e.net s.program s.compiled)) by.spelled;
        runs = subst (λ n. GuardedRuns c.in_ok-text.text.items n by.regions) (sym (e.net s.program s.compiled)) by.runs;
      };
    }

pub returns-clause-text : goal.returns-clause-text
returns-clause-text g c =
    let s = c.in_ok-compiled.ensures.compiles in
    guarded_is c.args.source.now (option_map (λ m. m.now) c.args.main) c.in_ok-compiled.compiled c.in_ok-text.text.items s c.in_ok-compiled.ensures.own
    (c.in_ok-text.ensures s.program s.compiled)
