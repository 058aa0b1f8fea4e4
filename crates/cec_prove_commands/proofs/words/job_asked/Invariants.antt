use Rattle.std.specs.Prelude.{option_map}
use Rattle.std.specs.String.{string_bytes}
use Rattle.std.proofs.Common.{◌≡◌, None, drop, map}
use Rattle.cec_prove_commands.specs.Views.{job_is}
use Rattle.cec_prove_commands.specs.Words.{job_asked}
use Rattle.cec_prove_commands.proofs.words.job_asked.Given as goal

abbrev pub invariant-loop-word : goal.invariant-loop-word
invariant-loop-word l =
    job_asked (job_is l.with) (option_map (λ k. k.now) l.key) (map string_bytes (drop l.word-index l.options))
    ≡ job_asked (job_is l.job) None (map string_bytes l.options)
