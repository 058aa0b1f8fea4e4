use Rattle.std.proofs.Common.{◌≡◌, ◌++◌, drop}
use Rattle.cec_prove_sources.specs.TraceTexts.{present_text}
use Rattle.cec_prove_sources.proofs.traces.push_names.Given as goal

abbrev pub invariant-loop-k : goal.invariant-loop-k
invariant-loop-k l = l.text.items ++ present_text l.event l.k (drop l.k l.names) ≡ l.initial.text.items ++ present_text l.event 0 l.names
