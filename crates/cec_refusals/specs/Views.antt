-- Inner: the plain form of what a line speaks of.
use Rattle.cec_refusals.specs.RefusalLines.{RefusalSubject}
use Rattle.cec_refusals.specs.declared.lines.RefusedSource as sources

abbrev pub refused_is : sources.RefusedSource → RefusalSubject
refused_is s = record { program = s.program.now; name = s.name.now; main = s.main.now; source = s.source.now }
