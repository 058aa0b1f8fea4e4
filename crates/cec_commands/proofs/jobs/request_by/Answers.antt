use Rattle.std.proofs.Common.{map, sym, subst, ◌∙◌}
use Rattle.std.specs.String.{string_bytes}
use Rattle.cec_commands.specs.JobViews.{CanBeGenerated}
use Rattle.cec_commands.proofs.AskedRequests.{asked-generated}
use Rattle.cec_commands.proofs.jobs.request_by.Goals as goal

pub returns-in-Some-clause-generated : goal.returns-in-Some-clause-generated
returns-in-Some-clause-generated c =
    subst CanBeGenerated (sym c.request_asked.ensures)
    (asked-generated (map string_bytes c.args.words.now) c.in-Some.asked (sym c.read_words.ensures ∙ c.in-Some.is))
