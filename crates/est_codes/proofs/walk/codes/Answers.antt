use Rattle.std.proofs.Common.{[], subst}
use Rattle.est_kernel.specs.Plain.{term_of}
use Rattle.est_codes.specs.Entries.{Lists}
use Rattle.est_codes.proofs.ExitCodes.{exits_fit}
use Rattle.est_codes.proofs.walk.codes.Goals as goal

pub list_entries-requires : goal.list_entries-requires
list_entries-requires c = exits_fit _ c.requires

pub returns-clause-codes : goal.returns-clause-codes
returns-clause-codes c =
    let lists = c.in_ok-found.ensures in
    c.in_ok-entry_sets.ensures c.in_ok-found.found (term_of c.args.body.now)
    (rw c.deref.ensures.value (subst (λ old. Lists old c.list_entries.new.entries.items c.in_ok-found.found (term_of c.args.body.now))
    c.new-entries.ensures.items lists))
