use Rattle.std.proofs.Common.{ℕ, List, ap, map, ◌∙◌, Bor}
use Rattle.std.specs.HashSet.{contains_by}
use Rattle.csub_guard.specs.Views.{program_of}
use Rattle.base_types.specs.Names.{is_same_name}
use Rattle.net_ir.specs.NameLists.{is_among}
use Rattle.csub_guard_read.specs.Uses.{use_of}
use Rattle.csub_guard_read.proofs.Misplacing.{again-told, unset-told}
use Rattle.csub_guard_read.proofs.places.misplaced_locals.Goals as goal

pub returns-clause-again : goal.returns-clause-again
returns-clause-again c =
    let p = program_of c.args.program.now in
    let local = λ (n : List ℕ). contains_by (λ (k : Bor (List ℕ)). is_same_name n k.now) c.in_ok-locals.locals in
    let us = ap (map use_of) c.deref-2.ensures.value ∙ c.in_ok-uses.ensures in
    again-told p local (map use_of c.deref-2.result.now) c.misplaced_among.result us
    (λ n. c.in_ok-locals.ensures n ∙ ap (is_among n) c.deref.ensures.value) c.misplaced_among.ensures.again

pub returns-clause-unset : goal.returns-clause-unset
returns-clause-unset c =
    let p = program_of c.args.program.now in
    let local = λ (n : List ℕ). contains_by (λ (k : Bor (List ℕ)). is_same_name n k.now) c.in_ok-locals.locals in
    let us = ap (map use_of) c.deref-2.ensures.value ∙ c.in_ok-uses.ensures in
    unset-told p local (map use_of c.deref-2.result.now) c.misplaced_among.result us
    (λ n. c.in_ok-locals.ensures n ∙ ap (is_among n) c.deref.ensures.value) c.misplaced_among.ensures.unset
