use Rattle.std.proofs.Common.{◌∙◌, ℕ, List, [], ap, map, Some, Bor}
use Rattle.std.specs.Prelude.{find}
use Rattle.std.specs.HashSet.{contains_by}
use Rattle.csub_guard.specs.Views.{program_of}
use Rattle.csub_guard.specs.Names.{all_uses, written_uses}
use Rattle.base_types.specs.Names.{is_same_name}
use Rattle.csub_guard_read.specs.Undeclared.{wrong_in}
use Rattle.csub_guard_read.specs.Uses.{use_of}
use Rattle.csub_guard_read.proofs.UseLaws.{name_found, wrong-found}
use Rattle.csub_guard_read.proofs.undeclared.undeclared.Goals as goal

pub returns-in-Some : goal.returns-in-Some
returns-in-Some c =
    let p = program_of c.args.program.now in
    let known = c.in_ok-known.known in
    ap Some c.used_name.ensures
    ∙ ap name_found (c.in-Some.ensures ∙ ap (find (wrong_in known)) (ap (map use_of) c.deref.ensures.value ∙ c.in_ok-uses.ensures))
    ∙ wrong-found p (λ n. contains_by (λ (k : Bor (List ℕ)). is_same_name n k.now) known.declared)
    (λ n. contains_by (λ (k : Bor (List ℕ)). is_same_name n k.now) known.locals) c.in_ok-known.ensures.declared c.in_ok-known.ensures.locals []
    (all_uses written_uses p)

pub returns : goal.returns
returns c =
    let p = program_of c.args.program.now in
    let known = c.in_ok-known.known in
    ap name_found (c.in-None.ensures ∙ ap (find (wrong_in known)) (ap (map use_of) c.deref.ensures.value ∙ c.in_ok-uses.ensures))
    ∙ wrong-found p (λ n. contains_by (λ (k : Bor (List ℕ)). is_same_name n k.now) known.declared)
    (λ n. contains_by (λ (k : Bor (List ℕ)). is_same_name n k.now) known.locals) c.in_ok-known.ensures.declared c.in_ok-known.ensures.locals []
    (all_uses written_uses p)
