use Rattle.std.proofs.Common.{◌≡◌, ℕ, List, Err, map, not, ◌&&◌, is_some, sym, ap, ◌∙◌, arith}
use Rattle.std.proofs.lemmas.Result.{err_from_is_err_and}
use Rattle.est_names.specs.Names.{is_among}
use Rattle.est_expand.specs.Faults.{BadRename}
use Rattle.est_expand.specs.Scopes.{meaning}
use Rattle.est_expand.specs.Views.{formal_of}
use Rattle.est_expand.proofs.FoundLists.{fault_stays}
use Rattle.est_expand.proofs.RunSteps.{renamed-refused, renamed-allowed}
use Rattle.est_expand.proofs.runs.given_formals.Goals as goal

pub returns-then-not-is_free : goal.returns-then-not-is_free
returns-then-not-is_free c = λ fault is.
    let formals = map formal_of c.args.formals.now in
    let given = c.loop-rename.given in
    let rename = c.rename-item.result in
    let free = λ (n : List ℕ). is_among n c.in_ok-shown.shown && not (is_some (meaning given n)) in
    let refused = ap (λ b. b && not (is_some (meaning given rename.formal.text))) (sym (c.in_ok-shown.ensures rename.formal.text))
    ∙ sym (ap free c.bytes-formal.ensures) ∙ sym c.is_free.ensures ∙ c.if-not-is_free.true in
    let the : BadRename rename.formal.span ≡ fault = cc in
    sym c.loop-rename.invariant
    ∙ renamed-refused formals c.args.scope.now given c.args.renames.now c.loop-rename.rename-index rename (omega arith) c.rename-item.is refused ∙ ap Err the

pub returns-in_err-actual : goal.returns-in_err-actual
returns-in_err-actual c =
    let p = err_from_is_err_and c.from_residual-in_err-actual.result c.from_residual-in_err-actual.ensures.1 in
    let formals = map formal_of c.args.formals.now in
    let given = c.loop-rename.given in
    let rename = c.rename-item.result in
    let free = λ (n : List ℕ). is_among n c.in_ok-shown.shown && not (is_some (meaning given n)) in
    let allowed = ap (λ b. b && not (is_some (meaning given rename.formal.text))) (sym (c.in_ok-shown.ensures rename.formal.text))
    ∙ sym (ap free c.bytes-formal.ensures) ∙ sym c.is_free.ensures ∙ c.if-not-is_free.false in
    rw (p.1, p.2) (λ fault is. sym c.loop-rename.invariant
    ∙ renamed-allowed formals c.args.scope.now given c.args.renames.now c.loop-rename.rename-index rename (omega arith) c.rename-item.is allowed
    ∙ fault_stays _ _ fault (c.in_err-actual.ensures fault is))
