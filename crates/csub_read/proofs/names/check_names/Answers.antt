use Rattle.std.proofs.Common.{◌≡◌, ℕ, List, [], None, map, sym, ap, ◌∙◌, Bor}
use Rattle.std.specs.Prelude.{find}
use Rattle.std.specs.HashSet.{contains_by}
use Rattle.std.proofs.lemmas.Result.{err_from_is_err_and, on_ok_weaker}
use Rattle.base_types.specs.Names.{is_same_name}
use Rattle.net_ir.specs.NameLists.{is_among, first_again}
use Rattle.net_ir.proofs.Exports.{find-same}
use Rattle.csub_text.specs.Names.{declared, declared_twice, is_wrong, name_found, uses, undeclared}
use Rattle.csub_text.specs.Views.{program_of}
use Rattle.csub_read.specs.NameTests.{use_of, wrong_use}
use Rattle.csub_read.proofs.NameFaults.{wrong-same, uses-fault, reads-fault, names-fit}
use Rattle.csub_read.proofs.names.check_names.Goals as goal

pub returns-in_err-check_uses-clause-fault : goal.returns-in_err-check_uses-clause-fault
returns-in_err-check_uses-clause-fault c =
    let e = err_from_is_err_and c.from_residual-in_err-check_uses.result c.from_residual-in_err-check_uses.ensures.1 in
    let p = program_of c.args.program.now in
    let names : map (λ (w : Bor (List ℕ)). w.now) c.deref.result.now ≡ declared p = ap (map (λ (w : Bor (List ℕ)). w.now)) c.deref.ensures.value
    ∙ c.in_ok-declared.ensures in
    let once : declared_twice p ≡ None = ap (first_again []) (sym names) ∙ c.in_ok-known.ensures.once in
    let known = λ (n : List ℕ). contains_by (λ (k : Bor (List ℕ)). is_same_name n k.now) c.in_ok-known.known in
    let us = map use_of c.deref-2.result.now in
    let same : find (wrong_use known) us ≡ find (is_wrong (declared p)) (uses p) =
    find-same (wrong_use known) (is_wrong (declared p)) us (wrong-same known (declared p) (λ n. c.in_ok-known.ensures.members n ∙ ap (is_among n) names))
    ∙ ap (find (is_wrong (declared p))) (ap (map use_of) c.deref-2.ensures.value ∙ c.in_ok-uses.ensures) in
    rw (e.1, e.2) (uses-fault p (wrong_use known) us once same c.in_err-check_uses.field-0.0 c.in_err-check_uses.ensures.fault)

pub returns-clause-fit : goal.returns-clause-fit
returns-clause-fit c =
    let p = program_of c.args.program.now in
    let names : map (λ (w : Bor (List ℕ)). w.now) c.deref.result.now ≡ declared p = ap (map (λ (w : Bor (List ℕ)). w.now)) c.deref.ensures.value
    ∙ c.in_ok-declared.ensures in
    let once : declared_twice p ≡ None = ap (first_again []) (sym names) ∙ c.in_ok-known.ensures.once in
    let known = λ (n : List ℕ). contains_by (λ (k : Bor (List ℕ)). is_same_name n k.now) c.in_ok-known.known in
    let us = map use_of c.deref-2.result.now in
    let same : find (wrong_use known) us ≡ find (is_wrong (declared p)) (uses p) =
    find-same (wrong_use known) (is_wrong (declared p)) us (wrong-same known (declared p) (λ n. c.in_ok-known.ensures.members n ∙ ap (is_among n) names))
    ∙ ap (find (is_wrong (declared p))) (ap (map use_of) c.deref-2.ensures.value ∙ c.in_ok-uses.ensures) in
    let each : undeclared p ≡ None = ap name_found (sym same ∙ c.in_ok-check_uses.ensures.all) in
    on_ok_weaker c.check_reads.result (names-fit p once each) c.check_reads.ensures.all

pub returns-clause-fault : goal.returns-clause-fault
returns-clause-fault c =
    let p = program_of c.args.program.now in
    let names : map (λ (w : Bor (List ℕ)). w.now) c.deref.result.now ≡ declared p = ap (map (λ (w : Bor (List ℕ)). w.now)) c.deref.ensures.value
    ∙ c.in_ok-declared.ensures in
    let once : declared_twice p ≡ None = ap (first_again []) (sym names) ∙ c.in_ok-known.ensures.once in
    let known = λ (n : List ℕ). contains_by (λ (k : Bor (List ℕ)). is_same_name n k.now) c.in_ok-known.known in
    let us = map use_of c.deref-2.result.now in
    let same : find (wrong_use known) us ≡ find (is_wrong (declared p)) (uses p) =
    find-same (wrong_use known) (is_wrong (declared p)) us (wrong-same known (declared p) (λ n. c.in_ok-known.ensures.members n ∙ ap (is_among n) names))
    ∙ ap (find (is_wrong (declared p))) (ap (map use_of) c.deref-2.ensures.value ∙ c.in_ok-uses.ensures) in
    let each : undeclared p ≡ None = ap name_found (sym same ∙ c.in_ok-check_uses.ensures.all) in
    reads-fault p once each c.check_reads.result c.check_reads.ensures.fault
