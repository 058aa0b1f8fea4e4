use Rattle.std.proofs.Common.{◌≡◌, ℕ, List, [], not, map, sym, ap, ◌∙◌, Bor, None}
use Rattle.std.specs.Prelude.{find, flat_map}
use Rattle.std.specs.HashSet.{contains_by}
use Rattle.base_types.specs.Names.{is_same_name}
use Rattle.net_ir.specs.NameLists.{is_among, first_again}
use Rattle.blif_text.specs.Circuits.{driven_by, driven_again, not_driven}
use Rattle.blif_read.specs.PlainStatements.{plain_statement}
use Rattle.net_ir.proofs.Exports.{find-same}
use Rattle.blif_read.proofs.DriverFaults.{DriverFault-found}
use Rattle.blif_read.proofs.drivers.check_drivers.Goals as goal

pub returns-clause-fault : goal.returns-clause-fault
returns-clause-fault c =
    let bytes = λ (w : Bor (List ℕ)). w.now in
    let ss = map plain_statement c.args.statements.now in
    let used = map bytes c.deref-2.result.now in
    let lacks = λ (name : List ℕ). not (contains_by (λ (k : Bor (List ℕ)). is_same_name name k.now) c.in_ok-driven.driven) in
    let driven : map bytes c.deref.result.now ≡ flat_map driven_by ss = ap (map bytes) c.deref.ensures.value ∙ c.in_ok-driven_names.ensures in
    let once : driven_again ss ≡ None = ap (first_again []) (sym driven) ∙ c.in_ok-driven.ensures.once in
    let same : find lacks used ≡ not_driven ss = find-same lacks (λ name. not (is_among name (flat_map driven_by ss))) used
    (λ name. ap not (c.in_ok-driven.ensures.members name ∙ ap (is_among name) driven))
    ∙ ap (find (λ name. not (is_among name (flat_map driven_by ss)))) (ap (map bytes) c.deref-2.ensures.value ∙ c.in_ok-used_names.ensures) in
    DriverFault-found ss lacks used once same c.check_used.result c.check_used.ensures.fault
