use Rattle.std.proofs.Common.{◌≡◌, ◌∙◌, ℕ, List, None, Some, sym, ap, map, Bor}
use Rattle.std.specs.Prelude.{find}
use Rattle.std.specs.HashSet.{contains_by}
use Rattle.base_types.specs.Names.{is_same_name}
use Rattle.net_ir.specs.NameLists.{is_among}
use Rattle.net_expressions.specs.Names.{or_else}
use Rattle.net_expressions.specs.NameTables.{name_told}
use Rattle.vlog_text.specs.Names.{interface_names, misplaced, portless, ill_named, other_clock, declaration_found}
use Rattle.vlog_read.specs.NameTests.{lacks_port, ill_by, first_of, last_of}
use Rattle.vlog_read.specs.Sources.{declaration_of, plain_source}
use Rattle.vlog_read.proofs.NameLaws.{portless-is, ill_named-is, first-found, none-found, told-or}
use Rattle.vlog_read.proofs.ports.wrong_port.Goals as goal

pub returns-in-Some-portless : goal.returns-in-Some-portless
returns-in-Some-portless c =
    let s = plain_source c.args.source.now in
    let ports = ap (map (λ (w : Bor (List ℕ)). w.now)) c.deref-2.ensures.value in
    let expected : map (λ (w : Bor (List ℕ)). w.now) c.deref-3.result.now ≡ interface_names s.declarations =
    ap (map (λ (w : Bor (List ℕ)). w.now)) c.deref-3.ensures.value ∙ c.in_ok-expected.ensures
    ∙ ap (λ l. interface_names (map declaration_of l)) c.deref.ensures.value in
    let placed : misplaced s.ports (interface_names s.declarations) ≡ None =
    sym (c.in_default.ensures ∙ ap (λ l. misplaced l (map (λ (w : Bor (List ℕ)). w.now) c.deref-3.result.now)) ports ∙ ap (misplaced s.ports) expected) in
    let known = λ (n : List ℕ). contains_by (λ (k : Bor (List ℕ)). is_same_name n k.now) c.in_ok-ports.ports in
    let same : (n : List ℕ) → known n ≡ is_among n s.ports =
    λ n. c.in_ok-ports.ensures n ∙ ap (is_among n) (ap (map (λ (w : Bor (List ℕ)). w.now)) c.deref-4.ensures.value) in
    let found : portless s ≡ Some c.in-Some-portless.name.now =
    sym (c.in-Some-portless.ensures ∙ ap (λ l. declaration_found (find (lacks_port known) (map declaration_of l))) c.deref-5.ensures.value
    ∙ portless-is s known same) in
    let later = or_else (ill_named s) (other_clock s) in
    sym (none-found (misplaced s.ports (interface_names s.declarations)) (or_else (portless s) later) placed
    ∙ first-found (portless s) later c.in-Some-portless.name.now found)

pub returns : goal.returns
returns c =
    let s = plain_source c.args.source.now in
    let ports = ap (map (λ (w : Bor (List ℕ)). w.now)) c.deref-2.ensures.value in
    let expected : map (λ (w : Bor (List ℕ)). w.now) c.deref-3.result.now ≡ interface_names s.declarations =
    ap (map (λ (w : Bor (List ℕ)). w.now)) c.deref-3.ensures.value ∙ c.in_ok-expected.ensures
    ∙ ap (λ l. interface_names (map declaration_of l)) c.deref.ensures.value in
    let placed : misplaced s.ports (interface_names s.declarations) ≡ None =
    sym (c.in_default.ensures ∙ ap (λ l. misplaced l (map (λ (w : Bor (List ℕ)). w.now) c.deref-3.result.now)) ports ∙ ap (misplaced s.ports) expected) in
    let known = λ (n : List ℕ). contains_by (λ (k : Bor (List ℕ)). is_same_name n k.now) c.in_ok-ports.ports in
    let same : (n : List ℕ) → known n ≡ is_among n s.ports =
    λ n. c.in_ok-ports.ensures n ∙ ap (is_among n) (ap (map (λ (w : Bor (List ℕ)). w.now)) c.deref-4.ensures.value) in
    let all : portless s ≡ None =
    sym (c.in_default-portless.ensures ∙ ap (λ l. declaration_found (find (lacks_port known) (map declaration_of l))) c.deref-5.ensures.value
    ∙ portless-is s known same) in
    let ill : name_told c.ill_named.result ≡ ill_named s = c.ill_named.ensures
    ∙ ap (λ l. declaration_found (find (λ d. ill_by (first_of (map declaration_of l)) (last_of (map declaration_of l)) d.sort d.name) (map declaration_of l)))
    c.deref-6.ensures.value ∙ ill_named-is s in
    ap name_told c.or.ensures ∙ told-or c.ill_named.result c.other_clock.result
    ∙ ap (λ o. or_else o (name_told c.other_clock.result)) ill ∙ ap (or_else (ill_named s)) c.other_clock.ensures
    ∙ sym (none-found (misplaced s.ports (interface_names s.declarations)) (or_else (portless s) (or_else (ill_named s) (other_clock s))) placed
    ∙ none-found (portless s) (or_else (ill_named s) (other_clock s)) all)
