use Rattle.std.proofs.Common.{◌∙◌, ◌≡◌, ℕ, List, ap, map, Bor}
use Rattle.std.specs.HashSet.{contains_by}
use Rattle.base_types.specs.Names.{is_same_name}
use Rattle.net_ir.specs.NameLists.{is_among}
use Rattle.net_expressions.specs.NameTables.{again_from}
use Rattle.net_expressions.proofs.Exports.{again-first}
use Rattle.vlog_text.specs.Names.{names_of, targets}
use Rattle.vlog_text.specs.Views.{assign_of}
use Rattle.vlog_read.specs.NameTests.{group_test}
use Rattle.vlog_read.specs.Sources.{declaration_of, plain_source}
use Rattle.vlog_read.specs.declared.sources.Group.TheVariants as groups
use Rattle.vlog_read.proofs.drivers.assigned_again.Goals as goal

pub returns : goal.returns
returns c =
    let s = plain_source c.args.source.now in
    let known = λ (n : List ℕ). contains_by (λ (k : Bor (List ℕ)). is_same_name n k.now) c.in_ok-driven.driven in
    let own = names_of (group_test groups.Driven) s.declarations in
    let same : (n : List ℕ) → known n ≡ is_among n own = λ n. c.in_ok-driven.ensures n
    ∙ ap (λ l. is_among n (names_of (group_test groups.Driven) (map declaration_of l))) c.deref.ensures.value in
    let names : map (λ (w : Bor (List ℕ)). w.now) c.deref-3.result.now ≡ targets s.assigns =
    ap (map (λ (w : Bor (List ℕ)). w.now)) c.deref-3.ensures.value ∙ c.in_ok-names.ensures ∙ ap (λ l. targets (map assign_of l)) c.deref-2.ensures.value in
    c.in_ok-table.ensures.again ∙ ap (again_from known) names ∙ again-first known own (targets s.assigns) same
