use Rattle.std.proofs.Common.{◌≡◌, ◌+◌, ◌-◌, ◌<◌, [], length, map, take, get_or, sym, ◌∙◌, ap, arith, Some, true}
use Rattle.std.specs.Prelude.{if◌then◌else◌}
use Rattle.std.proofs.lemmas.List.{get_or_default}
use Rattle.vlog_text.specs.Names.{is_output}
use Rattle.vlog_read.specs.declared.sources.Declaration.{Declaration}
use Rattle.vlog_read.specs.declared.sources.Sort.TheVariants as sorts
use Rattle.vlog_read.specs.Lexed.{plain_sort}
use Rattle.vlog_read.specs.NameTests.{last_of}
use Rattle.vlog_read.specs.Sources.{declaration_of}
use Rattle.vlog_read.proofs.NameLaws.{last-more}
use Rattle.vlog_read.proofs.ports.last_output.Goals as goal

pub returns-then-is_in : goal.returns-then-is_in
returns-then-is_in c =
    let xs = c.args.declarations.now in
    let i = c.outputs.left - 1 in
    let none : Declaration = record { sort = sorts.Input; name = record { ref_ptr = (0, 0); now = [] } } in
    let x = get_or xs i none in
    let low : i < length xs = omega (arith, c.outputs-test.true, c.outputs.invariant.within) in
    let next : i + 1 ≡ c.outputs.left = omega (arith, c.outputs-test.true) in
    let output : is_output (plain_sort x.sort) ≡ true = sym c.is_in.ensures ∙ c.if-is_in.true in
    sym (ap (λ b. if b then Some x.name.now else last_of (map declaration_of (take i xs))) output)
    ∙ sym (last-more declaration_of xs i x low (get_or_default xs i none x low))
    ∙ ap (λ n. last_of (map declaration_of (take n xs))) next ∙ c.outputs.invariant.last
