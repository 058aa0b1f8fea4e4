use Rattle.std.proofs.Common.{◌≡◌, ◌-◌, length, take, sym, ap, ◌∙◌}
use Rattle.est_ast.specs.Grammar.{span_of}
use Rattle.est_parse.proofs.Places.{span-ends}
use Rattle.est_parse.proofs.signs.place_of.Goals as goal

pub returns-in-Some-Some : goal.returns-in-Some-Some
returns-in-Some-Some c =
    let count : c.saturating_sub-count.result ≡ length c.args.tokens.now - length c.args.rest.now = c.saturating_sub-count.ensures in
    sym (span-ends (take c.saturating_sub-count.result c.args.tokens.now) c.in-Some-Some.first.now c.in-Some-Some.last.now
    (sym c.in-Some-Some.ensures.value) (sym c.in-Some-Some.ensures'.value))
    ∙ ap (λ n. span_of (take n c.args.tokens.now)) count
