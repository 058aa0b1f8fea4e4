use Rattle.std.proofs.Common.{◌-◌, length, sym, arith, ◌∙◌, ap}
use Rattle.net_expressions.proofs.Places.{place-token}
use Rattle.net_expressions.proofs.lexing.place_at.Goals as goal

pub returns-then-first-tokens : goal.returns-then-first-tokens
returns-then-first-tokens g c =
    let tokens = c.args.tokens.now in
    ap (λ t. t.at) (sym c.index-tokens-first.is)
    ∙ place-token g.K.TokenKind.plain (length c.args.text.now) tokens (length tokens - c.args.fault.left) c.index-tokens-first.result (omega arith)
    c.index-tokens-first.is
