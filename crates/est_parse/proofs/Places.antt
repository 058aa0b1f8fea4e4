-- Inner: the place of a list of tokens.
use Rattle.std.proofs.Common.{◌≡◌, suc, ◌-◌, List, [], ◌∷◌, length, Some, sym, ◌∙◌, ap, arith}
use Rattle.std.specs.List.{slice_get}
use Rattle.est_ast.specs.declared.tokens.Token.{Token}
use Rattle.est_ast.specs.Grammar.{end_of, span_of}

end-last : (token : Token) (others : List Token) (last : Token) → slice_get (token ∷ others) (length others) ≡ Some last → end_of token others ≡ last.span.end
end-last token [] last is = let same : token ≡ last = cc in ap (λ t. t.span.end) same
end-last token (next ∷ others) last is = end-last next others last is

pub span-ends : (tokens : List Token) (first last : Token) → slice_get tokens 0 ≡ Some first → slice_get tokens (length tokens - 1) ≡ Some last →
    span_of tokens ≡ record { start = first.span.start; end = last.span.end }
span-ends [] first last at_first at_last = cc
span-ends (token ∷ others) first last at_first at_last =
    let same : token ≡ first = cc in
    let index : suc (length others) - 1 ≡ length others = omega arith in
    let end : end_of token others ≡ last.span.end = end-last token others last (ap (slice_get (token ∷ others)) (sym index) ∙ at_last) in
    ap (λ t. record { start = t.span.start; end = end_of token others }) same ∙ ap (λ e. record { start = first.span.start; end = e }) end
