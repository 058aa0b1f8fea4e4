-- To believe: the tokens of a guarded text are those of the C subset, but that `if` and `else` are words and no names.
use Rattle.std.specs.Prelude.{ℕ, List, map, codes, if◌then◌else◌}
use Rattle.base_types.specs.Names.{is_same_name}
use Rattle.csub_text.specs.Tokens as plain
use Rattle.csub_text.specs.Tokens.{Kind, Token, If, Else, Named}

abbrev pub kind_of : Kind → Kind
kind_of (Named word) =
    if is_same_name word (codes "if") then If
    else (if is_same_name word (codes "else") then Else else Named word)
kind_of others = others

abbrev pub token_of : Token → Token
token_of t = record { kind = kind_of t.kind; at = t.at }

abbrev pub tokens : List ℕ → List Token
tokens text = map token_of (plain.tokens text)

abbrev pub kinds : List ℕ → List Kind
kinds text = map (λ t. t.kind) (tokens text)
