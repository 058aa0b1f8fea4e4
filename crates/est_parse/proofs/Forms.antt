-- Inner: what a form is, once code knows the token that begins it and that there is room.
use Rattle.std.proofs.Common.{◌≡◌, ℕ, suc, true, List, Some, ◌∙◌, ap}
use Rattle.std.specs.Option.{option_map_or}
use Rattle.est_ast.specs.declared.tokens.Token.{Token}
use Rattle.est_parse.specs.declared.openings.Opening.{Opening}
use Rattle.est_parse.specs.Openings.{opening, is_deep}
use Rattle.est_parse.specs.Reading.{item_behind, form, rules, inside}
use Rattle.base_reader.specs.Choice.{fits, entered}
use Rattle.base_reader.specs.Readings.{picked, refuse}

pub form-opened : (o : Opening) (tokens rest : List Token) (room less : ℕ) → picked opening tokens ≡ Some (o, rest) → is_deep o ≡ true → room ≡ suc less →
    form room (inside room) tokens ≡ item_behind o (rules less) rest
form-opened o tokens rest room less next deep is =
    ap (λ n. form n (inside n) tokens) is
    ∙ ap (λ x. option_map_or {T = Opening × List Token} (λ found. entered (fits (is_deep found.0) (suc less)) (item_behind found.0 (rules less)) tokens found.1)
    x (refuse tokens)) next
    ∙ ap (λ b. entered (fits b (suc less)) (item_behind o (rules less)) tokens rest) deep
