use Rattle.std.proofs.Common.{◌≡◌, ◌++◌, ◌≤◌, ◌-◌, length, map, drop}
use Rattle.net_expressions.specs.Lexemes.{tokens_behind}
use Rattle.net_expressions.specs.Plain.{token_by}
use Rattle.net_expressions.proofs.lexing.lex.Given as goal

-- the tokens of the whole text are those so far and those from the place on
abbrev pub invariant-fronts : goal.invariant-fronts
invariant-fronts g l =
    let k = g.K.Lexical in
    record {
      within : l.at ≤ length l.text;
      same : tokens_behind k.bad k.front 0 0 l.text ≡ map (token_by k.plain) l.tokens.items ++ tokens_behind k.bad k.front 0 l.at (drop l.at l.text);
    }

abbrev pub decreases-fronts : goal.decreases-fronts
decreases-fronts g l = length l.text - l.at
