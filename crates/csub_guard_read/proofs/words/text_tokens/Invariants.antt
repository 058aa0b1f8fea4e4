use Rattle.std.proofs.Common.{◌≡◌, ◌++◌, ◌≤◌, ◌-◌, length, map, take, drop}
use Rattle.csub_guard.specs.Tokens.{token_of}
use Rattle.csub_read.specs.Tokens.{kind_of}
use Rattle.csub_text.specs.Tokens.{tokens}
use Rattle.net_expressions.specs.Plain.{token_by}
use Rattle.csub_guard_read.proofs.words.text_tokens.Given as goal

-- the tokens so far are those of a guarded text, and the others those of the C subset
abbrev pub invariant-tokens : goal.invariant-tokens
invariant-tokens l = record {
  within : l.k ≤ length l.tokens.items;
  same : map (token_by kind_of) l.tokens.items ≡ map token_of (take l.k (tokens l.text)) ++ drop l.k (tokens l.text);
}

abbrev pub decreases-tokens : goal.decreases-tokens
decreases-tokens l = length l.tokens.items - l.k
