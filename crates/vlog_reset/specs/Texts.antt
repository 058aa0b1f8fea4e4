-- To believe: which module a text describes.
use Rattle.std.specs.Prelude.{◌≡◌, ℕ, List, ◌++◌, codes}
use Rattle.vlog_reset.specs.Trees.{ResetModule}
use Rattle.vlog_reset.specs.Tokens.{kinds}
use Rattle.vlog_reset.specs.Grammar.{module_kinds}
use Rattle.vlog_reset.specs.Names.{IsSound}

-- the directives of the compiler before the text of a module and after it: each name must be declared
abbrev pub first_line : List ℕ
first_line = codes "`default_nettype none\n"

abbrev pub last_line : List ℕ
last_line = codes "\n`default_nettype wire\n"

-- Between these lines the text has the tokens of the module, which keeps the rules on names.
pub record Describes (text : List ℕ) (m : ResetModule) : Type 0 where
  pub body : List ℕ
  pub framed : text ≡ first_line ++ (body ++ last_line)
  pub tokens : kinds body ≡ module_kinds m
  pub sound : IsSound m
