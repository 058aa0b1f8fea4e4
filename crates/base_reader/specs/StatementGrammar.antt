-- Contract: the worked example's grammar, as a relation on whole lists of tokens.
--   list = item { ";" item } [ ";" ]        item = "nothing" | "pause" | "[" list "]"
use Rattle.std.specs.Prelude.{ℕ, suc, max, List, Option, Some, None}
use Rattle.base_reader.specs.declared.statements.Token.{Token}
use Rattle.base_reader.specs.declared.statements.Token.TheVariants as kinds
use Rattle.base_reader.specs.declared.statements.Statement.{Statement, Row_of-Statement, end_of-Statement}
use Rattle.base_reader.specs.declared.statements.Statement.{more_of-Statement}
use Rattle.base_reader.specs.declared.statements.Statement.TheVariants as code
use Rattle.base_reader.specs.Languages.{One, Then, Led, Within, Maybe}

-- a statement without where it lies in memory
mutual
  pub data Plain : Type 0 where
    Nothing : Plain
    Pause : Plain
    Group : Plain → Plain
    Sequence : Plains → Plain

  pub data Plains : Type 0 where
    NoPlains : Plains
    More : Plain → Plains → Plains

abbrev mutual
  pub plain_of : Statement → Plain
  plain_of code.Nothing = Nothing
  plain_of code.Pause = Pause
  plain_of (code.Group' _ body) = Group (plain_of body)
  plain_of (code.Sequence' _ row) = Sequence (plains_of row)

  pub plains_of : {n : _} → Row_of-Statement n → Plains
  plains_of end_of-Statement = NoPlains
  plains_of (more_of-Statement statement row) = More (plain_of statement) (plains_of row)

-- a token that is one of a kind, and no other
abbrev pub nothing : Token → Option (Unit {0})
nothing kinds.Nothing = Some tt
nothing _ = None

abbrev pub pause : Token → Option (Unit {0})
pause kinds.Pause = Some tt
pause _ = None

abbrev pub semicolon : Token → Option (Unit {0})
semicolon kinds.Semicolon = Some tt
semicolon _ = None

abbrev pub open_bracket : Token → Option (Unit {0})
open_bracket kinds.Open = Some tt
open_bracket _ = None

abbrev pub close_bracket : Token → Option (Unit {0})
close_bracket kinds.Close = Some tt
close_bracket _ = None

-- an item alone, or a list of items
pub data Level : Type 0 where
  Item : Level
  Items : Level

-- An item as a list is that one item, and maybe a last semicolon.
abbrev pub Alone : Level → (List Token → Type 0) → List Token → Type 0
Alone Item L = L
Alone Items L = Then L (Maybe semicolon)

abbrev mutual
  -- how a statement is written as an item, and as a list
  pub Spells : Level → Plain → List Token → Type 0
  Spells level Nothing = Alone level (One nothing tt)
  Spells level Pause = Alone level (One pause tt)
  Spells level (Group body) = Alone level (Led open_bracket (λ _. Then (Spells Items body) (One close_bracket tt)))
  Spells Items (Sequence parts) = SpellsFirst parts
  Spells Item (Sequence parts) = λ _. ⊥

  -- at least two items with semicolons between them
  SpellsFirst : Plains → List Token → Type 0
  SpellsFirst NoPlains = λ _. ⊥
  SpellsFirst (More plain others) = Then (Spells Item plain) (SpellsSecond others)

  SpellsSecond : Plains → List Token → Type 0
  SpellsSecond NoPlains = λ _. ⊥
  SpellsSecond (More plain others) = Then (Led semicolon (λ _. Spells Item plain)) (SpellsOthers others)

  -- further items, and maybe a last semicolon
  pub SpellsOthers : Plains → List Token → Type 0
  SpellsOthers NoPlains = Maybe semicolon
  SpellsOthers (More plain others) = Then (Led semicolon (λ _. Spells Item plain)) (SpellsOthers others)

-- how many brackets are open at most at one place
abbrev mutual
  pub nesting : Plain → ℕ
  nesting Nothing = 0
  nesting Pause = 0
  nesting (Group body) = suc (nesting body)
  nesting (Sequence parts) = deepest parts

  pub deepest : Plains → ℕ
  deepest NoPlains = 0
  deepest (More plain others) = max (nesting plain) (deepest others)

-- the tokens spell the statement, and its nesting is at most the room
abbrev pub IsStatement : ℕ → Plain → List Token → Type 0
IsStatement = Within (Spells Items) nesting
