-- Inner: the worked example's reading function.
use Rattle.std.specs.Prelude.{ℕ, zero, suc, Bool, true, false, List, [], ◌∷◌, Option, Some, None}
use Rattle.base_reader.specs.declared.statements.Token.{Token}
use Rattle.base_reader.specs.declared.statements.Token.TheVariants as kinds
use Rattle.base_reader.specs.declared.statements.Opening.{Opening}
use Rattle.base_reader.specs.declared.statements.Opening.TheVariants as openings
use Rattle.base_reader.specs.StatementGrammar.{Plain, Nothing, Pause, Group, Sequence, Plains, NoPlains, More}
use Rattle.base_reader.specs.StatementGrammar.{semicolon}
use Rattle.base_reader.specs.StatementGrammar.{close_bracket}
use Rattle.base_reader.specs.Readings.{Rule, refuse, give, mapped, both, trail, the, loop}
use Rattle.base_reader.specs.Choice.{trailing, choose}

-- the tokens that begin an item
abbrev pub opening : Token → Option Opening
opening kinds.Nothing = Some openings.Nothing
opening kinds.Pause = Some openings.Pause
opening kinds.Open = Some openings.Group
opening _ = None

-- what takes room
abbrev pub is_deep : Opening → Bool
is_deep openings.Group = true
is_deep _ = false

-- what comes after the token that begins an item, where the list in a group is read by the rule given
abbrev pub behind : Opening → Rule Token Plain → Rule Token Plain
behind openings.Nothing list = give Nothing
behind openings.Pause list = give Pause
behind openings.Group list = mapped Group (trail list (the close_bracket))

abbrev pub plains : List Plain → Plains
plains [] = NoPlains
plains (plain ∷ others) = More plain (plains others)

-- a list of one item is that item
abbrev pub list_of : List Plain → Plain
list_of [] = Sequence NoPlains
list_of (plain ∷ []) = plain
list_of (plain ∷ next ∷ others) = Sequence (More plain (More next (plains others)))

-- the rules at a room, where those at one less are given
abbrev pub item : ℕ → Rule Token Plain → Rule Token Plain
item room inner = choose opening is_deep room (λ o. behind o inner)

abbrev pub step : ℕ → Rule Token Plain → Rule Token (Option Plain)
step room inner = trailing semicolon opening (item room inner)

abbrev pub items : ℕ → Rule Token Plain → Rule Token Plain
items room inner = mapped (λ found. list_of (found.0 ∷ found.1)) (both (item room inner) (loop (step room inner)))

abbrev mutual
  pub statement : ℕ → Rule Token Plain
  statement zero = items zero refuse
  statement (suc room) = items (suc room) (statement room)

-- the rule at the room inside, which is never used where there is none
abbrev pub inside : ℕ → Rule Token Plain
inside zero = refuse
inside (suc room) = statement room
