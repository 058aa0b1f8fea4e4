-- Inner: what the next token begins.
use Rattle.std.specs.Prelude.{Bool, true, false, Option, Some, None}
use Rattle.base_types.specs.declared.place.Span.{Span}
use Rattle.est_ast.specs.declared.tokens.Token.{Token}
use Rattle.est_ast.specs.declared.tokens.Kind.{Kind}
use Rattle.est_ast.specs.declared.tokens.Kind.TheVariants as kinds
use Rattle.est_ast.specs.declared.tokens.Reserved.TheVariants as words
use Rattle.est_ast.specs.declared.tokens.Mark.TheVariants as marks
use Rattle.est_ast.specs.declared.trees.Name.{Name}
use Rattle.est_parse.specs.declared.openings.Opening.{Opening}
use Rattle.est_parse.specs.declared.openings.Opening.TheVariants as openings
use Rattle.est_parse.specs.declared.openings.Flat.TheVariants as flats
use Rattle.est_parse.specs.declared.openings.Block.TheVariants as blocks
use Rattle.est_parse.specs.declared.openings.Bracket.{Bracket}
use Rattle.est_parse.specs.declared.openings.Bracket.TheVariants as brackets
use Rattle.est_parse.specs.declared.openings.Declaration.{Declaration}
use Rattle.est_parse.specs.declared.openings.Declaration.TheVariants as declarations
use Rattle.base_expressions.specs.Reading.{Opening as PartOpening, Negates, Opens, IsLeaf}

-- the token that begins an item
abbrev pub kind_of : Opening → Kind
kind_of (openings.Flat flats.Nothing) = kinds.Reserved words.Nothing
kind_of (openings.Flat flats.Pause) = kinds.Reserved words.Pause
kind_of (openings.Flat flats.Halt) = kinds.Reserved words.Halt
kind_of (openings.Flat flats.Emit) = kinds.Reserved words.Emit
kind_of (openings.Flat flats.Sustain) = kinds.Reserved words.Sustain
kind_of (openings.Flat flats.Exit) = kinds.Reserved words.Exit
kind_of (openings.Flat flats.Run) = kinds.Reserved words.Run
kind_of (openings.Block blocks.Group) = kinds.Mark marks.LeftBracket
kind_of openings.Await = kinds.Reserved words.Await
kind_of openings.Present = kinds.Reserved words.Present
kind_of (openings.Block blocks.Loop) = kinds.Reserved words.Loop
kind_of (openings.Block blocks.Every) = kinds.Reserved words.Every
kind_of (openings.Block blocks.Repeat) = kinds.Reserved words.Repeat
kind_of (openings.Block blocks.Positive) = kinds.Reserved words.Positive
kind_of (openings.Block blocks.Abort) = kinds.Reserved words.Abort
kind_of (openings.Block blocks.Weak) = kinds.Reserved words.Weak
kind_of (openings.Block blocks.Suspend) = kinds.Reserved words.Suspend
kind_of (openings.Block blocks.Trap) = kinds.Reserved words.Trap
kind_of (openings.Block blocks.Signal) = kinds.Reserved words.Signal

abbrev pub opening_of : Kind → Option Opening
opening_of (kinds.Reserved words.Nothing) = Some (openings.Flat flats.Nothing)
opening_of (kinds.Reserved words.Pause) = Some (openings.Flat flats.Pause)
opening_of (kinds.Reserved words.Halt) = Some (openings.Flat flats.Halt)
opening_of (kinds.Reserved words.Emit) = Some (openings.Flat flats.Emit)
opening_of (kinds.Reserved words.Sustain) = Some (openings.Flat flats.Sustain)
opening_of (kinds.Reserved words.Exit) = Some (openings.Flat flats.Exit)
opening_of (kinds.Reserved words.Run) = Some (openings.Flat flats.Run)
opening_of (kinds.Mark marks.LeftBracket) = Some (openings.Block blocks.Group)
opening_of (kinds.Reserved words.Await) = Some openings.Await
opening_of (kinds.Reserved words.Present) = Some openings.Present
opening_of (kinds.Reserved words.Loop) = Some (openings.Block blocks.Loop)
opening_of (kinds.Reserved words.Every) = Some (openings.Block blocks.Every)
opening_of (kinds.Reserved words.Repeat) = Some (openings.Block blocks.Repeat)
opening_of (kinds.Reserved words.Positive) = Some (openings.Block blocks.Positive)
opening_of (kinds.Reserved words.Abort) = Some (openings.Block blocks.Abort)
opening_of (kinds.Reserved words.Weak) = Some (openings.Block blocks.Weak)
opening_of (kinds.Reserved words.Suspend) = Some (openings.Block blocks.Suspend)
opening_of (kinds.Reserved words.Trap) = Some (openings.Block blocks.Trap)
opening_of (kinds.Reserved words.Signal) = Some (openings.Block blocks.Signal)
opening_of _ = None

abbrev pub opening : Token → Option Opening
opening token = opening_of token.kind

-- which of them have room for a statement or a case, or are before a word that has
abbrev pub is_deep : Opening → Bool
is_deep (openings.Flat flat) = false
is_deep _ = true

-- a part of a test of its own
pub data Leaf : Type 0 where
  TickLeaf : Span → Leaf
  NameLeaf : Name → Leaf

-- what begins a part of a test
abbrev pub part_at : Span → Kind → Option (PartOpening Bracket Leaf)
part_at span (kinds.Reserved words.Not) = Some Negates
part_at span (kinds.Mark marks.LeftParenthesis) = Some (Opens brackets.Round)
part_at span (kinds.Mark marks.LeftBracket) = Some (Opens brackets.Square)
part_at span (kinds.Reserved words.Tick) = Some (IsLeaf (TickLeaf span))
part_at span (kinds.Ident text) = Some (IsLeaf (NameLeaf (record { text = text; span = span })))
part_at span _ = None

abbrev pub part_start : Token → Option (PartOpening Bracket Leaf)
part_start token = part_at token.span token.kind

-- what begins an event: what begins a part of a test, without negations and round brackets
abbrev pub event_in : Option (PartOpening Bracket Leaf) → Option (PartOpening Bracket Leaf)
event_in (Some Negates) = None
event_in (Some (Opens brackets.Round)) = None
event_in found = found

abbrev pub event_start : Token → Option (PartOpening Bracket Leaf)
event_start token = event_in (part_start token)

-- the words that begin a declaration
abbrev pub declaration_of : Kind → Option Declaration
declaration_of (kinds.Reserved words.Input) = Some declarations.Input
declaration_of (kinds.Reserved words.InputOutput) = Some declarations.InputOutput
declaration_of (kinds.Reserved words.Output) = Some declarations.Output
declaration_of (kinds.Reserved words.Relation) = Some declarations.Relation
declaration_of _ = None

abbrev pub declaration : Token → Option Declaration
declaration token = declaration_of token.kind
