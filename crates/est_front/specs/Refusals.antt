-- To believe: why a source has no kernel program. Each refusal is the first fault of the passes in their order: the
-- tokens, the tree, the names, the flat form, the counts, the limits of the kernel program, and its instantaneous
-- loops.
-- Running out of memory has no cause in the source.
use Rattle.std.specs.Prelude.{◌≡◌, ◌⊎◌, ℕ, ⊤, List, length, slice_index_or, Option, Some, nat_lt, if◌then◌else◌, Err}
use Rattle.base_types.specs.declared.bounds.TheConstants.Limits.{NESTING}
use Rattle.base_types.specs.declared.place.Span.{Span}
use Rattle.est_ast.specs.declared.tokens.Token.{Token}
use Rattle.est_ast.specs.declared.tokens.Kind.TheVariants as kinds
use Rattle.est_ast.specs.Lexing.{LexesAs, Tokens}
use Rattle.est_ast.specs.Lexing as lexing
use Rattle.est_ast.specs.Trees as source
use Rattle.est_ast.specs.FlatTrees.{Flat}
use Rattle.est_parse.specs.Faults.{IsFirstFault}
use Rattle.est_parse.specs.declared.refusal.ParseError.{ParseError}
use Rattle.est_parse.specs.declared.refusal.ParseError.TheVariants as parsing
use Rattle.est_names.specs.NameFaults.{IsFirst, name_faults}
use Rattle.est_names.specs.declared.refusal.NameFault.{NameFault}
use Rattle.est_expand.specs.Faults as flattening
use Rattle.est_expand.specs.Answers.{scope_fault}
use Rattle.est_expand.specs.Flattening.{flattened}
use Rattle.est_kernel.specs.Plain.{Program}
use Rattle.est_kernel.specs.StaticCodes.{instant_loops}
use Rattle.est_codes.specs.Faults.{IsLeastSpan}
use Rattle.est_dismantle.specs.Expansions.{expansion}
use Rattle.est_dismantle.specs.Expansions as expansions
use Rattle.est_front.specs.declared.refusal.Fault.{Fault}
use Rattle.est_front.specs.declared.refusal.Fault.TheVariants as faults
use Rattle.est_front.specs.declared.refusal.Quantity.TheVariants as quantities
use Rattle.est_front.specs.declared.refusal.SourceRefusal.{SourceRefusal}
use Rattle.est_front.specs.declared.refusal.SourceRefusal.TheVariants.{Static, Limit, NoMemory}
use Rattle.est_front.specs.Sources.{SourceReadsAs, Declares, Flattens, Expands, main_module}

-- ---- the tokens, the tree and the names

-- where no token is
abbrev pub no_token : Token
no_token = record { kind = kinds.Number 0; span = record { start = 0; end = 0 } }

-- the byte at which a token begins, or the length of the text where no such token is there
abbrev pub token_place : List ℕ → List Token → ℕ → ℕ
token_place text tokens n = if nat_lt n (length tokens) then
    (slice_index_or tokens n no_token).span.start else length text

-- The text has tokens, but they spell no program of the greatest nesting: this is the first fault.
pub record Misspells (text : List ℕ) (fault : ParseError) : Type 0 where
  pub tokens : List Token
  pub lexes : LexesAs text (Tokens tokens)
  pub first : IsFirstFault NESTING tokens fault

-- The text has a tree, and this is the first fault of its names.
pub record Misnames (text : List ℕ) (main : Option (List ℕ)) (fault : NameFault) : Type 0 where
  pub tree : source.SourceProgram
  pub reads : SourceReadsAs text tree
  pub first : IsFirst (name_faults main tree) fault

-- ---- the flat form

-- the names are declared as they may be, but the walk over the main module ends at this fault
pub record Unflattened (text : List ℕ) (main : Option (List ℕ)) (fault : flattening.FlattenFault) : Type 0 where
  pub tree : source.SourceProgram
  pub declares : Declares text main tree
  pub main_one : source.Module
  pub is_main : main_module main tree ≡ Some main_one
  pub ends : flattened tree main_one ≡ Err fault

-- ---- the kernel program

-- the flat program has this expansion, which is no kernel program
pub record Unexpanded (text : List ℕ) (main : Option (List ℕ)) (answer : expansions.Expansion) : Type 0 where
  pub flat : Flat
  pub flattens : Flattens text main flat
  pub ends : expansion flat ≡ answer

-- The bytes have an expansion in which some loops are instantaneous: the body of each can terminate in the instant in
-- which it starts. Of these loops this is the place of the one that starts first in the source, and among those that
-- start there of the one that ends first.
pub record LoopsAtOnce (text : List ℕ) (main : Option (List ℕ)) (place : Span) : Type 0 where
  pub program : Program
  pub expands : Expands text main program
  pub least : IsLeastSpan (Some place) (instant_loops program.body)

-- ---- refusals

abbrev pub HasFault : List ℕ → Option (List ℕ) → Fault → Type 0
HasFault text main (faults.BadByte place) = LexesAs text (lexing.BadByte place)
HasFault text main (faults.OpenComment place) = LexesAs text (lexing.OpenComment place)
HasFault text main (faults.BigNumber place) = LexesAs text (lexing.BigNumber place)
HasFault text main (faults.Syntax token place) =
    (m : Misspells text (parsing.Syntax token)) × (place ≡ token_place text m.tokens token)
HasFault text main (faults.Name fault) = Misnames text main fault
HasFault text main (faults.Scope fault) = Unflattened text main (scope_fault fault)
HasFault text main (faults.BadCount place) = Unexpanded text main (expansions.BadCount place)
HasFault text main (faults.InstantLoop place) = LoopsAtOnce text main place

abbrev pub IsSourceRefused : List ℕ → Option (List ℕ) → SourceRefusal → Type 0
IsSourceRefused text main (Static fault) = HasFault text main fault
IsSourceRefused text main (Limit quantities.Nesting) = (token : ℕ) × Misspells text (parsing.TooNested token)
IsSourceRefused text main (Limit quantities.Statements) = Unflattened text main flattening.TooManyStatements
IsSourceRefused text main (Limit quantities.Signals) = Unflattened text main flattening.TooManySignals
IsSourceRefused text main (Limit quantities.Height) =
    Unflattened text main flattening.TooDeep ⊎ Unexpanded text main expansions.TooHigh
IsSourceRefused text main (Limit quantities.Kernel) = Unexpanded text main expansions.TooLarge
IsSourceRefused text main (Limit quantities.Traps) = Unexpanded text main expansions.TooManyTraps
IsSourceRefused text main NoMemory = ⊤
