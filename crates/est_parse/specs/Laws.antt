-- Contract: laws of the one spelling of a tree.
use Rattle.std.specs.Prelude.{◌≡◌, ◌≤◌, List, map}
use Rattle.base_types.specs.declared.bounds.TheConstants.Limits.{NESTING}
use Rattle.est_ast.specs.declared.tokens.Token.{Token}
use Rattle.est_ast.specs.declared.tokens.Kind.{Kind}
use Rattle.est_ast.specs.Trees.{SourceProgram}
use Rattle.est_ast.specs.Grammar.{SpellsProgram}
use Rattle.est_ast.specs.Nesting.{program_nesting, IsProgram}
use Rattle.base_reader.specs.Exact.{IsOnly}
use Rattle.est_parse.specs.declared.refusal.ParseError.{ParseError}
use Rattle.est_parse.specs.declared.refusal.ParseError.TheVariants.{NoMemory}
use Rattle.est_parse.specs.Faults.{IsFirstFault}
use Rattle.est_parse.specs.OneSpelling.{tokens_of}
use Rattle.est_parse.specs.Spellable.{IsSpellable}
use Rattle.est_parse.specs.Unplaced.{unplaced}

-- the kinds of tokens
abbrev pub kinds_of : List Token → List Kind
kinds_of tokens = map (λ token. token.kind) tokens

-- To tokens that spell a tree, wherever they are, the grammar gives this tree, except for its places.
abbrev pub SpellingsAreGrammatical : Type 0
SpellingsAreGrammatical =
    (p : SourceProgram) → IsSpellable p → (tokens : List Token)
    → kinds_of tokens ≡ tokens_of p
    → (found : SourceProgram) × (unplaced found ≡ unplaced p) × SpellsProgram found tokens

-- Each tree that the grammar gives to tokens has a spelling.
abbrev pub TreesAreSpellable : Type 0
TreesAreSpellable = (p : SourceProgram) (tokens : List Token) → SpellsProgram p tokens → IsSpellable p

-- What `parse` may answer, by its contract, to tokens that spell a tree nested at most 200 deep: this tree, except for
-- its places, and no fault. The only possible error is out of memory.
abbrev pub SpellingsAreRead : Type 0
SpellingsAreRead =
    (p : SourceProgram) → IsSpellable p → program_nesting p ≤ NESTING → (tokens : List Token)
    → kinds_of tokens ≡ tokens_of p
    → ((found : SourceProgram) → IsOnly IsProgram NESTING tokens found → unplaced found ≡ unplaced p)
    × ((refusal : ParseError) → IsFirstFault NESTING tokens refusal → refusal ≡ NoMemory)
