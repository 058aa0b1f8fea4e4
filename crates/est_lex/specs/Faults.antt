-- Contract: the faults of a text, as the lexer names them. Running out of memory has no cause in the text.
use Rattle.std.specs.Prelude.{◌≡◌, ℕ, ⊤, List}
use Rattle.est_ast.specs.Lexing.{LexesAs, BeginsWithBadByte, BeginsWithOpenComment, BeginsWithBigNumber}
use Rattle.est_ast.specs.Lexing as lexing
use Rattle.est_lex.specs.declared.refusal.LexError.{LexError}
use Rattle.est_lex.specs.declared.refusal.LexError.TheVariants.{BadByte, OpenComment, BigNumber, NoMemory}

-- this fault begins the text, which stands at this place of the source
abbrev pub BeginsWithFault : List ℕ → ℕ → LexError → Type 0
BeginsWithFault text at (BadByte place) = BeginsWithBadByte text × (place ≡ at)
BeginsWithFault text at (OpenComment place) = BeginsWithOpenComment text × (place ≡ at)
BeginsWithFault text at (BigNumber place) = BeginsWithBigNumber text × (place ≡ at)
BeginsWithFault text at NoMemory = ⊤

-- this is the first fault of the text
abbrev pub LexesAsFault : List ℕ → LexError → Type 0
LexesAsFault text (BadByte place) = LexesAs text (lexing.BadByte place)
LexesAsFault text (OpenComment place) = LexesAs text (lexing.OpenComment place)
LexesAsFault text (BigNumber place) = LexesAs text (lexing.BigNumber place)
LexesAsFault text NoMemory = ⊤
