-- To believe: what the faults of the parser say of the tokens. Running out of memory says nothing.
use Rattle.std.specs.Prelude.{◌≡◌, ℕ, ◌+◌, true, false, ⊤, List, length}
use Rattle.est_ast.specs.declared.tokens.Token.{Token}
use Rattle.est_ast.specs.Nesting.{IsProgram}
use Rattle.est_parse.specs.declared.refusal.ParseError.{ParseError}
use Rattle.est_parse.specs.declared.refusal.ParseError.TheVariants.{Syntax, TooNested, NoMemory}
use Rattle.base_reader.specs.declared.faults.Fault.{Fault}
use Rattle.base_reader.specs.Exact.{IsLeastPlace}

-- The place of the fault is counted from the front of the tokens; `left` of them stand from there on.
abbrev pub IsFaultAt : List Token → Fault → ParseError → Type 0
IsFaultAt tokens fault (Syntax place) = (place + fault.left ≡ length tokens) × (fault.deep ≡ false)
IsFaultAt tokens fault (TooNested place) = (place + fault.left ≡ length tokens) × (fault.deep ≡ true)
IsFaultAt tokens fault NoMemory = ⊥

-- The fault is at the least place that no program of this nesting passes. It is for nesting exactly where a deeper
-- program goes on with the token at that place.
abbrev pub IsFirstFault : ℕ → List Token → ParseError → Type 0
IsFirstFault nesting tokens NoMemory = ⊤
IsFirstFault nesting tokens refusal =
    (fault : Fault) × IsFaultAt tokens fault refusal × IsLeastPlace IsProgram nesting tokens fault
