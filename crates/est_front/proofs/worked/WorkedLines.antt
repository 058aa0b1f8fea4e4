-- Worked lines, by hand: a place on the first line, on a later one and at the end of the text, and what is said of each fault.
use Rattle.std.proofs.Common.{◌≡◌, ℕ, [], ◌∷◌, ◌++◌, List, map, flat_map, codes, refl, ap, Vec, Global}
use Rattle.std.specs.Fmt.{digits}
use Rattle.base_types.specs.declared.place.Span.{Span}
use Rattle.est_ast.specs.declared.tokens.Token.{Token}
use Rattle.est_ast.specs.declared.tokens.Kind.TheVariants as kinds
use Rattle.est_names.specs.declared.refusal.NameFault.TheVariants as naming
use Rattle.est_expand.specs.declared.refusal.ScopeFault.TheVariants as scope
use Rattle.est_front.specs.declared.refusal.Fault.TheVariants as faults
use Rattle.est_front.specs.declared.refusal.Fault.{Fault}
use Rattle.est_front.specs.Lines.{fault_text}
use Rattle.est_front.specs.Positions.{Position, position}
use Rattle.est_front.specs.Refusals.{token_place}

abbrev at : ℕ → ℕ → Position
at line column = record { line = line; column = column }

-- two letters, a line feed, one letter, two line feeds, and one letter
abbrev source : List ℕ
source = codes "ab\nc\n\nd"

places : map (position source) (0 ∷ 1 ∷ 2 ∷ 3 ∷ 4 ∷ 5 ∷ 6 ∷ 7 ∷ [])
    ≡ at 1 1 ∷ at 1 2 ∷ at 1 3 ∷ at 2 1 ∷ at 2 2 ∷ at 3 1 ∷ at 4 1 ∷ at 4 2 ∷ []
places = refl

-- a carriage return and a tab are bytes as any
other_bytes : position (13 ∷ 9 ∷ 10 ∷ 13 ∷ []) 2 ∷ position (13 ∷ 9 ∷ 10 ∷ 13 ∷ []) 4 ∷ [] ≡ at 1 3 ∷ at 2 2 ∷ []
other_bytes = refl

abbrev token : ℕ → ℕ → Token
token start end = record { kind = kinds.Number 1; span = record { start = start; end = end } }

places_of_tokens : map (token_place source (token 1 2 ∷ token 3 4 ∷ [])) (0 ∷ 1 ∷ 2 ∷ 3 ∷ []) ≡ 1 ∷ 3 ∷ 7 ∷ 7 ∷ []
places_of_tokens = refl

-- ---- lines, where the main module is asked for as M

abbrev line : Fault → List ℕ
line fault = codes "cec: " ++ (fault_text source (codes "M") fault ++ codes "\n")

abbrev span : Span
span = record { start = 3; end = 4 }

of_tokens : map line (faults.BadByte 3 ∷ faults.OpenComment 0 ∷ faults.BigNumber 4 ∷ faults.Syntax 5 7 ∷ [])
    ≡ codes "cec: 2:1: bad byte\n" ∷ codes "cec: 1:1: open comment\n" ∷ codes "cec: 2:2: number too large\n" ∷ codes "cec: 4:2: syntax\n" ∷ []
unfolding digits
of_tokens = refl

of_names : map (λ fault. line (faults.Name fault)) (naming.DuplicateModule span ∷ naming.NoMain ∷ naming.DuplicateSignal span
    ∷ naming.RelationName span ∷ [])
    ≡ codes "cec: 2:1: module declared twice\n" ∷ codes "cec: no module M\n" ∷ codes "cec: 2:1: signal declared twice\n" ∷ codes "cec: 2:1: not an input\n" ∷ []
unfolding digits
of_names = refl

of_runs : map (λ fault. line (faults.Scope fault)) (scope.UnknownModule span ∷ scope.BadRename span ∷ scope.UnknownSignal span
    ∷ scope.Unbound span (codes "S") ∷ scope.UnknownTrap span ∷ scope.EmitInput span ∷ [])
    ≡ codes "cec: 2:1: unknown module\n" ∷ codes "cec: 2:1: bad renaming\n" ∷ codes "cec: 2:1: unknown signal\n" ∷ codes "cec: 2:1: unbound S\n"
    ∷ codes "cec: 2:1: unknown trap\n" ∷ codes "cec: 2:1: input emitted\n" ∷ []
unfolding digits
of_runs = refl

of_recursion : (names : Vec (List ℕ) Global) → names.items ≡ codes "M" ∷ codes "N" ∷ []
    → fault_text source (codes "M") (faults.Scope (scope.Recursive span names)) ≡ codes "2:1: recursive run M N"
unfolding digits
of_recursion names is = ap (λ names. codes "2:1: recursive run" ++ flat_map (λ name. codes " " ++ name) names) is

of_counts_and_loops : map line (faults.BadCount span ∷ faults.InstantLoop span ∷ [])
    ≡ codes "cec: 2:1: bad count\n" ∷ codes "cec: 2:1: instantaneous loop\n" ∷ []
unfolding digits
of_counts_and_loops = refl
