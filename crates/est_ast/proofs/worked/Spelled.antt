-- Written by hand: tokens, trees and spellings, as worked examples write them.
use Rattle.std.specs.Prelude.{◌≡◌, ℕ, List, [], ◌∷◌, ◌++◌, Option, Some}
use Rattle.std.proofs.Common.{refl}
use Rattle.base_types.specs.declared.place.Span.{Span}
use Rattle.est_ast.specs.declared.tokens.Token.{Token}
use Rattle.est_ast.specs.declared.tokens.Kind.{Kind}
use Rattle.est_ast.specs.declared.tokens.Kind.TheVariants as kinds
use Rattle.est_ast.specs.declared.tokens.Reserved.{Reserved}
use Rattle.est_ast.specs.declared.tokens.Mark.{Mark}
use Rattle.est_ast.specs.declared.trees.Name.{Name}
use Rattle.est_ast.specs.declared.trees.Rename.{Rename}
use Rattle.est_ast.specs.Trees.{Decl, Stmt, Module}
use Rattle.base_reader.specs.Languages.{One, Then, Led}

abbrev pub w : Reserved → Kind
w word = kinds.Reserved word

abbrev pub m : Mark → Kind
m mark = kinds.Mark mark

abbrev pub i : List ℕ → Kind
i text = kinds.Ident text

abbrev pub at : ℕ → ℕ → Span
at start end = record { start = start; end = end }

abbrev pub t : Kind → ℕ → ℕ → Token
t kind start end = record { kind = kind; span = at start end }

abbrev pub n : List ℕ → ℕ → ℕ → Name
n text start end = record { text = text; span = at start end }

abbrev pub as_ : Name → Name → Rename
as_ actual formal = record { actual = actual; formal = formal }

abbrev pub modul : Name → List Decl → Stmt → Module
modul name decls body = record { name = name; decls = decls; body = body }

-- one token
pub one : {T X : Type 0} {test : T → Option X} {value : X} {token : T} → test token ≡ Some value → One test value (token ∷ [])
one {token = token} passes = record { token = token; only = refl; passes = passes }

-- a word or a mark, and what stands behind it
pub led : {T : Type 0} {test : T → Option (Unit {0})} {L : Unit {0} → List T → Type 0} {token : T} {rest : List T} → test token ≡ Some tt → L tt rest →
    Led test L (token ∷ rest)
led {token = token} {rest = rest} passes behind = record { token = token; value = tt; rest = rest; cut = refl; passes = passes; behind = behind }

-- these tokens are the first part
pub cut : {T : Type 0} {L M : List T → Type 0} (front back : List T) → L front → M back → Then L M (front ++ back)
cut front back first second = record { front = front; back = back; cut = refl; first = first; second = second }
