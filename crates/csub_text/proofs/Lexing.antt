-- The tokens of the pieces of a text.
use Rattle.std.proofs.Common.{◌≡◌, ℕ, ◌+◌, ◌<◌, ◌^◌, Bool, true, false, List, [], ◌∷◌, ◌++◌, refl, arith}
use Rattle.std.specs.Prelude.{codes, decimal}
use Rattle.std.proofs.lemmas.Bool.{ne_eqb}
use Rattle.base_types.specs.Names.{is_name}
use Rattle.csub_text.specs.Tokens.{Kind, Static, Int, Return, Void, React, LeftParenthesis, RightParenthesis, LeftBrace}
use Rattle.csub_text.specs.Tokens.{RightBrace, Semicolon, Equals, Zero, One, Bar, Ampersand, Bang, Named, Bad}
use Rattle.csub_text.specs.Tokens.{front, word_kind}
use Rattle.csub_text.specs.Grammar.{sign}
use Rattle.net_expressions.specs.Signs.{BitSign}
use Rattle.csub_text.specs.Written.{bit_text}
use Rattle.net_expressions.proofs.Saying as saying
use Rattle.net_expressions.proofs.Exports.{FrontsNames, begins_high, digits-decimal, bytes-decimal, bytes-name, no-word, Writes}

-- a piece of a text has these tokens, whatever stands behind it
abbrev pub Says : List ℕ → List Kind → Type 0
Says = saying.Says Bad front

-- a variable: a letter or `_`, and bytes of names, which are no reserved word
abbrev pub IsVariable : List ℕ → Type 0
IsVariable = saying.IsVariable word_kind Named

pub fronts-names : FrontsNames front word_kind
fronts-names c cs begins =
    let high = begins_high c begins in
    rw (
      ne_eqb c 32 (omega arith),
      ne_eqb c 9 (omega arith),
      ne_eqb c 10 (omega arith),
      ne_eqb c 12 (omega arith),
      ne_eqb c 13 (omega arith),
      ne_eqb c 47 (omega arith),
      begins,
    ) refl

-- ---- which names are variables

pub variable-input : (j : ℕ) → j < 2 ^ 64 → IsVariable (codes "i" ++ decimal j)
variable-input j small = record {
  head = 105;
  rest = decimal j;
  is = refl;
  begins = refl;
  bytes = bytes-decimal j small;
  free = rw (no-word (decimal j) (codes "nt") (digits-decimal j small) refl) refl;
}

pub variable-state : (j : ℕ) → j < 2 ^ 64 → IsVariable (codes "s" ++ decimal j)
variable-state j small = record {
  head = 115;
  rest = decimal j;
  is = refl;
  begins = refl;
  bytes = bytes-decimal j small;
  free = rw (no-word (decimal j) (codes "tatic") (digits-decimal j small) refl) refl;
}

pub variable-gate : (k : ℕ) → k < 2 ^ 64 → IsVariable (codes "g" ++ decimal k)
variable-gate k small = record { head = 103; rest = decimal k; is = refl; begins = refl; bytes = bytes-decimal k small; free = refl }

pub variable-wire : (k : ℕ) → k < 2 ^ 64 → IsVariable (codes "w" ++ decimal k)
variable-wire k small = record { head = 119; rest = decimal k; is = refl; begins = refl; bytes = bytes-decimal k small; free = refl }

pub variable-next : (j : ℕ) → j < 2 ^ 64 → IsVariable (codes "t" ++ decimal j)
variable-next j small = record { head = 116; rest = decimal j; is = refl; begins = refl; bytes = bytes-decimal j small; free = refl }

pub variable-answer : IsVariable (codes "r")
variable-answer = record { head = 114; rest = []; is = refl; begins = refl; bytes = refl; free = refl }

pub variable-given : (name : List ℕ) → is_name name ≡ true → IsVariable (codes "I_" ++ name)
variable-given name fits = record { head = 73; rest = 95 ∷ name; is = refl; begins = refl; bytes = bytes-name name fits; free = refl }

pub variable-shown : (name : List ℕ) → is_name name ≡ true → IsVariable (codes "O_" ++ name)
variable-shown name fits = record { head = 79; rest = 95 ∷ name; is = refl; begins = refl; bytes = bytes-name name fits; free = refl }

-- ---- the lines

pub says-int : Says (codes "int ") (Int ∷ [])
says-int = record { on = λ at rest. (at + 1 + 1 + 1 + 1, refl) }

pub says-static : Says (codes "static int ") (Static ∷ Int ∷ [])
says-static = record { on = λ at rest. (at + 1 + 1 + 1 + 1 + 1 + 1 + 1 + 1 + 1 + 1 + 1, refl) }

pub says-end : Says (59 ∷ 10 ∷ []) (Semicolon ∷ [])
says-end = record { on = λ at rest. (at + 1 + 1, refl) }

pub says-equals : Says (codes " = ") (Equals ∷ [])
says-equals = record { on = λ at rest. (at + 1 + 1 + 1, refl) }

pub says-head : Says (codes "int react(void) {" ++ 10 ∷ []) (Int ∷ React ∷ LeftParenthesis ∷ Void ∷ RightParenthesis ∷ LeftBrace ∷ [])
says-head = record { on = λ at rest. (at + 1 + 1 + 1 + 1 + 1 + 1 + 1 + 1 + 1 + 1 + 1 + 1 + 1 + 1 + 1 + 1 + 1 + 1, refl) }

pub says-return : Says (codes "return ") (Return ∷ [])
says-return = record { on = λ at rest. (at + 1 + 1 + 1 + 1 + 1 + 1 + 1, refl) }

pub says-last : Says (59 ∷ 10 ∷ 125 ∷ 10 ∷ []) (Semicolon ∷ RightBrace ∷ [])
says-last = record { on = λ at rest. (at + 1 + 1 + 1 + 1, refl) }

says-zero : Says (codes "0") (Zero ∷ [])
says-zero = record { on = λ at rest. (at + 1, refl) }

says-one : Says (codes "1") (One ∷ [])
says-one = record { on = λ at rest. (at + 1, refl) }

pub says-bang : Says (codes "!") (Bang ∷ [])
says-bang = record { on = λ at rest. (at + 1, refl) }

pub says-and : Says (codes " & ") (Ampersand ∷ [])
says-and = record { on = λ at rest. (at + 1 + 1 + 1, refl) }

pub says-or : Says (codes " | ") (Bar ∷ [])
says-or = record { on = λ at rest. (at + 1 + 1 + 1, refl) }

-- how expressions are written
abbrev pub bit_kind : Bool → Kind
bit_kind false = Zero
bit_kind true = One

pub bit-sign : (value : Bool) → sign (bit_kind value) ≡ BitSign value
bit-sign false = refl
bit-sign true = refl

pub says-bit : (value : Bool) → Says (bit_text value) (bit_kind value ∷ [])
says-bit false = says-zero
says-bit true = says-one

abbrev pub writes : Writes sign Bad front word_kind (codes "!") bit_text
writes = record {
  name_kind = Named;
  bit_kind = bit_kind;
  not_kind = Bang;
  and_kind = Ampersand;
  or_kind = Bar;
  name_is = λ n. refl;
  bit_is = λ value. bit-sign value;
  not_is = refl;
  and_is = refl;
  or_is = refl;
  fronts = fronts-names;
  says_bit = says-bit;
  says_not = says-bang;
  says_and = says-and;
  says_or = says-or;
}
