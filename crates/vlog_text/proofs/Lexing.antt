-- Inner: the tokens of the pieces of a text.
use Rattle.std.proofs.Common.{◌≡◌, ℕ, ◌+◌, ◌<◌, ◌^◌, Bool, true, false, List, [], ◌∷◌, ◌++◌, refl, arith}
use Rattle.std.specs.Prelude.{codes, decimal}
use Rattle.std.proofs.lemmas.Bool.{ne_eqb}
use Rattle.base_types.specs.Names.{is_name}
use Rattle.net_expressions.specs.Signs.{BitSign}
use Rattle.net_expressions.proofs.Saying as saying
use Rattle.net_expressions.proofs.Exports.{FrontsNames, begins_high, digits-decimal, bytes-decimal, bytes-name, no-word, Writes}
use Rattle.vlog_text.specs.Trees.{Sort, Input, Output, Wire, Reg}
use Rattle.vlog_text.specs.Tokens.{Kind, ModuleWord, InitialWord, AssignWord, AlwaysWord, PosedgeWord, BeginWord}
use Rattle.vlog_text.specs.Tokens.{EndWord, EndmoduleWord, LeftParenthesis, RightParenthesis, Comma, Semicolon, Equals}
use Rattle.vlog_text.specs.Tokens.{At, Bar, Ampersand, Tilde, Becomes, Zero, One, Declares, Named, Bad, front, word_kind}
use Rattle.vlog_text.specs.Grammar.{sign}
use Rattle.vlog_text.specs.Written.{bit_text, sort_text}

-- a piece of a text has these tokens, whatever stands behind it
abbrev pub Says : List ℕ → List Kind → Type 0
Says = saying.Says Bad front

-- a variable: a letter or `_`, and bytes of names, which are no reserved word
abbrev pub IsVariable : List ℕ → Type 0
IsVariable = saying.IsVariable word_kind Named

pub fronts-names : FrontsNames front word_kind
fronts-names c cs begins =
    let high = begins_high c begins in
    rw (
      ne_eqb c 32 (omega arith),
      ne_eqb c 9 (omega arith),
      ne_eqb c 10 (omega arith),
      ne_eqb c 12 (omega arith),
      ne_eqb c 13 (omega arith),
      ne_eqb c 47 (omega arith),
      ne_eqb c 60 (omega arith),
      ne_eqb c 49 (omega arith),
      begins,
    ) refl

-- ---- which names are variables

pub variable-state : (j : ℕ) → j < 2 ^ 64 → IsVariable (codes "s" ++ decimal j)
variable-state j small = record { head = 115; rest = decimal j; is = refl; begins = refl; bytes = bytes-decimal j small; free = refl }

pub variable-gate : (k : ℕ) → k < 2 ^ 64 → IsVariable (codes "g" ++ decimal k)
variable-gate k small = record { head = 103; rest = decimal k; is = refl; begins = refl; bytes = bytes-decimal k small; free = refl }

pub variable-wire : (k : ℕ) → k < 2 ^ 64 → IsVariable (codes "w" ++ decimal k)
variable-wire k small = record {
  head = 119;
  rest = decimal k;
  is = refl;
  begins = refl;
  bytes = bytes-decimal k small;
  free = rw (no-word (decimal k) (codes "ire") (digits-decimal k small) refl) refl;
}

pub variable-input : (name : List ℕ) → is_name name ≡ true → IsVariable (codes "i_" ++ name)
variable-input name fits = record { head = 105; rest = 95 ∷ name; is = refl; begins = refl; bytes = bytes-name name fits; free = refl }

pub variable-output : (name : List ℕ) → is_name name ≡ true → IsVariable (codes "o_" ++ name)
variable-output name fits = record { head = 111; rest = 95 ∷ name; is = refl; begins = refl; bytes = bytes-name name fits; free = refl }

pub variable-module : (name : List ℕ) → is_name name ≡ true → IsVariable (codes "m_" ++ name)
variable-module name fits = record { head = 109; rest = 95 ∷ name; is = refl; begins = refl; bytes = bytes-name name fits; free = refl }

pub variable-clock : IsVariable (codes "clk")
variable-clock = record { head = 99; rest = codes "lk"; is = refl; begins = refl; bytes = refl; free = refl }

pub variable-paused : IsVariable (codes "paused")
variable-paused = record { head = 112; rest = codes "aused"; is = refl; begins = refl; bytes = refl; free = refl }

-- ---- the lines

pub says-end : Says (59 ∷ 10 ∷ []) (Semicolon ∷ [])
says-end = record { on = λ at rest. (at + 1 + 1, refl) }

pub says-equals : Says (codes " = ") (Equals ∷ [])
says-equals = record { on = λ at rest. (at + 1 + 1 + 1, refl) }

pub says-becomes : Says (codes " <= ") (Becomes ∷ [])
says-becomes = record { on = λ at rest. (at + 1 + 1 + 1 + 1, refl) }

pub says-module : Says (codes "module ") (ModuleWord ∷ [])
says-module = record { on = λ at rest. (at + 1 + 1 + 1 + 1 + 1 + 1 + 1, refl) }

pub says-open : Says (codes "(") (LeftParenthesis ∷ [])
says-open = record { on = λ at rest. (at + 1, refl) }

pub says-comma : Says (codes ", ") (Comma ∷ [])
says-comma = record { on = λ at rest. (at + 1 + 1, refl) }

pub says-head_end : Says (codes ")" ++ (59 ∷ 10 ∷ [])) (RightParenthesis ∷ Semicolon ∷ [])
says-head_end = record { on = λ at rest. (at + 1 + 1 + 1, refl) }

pub says-sort : (sort : Sort) → Says (sort_text sort) (Declares sort ∷ [])
says-sort Input = record { on = λ at rest. (at + 1 + 1 + 1 + 1 + 1 + 1, refl) }
says-sort Output = record { on = λ at rest. (at + 1 + 1 + 1 + 1 + 1 + 1 + 1, refl) }
says-sort Wire = record { on = λ at rest. (at + 1 + 1 + 1 + 1 + 1, refl) }
says-sort Reg = record { on = λ at rest. (at + 1 + 1 + 1 + 1, refl) }

pub says-initial : Says (codes "initial ") (InitialWord ∷ [])
says-initial = record { on = λ at rest. (at + 1 + 1 + 1 + 1 + 1 + 1 + 1 + 1, refl) }

pub says-assign : Says (codes "assign ") (AssignWord ∷ [])
says-assign = record { on = λ at rest. (at + 1 + 1 + 1 + 1 + 1 + 1 + 1, refl) }

pub says-always : Says (codes "always @(posedge ") (AlwaysWord ∷ At ∷ LeftParenthesis ∷ PosedgeWord ∷ [])
says-always = record { on = λ at rest. (at + 1 + 1 + 1 + 1 + 1 + 1 + 1 + 1 + 1 + 1 + 1 + 1 + 1 + 1 + 1 + 1 + 1, refl) }

pub says-begin : Says (codes ") begin" ++ 10 ∷ []) (RightParenthesis ∷ BeginWord ∷ [])
says-begin = record { on = λ at rest. (at + 1 + 1 + 1 + 1 + 1 + 1 + 1 + 1, refl) }

pub says-last : Says (codes "end" ++ (10 ∷ [] ++ (codes "endmodule" ++ 10 ∷ []))) (EndWord ∷ EndmoduleWord ∷ [])
says-last = record { on = λ at rest. (at + 1 + 1 + 1 + 1 + 1 + 1 + 1 + 1 + 1 + 1 + 1 + 1 + 1 + 1, refl) }

says-zero : Says (codes "1'b0") (Zero ∷ [])
says-zero = record { on = λ at rest. (at + 1 + 1 + 1 + 1, refl) }

says-one : Says (codes "1'b1") (One ∷ [])
says-one = record { on = λ at rest. (at + 1 + 1 + 1 + 1, refl) }

pub says-tilde : Says (codes "~") (Tilde ∷ [])
says-tilde = record { on = λ at rest. (at + 1, refl) }

pub says-and : Says (codes " & ") (Ampersand ∷ [])
says-and = record { on = λ at rest. (at + 1 + 1 + 1, refl) }

pub says-or : Says (codes " | ") (Bar ∷ [])
says-or = record { on = λ at rest. (at + 1 + 1 + 1, refl) }

-- ---- how expressions are written

abbrev pub bit_kind : Bool → Kind
bit_kind false = Zero
bit_kind true = One

pub bit-sign : (value : Bool) → sign (bit_kind value) ≡ BitSign value
bit-sign false = refl
bit-sign true = refl

pub says-bit : (value : Bool) → Says (bit_text value) (bit_kind value ∷ [])
says-bit false = says-zero
says-bit true = says-one

abbrev pub writes : Writes sign Bad front word_kind (codes "~") bit_text
writes = record {
  name_kind = Named;
  bit_kind = bit_kind;
  not_kind = Tilde;
  and_kind = Ampersand;
  or_kind = Bar;
  name_is = λ n. refl;
  bit_is = bit-sign;
  not_is = refl;
  and_is = refl;
  or_is = refl;
  fronts = fronts-names;
  says_bit = says-bit;
  says_not = says-tilde;
  says_and = says-and;
  says_or = says-or;
}
