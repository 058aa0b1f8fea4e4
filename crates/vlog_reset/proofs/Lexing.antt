-- Inner: the tokens of the pieces of a text.
use Rattle.std.proofs.Common.{◌≡◌, ℕ, ◌+◌, true, false, List, [], ◌∷◌, ◌++◌, length, map, refl, ap, ◌∙◌, subst, arith, append_assoc}
use Rattle.std.specs.Prelude.{codes, ◌==◌}
use Rattle.std.specs.List.{list_all, prefix_len}
use Rattle.std.proofs.lemmas.Bool.{ne_eqb, and_parts, and_from, or_left, false≢true, eqb-true, both_ways, false_from_ne_true, not_from_false}
use Rattle.base_types.specs.Names.{is_letter, is_name, is_name_byte}
use Rattle.net_expressions.specs.Lexemes.{PlacedToken, begins_name, tokens_behind}
use Rattle.net_expressions.proofs.Saying as saying
use Rattle.net_expressions.proofs.Exports.{FrontsNames, begins_high, bytes-name}
use Rattle.vlog_text.specs.Tokens.{stays_in_line}
use Rattle.vlog_reset.specs.Grammar.{semicolon, comma, equals, becomes, left, right}
use Rattle.vlog_reset.specs.Names.{is_identifier}
use Rattle.vlog_reset.specs.Tokens.{Kind, Word, Mark, Bad, front}

-- a piece of a text has these tokens, whatever follows it
abbrev pub Says : List ℕ → List Kind → Type 0
Says = saying.Says Bad front

-- a letter or `_`, and bytes of names
abbrev pub IsSpelledWord : List ℕ → Type 0
IsSpelledWord = saying.IsVariable Word Word

fronts-names : FrontsNames front Word
fronts-names c cs begins =
    let high = begins_high c begins in
    rw (
      ne_eqb c 32 (omega arith),
      ne_eqb c 9 (omega arith),
      ne_eqb c 10 (omega arith),
      ne_eqb c 12 (omega arith),
      ne_eqb c 13 (omega arith),
      ne_eqb c 47 (omega arith),
      ne_eqb c 60 (omega arith),
      ne_eqb c 49 (omega arith),
      begins,
    ) refl

-- a word in front of a byte that no word has
pub says-word : (name : List ℕ) (d : ℕ) (ds : List ℕ) (ks : List Kind) → IsSpelledWord name → is_name_byte d ≡ false → Says (d ∷ ds) ks
    → Says (name ++ d ∷ ds) (Word name ∷ ks)
says-word = saying.says-name Bad front Word Word fronts-names

pub spelled-word : (name : List ℕ) → is_identifier name ≡ true → IsSpelledWord name
spelled-word [] fits = absurd (false≢true fits)
spelled-word (c ∷ cs) fits =
    let parts = and_parts (begins_name c) (list_all is_name_byte cs) fits in
    record { head = c; rest = cs; is = refl; begins = parts.0; bytes = parts.1; free = refl }

pub word-name : (name : List ℕ) → is_name name ≡ true → is_identifier name ≡ true
word-name [] fits = fits
word-name (c ∷ cs) fits =
    let parts = and_parts (is_letter c) (list_all is_name_byte cs) fits in
    and_from (begins_name c) (list_all is_name_byte cs) (or_left (is_letter c) (c == 95) parts.0) parts.1

-- ---- comments

abbrev kinds_of : List (PlacedToken Kind) → List Kind
kinds_of tokens = map (λ t. t.kind) tokens

-- bytes that are passed over
passed : (xs ys : List ℕ) (at : ℕ) → (b : ℕ) × (kinds_of (tokens_behind Bad front (length xs) at (xs ++ ys)) ≡ kinds_of (tokens_behind Bad front 0 b ys))
passed [] ys at = (at, refl)
passed (x ∷ xs) ys at = passed xs ys (at + 1)

line-length : (xs ys : List ℕ) → list_all stays_in_line xs ≡ true → prefix_len stays_in_line (xs ++ 10 ∷ ys) ≡ length xs
line-length [] ys all = refl
line-length (x ∷ xs) ys all =
    let parts = and_parts (stays_in_line x) (list_all stays_in_line xs) all in rw parts.0 (omega (arith, line-length xs ys parts.1))

-- a comment up to the end of its line
pub says-comment : (xs : List ℕ) → list_all stays_in_line xs ≡ true → Says (47 ∷ 47 ∷ (xs ++ 10 ∷ [])) []
says-comment xs all = record {
  on = λ at rest.
      let more = passed (47 ∷ xs) (10 ∷ rest) (at + 1) in
      let wide = line-length xs rest all in
      let count : 1 + prefix_len stays_in_line (xs ++ 10 ∷ rest) ≡ length (47 ∷ xs) = omega arith in (
        more.0 + 1,
        ap (λ l. kinds_of (tokens_behind Bad front 0 at (47 ∷ 47 ∷ l))) (append_assoc xs (10 ∷ []) rest)
            ∙ ap (λ n. kinds_of (tokens_behind Bad front n (at + 1) (47 ∷ (xs ++ 10 ∷ rest)))) count
            ∙ more.1,
      );
}

-- the bytes of names stay in their line
pub name-stays : (name : List ℕ) → is_name name ≡ true → list_all stays_in_line name ≡ true
name-stays name fits = go name (bytes-name name fits)
  where
    go : (name : List ℕ) → list_all is_name_byte name ≡ true → list_all stays_in_line name ≡ true
    go [] all = refl
    go (c ∷ cs) all =
        let parts = and_parts (is_name_byte c) (list_all is_name_byte cs) all in
        and_from (stays_in_line c) (list_all stays_in_line cs)
        (not_from_false (c == 10) (false_from_ne_true (c == 10) (λ e. both_ways (is_name_byte 10) refl (subst (λ n. is_name_byte n
        ≡ true) (eqb-true c 10 e) parts.0))))
        (go cs parts.1)

-- ---- fixed pieces

pub says-module : Says (codes "module ") (Word (codes "module") ∷ [])
says-module = record { on = λ at rest. (at + 1 + 1 + 1 + 1 + 1 + 1 + 1, refl) }

pub says-open : Says (codes " (\n    input wire ") (left ∷ Word (codes "input") ∷ Word (codes "wire") ∷ [])
says-open = record { on = λ at rest. (at + 1 + 1 + 1 + 1 + 1 + 1 + 1 + 1 + 1 + 1 + 1 + 1 + 1 + 1 + 1 + 1 + 1 + 1, refl) }

pub says-input : Says (codes ",\n    input wire ") (comma ∷ Word (codes "input") ∷ Word (codes "wire") ∷ [])
says-input = record { on = λ at rest. (at + 1 + 1 + 1 + 1 + 1 + 1 + 1 + 1 + 1 + 1 + 1 + 1 + 1 + 1 + 1 + 1 + 1, refl) }

pub says-output : Says (codes ",\n    output wire ") (comma ∷ Word (codes "output") ∷ Word (codes "wire") ∷ [])
says-output = record { on = λ at rest. (at + 1 + 1 + 1 + 1 + 1 + 1 + 1 + 1 + 1 + 1 + 1 + 1 + 1 + 1 + 1 + 1 + 1 + 1, refl) }

pub says-ports-end : Says (codes "\n);\n") (right ∷ semicolon ∷ [])
says-ports-end = record { on = λ at rest. (at + 1 + 1 + 1 + 1, refl) }

pub says-reg : Says (codes "    reg ") (Word (codes "reg") ∷ [])
says-reg = record { on = λ at rest. (at + 1 + 1 + 1 + 1 + 1 + 1 + 1 + 1, refl) }

pub says-wire : Says (codes "    wire ") (Word (codes "wire") ∷ [])
says-wire = record { on = λ at rest. (at + 1 + 1 + 1 + 1 + 1 + 1 + 1 + 1 + 1, refl) }

pub says-initial : Says (codes "    initial ") (Word (codes "initial") ∷ [])
says-initial = record { on = λ at rest. (at + 1 + 1 + 1 + 1 + 1 + 1 + 1 + 1 + 1 + 1 + 1 + 1, refl) }

pub says-assign : Says (codes "    assign ") (Word (codes "assign") ∷ [])
says-assign = record { on = λ at rest. (at + 1 + 1 + 1 + 1 + 1 + 1 + 1 + 1 + 1 + 1 + 1, refl) }

pub says-equals : Says (codes " = ") (equals ∷ [])
says-equals = record { on = λ at rest. (at + 1 + 1 + 1, refl) }

pub says-becomes : Says (codes " <= ") (becomes ∷ [])
says-becomes = record { on = λ at rest. (at + 1 + 1 + 1 + 1, refl) }

pub says-end : Says (codes ";\n") (semicolon ∷ [])
says-end = record { on = λ at rest. (at + 1 + 1, refl) }

pub says-not : Says (codes "~") (Mark (codes "~") ∷ [])
says-not = record { on = λ at rest. (at + 1, refl) }

pub says-and : Says (codes " & ") (Mark (codes "&") ∷ [])
says-and = record { on = λ at rest. (at + 1 + 1 + 1, refl) }

pub says-or : Says (codes " | ") (Mark (codes "|") ∷ [])
says-or = record { on = λ at rest. (at + 1 + 1 + 1, refl) }

pub says-zero : Says (codes "1'b0") (Mark (codes "1'b0") ∷ [])
says-zero = record { on = λ at rest. (at + 1 + 1 + 1 + 1, refl) }

pub says-one : Says (codes "1'b1") (Mark (codes "1'b1") ∷ [])
says-one = record { on = λ at rest. (at + 1 + 1 + 1 + 1, refl) }

pub says-always : Says (codes "    always @(posedge ") (Word (codes "always") ∷ Mark (codes "@") ∷ left ∷ Word (codes "posedge") ∷ [])
says-always = record { on = λ at rest. (at + 1 + 1 + 1 + 1 + 1 + 1 + 1 + 1 + 1 + 1 + 1 + 1 + 1 + 1 + 1 + 1 + 1 + 1 + 1 + 1 + 1, refl) }

pub says-or-edge : Says (codes " or ") (Word (codes "or") ∷ [])
says-or-edge = record { on = λ at rest. (at + 1 + 1 + 1 + 1, refl) }

pub says-space : Says (codes " ") ([])
says-space = record { on = λ at rest. (at + 1, refl) }

pub says-if : Says (codes ")\n        if (") (right ∷ Word (codes "if") ∷ left ∷ [])
says-if = record { on = λ at rest. (at + 1 + 1 + 1 + 1 + 1 + 1 + 1 + 1 + 1 + 1 + 1 + 1 + 1 + 1, refl) }

pub says-bang : Says (codes "!") (Mark (codes "!") ∷ [])
says-bang = record { on = λ at rest. (at + 1, refl) }

pub says-begin : Says (codes ") begin\n") (right ∷ Word (codes "begin") ∷ [])
says-begin = record { on = λ at rest. (at + 1 + 1 + 1 + 1 + 1 + 1 + 1 + 1, refl) }

pub says-indent : Says (codes "            ") ([])
says-indent = record { on = λ at rest. (at + 1 + 1 + 1 + 1 + 1 + 1 + 1 + 1 + 1 + 1 + 1 + 1, refl) }

pub says-else : Says (codes "        end else begin\n") (Word (codes "end") ∷ Word (codes "else") ∷ Word (codes "begin") ∷ [])
says-else = record { on = λ at rest. (at + 1 + 1 + 1 + 1 + 1 + 1 + 1 + 1 + 1 + 1 + 1 + 1 + 1 + 1 + 1 + 1 + 1 + 1 + 1 + 1 + 1 + 1 + 1, refl) }

pub says-end-line : Says (codes "        end\n") (Word (codes "end") ∷ [])
says-end-line = record { on = λ at rest. (at + 1 + 1 + 1 + 1 + 1 + 1 + 1 + 1 + 1 + 1 + 1 + 1, refl) }

pub says-endmodule : Says (codes "endmodule\n") (Word (codes "endmodule") ∷ [])
says-endmodule = record { on = λ at rest. (at + 1 + 1 + 1 + 1 + 1 + 1 + 1 + 1 + 1 + 1, refl) }
