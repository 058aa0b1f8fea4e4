-- The tokens of the pieces of a text.
use Rattle.std.proofs.Common.{◌≡◌, ℕ, ◌+◌, suc, true, false, not, List, [], ◌∷◌, ◌++◌, length, map, refl, sym, ap, ◌∙◌, subst, arith}
use Rattle.std.proofs.Common.{append_assoc}
use Rattle.std.proofs.Common.{Some}
use Rattle.std.specs.Prelude.{codes, ◌==◌}
use Rattle.std.specs.List.{list_all}
use Rattle.std.proofs.lemmas.Bool.{ne_eqb, and_parts, and_from, not-true, not_from_false, or_left, false≢true, eqb-true, both_ways, false_from_ne_true}
use Rattle.std.proofs.lemmas.List.Folds.{list_all-append}
use Rattle.std.proofs.lemmas.List.{length-append}
use Rattle.std.proofs.lemmas.Option.{none-some}
use Rattle.base_types.specs.Names.{is_letter, is_name, is_name_byte}
use Rattle.csub_text.specs.Tokens.{closed_after, one_more}
use Rattle.net_expressions.specs.Lexemes.{PlacedToken, token_of, tokens_behind, begins_name}
use Rattle.net_expressions.proofs.Saying as saying
use Rattle.net_expressions.proofs.Exports.{FrontsNames, begins_high, bytes-name}
use Rattle.csub_embed.specs.Grammar.{semicolon, equals, arrow, star, comma, self_word, in_word, out_word, open_kinds}
use Rattle.csub_embed.specs.Names.{is_identifier}
use Rattle.csub_embed.specs.Tokens.{Kind, Word, Number, Mark, Bad, front, comment_front}
use Rattle.csub_embed.specs.Written.{comment}

-- a piece of a text has these tokens, whatever follows it
abbrev pub Says : List ℕ → List Kind → Type 0
Says = saying.Says Bad front

-- a letter or `_`, and bytes of names
abbrev pub IsSpelledWord : List ℕ → Type 0
IsSpelledWord = saying.IsVariable Word Word

fronts-names : FrontsNames front Word
fronts-names c cs begins =
    let high = begins_high c begins in
    rw (
      ne_eqb c 32 (omega arith),
      ne_eqb c 9 (omega arith),
      ne_eqb c 10 (omega arith),
      ne_eqb c 12 (omega arith),
      ne_eqb c 13 (omega arith),
      ne_eqb c 47 (omega arith),
      begins,
    ) refl

-- a word in front of a byte that no word has
pub says-word : (name : List ℕ) (d : ℕ) (ds : List ℕ) (ks : List Kind) → IsSpelledWord name → is_name_byte d ≡ false → Says (d ∷ ds) ks
    → Says (name ++ d ∷ ds) (Word name ∷ ks)
says-word = saying.says-name Bad front Word Word fronts-names

pub spelled-word : (name : List ℕ) → is_identifier name ≡ true → IsSpelledWord name
spelled-word [] fits = absurd (false≢true fits)
spelled-word (c ∷ cs) fits =
    let parts = and_parts (begins_name c) (list_all is_name_byte cs) fits in
    record { head = c; rest = cs; is = refl; begins = parts.0; bytes = parts.1; free = refl }

pub word-name : (name : List ℕ) → is_name name ≡ true → is_identifier name ≡ true
word-name [] fits = fits
word-name (c ∷ cs) fits =
    let parts = and_parts (is_letter c) (list_all is_name_byte cs) fits in
    and_from (begins_name c) (list_all is_name_byte cs) (or_left (is_letter c) (c == 95) parts.0) parts.1

-- a name with more bytes of names behind it
pub spelled-more : (name more : List ℕ) → is_name name ≡ true → list_all is_name_byte more ≡ true → IsSpelledWord (name ++ more)
spelled-more [] more fits bytes = absurd (false≢true fits)
spelled-more (c ∷ cs) more fits bytes =
    let parts = and_parts (is_letter c) (list_all is_name_byte cs) fits in
    record {
      head = c;
      rest = cs ++ more;
      is = refl;
      begins = or_left (is_letter c) (c == 95) parts.0;
      bytes = list_all-append is_name_byte cs more ∙ and_from (list_all is_name_byte cs) (list_all is_name_byte more) parts.1 bytes;
      free = refl;
    }

-- ---- comments

-- bytes without `*` hide no end of a comment
closed-behind : (xs ys : List ℕ) (n : ℕ) → list_all (λ c. not (c == 42)) xs ≡ true → closed_after ys ≡ Some n → closed_after (xs ++ ys) ≡ Some (length xs + n)
closed-behind [] ys n none is = let z : n ≡ 0 + n = omega arith in is ∙ ap Some z
closed-behind (x ∷ []) [] n none is = absurd (none-some n is)
closed-behind (x ∷ []) (y ∷ ys) n none is =
    let parts = and_parts (not (x == 42)) true none in
    let s : n + 1 ≡ 1 + n = omega arith in
    rw (not-true (x == 42) parts.0) (ap one_more is ∙ ap Some s)
closed-behind (x ∷ z ∷ xs) ys n none is =
    let parts = and_parts (not (x == 42)) (list_all (λ c. not (c == 42)) (z ∷ xs)) none in
    let s : suc (length xs) + n + 1 ≡ suc (suc (length xs)) + n = omega arith in
    rw (not-true (x == 42) parts.0) (ap one_more (closed-behind (z ∷ xs) ys n parts.1 is) ∙ ap Some s)

abbrev kinds_of : List (PlacedToken Kind) → List Kind
kinds_of tokens = map (λ t. t.kind) tokens

-- bytes that are passed over
passed : (xs ys : List ℕ) (at : ℕ) → (b : ℕ) × (kinds_of (tokens_behind Bad front (length xs) at (xs ++ ys)) ≡ kinds_of (tokens_behind Bad front 0 b ys))
passed [] ys at = (at, refl)
passed (x ∷ xs) ys at = passed xs ys (at + 1)

-- what stands behind the name in the comment, without the end of its line
comment_words : List ℕ
comment_words =
    codes ", by cec-opt 0.1.0: cec-opt c --embed. Any number of instances.\n"
    ++ codes " * Reset an instance before its first call of react; react returns whether it is still running. */"

no_star : (name : List ℕ) → list_all is_name_byte name ≡ true → list_all (λ c. not (c == 42)) name ≡ true
no_star [] all = refl
no_star (c ∷ cs) all =
    let parts = and_parts (is_name_byte c) (list_all is_name_byte cs) all in
    and_from (not (c == 42)) (list_all (λ d. not (d == 42)) cs)
    (not_from_false (c == 42) (false_from_ne_true (c == 42) (λ e. both_ways (is_name_byte 42) refl (subst (λ n. is_name_byte n
    ≡ true) (eqb-true c 42 e) parts.0))))
    (no_star cs parts.1)

pub says-comment : (name : List ℕ) → is_name name ≡ true → Says (comment name) []
unfolding comment_words
says-comment name fits = record {
  on = λ at rest.
      let tail = comment_words in
      let whole : List ℕ = name ++ (tail ++ 10 ∷ rest) in
      let n = length tail in
      let spelled : (name ++ (tail ++ 10 ∷ [])) ++ rest ≡ whole = append_assoc name (tail ++ 10 ∷ []) rest in
      let closed : closed_after (32 ∷ whole) ≡ Some (suc (length name) + n) =
      closed-behind (32 ∷ name) (tail ++ 10 ∷ rest) n (no_star name (bytes-name name fits)) refl in
      let xs : List ℕ = 42 ∷ 32 ∷ (name ++ tail) in
      let wide = length-append name tail in
      let count : suc (length name) + n + 1 ≡ length xs = omega arith in
      let again : 42 ∷ 32 ∷ whole ≡ xs ++ 10 ∷ rest = ap (λ l. 42 ∷ 32 ∷ l) (sym (append_assoc name tail (10 ∷ rest))) in
      let more = passed xs (10 ∷ rest) (at + 1 + 1) in (
        more.0 + 1,
        ap (λ l. map (λ (t : PlacedToken Kind). t.kind) (tokens_behind Bad front 0 at (10 ∷ 47 ∷ 42 ∷ 32 ∷ l))) spelled
            ∙ ap (λ o. map (λ (t : PlacedToken Kind). t.kind) (token_of Bad (at + 1) (comment_front o)
            (λ m. tokens_behind Bad front m (at + 1 + 1) (42 ∷ 32 ∷ whole)))) closed
            ∙ ap (λ m. map (λ (t : PlacedToken Kind). t.kind) (tokens_behind Bad front m (at + 1 + 1) (42 ∷ 32 ∷ whole))) count
            ∙ ap (λ l. map (λ (t : PlacedToken Kind). t.kind) (tokens_behind Bad front (length xs) (at + 1 + 1) l)) again
            ∙ more.1,
      );
}

-- ---- fixed pieces

pub says-open : Says (codes "\ntypedef struct {\n") (open_kinds)
says-open = record { on = λ at rest. (at + 1 + 1 + 1 + 1 + 1 + 1 + 1 + 1 + 1 + 1 + 1 + 1 + 1 + 1 + 1 + 1 + 1 + 1, refl) }

pub says-bool : Says (codes "    bool ") (Word (codes "bool") ∷ [])
says-bool = record { on = λ at rest. (at + 1 + 1 + 1 + 1 + 1 + 1 + 1 + 1 + 1, refl) }

pub says-end : Says (codes ";\n") (semicolon ∷ [])
says-end = record { on = λ at rest. (at + 1 + 1, refl) }

pub says-width : Says (codes " : 1;\n") (Mark (codes ":") ∷ Number (codes "1") ∷ semicolon ∷ [])
says-width = record { on = λ at rest. (at + 1 + 1 + 1 + 1 + 1 + 1, refl) }

pub says-unused : Says (codes "    uint8_t unused;\n") (Word (codes "uint8_t") ∷ Word (codes "unused") ∷ semicolon ∷ [])
says-unused = record { on = λ at rest. (at + 1 + 1 + 1 + 1 + 1 + 1 + 1 + 1 + 1 + 1 + 1 + 1 + 1 + 1 + 1 + 1 + 1 + 1 + 1 + 1, refl) }

pub says-close : Says (codes "} ") (Mark (codes "}") ∷ [])
says-close = record { on = λ at rest. (at + 1 + 1, refl) }

pub says-line : Says (codes "\n") []
says-line = record { on = λ at rest. (at + 1, refl) }

pub says-static-inline : Says (codes "static inline ") (Word (codes "static") ∷ Word (codes "inline") ∷ [])
says-static-inline = record { on = λ at rest. (at + 1 + 1 + 1 + 1 + 1 + 1 + 1 + 1 + 1 + 1 + 1 + 1 + 1 + 1, refl) }

pub says-void : Says (codes "void ") (Word (codes "void") ∷ [])
says-void = record { on = λ at rest. (at + 1 + 1 + 1 + 1 + 1, refl) }

pub says-bool-type : Says (codes "bool ") (Word (codes "bool") ∷ [])
says-bool-type = record { on = λ at rest. (at + 1 + 1 + 1 + 1 + 1, refl) }

pub says-start : Says (codes "\n{\n") (Mark (codes "{") ∷ [])
says-start = record { on = λ at rest. (at + 1 + 1 + 1, refl) }

pub says-stop : Says (codes "}\n\n") (Mark (codes "}") ∷ [])
says-stop = record { on = λ at rest. (at + 1 + 1 + 1, refl) }

pub says-left : Says (codes "(") (Mark (codes "(") ∷ [])
says-left = record { on = λ at rest. (at + 1, refl) }

pub says-self-parameter : Says (codes " *self)") (star ∷ Word self_word ∷ Mark (codes ")") ∷ [])
says-self-parameter = record { on = λ at rest. (at + 1 + 1 + 1 + 1 + 1 + 1 + 1, refl) }

pub says-ignored : Says (codes "    (void)") (Mark (codes "(") ∷ Word (codes "void") ∷ Mark (codes ")") ∷ [])
says-ignored = record { on = λ at rest. (at + 1 + 1 + 1 + 1 + 1 + 1 + 1 + 1 + 1 + 1, refl) }

pub says-self-indented : Says (codes "    self->") (Word self_word ∷ arrow ∷ [])
says-self-indented = record { on = λ at rest. (at + 1 + 1 + 1 + 1 + 1 + 1 + 1 + 1 + 1 + 1, refl) }

pub says-equals : Says (codes " = ") (equals ∷ [])
says-equals = record { on = λ at rest. (at + 1 + 1 + 1, refl) }

pub says-self-const : Says (codes " *self, const ") (star ∷ Word self_word ∷ comma ∷ Word (codes "const") ∷ [])
says-self-const = record { on = λ at rest. (at + 1 + 1 + 1 + 1 + 1 + 1 + 1 + 1 + 1 + 1 + 1 + 1 + 1 + 1, refl) }

pub says-in-parameter : Says (codes " *in, ") (star ∷ Word in_word ∷ comma ∷ [])
says-in-parameter = record { on = λ at rest. (at + 1 + 1 + 1 + 1 + 1 + 1, refl) }

pub says-out-parameter : Says (codes " *out)") (star ∷ Word out_word ∷ Mark (codes ")") ∷ [])
says-out-parameter = record { on = λ at rest. (at + 1 + 1 + 1 + 1 + 1 + 1, refl) }

pub says-const : Says (codes "    const bool ") (Word (codes "const") ∷ Word (codes "bool") ∷ [])
says-const = record { on = λ at rest. (at + 1 + 1 + 1 + 1 + 1 + 1 + 1 + 1 + 1 + 1 + 1 + 1 + 1 + 1 + 1, refl) }

pub says-not : Says (codes "!") (Mark (codes "!") ∷ [])
says-not = record { on = λ at rest. (at + 1, refl) }

pub says-and : Says (codes " & ") (Mark (codes "&") ∷ [])
says-and = record { on = λ at rest. (at + 1 + 1 + 1, refl) }

pub says-or : Says (codes " | ") (Mark (codes "|") ∷ [])
says-or = record { on = λ at rest. (at + 1 + 1 + 1, refl) }

pub says-self : Says (codes "self->") (Word self_word ∷ arrow ∷ [])
says-self = record { on = λ at rest. (at + 1 + 1 + 1 + 1 + 1 + 1, refl) }

pub says-in : Says (codes "in->") (Word in_word ∷ arrow ∷ [])
says-in = record { on = λ at rest. (at + 1 + 1 + 1 + 1, refl) }

pub says-arrow : Says (codes "->") (arrow ∷ [])
says-arrow = record { on = λ at rest. (at + 1 + 1, refl) }

pub says-indent : Says (codes "    ") ([])
says-indent = record { on = λ at rest. (at + 1 + 1 + 1 + 1, refl) }

pub says-return : Says (codes "    return ") (Word (codes "return") ∷ [])
says-return = record { on = λ at rest. (at + 1 + 1 + 1 + 1 + 1 + 1 + 1 + 1 + 1 + 1 + 1, refl) }

pub says-last : Says (codes ";\n}\n") (semicolon ∷ Mark (codes "}") ∷ [])
says-last = record { on = λ at rest. (at + 1 + 1 + 1 + 1, refl) }
