-- Inner: words at the beginning of a text.
use Rattle.std.proofs.Common.{◌≡◌, ℕ, ◌+◌, ◌<◌, ◌==◌, suc, true, false, List, [], ◌∷◌, length, take, drop, get_or, sym, ◌∙◌, ap, arith}
use Rattle.std.specs.Prelude.{if◌then◌else◌}
use Rattle.std.specs.List.{prefix_len}
use Rattle.base_types.specs.Names.{is_name_byte}
use Rattle.net_expressions.specs.Lexemes.{Gap, Lexeme, is_space, begins_name, mark_front}
use Rattle.net_expressions.specs.Plain.{front_at}
use Rattle.vlog_text.specs.Tokens.{front, word_kind, mark_kind, slash_front, less_front, one_front}

pub word-front : (text : List ℕ) (d : ℕ) → 0 < length text → is_space (get_or text 0 d) ≡ false → (get_or text 0 d == 47) ≡ false
    → (get_or text 0 d == 60) ≡ false → (get_or text 0 d == 49) ≡ false → begins_name (get_or text 0 d) ≡ true
    → Lexeme (prefix_len is_name_byte (drop 1 text)) (word_kind (take (1 + prefix_len is_name_byte (drop 1 text)) text)) ≡ front_at front text
word-front [] d some space slash less one begins = absurd (omega (arith, some))
word-front (c ∷ cs) d some space slash less one begins =
    let n = prefix_len is_name_byte cs in
    let word = Lexeme n (word_kind (c ∷ take n cs)) in
    let e : 1 + n ≡ suc n = omega arith in
    ap (λ k. Lexeme n (word_kind (take k (c ∷ cs)))) e
    ∙ sym (ap (λ b. if b then Gap 0 else (if c == 47 then slash_front cs else (if c == 60 then less_front cs else (if c == 49 then one_front cs else
    (if begins_name c then word else mark_front (mark_kind c)))))) space
    ∙ ap (λ b. if b then slash_front cs else (if c == 60 then less_front cs else (if c == 49 then one_front cs else
    (if begins_name c then word else mark_front (mark_kind c))))) slash
    ∙ ap (λ b. if b then less_front cs else (if c == 49 then one_front cs else (if begins_name c then word else mark_front (mark_kind c)))) less
    ∙ ap (λ b. if b then one_front cs else (if begins_name c then word else mark_front (mark_kind c))) one
    ∙ ap (λ b. if b then word else mark_front (mark_kind c)) begins)
