-- Each token of a text is as long as it can be.
use Rattle.std.proofs.Common.{◌≡◌, ◌⊎◌, ℕ, ◌+◌, ◌≤◌, ◌==◌, ◌&&◌, zero, suc, Bool, true, false, cond, List, [], ◌∷◌, length, take, drop}
use Rattle.std.proofs.Common.{Option, Some, None, inl, inr, All, refl, sym, ◌∙◌, ap, subst, arith}
use Rattle.std.specs.Prelude.{⊤, if◌then◌else◌}
use Rattle.std.specs.List.{list_all, prefix_len}
use Rattle.std.proofs.lemmas.Bool.{and_parts}
use Rattle.std.proofs.lemmas.List.{drop-drop, length-take-le}
use Rattle.std.proofs.lemmas.List.Elements.{All-nil, All-cons}
use Rattle.std.proofs.lemmas.List.Sums.{prefix_len-le-length}
use Rattle.base_types.specs.Names.{is_name_byte}
use Rattle.net_expressions.specs.Lexemes.{token_of}
use Rattle.csub_text.specs.Tokens.{Kind, Bad, Token, Front, Gap, Lexeme, Wrong, begins_name, is_space, word_kind, mark_kind, mark_front}
use Rattle.csub_text.specs.Tokens.{closed_after, comment_front, slash_front, front, tokens, tokens_behind}
use Rattle.csub_read.specs.LongestTokens.{IsLexeme, IsLongest, TokensAreLongest}

-- ---- bytes that pass a test

all-prefix : (p : ℕ → Bool) (xs : List ℕ) → list_all p (take (prefix_len p xs) xs) ≡ true
all-prefix p [] = refl
all-prefix p (x ∷ xs) = by (all-prefix p xs) (p x) refl
  where
    by : list_all p (take (prefix_len p xs) xs) ≡ true → (b : Bool) → p x ≡ b → list_all p (take (cond b (1 + prefix_len p xs) 0) (x ∷ xs)) ≡ true
    by others true e =
        let n : 1 + prefix_len p xs ≡ suc (prefix_len p xs) = omega arith in
        ap (λ m. list_all p (take m (x ∷ xs))) n ∙ ap (λ b. b && list_all p (take (prefix_len p xs) xs)) e ∙ others
    by others false e = refl

prefix-most : (p : ℕ → Bool) (xs : List ℕ) (m : ℕ) → m ≤ length xs → list_all p (take m xs) ≡ true → m ≤ prefix_len p xs
prefix-most p xs zero low all = omega arith
prefix-most p [] (suc m) low all = absurd (omega (arith, low))
prefix-most p (x ∷ xs) (suc m) low all =
    let both = and_parts (p x) (list_all p (take m xs)) all in
    let most = prefix-most p xs m (omega (arith, low)) both.1 in
    rw (both.0) (omega (arith, most))

-- ---- what a text begins with

-- a token of this size begins a text, and no longer one
record Begins (rest : List ℕ) (size : ℕ) (kind : Kind) : Type 0 where
  within : size ≤ length rest
  lexeme : IsLexeme (take size rest) kind
  longest : (n : ℕ) (other : Kind) → n ≤ length rest → IsLexeme (take n rest) other → n ≤ size

none-taken : (m : ℕ) (cs : List ℕ) → m ≤ length cs → take m cs ≡ [] → m ≡ 0
none-taken m cs low none = omega (arith, length-take-le m cs low, ap (λ (l : List ℕ). length l) none)

named : (c : ℕ) (cs : List ℕ) → begins_name c ≡ true
    → Begins (c ∷ cs) (suc (prefix_len is_name_byte cs)) (word_kind (c ∷ take (prefix_len is_name_byte cs) cs))
named c cs begins = record {
  within = omega (arith, prefix_len-le-length is_name_byte cs);
  lexeme = inl (begins, all-prefix is_name_byte cs, refl);
  longest = longest;
}
  where
    longest : (n : ℕ) (other : Kind) → n ≤ length (c ∷ cs) → IsLexeme (take n (c ∷ cs)) other → n ≤ suc (prefix_len is_name_byte cs)
    longest zero other low is = omega arith
    longest (suc m) other low (inl is) =
        let most = prefix-most is_name_byte cs m (omega (arith, low)) is.1 in omega (arith, most)
    longest (suc m) other low (inr is) = omega (arith, none-taken m cs (omega (arith, low)) is.0)

marked : (c : ℕ) (cs : List ℕ) (kind : Kind) → begins_name c ≡ false → mark_kind c ≡ Some kind → Begins (c ∷ cs) 1 kind
marked c cs kind none mark = record {
  within = omega arith;
  lexeme = inr (refl, mark);
  longest = longest;
}
  where
    longest : (n : ℕ) (other : Kind) → n ≤ length (c ∷ cs) → IsLexeme (take n (c ∷ cs)) other → n ≤ 1
    longest zero other low is = omega arith
    longest (suc m) other low (inl is) = absurd (true≢false (sym is.0 ∙ none))
      where
        true≢false : true ≡ false → ⊥
        true≢false e = subst (λ b. cond b ⊤ ⊥) e tt
    longest (suc m) other low (inr is) = omega (arith, none-taken m cs (omega (arith, low)) is.0)

-- what a front says of the text
abbrev Good : List ℕ → Front Kind → Type 0
Good rest (Gap more) = ⊤
Good rest (Lexeme more kind) = Begins rest (suc more) kind
Good rest Wrong = ⊤

slash-good : (rest cs : List ℕ) → Good rest (slash_front cs)
slash-good rest [] = tt
slash-good rest (c ∷ cs) = by (c == 42)
  where
    closed : (o : Option ℕ) → Good rest (comment_front o)
    closed None = tt
    closed (Some n) = tt

    by : (b : Bool) → Good rest (if b then comment_front (closed_after cs) else Wrong)
    by true = closed (closed_after cs)
    by false = tt

front-good : (c : ℕ) (cs : List ℕ) → Good (c ∷ cs) (front c cs)
front-good c cs = by (is_space c) (c == 47) (begins_name c) refl
  where
    mark : begins_name c ≡ false → (o : Option Kind) → mark_kind c ≡ o → Good (c ∷ cs) (mark_front o)
    mark none None e = tt
    mark none (Some kind) e = marked c cs kind none e

    by : (space slash begins : Bool) → begins_name c ≡ begins
        → Good (c ∷ cs) (if space then Gap 0 else (if slash then slash_front cs else (if begins
        then Lexeme (prefix_len is_name_byte cs) (word_kind (c ∷ take (prefix_len is_name_byte cs) cs))
        else mark_front (mark_kind c))))
    by true slash begins e = tt
    by false true begins e = slash-good (c ∷ cs) cs
    by false false true e = named c cs e
    by false false false e = mark e (mark_kind c) refl

-- ---- all tokens

-- a token is the last one of a text that has no other, or the longest
abbrev Told : List ℕ → Token → Type 0
Told whole t = (t.kind ≡ Bad) ⊎ IsLongest whole t

module _ (whole : List ℕ) where
  -- the tokens from a place on, by those behind the front that stands there
  fronted : (at c : ℕ) (cs : List ℕ) (f : Front Kind) → drop at whole ≡ c ∷ cs → at + length (c ∷ cs) ≡ length whole → Good (c ∷ cs) f
      → ((more : ℕ) → All (Told whole) (tokens_behind Bad front more (at + 1) cs))
      → All (Told whole) (token_of Bad at f (λ more. tokens_behind Bad front more (at + 1) cs))
  fronted at c cs (Gap more) here n good behind = behind more
  fronted at c cs (Lexeme more kind) here n good behind = All-cons (Told whole) _ _ (inr (record {
    size = suc more;
    within = omega (arith, good.within, n);
    lexeme = subst (λ r. IsLexeme (take (suc more) r) kind) (sym here) good.lexeme;
    longest = λ m other low is. good.longest m other (omega (arith, low, n)) (subst (λ r. IsLexeme (take m r) other) here is);
  })) (behind more)
  fronted at c cs Wrong here n good behind = All-cons (Told whole) _ [] (inl refl) (All-nil (Told whole))

  along : (skipped at : ℕ) (rest : List ℕ) → drop at whole ≡ rest → at + length rest ≡ length whole
      → All (Told whole) (tokens_behind Bad front skipped at rest)
  along skipped at [] here n = All-nil (Told whole)
  along (suc k) at (c ∷ cs) here n = along k (at + 1) cs (sym (drop-drop 1 at whole) ∙ ap (drop 1) here) (omega (arith, n))
  along zero at (c ∷ cs) here n =
      fronted at c cs (front c cs) here n (front-good c cs)
      (λ more. along more (at + 1) cs (sym (drop-drop 1 at whole) ∙ ap (drop 1) here) (omega (arith, n)))

pub tokens-longest : TokensAreLongest
tokens-longest whole = along whole 0 0 whole refl (omega arith)
