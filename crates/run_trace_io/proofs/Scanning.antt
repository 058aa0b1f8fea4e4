-- The tokens of a trace, one byte or one name on.
use Rattle.std.proofs.Common.{◌≡◌, ℕ, ◌+◌, ◌-◌, ◌<◌, ◌≤◌, zero, suc, Bool, true, false, not, ◌==◌, ◌&&◌, List, ◌∷◌, length, take, drop, slice_index}
use Rattle.std.proofs.Common.{refl, ap, sym, ◌∙◌, arith, ⊎_elim, nat_le, if◌then◌else◌}
use Rattle.std.proofs.lemmas.Bool.{and_parts, leb-true, ne_eqb, not-true, cases_lt}
use Rattle.std.proofs.lemmas.List.{drop_more, drop_all}
use Rattle.run_trace_io.specs.Tokens.{Name, is_blank, is_trace_byte, begins_name, with_byte, tokens}
use Rattle.run_trace_io.specs.Scans.{IsNameAt}

-- a byte of a name is no blank, no `%` and no `;`
pub record IsOfName (c : ℕ) : Type 0 where
  pub blank : is_blank c ≡ false
  pub comment : (c == 37) ≡ false
  pub semicolon : (c == 59) ≡ false

IsOfName-byte : (c : ℕ) → is_trace_byte c ≡ true → IsOfName c
IsOfName-byte c is =
    let p = and_parts (nat_le 33 c && nat_le c 126 && not (c == 59)) (not (c == 37)) is in
    let q = and_parts (nat_le 33 c && nat_le c 126) (not (c == 59)) p.0 in
    let r = and_parts (nat_le 33 c) (nat_le c 126) q.0 in
    let low = leb-true 33 c r.0 in
    let space = ne_eqb c 32 (λ e. omega arith) in
    let tab = ne_eqb c 9 (λ e. omega arith) in
    let feed = ne_eqb c 10 (λ e. omega arith) in
    let form = ne_eqb c 12 (λ e. omega arith) in
    let return = ne_eqb c 13 (λ e. omega arith) in
    record {
      blank = rw (space, tab, feed, form, return) refl;
      comment = not-true (c == 37) p.1;
      semicolon = not-true (c == 59) q.1;
    }

begins_name-drop : (text : List ℕ) (at : ℕ) → at < length text → begins_name (drop at text) ≡ is_trace_byte (slice_index text at)
begins_name-drop text at low = ap begins_name (drop_more text at 0 low)

begins_name-end : (text : List ℕ) (at : ℕ) → length text ≤ at → begins_name (drop at text) ≡ false
begins_name-end text at past = ap begins_name (drop_all at text past)

fourth : {X : Type 0} (p q r t : Bool) (a b c d e : X) → p ≡ false → q ≡ false → r ≡ false → t ≡ true →
    (if p then a else if q then b else if r then c else if t then d else e) ≡ d
fourth p q r t a b c d e no_p no_q no_r is_t = rw (no_p, no_q, no_r, is_t) refl

-- one byte of a name
tokens-byte : (text : List ℕ) (at : ℕ) → at < length text → is_trace_byte (slice_index text at) ≡ true
    → tokens false at (drop at text) ≡ with_byte (slice_index text at) (begins_name (drop (at + 1) text)) (tokens false (at + 1) (drop (at + 1) text))
tokens-byte text at low is =
    let of = IsOfName-byte (slice_index text at) is in
    ap (tokens false at) (drop_more text at 0 low) ∙ fourth (is_blank (slice_index text at)) (slice_index text at == 37) (slice_index text at == 59)
    (is_trace_byte (slice_index text at)) _ _ _ _ _ of.blank of.comment of.semicolon is

take_drop : (text : List ℕ) (at n : ℕ) → at < length text → take (suc n) (drop at text) ≡ slice_index text at ∷ take n (drop (at + 1) text)
take_drop text at n low = ap (take (suc n)) (drop_more text at 0 low)

-- where a name ends, none goes on
begins_name-stop : (text : List ℕ) (end : ℕ) → (end < length text → is_trace_byte (slice_index text end) ≡ false) → begins_name (drop end text) ≡ false
begins_name-stop text end stops = ⊎_elim
    (λ (low : end < length text). begins_name-drop text end low ∙ stops low)
    (λ (past : length text ≤ end). begins_name-end text end past)
    (cases_lt end (length text))

-- a name, by the number of its bytes behind the first
pub tokens-name : (text : List ℕ) (n at end : ℕ) → end ≡ at + suc n → IsNameAt text at end →
    tokens false at (drop at text) ≡ Name (take (suc n) (drop at text)) ∷ tokens false end (drop end text)
tokens-name text zero at end e is =
    let low : at < length text = omega (arith, is.within) in
    let byte = is.bytes at (omega arith) (omega arith) in
    let next : end ≡ at + 1 = omega arith in
    let stop = ap (λ k. begins_name (drop k text)) (sym next) ∙ begins_name-stop text end is.stops in
    tokens-byte text at low byte ∙ ap (λ b. with_byte (slice_index text at) b (tokens false (at + 1) (drop (at + 1) text))) stop
    ∙ ap (λ name. Name name ∷ tokens false (at + 1) (drop (at + 1) text)) (sym (take_drop text at 0 low))
    ∙ ap (λ k. Name (take 1 (drop at text)) ∷ tokens false k (drop k text)) (sym next)
tokens-name text (suc n) at end e is =
    let low : at < length text = omega (arith, is.within) in
    let byte = is.bytes at (omega arith) (omega arith) in
    let more : at + 1 < length text = omega (arith, is.within) in
    let goes_on = begins_name-drop text (at + 1) more ∙ is.bytes (at + 1) (omega arith) (omega arith) in
    let rest : IsNameAt text (at + 1) end = record {
      some = omega arith;
      within = is.within;
      bytes = λ k from to. is.bytes k (omega arith) to;
      stops = is.stops;
    } in
    let name = tokens-name text n (at + 1) end (omega arith) rest in
    tokens-byte text at low byte ∙ ap (λ b. with_byte (slice_index text at) b (tokens false (at + 1) (drop (at + 1) text))) goes_on
    ∙ ap (with_byte (slice_index text at) true) name
    ∙ ap (λ bytes. Name bytes ∷ tokens false end (drop end text)) (sym (take_drop text at (suc n) low))

-- a name that stands from one place to another
pub tokens-from_name : (text : List ℕ) (at end : ℕ) → IsNameAt text at end →
    tokens false at (drop at text) ≡ Name (take (end - at) (drop at text)) ∷ tokens false end (drop end text)
tokens-from_name text at end is =
    let some = is.some in
    let e : end - at ≡ suc (end - at - 1) = omega arith in
    tokens-name text (end - at - 1) at end (omega arith) is ∙ ap (λ n. Name (take n (drop at text)) ∷ tokens false end (drop end text)) (sym e)
