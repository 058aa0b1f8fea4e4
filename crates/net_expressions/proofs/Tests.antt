-- Inner: tests of tokens by numbers, and judgements by other numbers.
use Rattle.std.proofs.Common.{◌≡◌, ℕ, Bool, true, false, ◌==◌, cond, eq-eqb, IsTrue, List, [], ◌∷◌, Option, Some, None, is_some, refl, sym, ap}
use Rattle.std.specs.Prelude.{if◌then◌else◌}
use Rattle.base_reader.specs.Languages.{Within}
use Rattle.base_reader.specs.Readings.{Rule}
use Rattle.base_reader.proofs.Exports.{has, Test, test-of, Shape, Starts, Stops, Laws, Reads, same-total}
use Rattle.net_expressions.specs.Signs.{numbered_as}

pub both-ways : (b : Bool) → is_some {T = Unit {0}} (if b then Some tt else None) ≡ cond b true false
both-ways true = refl
both-ways false = refl

-- a test by a number, where that is the class
pub number-test : {K : Type 0} (number : K → ℕ) (n : ℕ) (token : K) → number token ≡ n → Test number (numbered_as number n) (n ∷ [])
number-test number n token is =
    test-of (n ∷ []) (λ other. both-ways (n == number other)) token tt (ap (λ b. if b then Some tt else None) (eq-eqb n (number token) (sym is)))

-- The same judgement by another class, where what begins a member begins one there too, and what may stand behind one
-- there may stand there here.
pub class-reads : {T A : Type 0} {class : T → ℕ} {p : ℕ → Rule T A} {L : A → List T → Type 0} {d : A → ℕ} {s : Shape} {room : Option ℕ} →
    (other : T → ℕ) (t : Shape) → Reads class p L d s room → (IsTrue s.empty → IsTrue t.empty)
    → ((token : T) → has s.starts (class token) ≡ true → has t.starts (other token) ≡ true)
    → ((token : T) → has t.after (other token) ≡ false → has s.after (class token) ≡ false) → Reads other p L d t room
class-reads {T} {A} {class} {p} {L} {d} {s} {room} other t r empty starts after = record {
  lang = record {
    begins = λ value tokens member. begun tokens (r.lang.begins value tokens member);
    value = r.lang.value;
    tokens = r.lang.tokens;
    member = r.lang.member;
    flat = r.lang.flat;
  };
  laws = go room r.laws;
}
  where
    begun : (tokens : List T) → Starts class s tokens → Starts other t tokens
    begun [] is = empty is
    begun (token ∷ rest) is = starts token is

    stopped : (tokens : List T) → Stops other t.after tokens → Stops class s.after tokens
    stopped [] is = tt
    stopped (token ∷ rest) is = after token is

    go : (room : Option ℕ) → Laws class p L d s room → Laws other p L d t room
    go None laws = tt
    go (Some n) laws = (
      laws.0,
      same-total p (Within L d) (λ _. Stops class s.after) (Within L d) (λ _. Stops other t.after) n
          (λ value tokens rest member stops. (member, stopped rest stops)) laws.1,
    )
