-- The nets of sources, one after another.
use Rattle.std.proofs.Common.{◌≡◌, ℕ, zero, suc, ◌+◌, [], ◌∷◌, ◌++◌, map, ap, ◌∙◌, arith}
use Rattle.std.specs.List.{range_with_len}
use Rattle.std.proofs.lemmas.List.{map-append}
use Rattle.base_types.specs.declared.indices.NetId.{NetId}
use Rattle.net_cycles.specs.Bases.{numbered_nets}

range-suc : (n a : ℕ) → range_with_len a (suc n) ≡ range_with_len a n ++ (a + n) ∷ []
range-suc zero a = let e : a ≡ a + 0 = omega arith in ap (λ x. x ∷ []) e
range-suc (suc n) a =
    let e : a + 1 + n ≡ a + suc n = omega arith in
    ap (λ l. a ∷ l) (range-suc n (a + 1) ∙ ap (λ x. range_with_len (a + 1) n ++ x ∷ []) e)

pub numbered-more : (n : ℕ) → numbered_nets (n + 1) ≡ numbered_nets n ++ record { 0 = n } ∷ []
numbered-more n =
    let f = λ (k : ℕ). let x : NetId = record { 0 = k } in x in
    let e : n + 1 ≡ suc n = omega arith in
    let z : 0 + n ≡ n = omega arith in
    ap numbered_nets e ∙ ap (map f) (range-suc n 0) ∙ map-append f (range_with_len 0 n) ((0 + n) ∷ [])
    ∙ ap (λ k. map f (range_with_len 0 n) ++ f k ∷ []) z
