-- Inner: valuations of a net's names: what holds of lists of equations, and names with given values.
use Rattle.std.proofs.Common.{◌≡◌, ℕ, ◌+◌, ◌<◌, suc, List, [], ◌∷◌, length, get_or, refl, sym, ap, ◌∙◌, arith}
use Rattle.net_ir.specs.Numbered.{numbered}

-- ---- lists

pub numbered-same : {X Y : Type 0} (f g : ℕ → X → Y) (n : ℕ) (xs : List X)
    → ((k : ℕ) (d : X) → k < length xs → f (n + k) (get_or xs k d) ≡ g (n + k) (get_or xs k d)) → numbered f n xs ≡ numbered g n xs
numbered-same f g n [] same = refl
numbered-same f g n (x ∷ xs) same =
    let z : n + 0 ≡ n = omega arith in
    let here : f n x ≡ g n x = ap (λ m. f m x) (sym z) ∙ same 0 x (omega arith) ∙ ap (λ m. g m x) z in
    let rest = numbered-same f g (n + 1) xs (λ k d h.
    let s : n + suc k ≡ n + 1 + k = omega arith in
    ap (λ m. f m (get_or xs k d)) (sym s) ∙ same (suc k) d (omega arith) ∙ ap (λ m. g m (get_or xs k d)) s) in
    cc

-- ---- names with given values

-- ---- what is told of the instants of a net's run
