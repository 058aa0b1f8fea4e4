-- Lists of names and of relations, one after another.
use Rattle.std.proofs.Common.{◌≡◌, ℕ, List, [], ◌∷◌, ◌++◌, Result, Ok, Err, append_assoc, refl, sym, ap, ◌∙◌}
use Rattle.std.proofs.lemmas.List.{append-nil}
use Rattle.cec_opt_texts.specs.Related.{result_then, results_of}

-- what follows values that are there
abbrev pub after_these : {Y : Type 0} → List Y → Result (List Y) (List ℕ) → Result (List Y) (List ℕ)
after_these done = result_then (λ more. Ok (done ++ more))

pub after-none : {Y : Type 0} → (rest : Result (List Y) (List ℕ)) → after_these [] rest ≡ rest
after-none (Ok ys) = refl
after-none (Err name) = refl

after-one : {Y : Type 0} → (done : List Y) (y : Y) (rest : Result (List Y) (List ℕ)) → after_these done (result_then (λ ys. Ok (y ∷ ys)) rest)
    ≡ after_these (done ++ y ∷ []) rest
after-one done y (Ok ys) = ap Ok (sym (append_assoc done (y ∷ []) ys))
after-one done y (Err name) = refl

pub next-value : {X Y : Type 0} → (f : X → Result Y (List ℕ)) (done : List Y) (x : X) (y : Y) (xs : List X) → f x ≡ Ok y
    → after_these (done ++ y ∷ []) (results_of f xs) ≡ after_these done (results_of f (x ∷ xs))
next-value f done x y xs is =
    sym (after-one done y (results_of f xs))
    ∙ ap (λ r. after_these done (result_then (λ v. result_then (λ ys. Ok (v ∷ ys)) (results_of f xs)) r)) (sym is)

pub next-name : {X Y : Type 0} → (f : X → Result Y (List ℕ)) (done : List Y) (x : X) (name : List ℕ) (xs : List X) → f x ≡ Err name
    → after_these done (results_of f (x ∷ xs)) ≡ Err name
next-name f done x name xs is =
    ap (λ r. after_these done (result_then (λ v. result_then (λ ys. Ok (v ∷ ys)) (results_of f xs)) r)) is

pub all-values : {X Y : Type 0} → (f : X → Result Y (List ℕ)) (done : List Y) → after_these done (results_of f []) ≡ Ok done
all-values f done = ap Ok (append-nil done)
