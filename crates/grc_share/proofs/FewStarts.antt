-- A statement has at most one shared started instance more than there are loop bodies around it.
use Rattle.std.proofs.Common.{◌≡◌, ℕ, suc, ◌+◌, ◌<◌, ◌≤◌, ◌==◌, Bool, true, false, cond, List, [], ◌∷◌, ◌++◌, length, map, refl}
use Rattle.std.proofs.Common.{sym, ap, ◌∙◌, subst, ⊎_elim, arith}
use Rattle.std.specs.Prelude.{filter, if◌then◌else◌}
use Rattle.std.specs.List.{list_any}
use Rattle.std.proofs.lemmas.Bool.{cases_lt, eq-eqb, eqb-true, or_left, or_right}
use Rattle.est_kernel.specs.Plain.{Program}
use Rattle.est_kernel.specs.Preorder.{statement_count}
use Rattle.est_kernel.specs.WellFormed.{IsKernel}
use Rattle.grc_graph.specs.Layers.{Resumed, Started, same_layer}
use Rattle.grc_graph.proofs.Exports.{program_placed}
use Rattle.grc_share.specs.SharedInstances.{Sharing, body_sharing}
use Rattle.grc_share.specs.SharedWires.{first_root, is_started, shared_layer, shared_layers}
use Rattle.grc_share.proofs.FirstRoots.{Among, Rises, among_all, keys_from}
use Rattle.grc_share.proofs.RootKeys.{KeysRise, body_keys_rise}
use Rattle.grc_share.proofs.RowsLive.{program_gives}
use Rattle.grc_share.proofs.SharedNames.{first_same}

-- ---- keys that differ are few

here : (x : ℕ) (xs : List ℕ) → Among x (x ∷ xs)
here x xs = or_left (x == x) (list_any (λ s. s == x) xs) (eq-eqb x x refl)

later : (r x : ℕ) (xs : List ℕ) → Among r xs → Among r (x ∷ xs)
later r x xs h = or_right (x == r) (list_any (λ s. s == r) xs) h

-- of those for which f holds no two have one key, and none has one below b
few : (c : ℕ → ℕ) (f : ℕ → Bool) (a b k : ℕ) (xs : List ℕ) → b ≤ k + 1 → KeysRise c a k xs → Rises xs
    → ((r : ℕ) → Among r xs → f r ≡ true → b ≤ c r)
    → ((r s : ℕ) → Among r xs → Among s xs → f r ≡ true → f s ≡ true → c r ≡ c s → r ≡ s)
    → length (filter f xs) + b ≤ k + 1
few c f a b k [] e keys up low one = omega (arith, e)
few c f a b k (x ∷ xs) e keys up low one =
    by (f x) refl
    (few c f (c x) b k xs e keys.2 up.1 (λ r i. low r (later r x xs i)) (λ r s i j. one r s (later r x xs i) (later s x xs j)))
    (λ g.
    few c f (c x) (c x + 1) k xs (omega (arith, keys.1)) keys.2 up.1
    (λ r i h.
    let rise = keys_from c (c x) k xs r keys.2 i in
    ⊎_elim (λ l. omega (arith, l)) (λ l.
    let same : c x ≡ c r = omega (arith, l, rise) in
    let equal = one x r (here x xs) (later r x xs i) g h same in
    absurd (omega (arith, equal, among_all (λ y. x < y) r xs up.0 i))) (cases_lt (c x) (c r)))
    (λ r s i j. one r s (later r x xs i) (later s x xs j)))
  where
    by : (y : Bool) → f x ≡ y → length (filter f xs) + b ≤ k + 1 → (f x ≡ true → length (filter f xs) + (c x + 1) ≤ k + 1)
        → length (cond y (x ∷ filter f xs) (filter f xs)) + b ≤ k + 1
    by true g h n = omega (arith, n g, low x (here x xs) g)
    by false g h n = h

-- ---- the shared starts of a statement

abbrev first : (ℕ → ℕ) → List ℕ → ℕ → Bool
first c all r = first_root c all r == r

first-one : (c : ℕ → ℕ) (all : List ℕ) (r s : ℕ) → Among r all → first c all r ≡ true → first c all s ≡ true → c r ≡ c s → r ≡ s
first-one c all r s i h g e =
    sym (eqb-true (first_root c all r) r h) ∙ first_same c all r s e i ∙ eqb-true (first_root c all s) s g

starts-of : (K : Sharing) (n : ℕ) (rs : List ℕ)
    → length (filter is_started (filter (λ l. same_layer (shared_layer K n l) l) (map Started rs)))
    ≡ length (filter (first K.root (K.live n).roots) rs)
starts-of K n [] = refl
starts-of K n (r ∷ rs) = by (first K.root (K.live n).roots r) (starts-of K n rs)
  where
    by : (b : Bool) → length (filter is_started (filter (λ l. same_layer (shared_layer K n l) l) (map Started rs)))
        ≡ length (filter (first K.root (K.live n).roots) rs)
        → length (filter is_started (cond b (Started r ∷ filter (λ l. same_layer (shared_layer K n l) l) (map Started rs))
        (filter (λ l. same_layer (shared_layer K n l) l) (map Started rs))))
        ≡ length (cond b (r ∷ filter (first K.root (K.live n).roots) rs) (filter (first K.root (K.live n).roots) rs))
    by true e = ap (λ k. suc k) e
    by false e = e

starts-in : (K : Sharing) (n : ℕ) → length (filter is_started (shared_layers K n)) ≡ length (filter (first K.root (K.live n).roots) (K.live n).roots)
starts-in K n = by (K.live n).resumed
  where
    by : (b : Bool)
        → length (filter is_started (filter (λ l. same_layer (shared_layer K n l) l) ((if b then Resumed ∷ [] else []) ++ map Started (K.live n).roots)))
        ≡ length (filter (first K.root (K.live n).roots) (K.live n).roots)
    by true = starts-of K n (K.live n).roots
    by false = starts-of K n (K.live n).roots

pub few-starts : (p : Program) (n : ℕ) → IsKernel p.body → n < statement_count p.body
    → length (filter is_started (shared_layers (body_sharing p.body) n)) ≤ (body_sharing p.body).resumed n + 1
few-starts p n kernel l =
    let K = body_sharing p.body in
    let rs = (K.live n).roots in
    let e = program_gives p kernel n (omega arith) (omega (arith, l)) in
    let up = subst (λ a. Rises a.roots) e (program_placed p n l).roots.rises in
    let count = few K.root (first K.root rs) 0 0 (K.resumed n) rs (omega arith) (body_keys_rise p.body n l) up (λ r i h. omega arith)
    (λ r s i j h g. first-one K.root rs r s i h g) in
    omega (arith, count, starts-in K n)
