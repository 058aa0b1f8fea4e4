-- Of two instances of one statement that run in one instant the keys differ.
use Rattle.std.proofs.Common.{◌≡◌, ℕ, ◌+◌, ◌≤◌, ◌⊎◌, Bool, true, ◌&&◌, refl, sym, ap, ◌∙◌, inl, inr, ⊎_elim, arith}
use Rattle.std.specs.Prelude.{⊤}
use Rattle.std.proofs.lemmas.Bool.{or_left, or_right, both_ways, and_from}
use Rattle.est_kernel.specs.Terms.{Term, Nothing, Pause, Emit, Exit, Present, Suspend, Seq, Loop, Par, Trap, Local, Awake}
use Rattle.est_kernel.specs.Preorder.{statement_count}
use Rattle.grc_graph.specs.Layers.{Layer, Resumed, Started}
use Rattle.grc_graph.specs.Readings.{Valuation}
use Rattle.grc_graph.specs.Residuals.{holds}
use Rattle.grc_graph.specs.Selected.{HasExitCodes, IsSelected}
use Rattle.grc_graph.specs.Wires.{Go}
use Rattle.grc_share.proofs.Exports.{OwnKeys}

-- an instance runs
abbrev pub Runs : Valuation → ℕ → Layer → Type 0
Runs V n l = V (Go n l) ≡ true

-- what tells the layers of a statement apart, where k loop bodies are at or above it, and c counts those above a root
abbrev pub layer_key : (ℕ → ℕ) → ℕ → Layer → ℕ
layer_key c k Resumed = k
layer_key c k (Started r) = c r

-- the instances that run at n have keys of their own, and none above k
pub record Apart (V : Valuation) (c : ℕ → ℕ) (k n : ℕ) : Type 0 where
  pub one : (l j : Layer) → Runs V n l → Runs V n j → layer_key c k l ≡ layer_key c k j → l ≡ j
  pub low : (l : Layer) → Runs V n l → layer_key c k l ≤ k

-- ---- how parts run

-- a part at m runs in a layer in which the statement at n does
abbrev pub Descends : Valuation → (m n : ℕ) → Type 0
Descends V m n = (l : Layer) → Runs V m l → Runs V n l

-- a second part at m runs with the sequence at n, resumed only where it holds a selected pause; or it is started at its
-- own root, by the resumed first part, which holds one
abbrev pub Follows : Valuation → (first second : Bool) → (m n : ℕ) → Type 0
Follows V first second m n =
    (l : Layer) → Runs V m l
    → (Runs V n l × (l ≡ Resumed → second ≡ true)) ⊎ ((l ≡ Started m) × (Runs V n Resumed × (first ≡ true)))

-- a loop's body at m runs with the loop at n, or is restarted at its own root where the loop is resumed
abbrev pub Restarts : Valuation → (m n : ℕ) → Type 0
Restarts V m n = (l : Layer) → Runs V m l → Runs V n l ⊎ ((l ≡ Started m) × Runs V n Resumed)

abbrev pub PartsRun : Valuation → (ℕ → Bool) → Term → ℕ → Type 0
PartsRun V S Nothing n = ⊤
PartsRun V S Pause n = ⊤
PartsRun V S (Emit s) n = ⊤
PartsRun V S (Exit k) n = ⊤
PartsRun V S (Present e p q) n =
    Descends V (n + 1) n × Descends V (n + 1 + statement_count p) n
    × PartsRun V S p (n + 1) × PartsRun V S q (n + 1 + statement_count p)
PartsRun V S (Suspend e p) n = Descends V (n + 1) n × PartsRun V S p (n + 1)
PartsRun V S (Seq p q) n =
    Descends V (n + 1) n × Follows V (holds S p (n + 1)) (holds S q (n + 1 + statement_count p)) (n + 1 + statement_count p) n
    × PartsRun V S p (n + 1) × PartsRun V S q (n + 1 + statement_count p)
PartsRun V S (Loop at p) n = Restarts V (n + 1) n × PartsRun V S p (n + 1)
PartsRun V S (Par p q) n =
    Descends V (n + 1) n × Descends V (n + 1 + statement_count p) n
    × PartsRun V S p (n + 1) × PartsRun V S q (n + 1 + statement_count p)
PartsRun V S (Trap p) n = Descends V (n + 1) n × PartsRun V S p (n + 1)
PartsRun V S (Local s p) n = Descends V (n + 1) n × PartsRun V S p (n + 1)
PartsRun V S (Awake e p) n = ⊤

-- so it is of all statements in one at n
abbrev pub AllApart : Valuation → (ℕ → ℕ) → ℕ → Term → ℕ → Type 0
AllApart V c k Nothing n = Apart V c k n
AllApart V c k Pause n = Apart V c k n
AllApart V c k (Emit s) n = Apart V c k n
AllApart V c k (Exit a) n = Apart V c k n
AllApart V c k (Present e p q) n =
    Apart V c k n × AllApart V c k p (n + 1) × AllApart V c k q (n + 1 + statement_count p)
AllApart V c k (Suspend e p) n = Apart V c k n × AllApart V c k p (n + 1)
AllApart V c k (Seq p q) n =
    Apart V c k n × AllApart V c k p (n + 1) × AllApart V c k q (n + 1 + statement_count p)
AllApart V c k (Loop at p) n = Apart V c k n × AllApart V c (k + 1) p (n + 1)
AllApart V c k (Par p q) n =
    Apart V c k n × AllApart V c k p (n + 1) × AllApart V c k q (n + 1 + statement_count p)
AllApart V c k (Trap p) n = Apart V c k n × AllApart V c k p (n + 1)
AllApart V c k (Local s p) n = Apart V c k n × AllApart V c k p (n + 1)
AllApart V c k (Awake e p) n = Apart V c k n

-- ---- one form after another

apart_part : (V : Valuation) (c : ℕ → ℕ) (k m n : ℕ) → Descends V m n → Apart V c k n → Apart V c k m
apart_part V c k m n d a = record {
  one = λ l j g h e. a.one l j (d l g) (d j h) e;
  low = λ l g. a.low l (d l g);
}

apart_second : (V : Valuation) (c : ℕ → ℕ) (k m n : ℕ) (first second : Bool) → c m ≡ k → (first ≡ true → second ≡ true → ⊥)
    → Follows V first second m n → Apart V c k n → Apart V c k m
apart_second V c k m n first second own never f a = record { one = one; low = low }
  where
    -- started at its own root, and with the sequence
    mixed : (l j : Layer) → l ≡ Started m → Runs V n Resumed → first ≡ true → Runs V n j → (j ≡ Resumed → second ≡ true)
        → layer_key c k l ≡ layer_key c k j → ⊥
    mixed l j e g h i r same =
        let key : layer_key c k j ≡ k = sym same ∙ ap (layer_key c k) e ∙ own in
        never h (r (a.one j Resumed i g key))

    one : (l j : Layer) → Runs V m l → Runs V m j → layer_key c k l ≡ layer_key c k j → l ≡ j
    one l j g h e = ⊎_elim
        (λ x. ⊎_elim (λ y. a.one l j x.0 y.0 e) (λ y. absurd (mixed j l y.0 y.1.0 y.1.1 x.0 x.1 (sym e))) (f j h))
        (λ x. ⊎_elim (λ y. absurd (mixed l j x.0 x.1.0 x.1.1 y.0 y.1 e)) (λ y. x.0 ∙ sym y.0) (f j h))
        (f l g)

    low : (l : Layer) → Runs V m l → layer_key c k l ≤ k
    low l g = ⊎_elim (λ x. a.low l x.0) (λ x. omega (arith, ap (layer_key c k) x.0, own)) (f l g)

-- the keys of a loop's body, where what is resumed counts one more
key_deeper : (c : ℕ → ℕ) (k : ℕ) (l : Layer) → (l ≡ Resumed) ⊎ (layer_key c (k + 1) l ≡ layer_key c k l)
key_deeper c k Resumed = inl refl
key_deeper c k (Started r) = inr refl

apart_body : (V : Valuation) (c : ℕ → ℕ) (k m n : ℕ) → c m ≡ k → Restarts V m n → Apart V c k n → Apart V c (k + 1) m
apart_body V c k m n own f a = record { one = one; low = low }
  where
    resumed-key : (l : Layer) → l ≡ Resumed → layer_key c (k + 1) l ≡ k + 1
    resumed-key l e = ap (layer_key c (k + 1)) e

    -- started, whether with the loop or at its own root, the key is at most k
    at-most : (r : ℕ) → Runs V m (Started r) → c r ≤ k
    at-most r g = ⊎_elim (λ x. a.low (Started r) x) (λ x. omega (arith, ap (layer_key c k) x.0, own)) (f (Started r) g)

    -- started at its own root, and with the loop
    mixed : (r s : ℕ) → Started r ≡ Started m → Runs V n Resumed → Runs V n (Started s) → c r ≡ c s → ⊥
    mixed r s e g h same =
        let key : c s ≡ k = sym same ∙ ap (layer_key c k) e ∙ own in
        started-resumed s (a.one (Started s) Resumed h g key)
      where
        started-resumed : (s : ℕ) → Started s ≡ Resumed → ⊥
        started-resumed s e = cc

    one : (l j : Layer) → Runs V m l → Runs V m j → layer_key c (k + 1) l ≡ layer_key c (k + 1) j → l ≡ j
    one Resumed Resumed g h e = refl
    one Resumed (Started s) g h e = absurd (omega (arith, at-most s h, e))
    one (Started r) Resumed g h e = absurd (omega (arith, at-most r g, e))
    one (Started r) (Started s) g h e = ⊎_elim
        (λ x. ⊎_elim (λ y. a.one (Started r) (Started s) x y e) (λ y. absurd (mixed s r y.0 y.1 x (sym e))) (f (Started s) h))
        (λ x. ⊎_elim (λ y. absurd (mixed r s x.0 x.1 y e)) (λ y. x.0 ∙ sym y.0) (f (Started s) h))
        (f (Started r) g)

    low : (l : Layer) → Runs V m l → layer_key c (k + 1) l ≤ k + 1
    low Resumed g = omega arith
    low (Started r) g = omega (arith, at-most r g)

-- ---- all statements

pub all_apart : (V : Valuation) (S : ℕ → Bool) (c : ℕ → ℕ) (k : ℕ) (t : Term) (n : ℕ) → HasExitCodes t → OwnKeys c k t n
    → (holds S t n ≡ true → IsSelected S t n) → PartsRun V S t n → Apart V c k n → AllApart V c k t n
all_apart V S c k Nothing n x g s r a = a
all_apart V S c k Pause n x g s r a = a
all_apart V S c k (Emit u) n x g s r a = a
all_apart V S c k (Exit u) n x g s r a = a
all_apart V S c k (Present e p q) n x g s r a =
    let m = n + 1 + statement_count p in (
      a,
      all_apart V S c k p (n + 1) x.0 g.0 (λ h. (s (or_left (holds S p (n + 1)) (holds S q m) h)).1 h) r.2 (apart_part V c k (n + 1) n r.0 a),
      all_apart V S c k q m x.1 g.1 (λ h. (s (or_right (holds S p (n + 1)) (holds S q m) h)).2 h) r.3 (apart_part V c k m n r.1 a),
    )
all_apart V S c k (Suspend e p) n x g s r a = (a, all_apart V S c k p (n + 1) x g s r.1 (apart_part V c k (n + 1) n r.0 a))
all_apart V S c k (Seq p q) n x g s r a =
    let m = n + 1 + statement_count p in
    let never : holds S p (n + 1) ≡ true → holds S q m ≡ true → ⊥ = λ h i.
    both_ways (holds S p (n + 1) && holds S q m) (s (or_left (holds S p (n + 1)) (holds S q m) h)).0 (and_from (holds S p (n + 1)) (holds S q m) h i) in (
      a,
      all_apart V S c k p (n + 1) x.0 g.1 (λ h. (s (or_left (holds S p (n + 1)) (holds S q m) h)).1 h) r.2 (apart_part V c k (n + 1) n r.0 a),
      all_apart V S c k q m x.1 g.2 (λ h. ((s (or_right (holds S p (n + 1)) (holds S q m) h)).2 h).1) r.3
          (apart_second V c k m n (holds S p (n + 1)) (holds S q m) g.0 never r.1 a),
    )
all_apart V S c k (Loop at p) n x g s r a = (a, all_apart V S c (k + 1) p (n + 1) x g.1 s r.1 (apart_body V c k (n + 1) n g.0 r.0 a))
all_apart V S c k (Par p q) n x g s r a =
    let m = n + 1 + statement_count p in (
      a,
      all_apart V S c k p (n + 1) x.0 g.0 (λ h. (s (or_left (holds S p (n + 1)) (holds S q m) h)).2 h) r.2 (apart_part V c k (n + 1) n r.0 a),
      all_apart V S c k q m x.1 g.1 (λ h. (s (or_right (holds S p (n + 1)) (holds S q m) h)).3 h) r.3 (apart_part V c k m n r.1 a),
    )
all_apart V S c k (Trap p) n x g s r a = (a, all_apart V S c k p (n + 1) x g s r.1 (apart_part V c k (n + 1) n r.0 a))
all_apart V S c k (Local u p) n x g s r a = (a, all_apart V S c k p (n + 1) x g s r.1 (apart_part V c k (n + 1) n r.0 a))
all_apart V S c k (Awake e p) n x g s r a = a
