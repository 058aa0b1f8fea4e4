-- What the wires of an instance meet, and what its place sees and finds.
use Rattle.std.proofs.Common.{◌≡◌, ℕ, ◌+◌, ◌<◌, ◌≤◌, Bool, true, false, ◌&&◌, ◌||◌, ◌==◌, cond, ltb, List, [], ◌∷◌, ◌++◌, refl, sym, ap, ◌∙◌, subst, inl}
use Rattle.std.proofs.Common.{inr, ⊎_elim, arith}
use Rattle.std.specs.List.{list_any}
use Rattle.std.proofs.lemmas.Bool.{or_cases, or_left, or_right, eqb-true, eqb-false, eq-eqb, ne_eqb, false≢true, cases_Bool, cond-true, cond-false}
use Rattle.std.proofs.lemmas.Bool.{lt-ltb}
use Rattle.base_facts.proofs.Tests.{ltb-not, same-tests, and-true, and-false}
use Rattle.est_kernel.specs.Terms.{Term, Nothing, Pause, Emit, Exit, Local, Awake}
use Rattle.est_kernel.specs.Preorder.{statement_count}
use Rattle.est_kernel.specs.StaticCodes.{has_code, resumed_codes}
use Rattle.est_kernel.proofs.Exports.{statement_count-some}
use Rattle.grc_graph.specs.Layers.{Layer, Resumed, Started, root_if, layer_above, same_layer}
use Rattle.grc_graph.specs.Scopes.{Binding, BoundAt, Scope, bind}
use Rattle.grc_graph.specs.Wires.{Go, StatusOf, End, status_wire, instance_codes}
use Rattle.grc_graph.specs.Formulas.{Formula}
use Rattle.grc_graph.specs.Spots.{Spot}
use Rattle.grc_graph.specs.Equations.{end_formula, is_wire}
use Rattle.grc_graph.specs.Residuals.{holds}
use Rattle.grc_graph.specs.Walk.{Walk, Values, State, with_value, then_walk, started_walk, resumed_walk}
use Rattle.grc_graph.specs.Selected.{HasExitCodes}
use Rattle.grc_graph.specs.Readings.{Valuation, seen_value, holds_at}
use Rattle.grc_graph.specs.Coherence.{statuses, InstanceWalked, StartedWalked, ResumedWalked}
use Rattle.grc_solutions.proofs.Exports.{spot, EachStarted, EachResumed, Above, Root}
use Rattle.grc_solutions_laws.proofs.Residues.{some_has}
use Rattle.grc_graph.proofs.Exports.{resumed_below, holds_at-self, above_behind}
use Rattle.grc_solutions_laws.proofs.Emissions.{emitted, other_binding}
use Rattle.grc_solutions_laws.proofs.WalkEmits.{Fresh, Shows}
use Rattle.grc_solutions_laws.proofs.EndForms.{val}

-- the status wire of a Local
abbrev pub StatusMet : Valuation → List Spot → Term → ℕ → Layer → Type 0
StatusMet V all (Local s p) n l = V (StatusOf n l) ≡ emitted V (StatusOf n l) all
StatusMet V all t n l = Unit {0}

-- the wires of an instance meet their equations
pub record Met (B : Scope) (body : Term) (q : State) (given : Values) (V : Valuation) (all : List Spot) (x : Spot) : Type 0 where
  pub go : V (Go x.path x.layer) ≡ val B body q given V x.entry
  pub ends : (k : ℕ) → V (End x.path x.layer k) ≡ (instance_codes x.statement x.layer k
      && val B body q given V (end_formula x.scope x.statement x.path x.layer k))
  pub status : StatusMet V all x.statement x.path x.layer

-- the facts at the statement itself
pub head_started : (P : Spot → Type 0) (B : Scope) (f : Layer → Formula) (t : Term) (n : ℕ) (l : Layer) → HasExitCodes t → EachStarted P B f t n l →
    P (spot B f t n l)
head_started P B f Nothing n l k e = e
head_started P B f Pause n l k e = e
head_started P B f (Emit s) n l k e = e
head_started P B f (Exit c) n l k e = e
head_started P B f (Awake x p) n l k e = absurd k
head_started P B f _ n l k e = e.0

pub head_resumed : (P : Spot → Type 0) (B : Scope) (f : Layer → Formula) (t : Term) (n : ℕ) → HasExitCodes t → EachResumed P B f t n → P (spot B f t n Resumed)
head_resumed P B f Nothing n k e = e
head_resumed P B f Pause n k e = e
head_resumed P B f (Emit s) n k e = e
head_resumed P B f (Exit c) n k e = e
head_resumed P B f (Awake x p) n k e = absurd k
head_resumed P B f _ n k e = e.0

-- what a place sees
pub record Sees (given : Values) (V : Valuation) (B : Scope) (l : Layer) (v : Values) : Type 0 where
  pub each : (s : ℕ) → v s ≡ seen_value given V (B s) s l

bound_sees : (given : Values) (V : Valuation) (d : Bool) (n s : ℕ) (l : Layer) (b : Binding) (x : Bool) → layer_above n l ≡ l → x ≡ seen_value given V b s l →
    cond d (V (StatusOf n l)) x ≡ seen_value given V (cond d (BoundAt n) b) s l
bound_sees given V true n s l b x e h = ap (λ j. V (StatusOf n j)) (sym e)
bound_sees given V false n s l b x e h = h

pub sees_more : (given : Values) (V : Valuation) (B : Scope) (n s : ℕ) (l : Layer) (v : Values) → layer_above n l ≡ l → Sees given V B l v →
    Sees given V (bind B s n) l (with_value v s (V (StatusOf n l)))
sees_more given V B n s l v e h = record { each = λ t. bound_sees given V (t == s) n t l (B t) (v t) e (h.each t) }

root_sees : (given : Values) (V : Valuation) (b : Binding) (s m : ℕ) → ((c : ℕ) → b ≡ BoundAt c → c < m) →
    seen_value given V b s Resumed ≡ seen_value given V b s (Started m)
root_sees given V (BoundAt b) s m h = ap (λ j. V (StatusOf b j)) (sym (above_behind b m (h b refl)))
root_sees given V _ s m h = refl

pub sees_root : (given : Values) (V : Valuation) (B : Scope) (m : ℕ) (v : Values) → Above B m → Sees given V B Resumed v → Sees given V B (Started m) v
sees_root given V B m v a h = record { each = λ s. h.each s ∙ root_sees given V (B s) s m (a.each s) }

-- one of a list of roots
any_true : (f : ℕ → Bool) (r : ℕ) (rs : List ℕ) → Root r rs → f r ≡ true → list_any f rs ≡ true
any_true f r [] i e = absurd i
any_true f r (x ∷ xs) i e =
    ⊎_elim (λ z. or_left (f x) _ (subst (λ j. f j ≡ true) z e)) (λ z. or_right (f x) _ (any_true f r xs z e)) i

any_one : (f : ℕ → Bool) (r : ℕ) (rs : List ℕ) → ((x : ℕ) → (x ≡ r → ⊥) → f x ≡ false) → list_any f rs ≡ true → f r ≡ true
any_one f r [] h e = absurd (false≢true e)
any_one f r (x ∷ xs) h e =
    ⊎_elim
    (λ u. ⊎_elim (λ z. subst (λ j. f j ≡ true) (eqb-true x r z) u) (λ z. absurd (false≢true (sym (h x (eqb-false x r z)) ∙ u))) (cases_Bool (x == r)))
    (λ u. any_one f r xs h u) (or_cases (f x) (list_any f xs) e)

pub any_single : (f : ℕ → Bool) (r : ℕ) (rs : List ℕ) → Root r rs → ((x : ℕ) → (x ≡ r → ⊥) → f x ≡ false) → list_any f rs ≡ f r
any_single f r rs i h = same-tests _ _ (any_one f r rs h) (any_true f r rs i)

pub any_nothing : (f : ℕ → Bool) (rs : List ℕ) → ((x : ℕ) → Root x rs → f x ≡ false) → list_any f rs ≡ false
any_nothing f [] h = refl
any_nothing f (x ∷ xs) h = ap (λ b. b || list_any f xs) (h x (inl refl)) ∙ any_nothing f xs (λ y i. h y (inr i))

-- the wire of a Local's own status
pub own_fresh : (n : ℕ) (l : Layer) → Fresh (StatusOf n l) (n + 1)
own_fresh n l = record { other = λ m j k. ap (λ b. b && same_layer j l) (ne_eqb m n (λ e. omega arith)) }

own_bound : (d c : Bool) (n t : ℕ) (l i : Layer) (b : Binding) → same_layer (layer_above n l) i ≡ c → (b ≡ BoundAt n → ⊥) →
    is_wire (status_wire (cond d (BoundAt n) b) t l) (StatusOf n i) ≡ (c && d)
own_bound true c n t l i b e h = ap (λ x. x && same_layer (layer_above n l) i) (eq-eqb n n refl) ∙ e ∙ sym (and-true c)
own_bound false c n t l i b e h = other_binding b t n l i h ∙ sym (and-false c)

pub own_shows : (B : Scope) (n s : ℕ) (l i : Layer) (c : Bool) → Above B n → same_layer (layer_above n l) i ≡ c → Shows (bind B s n) l (StatusOf n i) s c
own_shows B n s l i c a e =
    record { each = λ t. own_bound (t == s) c n t l i (B t) e (λ z. let k = a.each t n z in omega arith) }

pub then_second : (x y : Walk) → (x.code == 0) ≡ true → (then_walk x y).code ≡ y.code
then_second x y e = ap (λ d. (cond d (record { signals = λ t. x.signals t || y.signals t; code = y.code; kept = y.kept }) x).code) e

pub then_first : (x y : Walk) → (x.code == 0) ≡ false → (then_walk x y).code ≡ x.code
then_first x y e = ap (λ d. (cond d (record { signals = λ t. x.signals t || y.signals t; code = y.code; kept = y.kept }) x).code) e

pub cond_first : (d : Bool) (x y : Walk) → d ≡ true → (cond d x y).code ≡ x.code
cond_first d x y e = ap (λ c. (cond c x y).code) e

pub cond_second : (d : Bool) (x y : Walk) → d ≡ false → (cond d x y).code ≡ y.code
cond_second d x y e = ap (λ c. (cond c x y).code) e

pub root_left : (r : ℕ) (c : Bool) (xs ys : List ℕ) → c ≡ true → Root r xs → Root r (cond c xs [] ++ ys)
root_left r true xs ys e h = go xs h
  where
    go : (zs : List ℕ) → Root r zs → Root r (zs ++ ys)
    go [] i = absurd i
    go (z ∷ zs) i = ⊎_elim (λ u. inl u) (λ u. inr (go zs u)) i
root_left r false xs ys e h = absurd (false≢true e)

pub code_lives : (p : Term) → HasExitCodes p → (k : ℕ) → resumed_codes p k ≡ true → has_code (resumed_codes p) ≡ true
code_lives p b k h = some_has (resumed_codes p) (k, omega (arith, resumed_below p b k h), h)

pub not_both : (c d : Bool) → (c && d) ≡ false → d ≡ true → c ≡ false
not_both true true e h = absurd (false≢true (sym e))
not_both true false e h = absurd (false≢true h)
not_both false d e h = refl

-- the wires of a started statement itself
pub started_at : (V : Valuation) (t : Term) (n : ℕ) (l : Layer) (v : Values) (b : Bool) → HasExitCodes t → StartedWalked V t n l v b →
    InstanceWalked V n l b (started_walk (statuses V) t n l v)
started_at V Nothing n l v b k w = w
started_at V Pause n l v b k w = w
started_at V (Emit s) n l v b k w = w
started_at V (Exit c) n l v b k w = w
started_at V (Awake e p) n l v b k w = absurd k
started_at V _ n l v b k w = w.0

pub resumed_at : (V : Valuation) (S : ℕ → Bool) (t : Term) (n : ℕ) (v : Values) (b : Bool) → HasExitCodes t → ResumedWalked V S t n v b →
    InstanceWalked V n Resumed b (resumed_walk (statuses V) S t n v)
resumed_at V S Nothing n v b k w = w
resumed_at V S Pause n v b k w = w
resumed_at V S (Emit s) n v b k w = w
resumed_at V S (Exit c) n v b k w = w
resumed_at V S (Awake e p) n v b k w = absurd k
resumed_at V S _ n v b k w = w.0

-- the lookup g finds in the statement t, at n, what S selects
pub record Finds (g : ℕ → Bool) (S : ℕ → Bool) (t : Term) (n : ℕ) : Type 0 where
  pub each : (m : ℕ) → n ≤ m → m < n + statement_count t → g m ≡ holds_at S t n m

pub finds_only : (g S : ℕ → Bool) (t p : Term) (n : ℕ) → statement_count t ≡ 1 + statement_count p →
    ((m : ℕ) → holds_at S t n m ≡ cond (m == n) (holds S t n) (holds_at S p (n + 1) m)) → Finds g S t n → Finds g S p (n + 1)
finds_only g S t p n c f h =
    record { each = λ m l u. h.each m (omega arith) (omega arith) ∙ f m ∙ cond-false (m == n) _ _ (ne_eqb m n (λ e. omega arith)) }

pub finds_first : (g S : ℕ → Bool) (t p q : Term) (n : ℕ) → statement_count t ≡ 1 + statement_count p + statement_count q →
    ((m : ℕ) → holds_at S t n m ≡ cond (m == n) (holds S t n) (cond (ltb m (n + 1 + statement_count p)) (holds_at S p (n + 1) m)
    (holds_at S q (n + 1 + statement_count p) m))) → Finds g S t n → Finds g S p (n + 1)
finds_first g S t p q n c f h =
    record {
      each = λ m l u.
          h.each m (omega arith) (omega arith) ∙ f m ∙ cond-false (m == n) _ _ (ne_eqb m n (λ e. omega arith))
          ∙ cond-true (ltb m (n + 1 + statement_count p)) _ _ (lt-ltb m (n + 1 + statement_count p) u);
    }

pub finds_second : (g S : ℕ → Bool) (t p q : Term) (n : ℕ) → statement_count t ≡ 1 + statement_count p + statement_count q →
    ((m : ℕ) → holds_at S t n m ≡ cond (m == n) (holds S t n) (cond (ltb m (n + 1 + statement_count p)) (holds_at S p (n + 1) m)
    (holds_at S q (n + 1 + statement_count p) m))) → Finds g S t n → Finds g S q (n + 1 + statement_count p)
finds_second g S t p q n c f h =
    record {
      each = λ m l u.
          h.each m (omega arith) (omega arith) ∙ f m ∙ cond-false (m == n) _ _ (ne_eqb m n (λ e. omega arith))
          ∙ cond-false (ltb m (n + 1 + statement_count p)) _ _ (ltb-not m (n + 1 + statement_count p) l);
    }

pub finds_self : (g S : ℕ → Bool) (t : Term) (n : ℕ) → Finds g S t n → g n ≡ holds S t n
finds_self g S t n h = h.each n (omega arith) (omega (arith, statement_count-some t)) ∙ holds_at-self S t n

-- roots at or above a statement
pub low_second : (c d : Bool) (rs : List ℕ) (n m : ℕ) → n ≤ m → ((r : ℕ) → Root r rs → r ≤ n) → (r : ℕ) → Root r (cond c rs [] ++ root_if d m) → r ≤ m
low_second c d rs n m l h r i = go (cond c rs []) (λ x j. first c x j) i
  where
    first : (c : Bool) (x : ℕ) → Root x (cond c rs []) → x ≤ m
    first true x j = let k = h x j in omega arith
    first false x j = absurd j

    own : (d : Bool) (x : ℕ) → Root x (root_if d m) → x ≤ m
    own true x j = ⊎_elim (λ e. omega arith) (λ e. absurd e) j
    own false x j = absurd j

    go : (xs : List ℕ) → ((x : ℕ) → Root x xs → x ≤ m) → Root r (xs ++ root_if d m) → r ≤ m
    go [] f j = own d r j
    go (x ∷ xs) f j = ⊎_elim (λ e. f r (inl e)) (λ e. go xs (λ y k. f y (inr k)) e) j

pub root_own : (m : ℕ) (c : Bool) (xs : List ℕ) → c ≡ true → Root m (xs ++ root_if c m)
root_own m true [] e = inl refl
root_own m false [] e = absurd (false≢true e)
root_own m c (x ∷ xs) e = inr (root_own m c xs e)
