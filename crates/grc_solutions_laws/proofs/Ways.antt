-- The way down to a pause, and what lookups find there.
use Rattle.std.proofs.Common.{◌≡◌, ℕ, ◌+◌, ◌<◌, ◌≤◌, ◌⊎◌, Bool, true, false, ◌&&◌, ◌||◌, ◌==◌, cond, ltb, List, [], ◌∷◌, refl, sym, ap, ◌∙◌, inl, inr, arith}
use Rattle.std.specs.List.{list_any}
use Rattle.std.proofs.lemmas.Bool.{or_left, or_right, ne_eqb, cond-true, cond-false, lt-ltb}
use Rattle.std.proofs.lemmas.List.Folds.{list_any-append}
use Rattle.base_facts.proofs.Tests.{and-false, ltb-not, or-grouped, or-turned}
use Rattle.est_kernel.specs.Terms.{Term, Nothing, Pause, Emit, Exit, Present, Suspend, Seq, Loop, Par, Trap, Local, Awake}
use Rattle.est_kernel.specs.Preorder.{statement_count}
use Rattle.est_kernel.specs.StaticCodes.{has_code, started_codes, resumed_codes}
use Rattle.grc_graph.specs.Layers.{Layer, Resumed, Started, Liveness, layers_of, root_if, part_liveness, second_liveness, loop_liveness, liveness_at}
use Rattle.grc_graph.specs.Layers.{layer_above, can_pass}
use Rattle.grc_graph.specs.Wires.{Go, End}
use Rattle.grc_graph.specs.Residuals.{holds}
use Rattle.grc_graph.specs.Readings.{Valuation, holds_at, kept_at}
use Rattle.grc_graph.proofs.Exports.{above_behind}
use Rattle.grc_solutions.proofs.Exports.{Root}
use Rattle.grc_solutions_laws.proofs.Bridge.{any_and, any_if, any_root, any_layers}

-- the ways down a statement to its pauses
abbrev pub Way : Term → Type 0
Way Pause = Unit {0}
Way (Present e p q) = Way p ⊎ Way q
Way (Suspend e p) = Way p
Way (Seq p q) = Way p ⊎ Way q
Way (Loop at p) = Way p
Way (Par p q) = Way p ⊎ Way q
Way (Trap p) = Way p
Way (Local s p) = Way p
Way _ = ⊥

-- the number of the pause
abbrev pub goal : (t : Term) → ℕ → Way t → ℕ
goal Nothing n h = absurd h
goal Pause n h = n
goal (Emit s) n h = absurd h
goal (Exit k) n h = absurd h
goal (Present e p q) n (inl x) = goal p (n + 1) x
goal (Present e p q) n (inr y) = goal q (n + 1 + statement_count p) y
goal (Suspend e p) n h = goal p (n + 1) h
goal (Seq p q) n (inl x) = goal p (n + 1) x
goal (Seq p q) n (inr y) = goal q (n + 1 + statement_count p) y
goal (Loop at p) n h = goal p (n + 1) h
goal (Par p q) n (inl x) = goal p (n + 1) x
goal (Par p q) n (inr y) = goal q (n + 1 + statement_count p) y
goal (Trap p) n h = goal p (n + 1) h
goal (Local s p) n h = goal p (n + 1) h
goal (Awake e p) n h = absurd h

pub inside : (t : Term) (n : ℕ) (h : Way t) → (n ≤ goal t n h) × (goal t n h < n + statement_count t)
inside Nothing n h = absurd h
inside Pause n h = (omega arith, omega arith)
inside (Emit s) n h = absurd h
inside (Exit k) n h = absurd h
inside (Present e p q) n (inl x) = let i = inside p (n + 1) x in (omega (arith, i.0), omega (arith, i.1))
inside (Present e p q) n (inr y) = let i = inside q (n + 1 + statement_count p) y in (omega (arith, i.0), omega (arith, i.1))
inside (Suspend e p) n h = let i = inside p (n + 1) h in (omega (arith, i.0), omega (arith, i.1))
inside (Seq p q) n (inl x) = let i = inside p (n + 1) x in (omega (arith, i.0), omega (arith, i.1))
inside (Seq p q) n (inr y) = let i = inside q (n + 1 + statement_count p) y in (omega (arith, i.0), omega (arith, i.1))
inside (Loop at p) n h = let i = inside p (n + 1) h in (omega (arith, i.0), omega (arith, i.1))
inside (Par p q) n (inl x) = let i = inside p (n + 1) x in (omega (arith, i.0), omega (arith, i.1))
inside (Par p q) n (inr y) = let i = inside q (n + 1 + statement_count p) y in (omega (arith, i.0), omega (arith, i.1))
inside (Trap p) n h = let i = inside p (n + 1) h in (omega (arith, i.0), omega (arith, i.1))
inside (Local s p) n h = let i = inside p (n + 1) h in (omega (arith, i.0), omega (arith, i.1))
inside (Awake e p) n h = absurd h

-- lookups at a part
pub look_only : {A : Type 0} (m n : ℕ) (a b : A) → n + 1 ≤ m → cond (m == n) a b ≡ b
look_only m n a b l = cond-false (m == n) a b (ne_eqb m n (λ e. omega arith))

pub look_first : {A : Type 0} (m n c : ℕ) (a b d : A) → n + 1 ≤ m → m < n + 1 + c → cond (m == n) a (cond (ltb m (n + 1 + c)) b d) ≡ b
look_first m n c a b d l u = look_only m n a _ l ∙ cond-true (ltb m (n + 1 + c)) b d (lt-ltb m (n + 1 + c) u)

pub look_second : {A : Type 0} (m n c : ℕ) (a b d : A) → n + 1 + c ≤ m → cond (m == n) a (cond (ltb m (n + 1 + c)) b d) ≡ d
look_second m n c a b d l = look_only m n a _ (omega arith) ∙ cond-false (ltb m (n + 1 + c)) b d (ltb-not m (n + 1 + c) l)

-- a selected pause is held
pub way_held : (S : ℕ → Bool) (t : Term) (n : ℕ) (h : Way t) → S (goal t n h) ≡ true → holds S t n ≡ true
way_held S Nothing n h e = absurd h
way_held S Pause n h e = e
way_held S (Emit s) n h e = absurd h
way_held S (Exit k) n h e = absurd h
way_held S (Present x p q) n (inl y) e = or_left _ _ (way_held S p (n + 1) y e)
way_held S (Present x p q) n (inr y) e = or_right (holds S p (n + 1)) _ (way_held S q (n + 1 + statement_count p) y e)
way_held S (Suspend x p) n h e = way_held S p (n + 1) h e
way_held S (Seq p q) n (inl y) e = or_left _ _ (way_held S p (n + 1) y e)
way_held S (Seq p q) n (inr y) e = or_right (holds S p (n + 1)) _ (way_held S q (n + 1 + statement_count p) y e)
way_held S (Loop at p) n h e = way_held S p (n + 1) h e
way_held S (Par p q) n (inl y) e = or_left _ _ (way_held S p (n + 1) y e)
way_held S (Par p q) n (inr y) e = or_right (holds S p (n + 1)) _ (way_held S q (n + 1 + statement_count p) y e)
way_held S (Trap p) n h e = way_held S p (n + 1) h e
way_held S (Local s p) n h e = way_held S p (n + 1) h e
way_held S (Awake x p) n h e = absurd h

pub holds_at_goal : (S : ℕ → Bool) (t : Term) (n : ℕ) (h : Way t) → holds_at S t n (goal t n h) ≡ S (goal t n h)
holds_at_goal S Nothing n h = absurd h
holds_at_goal S Pause n h = refl
holds_at_goal S (Emit s) n h = absurd h
holds_at_goal S (Exit k) n h = absurd h
holds_at_goal S (Present e p q) n (inl x) = let i = inside p (n + 1) x in look_first _ n (statement_count p) _ _ _ i.0 i.1 ∙ holds_at_goal S p (n + 1) x
holds_at_goal S (Present e p q) n (inr y) = let i = inside q (n + 1 + statement_count p) y in
    look_second _ n (statement_count p) _ _ _ i.0 ∙ holds_at_goal S q (n + 1 + statement_count p) y
holds_at_goal S (Suspend e p) n h = let i = inside p (n + 1) h in look_only _ n _ _ i.0 ∙ holds_at_goal S p (n + 1) h
holds_at_goal S (Seq p q) n (inl x) = let i = inside p (n + 1) x in look_first _ n (statement_count p) _ _ _ i.0 i.1 ∙ holds_at_goal S p (n + 1) x
holds_at_goal S (Seq p q) n (inr y) = let i = inside q (n + 1 + statement_count p) y in
    look_second _ n (statement_count p) _ _ _ i.0 ∙ holds_at_goal S q (n + 1 + statement_count p) y
holds_at_goal S (Loop at p) n h = let i = inside p (n + 1) h in look_only _ n _ _ i.0 ∙ holds_at_goal S p (n + 1) h
holds_at_goal S (Par p q) n (inl x) = let i = inside p (n + 1) x in look_first _ n (statement_count p) _ _ _ i.0 i.1 ∙ holds_at_goal S p (n + 1) x
holds_at_goal S (Par p q) n (inr y) = let i = inside q (n + 1 + statement_count p) y in
    look_second _ n (statement_count p) _ _ _ i.0 ∙ holds_at_goal S q (n + 1 + statement_count p) y
holds_at_goal S (Trap p) n h = let i = inside p (n + 1) h in look_only _ n _ _ i.0 ∙ holds_at_goal S p (n + 1) h
holds_at_goal S (Local s p) n h = let i = inside p (n + 1) h in look_only _ n _ _ i.0 ∙ holds_at_goal S p (n + 1) h
holds_at_goal S (Awake e p) n h = absurd h

-- whether a start of the statement can reach the pause in its own layer
abbrev pub way_starts : (t : Term) → Way t → Bool
way_starts Nothing h = absurd h
way_starts Pause h = true
way_starts (Emit s) h = absurd h
way_starts (Exit k) h = absurd h
way_starts (Present e p q) (inl x) = way_starts p x
way_starts (Present e p q) (inr y) = way_starts q y
way_starts (Suspend e p) h = way_starts p h
way_starts (Seq p q) (inl x) = way_starts p x
way_starts (Seq p q) (inr y) = started_codes p 0 && way_starts q y
way_starts (Loop at p) h = way_starts p h
way_starts (Par p q) (inl x) = way_starts p x
way_starts (Par p q) (inr y) = way_starts q y
way_starts (Trap p) h = way_starts p h
way_starts (Local s p) h = way_starts p h
way_starts (Awake e p) h = absurd h

turn : (l f x k s o : Bool) → ((l && (f && x)) || (o || (k && (f && s)))) ≡ ((f && ((l && x) || (k && s))) || o)
turn l true x k s o = ap (λ i. (l && x) || i) (or-turned o (k && s)) ∙ sym (or-grouped (l && x) (k && s) o)
turn l false x k s o =
    ap (λ i. i || (o || (k && false))) (and-false l) ∙ ap (λ i. o || i) (and-false k) ∙ or-turned o false

seq_bits : (a l f g x k s o : Bool) → f ≡ g → (((a && l) && (f && x)) || (o || ((a && k) && (g && s)))) ≡ ((a && (f && ((l && x) || (k && s)))) || o)
seq_bits false l f g x k s o z = or-turned o false
seq_bits true l f g x k s o z = ap (λ i. (l && (f && x)) || (o || (k && (i && s)))) (sym z) ∙ turn l f x k s o

rotate : (k f w g y : Bool) → (k && (f && (w && (g && y)))) ≡ (f && ((k && w) && (g && y)))
rotate true true w g y = refl
rotate true false w g y = refl
rotate false true w g y = refl
rotate false false w g y = refl

module _ (V : Valuation) where
  -- a start at a root reaches the pause, and each parallel in between ends with code 1
  abbrev pub start_keeps : (t : Term) (n : ℕ) → Way t → ℕ → Bool
  start_keeps t n h r = way_starts t h && (V (Go (goal t n h) (Started r)) && kept_at V t n (goal t n h) (Started r))

  -- some start at a root of its own, inside a resumed statement, does
  abbrev pub restart_keeps : (t : Term) (n : ℕ) → Way t → Bool
  restart_keeps Nothing n h = absurd h
  restart_keeps Pause n h = false
  restart_keeps (Emit s) n h = absurd h
  restart_keeps (Exit k) n h = absurd h
  restart_keeps (Present e p q) n (inl x) = has_code (resumed_codes p) && restart_keeps p (n + 1) x
  restart_keeps (Present e p q) n (inr y) = has_code (resumed_codes q) && restart_keeps q (n + 1 + statement_count p) y
  restart_keeps (Suspend e p) n h = has_code (resumed_codes p) && restart_keeps p (n + 1) h
  restart_keeps (Seq p q) n (inl x) = has_code (resumed_codes p) && restart_keeps p (n + 1) x
  restart_keeps (Seq p q) n (inr y) =
      ((can_pass p && has_code (resumed_codes q)) && restart_keeps q (n + 1 + statement_count p) y)
      || (resumed_codes p 0 && start_keeps q (n + 1 + statement_count p) y (n + 1 + statement_count p))
  restart_keeps (Loop at p) n h =
      (has_code (resumed_codes p) && restart_keeps p (n + 1) h) || (resumed_codes p 0 && start_keeps p (n + 1) h (n + 1))
  restart_keeps (Par p q) n (inl x) = V (End n Resumed 1) && (has_code (resumed_codes p) && restart_keeps p (n + 1) x)
  restart_keeps (Par p q) n (inr y) = V (End n Resumed 1) && (has_code (resumed_codes q) && restart_keeps q (n + 1 + statement_count p) y)
  restart_keeps (Trap p) n h = has_code (resumed_codes p) && restart_keeps p (n + 1) h
  restart_keeps (Local s p) n h = has_code (resumed_codes p) && restart_keeps p (n + 1) h
  restart_keeps (Awake e p) n h = absurd h

  -- one started layer of the pause, with a factor for the layer
  abbrev pub layer_keeps : (Layer → Bool) → (t : Term) (n m : ℕ) → Layer → Bool
  layer_keeps F t n m Resumed = false
  layer_keeps F t n m (Started r) = F (Started r) && (V (Go m (Started r)) && kept_at V t n m (Started r))

  any_same : (G H : Layer → Bool) (ls : List Layer) → ((l : Layer) → G l ≡ H l) → list_any G ls ≡ list_any H ls
  any_same G H [] e = refl
  any_same G H (l ∷ ls) e = ap (λ b. b || list_any G ls) (e l) ∙ ap (λ b. H l || b) (any_same G H ls e)

  keeps_as : (F : Layer → Bool) (t p : Term) (n c m : ℕ) (ls : List Layer) → ((l : Layer) → kept_at V t n m l ≡ kept_at V p c m l) →
      list_any (layer_keeps F t n m) ls ≡ list_any (layer_keeps F p c m) ls
  keeps_as F t p n c m ls e = any_same _ _ ls go
    where
      go : (l : Layer) → layer_keeps F t n m l ≡ layer_keeps F p c m l
      go Resumed = refl
      go (Started r) = ap (λ b. F (Started r) && (V (Go m (Started r)) && b)) (e (Started r))

  -- the factor is the same for a start at a root below n as for what is resumed
  pub record Even (F : Layer → Bool) (n : ℕ) : Type 0 where
    pub same : (r : ℕ) → n < r → F (Started r) ≡ F Resumed

  even_more : (F : Layer → Bool) (n m : ℕ) → n ≤ m → Even F n → Even F m
  even_more F n m l e = record { same = λ r u. e.same r (omega arith) }

  even_par : (F : Layer → Bool) (n : ℕ) → Even F n → Even (λ l. F l && V (End n (layer_above n l) 1)) n
  even_par F n e =
      record {
        same = λ r u. ap (λ b. b && V (End n (layer_above n (Started r)) 1)) (e.same r u)
            ∙ ap (λ l. F Resumed && V (End n l 1)) (above_behind n r u);
      }

  or_same : {a b c d : Bool} → a ≡ c → b ≡ d → (a || b) ≡ (c || d)
  or_same {a} {b} {c} {d} e f = ap (λ x. x || b) e ∙ ap (λ x. c || x) f

  any_equal : (f g : ℕ → Bool) (rs : List ℕ) → ((r : ℕ) → Root r rs → f r ≡ g r) → list_any f rs ≡ list_any g rs
  any_equal f g [] e = refl
  any_equal f g (r ∷ rs) e = or_same (e r (inl refl)) (any_equal f g rs (λ x i. e x (inr i)))

  -- the layers of a pause, split by those of the statement
  abbrev pub Parted : (Layer → Bool) → Liveness → (t : Term) (n : ℕ) → Way t → Type 0
  Parted F a t n h =
      list_any (layer_keeps F t n (goal t n h)) (layers_of (liveness_at a t n (goal t n h)))
      ≡ ((a.resumed && (F Resumed && restart_keeps t n h)) || list_any (λ r. F (Started r) && start_keeps t n h r) a.roots)

  -- through a part that has the same roots
  through : (F : Layer → Bool) (a : Liveness) (res : Bool) (x y : Bool) → ((a.resumed && res) && (F Resumed && x)) ≡ (a.resumed && (F Resumed && (res && x)))
  through F a res x y = go a.resumed (F Resumed) res
    where
      go : (a f r : Bool) → ((a && r) && (f && x)) ≡ (a && (f && (r && x)))
      go true true true = refl
      go true true false = refl
      go true false true = refl
      go true false false = refl
      go false f r = refl

  none_here : (a f : Bool) → (a && false) ≡ (a && (f && false))
  none_here true true = refl
  none_here true false = refl
  none_here false f = refl

  -- one part, with the roots of the whole
  part_parted : (F : Layer → Bool) (a : Liveness) (t p : Term) (n c : ℕ) (h : Way t) (x : Way p) → goal t n h ≡ goal p c x →
      liveness_at a t n (goal t n h) ≡ liveness_at (part_liveness a p) p c (goal p c x) →
      ((l : Layer) → kept_at V t n (goal t n h) l ≡ kept_at V p c (goal p c x) l) → way_starts t h ≡ way_starts p x →
      restart_keeps t n h ≡ (has_code (resumed_codes p) && restart_keeps p c x) → Parted F (part_liveness a p) p c x → Parted F a t n h
  part_parted F a t p n c h x g e k w r ih =
      ap (λ j. list_any (layer_keeps F t n (goal t n h)) (layers_of j)) e
      ∙ any_same _ _ (layers_of (liveness_at (part_liveness a p) p c (goal p c x))) kept ∙ ih
      ∙ or_same
      (through F a (has_code (resumed_codes p)) (restart_keeps p c x) false ∙ ap (λ b. a.resumed && (F Resumed && b)) (sym r))
      (any_equal _ _ a.roots (λ i j. ap (λ b. F (Started i) && b) (sym (starts i))))
    where
      kept : (l : Layer) → layer_keeps F t n (goal t n h) l ≡ layer_keeps F p c (goal p c x) l
      kept Resumed = refl
      kept (Started i) =
          ap (λ b. F (Started i) && (V (Go (goal t n h) (Started i)) && b)) (k (Started i))
          ∙ ap (λ m. F (Started i) && (V (Go m (Started i)) && kept_at V p c (goal p c x) (Started i))) g

      starts : (i : ℕ) → start_keeps t n h i ≡ start_keeps p c x i
      starts i =
          ap (λ b. b && (V (Go (goal t n h) (Started i)) && kept_at V t n (goal t n h) (Started i))) w
          ∙ ap (λ b. way_starts p x && (V (Go (goal t n h) (Started i)) && b)) (k (Started i))
          ∙ ap (λ m. way_starts p x && (V (Go m (Started i)) && kept_at V p c (goal p c x) (Started i))) g

  -- a branch of a parallel
  par_parted : (F : Layer → Bool) (a : Liveness) (t p : Term) (n c : ℕ) (h : Way t) (x : Way p) → goal t n h ≡ goal p c x →
      liveness_at a t n (goal t n h) ≡ liveness_at (part_liveness a p) p c (goal p c x) →
      ((l : Layer) → kept_at V t n (goal t n h) l ≡ (V (End n (layer_above n l) 1) && kept_at V p c (goal p c x) l)) → way_starts t h ≡ way_starts p x →
      restart_keeps t n h ≡ (V (End n Resumed 1) && (has_code (resumed_codes p) && restart_keeps p c x)) →
      Parted (λ l. F l && V (End n (layer_above n l) 1)) (part_liveness a p) p c x → Parted F a t n h
  par_parted F a t p n c h x g e k w r ih =
      ap (λ j. list_any (layer_keeps F t n (goal t n h)) (layers_of j)) e
      ∙ any_same _ _ (layers_of (liveness_at (part_liveness a p) p c (goal p c x))) kept ∙ ih
      ∙ or_same
      (gather a.resumed (has_code (resumed_codes p)) (F Resumed) (V (End n Resumed 1)) (restart_keeps p c x) ∙ ap (λ b. a.resumed && (F Resumed && b)) (sym r))
      (any_equal _ _ a.roots (λ i j. starts i))
    where
      gather : (a l f z x : Bool) → ((a && l) && ((f && z) && x)) ≡ (a && (f && (z && (l && x))))
      gather true true true z x = refl
      gather true true false z x = refl
      gather true false true true x = refl
      gather true false true false x = refl
      gather true false false z x = refl
      gather false l f z x = refl

      spread : (f g z y : Bool) → (f && (g && (z && y))) ≡ ((f && z) && (g && y))
      spread true true z y = refl
      spread true false true y = refl
      spread true false false y = refl
      spread false g z y = refl

      spread5 : (f z w g y : Bool) → ((f && z) && (w && (g && y))) ≡ (f && (w && (g && (z && y))))
      spread5 true true w g y = refl
      spread5 true false true true y = refl
      spread5 true false true false y = refl
      spread5 true false false g y = refl
      spread5 false z w g y = refl

      kept : (l : Layer) → layer_keeps F t n (goal t n h) l ≡ layer_keeps (λ j. F j && V (End n (layer_above n j) 1)) p c (goal p c x) l
      kept Resumed = refl
      kept (Started i) =
          ap (λ b. F (Started i) && (V (Go (goal t n h) (Started i)) && b)) (k (Started i))
          ∙ spread (F (Started i)) (V (Go (goal t n h) (Started i))) (V (End n (layer_above n (Started i)) 1)) (kept_at V p c (goal p c x) (Started i))
          ∙ ap (λ m. (F (Started i) && V (End n (layer_above n (Started i)) 1)) && (V (Go m (Started i)) && kept_at V p c (goal p c x) (Started i))) g

      starts : (i : ℕ) → ((F (Started i) && V (End n (layer_above n (Started i)) 1)) && start_keeps p c x i) ≡ (F (Started i) && start_keeps t n h i)
      starts i =
          spread5 (F (Started i)) (V (End n (layer_above n (Started i)) 1)) (way_starts p x) (V (Go (goal p c x) (Started i)))
          (kept_at V p c (goal p c x) (Started i))
          ∙ ap (λ b. F (Started i) && (b && (V (Go (goal p c x) (Started i))
          && (V (End n (layer_above n (Started i)) 1) && kept_at V p c (goal p c x) (Started i))))) (sym w)
          ∙ ap (λ m. F (Started i) && (way_starts t h && (V (Go m (Started i))
          && (V (End n (layer_above n (Started i)) 1) && kept_at V p c (goal p c x) (Started i))))) (sym g)
          ∙ ap (λ b. F (Started i) && (way_starts t h && (V (Go (goal t n h) (Started i)) && b))) (sym (k (Started i)))

  pub parted : (F : Layer → Bool) (a : Liveness) (t : Term) (n : ℕ) (h : Way t) → Even F n → Parted F a t n h
  parted F a Nothing n h e = absurd h
  parted F a Pause n h e =
      any_layers (layer_keeps F Pause n n) a.resumed a.roots ∙ or_same (none_here a.resumed (F Resumed)) refl
  parted F a (Emit s) n h e = absurd h
  parted F a (Exit k) n h e = absurd h
  parted F a (Present c p q) n (inl x) e =
      let i = inside p (n + 1) x in
      part_parted F a (Present c p q) p n (n + 1) (inl x) x refl (look_first _ n (statement_count p) _ _ _ i.0 i.1)
      (λ l. look_first _ n (statement_count p) _ _ _ i.0 i.1) refl refl
      (parted F (part_liveness a p) p (n + 1) x (even_more F n (n + 1) (omega arith) e))
  parted F a (Present c p q) n (inr y) e =
      let m = n + 1 + statement_count p in
      let i = inside q m y in
      part_parted F a (Present c p q) q n m (inr y) y refl (look_second _ n (statement_count p) _ _ _ i.0)
      (λ l. look_second _ n (statement_count p) _ _ _ i.0) refl refl
      (parted F (part_liveness a q) q m y (even_more F n m (omega arith) e))
  parted F a (Suspend c p) n h e =
      let i = inside p (n + 1) h in
      part_parted F a (Suspend c p) p n (n + 1) h h refl (look_only _ n _ _ i.0) (λ l. look_only _ n _ _ i.0) refl refl
      (parted F (part_liveness a p) p (n + 1) h (even_more F n (n + 1) (omega arith) e))
  parted F a (Seq p q) n (inl x) e =
      let i = inside p (n + 1) x in
      part_parted F a (Seq p q) p n (n + 1) (inl x) x refl (look_first _ n (statement_count p) _ _ _ i.0 i.1)
      (λ l. look_first _ n (statement_count p) _ _ _ i.0 i.1) refl refl
      (parted F (part_liveness a p) p (n + 1) x (even_more F n (n + 1) (omega arith) e))
  parted F a (Seq p q) n (inr y) e =
      let m = n + 1 + statement_count p in
      let t = Seq p q in
      let i = inside q m y in
      let b = second_liveness a p q m in
      let G = λ (r : ℕ). F (Started r) && start_keeps q m y r in
      let old = cond (started_codes p 0) a.roots [] in
      let own = root_if (a.resumed && resumed_codes p 0) m in
      let kept : (l : Layer) → kept_at V t n (goal q m y) l ≡ kept_at V q m (goal q m y) l = λ l. look_second _ n (statement_count p) _ _ _ i.0 in
      ap (λ j. list_any (layer_keeps F t n (goal q m y)) (layers_of j))
      (look_second _ n (statement_count p) _ (liveness_at (part_liveness a p) p (n + 1) (goal q m y)) _ i.0)
      ∙ keeps_as F t q n m (goal q m y) (layers_of (liveness_at b q m (goal q m y))) kept
      ∙ parted F b q m y (even_more F n m (omega arith) e)
      ∙ or_same refl (list_any-append G old own ∙ or_same (any_if (started_codes p 0) G a.roots) (any_root (a.resumed && resumed_codes p 0) G m))
      ∙ seq_bits a.resumed (can_pass p && has_code (resumed_codes q)) (F Resumed) (F (Started m)) (restart_keeps q m y) (resumed_codes p 0)
      (start_keeps q m y m) (started_codes p 0 && list_any G a.roots) (sym (e.same m (omega arith)))
      ∙ or_same refl
      (sym (any_and (started_codes p 0) G a.roots)
      ∙ any_equal _ _ a.roots
      (λ r j.
      rotate (started_codes p 0) (F (Started r)) (way_starts q y) (V (Go (goal q m y) (Started r))) (kept_at V q m (goal q m y) (Started r))
      ∙ ap (λ z. F (Started r) && ((started_codes p 0 && way_starts q y) && (V (Go (goal q m y) (Started r)) && z))) (sym (kept (Started r)))))
  parted F a (Loop at p) n h e =
      let m = n + 1 in
      let t = Loop at p in
      let i = inside p m h in
      let b = loop_liveness a p m in
      let G = λ (r : ℕ). F (Started r) && start_keeps p m h r in
      let own = root_if (a.resumed && resumed_codes p 0) m in
      let kept : (l : Layer) → kept_at V t n (goal p m h) l ≡ kept_at V p m (goal p m h) l = λ l. look_only _ n _ _ i.0 in
      ap (λ j. list_any (layer_keeps F t n (goal p m h)) (layers_of j)) (look_only _ n a _ i.0)
      ∙ keeps_as F t p n m (goal p m h) (layers_of (liveness_at b p m (goal p m h))) kept
      ∙ parted F b p m h (even_more F n m (omega arith) e)
      ∙ or_same refl (list_any-append G a.roots own ∙ or_same refl (any_root (a.resumed && resumed_codes p 0) G m))
      ∙ seq_bits a.resumed (has_code (resumed_codes p)) (F Resumed) (F (Started m)) (restart_keeps p m h) (resumed_codes p 0) (start_keeps p m h m)
      (list_any G a.roots) (sym (e.same m (omega arith)))
      ∙ or_same refl
      (any_equal _ _ a.roots
      (λ r j. ap (λ z. F (Started r) && (way_starts p h && (V (Go (goal p m h) (Started r)) && z))) (sym (kept (Started r)))))
  parted F a (Par p q) n (inl x) e =
      let i = inside p (n + 1) x in
      par_parted F a (Par p q) p n (n + 1) (inl x) x refl (look_first _ n (statement_count p) _ _ _ i.0 i.1)
      (λ l. look_only _ n _ _ i.0 ∙ ap (λ z. V (End n (layer_above n l) 1) && z) (cond-true _ _ _ (lt-ltb _ _ i.1))) refl refl
      (parted (λ l. F l && V (End n (layer_above n l) 1)) (part_liveness a p) p (n + 1) x
      (even_more (λ l. F l && V (End n (layer_above n l) 1)) n (n + 1) (omega arith) (even_par F n e)))
  parted F a (Par p q) n (inr y) e =
      let m = n + 1 + statement_count p in
      let i = inside q m y in
      par_parted F a (Par p q) q n m (inr y) y refl (look_second _ n (statement_count p) _ _ _ i.0)
      (λ l. look_only _ n _ _ (omega (arith, i.0)) ∙ ap (λ z. V (End n (layer_above n l) 1) && z) (cond-false _ _ _ (ltb-not _ _ i.0))) refl refl
      (parted (λ l. F l && V (End n (layer_above n l) 1)) (part_liveness a q) q m y
      (even_more (λ l. F l && V (End n (layer_above n l) 1)) n m (omega arith) (even_par F n e)))
  parted F a (Trap p) n h e =
      let i = inside p (n + 1) h in
      part_parted F a (Trap p) p n (n + 1) h h refl (look_only _ n _ _ i.0) (λ l. look_only _ n _ _ i.0) refl refl
      (parted F (part_liveness a p) p (n + 1) h (even_more F n (n + 1) (omega arith) e))
  parted F a (Local s p) n h e =
      let i = inside p (n + 1) h in
      part_parted F a (Local s p) p n (n + 1) h h refl (look_only _ n _ _ i.0) (λ l. look_only _ n _ _ i.0) refl refl
      (parted F (part_liveness a p) p (n + 1) h (even_more F n (n + 1) (omega arith) e))
  parted F a (Awake c p) n h e = absurd h
