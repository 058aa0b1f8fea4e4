-- What some live instance of a statement passes, by layers: the list of instances against the layers of the statement.
use Rattle.std.proofs.Common.{◌≡◌, ℕ, ◌+◌, Bool, true, false, ◌&&◌, ◌||◌, cond, List, [], ◌∷◌, ◌++◌, map, refl, sym, ap, ◌∙◌}
use Rattle.std.specs.List.{list_any}
use Rattle.std.proofs.Math.Bool.{or_assoc, or_comm}
use Rattle.std.proofs.lemmas.List.Folds.{list_any-append}
use Rattle.base_facts.proofs.Tests.{or-false, or-swapped}
use Rattle.est_kernel.specs.Terms.{Term, Present, Suspend, Seq, Loop, Par, Trap, Local, Awake}
use Rattle.est_kernel.specs.Preorder.{statement_count}
use Rattle.est_kernel.specs.StaticCodes.{has_code, started_codes, resumed_codes}
use Rattle.grc_graph.specs.Layers.{Layer, Resumed, Started, Liveness, root_if, part_liveness, second_liveness, loop_liveness, can_pass}
use Rattle.grc_graph.specs.Scopes.{Scope, bind}
use Rattle.grc_graph.specs.Formulas.{Formula, Negation}
use Rattle.grc_graph.specs.Spots.{Spot, spots, spots_at, test_formula, tested_entry, suspended_entry, branch_entry, second_entry, loop_entry, part_entry}
use Rattle.grc_graph.specs.Selected.{HasExitCodes}
use Rattle.grc_solutions.proofs.Exports.{spot}
use Rattle.grc_graph.proofs.Exports.{Agrees, here_agrees, only_agrees, first_agrees, second_agrees}

pub four : (a b c d : Bool) → ((a || b) || (c || d)) ≡ ((a || c) || (b || d))
four a b c d = simp (or_assoc, or_comm, or-swapped)

pub any_or : (f g : ℕ → Bool) (rs : List ℕ) → list_any (λ r. f r || g r) rs ≡ (list_any f rs || list_any g rs)
any_or f g [] = refl
any_or f g (r ∷ rs) = ap (λ b. (f r || g r) || b) (any_or f g rs) ∙ four (f r) (g r) (list_any f rs) (list_any g rs)

pub any_and : (c : Bool) (f : ℕ → Bool) (rs : List ℕ) → list_any (λ r. c && f r) rs ≡ (c && list_any f rs)
any_and true f rs = refl
any_and false f [] = refl
any_and false f (r ∷ rs) = any_and false f rs

pub any_if : (c : Bool) (f : ℕ → Bool) (rs : List ℕ) → list_any f (cond c rs []) ≡ (c && list_any f rs)
any_if true f rs = refl
any_if false f rs = refl

pub any_root : (c : Bool) (f : ℕ → Bool) (m : ℕ) → list_any f (root_if c m) ≡ (c && f m)
any_root true f m = or-false (f m)
any_root false f m = refl

any_map : {A : Type 0} (F : Spot → Bool) (g : A → Spot) (ls : List A) → list_any F (map g ls) ≡ list_any (λ x. F (g x)) ls
any_map F g [] = refl
any_map F g (x ∷ xs) = ap (λ b. F (g x) || b) (any_map F g xs)

any_started : (G : Layer → Bool) (rs : List ℕ) → list_any G (map Started rs) ≡ list_any (λ r. G (Started r)) rs
any_started G [] = refl
any_started G (r ∷ rs) = ap (λ b. G (Started r) || b) (any_started G rs)

pub any_layers : (G : Layer → Bool) (res : Bool) (rs : List ℕ) →
    list_any G (cond res (Resumed ∷ []) [] ++ map Started rs) ≡ ((res && G Resumed) || list_any (λ r. G (Started r)) rs)
any_layers G true rs = ap (λ b. G Resumed || b) (any_started G rs)
any_layers G false rs = any_started G rs

-- whether some instance of a started statement, in its layer, passes
abbrev pub started_any : (Spot → Bool) → Scope → (Layer → Formula) → Term → ℕ → Layer → Bool
started_any F B f (Present e p q) n l =
    F (spot B f (Present e p q) n l)
    || (started_any F B (tested_entry n (n + 1) (test_formula B e)) p (n + 1) l
    || started_any F B (tested_entry n (n + 1 + statement_count p) (λ j. Negation (test_formula B e j))) q (n + 1 + statement_count p) l)
started_any F B f (Suspend e p) n l =
    F (spot B f (Suspend e p) n l) || started_any F B (suspended_entry n (test_formula B e)) p (n + 1) l
started_any F B f (Seq p q) n l =
    F (spot B f (Seq p q) n l)
    || (started_any F B (branch_entry n (n + 1)) p (n + 1) l
    || (started_codes p 0 && started_any F B (second_entry n (n + 1 + statement_count p)) q (n + 1 + statement_count p) l))
started_any F B f (Loop at p) n l = F (spot B f (Loop at p) n l) || started_any F B (loop_entry n) p (n + 1) l
started_any F B f (Par p q) n l =
    F (spot B f (Par p q) n l)
    || (started_any F B (branch_entry n (n + 1)) p (n + 1) l
    || started_any F B (branch_entry n (n + 1 + statement_count p)) q (n + 1 + statement_count p) l)
started_any F B f (Trap p) n l = F (spot B f (Trap p) n l) || started_any F B (part_entry n) p (n + 1) l
started_any F B f (Local s p) n l = F (spot B f (Local s p) n l) || started_any F (bind B s n) (part_entry n) p (n + 1) l
started_any F B f t n l = F (spot B f t n l)

-- and of a resumed statement, with all that it may start at roots of its own
abbrev pub resumed_any : (Spot → Bool) → Scope → (Layer → Formula) → Term → ℕ → Bool
resumed_any F B f (Present e p q) n =
    F (spot B f (Present e p q) n Resumed)
    || ((has_code (resumed_codes p) && resumed_any F B (tested_entry n (n + 1) (test_formula B e)) p (n + 1))
    || (has_code (resumed_codes q)
    && resumed_any F B (tested_entry n (n + 1 + statement_count p) (λ j. Negation (test_formula B e j))) q (n + 1 + statement_count p)))
resumed_any F B f (Suspend e p) n =
    F (spot B f (Suspend e p) n Resumed)
    || (has_code (resumed_codes p) && resumed_any F B (suspended_entry n (test_formula B e)) p (n + 1))
resumed_any F B f (Seq p q) n =
    F (spot B f (Seq p q) n Resumed)
    || ((has_code (resumed_codes p) && resumed_any F B (branch_entry n (n + 1)) p (n + 1))
    || (((can_pass p && has_code (resumed_codes q)) && resumed_any F B (second_entry n (n + 1 + statement_count p)) q (n + 1 + statement_count p))
    || (resumed_codes p 0 && started_any F B (second_entry n (n + 1 + statement_count p)) q (n + 1 + statement_count p) (Started (n + 1 + statement_count p)))))
resumed_any F B f (Loop at p) n =
    F (spot B f (Loop at p) n Resumed)
    || ((has_code (resumed_codes p) && resumed_any F B (loop_entry n) p (n + 1))
    || (resumed_codes p 0 && started_any F B (loop_entry n) p (n + 1) (Started (n + 1))))
resumed_any F B f (Par p q) n =
    F (spot B f (Par p q) n Resumed)
    || ((has_code (resumed_codes p) && resumed_any F B (branch_entry n (n + 1)) p (n + 1))
    || (has_code (resumed_codes q) && resumed_any F B (branch_entry n (n + 1 + statement_count p)) q (n + 1 + statement_count p)))
resumed_any F B f (Trap p) n =
    F (spot B f (Trap p) n Resumed) || (has_code (resumed_codes p) && resumed_any F B (part_entry n) p (n + 1))
resumed_any F B f (Local s p) n =
    F (spot B f (Local s p) n Resumed) || (has_code (resumed_codes p) && resumed_any F (bind B s n) (part_entry n) p (n + 1))
resumed_any F B f t n = F (spot B f t n Resumed)

swap : (a b c : Bool) → (a || (b || c)) ≡ ((a || c) || b)
swap a b c = ap (λ i. a || i) (or_comm b c) ∙ sym (or_assoc a c b)

one_part : (res h l x : Bool) (a b : Bool) → (((res && h) || a) || (((res && l) && x) || b)) ≡ ((res && (h || (l && x))) || (a || b))
one_part true h l x a b = four h a (l && x) b
one_part false h l x a b = refl

two_parts : (res h l x k y : Bool) (a b c : Bool) → (((res && h) || a) || ((((res && l) && x) || b) || (((res && k) && y) || c))) ≡
    ((res && (h || ((l && x) || (k && y)))) || (a || (b || c)))
two_parts true h l x k y a b c = ap (λ i. (h || a) || i) (four (l && x) b (k && y) c) ∙ four h a ((l && x) || (k && y)) (b || c)
two_parts false h l x k y a b c = refl

seq_parts : (res h l x k y z u w : Bool) (a b c : Bool) → (((res && h) || a)
    || ((((res && l) && x) || b) || (((res && k) && y) || ((w && c) || ((res && z) && u))))) ≡
    ((res && (h || ((l && x) || ((k && y) || (z && u))))) || (a || (b || (w && c))))
seq_parts true h l x k y z u w a b c =
    ap (λ i. (h || a) || (((l && x) || b) || i)) (swap (k && y) (w && c) (z && u))
    ∙ ap (λ i. (h || a) || i) (four (l && x) b ((k && y) || (z && u)) (w && c))
    ∙ four h a ((l && x) || ((k && y) || (z && u))) (b || (w && c))
seq_parts false h l x k y z u w a b c = ap (λ i. a || (b || i)) (or-false (w && c))

loop_parts : (res h l x z u : Bool) (a b : Bool) → (((res && h) || a) || (((res && l) && x) || (b || ((res && z) && u)))) ≡
    ((res && (h || ((l && x) || (z && u)))) || (a || b))
loop_parts true h l x z u a b = ap (λ i. (h || a) || i) (swap (l && x) b (z && u)) ∙ four h a ((l && x) || (z && u)) b
loop_parts false h l x z u a b = ap (λ i. a || i) (or-false b)

module _ (F : Spot → Bool) (L : ℕ → List Layer) where
  abbrev Split : Liveness → Scope → (Layer → Formula) → Term → ℕ → Type 0
  Split a B f t n =
      list_any F (spots L B f t n) ≡ ((a.resumed && resumed_any F B f t n) || list_any (λ r. started_any F B f t n (Started r)) a.roots)

  here_any : (a : Liveness) (B : Scope) (f : Layer → Formula) (t : Term) (n : ℕ) → Agrees L a t n →
      list_any F (spots_at L B f t n) ≡ ((a.resumed && F (spot B f t n Resumed)) || list_any (λ r. F (spot B f t n (Started r))) a.roots)
  here_any a B f t n g =
      any_map F (λ l. spot B f t n l) (L n) ∙ ap (list_any (λ l. F (spot B f t n l))) (here_agrees L a t n g)
      ∙ any_layers (λ l. F (spot B f t n l)) a.resumed a.roots

  or_parts : {a b c d : Bool} → a ≡ c → b ≡ d → (a || b) ≡ (c || d)
  or_parts {a} {b} {c} {d} e f = ap (λ x. x || b) e ∙ ap (λ x. c || x) f

  join_one : (hs ps : List Spot) {x y : Bool} → list_any F hs ≡ x → list_any F ps ≡ y → list_any F (hs ++ ps) ≡ (x || y)
  join_one hs ps e f = list_any-append F hs ps ∙ or_parts e f

  join_two : (hs ps qs : List Spot) {x y z : Bool} → list_any F hs ≡ x → list_any F ps ≡ y → list_any F qs ≡ z → list_any F (hs ++ (ps ++ qs)) ≡ (x || (y || z))
  join_two hs ps qs e f g = join_one hs (ps ++ qs) e (join_one ps qs f g)

  pub split : (a : Liveness) (B : Scope) (f : Layer → Formula) (t : Term) (n : ℕ) → HasExitCodes t → Agrees L a t n → Split a B f t n
  split a B f (Present e p q) n k g =
      let m = n + 1 + statement_count p in
      let t = Present e p q in
      let fp = tested_entry n (n + 1) (test_formula B e) in
      let fq = tested_entry n m (λ l. Negation (test_formula B e l)) in
      let x = split (part_liveness a p) B fp p (n + 1) k.0 (first_agrees L a (part_liveness a p) (part_liveness a q) t p q n refl (λ j. refl) g) in
      let y = split (part_liveness a q) B fq q m k.1 (second_agrees L a (part_liveness a p) (part_liveness a q) t p q n refl (λ j. refl) g) in
      join_two (spots_at L B f t n) (spots L B fp p (n + 1)) (spots L B fq q m) (here_any a B f t n g) x y
      ∙ two_parts a.resumed _ _ _ _ _ _ _ _
      ∙ ap (λ b. (a.resumed && resumed_any F B f t n) || b)
      (ap (λ b. list_any (λ r. F (spot B f t n (Started r))) a.roots || b) (sym (any_or _ _ a.roots)) ∙ sym (any_or _ _ a.roots))
  split a B f (Suspend e p) n k g =
      let t = Suspend e p in
      let fp = suspended_entry n (test_formula B e) in
      let x = split (part_liveness a p) B fp p (n + 1) k (only_agrees L a (part_liveness a p) t p n refl (λ j. refl) g) in
      join_one (spots_at L B f t n) (spots L B fp p (n + 1)) (here_any a B f t n g) x
      ∙ one_part a.resumed _ _ _ _ _ ∙ ap (λ b. (a.resumed && resumed_any F B f t n) || b) (sym (any_or _ _ a.roots))
  split a B f (Seq p q) n k g =
      let m = n + 1 + statement_count p in
      let t = Seq p q in
      let b = second_liveness a p q m in
      let fp = branch_entry n (n + 1) in
      let fq = second_entry n m in
      let S = λ (r : ℕ). started_any F B fq q m (Started r) in
      let old = cond (started_codes p 0) a.roots [] in
      let own = root_if (a.resumed && resumed_codes p 0) m in
      let x = split (part_liveness a p) B fp p (n + 1) k.0 (first_agrees L a (part_liveness a p) b t p q n refl (λ j. refl) g) in
      let y = split b B fq q m k.1 (second_agrees L a (part_liveness a p) b t p q n refl (λ j. refl) g) in
      let roots : list_any S (old ++ own) ≡ ((started_codes p 0 && list_any S a.roots) || ((a.resumed && resumed_codes p 0) && S m)) =
      list_any-append S old own ∙ or_parts (any_if (started_codes p 0) S a.roots) (any_root (a.resumed && resumed_codes p 0) S m) in
      join_two (spots_at L B f t n) (spots L B fp p (n + 1)) (spots L B fq q m) (here_any a B f t n g) x
      (y ∙ ap (λ c. (b.resumed && resumed_any F B fq q m) || c) roots)
      ∙ seq_parts a.resumed (F (spot B f t n Resumed)) (has_code (resumed_codes p)) (resumed_any F B fp p (n + 1)) (can_pass p && has_code (resumed_codes q))
      (resumed_any F B fq q m) (resumed_codes p 0) (S m) (started_codes p 0) (list_any (λ r. F (spot B f t n (Started r))) a.roots)
      (list_any (λ r. started_any F B fp p (n + 1) (Started r)) a.roots) (list_any S a.roots)
      ∙ ap (λ b. (a.resumed && resumed_any F B f t n) || b)
      (ap (λ b. list_any (λ r. F (spot B f t n (Started r))) a.roots || b)
      (ap (λ c. list_any (λ r. started_any F B fp p (n + 1) (Started r)) a.roots || c) (sym (any_and (started_codes p 0) S a.roots)) ∙ sym (any_or _ _ a.roots))
      ∙ sym (any_or _ _ a.roots))
  split a B f (Loop at p) n k g =
      let t = Loop at p in
      let b = loop_liveness a p (n + 1) in
      let fp = loop_entry n in
      let S = λ (r : ℕ). started_any F B fp p (n + 1) (Started r) in
      let own = root_if (a.resumed && resumed_codes p 0) (n + 1) in
      let x = split b B fp p (n + 1) k (only_agrees L a b t p n refl (λ j. refl) g) in
      let roots : list_any S (a.roots ++ own) ≡ (list_any S a.roots || ((a.resumed && resumed_codes p 0) && S (n + 1))) =
      list_any-append S a.roots own ∙ or_parts refl (any_root (a.resumed && resumed_codes p 0) S (n + 1)) in
      join_one (spots_at L B f t n) (spots L B fp p (n + 1)) (here_any a B f t n g) (x ∙ ap (λ c. (b.resumed && resumed_any F B fp p (n + 1)) || c) roots)
      ∙ loop_parts a.resumed _ _ _ _ _ _ _ ∙ ap (λ b. (a.resumed && resumed_any F B f t n) || b) (sym (any_or _ _ a.roots))
  split a B f (Par p q) n k g =
      let m = n + 1 + statement_count p in
      let t = Par p q in
      let fp = branch_entry n (n + 1) in
      let fq = branch_entry n m in
      let x = split (part_liveness a p) B fp p (n + 1) k.0 (first_agrees L a (part_liveness a p) (part_liveness a q) t p q n refl (λ j. refl) g) in
      let y = split (part_liveness a q) B fq q m k.1 (second_agrees L a (part_liveness a p) (part_liveness a q) t p q n refl (λ j. refl) g) in
      join_two (spots_at L B f t n) (spots L B fp p (n + 1)) (spots L B fq q m) (here_any a B f t n g) x y
      ∙ two_parts a.resumed _ _ _ _ _ _ _ _
      ∙ ap (λ b. (a.resumed && resumed_any F B f t n) || b)
      (ap (λ b. list_any (λ r. F (spot B f t n (Started r))) a.roots || b) (sym (any_or _ _ a.roots)) ∙ sym (any_or _ _ a.roots))
  split a B f (Trap p) n k g =
      let t = Trap p in
      let fp = part_entry n in
      let x = split (part_liveness a p) B fp p (n + 1) k (only_agrees L a (part_liveness a p) t p n refl (λ j. refl) g) in
      join_one (spots_at L B f t n) (spots L B fp p (n + 1)) (here_any a B f t n g) x
      ∙ one_part a.resumed _ _ _ _ _ ∙ ap (λ b. (a.resumed && resumed_any F B f t n) || b) (sym (any_or _ _ a.roots))
  split a B f (Local s p) n k g =
      let t = Local s p in
      let fp = part_entry n in
      let x = split (part_liveness a p) (bind B s n) fp p (n + 1) k (only_agrees L a (part_liveness a p) t p n refl (λ j. refl) g) in
      join_one (spots_at L B f t n) (spots L (bind B s n) fp p (n + 1)) (here_any a B f t n g) x
      ∙ one_part a.resumed _ _ _ _ _ ∙ ap (λ b. (a.resumed && resumed_any F B f t n) || b) (sym (any_or _ _ a.roots))
  split a B f (Awake e p) n k g = absurd k
  split a B f t n k g = here_any a B f t n g
