-- Where the emissions on a Local's status wire stand: in its body, and there in the layers that see its instance.
use Rattle.std.proofs.Common.{◌≡◌, ℕ, ◌+◌, ◌<◌, ◌≤◌, Bool, true, false, ◌&&◌, ◌||◌, ◌==◌, cond, List, [], ◌∷◌, ◌++◌, map, refl, ap, ◌∙◌, arith}
use Rattle.std.specs.List.{list_any}
use Rattle.std.proofs.lemmas.List.Folds.{list_any-append}
use Rattle.std.proofs.lemmas.Bool.{ne_eqb}
use Rattle.base_facts.proofs.Tests.{or-nothing}
use Rattle.est_kernel.specs.Terms.{Term, Emit, Present, Suspend, Seq, Loop, Par, Trap, Local, Awake}
use Rattle.est_kernel.specs.Preorder.{statement_count}
use Rattle.grc_graph.specs.Layers.{Layer, layer_above, same_layer}
use Rattle.grc_graph.specs.Scopes.{Binding, BoundAt, Scope, bind}
use Rattle.grc_graph.specs.Wires.{Wire, Go, StatusOf, status_wire}
use Rattle.grc_graph.specs.Formulas.{Formula, Negation}
use Rattle.grc_graph.specs.Spots.{Spot, spots, spots_at, test_formula, tested_entry, suspended_entry, branch_entry, second_entry, loop_entry, part_entry}
use Rattle.grc_graph.specs.Equations.{is_wire, emits_on}
use Rattle.grc_graph.specs.Readings.{Valuation}
use Rattle.grc_solutions.proofs.Exports.{spot, Above}

-- an instance emits on the wire, and runs
abbrev pub emission : Valuation → Wire → Spot → Bool
emission V w x = emits_on w x.statement x.scope x.layer && V (Go x.path x.layer)

abbrev pub emitted : Valuation → Wire → List Spot → Bool
emitted V w xs = list_any (emission V w) xs

any_none : {A : Type 0} (F : Spot → Bool) (g : A → Spot) (ls : List A) → ((l : A) → F (g l) ≡ false) → list_any F (map g ls) ≡ false
any_none F g [] h = refl
any_none F g (l ∷ ls) h = ap (λ b. b || list_any F (map g ls)) (h l) ∙ any_none F g ls h

any_only : (F : Spot → Bool) (hs ps : List Spot) → list_any F hs ≡ false → list_any F (hs ++ ps) ≡ list_any F ps
any_only F hs ps h = list_any-append F hs ps ∙ ap (λ b. b || list_any F ps) h

any_first : (F : Spot → Bool) (hs ps qs : List Spot) → list_any F hs ≡ false → list_any F qs ≡ false → list_any F (hs ++ (ps ++ qs)) ≡ list_any F ps
any_first F hs ps qs h g = any_only F hs (ps ++ qs) h ∙ list_any-append F ps qs ∙ or-nothing _ _ g

any_second : (F : Spot → Bool) (hs ps qs : List Spot) → list_any F hs ≡ false → list_any F ps ≡ false → list_any F (hs ++ (ps ++ qs)) ≡ list_any F qs
any_second F hs ps qs h g = any_only F hs (ps ++ qs) h ∙ any_only F ps qs g

-- a signal with another binding has another status wire
pub other_binding : (b : Binding) (s j : ℕ) (l i : Layer) → (b ≡ BoundAt j → ⊥) → is_wire (status_wire b s l) (StatusOf j i) ≡ false
other_binding (BoundAt c) s j l i h = ap (λ d. d && same_layer (layer_above c l) i) (ne_eqb c j (λ e. h (ap BoundAt e)))
other_binding _ s j l i h = refl

bound_other : (d : Bool) (n j : ℕ) (b : Binding) → (n ≡ j → ⊥) → (b ≡ BoundAt j → ⊥) → cond d (BoundAt n) b ≡ BoundAt j → ⊥
bound_other true n j b h g e = h (let f : n ≡ j = cc in f)
bound_other false n j b h g e = g e

module _ (V : Valuation) (L : ℕ → List Layer) where
  -- a statement that does not bind j and whose scope does not either emits nothing on a status wire of j
  pub emitted_none : (j : ℕ) (i : Layer) (t : Term) (B : Scope) (f : Layer → Formula) (n : ℕ) → (n ≤ j → j < n + statement_count t → ⊥) →
      ((s : ℕ) → B s ≡ BoundAt j → ⊥) → emitted V (StatusOf j i) (spots L B f t n) ≡ false
  emitted_none j i (Emit s) B f n o h =
      any_none _ (λ l. spot B f (Emit s) n l) (L n)
      (λ l. ap (λ b. b && V (Go n l)) (other_binding (B s) s j l i (h s)))
  emitted_none j i (Present e p q) B f n o h =
      any_first (emission V (StatusOf j i)) (spots_at L B f (Present e p q) n) (spots L B (tested_entry n (n + 1) (test_formula B e)) p (n + 1))
      (spots L B (tested_entry n (n + 1 + statement_count p) (λ l. Negation (test_formula B e l))) q (n + 1 + statement_count p))
      (any_none _ (λ l. spot B f (Present e p q) n l) (L n) (λ l. refl))
      (emitted_none j i q B _ (n + 1 + statement_count p) (λ x y. o (omega arith) (omega arith)) h)
      ∙ emitted_none j i p B _ (n + 1) (λ x y. o (omega arith) (omega arith)) h
  emitted_none j i (Suspend e p) B f n o h =
      any_only (emission V (StatusOf j i)) (spots_at L B f (Suspend e p) n) (spots L B (suspended_entry n (test_formula B e)) p (n + 1))
      (any_none _ (λ l. spot B f (Suspend e p) n l) (L n) (λ l. refl))
      ∙ emitted_none j i p B _ (n + 1) (λ x y. o (omega arith) (omega arith)) h
  emitted_none j i (Seq p q) B f n o h =
      any_first (emission V (StatusOf j i)) (spots_at L B f (Seq p q) n) (spots L B (branch_entry n (n + 1)) p (n + 1))
      (spots L B (second_entry n (n + 1 + statement_count p)) q (n + 1 + statement_count p))
      (any_none _ (λ l. spot B f (Seq p q) n l) (L n) (λ l. refl))
      (emitted_none j i q B _ (n + 1 + statement_count p) (λ x y. o (omega arith) (omega arith)) h)
      ∙ emitted_none j i p B _ (n + 1) (λ x y. o (omega arith) (omega arith)) h
  emitted_none j i (Loop at p) B f n o h =
      any_only (emission V (StatusOf j i)) (spots_at L B f (Loop at p) n) (spots L B (loop_entry n) p (n + 1))
      (any_none _ (λ l. spot B f (Loop at p) n l) (L n) (λ l. refl))
      ∙ emitted_none j i p B _ (n + 1) (λ x y. o (omega arith) (omega arith)) h
  emitted_none j i (Par p q) B f n o h =
      any_first (emission V (StatusOf j i)) (spots_at L B f (Par p q) n) (spots L B (branch_entry n (n + 1)) p (n + 1))
      (spots L B (branch_entry n (n + 1 + statement_count p)) q (n + 1 + statement_count p))
      (any_none _ (λ l. spot B f (Par p q) n l) (L n) (λ l. refl))
      (emitted_none j i q B _ (n + 1 + statement_count p) (λ x y. o (omega arith) (omega arith)) h)
      ∙ emitted_none j i p B _ (n + 1) (λ x y. o (omega arith) (omega arith)) h
  emitted_none j i (Trap p) B f n o h =
      any_only (emission V (StatusOf j i)) (spots_at L B f (Trap p) n) (spots L B (part_entry n) p (n + 1))
      (any_none _ (λ l. spot B f (Trap p) n l) (L n) (λ l. refl))
      ∙ emitted_none j i p B _ (n + 1) (λ x y. o (omega arith) (omega arith)) h
  emitted_none j i (Local s p) B f n o h =
      any_only (emission V (StatusOf j i)) (spots_at L B f (Local s p) n) (spots L (bind B s n) (part_entry n) p (n + 1))
      (any_none _ (λ l. spot B f (Local s p) n l) (L n) (λ l. refl))
      ∙ emitted_none j i p (bind B s n) _ (n + 1) (λ x y. o (omega arith) (omega arith))
      (λ r. bound_other (r == s) n j (B r) (λ e. o (omega arith) (omega arith)) (h r))
  emitted_none j i (Awake e p) B f n o h =
      any_only (emission V (StatusOf j i)) (spots_at L B f (Awake e p) n) (spots L B (part_entry n) p (n + 1))
      (any_none _ (λ l. spot B f (Awake e p) n l) (L n) (λ l. refl))
      ∙ emitted_none j i p B _ (n + 1) (λ x y. o (omega arith) (omega arith)) h
  emitted_none j i t B f n o h = any_none _ (λ l. spot B f t n l) (L n) (λ l. refl)

  -- the emissions of the whole list, on the status wires that a statement binds, are its own
  pub record Whole (all : List Spot) (B : Scope) (f : Layer → Formula) (t : Term) (n : ℕ) : Type 0 where
    pub own : (j : ℕ) (i : Layer) → n ≤ j → j < n + statement_count t → emitted V (StatusOf j i) all ≡ emitted V (StatusOf j i) (spots L B f t n)

  not_bound : (B : Scope) (n j : ℕ) → Above B n → n ≤ j → (s : ℕ) → B s ≡ BoundAt j → ⊥
  not_bound B n j a l s e = let i = a.each s j e in omega arith

  pub whole_only : (all : List Spot) (B C : Scope) (f g : Layer → Formula) (t p : Term) (n : ℕ) → statement_count t ≡ 1 + statement_count p →
      spots L B f t n ≡ spots_at L B f t n ++ spots L C g p (n + 1) → ((j : ℕ) (i l : Layer) → emits_on (StatusOf j i) t B l ≡ false) → Whole all B f t n →
      Whole all C g p (n + 1)
  whole_only all B C f g t p n c e k w =
      record {
        own = λ j i l u.
            w.own j i (omega arith) (omega arith) ∙ ap (emitted V (StatusOf j i)) e
            ∙ any_only (emission V (StatusOf j i)) (spots_at L B f t n) (spots L C g p (n + 1))
            (any_none _ (λ l. spot B f t n l) (L n) (λ l. ap (λ b. b && V (Go n l)) (k j i l)));
      }

  pub whole_first : (all : List Spot) (B : Scope) (f g h : Layer → Formula) (t p q : Term) (n : ℕ) → Above B n →
      statement_count t ≡ 1 + statement_count p + statement_count q →
      spots L B f t n ≡ spots_at L B f t n ++ (spots L B g p (n + 1) ++ spots L B h q (n + 1 + statement_count p)) →
      ((j : ℕ) (i l : Layer) → emits_on (StatusOf j i) t B l ≡ false) → Whole all B f t n → Whole all B g p (n + 1)
  whole_first all B f g h t p q n a c e k w =
      record {
        own = λ j i l u.
            w.own j i (omega arith) (omega arith) ∙ ap (emitted V (StatusOf j i)) e
            ∙ any_first (emission V (StatusOf j i)) (spots_at L B f t n) (spots L B g p (n + 1)) (spots L B h q (n + 1 + statement_count p))
            (any_none _ (λ l. spot B f t n l) (L n) (λ l. ap (λ b. b && V (Go n l)) (k j i l)))
            (emitted_none j i q B h (n + 1 + statement_count p) (λ x y. omega arith) (not_bound B n j a (omega arith)));
      }

  pub whole_second : (all : List Spot) (B : Scope) (f g h : Layer → Formula) (t p q : Term) (n : ℕ) → Above B n →
      statement_count t ≡ 1 + statement_count p + statement_count q →
      spots L B f t n ≡ spots_at L B f t n ++ (spots L B g p (n + 1) ++ spots L B h q (n + 1 + statement_count p)) →
      ((j : ℕ) (i l : Layer) → emits_on (StatusOf j i) t B l ≡ false) → Whole all B f t n → Whole all B h q (n + 1 + statement_count p)
  whole_second all B f g h t p q n a c e k w =
      record {
        own = λ j i l u.
            w.own j i (omega arith) (omega arith) ∙ ap (emitted V (StatusOf j i)) e
            ∙ any_second (emission V (StatusOf j i)) (spots_at L B f t n) (spots L B g p (n + 1)) (spots L B h q (n + 1 + statement_count p))
            (any_none _ (λ l. spot B f t n l) (L n) (λ l. ap (λ b. b && V (Go n l)) (k j i l)))
            (emitted_none j i p B g (n + 1) (λ x y. omega arith) (not_bound B n j a (omega arith)));
      }
