-- Where what each edge of a program's graph joins is related, so is the `go` of each live instance to all its ends.
use Rattle.std.proofs.Common.{◌≡◌, ℕ, zero, suc, ◌+◌, ◌<◌, true, List, [], ◌∷◌, ◌++◌, length, map, get_or, refl, sym, subst, inl, inr, ⊎_elim, arith}
use Rattle.std.specs.Prelude.{Contains}
use Rattle.std.proofs.lemmas.List.Elements.{Contains-append_cases, Contains-append_right}
use Rattle.base_facts.proofs.Lists.{Every, every-append}
use Rattle.est_kernel.specs.Preorder.{statement_count}
use Rattle.est_kernel.specs.Terms.{Term, Nothing, Pause, Emit, Exit, Present, Suspend, Seq, Loop, Par, Trap, Local, Awake}
use Rattle.grc_graph.specs.Formulas.{Formula, Negation}
use Rattle.grc_graph.specs.Layers.{Layer, Resumed, Started, Liveness, layers_of, part_liveness, second_liveness, loop_liveness}
use Rattle.grc_graph.specs.Scopes.{Scope, bind}
use Rattle.grc_graph.specs.Selected.{HasExitCodes}
use Rattle.grc_graph.specs.Spots.{Spot, spots, spots_at, test_formula, tested_entry, suspended_entry, branch_entry, second_entry, loop_entry, part_entry}
use Rattle.grc_graph.specs.Wires.{Wire, Go, End, instance_codes}
use Rattle.grc_graph.proofs.Exports.{Agrees, first_agrees, here_agrees, only_agrees, second_agrees, cases_of}
use Rattle.grc_solutions.proofs.Exports.{Root, layered, every_left, every_right, spot}
use Rattle.grc_share_laws.proofs.GoEnds.{Rises, resumed-ends, started-ends}

module _ (T : Wire → Wire → Type 0) (join : (u v w : Wire) → T u v → T v w → T u w) (L : ℕ → List Layer) where
  -- an instance is related to its ends
  abbrev pub Below : Spot → Type 0
  Below x = (k : ℕ) → instance_codes x.statement x.layer k ≡ true → T (Go x.path x.layer) (End x.path x.layer k)

  -- the instances of one statement
  over : (B : Scope) (f : Layer → Formula) (t : Term) (n : ℕ) (a : Liveness) → ((l : Layer) → Contains (layers_of a) l → Below (spot B f t n l))
      → (ls : List Layer) → ls ≡ layers_of a → Every Below (map (λ l. spot B f t n l) ls)
  over B f t n a h ls e = each ls (λ l c. h l (subst (λ xs. Contains xs l) e c))
    where
      each : (ls : List Layer) → ((l : Layer) → Contains ls l → Below (spot B f t n l)) → Every Below (map (λ l. spot B f t n l) ls)
      each [] g = tt
      each (l ∷ ls) g = (g l (0, omega arith, refl), each ls (λ j c. g j (Contains-append_right (l ∷ []) ls j c)))

  here : (B : Scope) (f : Layer → Formula) (t : Term) (n : ℕ) (a : Liveness) → HasExitCodes t → Agrees L a t n → Every (Rises T join) (spots L B f t n)
      → Every Below (spots_at L B f t n)
  here B f t n a k g h =
      let x = layered L (Rises T join) (Rises T join) (λ s c r. r) a B f t n k g h in
      over B f t n a
      (λ l c. in_layers a l c (λ j. Below (spot B f t n j))
      (λ e i d. resumed-ends T join t B f n k (x.0 e) i d) (λ r o i d. started-ends T join t B f n r k (x.1 r o) i d)) (L n) (here_agrees L a t n g)
    where
      in_layers : (a : Liveness) (l : Layer) → Contains (layers_of a) l → (P : Layer → Type 0) → (a.resumed ≡ true → P Resumed)
          → ((r : ℕ) → Root r a.roots → P (Started r)) → P l
      in_layers a l c P f g = cases_of P a l c f (λ r d. g r (root_of a.roots r d))
        where
          root_of : (rs : List ℕ) (r : ℕ) → Contains rs r → Root r rs
          root_of [] r d = absurd (omega (arith, d.1))
          root_of (q ∷ rs) r d = ⊎_elim (λ e. inl (sym (first e))) (λ e. inr (root_of rs r e)) (Contains-append_cases (q ∷ []) rs r d)
            where
              by : (i : ℕ) → i < length (q ∷ []) → get_or (q ∷ []) i r ≡ r → q ≡ r
              by zero l e = e
              by (suc i) l e = absurd (omega (arith, l))

              first : Contains (q ∷ []) r → q ≡ r
              first c = by c.0 c.1 c.2

  pub below : (a : Liveness) (B : Scope) (f : Layer → Formula) (t : Term) (n : ℕ) → HasExitCodes t → Agrees L a t n → Every (Rises T join) (spots L B f t n)
      → Every Below (spots L B f t n)
  below a B f Nothing n k g h = here B f Nothing n a k g h
  below a B f Pause n k g h = here B f Pause n a k g h
  below a B f (Emit s) n k g h = here B f (Emit s) n a k g h
  below a B f (Exit c) n k g h = here B f (Exit c) n a k g h
  below a B f (Present e p q) n k g h =
      let m = n + 1 + statement_count p in
      let t = Present e p q in
      let ps = spots L B (tested_entry n (n + 1) (test_formula B e)) p (n + 1) in
      let qs = spots L B (tested_entry n m (λ l. Negation (test_formula B e l))) q m in
      let rest = every_right (Rises T join) (spots_at L B f t n) (ps ++ qs) h in
      every-append Below (spots_at L B f t n) (ps ++ qs) (here B f t n a k g h)
      (every-append Below ps qs
      (below (part_liveness a p) B _ p (n + 1) k.0 (first_agrees L a (part_liveness a p) (part_liveness a q) t p q n refl (λ j. refl) g)
      (every_left (Rises T join) ps qs rest))
      (below (part_liveness a q) B _ q m k.1 (second_agrees L a (part_liveness a p) (part_liveness a q) t p q n refl (λ j. refl) g)
      (every_right (Rises T join) ps qs rest)))
  below a B f (Suspend e p) n k g h =
      let t = Suspend e p in
      let ps = spots L B (suspended_entry n (test_formula B e)) p (n + 1) in
      every-append Below (spots_at L B f t n) ps (here B f t n a k g h)
      (below (part_liveness a p) B _ p (n + 1) k (only_agrees L a (part_liveness a p) t p n refl (λ j. refl) g)
      (every_right (Rises T join) (spots_at L B f t n) ps h))
  below a B f (Seq p q) n k g h =
      let m = n + 1 + statement_count p in
      let t = Seq p q in
      let b = second_liveness a p q m in
      let ps = spots L B (branch_entry n (n + 1)) p (n + 1) in
      let qs = spots L B (second_entry n m) q m in
      let rest = every_right (Rises T join) (spots_at L B f t n) (ps ++ qs) h in
      every-append Below (spots_at L B f t n) (ps ++ qs) (here B f t n a k g h)
      (every-append Below ps qs
      (below (part_liveness a p) B _ p (n + 1) k.0 (first_agrees L a (part_liveness a p) b t p q n refl (λ j. refl) g) (every_left (Rises T join) ps qs rest))
      (below b B _ q m k.1 (second_agrees L a (part_liveness a p) b t p q n refl (λ j. refl) g) (every_right (Rises T join) ps qs rest)))
  below a B f (Loop at p) n k g h =
      let t = Loop at p in
      let b = loop_liveness a p (n + 1) in
      let ps = spots L B (loop_entry n) p (n + 1) in
      every-append Below (spots_at L B f t n) ps (here B f t n a k g h)
      (below b B _ p (n + 1) k (only_agrees L a b t p n refl (λ j. refl) g) (every_right (Rises T join) (spots_at L B f t n) ps h))
  below a B f (Par p q) n k g h =
      let m = n + 1 + statement_count p in
      let t = Par p q in
      let ps = spots L B (branch_entry n (n + 1)) p (n + 1) in
      let qs = spots L B (branch_entry n m) q m in
      let rest = every_right (Rises T join) (spots_at L B f t n) (ps ++ qs) h in
      every-append Below (spots_at L B f t n) (ps ++ qs) (here B f t n a k g h)
      (every-append Below ps qs
      (below (part_liveness a p) B _ p (n + 1) k.0 (first_agrees L a (part_liveness a p) (part_liveness a q) t p q n refl (λ j. refl) g)
      (every_left (Rises T join) ps qs rest))
      (below (part_liveness a q) B _ q m k.1 (second_agrees L a (part_liveness a p) (part_liveness a q) t p q n refl (λ j. refl) g)
      (every_right (Rises T join) ps qs rest)))
  below a B f (Trap p) n k g h =
      let t = Trap p in
      let ps = spots L B (part_entry n) p (n + 1) in
      every-append Below (spots_at L B f t n) ps (here B f t n a k g h)
      (below (part_liveness a p) B _ p (n + 1) k (only_agrees L a (part_liveness a p) t p n refl (λ j. refl) g)
      (every_right (Rises T join) (spots_at L B f t n) ps h))
  below a B f (Local s p) n k g h =
      let t = Local s p in
      let ps = spots L (bind B s n) (part_entry n) p (n + 1) in
      every-append Below (spots_at L B f t n) ps (here B f t n a k g h)
      (below (part_liveness a p) (bind B s n) _ p (n + 1) k (only_agrees L a (part_liveness a p) t p n refl (λ j. refl) g)
      (every_right (Rises T join) (spots_at L B f t n) ps h))
  below a B f (Awake e p) n k g h = absurd k
