-- The least members of shared wires are wires of the program.
use Rattle.std.proofs.Common.{◌≡◌, ℕ, ◌<◌, ◌==◌, ◌&&◌, Bool, true, false, cond, List, [], ◌∷◌, refl, sym, ap, ◌∙◌, subst, arith, ◌⊎◌, inl, inr, ⊎_elim}
use Rattle.std.specs.Prelude.{Contains}
use Rattle.std.proofs.lemmas.Bool.{and_from, and_parts, eq-eqb, eqb-true, false≢true}
use Rattle.est_kernel.specs.Plain.{Program}
use Rattle.est_kernel.specs.Preorder.{statement_count}
use Rattle.est_kernel.specs.Terms.{Term}
use Rattle.est_kernel.specs.WellFormed.{IsKernel, KeepsLimits}
use Rattle.grc_graph.specs.GraphRuns.{program_wires}
use Rattle.grc_graph.specs.Layers.{Layer, Resumed, Started}
use Rattle.grc_graph.specs.Rows.{live_in, program_rows, row_at}
use Rattle.grc_graph.specs.Wires.{Wire, Out, Go, StatusOf, End, instance_codes}
use Rattle.grc_graph.proofs.Exports.{IsEnd, IsStatus, wire_only, wire_there, codes_below-kernel, program_kernel}
use Rattle.grc_share.specs.SharedInstances.{Sharing, body_sharing, key}
use Rattle.grc_share.specs.SharedWires.{first_root, shared_layer, shared_wire, status_layer}
use Rattle.grc_share.proofs.FirstRoots.{first_among}
use Rattle.grc_share.proofs.RowsLive.{program_gives}
use Rattle.grc_share.proofs.SharedNames.{first_key}

-- ---- the shared wire of a shared wire is that wire

-- the first root with a key is the first for each root with the key, where there is one
first-same : (c : ℕ → ℕ) (rs : List ℕ) (r q : ℕ) → c q ≡ c r → (first_root c rs q ≡ first_root c rs r) ⊎ (first_root c rs q ≡ q) × (first_root c rs r ≡ r)
first-same c [] r q e = inr (refl, refl)
first-same c (s ∷ ss) r q e = by (c s == c r) (c s == c q) (ap (λ k. c s == k) (sym e)) (first-same c ss r q e)
  where
    by : (a b : Bool) → a ≡ b → (first_root c ss q ≡ first_root c ss r) ⊎ (first_root c ss q ≡ q) × (first_root c ss r ≡ r)
        → (cond b s (first_root c ss q) ≡ cond a s (first_root c ss r)) ⊎ (cond b s (first_root c ss q) ≡ q) × (cond a s (first_root c ss r) ≡ r)
    by true true f h = inl refl
    by true false f h = absurd (false≢true (sym f))
    by false true f h = absurd (false≢true f)
    by false false f h = h

first-twice : (c : ℕ → ℕ) (rs : List ℕ) (r : ℕ) → first_root c rs (first_root c rs r) ≡ first_root c rs r
first-twice c rs r = ⊎_elim (λ e. e) (λ e. e.0) (first-same c rs r (first_root c rs r) (first_key c rs r))

pub layer-twice : (K : Sharing) (n : ℕ) (l : Layer) → shared_layer K n (shared_layer K n l) ≡ shared_layer K n l
layer-twice K n Resumed = refl
layer-twice K n (Started r) = ap Started (first-twice K.root (K.live n).roots r)

-- the layer of a shared status has the key of its members
status-key : (K : Sharing) (n : ℕ) (l : Layer) → key K n (status_layer K n l) ≡ key K n l
status-key K n l = by ((K.live n).resumed && K.resumed n == key K n l) refl l refl
  where
    by : (b : Bool) → ((K.live n).resumed && K.resumed n == key K n l) ≡ b → (j : Layer) → l ≡ j → key K n (cond b Resumed (shared_layer K n l)) ≡ key K n l
    by true e j f = eqb-true (K.resumed n) (key K n l) (and_parts (K.live n).resumed (K.resumed n == key K n l) e).1
    by false e Resumed f = (λ i. key K n (shared_layer K n (f i))) ∙ ap (key K n) (sym f)
    by false e (Started r) f = (λ i. key K n (shared_layer K n (f i))) ∙ first_key K.root (K.live n).roots r ∙ ap (key K n) (sym f)

pub status-twice : (K : Sharing) (n : ℕ) (l : Layer) → status_layer K n (status_layer K n l) ≡ status_layer K n l
status-twice K n l =
    ap (λ k. cond ((K.live n).resumed && K.resumed n == k) Resumed (shared_layer K n (status_layer K n l))) (status-key K n l)
    ∙ by ((K.live n).resumed && K.resumed n == key K n l)
  where
    by : (b : Bool) → cond b Resumed (shared_layer K n (cond b Resumed (shared_layer K n l))) ≡ cond b Resumed (shared_layer K n l)
    by true = refl
    by false = layer-twice K n l

pub wire-twice : (K : Sharing) (w : Wire) → shared_wire K (shared_wire K w) ≡ shared_wire K w
wire-twice K (Out s) = refl
wire-twice K (Go n l) = ap (Go n) (layer-twice K n l)
wire-twice K (StatusOf n l) = ap (StatusOf n) (status-twice K n l)
wire-twice K (End n l k) = ap (λ j. End n j k) (layer-twice K n l)

-- ---- the wires of a program

module _ (p : Program) (kernel : IsKernel p.body) where
  abbrev K : Sharing
  K = body_sharing p.body

  row_live : (n : ℕ) → n < statement_count p.body → (row_at (program_rows p) n).live ≡ (body_sharing p.body).live n
  row_live n h = program_gives p kernel n (omega arith) (omega (arith, h))

  -- the layer that names the shared instance is live
  shared-live : (n : ℕ) (l : Layer) → n < statement_count p.body → live_in (row_at (program_rows p) n).live l ≡ true
      → live_in (row_at (program_rows p) n).live (shared_layer (body_sharing p.body) n l) ≡ true
  shared-live n Resumed h v = v
  shared-live n (Started r) h v =
      let e = row_live n h in
      let c = (body_sharing p.body).root in
      let rs = ((body_sharing p.body).live n).roots in
      subst (λ a. live_in a (Started (first_root c rs r)) ≡ true) (sym e) (first_among c rs r (subst (λ a. live_in a (Started r) ≡ true) e v))

  codes-same : (t : Term) (n : ℕ) (l : Layer) (k : ℕ) → instance_codes t l k ≡ true → instance_codes t (shared_layer (body_sharing p.body) n l) k ≡ true
  codes-same t n Resumed k h = h
  codes-same t n (Started r) k h = h

  pub end-there : KeepsLimits p.body → (n : ℕ) (l : Layer) (k : ℕ) → Contains (program_wires p) (End n l k)
      → Contains (program_wires p) (End n (shared_layer (body_sharing p.body) n l) k)
  end-there limits n l k h =
      let w = wire_only p kernel (IsEnd k) n l h in
      let t = (row_at (program_rows p) n).statement in
      wire_there p kernel (IsEnd k) n (shared_layer (body_sharing p.body) n l)
      (codes_below-kernel t l k (program_kernel p n kernel limits w.within) w.has)
      (record { within = w.within; live = shared-live n l w.within w.live; has = codes-same t n l k w.has })

  pub status-there : (n : ℕ) (l : Layer) → Contains (program_wires p) (StatusOf n l)
      → Contains (program_wires p) (StatusOf n (shared_layer (body_sharing p.body) n l))
  status-there n l h =
      let w = wire_only p kernel IsStatus n l h in
      wire_there p kernel IsStatus n (shared_layer (body_sharing p.body) n l) tt
      (record { within = w.within; live = shared-live n l w.within w.live; has = w.has })

  -- a status in common with what is resumed
  pub status-resumed : (n : ℕ) (l : Layer) → Contains (program_wires p) (StatusOf n l) → Contains (program_wires p) (StatusOf n Resumed)
      → (body_sharing p.body).resumed n ≡ key (body_sharing p.body) n l → status_layer (body_sharing p.body) n l ≡ Resumed
  status-resumed n l h g e =
      let K = body_sharing p.body in
      let w = wire_only p kernel IsStatus n Resumed g in
      let live : (K.live n).resumed ≡ true = subst (λ a. a.resumed ≡ true) (row_live n w.within) w.live in
      ap (λ b. cond b Resumed (shared_layer K n l))
      (and_from (K.live n).resumed (K.resumed n == key K n l) live (eq-eqb (K.resumed n) (key K n l) e))

  pub status-started : (n : ℕ) (l : Layer) → Contains (program_wires p) (StatusOf n l)
      → ((body_sharing p.body).resumed n ≡ key (body_sharing p.body) n l → ¬ Contains (program_wires p) (StatusOf n Resumed))
      → status_layer (body_sharing p.body) n l ≡ shared_layer (body_sharing p.body) n l
  status-started n l h none = by ((body_sharing p.body).live n).resumed refl ((body_sharing p.body).resumed n == key (body_sharing p.body) n l) refl
    where
      K : Sharing
      K = body_sharing p.body

      by : (a : Bool) → ((body_sharing p.body).live n).resumed ≡ a
          → (b : Bool) → ((body_sharing p.body).resumed n == key (body_sharing p.body) n l) ≡ b
          → status_layer (body_sharing p.body) n l ≡ shared_layer (body_sharing p.body) n l
      by true e true f =
          let w = wire_only p kernel IsStatus n l h in
          absurd (none (eqb-true ((body_sharing p.body).resumed n) (key (body_sharing p.body) n l) f)
          (wire_there p kernel IsStatus n Resumed tt (record {
            within = w.within;
            live = subst (λ a. a.resumed ≡ true) (sym (row_live n w.within)) e;
            has = w.has;
          })))
      by true e false f = (λ i. cond (e i && f i) Resumed (shared_layer (body_sharing p.body) n l))
      by false e b f = (λ i. cond (e i && f i) Resumed (shared_layer (body_sharing p.body) n l))
