-- Whether a member of a shared wire is true: it is so where one of the wires that are one with it is.
use Rattle.std.proofs.Common.{◌≡◌, ℕ, ◌==◌, ◌&&◌, true, refl, sym, ◌∙◌, subst}
use Rattle.std.specs.Prelude.{Contains}
use Rattle.std.proofs.lemmas.Bool.{and_from, and_parts, eq-eqb, eqb-true, false≢true}
use Rattle.est_kernel.specs.Plain.{Program}
use Rattle.grc_graph.specs.GraphRuns.{program_wires}
use Rattle.grc_graph.specs.Layers.{Layer, Resumed, Started}
use Rattle.grc_graph.specs.Readings.{Valuation}
use Rattle.grc_graph.specs.Wires.{Wire, Out, Go, StatusOf, End}
use Rattle.grc_share.specs.SharedInstances.{Sharing, body_sharing, key, one_instance, one_status}
use Rattle.grc_share.specs.SharedWires.{members, one_wire}
use Rattle.grc_share_laws.specs.SharedReactions.{some_member}
use Rattle.base_facts.proofs.Tests.{same-tests}
use Rattle.grc_share_laws.proofs.Lists.{any-from, any-some, filter-has, filter-some}

-- ---- what is one

pub one-instance-self : (K : Sharing) (n : ℕ) (l : Layer) → one_instance K n l l ≡ true
one-instance-self K n Resumed = refl
one-instance-self K n (Started r) = eq-eqb (K.root r) (K.root r) refl

pub one-instance-back : (K : Sharing) (n : ℕ) (l j : Layer) → one_instance K n l j ≡ true → one_instance K n j l ≡ true
one-instance-back K n Resumed Resumed e = refl
one-instance-back K n Resumed (Started r) e = absurd (false≢true e)
one-instance-back K n (Started q) Resumed e = absurd (false≢true e)
one-instance-back K n (Started q) (Started r) e = eq-eqb (K.root r) (K.root q) (sym (eqb-true (K.root q) (K.root r) e))

pub one-instance-both : (K : Sharing) (n : ℕ) (l j i : Layer) → one_instance K n l j ≡ true → one_instance K n j i ≡ true → one_instance K n l i ≡ true
one-instance-both K n Resumed Resumed i e f = f
one-instance-both K n Resumed (Started r) i e f = absurd (false≢true e)
one-instance-both K n (Started q) Resumed i e f = absurd (false≢true e)
one-instance-both K n (Started q) (Started r) Resumed e f = absurd (false≢true f)
one-instance-both K n (Started q) (Started r) (Started s) e f =
    eq-eqb (K.root q) (K.root s) (eqb-true (K.root q) (K.root r) e ∙ eqb-true (K.root r) (K.root s) f)

-- what is one with what is resumed is that
pub one-resumed : (K : Sharing) (n : ℕ) (j : Layer) → one_instance K n j Resumed ≡ true → j ≡ Resumed
one-resumed K n Resumed e = refl
one-resumed K n (Started r) e = absurd (false≢true e)

pub one-wire-self : (K : Sharing) (w : Wire) → one_wire K w w ≡ true
one-wire-self K (Out s) = eq-eqb s s refl
one-wire-self K (Go n l) = and_from (n == n) (one_instance K n l l) (eq-eqb n n refl) (one-instance-self K n l)
one-wire-self K (StatusOf n l) = and_from (n == n) (one_status K n l l) (eq-eqb n n refl) (eq-eqb (key K n l) (key K n l) refl)
one-wire-self K (End n l k) =
    and_from (n == n) (one_instance K n l l && k == k) (eq-eqb n n refl)
    (and_from (one_instance K n l l) (k == k) (one-instance-self K n l) (eq-eqb k k refl))

-- ---- values of members

module _ (p : Program) (V : Valuation) where
  pub member-some : (u : Wire) → some_member p V u ≡ true → (w : Wire) × (one_wire (body_sharing p.body) w u ≡ true) × (V w ≡ true)
  member-some u h =
      let r = any-some V (members p u) h in
      let c = filter-some (λ w. one_wire (body_sharing p.body) w u) (program_wires p) r.0 r.1 in
      (r.0, c.1, r.2)

  -- the instance of a member that runs, ends or has its signal present
  pub go-some : (n : ℕ) (l : Layer) → some_member p V (Go n l) ≡ true → (j : Layer) × (one_instance (body_sharing p.body) n j l ≡ true) × (V (Go n j) ≡ true)
  go-some n l h = let r = member-some (Go n l) h in by r.0 r.1 r.2
    where
      by : (w : Wire) → one_wire (body_sharing p.body) w (Go n l) ≡ true → V w ≡ true
          → (j : Layer) × (one_instance (body_sharing p.body) n j l ≡ true) × (V (Go n j) ≡ true)
      by (Out s) e v = absurd (false≢true e)
      by (Go m j) e v =
          let x = and_parts (m == n) (one_instance (body_sharing p.body) n j l) e in
          (j, x.1, subst (λ i. V (Go i j) ≡ true) (eqb-true m n x.0) v)
      by (StatusOf m j) e v = absurd (false≢true e)
      by (End m j k) e v = absurd (false≢true e)

  pub end-some : (n : ℕ) (l : Layer) (k : ℕ) → some_member p V (End n l k) ≡ true
      → (j : Layer) × (one_instance (body_sharing p.body) n j l ≡ true) × (V (End n j k) ≡ true)
  end-some n l k h = let r = member-some (End n l k) h in by r.0 r.1 r.2
    where
      by : (w : Wire) → one_wire (body_sharing p.body) w (End n l k) ≡ true → V w ≡ true
          → (j : Layer) × (one_instance (body_sharing p.body) n j l ≡ true) × (V (End n j k) ≡ true)
      by (Out s) e v = absurd (false≢true e)
      by (Go m j) e v = absurd (false≢true e)
      by (StatusOf m j) e v = absurd (false≢true e)
      by (End m j i) e v =
          let x = and_parts (m == n) (one_instance (body_sharing p.body) n j l && i == k) e in
          let y = and_parts (one_instance (body_sharing p.body) n j l) (i == k) x.1 in
          (j, y.0, subst (λ a. V (End n j a) ≡ true) (eqb-true i k y.1) (subst (λ a. V (End a j i) ≡ true) (eqb-true m n x.0) v))

  pub status-some : (n : ℕ) (l : Layer) → some_member p V (StatusOf n l) ≡ true
      → (j : Layer) × (key (body_sharing p.body) n j ≡ key (body_sharing p.body) n l) × (V (StatusOf n j) ≡ true)
  status-some n l h = let r = member-some (StatusOf n l) h in by r.0 r.1 r.2
    where
      by : (w : Wire) → one_wire (body_sharing p.body) w (StatusOf n l) ≡ true → V w ≡ true
          → (j : Layer) × (key (body_sharing p.body) n j ≡ key (body_sharing p.body) n l) × (V (StatusOf n j) ≡ true)
      by (Out s) e v = absurd (false≢true e)
      by (Go m j) e v = absurd (false≢true e)
      by (StatusOf m j) e v =
          let x = and_parts (m == n) (one_status (body_sharing p.body) n j l) e in
          (j, eqb-true (key (body_sharing p.body) n j) (key (body_sharing p.body) n l) x.1, subst (λ i. V (StatusOf i j) ≡ true) (eqb-true m n x.0) v)
      by (End m j k) e v = absurd (false≢true e)

  pub out-some : (s : ℕ) → some_member p V (Out s) ≡ true → V (Out s) ≡ true
  out-some s h = let r = member-some (Out s) h in by r.0 r.1 r.2
    where
      by : (w : Wire) → one_wire (body_sharing p.body) w (Out s) ≡ true → V w ≡ true → V (Out s) ≡ true
      by (Out t) e v = subst (λ i. V (Out i) ≡ true) (eqb-true t s e) v
      by (Go m j) e v = absurd (false≢true e)
      by (StatusOf m j) e v = absurd (false≢true e)
      by (End m j k) e v = absurd (false≢true e)

  module _ (there : (w : Wire) → V w ≡ true → Contains (program_wires p) w) where
    pub member-from : (w u : Wire) → one_wire (body_sharing p.body) w u ≡ true → V w ≡ true → some_member p V u ≡ true
    member-from w u e v = any-from V (members p u) w (filter-has (λ x. one_wire (body_sharing p.body) x u) (program_wires p) w (there w v) e) v

    pub go-from : (n : ℕ) (j l : Layer) → one_instance (body_sharing p.body) n j l ≡ true → V (Go n j) ≡ true → some_member p V (Go n l) ≡ true
    go-from n j l e v = member-from (Go n j) (Go n l) (and_from (n == n) (one_instance (body_sharing p.body) n j l) (eq-eqb n n refl) e) v

    pub end-from : (n : ℕ) (j l : Layer) (k : ℕ) → one_instance (body_sharing p.body) n j l ≡ true → V (End n j k) ≡ true → some_member p V (End n l k) ≡ true
    end-from n j l k e v =
        member-from (End n j k) (End n l k) (and_from (n == n) (one_instance (body_sharing p.body) n j l && k == k) (eq-eqb n n refl)
        (and_from (one_instance (body_sharing p.body) n j l) (k == k) e (eq-eqb k k refl))) v

    pub status-from : (n : ℕ) (j l : Layer) → key (body_sharing p.body) n j ≡ key (body_sharing p.body) n l → V (StatusOf n j) ≡ true
        → some_member p V (StatusOf n l) ≡ true
    status-from n j l e v =
        member-from (StatusOf n j) (StatusOf n l) (and_from (n == n) (one_status (body_sharing p.body) n j l) (eq-eqb n n refl)
        (eq-eqb (key (body_sharing p.body) n j) (key (body_sharing p.body) n l) e)) v

    -- a member's value is that of all members, where it is true if one of them is
    pub settled-by : (u : Wire) → (some_member p V u ≡ true → V u ≡ true) → some_member p V u ≡ V u
    settled-by u h = same-tests (some_member p V u) (V u) h (λ v. member-from u u (one-wire-self (body_sharing p.body) u) v)

    -- instances that are one have one value
    pub go-same : (n : ℕ) (j l : Layer) → one_instance (body_sharing p.body) n j l ≡ true → some_member p V (Go n j) ≡ some_member p V (Go n l)
    go-same n j l e =
        let K = body_sharing p.body in
        same-tests (some_member p V (Go n j)) (some_member p V (Go n l))
        (λ h. let r = go-some n j h in go-from n r.0 l (one-instance-both K n r.0 j l r.1 e) r.2)
        (λ h. let r = go-some n l h in go-from n r.0 j (one-instance-both K n r.0 l j r.1 (one-instance-back K n j l e)) r.2)

    pub end-same : (n : ℕ) (j l : Layer) (k : ℕ) → one_instance (body_sharing p.body) n j l ≡ true
        → some_member p V (End n j k) ≡ some_member p V (End n l k)
    end-same n j l k e =
        let K = body_sharing p.body in
        same-tests (some_member p V (End n j k)) (some_member p V (End n l k))
        (λ h. let r = end-some n j k h in end-from n r.0 l k (one-instance-both K n r.0 j l r.1 e) r.2)
        (λ h. let r = end-some n l k h in end-from n r.0 j k (one-instance-both K n r.0 l j r.1 (one-instance-back K n j l e)) r.2)

    pub status-same : (n : ℕ) (j l : Layer) → key (body_sharing p.body) n j ≡ key (body_sharing p.body) n l
        → some_member p V (StatusOf n j) ≡ some_member p V (StatusOf n l)
    status-same n j l e =
        same-tests (some_member p V (StatusOf n j)) (some_member p V (StatusOf n l))
        (λ h. let r = status-some n j h in status-from n r.0 l (r.1 ∙ e) r.2)
        (λ h. let r = status-some n l h in status-from n r.0 j (r.1 ∙ sym e) r.2)

    -- what is resumed, and an outgoing signal, is one by itself
    pub go-alone : (n : ℕ) → some_member p V (Go n Resumed) ≡ V (Go n Resumed)
    go-alone n = settled-by (Go n Resumed) (λ h. let r = go-some n Resumed h in
        subst (λ j. V (Go n j) ≡ true) (one-resumed (body_sharing p.body) n r.0 r.1) r.2)

    pub end-alone : (n k : ℕ) → some_member p V (End n Resumed k) ≡ V (End n Resumed k)
    end-alone n k = settled-by (End n Resumed k) (λ h. let r = end-some n Resumed k h in
        subst (λ j. V (End n j k) ≡ true) (one-resumed (body_sharing p.body) n r.0 r.1) r.2)

    pub out-alone : (s : ℕ) → some_member p V (Out s) ≡ V (Out s)
    out-alone s = settled-by (Out s) (out-some s)
