-- The least members of shared instances, instance by instance: an instance is one with the one before it, or it is the
-- first of its shared instance.
use Rattle.std.proofs.Common.{◌≡◌, ℕ, ◌+◌, ◌-◌, ◌<◌, ◌≤◌, ◌==◌, ◌&&◌, true, false}
use Rattle.std.proofs.Common.{List, length, map, get_or, refl, sym, ap, ◌∙◌, subst, ⊎_elim, arith}
use Rattle.std.specs.Prelude.{All, Contains, nat_lt}
use Rattle.std.proofs.lemmas.Bool.{eq-eqb, eqb-true, false≢true, both_ways, and_from, and_parts, cases_lt, ltb-true, or_cases}
use Rattle.std.proofs.lemmas.List.{length-map, get_or_default}
use Rattle.base_types.specs.declared.indices.InstId.{InstId}
use Rattle.est_kernel.specs.Plain.{Program}
use Rattle.est_kernel.specs.Preorder.{statement_count}
use Rattle.est_kernel.specs.WellFormed.{IsKernel}
use Rattle.grc_graph.specs.declared.instances.Instance as stored
use Rattle.grc_graph.specs.Instances.{Instance, body_instances}
use Rattle.grc_graph.specs.Layers.{Layer, Resumed, Started}
use Rattle.grc_graph.specs.PlainInstances.{instance_of}
use Rattle.grc_graph.specs.Rows.{live_in, program_rows, row_at}
use Rattle.grc_graph.specs.WireTables.{IsNumberOf, comes_before, layer_before}
use Rattle.grc_graph.proofs.Exports.{body_ascending, first_instance, name_at, instance_live, live_instance, program_placed}
use Rattle.grc_share.specs.SharedInstances.{Sharing, body_sharing, one_instance}
use Rattle.grc_share.specs.LeastMembers.{IsLeastMember, RootIn, one_start, shared_of, starts_as}
use Rattle.grc_share.specs.SharedWires.{first_root, shared_layer}
use Rattle.grc_share.proofs.FirstRoots.{Rises, among_all, first_among, first_least, keys_up}
use Rattle.grc_share.proofs.RootKeys.{KeysRise, body_keys_rise}
use Rattle.grc_share.proofs.RowsLive.{program_gives}
use Rattle.grc_share.proofs.SharedNames.{first_key, one_instance-named}

-- ---- instances that are one

one_start-one : (K : Sharing) (n : ℕ) (l j : Layer) → one_start K l j ≡ true → one_instance K n l j ≡ true
one_start-one K n Resumed j h = absurd (false≢true h)
one_start-one K n (Started q) Resumed h = absurd (false≢true h)
one_start-one K n (Started q) (Started r) h = h

pub same_shared : (K : Sharing) (x y : Instance) → live_in (K.live x.path) x.layer ≡ true → starts_as K x y ≡ true → shared_of K x ≡ shared_of K y
same_shared K x y v h =
    let a = and_parts (x.path == y.path) (one_start K x.layer y.layer) h in
    let e = eqb-true x.path y.path a.0 in
    let l = one_instance-named K x.path x.layer y.layer v (one_start-one K x.path x.layer y.layer a.1) in
    (λ i. record { path = x.path; layer = l i }) ∙ (λ i. record { path = e i; layer = shared_layer K (e i) y.layer })

started_roots : (q r : ℕ) → Started q ≡ Started r → q ≡ r
started_roots q r e = cc

-- instances in order: their statements rise, and at one statement their layers do
paths-rise : (x y : Instance) → comes_before x y ≡ true → x.path ≤ y.path
paths-rise x y h =
    ⊎_elim (λ e. omega (arith, ltb-true x.path y.path e))
    (λ e. omega (arith, eqb-true x.path y.path (and_parts (x.path == y.path) (layer_before x.layer y.layer) e).0))
    (or_cases (nat_lt x.path y.path) (x.path == y.path && layer_before x.layer y.layer) h)

layers-rise : (x y : Instance) → x.path ≡ y.path → comes_before x y ≡ true → layer_before x.layer y.layer ≡ true
layers-rise x y p h =
    ⊎_elim (λ e. absurd (omega (arith, ltb-true x.path y.path e, p))) (λ e. (and_parts (x.path == y.path) (layer_before x.layer y.layer) e).1)
    (or_cases (nat_lt x.path y.path) (x.path == y.path && layer_before x.layer y.layer) h)

-- what stands between two starts of one statement
record Between (n s r : ℕ) (y : Instance) : Type 0 where
  path : y.path ≡ n
  root : ℕ
  layer : y.layer ≡ Started root
  from : s < root
  below : root < r

between : (n s r : ℕ) (y : Instance) → comes_before (record { path = n; layer = Started s }) y ≡ true
    → comes_before y (record { path = n; layer = Started r }) ≡ true → Between n s r y
between n s r y h g =
    by y.layer refl (layers-rise (record { path = n; layer = Started s }) y (sym path) h) (layers-rise y (record { path = n; layer = Started r }) path g)
  where
    path : y.path ≡ n
    path = omega (arith, paths-rise (record { path = n; layer = Started s }) y h, paths-rise y (record { path = n; layer = Started r }) g)

    by : (l : Layer) → y.layer ≡ l → layer_before (Started s) y.layer ≡ true → layer_before y.layer (Started r) ≡ true → Between n s r y
    by Resumed e a b = absurd (false≢true (sym (ap (layer_before (Started s)) e) ∙ a))
    by (Started q) e a b = record {
      path = path;
      root = q;
      layer = e;
      from = ltb-true s q (sym (ap (layer_before (Started s)) e) ∙ a);
      below = ltb-true q r (sym (ap (λ l. layer_before l (Started r)) e) ∙ b);
    }

-- ---- what is known of a live instance

record Lives (p : Program) (n : ℕ) (l : Layer) : Type 0 where
  within : n < statement_count p.body
  live : live_in ((body_sharing p.body).live n) l ≡ true
  rises : Rises ((body_sharing p.body).live n).roots
  roots : All (λ r. r ≤ n) ((body_sharing p.body).live n).roots
  keys : KeysRise (body_sharing p.body).root 0 ((body_sharing p.body).resumed n) ((body_sharing p.body).live n).roots

module _ (p : Program) (kernel : IsKernel p.body) where
  abbrev K : Sharing
  K = body_sharing p.body

  row_live : (n : ℕ) → n < statement_count p.body → (row_at (program_rows p) n).live ≡ K.live n
  row_live n h = program_gives p kernel n (omega arith) (omega (arith, h))

  lives : (n : ℕ) (l : Layer) → Contains (body_instances p.body) (record { path = n; layer = l }) → Lives p n l
  lives n l h =
      let x = live_instance p n l h in
      let e = row_live n x.within in
      record {
        within = x.within;
        live = subst (λ a. live_in a l ≡ true) e x.live;
        rises = subst (λ a. Rises a.roots) e (program_placed p n x.within).roots.rises;
        roots = subst (λ a. All (λ r. r ≤ n) a.roots) e (program_placed p n x.within).roots.within;
        keys = body_keys_rise p.body n x.within;
      }

  there : (n : ℕ) (l : Layer) → n < statement_count p.body → live_in (K.live n) l ≡ true
      → Contains (body_instances p.body) (record { path = n; layer = l })
  there n l h v = instance_live p n l h (subst (λ a. live_in a l ≡ true) (sym (row_live n h)) v)

  module _ (insts : List stored.Instance) (names : map instance_of insts ≡ body_instances p.body) where
    abbrev at : ℕ → Instance
    at i = instance_of (get_or insts i first_instance)

    up : (i j : ℕ) → i < j → j < length insts → comes_before (at i) (at j) ≡ true
    up i j l h = body_ascending p.body insts names i j first_instance l h

    lives_at : (i : ℕ) → i < length insts → Lives p (at i).path (at i).layer
    lives_at i h =
        lives (at i).path (at i).layer
        (subst (λ xs. Contains xs (at i)) names (i, omega (arith, h, length-map insts instance_of), name_at insts i first_instance (at i) h))

    -- the number of a live instance
    record NumberOf (x : Instance) : Type 0 where
      number : ℕ
      low : number < length insts
      is : at number ≡ x

    find : (x : Instance) → Contains (body_instances p.body) x → NumberOf x
    find x h =
        let k = subst (λ xs. Contains xs x) (sym names) h in
        let low : k.0 < length insts = omega (arith, k.1, length-map insts instance_of) in
        record { number = k.0; low = low; is = sym (name_at insts k.0 first_instance x low) ∙ k.2 }

    -- where the one before is not one with it, it names its shared instance
    module _ (i : ℕ) (low : i < length insts) (new : (j : ℕ) → j + 1 ≡ i → starts_as K (at j) (at i) ≡ false) where
      abbrev n : ℕ
      n = (at i).path

      -- a start before it that is one with it
      none : (s r : ℕ) → (at i).layer ≡ Started r → live_in (K.live n) (Started s) ≡ true → s < r → K.root s ≡ K.root r → ⊥
      none s r e v l same =
          let here = lives_at i low in
          let j = find (record { path = n; layer = Started s }) (there n (Started s) here.within v) in
          ⊎_elim (λ b. before j b)
          (λ b. ⊎_elim (λ c. absurd (after j (up i j.number c j.low))) (λ c. absurd (equal j (let z : i ≡ j.number = omega (arith, b, c) in z)))
          (cases_lt i j.number)) (cases_lt j.number i)
        where
          x : at i ≡ record { path = n; layer = Started r }
          x = λ k. record { path = n; layer = e k }

          equal : (j : NumberOf (record { path = n; layer = Started s })) → i ≡ j.number → ⊥
          equal j z =
              let y : Started r ≡ Started s = sym e ∙ ap (λ k. (at k).layer) z ∙ ap (λ y. y.layer) j.is in
              omega (arith, started_roots r s y, l)

          after : (j : NumberOf (record { path = n; layer = Started s })) → comes_before (at i) (at j.number) ≡ true → ⊥
          after j h =
              let rise = layers-rise (at i) (at j.number) (sym (ap (λ y. y.path) j.is)) h in
              omega (arith, ltb-true r s ((λ k. layer_before (sym e k) (Started s)) ∙ (λ k. layer_before (at i).layer (sym j.is k).layer) ∙ rise), l)

          before : (j : NumberOf (record { path = n; layer = Started s })) → j.number < i → ⊥
          before j h =
              let m = i - 1 in
              let last : m + 1 ≡ i = omega (arith, h) in
              both_ways (starts_as K (at m) (at i)) (new m last)
              (⊎_elim (λ b. inside j m b (omega (arith, h))) (λ b. beside j m (let z : j.number ≡ m = omega (arith, h, b) in z)) (cases_lt j.number m))
            where
              one : (y : Instance) (q : ℕ) → y.path ≡ n → y.layer ≡ Started q → K.root q ≡ K.root r → starts_as K y (at i) ≡ true
              one y q a b f =
                  and_from (y.path == n) (one_start K y.layer (at i).layer) (eq-eqb y.path n a)
                  ((λ k. one_start K (b k) (e k)) ∙ eq-eqb (K.root q) (K.root r) f)

              beside : (j : NumberOf (record { path = n; layer = Started s })) (m : ℕ) → j.number ≡ m → starts_as K (at m) (at i) ≡ true
              beside j m z =
                  let y : at m ≡ record { path = n; layer = Started s } = ap at (sym z) ∙ j.is in
                  one (at m) s (ap (λ y. y.path) y) (ap (λ y. y.layer) y) same

              inside : (j : NumberOf (record { path = n; layer = Started s })) (m : ℕ) → j.number < m → m < i → starts_as K (at m) (at i) ≡ true
              inside j m a b =
                  let first = (λ k. comes_before (sym j.is k) (at m)) ∙ up j.number m a (omega (arith, b, low)) in
                  let second = (λ k. comes_before (at m) (sym x k)) ∙ up m i b low in
                  let w = between n s r (at m) first second in
                  let here = lives_at i low in
                  let c = K.root in
                  let rs = (K.live n).roots in
                  let root = subst (λ k. live_in (K.live k) (Started w.root) ≡ true) w.path
                  (subst (λ l. live_in (K.live (at m).path) l ≡ true) w.layer (lives_at m (omega (arith, b, low))).live) in
                  let own = subst (λ l. live_in (K.live n) l ≡ true) e here.live in
                  let up1 = keys_up c 0 (K.resumed n) rs s w.root here.keys here.rises v root (omega (arith, w.from)) in
                  let up2 = keys_up c 0 (K.resumed n) rs w.root r here.keys here.rises root own (omega (arith, w.below)) in
                  one (at m) w.root w.path w.layer (omega (arith, up1, up2, same))

      pub own_least : shared_of K (at i) ≡ at i
      own_least = (λ k. record { path = n; layer = by (at i).layer refl k })
        where
          by : (l : Layer) → (at i).layer ≡ l → shared_layer K n l ≡ l
          by Resumed e = refl
          by (Started r) e =
              let here = lives_at i low in
              let own = subst (λ l. live_in (K.live n) l ≡ true) e here.live in
              let s = first_root K.root (K.live n).roots r in
              let le = first_least K.root (K.live n).roots r here.rises own in
              ⊎_elim (λ a. absurd (none s r e (first_among K.root (K.live n).roots r own) a (first_key K.root (K.live n).roots r)))
              (λ a. ap Started (let z : s ≡ r = omega (arith, a, le) in z)) (cases_lt s r)

    -- the root of a start is a statement of the body
    pub root_in : (i : ℕ) → i < length insts → RootIn (statement_count p.body) (at i).layer
    root_in i h = by (at i).layer (lives_at i h).live
      where
        by : (l : Layer) → live_in (K.live (at i).path) l ≡ true → RootIn (statement_count p.body) l
        by Resumed v = tt
        by (Started r) v =
            let x = lives_at i h in
            omega (arith, x.within, among_all (λ q. q ≤ (at i).path) r (K.live (at i).path).roots x.roots v)

    named_at : (i : ℕ) → i < length insts → IsNumberOf (map instance_of insts) i (at i)
    named_at i h = record { within = omega (arith, h, length-map insts instance_of); same = λ d. name_at insts i first_instance d h }

    least_of : (i : ℕ) (k : InstId) → i < length insts → IsNumberOf (map instance_of insts) k.0 (shared_of K (at i)) → IsLeastMember K insts i k
    least_of i k h n x =
        subst (λ y. IsNumberOf (map instance_of insts) k.0 (shared_of K (instance_of y))) (get_or_default insts i first_instance x h) n

    -- the same, of what is read
    pub root_of : (i : ℕ) (y : stored.Instance) (count : ℕ) → count ≡ statement_count p.body → y ≡ get_or insts i y → i < length insts
        → RootIn count (instance_of y).layer
    root_of i y count n e h =
        subst (λ k. RootIn k (instance_of y).layer) (sym n)
        (subst (λ z. RootIn (statement_count p.body) (instance_of z).layer) (sym (e ∙ get_or_default insts i y first_instance h)) (root_in i h))

    read_at : (i : ℕ) (y : stored.Instance) → y ≡ get_or insts i y → i < length insts → instance_of y ≡ at i
    read_at i y e h = ap instance_of (e ∙ get_or_default insts i y first_instance h)

    -- an instance that is one with the one before it
    pub least_same : (i j : ℕ) (y z : stored.Instance) (k : InstId) → j + 1 ≡ i → i < length insts → y ≡ get_or insts j y → z ≡ get_or insts i z
        → starts_as K (instance_of y) (instance_of z) ≡ true → IsLeastMember K insts j k → IsLeastMember K insts i k
    least_same i j y z k n h a b e least =
        let low : j < length insts = omega (arith, n, h) in
        let one = (λ t. starts_as K (sym (read_at j y a low) t) (sym (read_at i z b h) t)) ∙ e in
        least_of i k h (subst (IsNumberOf (map instance_of insts) k.0) (same_shared K (at j) (at i) (lives_at j low).live one) (least first_instance))

    -- one that is not one with the one before it
    least_new : (i : ℕ) → i < length insts → ((j : ℕ) → j + 1 ≡ i → starts_as K (at j) (at i) ≡ false) → IsLeastMember K insts i (record { 0 = i })
    least_new i h new =
        least_of i (record { 0 = i }) h (subst (IsNumberOf (map instance_of insts) i) (sym (own_least i h new)) (named_at i h))

    pub least_other : (i j : ℕ) (y z : stored.Instance) → j + 1 ≡ i → i < length insts → y ≡ get_or insts j y → z ≡ get_or insts i z
        → starts_as K (instance_of y) (instance_of z) ≡ false → IsLeastMember K insts i (record { 0 = i })
    least_other i j y z n h a b e = least_new i h (λ m q.
        let same : m ≡ j = omega (arith, n, q) in
        (λ t. starts_as K (at (same t)) (at i)) ∙ (λ t. starts_as K (sym (read_at j y a (omega (arith, n, h))) t) (sym (read_at i z b h) t)) ∙ e)

    pub least_first : (i : ℕ) → i ≤ 0 → i < length insts → IsLeastMember K insts i (record { 0 = i })
    least_first i z h = least_new i h (λ m q. absurd (omega (arith, z, q)))
