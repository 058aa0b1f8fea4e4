-- What the definition of owners says of a gate of a head: the head stands before it and belongs to none; a gate that is used
-- beside carries a wire of the region; and one that is not is read by gates of its head alone.
use Rattle.std.proofs.Common.{◌≡◌, ℕ, zero, suc, ◌+◌, ◌<◌, ◌⊎◌, inl, inr, Bool, true, false, ◌==◌, nat_lt, List, [], ◌∷◌, length, drop, get_or}
use Rattle.std.proofs.Common.{Option, Some, None, refl, sym, ap, ◌∙◌, subst, arith, ⊎_elim}
use Rattle.std.specs.Prelude.{if◌then◌else◌, ◌||◌}
use Rattle.std.specs.List.{list_any}
use Rattle.std.proofs.lemmas.Bool.{eq-eqb, eqb-true, ltb-true, lt-ltb}
use Rattle.std.proofs.lemmas.Option.{none-some, same_Some}
use Rattle.base_types.specs.declared.indices.NetId.{NetId}
use Rattle.base_types.specs.declared.indices.WireId.{WireId}
use Rattle.net_ir.specs.declared.netlist.Gate.{Gate}
use Rattle.net_ir.specs.declared.netlist.Op.{Op}
use Rattle.net_ir.specs.declared.netlist.Op.TheVariants as ops
use Rattle.net_ir.specs.Netlists.{Netlist, first_gate}
use Rattle.net_expressions.proofs.Exports.{any_gate}
use Rattle.csub_guard_blocks.specs.Blocks.{head_of}
use Rattle.csub_guard_blocks.specs.Owners.{Owner, Free, Inner, Outer, Usage, Unused, Within, Mixed, both, usage_by, with_operand, with_gate, usage_beside}
use Rattle.csub_guard_blocks.specs.Owners.{usage}
use Rattle.csub_guard_blocks.specs.Owners.{owner_by, behind, in_region, owner_of, owners_from, owners}

-- ---- what is used by gates of one head alone

-- used by nothing, or by gates of this head alone
abbrev pub AtMost : ℕ → Usage → Type 0
AtMost h u = (u ≡ Unused) ⊎ (u ≡ Within h)

within-is : (i h : ℕ) → Within i ≡ Within h → i ≡ h
within-is i h e = cc

mixed-not : (h : ℕ) → AtMost h Mixed → ⊥
mixed-not h (inl e) = cc
mixed-not h (inr e) = cc

both-most : (h : ℕ) (u v : Usage) → AtMost h (both u v) → AtMost h u × AtMost h v
both-most h Unused v m = (inl refl, m)
both-most h (Within i) Unused m = (m, inl refl)
both-most h (Within i) (Within j) m = by (i == j) refl
  where
    by : (b : Bool) → (i == j) ≡ b → AtMost h (Within i) × AtMost h (Within j)
    by true e =
        let same : both (Within i) (Within j) ≡ Within i = ap (λ c. if c then Within i else Mixed) e in
        let here = subst (AtMost h) same m in
        (here, subst (λ k. AtMost h (Within k)) (eqb-true i j e) here)
    by false e = absurd (mixed-not h (subst (AtMost h) (ap (λ c. if c then Within i else Mixed) e) m))
both-most h (Within i) Mixed m = absurd (mixed-not h m)
both-most h Mixed v m = absurd (mixed-not h m)

-- a gate that belongs so uses within the head
by-most : (h : ℕ) (o : Owner) → AtMost h (usage_by o) → head_of o ≡ Some h
by-most h Free m = absurd (mixed-not h m)
by-most h (Inner i) (inl e) = cc
by-most h (Inner i) (inr e) = ap Some (within-is i h e)
by-most h (Outer i) (inl e) = cc
by-most h (Outer i) (inr e) = ap Some (within-is i h e)

-- what an operator reads meets P
abbrev pub AllRead : (ℕ → Type 0) → Op → Type 0
AllRead P (ops.Const b) = Unit {0}
AllRead P (ops.Copy a) = P a.0
AllRead P (ops.Not a) = P a.0
AllRead P (ops.And a b) = P a.0 × P b.0
AllRead P (ops.Or a b) = P a.0 × P b.0

-- ---- the uses of a net by a gate, and by those behind it

operand-most : (h : ℕ) (o : Owner) (a : NetId) (n : ℕ) (u : Usage) → AtMost h (with_operand o a n u) → (n ≡ a.0 → head_of o ≡ Some h) × AtMost h u
operand-most h o a n u m = by (a.0 == n) refl
  where
    by : (b : Bool) → (a.0 == n) ≡ b → (n ≡ a.0 → head_of o ≡ Some h) × AtMost h u
    by true e =
        let parts = both-most h (usage_by o) u (subst (AtMost h) (ap (λ c. if c then both (usage_by o) u else u) e) m) in
        ((λ same. by-most h o parts.0), parts.1)
    by false e = (
      (λ same. absurd (no same)),
      subst (AtMost h) (ap (λ c. if c then both (usage_by o) u else u) e) m,
    )
      where
        no : n ≡ a.0 → ⊥
        no same = let t : (a.0 == n) ≡ true = eq-eqb a.0 n (sym same) in cc

gate-most : (h : ℕ) (o : Owner) (op : Op) (n : ℕ) (u : Usage) → AtMost h (with_gate o op n u)
    → AllRead (λ i. n ≡ i → head_of o ≡ Some h) op × AtMost h u
gate-most h o (ops.Const b) n u m = (tt, m)
gate-most h o (ops.Copy a) n u m = operand-most h o a n u m
gate-most h o (ops.Not a) n u m = operand-most h o a n u m
gate-most h o (ops.And a b) n u m =
    let first = operand-most h o a n (with_operand o b n u) m in
    let second = operand-most h o b n u first.1 in
    ((first.0, second.0), second.1)
gate-most h o (ops.Or a b) n u m =
    let first = operand-most h o a n (with_operand o b n u) m in
    let second = operand-most h o b n u first.1 in
    ((first.0, second.0), second.1)

-- a net that gates of one head alone use: each gate that reads it is one of these, and nothing else uses it
pub usage-most : (net : Netlist) (h n : ℕ) (gates : List Gate) (os : List Owner) → length os ≡ length gates → AtMost h (usage net gates os n)
    → ((k : ℕ) → k < length gates → AllRead (λ i. n ≡ i → head_of (get_or os k Free) ≡ Some h) (get_or gates k any_gate).op)
    × AtMost h (usage_beside net n)
usage-most net h n [] [] same m = ((λ k low. absurd (omega (arith, low))), m)
usage-most net h n [] (o ∷ os) same m = absurd (omega (arith, same))
usage-most net h n (g ∷ gates) [] same m = absurd (omega (arith, same))
usage-most net h n (g ∷ gates) (o ∷ os) same m =
    let here = gate-most h o g.op n (usage net gates os n) m in
    let rest = usage-most net h n gates os (omega (arith, same)) here.1 in
    (each here.0 rest.0, rest.1)
  where
    each : AllRead (λ i. n ≡ i → head_of o ≡ Some h) g.op
        → ((k : ℕ) → k < length gates → AllRead (λ i. n ≡ i → head_of (get_or os k Free) ≡ Some h) (get_or gates k any_gate).op)
        → (k : ℕ) → k < suc (length gates) → AllRead (λ i. n ≡ i → head_of (get_or (o ∷ os) k Free) ≡ Some h) (get_or (g ∷ gates) k any_gate).op
    each first others zero low = first
    each first others (suc k) low = others k (omega (arith, low))

-- what is no gate uses it not at all
pub beside-most : (net : Netlist) (h n : ℕ) → AtMost h (usage_beside net n) → usage_beside net n ≡ Unused
beside-most net h n m = by ((list_any (λ l. l.from.0 == n) net.latches || list_any (λ o. o.net.0 == n) net.outputs) || net.paused == n) refl
  where
    by : (b : Bool) → ((list_any (λ l. l.from.0 == n) net.latches || list_any (λ o. o.net.0 == n) net.outputs) || net.paused == n) ≡ b
        → usage_beside net n ≡ Unused
    by true e = absurd (mixed-not h (subst (AtMost h) (ap (λ c. if c then Mixed else Unused) e) m))
    by false e = ap (λ c. if c then Mixed else Unused) e

-- ---- owners by place

-- how the gates behind place k use the net of the gate there
abbrev pub usage_behind : Netlist → (ℕ → Option ℕ) → ℕ → Usage
usage_behind net region k =
    usage net (drop (k + 1) net.gates) (owners_from net region (k + 1) (drop (k + 1) net.gates)) (first_gate net + k)

pub length-owners : (net : Netlist) (region : ℕ → Option ℕ) (k : ℕ) (gates : List Gate) → length (owners_from net region k gates) ≡ length gates
length-owners net region k [] = refl
length-owners net region k (g ∷ gates) = ap suc (length-owners net region (k + 1) gates)

owner-from : (net : Netlist) (region : ℕ → Option ℕ) (n k : ℕ) (gates : List Gate) → k < length gates
    → get_or (owners_from net region n gates) k Free
    ≡ owner_of region (n + k) (get_or gates k any_gate).wire
    (usage net (drop (k + 1) gates) (owners_from net region (n + k + 1) (drop (k + 1) gates)) (first_gate net + (n + k)))
owner-from net region n k [] low = absurd (omega (arith, low))
owner-from net region n zero (g ∷ gates) low =
    let z : n ≡ n + 0 = omega arith in
    ap (λ m. owner_of region m g.wire (usage net gates (owners_from net region (m + 1) gates) (first_gate net + m))) z
owner-from net region n (suc k) (g ∷ gates) low =
    let s : n + 1 + k ≡ n + suc k = omega arith in
    let t : suc (k + 1) ≡ suc k + 1 = omega arith in
    owner-from net region (n + 1) k gates (omega (arith, low))
    ∙ ap (λ m. owner_of region m (get_or gates k any_gate).wire
    (usage net (drop (k + 1) gates) (owners_from net region (m + 1) (drop (k + 1) gates)) (first_gate net + m))) s
    ∙ ap (λ m. owner_of region (n + suc k) (get_or gates k any_gate).wire
    (usage net (drop m (g ∷ gates)) (owners_from net region (n + suc k + 1) (drop m (g ∷ gates))) (first_gate net + (n + suc k)))) t

pub owner-at : (net : Netlist) (region : ℕ → Option ℕ) (k : ℕ) → k < length net.gates
    → get_or (owners net region) k Free ≡ owner_of region k (get_or net.gates k any_gate).wire (usage_behind net region k)
owner-at net region k low =
    let z : 0 + k ≡ k = omega arith in
    owner-from net region 0 k net.gates low
    ∙ ap (λ m. owner_of region m (get_or net.gates k any_gate).wire
    (usage net (drop (k + 1) net.gates) (owners_from net region (m + 1) (drop (k + 1) net.gates)) (first_gate net + m))) z

-- ---- what an owner says

-- a gate of a head stands behind it
behind-head : (k i h : ℕ) (o : Owner) → head_of (behind k i o) ≡ Some h → (i < k) × (head_of o ≡ Some h)
behind-head k i h o e = by (nat_lt i k) refl
  where
    by : (b : Bool) → nat_lt i k ≡ b → (i < k) × (head_of o ≡ Some h)
    by true l = (ltb-true i k l, sym (ap (λ c. head_of (if c then o else Free)) l) ∙ e)
    by false l = absurd (none (sym (ap (λ c. head_of (if c then o else Free)) l) ∙ e))
      where
        none : None ≡ Some h → ⊥
        none q = cc

head-by : (i : ℕ) (u : Usage) → head_of (owner_by i u) ≡ Some i
head-by i Unused = refl
head-by i Mixed = refl
head-by i (Within j) = by (i == j) refl
  where
    by : (b : Bool) → (i == j) ≡ b → head_of (owner_by i (Within j)) ≡ Some i
    by true e = ap (λ c. head_of (if c then Inner i else Outer i)) e
    by false e = ap (λ c. head_of (if c then Inner i else Outer i)) e

some-is : (i h : ℕ) → Some i ≡ Some h → i ≡ h
some-is i h e = same_Some i h e

no-head : (h : ℕ) → None ≡ Some h → ⊥
no-head h e = none-some h e

-- a gate of a head stands behind the head's, and lies in its region, or is used by gates of it alone
pub owner-head : (region : ℕ → Option ℕ) (k : ℕ) (w : Option WireId) (u : Usage) (h : ℕ) → head_of (owner_of region k w u) ≡ Some h
    → (h < k) × ((u ≡ Within h) ⊎ (region k ≡ Some h))
owner-head region k None Unused h e = absurd (no-head h e)
owner-head region k None Mixed h e = absurd (no-head h e)
owner-head region k None (Within i) h e =
    let parts = behind-head k i h (Inner i) e in
    let same = some-is i h parts.1 in
    (subst (λ j. j < k) same parts.0, inl (ap Within same))
owner-head region k (Some v) u h e = by (region k) refl
  where
    by : (r : Option ℕ) → region k ≡ r → (h < k) × ((u ≡ Within h) ⊎ (region k ≡ Some h))
    by None q = absurd (no-head h (sym (ap (λ r. head_of (in_region k r u)) q) ∙ e))
    by (Some i) q =
        let parts = behind-head k i h (owner_by i u) (sym (ap (λ r. head_of (in_region k r u)) q) ∙ e) in
        let same = some-is i h (sym (head-by i u) ∙ parts.1) in
        (subst (λ j. j < k) same parts.0, inr (q ∙ ap Some same))

is-free : (o : Owner) (k i : ℕ) → (b : Bool) → nat_lt i k ≡ b → behind k i o ≡ (if b then o else Free)
is-free o k i b e = ap (λ c. if c then o else Free) e

-- one that is used beside carries a wire of the region
pub owner-outer : (region : ℕ → Option ℕ) (k : ℕ) (w : Option WireId) (u : Usage) (h : ℕ) → owner_of region k w u ≡ Outer h
    → (v : WireId) × ((w ≡ Some v) × (region k ≡ Some h))
owner-outer region k None Unused h e = cc
owner-outer region k None Mixed h e = cc
owner-outer region k None (Within i) h e = by (nat_lt i k) refl
  where
    by : (b : Bool) → nat_lt i k ≡ b → (v : WireId) × ((None ≡ Some v) × (region k ≡ Some h))
    by true l = absurd (no (sym (is-free (Inner i) k i true l) ∙ e))
      where
        no : Inner i ≡ Outer h → ⊥
        no q = cc
    by false l = absurd (no (sym (is-free (Inner i) k i false l) ∙ e))
      where
        no : Free ≡ Outer h → ⊥
        no q = cc
owner-outer region k (Some v) u h e =
    (v, (refl, ⊎_elim (λ w. absurd (within-inner w)) (λ r. r) (owner-head region k (Some v) u h (ap head_of e)).1))
  where
    within-inner : u ≡ Within h → ⊥
    within-inner w = by (region k) refl
      where
        by : (r : Option ℕ) → region k ≡ r → ⊥
        by None q = let f : Free ≡ Outer h = sym (ap (λ r. in_region k r u) q) ∙ e in cc
        by (Some i) q =
            let here : behind k i (owner_by i u) ≡ Outer h = sym (ap (λ r. in_region k r u) q) ∙ e in
            let head = behind-head k i h (owner_by i u) (ap head_of here) in
            let same = some-is i h (sym (head-by i u) ∙ head.1) in
            let inner : owner_by i u ≡ Inner i
            = ap (owner_by i) w ∙ ap (λ c. if c then Inner i else Outer i) (eq-eqb i h same) in
            let front : behind k i (owner_by i u) ≡ owner_by i u = is-free (owner_by i u) k i true (lt-ltb i k head.0) in
            let wrong : Inner i ≡ Outer h = sym inner ∙ sym front ∙ here in cc

-- and one that is not used beside is used by gates of its head alone
pub owner-inner : (region : ℕ → Option ℕ) (k : ℕ) (w : Option WireId) (u : Usage) (h : ℕ) → owner_of region k w u ≡ Inner h → AtMost h u
owner-inner region k None Unused h e = inl refl
owner-inner region k None Mixed h e = cc
owner-inner region k None (Within i) h e = inr (ap Within (some-is i h (behind-head k i h (Inner i) (ap head_of e)).1))
owner-inner region k (Some v) u h e = by (region k) refl
  where
    by : (r : Option ℕ) → region k ≡ r → AtMost h u
    by None q = absurd (no (sym (ap (λ r. in_region k r u) q) ∙ e))
      where
        no : Free ≡ Inner h → ⊥
        no f = cc
    by (Some i) q =
        let here : behind k i (owner_by i u) ≡ Inner h = sym (ap (λ r. in_region k r u) q) ∙ e in
        let head = behind-head k i h (owner_by i u) (ap head_of here) in
        let same = some-is i h (sym (head-by i u) ∙ head.1) in
        let front : behind k i (owner_by i u) ≡ owner_by i u = is-free (owner_by i u) k i true (lt-ltb i k head.0) in
        subst (λ j. AtMost j u) same (used u (sym front ∙ here ∙ ap Inner (sym same)))
      where
        used : (u : Usage) → owner_by i u ≡ Inner i → AtMost i u
        used Unused f = inl refl
        used Mixed f = cc
        used (Within j) f = also (i == j) refl
          where
            also : (b : Bool) → (i == j) ≡ b → AtMost i (Within j)
            also true t = inr (ap Within (sym (eqb-true i j t)))
            also false t = absurd (no (sym (ap (λ c. if c then Inner i else Outer i) t) ∙ f))
              where
                no : Outer i ≡ Inner i → ⊥
                no g = cc

-- ---- heads

-- every head is told by a region
module _ (net : Netlist) (region : ℕ → Option ℕ) where
  -- what is used by gates of a head alone is used by a gate of the head, whose region it is
  abbrev Told : ℕ → Type 0
  Told h = (k : ℕ) × ((k < length net.gates) × (region k ≡ Some h))

  by-told : (o : Owner) (u : Usage) (h : ℕ) → (head_of o ≡ Some h → Told h) → (u ≡ Within h → Told h) → both (usage_by o) u ≡ Within h → Told h
  by-told Free u h f g e = cc
  by-told (Inner i) Unused h f g e = f (ap Some (within-is i h e))
  by-told (Outer i) Unused h f g e = f (ap Some (within-is i h e))
  by-told (Inner i) Mixed h f g e = cc
  by-told (Outer i) Mixed h f g e = cc
  by-told (Inner i) (Within j) h f g e = two i j h f e
    where
      two : (i j h : ℕ) → (Some i ≡ Some h → Told h) → both (Within i) (Within j) ≡ Within h → Told h
      two i j h f e = by (i == j) refl
        where
          by : (b : Bool) → (i == j) ≡ b → Told h
          by true t = f (ap Some (within-is i h (sym (ap (λ c. if c then Within i else Mixed) t) ∙ e)))
          by false t = absurd (no (sym (ap (λ c. if c then Within i else Mixed) t) ∙ e))
            where
              no : Mixed ≡ Within h → ⊥
              no q = cc
  by-told (Outer i) (Within j) h f g e = two i j h f e
    where
      two : (i j h : ℕ) → (Some i ≡ Some h → Told h) → both (Within i) (Within j) ≡ Within h → Told h
      two i j h f e = by (i == j) refl
        where
          by : (b : Bool) → (i == j) ≡ b → Told h
          by true t = f (ap Some (within-is i h (sym (ap (λ c. if c then Within i else Mixed) t) ∙ e)))
          by false t = absurd (no (sym (ap (λ c. if c then Within i else Mixed) t) ∙ e))
            where
              no : Mixed ≡ Within h → ⊥
              no q = cc

  operand-told : (o : Owner) (a : NetId) (n : ℕ) (u : Usage) (h : ℕ) → (head_of o ≡ Some h → Told h) → (u ≡ Within h → Told h)
      → with_operand o a n u ≡ Within h → Told h
  operand-told o a n u h f g e = by (a.0 == n) refl
    where
      by : (b : Bool) → (a.0 == n) ≡ b → Told h
      by true t = by-told o u h f g (sym (ap (λ c. if c then both (usage_by o) u else u) t) ∙ e)
      by false t = g (sym (ap (λ c. if c then both (usage_by o) u else u) t) ∙ e)

  gate-told : (o : Owner) (op : Op) (n : ℕ) (u : Usage) (h : ℕ) → (head_of o ≡ Some h → Told h) → (u ≡ Within h → Told h)
      → with_gate o op n u ≡ Within h → Told h
  gate-told o (ops.Const b) n u h f g e = g e
  gate-told o (ops.Copy a) n u h f g e = operand-told o a n u h f g e
  gate-told o (ops.Not a) n u h f g e = operand-told o a n u h f g e
  gate-told o (ops.And a b) n u h f g e = operand-told o a n (with_operand o b n u) h f (operand-told o b n u h f g) e
  gate-told o (ops.Or a b) n u h f g e = operand-told o a n (with_operand o b n u) h f (operand-told o b n u h f g) e

  beside-not : (n h : ℕ) → usage_beside net n ≡ Within h → ⊥
  beside-not n h e = by ((list_any (λ l. l.from.0 == n) net.latches || list_any (λ o. o.net.0 == n) net.outputs) || net.paused == n) refl
    where
      by : (b : Bool) → ((list_any (λ l. l.from.0 == n) net.latches || list_any (λ o. o.net.0 == n) net.outputs) || net.paused == n) ≡ b → ⊥
      by true t = let q : Mixed ≡ Within h = sym (ap (λ c. if c then Mixed else Unused) t) ∙ e in cc
      by false t = let q : Unused ≡ Within h = sym (ap (λ c. if c then Mixed else Unused) t) ∙ e in cc

  -- the gates from place n on
  abbrev AllTold : ℕ → List Gate → Type 0
  AllTold n gates = ((k h : ℕ) → head_of (get_or (owners_from net region n gates) k Free) ≡ Some h → Told h)
      × ((i h : ℕ) → usage net gates (owners_from net region n gates) i ≡ Within h → Told h)

  pub heads-told : (n : ℕ) (gates : List Gate) → n + length gates ≡ length net.gates → AllTold n gates
  heads-told n [] all = ((λ k h e. absurd (no-head h e)), (λ i h e. absurd (beside-not i h e)))
  heads-told n (g ∷ gates) all = (here (heads-told (n + 1) gates (omega (arith, all))), used (heads-told (n + 1) gates (omega (arith, all))))
    where
      own : AllTold (n + 1) gates → (h : ℕ) → head_of (owner_of region n g.wire (usage net gates (owners_from net region (n + 1) gates) (first_gate net + n)))
          ≡ Some h → Told h
      own rest h e = ⊎_elim (λ w. rest.1 (first_gate net + n) h w) (λ r. (n, (omega (arith, all), r)))
          (owner-head region n g.wire (usage net gates (owners_from net region (n + 1) gates) (first_gate net + n)) h e).1

      here : AllTold (n + 1) gates → (k h : ℕ) → head_of (get_or (owners_from net region n (g ∷ gates)) k Free) ≡ Some h → Told h
      here rest zero h e = own rest h e
      here rest (suc k) h e = rest.0 k h e

      used : AllTold (n + 1) gates → (i h : ℕ) → usage net (g ∷ gates) (owners_from net region n (g ∷ gates)) i ≡ Within h → Told h
      used rest i h e = gate-told (owner_of region n g.wire (usage net gates (owners_from net region (n + 1) gates) (first_gate net + n))) g.op i
          (usage net gates (owners_from net region (n + 1) gates) i) h (own rest h) (rest.1 i h) e
