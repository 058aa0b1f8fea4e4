-- What groups say of the gates that they are of: which stand one behind another, and how each belongs.
use Rattle.std.proofs.Common.{◌≡◌, ℕ, suc, ◌+◌, ◌<◌, Bool, true, false, ◌==◌, List, [], ◌∷◌, length, get_or}
use Rattle.std.proofs.Common.{refl, sym, ap, ◌∙◌, subst, arith}
use Rattle.std.specs.Prelude.{if◌then◌else◌}
use Rattle.std.proofs.lemmas.Bool.{eqb-true}
use Rattle.net_ir.specs.declared.netlist.Gate.{Gate}
use Rattle.net_expressions.proofs.Exports.{any_gate}
use Rattle.csub_guard_blocks.specs.Blocks.{Member, Group, Single, Run, in_run, in_front, groups}
use Rattle.csub_guard_blocks.specs.Owners.{Owner, Free, Inner, Outer}

-- how a gate of a head belongs, which something beside uses or not
abbrev pub owner_with : ℕ → Bool → Owner
owner_with h false = Inner h
owner_with h true = Outer h

-- the gates and owners of a netlist, by place
module _ (gate : ℕ → Gate) (owner : ℕ → Owner) where
  -- members are the gates of head h from place k on
  abbrev pub AreMembers : ℕ → ℕ → List Member → Type 0
  AreMembers h k [] = Unit {0}
  AreMembers h k (m ∷ ms) = (m.place ≡ k) × (m.gate ≡ gate k) × (owner k ≡ owner_with h m.shown) × AreMembers h (k + 1) ms

  -- groups are those of the gates from place k on
  abbrev pub AreGroups : ℕ → List Group → Type 0
  AreGroups k [] = Unit {0}
  AreGroups k (Single j g ∷ gs) = (j ≡ k) × (g ≡ gate k) × (owner k ≡ Free) × AreGroups (k + 1) gs
  AreGroups k (Run h ms ∷ gs) = (0 < length ms) × AreMembers h k ms × AreGroups (k + length ms) gs

  -- a gate of a head in front of groups
  front-run : (h k : ℕ) (b : Bool) (g : Gate) (gs : List Group) → g ≡ gate k → owner k ≡ owner_with h b → AreGroups (k + 1) gs
      → AreGroups k (in_run h (record { place = k; gate = g; shown = b }) gs)
  front-run h k b g [] eg eo are = (omega arith, (refl, eg, eo, tt), tt)
  front-run h k b g (Single j x ∷ gs) eg eo are = (omega arith, (refl, eg, eo, tt), are)
  front-run h k b g (Run i ms ∷ gs) eg eo are = by (h == i) refl
    where
      m : Member
      m = record { place = k; gate = g; shown = b }

      by : (c : Bool) → (h == i) ≡ c → AreGroups k (in_run h m (Run i ms ∷ gs))
      by false e = subst (λ c. AreGroups k (if c then Run i (m ∷ ms) ∷ gs else Run h (m ∷ []) ∷ Run i ms ∷ gs)) (sym e)
          (omega arith, (refl, eg, eo, tt), are)
      by true e =
          let same : h ≡ i = eqb-true h i e in
          let s : k + 1 + length ms ≡ k + suc (length ms) = omega arith in
          subst (λ c. AreGroups k (if c then Run i (m ∷ ms) ∷ gs else Run h (m ∷ []) ∷ Run i ms ∷ gs)) (sym e)
          (omega arith, (refl, eg, eo ∙ ap (λ j. owner_with j b) same, are.1), subst (λ j. AreGroups j gs) s are.2)

  front : (k : ℕ) (g : Gate) (o : Owner) (gs : List Group) → g ≡ gate k → o ≡ owner k → AreGroups (k + 1) gs → AreGroups k (in_front k g o gs)
  front k g Free gs eg eo are = (refl, eg, sym eo, are)
  front k g (Inner h) gs eg eo are = front-run h k false g gs eg (sym eo) are
  front k g (Outer h) gs eg eo are = front-run h k true g gs eg (sym eo) are

  pub groups-are : (k : ℕ) (gates : List Gate) (owners : List Owner) → length owners ≡ length gates
      → ((i : ℕ) → i < length gates → get_or gates i any_gate ≡ gate (k + i))
      → ((i : ℕ) → i < length gates → get_or owners i Free ≡ owner (k + i))
      → AreGroups k (groups k gates owners)
  groups-are k [] [] wide same own = tt
  groups-are k [] (o ∷ owners) wide same own = tt
  groups-are k (g ∷ gates) [] wide same own = absurd (omega (arith, wide))
  groups-are k (g ∷ gates) (o ∷ owners) wide same own =
      let z : k + 0 ≡ k = omega arith in
      front k g o (groups (k + 1) gates owners) (same 0 (omega arith) ∙ ap gate z) (own 0 (omega arith) ∙ ap owner z)
      (groups-are (k + 1) gates owners (omega (arith, wide))
      (λ i low. let s : k + suc i ≡ k + 1 + i = omega arith in same (suc i) (omega (arith, low)) ∙ ap gate s)
      (λ i low. let s : k + suc i ≡ k + 1 + i = omega arith in own (suc i) (omega (arith, low)) ∙ ap owner s))

pub groups-all : (gates : List Gate) (owners : List Owner) → length owners ≡ length gates
    → AreGroups (λ k. get_or gates k any_gate) (λ k. get_or owners k Free) 0 (groups 0 gates owners)
groups-all gates owners wide = groups-are (λ k. get_or gates k any_gate) (λ k. get_or owners k Free) 0 gates owners wide
    (λ i low. let z : i ≡ 0 + i = omega arith in ap (λ j. get_or gates j any_gate) z)
    (λ i low. let z : i ≡ 0 + i = omega arith in ap (λ j. get_or owners j Free) z)

-- how many gates groups are of
abbrev pub group_count : Group → ℕ
group_count (Single k g) = 1
group_count (Run h ms) = length ms

abbrev pub gate_count : List Group → ℕ
gate_count [] = 0
gate_count (x ∷ gs) = group_count x + gate_count gs

count-run : (h : ℕ) (m : Member) (gs : List Group) → gate_count (in_run h m gs) ≡ 1 + gate_count gs
count-run h m [] = refl
count-run h m (Single k g ∷ gs) = refl
count-run h m (Run i ms ∷ gs) = by (h == i) refl
  where
    by : (c : Bool) → (h == i) ≡ c → gate_count (in_run h m (Run i ms ∷ gs)) ≡ 1 + gate_count (Run i ms ∷ gs)
    by true e =
        let s : suc (length ms) + gate_count gs ≡ 1 + (length ms + gate_count gs) = omega arith in
        ap (λ c. gate_count (if c then Run i (m ∷ ms) ∷ gs else Run h (m ∷ []) ∷ Run i ms ∷ gs)) e ∙ s
    by false e = ap (λ c. gate_count (if c then Run i (m ∷ ms) ∷ gs else Run h (m ∷ []) ∷ Run i ms ∷ gs)) e

pub count-groups : (k : ℕ) (gates : List Gate) (owners : List Owner) → length owners ≡ length gates → gate_count (groups k gates owners) ≡ length gates
count-groups k [] [] wide = refl
count-groups k [] (o ∷ owners) wide = refl
count-groups k (g ∷ gates) [] wide = absurd (omega (arith, wide))
count-groups k (g ∷ gates) (o ∷ owners) wide = by (count-groups (k + 1) gates owners (omega (arith, wide))) o
  where
    by : gate_count (groups (k + 1) gates owners) ≡ length gates → (o : Owner) → gate_count (in_front k g o (groups (k + 1) gates owners)) ≡ suc (length gates)
    by rest Free = omega (arith, rest)
    by rest (Inner h) = omega (arith, rest, count-run h (record { place = k; gate = g; shown = false }) (groups (k + 1) gates owners))
    by rest (Outer h) = omega (arith, rest, count-run h (record { place = k; gate = g; shown = true }) (groups (k + 1) gates owners))
