-- Groups of gates, and the text of a block.
use Rattle.std.proofs.Common.{◌≡◌, ℕ, zero, suc, ◌+◌, ◌-◌, ◌<◌, ◌≤◌, Bool, true, false, ◌==◌, ◌||◌, List, [], ◌∷◌, ◌++◌, length, map, take, drop, get_or}
use Rattle.std.proofs.Common.{Some, None}
use Rattle.std.proofs.Common.{refl, sym, ap, ◌∙◌, arith, append_assoc}
use Rattle.std.specs.Prelude.{flat_map, filter, ◌≢◌, if◌then◌else◌}
use Rattle.std.specs.List.{list_any}
use Rattle.std.proofs.lemmas.Bool.{eqb-true, eq-eqb}
use Rattle.std.proofs.lemmas.List.{append-nil, map-append, get_or-map, get_or_default, drop_more, drop-drop, length-drop, length-take-le, get_or-drop}
use Rattle.std.proofs.lemmas.List.{get_or-take}
use Rattle.std.proofs.lemmas.List.Concat.{flat_map-append}
use Rattle.std.proofs.lemmas.List.Elements.{filter-append}
use Rattle.std.proofs.lemmas.List.Folds.{list_any-append}
use Rattle.net_ir.specs.declared.netlist.Gate.{Gate}
use Rattle.net_ir.specs.declared.netlist.Op.TheVariants as codes
use Rattle.csub_guard_blocks.specs.declared.owning.Owner.{Owner as OwnerCode}
use Rattle.csub_guard_blocks.specs.declared.owning.Owner.TheVariants as owner_codes
use Rattle.csub_guard_blocks.specs.Usages.{owner_in}
use Rattle.csub_text.specs.Trees.{Assign}
use Rattle.csub_text.specs.Written.{assign_line}
use Rattle.csub_guard_blocks.specs.Owners.{Owner, Free, Inner, Outer}
use Rattle.csub_guard_blocks.specs.Blocks.{Member, Group, Single, Run, in_run, in_front, groups, head_of, is_outer, members}
use Rattle.csub_guard_blocks.specs.Blocks.{second_text, else_line, end_line, zero_assign, members_between}

abbrev pub member : ℕ → Gate → Owner → Member
member k g o = record { place = k; gate = g; shown = is_outer o }

-- ---- a block grows

pub members-more : (j n : ℕ) (gates : List Gate) (owners : List Owner) (g : Gate) (o : Owner) → n < length gates → n < length owners
    → members j (take (n + 1) gates) (take (n + 1) owners)
    ≡ members j (take n gates) (take n owners) ++ member (j + n) (get_or gates n g) (get_or owners n o) ∷ []
members-more j n [] owners g o l m = absurd (omega (arith, l))
members-more j n (x ∷ gates) [] g o l m = absurd (omega (arith, m))
members-more j zero (x ∷ gates) (y ∷ owners) g o l m =
    let place : j ≡ j + 0 = omega arith in
    ap (λ k. member k x y ∷ []) place
members-more j (suc n) (x ∷ gates) (y ∷ owners) g o l m =
    let place : j + 1 + n ≡ j + suc n = omega arith in
    let step : suc n + 1 ≡ suc (n + 1) = omega arith in
    ap (λ q. members j (take q (x ∷ gates)) (take q (y ∷ owners))) step
    ∙ ap (λ rest. member j x y ∷ rest) (members-more (j + 1) n gates owners g o (omega (arith, l)) (omega (arith, m))
    ∙ ap (λ k. members (j + 1) (take n gates) (take n owners) ++ member k (get_or gates n g) (get_or owners n o) ∷ []) place)

-- ---- a run of gates of one head is a group

some-same : {X : Type 0} (a b : X) → Some a ≡ Some b → a ≡ b
some-same a b e = cc

in-front-of : (k h : ℕ) (g : Gate) (o : Owner) (rest : List Group) → head_of o ≡ Some h → in_front k g o rest ≡ in_run h (member k g o) rest
in-front-of k h g Free rest e = cc
in-front-of k h g (Inner i) rest e = ap (λ n. in_run n (member k g (Inner i)) rest) (some-same i h e)
in-front-of k h g (Outer i) rest e = ap (λ n. in_run n (member k g (Outer i)) rest) (some-same i h e)

-- groups that begin with one of this head
record Leads (h : ℕ) (gs : List Group) : Type 0 where
  members : List Member
  more : List Group
  is : gs ≡ Run h members ∷ more

leads-run : (h : ℕ) (m : Member) (gs : List Group) → Leads h (in_run h m gs)
leads-run h m [] = record { members = m ∷ []; more = []; is = refl }
leads-run h m (Single k g ∷ gs) = record { members = m ∷ []; more = Single k g ∷ gs; is = refl }
leads-run h m (Run i members ∷ gs) = by (h == i) refl
  where
    by : (b : Bool) → (h == i) ≡ b → Leads h (in_run h m (Run i members ∷ gs))
    by true e = record {
      members = m ∷ members;
      more = gs;
      is = ap (λ c. if c then Run i (m ∷ members) ∷ gs else Run h (m ∷ []) ∷ Run i members ∷ gs) e
          ∙ ap (λ n. Run n (m ∷ members) ∷ gs) (sym (eqb-true h i e));
    }
    by false e = record {
      members = m ∷ [];
      more = Run i members ∷ gs;
      is = ap (λ c. if c then Run i (m ∷ members) ∷ gs else Run h (m ∷ []) ∷ Run i members ∷ gs) e;
    }

-- a gate in front of groups of another head
apart : (h i : ℕ) (m : Member) (gs : List Group) → (h == i) ≡ false → Leads i gs → in_run h m gs ≡ Run h (m ∷ []) ∷ gs
apart h i m gs e l =
    ap (in_run h m) l.is ∙ ap (λ c. if c then Run i (m ∷ l.members) ∷ l.more else Run h (m ∷ []) ∷ Run i l.members ∷ l.more) e
    ∙ ap (λ rest. Run h (m ∷ []) ∷ rest) (sym l.is)

differ : (h i : ℕ) → (Some i ≡ Some h → ⊥) → (h == i) ≡ false
differ h i n = by (h == i) refl
  where
    by : (b : Bool) → (h == i) ≡ b → (h == i) ≡ false
    by true e = absurd (n (ap Some (sym (eqb-true h i e))))
    by false e = e

begins-run : (h k : ℕ) (m : Member) (gates : List Gate) (owners : List Owner) → length owners ≡ length gates
    → (0 < length owners → head_of (get_or owners 0 Free) ≢ Some h) → in_run h m (groups k gates owners) ≡ Run h (m ∷ []) ∷ groups k gates owners
begins-run h k m [] owners e n = refl
begins-run h k m (g ∷ gates) [] e n = refl
begins-run h k m (g ∷ gates) (Free ∷ owners) e n = refl
begins-run h k m (g ∷ gates) (Inner i ∷ owners) e n =
    apart h i m (in_run i (member k g (Inner i)) (groups (k + 1) gates owners)) (differ h i (n (omega arith)))
    (leads-run i (member k g (Inner i)) (groups (k + 1) gates owners))
begins-run h k m (g ∷ gates) (Outer i ∷ owners) e n =
    apart h i m (in_run i (member k g (Outer i)) (groups (k + 1) gates owners)) (differ h i (n (omega arith)))
    (leads-run i (member k g (Outer i)) (groups (k + 1) gates owners))

pub run-group : (h k n : ℕ) (gates : List Gate) (owners : List Owner) → length owners ≡ length gates → 0 < n → n ≤ length owners
    → ((i : ℕ) → i < n → head_of (get_or owners i Free) ≡ Some h) → (n < length owners → head_of (get_or owners n Free) ≢ Some h)
    → groups k gates owners ≡ Run h (members k (take n gates) (take n owners)) ∷ groups (k + n) (drop n gates) (drop n owners)
run-group h k zero gates owners e some l same other = absurd (omega (arith, some))
run-group h k (suc n) [] owners e some l same other = absurd (omega (arith, e, l))
run-group h k (suc n) (g ∷ gates) [] e some l same other = cc
run-group h k (suc zero) (g ∷ gates) (o ∷ owners) e some l same other =
    in-front-of k h g o (groups (k + 1) gates owners) (same 0 (omega arith))
    ∙ begins-run h (k + 1) (member k g o) gates owners (omega (arith, e)) (λ m. other (omega (arith, m)))
run-group h k (suc (suc n)) (g ∷ gates) (o ∷ owners) e some l same other =
    let place : k + 1 + suc n ≡ k + suc (suc n) = omega arith in
    let ms = members (k + 1) (take (suc n) gates) (take (suc n) owners) in
    let rest = groups (k + 1 + suc n) (drop (suc n) gates) (drop (suc n) owners) in
    in-front-of k h g o (groups (k + 1) gates owners) (same 0 (omega arith))
    ∙ ap (in_run h (member k g o)) (run-group h (k + 1) (suc n) gates owners (omega (arith, e)) (omega arith) (omega (arith, l))
    (λ i m. same (suc i) (omega (arith, m))) (λ m. other (omega (arith, m))))
    ∙ ap (λ c. if c then Run h (member k g o ∷ ms) ∷ rest else Run h (member k g o ∷ []) ∷ Run h ms ∷ rest) (eq-eqb h h refl)
    ∙ ap (λ q. Run h (member k g o ∷ ms) ∷ groups q (drop (suc n) gates) (drop (suc n) owners)) place

-- ---- the second half

-- the members that something else uses, of one in front of others
abbrev shown_first : Bool → Member → List Member → List Member
shown_first b m rest = if b then m ∷ rest else rest

pub second-none : (ms : List Member) → list_any (λ m. m.shown) ms ≡ false → second_text (map zero_assign (filter (λ m. m.shown) ms)) ≡ end_line
second-none [] e = refl
second-none (m ∷ ms) e = by m.shown e (second-none ms)
  where
    by : (b : Bool) → (b || list_any (λ m. m.shown) ms) ≡ false
        → (list_any (λ m. m.shown) ms ≡ false → second_text (map zero_assign (filter (λ m. m.shown) ms)) ≡ end_line)
        → second_text (map zero_assign (shown_first b m (filter (λ m. m.shown) ms))) ≡ end_line
    by true e rest = cc
    by false e rest = rest e

pub second-some : (ms : List Member) → list_any (λ m. m.shown) ms ≡ true → second_text (map zero_assign (filter (λ m. m.shown) ms))
    ≡ else_line ++ (flat_map assign_line (map zero_assign (filter (λ m. m.shown) ms)) ++ end_line)
second-some [] e = cc
second-some (m ∷ ms) e = by m.shown e (second-some ms)
  where
    by : (b : Bool) → (b || list_any (λ m. m.shown) ms) ≡ true
        → (list_any (λ m. m.shown) ms ≡ true → second_text (map zero_assign (filter (λ m. m.shown) ms))
        ≡ else_line ++ (flat_map assign_line (map zero_assign (filter (λ m. m.shown) ms)) ++ end_line))
        → second_text (map zero_assign (shown_first b m (filter (λ m. m.shown) ms)))
        ≡ else_line ++ (flat_map assign_line (map zero_assign (shown_first b m (filter (λ m. m.shown) ms))) ++ end_line)
    by true e rest = refl
    by false e rest = rest e

-- ---- the gates of a block from one place up to another

module _ (gates : List Gate) (owners : List Owner) (begin : ℕ) where
  pub between-none : members_between gates owners begin begin ≡ []
  between-none =
      let none : begin - begin ≡ 0 = omega arith in
      ap (λ n. members begin (take n (drop begin gates)) (take n (drop begin owners))) none

  pub between-more : (k : ℕ) (g : Gate) → begin ≤ k → k < length gates → length owners ≡ length gates → g ≡ get_or gates k g
      → members_between gates owners begin (k + 1) ≡ members_between gates owners begin k ++ member k g (get_or owners k Free) ∷ []
  between-more k g b l e gate =
      let n : ℕ = k - begin in
      let step : k + 1 - begin ≡ n + 1 = omega (arith, b) in
      let place : begin + n ≡ k = omega (arith, b) in
      let some_gates = length-drop begin gates in
      let some_owners = length-drop begin owners in
      let there : get_or (drop begin gates) n g ≡ g = get_or-drop begin gates n g ∙ ap (λ i. get_or gates i g) place ∙ sym gate in
      let whose : get_or (drop begin owners) n Free ≡ get_or owners k Free = get_or-drop begin owners n Free ∙ ap (λ i. get_or owners i Free) place in
      ap (λ m. members begin (take m (drop begin gates)) (take m (drop begin owners))) step
      ∙ members-more begin n (drop begin gates) (drop begin owners) g Free (omega (arith, l, b, some_gates)) (omega (arith, l, b, e, some_owners))
      ∙ ap (λ q. members_between gates owners begin k ++ member q (get_or (drop begin gates) n g) (get_or (drop begin owners) n Free) ∷ []) place
      ∙ ap (λ x. members_between gates owners begin k ++ member k x (get_or (drop begin owners) n Free) ∷ []) there
      ∙ ap (λ y. members_between gates owners begin k ++ member k g y ∷ []) whose

  -- a member of it
  pub between-holds : (k end : ℕ) → begin ≤ k → k < end → end ≤ length gates → length owners ≡ length gates
      → is_outer (get_or owners k Free) ≡ true → list_any (λ m. m.shown) (members_between gates owners begin end) ≡ true
  between-holds k end b l e same outer =
      let n : ℕ = k - begin in
      let count : ℕ = end - begin in
      let place : begin + n ≡ k = omega (arith, b) in
      let some_gates = length-drop begin gates in
      let some_owners = length-drop begin owners in
      held begin n (take count (drop begin gates)) (take count (drop begin owners)) (get_or owners k Free)
      (omega (arith, length-take-le count (drop begin gates) (omega (arith, some_gates, e)), b, l))
      (omega (arith, length-take-le count (drop begin owners) (omega (arith, some_owners, e, same)), b, l))
      (get_or-take count (drop begin owners) n Free (omega (arith, b, l)) ∙ get_or-drop begin owners n Free ∙ ap (λ i. get_or owners i Free) place) outer
    where
      held : (j n : ℕ) (gs : List Gate) (os : List Owner) (o : Owner) → n < length gs → n < length os → get_or os n Free ≡ o → is_outer o ≡ true
          → list_any (λ m. m.shown) (members j gs os) ≡ true
      held j n [] os o l m at outer = absurd (omega (arith, l))
      held j n (x ∷ gs) [] o l m at outer = absurd (omega (arith, m))
      held j zero (x ∷ gs) (y ∷ os) o l m at outer =
          ap (λ b. b || list_any (λ m. m.shown) (members (j + 1) gs os)) (ap is_outer at ∙ outer)
      held j (suc n) (x ∷ gs) (y ∷ os) o l m at outer =
          or-later (is_outer y) (held (j + 1) n gs os o (omega (arith, l)) (omega (arith, m)) at outer)
        where
          or-later : (b : Bool) {c : Bool} → c ≡ true → (b || c) ≡ true
          or-later true e = refl
          or-later false e = e

-- ---- lines of a block

-- the line of one thing more
pub lines-more : {X : Type 0} (line : Assign → List ℕ) (made : X → Assign) (old : List ℕ) (xs ys : List X) (x : X) (text new : List ℕ)
    → ys ≡ xs ++ x ∷ [] → text ≡ old ++ flat_map line (map made xs) → new ≡ text ++ line (made x) → new ≡ old ++ flat_map line (map made ys)
lines-more line made old xs ys x text new is so_far here =
    here ∙ ap (λ t. t ++ line (made x)) so_far ∙ append_assoc old (flat_map line (map made xs)) (line (made x))
    ∙ ap (λ t. old ++ (flat_map line (map made xs) ++ t)) (sym (append-nil (line (made x))))
    ∙ ap (λ t. old ++ t) (sym (flat_map-append line (map made xs) (made x ∷ [])))
    ∙ ap (λ zs. old ++ flat_map line zs) (sym (map-append made xs (x ∷ [])) ∙ ap (map made) (sym is))

-- the members that something else uses, of one more
pub shown-more : (xs ys : List Member) (m : Member) → ys ≡ xs ++ m ∷ [] → m.shown ≡ true → filter (λ m. m.shown) ys ≡ filter (λ m. m.shown) xs ++ m ∷ []
shown-more xs ys m is e = ap (filter (λ m. m.shown)) is ∙ filter-append (λ m. m.shown) xs (m ∷ [])
    ∙ ap (λ b. filter (λ m. m.shown) xs ++ (if b then m ∷ [] else [])) e

pub hidden-more : (xs ys : List Member) (m : Member) → ys ≡ xs ++ m ∷ [] → m.shown ≡ false → filter (λ m. m.shown) ys ≡ filter (λ m. m.shown) xs
hidden-more xs ys m is e = ap (filter (λ m. m.shown)) is ∙ filter-append (λ m. m.shown) xs (m ∷ [])
    ∙ ap (λ b. filter (λ m. m.shown) xs ++ (if b then m ∷ [] else [])) e ∙ append-nil (filter (λ m. m.shown) xs)

-- none of them more
pub none-more : (xs ys : List Member) (m : Member) → ys ≡ xs ++ m ∷ [] → m.shown ≡ false → list_any (λ m. m.shown) xs ≡ false
    → list_any (λ m. m.shown) ys ≡ false
none-more xs ys m is e none = ap (list_any (λ m. m.shown)) is ∙ list_any-append (λ m. m.shown) xs (m ∷ [])
    ∙ ap (λ b. b || list_any (λ m. m.shown) (m ∷ [])) none ∙ ap (λ b. b || false) e

-- ---- some gate of a place, and whose it is

abbrev pub some_gate : Gate
some_gate = record { op = codes.Const false; wire = None }

pub gate-here : (gates : List Gate) (k : ℕ) → k < length gates → get_or gates k some_gate ≡ get_or gates k (get_or gates k some_gate)
gate-here gates k l = get_or_default gates k some_gate (get_or gates k some_gate) l

pub owner-here : (owners : List OwnerCode) (k : ℕ) → k < length owners → get_or (map owner_in owners) k Free ≡ owner_in (get_or owners k owner_codes.Free)
owner-here owners k l = get_or-map owner_in owners k owner_codes.Free Free l

-- ---- the groups from a place on

head-free : (o : Owner) → head_of o ≡ None → o ≡ Free
head-free Free e = refl
head-free (Inner h) e = cc
head-free (Outer h) e = cc

module _ (gates : List Gate) (owners : List Owner) (same : length owners ≡ length gates) where
  -- of a gate of no head
  pub group-one : (k : ℕ) (g : Gate) → k < length gates → g ≡ get_or gates k g → head_of (get_or owners k Free) ≡ None
      → groups k (drop k gates) (drop k owners) ≡ Single k g ∷ groups (k + 1) (drop (k + 1) gates) (drop (k + 1) owners)
  group-one k g l here none =
      let free : get_or owners k Free ≡ Free = head-free (get_or owners k Free) none in
      ap (λ gs. groups k gs (drop k owners)) (drop_more gates k g l ∙ ap (λ x. x ∷ drop (k + 1) gates) (sym here))
      ∙ ap (groups k (g ∷ drop (k + 1) gates)) (drop_more owners k Free (omega (arith, l, same)) ∙ ap (λ x. x ∷ drop (k + 1) owners) free)

  -- of gates of a head that stand one behind another
  pub group-run : (k end h : ℕ) → k < end → end ≤ length owners → ((i : ℕ) → k ≤ i → i < end → head_of (get_or owners i Free) ≡ Some h)
      → (end < length owners → head_of (get_or owners end Free) ≢ Some h)
      → groups k (drop k gates) (drop k owners) ≡ Run h (members_between gates owners k end) ∷ groups end (drop end gates) (drop end owners)
  group-run k end h l within alike other =
      let n : ℕ = end - k in
      let place : k + n ≡ end = omega (arith, l) in
      let some_gates = length-drop k gates in
      let some_owners = length-drop k owners in
      let head-at : (i : ℕ) → head_of (get_or (drop k owners) i Free) ≡ head_of (get_or owners (k + i) Free) = λ i. ap head_of (get_or-drop k owners i Free) in
      run-group h k n (drop k gates) (drop k owners) (omega (arith, some_gates, some_owners, same)) (omega (arith, l)) (omega (arith, some_owners, within))
      (λ i m. head-at i ∙ alike (k + i) (omega arith) (omega (arith, m, l)))
      (λ m e. other (omega (arith, m, some_owners, l)) (ap (λ q. head_of (get_or owners q Free)) (sym place) ∙ sym (head-at n) ∙ e))
      ∙ ap (λ gs. Run h (members_between gates owners k end) ∷ groups (k + n) gs (drop n (drop k owners))) (drop-drop n k gates)
      ∙ ap (λ os. Run h (members_between gates owners k end) ∷ groups (k + n) (drop (k + n) gates) os) (drop-drop n k owners)
      ∙ ap (λ q. Run h (members_between gates owners k end) ∷ groups q (drop q gates) (drop q owners)) place
