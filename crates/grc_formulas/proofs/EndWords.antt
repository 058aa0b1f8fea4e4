-- Whether an instance ends with a code of at most k, from its ends by number.
use Rattle.std.proofs.Common.{◌≡◌, ℕ, ◌+◌, ◌-◌, ◌<◌, ◌≤◌, zero, suc, Bool, true, false, not, ◌==◌, ◌&&◌, ◌||◌, nat_le, List, [], ◌∷◌, ◌++◌, length, map, take}
use Rattle.std.proofs.Common.{drop, slice_index_or, refl, sym, ap, ◌∙◌, subst, arith, append_assoc, length-append, inl, inr}
use Rattle.std.specs.Prelude.{All, Contains, if◌then◌else◌}
use Rattle.std.specs.List.{prefix_len, list_any}
use Rattle.std.proofs.lemmas.Bool.{cases_lt, cases_Bool, eq-eqb, le-leb, lt-leb, false≢true}
use Rattle.std.proofs.lemmas.List.{length-map, append-nil, map-append, get_or-map, get_or_append_left, get_or-append-add}
use Rattle.std.proofs.lemmas.List.Elements.{All-append, All-weaker, All-map, All-contains, Contains-append_cases}
use Rattle.std.proofs.lemmas.List.Sums.{prefix_len-drop_all}
use Rattle.std.proofs.Math.Seq.{take-append_seam, drop-append_seam}
use Rattle.base_types.specs.Codes.{upto}
use Rattle.est_kernel.specs.Plain.{program_of}
use Rattle.grc_graph.specs.declared.graph.Graph.{Graph}
use Rattle.grc_graph.specs.declared.wires.Wire.{Wire}
use Rattle.grc_graph.specs.declared.wires.Wire.TheVariants as wires
use Rattle.grc_graph.specs.Layers.{Resumed}
use Rattle.grc_graph.specs.PlainGraphs.{instance_at, instances_of, names_of, wire_of, wire_at}
use Rattle.grc_graph.specs.Readings.{Valuation}
use Rattle.grc_graph.specs.Wires as names
use Rattle.grc_graph.specs.Wires.{codes_below, listed, same_wire}
use Rattle.grc_graph.proofs.Exports.{below_only, listed-below, same_wire-back}
use Rattle.grc_formulas.specs.EndLists.{is_no_end_of}
use Rattle.grc_formulas.specs.Occasions.{FalseOffWires}
use Rattle.grc_formulas.specs.WordLaws.{any_from, is_end_upto}
use Rattle.grc_formulas.proofs.EndCodes.{Between, codes-from, codes-below, front-passes, front-stops, any-below, any-taken, upto-far}
use Rattle.grc_formulas.proofs.EndPlaces.{EndsAt, codes_at, end-among, ends-at}

some-such : (u : names.Wire) (ws : List names.Wire) → list_any (same_wire u) ws ≡ true → Contains ws u
some-such u [] h = absurd (false≢true h)
some-such u (w ∷ ws) h = elim (cases_Bool (same_wire u w)) [
  | inl here ↦ (zero, omega arith, same_wire-back u w here)
  | inr other ↦
      let r = some-such u ws (ap (λ b. b || list_any (same_wire u) ws) (sym other) ∙ h) in
      (suc r.0, omega (arith, r.1), r.2)
]

mapped : {X : Type 0} {Y : Type 0} (f : X → Y) (xs : List X) (y : Y) → Contains (map f xs) y → (x : X) × (Contains xs x) × (f x ≡ y)
mapped f [] y h = absurd (omega (arith, h.1))
mapped f (x ∷ xs) y h = elim (Contains-append_cases (f x ∷ []) (map f xs) y h) [
  | inl here ↦ let at : here.0 ≡ 0 = omega (arith, here.1) in (x, (zero, omega arith, refl), ap (λ n. slice_index_or (f x ∷ []) n y) (sym at) ∙ here.2)
  | inr there ↦ let r = mapped f xs y there in (r.0, (suc r.1.0, omega (arith, r.1.1), r.1.2), r.2)
]

-- what is no end of an instance is none with a code of at most k
not-upto : (i k : ℕ) (w : Wire) → is_no_end_of i w ≡ true → is_end_upto i k w ≡ false
not-upto i k (wires.Go j) h = refl
not-upto i k (wires.End j c) h = by (j.0 == i) h
  where
    by : (b : Bool) → not b ≡ true → (b && nat_le c k) ≡ false
    by true e = absurd (false≢true e)
    by false e = refl
not-upto i k (wires.Local j) h = refl
not-upto i k (wires.Out s) h = refl

-- one of a graph's instances, and a valuation that is false off its wires
pub record Setting (g : Graph) (V : Valuation) (i : ℕ) : Type 0 where
  pub low : i < length (instances_of g)
  pub off : FalseOffWires g V

abbrev name_at : Graph → ℕ → ℕ → names.Wire
name_at g i c = names.End (instance_at (instances_of g) i).path (instance_at (instances_of g) i).layer c

abbrev end_of : ℕ → ℕ → Wire
end_of i c = wires.End (record { 0 = i }) c

abbrev codes_of : Graph → ℕ → ℕ → Bool
codes_of g i = codes_at (program_of g.program) (instances_of g) i

-- what is true is the end with a code of the instance
only : (g : Graph) (V : Valuation) (i c : ℕ) → Setting g V i → EndsAt g i → V (name_at g i c) ≡ true → Contains (listed (codes_of g i)) c
only g V i c s e h =
    let u = name_at g i c in
    let ends = map (end_of i) (listed (codes_of g i)) in
    let named : Contains (names_of g) u = elim (cases_Bool (list_any (same_wire u) (names_of g))) [
      | inl some ↦ some-such u (names_of g) some
      | inr none ↦ absurd (false≢true (sym (s.off u none) ∙ h))
    ] in
    let from = mapped (wire_of (instances_of g)) g.wires.items u named in
    let is : from.0 ≡ end_of i c = end-among g i c from.0 s.low from.1 from.2 in
    let there : Contains g.wires.items (end_of i c) = subst (Contains g.wires.items) is from.1 in
    let split : Contains (e.front ++ (ends ++ e.behind)) (end_of i c) = subst (λ ws. Contains ws (end_of i c)) e.whole there in
    let not_outside : is_no_end_of i (end_of i c) ≡ true → ⊥ = λ q. false≢true (sym (ap not (eq-eqb i i refl)) ∙ q) in
    elim (Contains-append_cases e.front (ends ++ e.behind) (end_of i c) split) [
      | inl before ↦ absurd (not_outside (All-contains (λ w. is_no_end_of i w ≡ true) e.front (end_of i c) e.none_before before))
      | inr rest ↦ elim (Contains-append_cases ends e.behind (end_of i c) rest) [
        | inl here ↦
            let r = mapped (end_of i) (listed (codes_of g i)) (end_of i c) here in
            let code : r.0 ≡ c = code-of i r.0 c r.2 in
            subst (Contains (listed (codes_of g i))) code r.1
        | inr behind ↦ absurd (not_outside (All-contains (λ w. is_no_end_of i w ≡ true) e.behind (end_of i c) e.none_behind behind))
      ]
    ]
  where
    code-of : (i c d : ℕ) → end_of i c ≡ end_of i d → c ≡ d
    code-of i c d q = cc

-- so what is no code of it is false
absent : (g : Graph) (V : Valuation) (i c : ℕ) → Setting g V i → EndsAt g i → (Contains (listed (codes_of g i)) c → ⊥) → V (name_at g i c) ≡ false
absent g V i c s e h = elim (cases_Bool (V (name_at g i c))) [
  | inl some ↦ absurd (h (only g V i c s e some))
  | inr none ↦ none
]

upto-none : (f : ℕ → Bool) (k : ℕ) → ((c : ℕ) → f c ≡ false) → upto f k ≡ false
upto-none f zero h = h 0
upto-none f (suc k) h = λ t. upto-none f k h t || h (suc k) t

-- the codes of at most k, and the rest
record Parted (A : ℕ → Bool) (k : ℕ) (f : ℕ → Bool) : Type 0 where
  low : List ℕ
  high : List ℕ
  whole : listed A ≡ low ++ high
  below : All (λ c. c ≤ k) low
  above : All (λ c. k < c) high
  any : list_any f low ≡ upto f k

parted : (A : ℕ → Bool) (k : ℕ) (f : ℕ → Bool) → ((c : ℕ) → (Contains (listed A) c → ⊥) → f c ≡ false) → Parted A k f
parted A k f h = elim (cases_lt k 64) [
  | inl small ↦
      let r = codes-from A (suc k) (64 - suc k) 64 (omega arith) in
      record {
        low = codes_below (suc k) A;
        high = r.rest;
        whole = listed-below A ∙ r.whole;
        below = All-weaker (λ c. c < suc k) (λ c. c ≤ k) (λ c q. omega (arith, q)) (codes_below (suc k) A) (codes-below A (suc k));
        above = All-weaker (Between (suc k) 64) (λ c. k < c) (λ c q. omega (arith, q.0)) r.rest r.between;
        any = any-below f A k (λ n none. h n (λ there. false≢true (sym none ∙ in_set n there)));
      }
  | inr big ↦
      let far : (n : ℕ) → 64 ≤ n → f n ≡ false =
      λ n q. h n (λ there. absurd (omega (
        arith,
        q,
        All-contains (λ c. c < 64) (codes_below 64 A) n (codes-below A 64)
            (subst (λ l. Contains l n) (listed-below A) there),
      ))) in
      let at : 63 + (k - 63) ≡ k = omega arith in
      record {
        low = codes_below 64 A;
        high = [];
        whole = listed-below A ∙ sym (append-nil (codes_below 64 A));
        below = All-weaker (λ c. c < 64) (λ c. c ≤ k) (λ c q. omega (arith, q, big)) (codes_below 64 A) (codes-below A 64);
        above = λ n d q. absurd (omega (arith, q));
        any = any-below f A 63 (λ n none. h n (λ there. false≢true (sym none ∙ in_set n there)))
            ∙ sym (upto-far f (k - 63) far) ∙ ap (upto f) at;
      }
]
  where
    in_set : (n : ℕ) → Contains (listed A) n → A n ≡ true
    in_set n there = below_only 64 A n (subst (λ l. Contains l n) (listed-below A) there)

-- the value of the wire with this number, of those that start with the ends
value-at : (g : Graph) (V : Valuation) (i : ℕ) (front : List Wire) (cs : List ℕ) (behind : List Wire) → g.wires.items ≡ front ++ (map (end_of i) cs ++ behind)
    → (j d : ℕ) → j < length cs → V (wire_at (names_of g) (length front + j)) ≡ V (name_at g i (slice_index_or cs j d))
value-at g V i front cs behind whole j d low =
    let all = ap length whole ∙ length-append front (map (end_of i) cs ++ behind) in
    let some = length-append (map (end_of i) cs) behind in
    let many = length-map cs (end_of i) in
    let w = end_of i (slice_index_or cs j d) in
    let raw : slice_index_or g.wires.items (length front + j) w ≡ w =
    ap (λ ws. slice_index_or ws (length front + j) w) whole ∙ get_or-append-add front (map (end_of i) cs ++ behind) j w
    ∙ get_or_append_left (map (end_of i) cs) behind w j (omega arith) ∙ get_or-map (end_of i) cs j d w low in
    ap V (get_or-map (wire_of (instances_of g)) g.wires.items (length front + j) w (names.Go 0 Resumed) (omega arith)
    ∙ ap (wire_of (instances_of g)) raw)

-- the ends of an instance that has some
some-ends : (g : Graph) (V : Valuation) (i k first c : ℕ) (cs : List ℕ) → Setting g V i → (e : EndsAt g i) → listed (codes_of g i) ≡ c ∷ cs
    → first ≡ prefix_len (is_no_end_of i) g.wires.items
    → any_from (λ v. V (wire_at (names_of g) v)) first (prefix_len (is_end_upto i k) (drop first g.wires.items)) ≡ upto (λ c. V (name_at g i c)) k
some-ends g V i k first c cs s e some begins =
    let f = λ (c : ℕ). V (name_at g i c) in
    let A = codes_of g i in
    let all = c ∷ cs in
    let ends = map (end_of i) all in
    let whole : g.wires.items ≡ e.front ++ (ends ++ e.behind) = e.whole ∙ ap (λ l. e.front ++ (map (end_of i) l ++ e.behind)) some in
    let stop : prefix_len (is_no_end_of i) (ends ++ e.behind) ≡ 0 =
    ap (λ b. if b then 1 + prefix_len (is_no_end_of i) (map (end_of i) cs ++ e.behind) else 0) (ap not (eq-eqb i i refl)) in
    let passed = ap (prefix_len (is_no_end_of i)) whole ∙ front-passes (is_no_end_of i) e.front (ends ++ e.behind) e.none_before in
    let at : first ≡ length e.front = omega arith in
    let rest : drop first g.wires.items ≡ ends ++ e.behind = (λ t. drop (at t) (whole t)) ∙ drop-append_seam e.front (ends ++ e.behind) in
    let p = parted A k f (λ n none. absent g V i n s e none) in
    let parts : all ≡ p.low ++ p.high = sym some ∙ p.whole in
    let split : ends ++ e.behind ≡ map (end_of i) p.low ++ (map (end_of i) p.high ++ e.behind) =
    ap (λ l. map (end_of i) l ++ e.behind) parts ∙ ap (λ l. l ++ e.behind) (map-append (end_of i) p.low p.high)
    ∙ append_assoc (map (end_of i) p.low) (map (end_of i) p.high) e.behind in
    let pass : All (λ w. is_end_upto i k w ≡ true) (map (end_of i) p.low) =
    All-map (λ w. is_end_upto i k w ≡ true) (end_of i) p.low
    (All-weaker (λ c. c ≤ k) (λ c. is_end_upto i k (end_of i c) ≡ true) (λ c h. (λ t. eq-eqb i i refl t && le-leb c k h t)) p.low p.below) in
    let fail : All (λ w. is_end_upto i k w ≡ false) (map (end_of i) p.high ++ e.behind) =
    All-append (λ w. is_end_upto i k w ≡ false) (map (end_of i) p.high) e.behind
    (All-map (λ w. is_end_upto i k w ≡ false) (end_of i) p.high
    (All-weaker (λ c. k < c) (λ c. is_end_upto i k (end_of i c) ≡ false) (λ c h. (λ t. eq-eqb i i refl t && lt-leb c k h t)) p.high p.above))
    (All-weaker (λ w. is_no_end_of i w ≡ true) (λ w. is_end_upto i k w ≡ false) (not-upto i k) e.behind e.none_behind) in
    let count : prefix_len (is_end_upto i k) (drop first g.wires.items) ≡ length p.low =
    ap (prefix_len (is_end_upto i k)) (rest ∙ split)
    ∙ front-passes (is_end_upto i k) (map (end_of i) p.low) (map (end_of i) p.high ++ e.behind) pass
    ∙ omega (arith, front-stops (is_end_upto i k) (map (end_of i) p.high ++ e.behind) fail, length-map p.low (end_of i)) in
    let many = ap length parts ∙ length-append p.low p.high in
    (λ t. any_from (λ v. V (wire_at (names_of g) v)) (at t) (count t))
    ∙ any-taken (λ v. V (wire_at (names_of g) v)) f (length e.front) all (length p.low) (omega arith)
    (value-at g V i e.front all e.behind whole)
    ∙ ap (list_any f) (ap (take (length p.low)) parts ∙ take-append_seam p.low p.high) ∙ p.any

-- an instance without ends
no-ends : (g : Graph) (V : Valuation) (i k first : ℕ) → Setting g V i → (e : EndsAt g i) → listed (codes_of g i) ≡ []
    → first ≡ prefix_len (is_no_end_of i) g.wires.items
    → any_from (λ v. V (wire_at (names_of g) v)) first (prefix_len (is_end_upto i k) (drop first g.wires.items)) ≡ upto (λ c. V (name_at g i c)) k
no-ends g V i k first s e none begins =
    let f = λ (c : ℕ). V (name_at g i c) in
    let whole : g.wires.items ≡ e.front ++ e.behind = e.whole ∙ ap (λ l. e.front ++ (map (end_of i) l ++ e.behind)) none in
    let all = ap length whole ∙ length-append e.front e.behind in
    let before = ap (prefix_len (is_no_end_of i)) whole ∙ front-passes (is_no_end_of i) e.front e.behind e.none_before in
    let behind = sym (ap (prefix_len (is_no_end_of i)) (append-nil e.behind)) ∙ front-passes (is_no_end_of i) e.behind [] e.none_behind in
    let count = prefix_len-drop_all (is_end_upto i k) g.wires.items first (omega arith) in
    let absent_all : (c : ℕ) → f c ≡ false =
    λ c. absent g V i c s e (λ there. absurd (omega (arith, (subst (λ l. Contains l c) none there).1))) in
    ap (any_from (λ v. V (wire_at (names_of g) v)) first) count ∙ sym (upto-none f k absent_all)

pub upto-by-ends : (g : Graph) (V : Valuation) (i k first : ℕ) → Setting g V i → first ≡ prefix_len (is_no_end_of i) g.wires.items
    → any_from (λ v. V (wire_at (names_of g) v)) first (prefix_len (is_end_upto i k) (drop first g.wires.items)) ≡ upto (λ c. V (name_at g i c)) k
upto-by-ends g V i k first s begins = by (listed (codes_of g i)) refl
  where
    by : (cs : List ℕ) → listed (codes_of g i) ≡ cs
        → any_from (λ v. V (wire_at (names_of g) v)) first (prefix_len (is_end_upto i k) (drop first g.wires.items)) ≡ upto (λ c. V (name_at g i c)) k
    by [] e = no-ends g V i k first s (ends-at g i s.low) e begins
    by (c ∷ cs) e = some-ends g V i k first c cs s (ends-at g i s.low) e begins
