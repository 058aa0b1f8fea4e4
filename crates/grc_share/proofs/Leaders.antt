-- Those of a list that stand for themselves: their places, and what a list of names has of them.
use Rattle.std.proofs.Common.{◌≡◌, ℕ, ◌+◌, ◌<◌, ◌≤◌, ◌==◌, suc, cond, Bool, true, false, List, [], ◌∷◌, ◌++◌, length, map, get_or, take, refl, sym, ap, ◌∙◌}
use Rattle.std.proofs.Common.{subst, ⊎_elim, arith}
use Rattle.std.specs.Prelude.{All, filter, slice_index}
use Rattle.std.proofs.Math.Seq.{get_or-append_seam}
use Rattle.std.proofs.lemmas.Bool.{both_ways, cases_eq, cases_lt, eq-eqb, eqb-true, ne_eqb}
use Rattle.std.proofs.lemmas.List.{append-nil, get_or_append_left, get_or_default, length-append, length-take, take_more}
use Rattle.std.proofs.lemmas.List.Elements.{All-cons, All-head, All-tail}
use Rattle.base_types.specs.declared.indices.WireId.{WireId}
use Rattle.grc_graph.specs.PlainGraphs.{wire_at}
use Rattle.grc_graph.specs.Wires.{Wire, same_wire}
use Rattle.grc_graph.specs.WireTables.{IsNumberOf}
use Rattle.grc_graph.proofs.Exports.{same_wire-self, same_wire-true}
use Rattle.grc_share.specs.LeastMembers.{ArePlaces, Settled, leaders}

-- ---- leaders

pub leaders-append : (i : ℕ) (xs ys : List WireId) → leaders i (xs ++ ys) ≡ leaders i xs ++ leaders (i + length xs) ys
leaders-append i [] ys = ap (λ k. leaders k ys) (let e : i ≡ i + 0 = omega arith in e)
leaders-append i (x ∷ xs) ys =
    let e : i + 1 + length xs ≡ i + length (x ∷ xs) = omega arith in
    let rest = leaders-append (i + 1) xs ys ∙ ap (λ k. leaders (i + 1) xs ++ leaders k ys) e in
    by (x.0 == i) rest
  where
    by : (b : Bool) → leaders (i + 1) (xs ++ ys) ≡ leaders (i + 1) xs ++ leaders (i + length (x ∷ xs)) ys
        → cond b (x ∷ leaders (i + 1) (xs ++ ys)) (leaders (i + 1) (xs ++ ys))
        ≡ cond b (x ∷ leaders (i + 1) xs) (leaders (i + 1) xs) ++ leaders (i + length (x ∷ xs)) ys
    by true rest = ap (λ l. x ∷ l) rest
    by false rest = rest

-- one more
pub leaders-more : (ws : List WireId) (n : ℕ) (x : WireId) → length ws ≡ n → leaders 0 (ws ++ (x ∷ [])) ≡ leaders 0 ws ++ cond (x.0 == n) (x ∷ []) []
leaders-more ws n x e =
    leaders-append 0 ws (x ∷ []) ∙ ap (λ k. leaders 0 ws ++ cond (x.0 == k) (x ∷ []) []) (let z : 0 + length ws ≡ n = omega (arith, e) in z)

-- what is true of each is true of each leader
pub leaders-all : (P : WireId → Type 0) (i : ℕ) (ms : List WireId) → All P ms → All P (leaders i ms)
leaders-all P i [] h = h
leaders-all P i (m ∷ ms) h = by (m.0 == i) (leaders-all P (i + 1) ms (All-tail P m ms h))
  where
    by : (b : Bool) → All P (leaders (i + 1) ms) → All P (cond b (m ∷ leaders (i + 1) ms) (leaders (i + 1) ms))
    by true rest = All-cons P m (leaders (i + 1) ms) (All-head P m ms h) rest
    by false rest = rest

-- ---- by name

-- no two places of a list of wires have one
abbrev pub Apart : List Wire → Type 0
Apart names = (i j : ℕ) → i < length names → j < length names → wire_at names i ≡ wire_at names j → i ≡ j

-- the leaders of a list of wires, where f names the leader of each
module _ (names : List Wire) (f : Wire → Wire) (apart : Apart names) where
  abbrev at : ℕ → Wire
  at w = wire_at names w

  -- from a place on
  record From (i : ℕ) (us : List Wire) (ms : List WireId) : Type 0 where
    fits : i + length us ≤ length names
    each : length ms ≡ length us
    named : (k : ℕ) (d : Wire) → k < length us → get_or us k d ≡ wire_at names (i + k)
    leads : (k : ℕ) (d : WireId) → k < length ms → IsNumberOf names (get_or ms k d).0 (f (wire_at names (i + k)))

  from-tail : (i : ℕ) (u : Wire) (us : List Wire) (m : WireId) (ms : List WireId) → From i (u ∷ us) (m ∷ ms) → From (i + 1) us ms
  from-tail i u us m ms h = record {
    fits = omega (arith, h.fits);
    each = omega (arith, h.each);
    named = λ k d l. h.named (suc k) d (omega (arith, l)) ∙ ap (wire_at names) (next k);
    leads = λ k d l. subst (λ j. IsNumberOf names (get_or ms k d).0 (f (wire_at names j))) (next k) (h.leads (suc k) d (omega (arith, l)));
  }
    where
      next : (k : ℕ) → i + suc k ≡ i + 1 + k
      next k = omega arith

  leaders-from : (i : ℕ) (us : List Wire) (ms : List WireId) → From i us ms
      → map (λ w. wire_at names w.0) (leaders i ms) ≡ filter (λ w. same_wire (f w) w) us
  leaders-from i [] [] h = refl
  leaders-from i [] (m ∷ ms) h = absurd (omega (arith, h.each))
  leaders-from i (u ∷ us) [] h = absurd (omega (arith, h.each))
  leaders-from i (u ∷ us) (m ∷ ms) h = by (m.0 == i) refl (same_wire (f u) u) refl (leaders-from (i + 1) us ms (from-tail i u us m ms h))
    where
      zero_more : i + 0 ≡ i
      zero_more = omega arith

      low : i < length names
      low = omega (arith, h.fits)

      here : u ≡ wire_at names i
      here = h.named 0 u (omega arith) ∙ ap (wire_at names) zero_more

      number : IsNumberOf names m.0 (f u)
      number = subst (λ w. IsNumberOf names m.0 (f w)) (ap (wire_at names) zero_more ∙ sym here) (h.leads 0 m (omega arith))

      named : wire_at names m.0 ≡ f u
      named = number.same _

      by : (a : Bool) → (m.0 == i) ≡ a → (b : Bool) → same_wire (f u) u ≡ b
          → map (λ w. wire_at names w.0) (leaders (i + 1) ms) ≡ filter (λ w. same_wire (f w) w) us
          → map (λ w. wire_at names w.0) (cond a (m ∷ leaders (i + 1) ms) (leaders (i + 1) ms))
          ≡ cond b (u ∷ filter (λ w. same_wire (f w) w) us) (filter (λ w. same_wire (f w) w) us)
      by true e true g rest = (λ j. (ap (wire_at names) (eqb-true m.0 i e) ∙ sym here) j ∷ rest j)
      by true e false g rest =
          let same : f u ≡ u = sym named ∙ ap (wire_at names) (eqb-true m.0 i e) ∙ sym here in
          absurd (both_ways (same_wire (f u) u) g (subst (λ w. same_wire w u ≡ true) (sym same) (same_wire-self u)))
      by false e true g rest =
          let same : wire_at names m.0 ≡ wire_at names i = named ∙ same_wire-true (f u) u g ∙ here in
          absurd (both_ways (m.0 == i) e (eq-eqb m.0 i (apart m.0 i number.within low same)))
      by false e false g rest = rest

  pub leaders-named : (ms : List WireId) → length ms ≡ length names
      → ((w : ℕ) (d : WireId) → w < length ms → IsNumberOf names (get_or ms w d).0 (f (wire_at names w)))
      → map (λ w. wire_at names w.0) (leaders 0 ms) ≡ filter (λ w. same_wire (f w) w) names
  leaders-named ms e h = leaders-from 0 names ms (record {
    fits = omega arith;
    each = e;
    named = λ k d l. get_or_default names k d _ l ∙ ap (wire_at names) (zero_more k);
    leads = λ k d l. subst (λ j. IsNumberOf names (get_or ms k d).0 (f (wire_at names j))) (zero_more k) (h k d l);
  })
    where
      zero_more : (k : ℕ) → k ≡ 0 + k
      zero_more k = omega arith

  -- what a wire's leader is, leads itself
  pub leaders-settled : (ms : List WireId) → length ms ≡ length names → ((w : Wire) → f (f w) ≡ f w)
      → ((w : ℕ) (d : WireId) → w < length ms → IsNumberOf names (get_or ms w d).0 (f (wire_at names w)))
      → Settled ms
  leaders-settled ms e twice h w d l =
      let a = h w d l in
      let m = (get_or ms w d).0 in
      let low : m < length ms = omega (arith, a.within, e) in
      let b = h m d low in
      let same : wire_at names (get_or ms m d).0 ≡ wire_at names m = b.same _ ∙ ap f (a.same _) ∙ twice (wire_at names w) ∙ sym (a.same _) in
      ap (λ k. record { 0 = k }) (apart (get_or ms m d).0 m b.within a.within same)

-- ---- places

-- one more that stands for itself
places-more : (members least : List WireId) (places : List ℕ) (n : ℕ) (x : WireId) → ((d : WireId) → get_or members n d ≡ x)
    → ArePlaces members n least places → ArePlaces members (n + 1) (least ++ (x ∷ [])) (places ++ (length least ∷ []))
places-more members least places n x is are = record {
  each = omega (arith, length-append places (length least ∷ []), are.each);
  few = omega (arith, are.few, length-append least (x ∷ []));
  within = λ w d l h. ⊎_elim
      (λ a. subst (λ k. k < length (least ++ (x ∷ []))) (sym (old w a)) (omega (arith, are.within w d a h, length-append least (x ∷ []))))
      (λ a. subst (λ k. k < length (least ++ (x ∷ []))) (sym (new w (omega (arith, a, l)))) (omega (arith, length-append least (x ∷ []))))
      (cases_lt w n);
  same = λ w d l h. ⊎_elim
      (λ a. ap (λ k. get_or (least ++ (x ∷ [])) k d) (old w a) ∙ get_or_append_left least (x ∷ []) d (slice_index places w) (are.within w d a h)
      ∙ are.same w d a h)
      (λ a.
      let e : w ≡ n = omega (arith, a, l) in
      ap (λ k. get_or (least ++ (x ∷ [])) k d) (new w e) ∙ get_or-append_seam least x [] d ∙ sym (is d) ∙ ap (λ k. get_or members k d) (sym e))
      (cases_lt w n);
}
  where
    old : (w : ℕ) → w < n → slice_index (places ++ (length least ∷ [])) w ≡ slice_index places w
    old w l = get_or_append_left places (length least ∷ []) 0 w (omega (arith, l, are.each))

    new : (w : ℕ) → w ≡ n → slice_index (places ++ (length least ∷ [])) w ≡ length least
    new w e =
        ap (slice_index (places ++ (length least ∷ []))) (let z : w ≡ length places = omega (arith, e, are.each) in z)
        ∙ get_or-append_seam places (length least) [] 0

-- one that does not
places-skip : (members least : List WireId) (places : List ℕ) (n y : ℕ) (x : WireId) → ((d : WireId) → get_or members n d ≡ x) → (x.0 ≡ n → ⊥)
    → ArePlaces members n least places → ArePlaces members (n + 1) least (places ++ (y ∷ []))
places-skip members least places n y x is not are = record {
  each = omega (arith, length-append places (y ∷ []), are.each);
  few = omega (arith, are.few);
  within = λ w d l h. ⊎_elim (λ a. subst (λ k. k < length least) (sym (old w a)) (are.within w d a h)) (λ a. absurd (none w d (omega (arith, a, l)) h))
      (cases_lt w n);
  same = λ w d l h. ⊎_elim (λ a. ap (λ k. get_or least k d) (old w a) ∙ are.same w d a h) (λ a. absurd (none w d (omega (arith, a, l)) h)) (cases_lt w n);
}
  where
    old : (w : ℕ) → w < n → slice_index (places ++ (y ∷ [])) w ≡ slice_index places w
    old w l = get_or_append_left places (y ∷ []) 0 w (omega (arith, l, are.each))

    none : (w : ℕ) (d : WireId) → w ≡ n → (get_or members w d).0 ≡ w → ⊥
    none w d e h = not (sym (ap (λ z. z.0) (is d)) ∙ ap (λ k. (get_or members k d).0) (sym e) ∙ h ∙ e)

-- what one more place makes of both
module _ (members least more : List WireId) (n : ℕ) (x : WireId) (low : n < length members) (is : x ≡ get_or members n (record { 0 = 0 }))
    (own : x.0 ≡ n → more ≡ least ++ (x ∷ [])) (other : (x.0 ≡ n → ⊥) → more ≡ least) where
  read : (d : WireId) → get_or members n d ≡ x
  read d = get_or_default members n d (record { 0 = 0 }) low ∙ sym is

  pub leaders-next : least ≡ leaders 0 (take n members) → more ≡ leaders 0 (take (n + 1) members)
  leaders-next e =
      ⊎_elim (λ h. own h ∙ ap (λ l. l ++ (x ∷ [])) e ∙ sym (all ∙ ap (λ b. leaders 0 (take n members) ++ cond b (x ∷ []) []) (eq-eqb x.0 n h)))
      (λ h. other h ∙ e
      ∙ sym (all ∙ ap (λ b. leaders 0 (take n members) ++ cond b (x ∷ []) []) (ne_eqb x.0 n h) ∙ append-nil (leaders 0 (take n members))))
      (cases_eq x.0 n)
    where
      all : leaders 0 (take (n + 1) members) ≡ leaders 0 (take n members) ++ cond (x.0 == n) (x ∷ []) []
      all =
          ap (leaders 0) (take_more members n x low ∙ ap (λ y. take n members ++ (y ∷ [])) (read x))
          ∙ leaders-more (take n members) n x (let e : length (take n members) ≡ n = omega (arith, length-take n members, low) in e)

  pub places-next : (places : List ℕ) → ArePlaces members n least places → ArePlaces members (n + 1) more (places ++ (length least ∷ []))
  places-next places are =
      ⊎_elim (λ h. subst (λ l. ArePlaces members (n + 1) l (places ++ (length least ∷ []))) (sym (own h)) (places-more members least places n x read are))
      (λ h. subst (λ l. ArePlaces members (n + 1) l (places ++ (length least ∷ []))) (sym (other h))
      (places-skip members least places n (length least) x read h are)) (cases_eq x.0 n)
