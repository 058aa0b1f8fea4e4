-- Wires that are appended instance by instance.
use Rattle.std.proofs.Common.{◌≡◌, ℕ, ◌+◌, ◌-◌, ◌<◌, ◌≤◌, Bool, true, false, List, [], ◌∷◌, ◌++◌, length, map, get_or, refl, sym, ap, ◌∙◌, subst, ⊎_elim, arith}
use Rattle.std.proofs.Common.{length-append, Option, Some, None}
use Rattle.std.specs.Prelude.{slice_index, if◌then◌else◌, All}
use Rattle.std.specs.List.{flat_map, range_with_len}
use Rattle.std.proofs.lemmas.Bool.{cases_lt}
use Rattle.std.proofs.lemmas.List.{map-append, get_or_append_left, get_or-append-add}
use Rattle.std.proofs.lemmas.List.Elements.{All-cons, All-append, All-map, All-nil}
use Rattle.std.proofs.lemmas.List.FromFn.{get_or-map-range_with_len, length-map-range_with_len}
use Rattle.std.proofs.lemmas.Simd.{map-map}
use Rattle.est_kernel.specs.Terms.{Term, Local}
use Rattle.grc_graph.specs.declared.wires.Wire.{Wire}
use Rattle.grc_graph.specs.declared.wires.Wire.TheVariants as wires
use Rattle.grc_graph.specs.Layers.{Layer}
use Rattle.grc_graph.specs.Instances as plain
use Rattle.grc_graph.specs.PlainGraphs.{wire_of, instance_at}
use Rattle.grc_graph.specs.Wires as names
use Rattle.grc_graph.specs.WireTables.{owner, AreRuns, AreOutgoing, wire_run, is_local}

-- each wire of an instance's run is its own
run_owned : (b : Bool) (A : ℕ → Bool) (i : ℕ) → All (λ w. owner w ≡ Some i) (wire_run b A i)
run_owned b A i =
    All-cons (λ w. owner w ≡ Some i) _ _ refl
    (All-append (λ w. owner w ≡ Some i) _ _ (status_owned b) (All-map (λ w. owner w ≡ Some i) (λ k. wires.End (record { 0 = i }) k) (names.listed A)
    (λ k d h. refl)))
  where
    status_owned : (b : Bool) → All (λ w. owner w ≡ Some i) (if b then wires.Local (record { 0 = i }) ∷ [] else [])
    status_owned true = All-cons (λ w. owner w ≡ Some i) (wires.Local (record { 0 = i })) [] refl (All-nil (λ w. owner w ≡ Some i))
    status_owned false = All-nil (λ w. owner w ≡ Some i)

abbrev some_of : Option ℕ → ℕ → ℕ
some_of None d = d
some_of (Some x) d = x

-- a place of two lists, one behind the other
in_two : {X : Type 0} (P : X → Type 0) (xs ys : List X) (w : ℕ) (d : X) → w < length (xs ++ ys)
    → (w < length xs → P (get_or xs w d))
    → (length xs ≤ w → w - length xs < length ys → P (get_or ys (w - length xs) d))
    → P (get_or (xs ++ ys) w d)
in_two P xs ys w d h f g =
    ⊎_elim (λ l. subst P (sym (get_or_append_left xs ys d w l)) (f l))
    (λ l.
    let k : w - length xs < length ys = omega (arith, length-append xs ys) in
    let e : length xs + (w - length xs) ≡ w = omega arith in
    subst P (sym (get_or-append-add xs ys (w - length xs) d) ∙ ap (λ k. get_or (xs ++ ys) k d) e) (g l k))
    (cases_lt w (length xs))

-- reads of the list of first numbers, with one more behind
pub first_kept : (first : List ℕ) (x i : ℕ) → i < length first → slice_index (first ++ x ∷ []) i ≡ slice_index first i
first_kept first x i h = get_or_append_left first (x ∷ []) 0 i h

pub first_new : (first : List ℕ) (x i : ℕ) → length first ≡ i → slice_index (first ++ x ∷ []) i ≡ x
first_new first x i h = ap (λ k. get_or (first ++ x ∷ []) k 0) (let e : i ≡ length first + 0 = omega arith in e) ∙ get_or-append-add first (x ∷ []) 0 0

owner_same : (u : Wire) (i j : ℕ) → owner u ≡ Some i → owner u ≡ Some j → j ≡ i
owner_same u i j h g = sym (ap (λ o. some_of o 0) (sym h ∙ g))

pub AreRuns-more : (i : ℕ) (list : List Wire) (first : List ℕ) (b : Bool) (A : ℕ → Bool) (end : ℕ)
    → AreRuns i list first
    → end ≡ length (list ++ wire_run b A i)
    → AreRuns (i + 1) (list ++ wire_run b A i) (first ++ end ∷ [])
AreRuns-more i list first b A end r e =
    let run = wire_run b A i in
    let longer : length list < end = omega (arith, length-append list run) in
    let each : length first ≡ i + 1 = r.each in
    let here : slice_index (first ++ end ∷ []) (i + 1) ≡ end = first_new first end (i + 1) each in
    let last : slice_index (first ++ end ∷ []) i ≡ length list = first_kept first end i (omega arith) ∙ r.last in
    let kept : (j : ℕ) → j ≤ i → slice_index (first ++ end ∷ []) j ≡ slice_index first j = λ j h. first_kept first end j (omega arith) in
    record {
      each = omega (arith, length-append first (end ∷ []));
      last = here ∙ e;
      runs = λ j h. ⊎_elim
          (λ l. omega (arith, kept j (omega arith), kept (j + 1) (omega arith), r.runs j l))
          (λ l. let q : j ≡ i = omega arith in subst (λ k. slice_index (first ++ end ∷ []) k < slice_index (first ++ end ∷ []) (k + 1)) (sym q)
          (omega (arith, here, last)))
          (cases_lt j i);
      within = λ j h. ⊎_elim
          (λ l. omega (arith, kept (j + 1) (omega arith), r.within j l, length-append list run))
          (λ l. let q : j ≡ i = omega arith in subst (λ k. slice_index (first ++ end ∷ []) (k + 1) ≤ length (list ++ run)) (sym q) (omega (arith, here)))
          (cases_lt j i);
      go = λ j d h. ⊎_elim
          (λ l.
          ap (λ w. get_or (list ++ run) w d) (kept j (omega arith))
          ∙ get_or_append_left list run d (slice_index first j) (omega (arith, r.runs j l, r.within j l)) ∙ r.go j d l)
          (λ l.
          let q : j ≡ i = omega arith in
          let z : slice_index (first ++ end ∷ []) j ≡ length list + 0 = ap (λ k. slice_index (first ++ end ∷ []) k) q ∙ last
          ∙ (let z : length list ≡ length list + 0 = omega arith in z) in
          ap (λ w. get_or (list ++ run) w d) z ∙ get_or-append-add list run 0 d ∙ λ t. wires.Go (record { 0 = sym q t }))
          (cases_lt j i);
      own_in = λ w j d h. in_two (λ u. owner u ≡ Some j → j < i + 1) list run w d h
          (λ l o. omega (arith, r.own_in w j d l o))
          (λ g l o. omega (arith, owner_same _ i j (run_owned b A i (w - length list) d l) o));
      own_from = λ w j d h. in_two (λ u. owner u ≡ Some j → slice_index (first ++ end ∷ []) j ≤ w) list run w d h
          (λ l o. omega (arith, kept j (omega (arith, r.own_in w j d l o)), r.own_from w j d l o))
          (λ g l o. omega (arith, last, ap (λ k. slice_index (first ++ end ∷ []) k) (owner_same _ i j (run_owned b A i (w - length list) d l) o)));
      own_below = λ w j d h. in_two (λ u. owner u ≡ Some j → w < slice_index (first ++ end ∷ []) (j + 1)) list run w d h
          (λ l o. let k : j < i = r.own_in w j d l o in omega (arith, kept (j + 1) (omega arith), r.own_below w j d l o))
          (λ g l o. omega (arith, here, h, e, ap (λ k. slice_index (first ++ end ∷ []) (k + 1)) (owner_same _ i j (run_owned b A i (w - length list) d l) o)));
    }

out_none : (inputs outgoing w i : ℕ) (d : Wire) → w < outgoing
    → owner (get_or (map (λ s. wires.Out (record { 0 = s })) (range_with_len inputs outgoing)) w d) ≡ Some i → ⊥
out_none inputs outgoing w i d h o =
    let e = get_or-map-range_with_len (λ s. wires.Out (record { 0 = s })) inputs outgoing w (inputs + w) d h refl in
    let n : None ≡ Some i = ap owner (sym e) ∙ o in
    absurd (cc)

pub AreRuns-none : (inputs outgoing : ℕ) (list : List Wire) → list ≡ map (λ s. wires.Out (record { 0 = s })) (range_with_len inputs outgoing)
    → AreRuns 0 list (outgoing ∷ [])
AreRuns-none inputs outgoing list e =
    let n : length list ≡ outgoing = ap length e ∙ length-map-range_with_len (λ s. wires.Out (record { 0 = s })) inputs outgoing in
    record {
      each = refl;
      last = sym n;
      runs = λ i h. absurd (omega arith);
      within = λ i h. absurd (omega arith);
      go = λ i d h. absurd (omega arith);
      own_in = λ w i d h o. absurd (out_none inputs outgoing w i d (omega arith) (ap (λ l. owner (get_or l w d)) (sym e) ∙ o));
      own_from = λ w i d h o. absurd (out_none inputs outgoing w i d (omega arith) (ap (λ l. owner (get_or l w d)) (sym e) ∙ o));
      own_below = λ w i d h o. absurd (out_none inputs outgoing w i d (omega arith) (ap (λ l. owner (get_or l w d)) (sym e) ∙ o));
    }

pub AreOutgoing-none : (inputs outgoing : ℕ) (list : List Wire) → list ≡ map (λ s. wires.Out (record { 0 = s })) (range_with_len inputs outgoing)
    → AreOutgoing inputs outgoing list
AreOutgoing-none inputs outgoing list e =
    let n : length list ≡ outgoing = ap length e ∙ length-map-range_with_len (λ s. wires.Out (record { 0 = s })) inputs outgoing in
    record {
      within = omega arith;
      out = λ k d h. ap (λ l. get_or l k d) e ∙ get_or-map-range_with_len (λ s. wires.Out (record { 0 = s })) inputs outgoing k (inputs + k) d h refl;
      own_out = λ w s d h o. omega arith;
    }

pub AreOutgoing-more : (inputs outgoing i : ℕ) (list : List Wire) (b : Bool) (A : ℕ → Bool) → AreOutgoing inputs outgoing list
    → AreOutgoing inputs outgoing (list ++ wire_run b A i)
AreOutgoing-more inputs outgoing i list b A o = record {
  within = omega (arith, o.within, length-append list (wire_run b A i));
  out = λ k d h. get_or_append_left list (wire_run b A i) d k (omega (arith, o.within)) ∙ o.out k d h;
  own_out = λ w s d h. in_two (λ u. u ≡ wires.Out (record { 0 = s }) → w < outgoing) list (wire_run b A i) w d h
      (λ l e. o.own_out w s d l e)
      (λ g l e. let n : Some i ≡ None = sym (run_owned b A i (w - length list) d l) ∙ ap owner e in absurd (cc));
}

-- ---- their names

own_names : (insts : List plain.Instance) (i n : ℕ) (l : Layer) (t : Term) → instance_at insts i ≡ record { path = n; layer = l }
    → map (wire_of insts) (if is_local t then wires.Local (record { 0 = i }) ∷ [] else []) ≡ names.own_status t n l
own_names insts i n l (Local s p) e = λ j. names.StatusOf (e j).path (e j).layer ∷ []
own_names insts i n l _ e = refl

pub run_names : (insts : List plain.Instance) (i : ℕ) (x : plain.Instance) (t : Term) (b : Bool) (A : ℕ → Bool)
    → instance_at insts i ≡ x
    → b ≡ is_local t
    → A ≡ names.instance_codes t x.layer
    → map (wire_of insts) (wire_run b A i) ≡ names.instance_wires t x.path x.layer
run_names insts i x t b A e h g =
    let n = x.path in
    let l = x.layer in
    let f : ℕ → Wire = λ k. wires.End (record { 0 = i }) k in
    let head : wire_of insts (wires.Go (record { 0 = i })) ≡ names.Go n l = λ j. names.Go (e j).path (e j).layer in
    let middle : map (wire_of insts) (if b then wires.Local (record { 0 = i }) ∷ [] else []) ≡ names.own_status t n l
    = ap (λ c. map (wire_of insts) (if c then wires.Local (record { 0 = i }) ∷ [] else [])) h ∙ own_names insts i n l t e in
    let tail : map (wire_of insts) (map f (names.listed A)) ≡ map (λ k. names.End n l k) (names.listed (names.instance_codes t l))
    = map-map (wire_of insts) f (names.listed A) ∙ (λ j. map (λ k. names.End (e j).path (e j).layer k) (names.listed (g j))) in
    (λ j. head j ∷ map (wire_of insts) ((if b then wires.Local (record { 0 = i }) ∷ [] else []) ++ map f (names.listed A)))
    ∙ ap (λ r. names.Go n l ∷ r) (map-append (wire_of insts) (if b then wires.Local (record { 0 = i }) ∷ [] else []) (map f (names.listed A))
    ∙ λ j. middle j ++ tail j)

pub length-flat_map_nonempty : {X A : Type 0} (f : X → List A) → ((x : X) → 0 < length (f x)) → (xs : List X) → length xs ≤ length (flat_map f xs)
length-flat_map_nonempty f h [] = omega arith
length-flat_map_nonempty f h (x ∷ xs) = omega (arith, h x, length-flat_map_nonempty f h xs, length-append (f x) (flat_map f xs))
