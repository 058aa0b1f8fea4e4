-- The steps of sound equations, in an order along which they read, solve them.
use Rattle.std.proofs.Common.{◌≡◌, ℕ, ◌+◌, ◌-◌, ◌<◌, suc, Bool, false, List, [], ◌∷◌, length, map, take, get_or, slice_index}
use Rattle.std.proofs.Common.{refl, sym, ap, ◌∙◌, arith, subst}
use Rattle.std.proofs.lemmas.List.{length-map, length-take, get_or-map, get_or_default, ext_get_or, get_or-take}
use Rattle.std.proofs.lemmas.List.Elements.{All-from_recursion, recursion_from_All}
use Rattle.net_ir.proofs.Exports.{found-low}
use Rattle.run_steps.specs.Slots.{slot_in, value_at, memory_in}
use Rattle.run_steps.specs.Equations.{NameEquation}
use Rattle.run_steps.specs.Steps.{Step, settled, driven, equation_step, AreSound, AreSolved}
use Rattle.run_steps.specs.Order.{edges_from, IsEvaluationOrder, slots_read, no_equation}
use Rattle.run_steps.proofs.Places.{place-at, driven-count, given-name, given-slot, output-slot}
use Rattle.run_steps.proofs.Settling.{InOrder, AllSettled, all-settled, all-agree, reads-among}
use Rattle.run_steps.proofs.EquationEdges.{in-edges, reads-at, reads-count}

-- the values of lists' elements from those of their places
map-by : {X : Type 0} (f : X → Bool) (xs : List X) (bs : List Bool) (d : X) → length bs ≡ length xs
    → ((k : ℕ) → k < length xs → f (get_or xs k d) ≡ get_or bs k false) → map f xs ≡ bs
map-by f xs bs d wide at =
    let n = length-map xs f in
    ext_get_or false (map f xs) bs (omega arith) (λ k h. get_or-map f xs k d false (omega arith) ∙ at k (omega arith))

map-same : {X : Type 0} (f g : List ℕ → X) (xs : List (List ℕ)) → ((k : ℕ) → k < length xs → f (get_or xs k []) ≡ g (get_or xs k [])) → map f xs ≡ map g xs
map-same f g [] same = refl
map-same f g (x ∷ xs) same = let here = same 0 (omega arith) in rw (here, map-same f g xs (λ k h. same (suc k) (omega arith))) refl

abbrev place_by : List ℕ → ℕ → ℕ
place_by ranks t = length ranks - 1 - slice_index ranks t

module _ (given : List (List ℕ)) (equations : List NameEquation) (sound : AreSound given equations) (order : List ℕ)
    (is : IsEvaluationOrder (length equations) (edges_from (length given) 0 (slots_read (driven given equations) equations)) order) where
  abbrev names : List (List ℕ)
  names = driven given equations

  abbrev first : ℕ
  first = length given

  abbrev count : ℕ
  count = length equations

  abbrev reads : List (List ℕ)
  reads = slots_read names equations

  abbrev steps : List Step
  steps = map (λ t. equation_step names (get_or equations t no_equation)) order

  in-order : InOrder given equations order (place_by is.ranks)
  in-order =
      let ranked = is.each_node in
      let placed = is.against.each_place in
      record {
        nodes = λ k h. omega (arith, is.against.nodes k 0 h);
        places = λ t h. omega (arith, is.below t 0 (omega arith));
        stands = λ t h. is.against.inverse t (omega arith);
        behind = λ t u x h has e.
            let own = (get_or equations t no_equation).reads in
            let low : has.0 < length (map (slot_in names) own) = omega (arith, has.1, length-map own (slot_in names)) in
            let read : get_or (map (slot_in names) own) has.0 0 ≡ first + u =
            get_or-map (slot_in names) own has.0 x 0 has.1 ∙ ap (slot_in names) has.2 ∙ e in
            let there : get_or (get_or reads t []) has.0 0 ≡ first + u = ap (λ l. get_or l has.0 0) (reads-at given equations sound t h) ∙ read in
            let wide : has.0 < length (get_or reads t []) = omega (arith, low, ap length (reads-at given equations sound t h)) in
            let edge = in-edges first 0 reads t u (omega (arith, h, reads-count given equations sound)) (record { at = has.0; low = wide; is = there }) in
            let z : 0 + t ≡ t = omega arith in
            let grow = rw (edge.2, z) at (is.grow edge.0 (0 + t, u) edge.1) in
            let among = reads-among given equations sound t x h has in
            let inside : u < count = omega (arith, found-low x names among, e, driven-count given equations) in
            let a = is.below t 0 (omega arith) in
            let b = is.below u 0 (omega arith) in
            omega (arith, grow);
      }

  module _ (start : List Bool) (wide : length start ≡ length names) where
    abbrev after : List Bool
    after = settled steps start

    abbrev v : List ℕ → Bool
    v = memory_in names after

    width : length start ≡ first + count
    width = wide ∙ driven-count given equations

    all : AllSettled given equations sound order (place_by is.ranks) in-order start after
    all = all-settled given equations sound order (place_by is.ranks) in-order start width

    front-count : length (take first start) ≡ first
    front-count = length-take first start ∙ omega (arith, width)

    pub solved : AreSolved given equations (take first start) v
    solved = record {
      kept = map-by v given (take first start) [] front-count (λ k h.
          ap (value_at after) (given-slot given equations sound.differ k h) ∙ all.kept k h ∙ sym (get_or-take first start k false h));
      met = recursion_from_All (λ (e : NameEquation). v e.output ≡ e.value v) equations (λ k d h.
          subst (λ (e : NameEquation). v e.output ≡ e.value v) (get_or_default equations k no_equation d h)
          (ap (value_at after) (output-slot given equations sound.differ k h) ∙ all.met k h));
      only = λ u begins meets.
          let all_meet : (t : ℕ) → t < count → u (get_or equations t no_equation).output ≡ (get_or equations t no_equation).value u =
          λ t h. All-from_recursion (λ (e : NameEquation). u e.output ≡ e.value u) equations meets t no_equation h in
          let starts : (s : ℕ) → s < first → value_at start s ≡ u (get_or names s []) = λ s h.
          sym (get_or-take first start s false h) ∙ ap (λ l. get_or l s false) (sym begins) ∙ get_or-map u given s [] false h
          ∙ ap u (sym (given-name given equations s h)) in
          let agree = all-agree given equations sound order (place_by is.ranks) in-order u all_meet start width starts in
          map-same u v names (λ k h.
          sym (ap (value_at after) (place-at names sound.differ k h) ∙ agree k (omega (arith, driven-count given equations))));
    }
