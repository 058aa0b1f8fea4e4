-- The records of the code as lookups.
use Rattle.std.proofs.Common.{◌≡◌, ℕ, ◌+◌, ◌-◌, ◌<◌, ◌≤◌, Bool, List, [], ◌∷◌, ◌++◌, length, map, set, take, drop, flat_map, All, refl, sym, ap}
use Rattle.std.proofs.Common.{◌∙◌, subst, arith, append_assoc}
use Rattle.std.specs.Prelude.{slice_range}
use Rattle.std.proofs.lemmas.List.{map-append, append-nil, drop-map, take-map, length-take, length-drop, get_or-take, get_or-drop}
use Rattle.std.proofs.lemmas.Grind.{flat_map-append}
use Rattle.run_steps.specs.declared.gate.Gate.{Gate}
use Rattle.run_steps.specs.declared.plan.Stretch.{Stretch}
use Rattle.run_steps.specs.Plans.{Lookup, lookup_made, made}
use Rattle.run_steps.specs.Records.{gate_value, gate_lookup, plain_lookup, GateFits, LookupFits, StretchFits, gates_made, stretches_made, stretch_lookups}
use Rattle.run_steps.proofs.Makings.{made-append}
use Rattle.run_steps.proofs.TermValues.{gate-digits}

pub gates-made : (gates : List Gate) (values : List Bool) → gates_made gates values ≡ made (map gate_lookup gates) values
gates-made [] values = refl
gates-made (g ∷ gates) values =
    gates-made gates (set values g.output (gate_value g values))
    ∙ ap (λ b. made (map gate_lookup gates) (set values g.output b)) (gate-digits g values)

pub stretches-made : (stretches : List Stretch) (values : List Bool) → stretches_made stretches values ≡ made (flat_map stretch_lookups stretches) values
stretches-made [] values = refl
stretches-made (s ∷ stretches) values =
    let gates = map gate_lookup s.gates in
    stretches-made stretches (lookup_made (plain_lookup s.last) (gates_made s.gates values))
    ∙ ap (λ w. made (flat_map stretch_lookups stretches) (lookup_made (plain_lookup s.last) w)) (gates-made s.gates values)
    ∙ ap (made (flat_map stretch_lookups stretches)) (sym (made-append gates (plain_lookup s.last ∷ []) values))
    ∙ sym (made-append (stretch_lookups s) (flat_map stretch_lookups stretches) values)

-- stretches, and gates behind them
pub records-made : (stretches : List Stretch) (gates : List Gate) (values : List Bool)
    → gates_made gates (stretches_made stretches values) ≡ made (flat_map stretch_lookups stretches ++ map gate_lookup gates) values
records-made stretches gates values =
    gates-made gates (stretches_made stretches values) ∙ ap (made (map gate_lookup gates)) (stretches-made stretches values)
    ∙ sym (made-append (flat_map stretch_lookups stretches) (map gate_lookup gates) values)

-- one gate more
pub gate-more : (stretches : List Stretch) (gates new : List Gate) (g : Gate) → new ≡ gates ++ g ∷ []
    → flat_map stretch_lookups stretches ++ map gate_lookup new ≡ (flat_map stretch_lookups stretches ++ map gate_lookup gates) ++ gate_lookup g ∷ []
gate-more stretches gates new g more =
    ap (λ gs. flat_map stretch_lookups stretches ++ map gate_lookup gs) more
    ∙ ap (λ l. flat_map stretch_lookups stretches ++ l) (map-append gate_lookup gates (g ∷ []))
    ∙ sym (append_assoc (flat_map stretch_lookups stretches) (map gate_lookup gates) (gate_lookup g ∷ []))

-- one stretch more, which ends in a lookup that is no gate
pub stretch-more : (stretches new_stretches : List Stretch) (gates new_gates : List Gate) (s : Stretch) (l : Lookup)
    → new_stretches ≡ stretches ++ s ∷ [] → new_gates ≡ [] → s.gates ≡ gates → plain_lookup s.last ≡ l
    → flat_map stretch_lookups new_stretches ++ map gate_lookup new_gates ≡ (flat_map stretch_lookups stretches ++ map gate_lookup gates) ++ l ∷ []
stretch-more stretches new_stretches gates new_gates s l more none same last =
    let front = flat_map stretch_lookups stretches in
    ap (λ gs. flat_map stretch_lookups new_stretches ++ map gate_lookup gs) none ∙ append-nil (flat_map stretch_lookups new_stretches)
    ∙ ap (flat_map stretch_lookups) more ∙ flat_map-append stretch_lookups stretches (s ∷ [])
    ∙ ap (λ t. front ++ t) (append-nil (stretch_lookups s))
    ∙ ap (λ gs. front ++ (map gate_lookup gs ++ plain_lookup s.last ∷ [])) same ∙ ap (λ x. front ++ (map gate_lookup gates ++ x ∷ [])) last
    ∙ sym (append_assoc front (map gate_lookup gates) (l ∷ []))

-- ---- more slots

pub gates-fit-more : (few many : ℕ) (gates : List Gate) → few ≤ many → All (GateFits few) gates → All (GateFits many) gates
gates-fit-more few many gates more all k d h =
    let f = all k d h in
    record {
      output_low = omega (arith, f.output_low, more);
      left_low = omega (arith, f.left_low, more);
      right_low = omega (arith, f.right_low, more);
    }

pub lookup-fits-more : (few many : ℕ) (l : Lookup) → few ≤ many → LookupFits few l → LookupFits many l
lookup-fits-more few many l more f = record {
  output_low = omega (arith, f.output_low, more);
  reads_low = λ k d h. omega (arith, f.reads_low k d h, more);
  each_place = f.each_place;
  few = f.few;
}

pub stretches-fit-more : (few many : ℕ) (stretches : List Stretch) → few ≤ many → All (StretchFits few) stretches → All (StretchFits many) stretches
stretches-fit-more few many stretches more all k d h =
    let f = all k d h in
    record {
      gates_fit = gates-fit-more few many _ more f.gates_fit;
      last_fits = lookup-fits-more few many _ more f.last_fits;
    }

-- ---- gates alone, and a part of them

pub gates-alone : (stretches : List Stretch) (gates : List Gate) → length stretches ≡ 0
    → map gate_lookup gates ≡ flat_map stretch_lookups stretches ++ map gate_lookup gates
gates-alone [] gates none = refl
gates-alone (s ∷ stretches) gates none = cc

pub part-made : (gates : List Gate) (from to : ℕ) (values : List Bool)
    → gates_made (slice_range gates from to) values ≡ made (slice_range (map gate_lookup gates) from to) values
part-made gates from to values =
    gates-made (slice_range gates from to) values
    ∙ ap (λ l. made l values) (sym (ap (take (to - from)) (drop-map gate_lookup from gates) ∙ take-map gate_lookup (to - from) (drop from gates)))

pub part-fits : (slots : ℕ) (gates : List Gate) (from to : ℕ) → All (GateFits slots) gates → All (GateFits slots) (slice_range gates from to)
part-fits slots gates from to all k d low =
    let front = length-take (to - from) (drop from gates) in
    let behind = length-drop from gates in
    let inside : k < to - from = omega (arith, low, front) in
    subst (GateFits slots) (sym (get_or-take (to - from) (drop from gates) k d inside ∙ get_or-drop from gates k d))
    (all (from + k) d (omega (arith, low, front, behind)))
