-- Runs of ends: the or of the ends of an instance up to a code, noted at each of them.
use Rattle.std.proofs.Common.{◌≡◌, ◌≢◌, ℕ, ◌+◌, ◌-◌, ◌<◌, ◌≤◌, ◌^◌, zero, suc, Bool, true, false, ◌||◌, ◌&&◌, ◌==◌, nat_le, List, [], ◌∷◌, ◌++◌, length, drop}
use Rattle.std.proofs.Common.{slice_index_or, slice_set, refl, sym, ap, ◌∙◌, subst, arith, Option, Some, None, inl, inr}
use Rattle.std.specs.List.{prefix_len, sum_by}
use Rattle.std.proofs.lemmas.Bool.{and_parts, eqb-true, cases_lt}
use Rattle.std.proofs.lemmas.List.{get_or-set_same, get_or-set_other, get_or-drop, length-set, length_push}
use Rattle.std.proofs.lemmas.List.Sums.{prefix_len_passes, sum_by-set}
use Rattle.base_types.specs.declared.indices.NetId.{NetId}
use Rattle.base_types.specs.declared.indices.WireId.{WireId}
use Rattle.grc_graph.specs.declared.graph.Graph.{Graph}
use Rattle.grc_graph.specs.declared.wires.Wire.{Wire}
use Rattle.grc_graph.specs.declared.wires.Wire.TheVariants as wires
use Rattle.grc_formulas.specs.declared.table.Words.{Words}
use Rattle.grc_formulas.specs.WordLaws.{any_from, is_end_upto, first_end, ends_upto}
use Rattle.net_ir.specs.declared.netlist.Op.{Op}
use Rattle.net_ir.specs.declared.netlist.Op.TheVariants.{Copy, Or}
use Rattle.net_gen.specs.Drawings.{Drawing, next_number, net_at, Placed, with_gate, with_run, noted_run, noted_number, NotedFits, with_run_once}
use Rattle.net_gen.specs.Drawings.{run_number_once, RunFits}
use Rattle.net_gen.specs.Growing.{Grew, Lowers, RunStands, spare, spent}
use Rattle.net_gen.specs.Senses.{Instant, Sense, Sound, Stands, Table, ends_sense, end_instance, first_beside, run_sense, wire_sense, wire_value}
use Rattle.net_gen.proofs.Growth.{grew-refl, grew-trans, grew-gate, stands-new}
use Rattle.net_gen.proofs.Sensing.{op-copy, op-or, op-is, stands-is}
use Rattle.net_gen.proofs.Wording.{stands-wire}

end-is_of : (i k : ℕ) (x : Wire) → is_end_upto i k x ≡ true → end_instance x ≡ i
end-is_of i k (wires.Go j) e = absurd (cc)
end-is_of i k (wires.End j c) e = eqb-true j.0 i (and_parts (j.0 == i) (nat_le c k) e).0
end-is_of i k (wires.Local j) e = absurd (cc)
end-is_of i k (wires.Out s) e = absurd (cc)

-- the wires of a run are ends of its instance
pub run-passes : (g : Graph) (w : Words) (i k v : ℕ) (d : Wire) → first_end w i ≤ v → v < first_end w i + ends_upto g w i k
    → is_end_upto i k (slice_index_or g.wires.items v d) ≡ true
run-passes g w i k v d low high =
    let first = first_end w i in
    let e : first + (v - first) ≡ v = omega arith in
    let there = get_or-drop first g.wires.items (v - first) d ∙ ap (λ n. slice_index_or g.wires.items n d) e in
    ap (is_end_upto i k) (sym there) ∙ prefix_len_passes (is_end_upto i k) (drop first g.wires.items) (v - first) d (omega arith)

beside-is : (g : Graph) (w : Words) (i k v : ℕ) → first_end w i ≤ v → v < first_end w i + ends_upto g w i k → first_beside g w v ≡ first_end w i
beside-is g w i k v low high =
    let d : Wire = wires.Out (record { 0 = 0 }) in
    ap (first_end w) (end-is_of i k (slice_index_or g.wires.items v d) (run-passes g w i k v d low high))

-- one wire, and one more
run-one : (g : Graph) (first v : ℕ) → v ≡ first → wire_sense g v ≡ run_sense g first (v + 1 - first)
unfolding run_sense wire_sense
run-one g first v e =
    let one : v + 1 - first ≡ 1 = omega arith in
    let here : v ≡ first + 0 = omega arith in
    rw one (λ i t. wire_value g t.occasion (here i))

run-more : (g : Graph) (first v : ℕ) → first ≤ v
    → (λ (t : Instant g). run_sense g first (v - first) t || wire_sense g v t) ≡ run_sense g first (v + 1 - first)
unfolding run_sense wire_sense
run-more g first v low =
    let more : v + 1 - first ≡ suc (v - first) = omega arith in
    let here : v ≡ first + (v - first) = omega arith in
    rw more (λ i t. any_from (wire_value g t.occasion) first (v - first) || wire_value g t.occasion (here i))

run-none : (g : Graph) (first count : ℕ) → count ≡ 0 → (λ (t : Instant g). false) ≡ run_sense g first count
unfolding run_sense
run-none g first count e = rw e refl

-- a run is noted
abbrev with_note : Drawing → ℕ → NetId → Drawing
with_note d v a = record d { ends = slice_set d.ends v (Some a) }

same-stands : (g : Graph) (d : Drawing) (v n : ℕ) (a : NetId) (m : Sense g) → Stands g d n m → Stands g (with_note d v a) n m
same-stands g d v n a m s = record { below = s.below; says = s.says }

note-at : (g : Graph) (w : Words) (d : Drawing) (v : ℕ) (a : NetId) → Sound g w d → Stands g d a.0 (ends_sense g w v) → v < length d.ends
    → (k : ℕ) (n : NetId) → slice_index_or (slice_set d.ends v (Some a)) k None ≡ Some n → Stands g (with_note d v a) n.0 (ends_sense g w k)
note-at g w d v a s h low k n e = elim (cases_lt k v) [
  | inl less ↦
      let ne : k ≢ v = omega arith in
      same-stands g d v n.0 a _ (s.ends k n (sym (get_or-set_other d.ends v k (Some a) None ne) ∙ e))
  | inr more ↦ elim (cases_lt v k) [
    | inl greater ↦
        let ne : k ≢ v = omega arith in
        same-stands g d v n.0 a _ (s.ends k n (sym (get_or-set_other d.ends v k (Some a) None ne) ∙ e))
    | inr most ↦
        let same : k ≡ v = omega arith in
        let noted : slice_index_or (slice_set d.ends v (Some a)) k None ≡ Some a =
        ap (λ j. slice_index_or (slice_set d.ends v (Some a)) j None) same ∙ get_or-set_same d.ends v (Some a) None low in
        let net : a ≡ n = cc in
        subst (λ (x : NetId). Stands g (with_note d v a) x.0 (ends_sense g w k)) net
        (subst (λ j. Stands g (with_note d v a) a.0 (ends_sense g w j)) (sym same) (same-stands g d v a.0 a _ h))
  ]
]

grew-note : (g : Graph) (w : Words) (d : Drawing) (v : ℕ) (a : NetId) → Sound g w d → Stands g d a.0 (ends_sense g w v) → v < length d.ends
    → Grew g w d (with_note d v a)
grew-note g w d v a s h low = record {
  sound = record {
    given = s.given;
    first = s.first;
    numbered = s.numbered;
    reads = s.reads;
    no = same-stands g d v d.no.0 a _ s.no;
    yes = same-stands g d v d.yes.0 a _ s.yes;
    wires = λ k n e. same-stands g d v n.0 a _ (s.wires k n e);
    ends = note-at g w d v a s h low;
    rows = λ k n e. same-stands g d v n.0 a _ (s.rows k n e);
    carrying = s.carrying;
    wires_all = s.wires_all;
    ends_all = length-set d.ends v (Some a) ∙ s.ends_all;
    rows_all = s.rows_all;
  };
  stays = λ n m e. same-stands g d v n a m e;
  wires = refl;
  rows = refl;
  carries = refl;
}

spent-note : (d : Drawing) (v : ℕ) (a : NetId) → v < length d.ends → slice_index_or d.ends v None ≡ None → spent (with_note d v a) + 1 ≡ spent d
spent-note d v a low none =
    let change = sum_by-set spare d.ends v (Some a) None low in
    let one : spare (slice_index_or d.ends v None) ≡ 1 = ap spare none in
    omega arith

-- what a loop over the ends of an instance keeps
pub record RunMade (g : Graph) (w : Words) (old now : Drawing) (so_far : Option NetId) (first count : ℕ) : Type 0 where
  pub grew : Grew g w old now
  pub within : spent now ≤ spent old
  pub run : RunStands g now so_far first count

pub run-begun : (g : Graph) (w : Words) (d : Drawing) (first count : ℕ) → Sound g w d → count ≡ 0 → RunMade g w d d None first count
run-begun g w d first count s e = record { grew = grew-refl g w d s; within = omega arith; run = e }

made-note : (g : Graph) (w : Words) (old mid : Drawing) (first v : ℕ) (a : NetId) → Grew g w old mid → first ≤ v → first_beside g w v ≡ first
    → v < length mid.ends → slice_index_or mid.ends v None ≡ None → spent mid ≤ spent old + 1
    → Stands g mid a.0 (run_sense g first (v + 1 - first)) → RunMade g w old (with_note mid v a) (Some a) first (v + 1 - first)
made-note g w old mid first v a q low beside here none few h =
    let noted : Stands g mid a.0 (ends_sense g w v) = rw beside h in
    let more = grew-note g w mid v a q.sound noted here in
    let less = spent-note mid v a here none in
    record {
      grew = grew-trans g w old mid (with_note mid v a) q more;
      within = omega arith;
      run = (omega arith, same-stands g mid v a.0 a _ h);
    }

run-made : (g : Graph) (w : Words) (old now new : Drawing) (so_far entry : Option NetId) (first v : ℕ) (n : NetId) →
    RunMade g w old now so_far first (v - first)
    → first ≤ v → first_beside g w v ≡ first → v < length now.ends → Placed now.wires v → slice_index_or now.ends v None ≡ entry
    → new ≡ noted_run now so_far v entry → n.0 ≡ noted_number now so_far v entry → NotedFits now so_far entry
    → RunMade g w old new (Some n) first (v + 1 - first)
run-made g w old now new so_far (Some q) first v n m low beside here placed e drawn number room =
    let s = m.grew.sound in
    let there : Stands g now q.0 (run_sense g first (v + 1 - first)) = rw beside at (s.ends v q e) in
    let same : Stands g now n.0 (run_sense g first (v + 1 - first)) = subst (λ k. Stands g now k (run_sense g first (v + 1 - first))) (sym number) there in
    let made : RunMade g w old now (Some n) first (v + 1 - first) = record { grew = m.grew; within = m.within; run = (omega arith, same) } in
    subst (λ d. RunMade g w old d (Some n) first (v + 1 - first)) (sym drawn) made
run-made g w old now new None None first v n m low beside here placed e drawn number room =
    let at : v ≡ first = omega (arith, m.run) in
    let own = stands-wire g w now v m.grew.sound placed in
    let net : net_at now.wires v ≡ n = ap (λ k. let x : NetId = record { 0 = k } in x) (sym number) in
    let h = stands-is g now (net_at now.wires v).0 _ _ (run-one g first v at) own in
    let made = made-note g w old now first v (net_at now.wires v) m.grew low beside here e (omega (arith, m.within)) h in
    subst (λ d. RunMade g w old d (Some n) first (v + 1 - first)) (sym drawn)
    (subst (λ x. RunMade g w old (with_note now v (net_at now.wires v)) (Some x) first (v + 1 - first)) net made)
run-made g w old now new (Some b) None first v n m low beside here placed e drawn number room =
    let s = m.grew.sound in
    let own = stands-wire g w now v s placed in
    let both = op-is g now (Or b (net_at now.wires v)) _ _ (run-more g first v low) (op-or g now b (net_at now.wires v) _ _ m.run.1 own) in
    let mid = with_gate now (Or b (net_at now.wires v)) None in
    let more = grew-gate g w now (Or b (net_at now.wires v)) s both.below room in
    let h = stands-new g now (Or b (net_at now.wires v)) None _ s.first both in
    let longer = length_push now.gates (record { op = Or b (net_at now.wires v); wire = None }) in
    let a : NetId = record { 0 = next_number now } in
    let net : a ≡ n = ap (λ k. let x : NetId = record { 0 = k } in x) (sym number) in
    let made = made-note g w old mid first v a (grew-trans g w old now mid m.grew more) low beside here e (omega (arith, m.within)) h in
    subst (λ d. RunMade g w old d (Some n) first (v + 1 - first)) (sym drawn)
    (subst (λ x. RunMade g w old (with_note mid v a) (Some x) first (v + 1 - first)) net made)

-- one more end
pub run-step : (g : Graph) (w : Words) (old now new : Drawing) (so_far : Option NetId) (i k v : ℕ) (n : NetId)
    → RunMade g w old now so_far (first_end w i) (v - first_end w i) → first_end w i ≤ v → v < first_end w i + ends_upto g w i k → v < length now.ends
    → Placed now.wires v → new ≡ with_run_once now so_far v → n.0 ≡ run_number_once now so_far v → RunFits now so_far v
    → RunMade g w old new (Some n) (first_end w i) (v + 1 - first_end w i)
run-step g w old now new so_far i k v n m low high here placed drawn number room =
    run-made g w old now new so_far (slice_index_or now.ends v None) (first_end w i) v n m low (beside-is g w i k v low high) here placed refl drawn number room

-- the whole run
pub run-some : (g : Graph) (w : Words) (old now : Drawing) (so_far : Option NetId) (n : NetId) (first count : ℕ) → RunMade g w old now so_far first count
    → so_far ≡ Some n → Lowers g w old now (Copy n) (run_sense g first count) 0
run-some g w old now None n first count m is = absurd (cc)
run-some g w old now (Some x) n first count m is =
    let same : x ≡ n = cc in
    record {
      grew = m.grew;
      stands = op-copy g now n _ (subst (λ (y : NetId). Stands g now y.0 (run_sense g first count)) same m.run.1);
      within = omega (arith, m.within);
    }

pub run-empty : (g : Graph) (w : Words) (old now : Drawing) (so_far : Option NetId) (first count : ℕ) → RunMade g w old now so_far first count
    → so_far ≡ None → Lowers g w old now (Copy now.no) (run_sense g first count) 0
run-empty g w old now None first count m is = record {
  grew = m.grew;
  stands = op-is g now (Copy now.no) _ _ (run-none g first count m.run) (op-copy g now now.no _ m.grew.sound.no);
  within = omega (arith, m.within);
}
run-empty g w old now (Some x) first count m is = absurd (cc)
