-- The or of a list of wires, one wire after another.
use Rattle.std.proofs.Common.{◌≡◌, ℕ, ◌+◌, ◌<◌, ◌≤◌, ◌^◌, zero, suc, false, ◌||◌, List, [], ◌∷◌, ◌++◌, length, slice_index_or, refl, sym, ap, ◌∙◌}
use Rattle.std.proofs.Common.{subst, arith, Option, Some, None}
use Rattle.std.specs.List.{list_any}
use Rattle.std.proofs.lemmas.List.{length_push}
use Rattle.std.proofs.lemmas.List.Folds.{list_any-append}
use Rattle.base_facts.proofs.Tests.{or-false}
use Rattle.base_types.specs.declared.indices.NetId.{NetId}
use Rattle.base_types.specs.declared.indices.WireId.{WireId}
use Rattle.grc_graph.specs.declared.graph.Graph.{Graph}
use Rattle.grc_formulas.specs.declared.table.Words.{Words}
use Rattle.net_ir.specs.declared.netlist.Op.{Op}
use Rattle.net_ir.specs.declared.netlist.Op.TheVariants.{Copy, Or}
use Rattle.grc_graph.specs.GateCosts.{any_cost}
use Rattle.net_gen.specs.Drawings.{Drawing, with_net, net_number, with_joined, joined_op, JoinFits}
use Rattle.net_gen.specs.Growing.{Grew, Lowers, Places, Joins}
use Rattle.net_gen.specs.Senses.{Instant, Sense, Sound, Stands, any_sense, wire_sense, wire_value}
use Rattle.net_gen.proofs.Growth.{grew-refl, places-lowered}
use Rattle.net_gen.proofs.Sensing.{op-copy, op-or, op-is, stands-is}

any-one : (g : Graph) (v : WireId) → wire_sense g v.0 ≡ any_sense g (v ∷ [])
unfolding any_sense wire_sense
any-one g v = λ i t. sym (or-false (wire_value g t.occasion v.0)) i

any-value : (g : Graph) (t : Instant g) (list : List WireId) (v : WireId)
    → (list_any (λ (u : WireId). wire_value g t.occasion u.0) list || wire_value g t.occasion v.0)
    ≡ list_any (λ (u : WireId). wire_value g t.occasion u.0) (list ++ v ∷ [])
any-value g t list v =
    let whole = list_any-append (λ (u : WireId). wire_value g t.occasion u.0) list (v ∷ []) in
    let last = or-false (wire_value g t.occasion v.0) in
    cc

any-more : (g : Graph) (list : List WireId) (v : WireId) → (λ (t : Instant g). any_sense g list t || wire_sense g v.0 t) ≡ any_sense g (list ++ v ∷ [])
unfolding any_sense wire_sense
any-more g list v = λ i t. any-value g t list v i

any-none : (g : Graph) → (λ (t : Instant g). false) ≡ any_sense g []
unfolding any_sense
any-none g = refl

cost-more : (n : ℕ) → 0 < n → any_cost n + 1 ≤ any_cost (n + 1)
cost-more zero h = absurd (omega arith)
cost-more (suc n) h = let e : suc n + 1 ≡ suc (suc n) = omega arith in rw e (omega arith)

-- wires are noted as before
pub joins-wires : (g : Graph) (w : Words) (old now : Drawing) (so_far : Option Op) (list : List WireId) → Joins g w old now so_far list → now.wires ≡ old.wires
joins-wires g w old now None list j = ap (λ (d : Drawing). d.wires) j.1
joins-wires g w old now (Some op) list j = j.1.grew.wires

join-first : (g : Graph) (w : Words) (old : Drawing) (own : NetId) (v : WireId) → Sound g w old → slice_index_or old.wires v.0 None ≡ Some own
    → Lowers g w old old (Copy own) (any_sense g (v ∷ [])) 0
join-first g w old own v s e = record {
  grew = grew-refl g w old s;
  stands = op-copy g old own _ (stands-is g old own.0 _ _ (any-one g v) (s.wires v.0 own e));
  within = omega arith;
}

join-next : (g : Graph) (w : Words) (old now new : Drawing) (op : Op) (n own : NetId) (list : List WireId) (v : WireId) (cost : ℕ)
    → Lowers g w old now op (any_sense g list) cost → slice_index_or now.wires v.0 None ≡ Some own → new ≡ with_net now op → n.0 ≡ net_number now op
    → net_number now op < 2 ^ 32 → Lowers g w old new (Or n own) (any_sense g (list ++ v ∷ [])) (cost + 1)
join-next g w old now new op n own list v cost l e drawn number room =
    let p = places-lowered g w old now new op n.0 _ cost l drawn number room in
    let there : slice_index_or new.wires v.0 None ≡ Some own =
    ap (λ ws. slice_index_or ws v.0 None) (p.grew.wires ∙ sym l.grew.wires) ∙ e in
    record {
      grew = p.grew;
      stands = op-is g new (Or n own) _ _ (any-more g list v) (op-or g new n own _ _ p.stands (p.grew.sound.wires v.0 own there));
      within = omega (arith, p.within);
    }

lowers-cost : (g : Graph) (w : Words) (old new : Drawing) (op : Op) (m : Sense g) (a b : ℕ) → a ≤ b → Lowers g w old new op m a → Lowers g w old new op m b
lowers-cost g w old new op m a b h l = record { grew = l.grew; stands = l.stands; within = omega (arith, l.within) }

-- one more wire
pub joins-step : (g : Graph) (w : Words) (old now new : Drawing) (so_far : Option Op) (op : Op) (own : NetId) (list : List WireId) (v : WireId)
    → Sound g w old → Joins g w old now so_far list → slice_index_or now.wires v.0 None ≡ Some own → new ≡ with_joined now so_far
    → op ≡ joined_op now so_far own → JoinFits now so_far → Joins g w old new (Some op) (list ++ v ∷ [])
joins-step g w old now new None op own list v s j e drawn is room =
    let same : new ≡ old = drawn ∙ j.1 in
    let there : slice_index_or old.wires v.0 None ≡ Some own = ap (λ (d : Drawing). slice_index_or d.wires v.0 None) (sym j.1) ∙ e in
    let first = join-first g w old own v s there in
    let longer = length_push list v in (
      omega arith,
      subst (λ xs. Lowers g w old new op (any_sense g (xs ++ v ∷ [])) (any_cost (length (xs ++ v ∷ [])))) (sym j.0)
          (subst (λ d. Lowers g w old d op (any_sense g (v ∷ [])) 0) (sym same)
          (subst (λ o. Lowers g w old old o (any_sense g (v ∷ [])) 0) (sym is) first)),
    )
joins-step g w old now new (Some before) op own list v s j e drawn is room =
    let n : NetId = record { 0 = net_number now before } in
    let next = join-next g w old now new before n own list v (any_cost (length list)) j.1 e drawn refl room in
    let longer = length_push list v in
    let many : any_cost (length list) + 1 ≤ any_cost (length (list ++ v ∷ [])) =
    let more = cost-more (length list) j.0 in subst (λ k. any_cost (length list) + 1 ≤ any_cost k) (sym longer) more in (
      omega arith,
      subst (λ o. Lowers g w old new o (any_sense g (list ++ v ∷ [])) (any_cost (length (list ++ v ∷ [])))) (sym is)
          (lowers-cost g w old new (Or n own) _ _ _ many next),
    )

-- the or of the whole list
pub joins-some : (g : Graph) (w : Words) (old now : Drawing) (so_far : Option Op) (op : Op) (list : List WireId) → Joins g w old now so_far list
    → so_far ≡ Some op → Lowers g w old now op (any_sense g list) (any_cost (length list))
joins-some g w old now None op list j is = absurd (cc)
joins-some g w old now (Some o) op list j is =
    let same : o ≡ op = cc in subst (λ x. Lowers g w old now x (any_sense g list) (any_cost (length list))) same j.1

pub joins-none : (g : Graph) (w : Words) (old now : Drawing) (so_far : Option Op) (list : List WireId) → Sound g w old → Joins g w old now so_far list
    → so_far ≡ None → Lowers g w old now (Copy now.no) (any_sense g list) (any_cost (length list))
joins-none g w old now None list s j is =
    let here : Lowers g w old old (Copy old.no) (any_sense g []) 0 = record {
      grew = grew-refl g w old s;
      stands = op-is g old (Copy old.no) _ _ (any-none g) (op-copy g old old.no _ s.no);
      within = omega arith;
    } in
    subst (λ xs. Lowers g w old now (Copy now.no) (any_sense g xs) (any_cost (length xs))) (sym j.0)
    (subst (λ d. Lowers g w old d (Copy d.no) (any_sense g []) 0) (sym j.1) here)
joins-none g w old now (Some o) list s j is = absurd (cc)
