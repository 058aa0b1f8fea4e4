-- Gates that grow: what a push keeps, and what it adds.
use Rattle.std.proofs.Common.{◌≡◌, ℕ, ◌+◌, ◌<◌, ◌≤◌, ◌^◌, Bool, false, List, [], ◌∷◌, ◌++◌, length, None, refl, sym, ap, ◌∙◌, subst, arith}
use Rattle.std.proofs.Common.{append_assoc, slice_index_or}
use Rattle.std.proofs.lemmas.List.{append-nil, get_or_append_left, get_or_push, get_or-map, length_push}
use Rattle.base_types.specs.declared.indices.NetId.{NetId}
use Rattle.net_ir.specs.declared.netlist.Gate.{Gate}
use Rattle.net_ir.specs.declared.netlist.Op.{Op}
use Rattle.net_ir.specs.Gates.{ReadsLower, carried, gate_values, op_value, operand_end, value_in}
use Rattle.net_ir.proofs.Exports.{ReadsLower-push, carried-silent, gate_values-append, length-gate_values, value_in-gate_values}
use Rattle.net_unroll.specs.declared.growing.Growing.{Growing}
use Rattle.net_unroll.specs.Copies.{AreNets, Grows, IsGrowing, Pushed, net_at, next_number, values_at, values_of}

abbrev silent : Op → Gate
silent op = record { op = op; wire = None }

pub length-values : (g : Growing) (front : List Bool) → length front ≡ g.first → length (values_of g front) ≡ next_number g
length-values g front wide = length-gate_values front g.list.items ∙ ap (λ n. n + length g.list.items) wide

-- the values with one gate more
pub pushed-values : (old new : Growing) (op : Op) (front : List Bool) → Pushed old new op
    → values_of new front ≡ values_of old front ++ op_value (value_in (values_of old front)) op ∷ []
pushed-values old new op front p = ap (gate_values front) p.list ∙ gate_values-append front old.list.items (silent op ∷ [])

pub pushed-number : (old new : Growing) (op : Op) → Pushed old new op → next_number new ≡ next_number old + 1
pushed-number old new op p = let f = p.first in omega (arith, ap length p.list, length_push old.list.items (silent op))

pub pushed-old : (old new : Growing) (op : Op) (front : List Bool) (n : ℕ) → Pushed old new op → length front ≡ old.first → n < next_number old
    → value_in (values_of new front) n ≡ value_in (values_of old front) n
pushed-old old new op front n p wide low =
    let many = length-values old front wide in
    ap (λ vs. value_in vs n) (pushed-values old new op front p)
    ∙ get_or_append_left (values_of old front) (op_value (value_in (values_of old front)) op ∷ []) false n (omega arith)

pub pushed-new : (old new : Growing) (op : Op) (front : List Bool) (n : ℕ) → Pushed old new op → length front ≡ old.first → n ≡ next_number old
    → value_in (values_of new front) n ≡ op_value (value_in (values_of old front)) op
pushed-new old new op front n p wide at =
    let many = length-values old front wide in
    ap (λ vs. value_in vs n) (pushed-values old new op front p)
    ∙ get_or_push (values_of old front) (op_value (value_in (values_of old front)) op) false n (omega arith)

pub pushed-growing : (old new : Growing) (op : Op) → Pushed old new op → IsGrowing old → operand_end op ≤ next_number old → next_number old < 2 ^ 32
    → IsGrowing new
pushed-growing old new op p g low room = record {
  reads = subst (λ f. ReadsLower f new.list.items) (sym p.first)
      (subst (λ l. ReadsLower old.first l) (sym p.list) (ReadsLower-push old.first old.list.items (silent op) g.reads low));
  numbered = let n = pushed-number old new op p in omega arith;
}

pub grows-none : (g : Growing) → IsGrowing g → Grows g g 0
grows-none g is = record { first = refl; more = ([], sym (append-nil g.list.items)); growing = is; many = omega arith; silent = refl }

pub grows-push : (old now new : Growing) (op : Op) (k : ℕ) → Grows old now k → Pushed now new op → operand_end op ≤ next_number now
    → next_number now < 2 ^ 32 → Grows old new (k + 1)
grows-push old now new op k g p low room = record {
  first = p.first ∙ g.first;
  more = (g.more.0 ++ silent op ∷ [], p.list ∙ ap (λ l. l ++ silent op ∷ []) g.more.1 ∙ append_assoc old.list.items g.more.0 (silent op ∷ []));
  growing = pushed-growing now new op p g.growing low room;
  many = let m = g.many in omega (arith, pushed-number now new op p);
  silent = ap carried p.list ∙ carried-silent now.list.items (silent op) refl ∙ g.silent;
}

pub grows-both : (old now new : Growing) (j k : ℕ) → Grows old now j → Grows now new k → Grows old new (j + k)
grows-both old now new j k g h = record {
  first = h.first ∙ g.first;
  more = (g.more.0 ++ h.more.0, h.more.1 ∙ ap (λ l. l ++ h.more.0) g.more.1 ∙ append_assoc old.list.items g.more.0 h.more.0);
  growing = h.growing;
  many = let m = g.many in let n = h.many in omega arith;
  silent = h.silent ∙ g.silent;
}

-- what there is stays
pub grows-value : (old new : Growing) (k : ℕ) (front : List Bool) (n : ℕ) → Grows old new k → length front ≡ old.first → n < next_number old
    → value_in (values_of new front) n ≡ value_in (values_of old front) n
grows-value old new k front n g wide low =
    let many = length-values old front wide in
    ap (λ l. value_in (gate_values front l) n) g.more.1
    ∙ ap (λ vs. value_in vs n) (gate_values-append front old.list.items g.more.0)
    ∙ value_in-gate_values (values_of old front) g.more.0 n (omega arith)

pub nets-stay : (old new : Growing) (k : ℕ) (nets : List NetId) → Grows old new k → AreNets old nets → AreNets new nets
nets-stay old new k nets g are = λ i d low. let m = g.many in let l = are i d low in omega arith

-- the value of a net of a list
pub value-at : (g : Growing) (nets : List NetId) (front : List Bool) (k : ℕ) → k < length nets
    → slice_index_or (values_at g nets front) k false ≡ value_in (values_of g front) (net_at nets k).0
value-at g nets front k low = get_or-map (λ (n : NetId). value_in (values_of g front) n.0) nets k (record { 0 = 0 }) false low
