-- Gates that read less have the same values.
use Rattle.std.proofs.Common.{◌≡◌, ◌<◌, ◌+◌, ℕ, Bool, true, false, not, ◌&&◌, ◌||◌, List, [], ◌∷◌, ◌++◌, length, get_or, refl, sym}
use Rattle.std.proofs.Common.{All, None, ap, ◌∙◌, subst, arith, take, ⊎_elim}
use Rattle.std.proofs.lemmas.Bool.{cases_lt}
use Rattle.std.proofs.lemmas.List.{get_or_append_left, get_or_default, get_or_push, length_push}
use Rattle.base_types.specs.declared.indices.NetId.{NetId}
use Rattle.net_ir.specs.declared.netlist.Gate.{Gate}
use Rattle.net_ir.specs.declared.netlist.Op.{Op}
use Rattle.net_ir.specs.declared.netlist.Op.TheVariants.{Const, Copy, And, Or}
use Rattle.net_ir.specs.Gates.{ReadsLower, Solves, gate_values, value_in}
use Rattle.net_ir.proofs.Exports.{Solves-gate_values, carried-silent, gate_values-from_Solves, length-gate_values, take-gate_values}
use Rattle.net_ir.specs.Netlists.{Netlist, first_gate}
use Rattle.net_relations.specs.Implications.{AreStripped, AreStrippedTo, Entails, Holds, IsStripped, Solved, StandsForNet, opposite}
use Rattle.net_relations.specs.declared.implications.Implication.{Implication}
use Rattle.net_relations.specs.declared.implications.Signed.{Signed}
use Rattle.net_relations.proofs.Implied.{value-opposite}

pub stripped_same : (net : Netlist) (known : List Implication) (op : Op) → IsStripped net known op op
stripped_same net known op = record { reads = omega arith; value = λ v solved all. refl }

-- ---- Boolean laws

never-both : (x y : Bool) → (x ≡ true → not y ≡ true) → false ≡ (x && y)
never-both true true h = h refl
never-both true false h = refl
never-both false y h = refl

and-first : (x y : Bool) → (x ≡ true → y ≡ true) → (x && y) ≡ x
and-first true y h = h refl
and-first false y h = refl

and-second : (x y : Bool) → (y ≡ true → x ≡ true) → (x && y) ≡ y
and-second true y h = refl
and-second false true h = h refl
and-second false false h = refl

always-one : (x y : Bool) → (not x ≡ true → y ≡ true) → true ≡ (x || y)
always-one true y h = refl
always-one false y h = sym (h refl)

or-second : (x y : Bool) → (x ≡ true → y ≡ true) → (x || y) ≡ y
or-second true y h = sym (h refl)
or-second false y h = refl

or-first : (x y : Bool) → (y ≡ true → x ≡ true) → (x || y) ≡ x
or-first true y h = refl
or-first false true h = sym (h refl)
or-first false false h = refl

-- ---- gates

-- an implication of two signed nets, in the values of the nets that they stand for
between : (net : Netlist) (known : List Implication) (a b : NetId) (left right : Signed) → StandsForNet net a.0 false left
    → StandsForNet net b.0 false right
    → Entails net known (record { cause = left; effect = right })
    → (v : List Bool) → Solved net v → All (Holds v) known → value_in v a.0 ≡ true → value_in v b.0 ≡ true
between net known a b left right is-a is-b h v solved all is =
    sym (is-b.value v solved) ∙ h v solved all (is-a.value v solved ∙ is)

between-not : (net : Netlist) (known : List Implication) (a b : NetId) (left right : Signed) → StandsForNet net a.0 false left
    → StandsForNet net b.0 false right
    → Entails net known (record { cause = left; effect = opposite right })
    → (v : List Bool) → Solved net v → All (Holds v) known → value_in v a.0 ≡ true → not (value_in v b.0) ≡ true
between-not net known a b left right is-a is-b h v solved all is =
    ap not (sym (is-b.value v solved)) ∙ sym (value-opposite v right) ∙ h v solved all (is-a.value v solved ∙ is)

not-between : (net : Netlist) (known : List Implication) (a b : NetId) (left right : Signed) → StandsForNet net a.0 false left
    → StandsForNet net b.0 false right
    → Entails net known (record { cause = opposite left; effect = right })
    → (v : List Bool) → Solved net v → All (Holds v) known → not (value_in v a.0) ≡ true → value_in v b.0 ≡ true
not-between net known a b left right is-a is-b h v solved all is =
    sym (is-b.value v solved) ∙ h v solved all (value-opposite v left ∙ ap not (is-a.value v solved) ∙ is)

pub and_never : (net : Netlist) (known : List Implication) (a b : NetId) (left right : Signed) → StandsForNet net a.0 false left
    → StandsForNet net b.0 false right
    → Entails net known (record { cause = left; effect = opposite right }) → IsStripped net known (And a b) (Const false)
and_never net known a b left right is-a is-b h = record {
  reads = omega arith;
  value = λ v solved all. never-both (value_in v a.0) (value_in v b.0) (between-not net known a b left right is-a is-b h v solved all);
}

pub and_left : (net : Netlist) (known : List Implication) (a b : NetId) (left right : Signed) → StandsForNet net a.0 false left
    → StandsForNet net b.0 false right
    → Entails net known (record { cause = left; effect = right }) → IsStripped net known (And a b) (Copy a)
and_left net known a b left right is-a is-b h = record {
  reads = omega arith;
  value = λ v solved all. sym (and-first (value_in v a.0) (value_in v b.0) (between net known a b left right is-a is-b h v solved all));
}

pub and_right : (net : Netlist) (known : List Implication) (a b : NetId) (left right : Signed) → StandsForNet net a.0 false left
    → StandsForNet net b.0 false right
    → Entails net known (record { cause = right; effect = left }) → IsStripped net known (And a b) (Copy b)
and_right net known a b left right is-a is-b h = record {
  reads = omega arith;
  value = λ v solved all. sym (and-second (value_in v a.0) (value_in v b.0) (between net known b a right left is-b is-a h v solved all));
}

pub or_always : (net : Netlist) (known : List Implication) (a b : NetId) (left right : Signed) → StandsForNet net a.0 false left
    → StandsForNet net b.0 false right
    → Entails net known (record { cause = opposite left; effect = right }) → IsStripped net known (Or a b) (Const true)
or_always net known a b left right is-a is-b h = record {
  reads = omega arith;
  value = λ v solved all. always-one (value_in v a.0) (value_in v b.0) (not-between net known a b left right is-a is-b h v solved all);
}

pub or_right : (net : Netlist) (known : List Implication) (a b : NetId) (left right : Signed) → StandsForNet net a.0 false left
    → StandsForNet net b.0 false right
    → Entails net known (record { cause = left; effect = right }) → IsStripped net known (Or a b) (Copy b)
or_right net known a b left right is-a is-b h = record {
  reads = omega arith;
  value = λ v solved all. sym (or-second (value_in v a.0) (value_in v b.0) (between net known a b left right is-a is-b h v solved all));
}

pub or_left : (net : Netlist) (known : List Implication) (a b : NetId) (left right : Signed) → StandsForNet net a.0 false left
    → StandsForNet net b.0 false right
    → Entails net known (record { cause = right; effect = left }) → IsStripped net known (Or a b) (Copy a)
or_left net known a b left right is-a is-b h = record {
  reads = omega arith;
  value = λ v solved all. sym (or-first (value_in v a.0) (value_in v b.0) (between net known b a right left is-b is-a h v solved all));
}

-- ---- gates in their order

pub stripped_none : (net : Netlist) (known : List Implication) → AreStrippedTo net known 0 []
stripped_none net known = record { count = refl; silent = refl; each = λ k d h. absurd (omega arith) }

pub stripped_more : (net : Netlist) (known : List Implication) (k : ℕ) (gates : List Gate) (any new : Gate) → AreStrippedTo net known k gates
    → new.wire ≡ None → k < length net.gates → IsStripped net known (get_or net.gates k any).op new.op
    → AreStrippedTo net known (k + 1) (gates ++ new ∷ [])
stripped_more net known k gates any new all none inside is = record {
  count = omega (arith, length_push gates new, all.count);
  silent = carried-silent gates new none ∙ all.silent;
  each = λ j d h. ⊎_elim
      (λ low. subst (λ (g : Gate). IsStripped net known (get_or net.gates j d).op g.op)
      (sym (get_or_append_left gates (new ∷ []) d j (omega (arith, all.count)))) (all.each j d low))
      (λ high.
      let at : k ≡ j = omega (arith, high, h) in
      let item : get_or net.gates k any ≡ get_or net.gates k d = get_or_default net.gates k any d inside in
      let last : new ≡ get_or (gates ++ new ∷ []) k d = sym (get_or_push gates new d k all.count) in
      subst (λ n. IsStripped net known (get_or net.gates n d).op (get_or (gates ++ new ∷ []) n d).op) at
      (subst (λ (g : Gate). IsStripped net known g.op (get_or (gates ++ new ∷ []) k d).op) item
      (subst (λ (g : Gate). IsStripped net known (get_or net.gates k any).op g.op) last is)))
      (cases_lt j k);
}

-- ---- the whole netlist

pub stripped_reads : (net : Netlist) (known : List Implication) (gates : List Gate) → AreStripped net known gates → ReadsLower (first_gate net) net.gates
    → ReadsLower (first_gate net) gates
stripped_reads net known gates all reads = λ k d h.
    let inside : k < length net.gates = omega (arith, all.count) in
    omega (arith, (all.each k d inside).reads, reads k d inside)

pub stripped_values : (net : Netlist) (known : List Implication) (gates : List Gate) (given : List Bool) → length given ≡ first_gate net
    → ReadsLower (first_gate net) net.gates → AreStripped net known gates → All (Holds (gate_values given net.gates)) known
    → gate_values given gates ≡ gate_values given net.gates
stripped_values net known gates given wide reads all holds =
    let v = gate_values given net.gates in
    let solved : Solves (first_gate net) net.gates v = Solves-gate_values (first_gate net) given net.gates wide reads in
    let again : Solves (first_gate net) gates v = λ k d h.
    let inside : k < length net.gates = omega (arith, all.count) in
    solved k d inside ∙ sym ((all.each k d inside).value v solved holds) in
    let long : length v ≡ first_gate net + length gates = omega (arith, length-gate_values given net.gates, all.count) in
    let front = ap (λ n. take n v) (sym wide) ∙ take-gate_values given net.gates in
    sym (gate_values-from_Solves (first_gate net) gates v (stripped_reads net known gates all reads) long again ∙ ap (λ x. gate_values x gates) front)
