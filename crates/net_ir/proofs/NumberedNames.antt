-- Names that a text gives to the nets of a netlist: when no two are one.
use Rattle.std.proofs.Common.{◌≡◌, ◌≢◌, ℕ, ◌+◌, ◌<◌, ◌≤◌, ◌^◌, Bool, true, false, not, List, [], ◌∷◌, ◌++◌, length, map, refl, sym, ap, ◌∙◌, arith}
use Rattle.std.proofs.Common.{Option, Some, None, nat_eq, All}
use Rattle.std.specs.Prelude.{option_map, filter_map, decimal, IfSome}
use Rattle.std.specs.List.{list_all, list_any, cons_option}
use lib.Pointwise.{bytes_decides}
use Rattle.std.proofs.lemmas.List.Folds.{list_any-append}
use Rattle.std.proofs.lemmas.Bool.{both_ways, and_parts, or_parts, and_from, or_from, not-true, false_from_ne_true, not_from_false, eqb-false}
use Rattle.std.proofs.lemmas.List.{length-map}
use Rattle.std.proofs.lemmas.List.Elements.{All-tail, All-map}
use Rattle.std.proofs.lemmas.Fmt.{decimal_injective}
use Rattle.base_types.specs.declared.indices.WireId.{WireId}
use Rattle.base_types.specs.Distinct.{all_differ, none_shared}
use Rattle.base_types.specs.Names.{is_same_name}
use Rattle.base_types.proofs.Exports.{same_name-is}
use Rattle.net_ir.specs.declared.netlist.Gate.{Gate}
use Rattle.net_ir.specs.Gates.{carried}
use Rattle.net_ir.specs.Netlists.{Netlist}
use Rattle.net_ir.specs.Numbered.{numbered}
use Rattle.net_ir.specs.Writing.{IsWritable}
use Rattle.net_ir.proofs.Building.{all_differ-append}

-- ---- names that differ

pub differ : (x y : List ℕ) → (x ≢ y) → is_same_name x y ≡ false
differ x y ne = false_from_ne_true (is_same_name x y) (λ same. ne (same_name-is x y same))

pub differ-decimal : (m n : ℕ) → m < 2 ^ 64 → n < 2 ^ 64 → (m ≢ n) → is_same_name (decimal m) (decimal n) ≡ false
differ-decimal m n a b ne = differ (decimal m) (decimal n) (λ e. ne (decimal_injective m n a b e))

-- ---- lists that share no name

abbrev pub Apart : List (List ℕ) → List (List ℕ) → Type 0
Apart xs ys = none_shared is_same_name xs ys ≡ true

pub apart-left : (xs ys zs : List (List ℕ)) → Apart xs zs → Apart ys zs → Apart (xs ++ ys) zs
apart-left [] ys zs a b = b
apart-left (x ∷ xs) ys zs a b =
    let parts = and_parts (not (list_any (is_same_name x) zs)) (none_shared is_same_name xs zs) a in
    and_from (not (list_any (is_same_name x) zs)) (none_shared is_same_name (xs ++ ys) zs) parts.0 (apart-left xs ys zs parts.1 b)

pub apart-right : (xs ys zs : List (List ℕ)) → Apart xs ys → Apart xs zs → Apart xs (ys ++ zs)
apart-right [] ys zs a b = refl
apart-right (x ∷ xs) ys zs a b =
    let y = and_parts (not (list_any (is_same_name x) ys)) (none_shared is_same_name xs ys) a in
    let z = and_parts (not (list_any (is_same_name x) zs)) (none_shared is_same_name xs zs) b in
    rw (list_any-append (is_same_name x) ys zs, not-true (list_any (is_same_name x) ys) y.0, not-true (list_any (is_same_name x) zs) z.0)
    (apart-right xs ys zs y.1 z.1)

pub joined-differ : (xs ys : List (List ℕ)) → all_differ is_same_name xs ≡ true → Apart xs ys → all_differ is_same_name ys ≡ true
    → all_differ is_same_name (xs ++ ys) ≡ true
joined-differ xs ys a b c = all_differ-append is_same_name xs ys ∙ rw (a, b, c) refl

-- ---- a mark of each name tells the kinds of names apart

pub differ-by : (mark : List ℕ → ℕ) (p : ℕ → Bool) (x : List ℕ) (ys : List (List ℕ)) → p (mark x) ≡ true → list_all (λ y. not (p (mark y))) ys ≡ true
    → list_any (is_same_name x) ys ≡ false
differ-by mark p x [] here others = refl
differ-by mark p x (y ∷ ys) here others =
    let parts = and_parts (not (p (mark y))) (list_all (λ z. not (p (mark z))) ys) others in
    or_from (is_same_name x y) (list_any (is_same_name x) ys)
    (differ x y (λ e. both_ways (p (mark y)) (not-true (p (mark y)) parts.0) (ap (λ z. p (mark z)) (sym e) ∙ here)))
    (differ-by mark p x ys here parts.1)

pub apart-by : (mark : List ℕ → ℕ) (p : ℕ → Bool) (xs ys : List (List ℕ)) → list_all (λ x. p (mark x)) xs ≡ true
    → list_all (λ y. not (p (mark y))) ys ≡ true → Apart xs ys
apart-by mark p [] ys here others = refl
apart-by mark p (x ∷ xs) ys here others =
    let parts = and_parts (p (mark x)) (list_all (λ z. p (mark z)) xs) here in
    and_from (not (list_any (is_same_name x) ys)) (none_shared is_same_name xs ys)
    (not_from_false (list_any (is_same_name x) ys) (differ-by mark p x ys parts.0 others)) (apart-by mark p xs ys parts.1 others)

-- ---- within one kind the numbers differ

-- names that are made of different numbers differ
abbrev pub TellsNumbers : (ℕ → List ℕ) → Type 0
TellsNumbers w = (m n : ℕ) → m < 2 ^ 64 → n < 2 ^ 64 → (m ≢ n) → is_same_name (w m) (w n) ≡ false

not_later : {X : Type 0} (w : ℕ → List ℕ) → TellsNumbers w → (m n : ℕ) (xs : List X) → m < n → n + length xs ≤ 2 ^ 64
    → list_any (is_same_name (w m)) (numbered (λ j x. w j) n xs) ≡ false
not_later w tells m n [] low few = refl
not_later w tells m n (x ∷ xs) low few =
    or_from (is_same_name (w m) (w n)) (list_any (is_same_name (w m)) (numbered (λ j x. w j) (n + 1) xs))
    (tells m n (omega arith) (omega arith) (omega arith)) (not_later w tells m (n + 1) xs (omega arith) (omega arith))

pub numbered-differ : {X : Type 0} (w : ℕ → List ℕ) → TellsNumbers w → (n : ℕ) (xs : List X) → n + length xs ≤ 2 ^ 64
    → all_differ is_same_name (numbered (λ j x. w j) n xs) ≡ true
numbered-differ w tells n [] few = refl
numbered-differ w tells n (x ∷ xs) few =
    and_from (not (list_any (is_same_name (w n)) (numbered (λ j x. w j) (n + 1) xs))) (all_differ is_same_name (numbered (λ j x. w j) (n + 1) xs))
    (not_from_false _ (not_later w tells n (n + 1) xs (omega arith) (omega arith))) (numbered-differ w tells (n + 1) xs (omega arith))

-- ---- gates, by their numbers or by the wires that they carry

abbrev wire_numbers : List (Option WireId) → List ℕ
wire_numbers wires = filter_map (λ wire. option_map (λ w. w.0) wire) wires

abbrev AllFit : List (Option WireId) → Type 0
AllFit wires = All (λ wire. IfSome wire (λ w. w.0 < 2 ^ 32)) wires

-- a gate without a wire has a name by its number, and one with a wire by the wire's
pub record TellsGates (w : ℕ → Option WireId → List ℕ) : Type 0 where
  pub numbers : (m n : ℕ) → m < 2 ^ 64 → n < 2 ^ 64 → (m ≢ n) → is_same_name (w m None) (w n None) ≡ false
  pub kinds : (m n : ℕ) (v : WireId) → is_same_name (w m None) (w n (Some v)) ≡ false
  pub wires : (m n : ℕ) (u v : WireId) → u.0 < 2 ^ 64 → v.0 < 2 ^ 64 → (u.0 ≢ v.0) → is_same_name (w m (Some u)) (w n (Some v)) ≡ false

gate-differ : (w : ℕ → Option WireId → List ℕ) → TellsGates w → (m n : ℕ) (wire : Option WireId) → m < 2 ^ 64 → n < 2 ^ 64 → (m ≢ n)
    → is_same_name (w m None) (w n wire) ≡ false
gate-differ w tells m n None a b ne = tells.numbers m n a b ne
gate-differ w tells m n (Some v) a b ne = tells.kinds m n v

no_later_gate : (w : ℕ → Option WireId → List ℕ) → TellsGates w → (m n : ℕ) (wires : List (Option WireId)) → m < n → n + length wires ≤ 2 ^ 64
    → list_any (is_same_name (w m None)) (numbered w n wires) ≡ false
no_later_gate w tells m n [] low few = refl
no_later_gate w tells m n (wire ∷ wires) low few =
    or_from (is_same_name (w m None) (w n wire)) (list_any (is_same_name (w m None)) (numbered w (n + 1) wires))
    (gate-differ w tells m n wire (omega arith) (omega arith) (omega arith)) (no_later_gate w tells m (n + 1) wires (omega arith) (omega arith))

kinds-back : (w : ℕ → Option WireId → List ℕ) → TellsGates w → (m n : ℕ) (v : WireId) → is_same_name (w m (Some v)) (w n None) ≡ false
kinds-back w tells m n v =
    differ (w m (Some v)) (w n None)
    (λ e. both_ways (is_same_name (w n None) (w m (Some v))) (tells.kinds n m v) ((bytes_decides (w n None) (w m (Some v))).1 (sym e)))

no_later_wire : (w : ℕ → Option WireId → List ℕ) → TellsGates w → (u : WireId) (m n : ℕ) (wires : List (Option WireId)) → u.0 < 2 ^ 32 → AllFit wires
    → list_any (nat_eq u.0) (wire_numbers wires) ≡ false → list_any (is_same_name (w m (Some u))) (numbered w n wires) ≡ false
no_later_wire w tells u m n [] small fit none = refl
no_later_wire w tells u m n (None ∷ wires) small fit none =
    or_from (is_same_name (w m (Some u)) (w n None)) (list_any (is_same_name (w m (Some u))) (numbered w (n + 1) wires)) (kinds-back w tells m n u)
    (no_later_wire w tells u m (n + 1) wires small (All-tail (λ wire. IfSome wire (λ v. v.0 < 2 ^ 32)) None wires fit) none)
no_later_wire w tells u m n (Some v ∷ wires) small fit none =
    let parts = or_parts (nat_eq u.0 v.0) (list_any (nat_eq u.0) (wire_numbers wires)) none in
    let v_fits : v.0 < 2 ^ 32 = fit 0 (Some v) (omega arith) in
    or_from (is_same_name (w m (Some u)) (w n (Some v))) (list_any (is_same_name (w m (Some u))) (numbered w (n + 1) wires))
    (tells.wires m n u v (omega arith) (omega arith) (eqb-false u.0 v.0 parts.0))
    (no_later_wire w tells u m (n + 1) wires small (All-tail (λ wire. IfSome wire (λ x. x.0 < 2 ^ 32)) (Some v) wires fit) parts.1)

wires-differ : (w : ℕ → Option WireId → List ℕ) → TellsGates w → (n : ℕ) (wires : List (Option WireId)) → n + length wires ≤ 2 ^ 64 → AllFit wires
    → all_differ nat_eq (wire_numbers wires) ≡ true → all_differ is_same_name (numbered w n wires) ≡ true
wires-differ w tells n [] few fit once = refl
wires-differ w tells n (None ∷ wires) few fit once =
    and_from (not (list_any (is_same_name (w n None)) (numbered w (n + 1) wires))) (all_differ is_same_name (numbered w (n + 1) wires))
    (not_from_false _ (no_later_gate w tells n (n + 1) wires (omega arith) (omega arith)))
    (wires-differ w tells (n + 1) wires (omega arith) (All-tail (λ wire. IfSome wire (λ x. x.0 < 2 ^ 32)) None wires fit) once)
wires-differ w tells n (Some u ∷ wires) few fit once =
    let parts = and_parts (not (list_any (nat_eq u.0) (wire_numbers wires))) (all_differ nat_eq (wire_numbers wires)) once in
    let rest = All-tail (λ wire. IfSome wire (λ x. x.0 < 2 ^ 32)) (Some u) wires fit in
    and_from (not (list_any (is_same_name (w n (Some u))) (numbered w (n + 1) wires))) (all_differ is_same_name (numbered w (n + 1) wires))
    (not_from_false _ (no_later_wire w tells u n (n + 1) wires (fit 0 (Some u) (omega arith)) rest (not-true _ parts.0)))
    (wires-differ w tells (n + 1) wires (omega arith) rest parts.1)

numbered-of_map : {X Y Z : Type 0} (f : ℕ → Y → Z) (g : X → Y) (n : ℕ) (xs : List X) → numbered (λ k x. f k (g x)) n xs ≡ numbered f n (map g xs)
numbered-of_map f g n [] = refl
numbered-of_map f g n (x ∷ xs) = ap (λ l. f n (g x) ∷ l) (numbered-of_map f g (n + 1) xs)

carried-wires : (gates : List Gate) → carried gates ≡ wire_numbers (map (λ g. g.wire) gates)
carried-wires [] = refl
carried-wires (g ∷ gates) = ap (cons_option (option_map (λ (w : WireId). w.0) g.wire)) (carried-wires gates)

pub gates-differ : (w : ℕ → Option WireId → List ℕ) → TellsGates w → (net : Netlist) → IsWritable net
    → all_differ is_same_name (numbered (λ k gate. w k gate.wire) 0 net.gates) ≡ true
gates-differ w tells net is =
    let few = is.is_net.numbered in
    let wires = map (λ (g : Gate). g.wire) net.gates in
    let once : all_differ nat_eq (wire_numbers wires) ≡ true = ap (all_differ nat_eq) (sym (carried-wires net.gates)) ∙ is.is_net.carries_once in
    let fit = All-map (λ (wire : Option WireId). IfSome wire (λ w. w.0 < 2 ^ 32)) (λ (g : Gate). g.wire) net.gates is.wires_fit in
    ap (all_differ is_same_name) (numbered-of_map w (λ (g : Gate). g.wire) 0 net.gates)
    ∙ wires-differ w tells 0 wires (omega (arith, length-map net.gates (λ (g : Gate). g.wire))) fit once
