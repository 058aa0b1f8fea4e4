-- Inner: the names of a net's parts: what they are, and that no two are one.
use Rattle.std.proofs.Common.{suc, ◌≡◌, ℕ, ◌+◌, ◌-◌, ◌<◌, ◌≤◌, ◌==◌, Bool, true, false, not, ◌||◌, List, [], ◌∷◌, ◌++◌, length}
use Rattle.std.proofs.Common.{map, get_or, refl, ap, ◌∙◌, arith, Option, Some, None}
use Rattle.std.specs.Prelude.{find, option_and_then, nat_lt}
use Rattle.std.specs.List.{list_all, list_any}
use Rattle.std.proofs.lemmas.Bool.{and_parts, and_from, or_parts, or_left, or_right, lt-ltb, le-ltb, false≢true}
use Rattle.std.proofs.lemmas.List.Folds.{list_any-append, list_any_at}
use Rattle.std.proofs.lemmas.Option.{slice_get-get_or}
use Rattle.base_types.specs.declared.indices.WireId.{WireId}
use Rattle.base_types.specs.Distinct.{all_differ}
use Rattle.base_types.specs.Names.{is_name, is_same_name}
use Rattle.base_types.proofs.Exports.{same_name-self}
use Rattle.net_ir.specs.declared.netlist.Op.TheVariants as ops
use Rattle.net_ir.specs.declared.netlist.Gate.{Gate}
use Rattle.net_ir.specs.declared.netlist.Latch.{Latch}
use Rattle.net_ir.specs.declared.netlist.NetOut.{NetOut}
use Rattle.net_ir.specs.Gates.{operand_end}
use Rattle.net_ir.specs.NameLists.{is_among}
use Rattle.net_ir.specs.Netlists.{Netlist, first_gate, wire_at}
use Rattle.net_ir.specs.Numbered.{numbered}
use Rattle.net_ir.specs.Writing.{IsWritable}
use Rattle.net_ir.proofs.Exports.{length-numbered, get_or-numbered, TellsGates, apart-by, differ-decimal, gates-differ, joined-differ, numbered-differ}
use Rattle.net_expressions.specs.NetNames.{state_name, gate_name, gate_names, name_of_net}

-- ---- the first byte tells kinds of names apart

-- the first byte, or 0 where there is none
abbrev pub mark : List ℕ → ℕ
mark [] = 0
mark (c ∷ cs) = c

-- the names of the latches
abbrev pub state_names : Netlist → List (List ℕ)
state_names net = numbered (λ j latch. state_name j) 0 net.latches

pub all-numbered : {X : Type 0} (p : List ℕ → Bool) (f : ℕ → X → List ℕ) (n : ℕ) (xs : List X) → ((k : ℕ) (x : X) → p (f k x) ≡ true) →
    list_all p (numbered f n xs) ≡ true
all-numbered p f n [] each = refl
all-numbered p f n (x ∷ xs) each = and_from (p (f n x)) (list_all p (numbered f (n + 1) xs)) (each n x) (all-numbered p f (n + 1) xs each)

pub all-mapped : {X : Type 0} (p : List ℕ → Bool) (f : X → List ℕ) (xs : List X) → ((x : X) → p (f x) ≡ true) → list_all p (map f xs) ≡ true
all-mapped p f [] each = refl
all-mapped p f (x ∷ xs) each = and_from (p (f x)) (list_all p (map f xs)) (each x) (all-mapped p f xs each)

pub marks-states : (net : Netlist) (p : ℕ → Bool) → p 115 ≡ true → list_all (λ x. p (mark x)) (state_names net) ≡ true
marks-states net p holds = all-numbered (λ x. p (mark x)) (λ j latch. state_name j) 0 net.latches (λ k x. holds)

mark-gate : (p : ℕ → Bool) (k : ℕ) (wire : Option WireId) → p 103 ≡ true → p 119 ≡ true → p (mark (gate_name k wire)) ≡ true
mark-gate p k None g w = g
mark-gate p k (Some wire) g w = w

pub marks-gates : (net : Netlist) (p : ℕ → Bool) → p 103 ≡ true → p 119 ≡ true → list_all (λ x. p (mark x)) (gate_names net) ≡ true
marks-gates net p g w = all-numbered (λ x. p (mark x)) (λ k gate. gate_name k gate.wire) 0 net.gates (λ k gate. mark-gate p k gate.wire g w)

-- the names of gates, by their numbers or by their wires
tells-gates : TellsGates gate_name
tells-gates = record { numbers = λ m n a b ne. differ-decimal m n a b ne; kinds = λ m n v. refl; wires = λ m n u v a b ne. differ-decimal u.0 v.0 a b ne }

pub differ-states : (net : Netlist) → IsWritable net → all_differ is_same_name (state_names net) ≡ true
differ-states net is =
    let few = is.is_net.numbered in numbered-differ state_name differ-decimal 0 net.latches (omega arith)

pub differ-gates : (net : Netlist) → IsWritable net → all_differ is_same_name (gate_names net) ≡ true
differ-gates net is = gates-differ gate_name tells-gates net is

-- two bytes in front tell nothing
any-marked : {X : Type 0} (c d : ℕ) (x : List ℕ) (f : X → List ℕ) (xs : List X) → (c == c) ≡ true → (d == d) ≡ true
    → list_any (is_same_name (c ∷ d ∷ x)) (map (λ y. c ∷ d ∷ f y) xs) ≡ list_any (is_same_name x) (map f xs)
any-marked c d x f [] e g = refl
any-marked c d x f (y ∷ xs) e g = rw (e, g) (ap (λ b. is_same_name x (f y) || b) (any-marked c d x f xs e g))

pub marked-differ : {X : Type 0} (c d : ℕ) (f : X → List ℕ) (xs : List X) → (c == c) ≡ true → (d == d) ≡ true
    → all_differ is_same_name (map (λ y. c ∷ d ∷ f y) xs) ≡ all_differ is_same_name (map f xs)
marked-differ c d f [] e g = refl
marked-differ c d f (x ∷ xs) e g = rw (any-marked c d (f x) f xs e g, marked-differ c d f xs e g) refl

-- names of one kind in front of those of others
pub in-front : (p : ℕ → Bool) (xs ys : List (List ℕ)) → all_differ is_same_name xs ≡ true → list_all (λ x. p (mark x)) xs ≡ true →
    list_all (λ y. not (p (mark y))) ys ≡ true
    → all_differ is_same_name ys ≡ true → all_differ is_same_name (xs ++ ys) ≡ true
in-front p xs ys a here others b = joined-differ xs ys a (apart-by mark p xs ys here others) b

pub all-both : (p : List ℕ → Bool) (xs ys : List (List ℕ)) → list_all p xs ≡ true → list_all p ys ≡ true → list_all p (xs ++ ys) ≡ true
all-both p [] ys a b = b
all-both p (x ∷ xs) ys a b = let parts = and_parts (p x) (list_all p xs) a in and_from (p x) (list_all p (xs ++ ys)) parts.0 (all-both p xs ys parts.1 b)

-- an element of a numbered list is among its names
pub among-numbered : {X : Type 0} (f : ℕ → X → List ℕ) (xs : List X) (k : ℕ) (d : X) → k < length xs → is_among (f k (get_or xs k d)) (numbered f 0 xs) ≡ true
among-numbered f xs k d h =
    let n = length-numbered f 0 xs in
    let z : 0 + k ≡ k = omega arith in
    let at : get_or (numbered f 0 xs) k [] ≡ f k (get_or xs k d) = get_or-numbered f 0 xs k [] d h ∙ ap (λ m. f m (get_or xs k d)) z in
    list_any_at (is_same_name (f k (get_or xs k d))) (numbered f 0 xs) k [] (omega arith)
    (ap (is_same_name (f k (get_or xs k d))) at ∙ same_name-self (f k (get_or xs k d)))

pub among-left : (x : List ℕ) (xs ys : List (List ℕ)) → is_among x xs ≡ true → is_among x (xs ++ ys) ≡ true
among-left x xs ys h = list_any-append (is_same_name x) xs ys ∙ or_left (is_among x xs) (is_among x ys) h

pub among-right : (x : List ℕ) (xs ys : List (List ℕ)) → is_among x ys ≡ true → is_among x (xs ++ ys) ≡ true
among-right x xs ys h = list_any-append (is_same_name x) xs ys ∙ or_right (is_among x xs) (is_among x ys) h

abbrev pub any_gate : Gate
any_gate = record { op = ops.Const false; wire = None }

abbrev pub any_latch : Latch
any_latch = record { init = false; from = record { 0 = 0 } }

pub find-none : {X : Type 0} (p : X → Bool) (xs : List X) → list_any p xs ≡ false → find p xs ≡ None
find-none p [] none = refl
find-none p (x ∷ xs) none = let parts = or_parts (p x) (list_any p xs) none in rw parts.0 (find-none p xs parts.1)

abbrev pub any_output : NetOut
any_output = record { name = []; net = record { 0 = 0 } }

pub gate-low : (net : Netlist) → IsWritable net → (k : ℕ) → k < length net.gates → operand_end (get_or net.gates k any_gate).op ≤ first_gate net + k
gate-low net is k h = is.is_net.reads_lower k any_gate h

-- a name behind two bytes
pub long-name : (name : List ℕ) → is_name name ≡ true → nat_lt 2 (suc (suc (length name))) ≡ true
long-name [] fits = absurd (false≢true fits)
long-name (c ∷ cs) fits = lt-ltb 2 (suc (suc (suc (length cs)))) (omega arith)

-- ---- the name of a net

pub net_name-input : (input : ℕ → List ℕ) (net : Netlist) (n : ℕ) → n < length net.inputs → name_of_net input net n ≡ input n
net_name-input input net n h = rw (lt-ltb n (length net.inputs) h) refl

pub net_name-state : (input : ℕ → List ℕ) (net : Netlist) (j : ℕ) → j < length net.latches → name_of_net input net (length net.inputs + j) ≡ state_name j
net_name-state input net j h =
    let e : length net.inputs + j - length net.inputs ≡ j = omega arith in
    rw (
      le-ltb (length net.inputs + j) (length net.inputs) (omega arith),
      lt-ltb (length net.inputs + j) (length net.inputs + length net.latches) (omega arith),
    ) (ap state_name e)

pub net_name-gate : (input : ℕ → List ℕ) (net : Netlist) (k : ℕ) (d : Gate) → k < length net.gates
    → name_of_net input net (first_gate net + k) ≡ gate_name k (get_or net.gates k d).wire
net_name-gate input net k d h =
    let e : first_gate net + k - first_gate net ≡ k = omega arith in
    rw (le-ltb (first_gate net + k) (length net.inputs) (omega arith), le-ltb (first_gate net + k) (first_gate net) (omega arith))
    (ap (λ i. gate_name i (wire_at net.gates i)) e ∙ ap (λ o. gate_name k (option_and_then (λ (g : Gate). g.wire) o)) (slice_get-get_or net.gates k d h))
