-- How many gates the formulas of a graph need, by names.
use Rattle.base_types.specs.Codes.{except}
use Rattle.grc_graph.specs.Equations.{resumed_parallel}
use Rattle.grc_graph.specs.GateCosts.{any_cost}
use Rattle.grc_build.proofs.Words.{◌≡◌, ℕ, zero, suc, ◌+◌, ◌≤◌, Bool, true, false, ◌==◌, List, [], ◌∷◌, ◌++◌, length, map, refl, ap, arith, if◌then◌else◌, Span}
use Rattle.grc_build.proofs.Words.{statement_count, codes_if, has_code, started_codes, resumed_codes, Expression, Tick, Sig, Not, And, Or, Term, Nothing, Pause}
use Rattle.grc_build.proofs.Words.{Emit, Exit, Present, Suspend, Seq, Loop, Par, Trap, Local, Awake, part_end, trapped_ends, branch_over, end_formula, Formula}
use Rattle.grc_build.proofs.Words.{Value, Selected, Upto, Negation, Conjunction, Disjunction, any_of, Instance, Layer, Resumed, Started, can_pass, formula_of}
use Rattle.grc_build.proofs.Words.{wire_at, entry_formula, Binding, Entering, Scope, status_formula, test_formula, Entry, Body, Part, Branch, Then, Else}
use Rattle.grc_build.proofs.Words.{Suspended, Second, Looped, Wire, Go, End, instance_codes, operators, cost_of}
use Rattle.grc_graph.specs.declared.formulas.Formula as declared
use Rattle.grc_graph.specs.declared.formulas.Formula.TheVariants as formulas

-- the same as `cost_of`, by names
abbrev pub gates_of : Formula → ℕ
gates_of (Negation a) = gates_of a + 1
gates_of (Conjunction a b) = gates_of a + gates_of b + 1
gates_of (Disjunction a b) = gates_of a + gates_of b + 1
gates_of _ = 0

-- each of these, and one to join it to the others
abbrev pub joined : List Formula → ℕ
joined [] = 0
joined (f ∷ fs) = gates_of f + 1 + joined fs

pub any_gates : (f : Formula) (fs : List Formula) → gates_of (any_of (f ∷ fs)) ≡ gates_of f + joined fs
any_gates f [] = omega arith
any_gates f (g ∷ fs) = omega (arith, any_gates g fs)

pub any_within : (fs : List Formula) → gates_of (any_of fs) ≤ joined fs
any_within [] = omega arith
any_within (f ∷ fs) = omega (arith, any_gates f fs)

pub joined-append : (fs gs : List Formula) → joined (fs ++ gs) ≡ joined fs + joined gs
joined-append [] gs = omega arith
joined-append (f ∷ fs) gs = omega (arith, joined-append fs gs)

pub any_last : (fs : List Formula) (f : Formula) → gates_of (any_of (fs ++ f ∷ [])) ≡ joined fs + gates_of f
any_last [] f = omega arith
any_last (g ∷ fs) f = omega (arith, any_gates g (fs ++ f ∷ []), joined-append fs (f ∷ []))

-- ---- a formula by numbers

any_values : {X : Type 0} (name : X → Wire) (xs : List X) → any_cost (length xs) ≡ gates_of (any_of (map (λ x. Value (name x)) xs))
any_values name [] = refl
any_values name (x ∷ []) = refl
any_values name (x ∷ (y ∷ xs)) = omega (arith, more (length xs), any_values name (y ∷ xs))
  where
    more : (n : ℕ) → any_cost (suc (suc n)) ≡ any_cost (suc n) + 1
    more n = omega arith

pub cost_by_name : (insts : List Instance) (names : List Wire) (f : declared.Formula) → cost_of f ≡ gates_of (formula_of insts names f)
cost_by_name insts names (formulas.Const b) = refl
cost_by_name insts names formulas.Boot = refl
cost_by_name insts names (formulas.Input s) = refl
cost_by_name insts names (formulas.Wire v) = refl
cost_by_name insts names (formulas.Selected p) = refl
cost_by_name insts names (formulas.Upto i k) = refl
cost_by_name insts names (formulas.Kept i) = refl
cost_by_name insts names (formulas.Held i) = refl
cost_by_name insts names (formulas.Not' _ a) = ap (λ n. n + 1) (cost_by_name insts names a)
cost_by_name insts names (formulas.And' _ a _ b) = omega (arith, cost_by_name insts names a, cost_by_name insts names b)
cost_by_name insts names (formulas.Or' _ a _ b) = omega (arith, cost_by_name insts names a, cost_by_name insts names b)
cost_by_name insts names (formulas.AnyOf v) = any_values (λ w. wire_at names w.0) v.items

-- ---- what lets an instance run

status_gates : (b : Binding) (s : ℕ) (l : Layer) → gates_of (status_formula b s l) ≡ 0
status_gates Entering s l = refl
status_gates _ s l = refl

pub tested_gates : (B : Scope) (e : Expression) (l : Layer) → gates_of (test_formula B e l) ≡ operators e
tested_gates B Tick l = refl
tested_gates B (Sig s) l = status_gates (B s) s l
tested_gates B (Not a) l = ap (λ n. n + 1) (tested_gates B a l)
tested_gates B (And a b) l = omega (arith, tested_gates B a l, tested_gates B b l)
tested_gates B (Or a b) l = omega (arith, tested_gates B a l, tested_gates B b l)

-- so many in one kind of layer, and none in the other
abbrev pub where_started : ℕ → Layer → ℕ
where_started k Resumed = 0
where_started k (Started r) = k

abbrev pub where_resumed : ℕ → Layer → ℕ
where_resumed k Resumed = k
where_resumed k (Started r) = 0

-- the operators of the test that lets an instance run
abbrev pub entry_tests : Entry → Layer → ℕ
entry_tests (Then n e) l = where_started (operators e) l
entry_tests (Else n e) l = where_started (operators e) l
entry_tests (Suspended n e) l = where_resumed (operators e) l
entry_tests _ l = 0

pub entry_gates : (B : Scope) (x : Entry) (c : ℕ) (l : Layer) → gates_of (entry_formula B x c l) ≤ 2 + entry_tests x l
entry_gates B Body c Resumed = omega arith
entry_gates B Body c (Started r) = omega arith
entry_gates B (Part n) c l = omega arith
entry_gates B (Branch n) c Resumed = omega arith
entry_gates B (Branch n) c (Started r) = omega arith
entry_gates B (Then n e) c Resumed = omega arith
entry_gates B (Then n e) c (Started r) = omega (arith, tested_gates B e (Started r))
entry_gates B (Else n e) c Resumed = omega arith
entry_gates B (Else n e) c (Started r) = omega (arith, tested_gates B e (Started r))
entry_gates B (Suspended n e) c Resumed = omega (arith, tested_gates B e Resumed)
entry_gates B (Suspended n e) c (Started r) = omega arith
entry_gates B (Second n) c Resumed = omega arith
entry_gates B (Second n) c (Started r) = omega arith
entry_gates B (Looped n) c Resumed = omega arith
entry_gates B (Looped n) c (Started r) = omega arith

-- ---- ends

if_joined : (b : Bool) (f : Formula) → joined (if b then f ∷ [] else []) ≤ gates_of f + 1
if_joined true f = omega arith
if_joined false f = omega arith

part_gates : (A : ℕ → Bool) (c : ℕ) (l : Layer) (k : ℕ) → joined (part_end A c l k) ≤ 1
part_gates A c l k = if_joined (A k) (Value (End c l k))

two_gates : (A C : ℕ → Bool) (c d : ℕ) (i j : Layer) (k m : ℕ) → gates_of (any_of (part_end A c i k ++ part_end C d j m)) ≤ 2
two_gates A C c d i j k m =
    omega (
      arith,
      any_within (part_end A c i k ++ part_end C d j m),
      joined-append (part_end A c i k) (part_end C d j m),
      part_gates A c i k,
      part_gates C d j m,
    )

one_gate : (A : ℕ → Bool) (c : ℕ) (l : Layer) (k : ℕ) → gates_of (any_of (part_end A c l k)) ≤ 1
one_gate A c l k = omega (arith, any_within (part_end A c l k), part_gates A c l k)

trapped_gates : (A : ℕ → Bool) (c : ℕ) (l : Layer) (k : ℕ) → gates_of (any_of (trapped_ends A c l k)) ≤ 2
trapped_gates A c l zero = two_gates A A c c l l 0 2
trapped_gates A c l (suc zero) = omega (arith, one_gate A c l 1)
trapped_gates A c l (suc (suc k)) = omega (arith, one_gate A c l (suc (suc (suc k))))

three_gates : (fs gs hs : List Formula) → joined fs ≤ 1 → joined gs ≤ 1 → joined hs ≤ 1 → gates_of (any_of (fs ++ (gs ++ hs))) ≤ 3
three_gates fs gs hs f g h = omega (arith, any_within (fs ++ (gs ++ hs)), joined-append fs (gs ++ hs), joined-append gs hs)

upto_gates : (b : Bool) (n c k : ℕ)
    → gates_of (any_of ((if b then Conjunction (Selected c) (Upto c Resumed k) ∷ [] else []) ++ branch_over n c ∷ [])) ≤ 4
upto_gates true n c k = omega arith
upto_gates false n c k = omega arith

both_gates : (x y z : Bool) (n c d k : ℕ) → gates_of (any_of (
    ((if x then Conjunction (Selected c) (Value (End c Resumed k)) ∷ [] else []) ++ (if z then branch_over n c ∷ [] else []))
    ++ ((if y then Conjunction (Selected d) (Value (End d Resumed k)) ∷ [] else []) ++ (if z then branch_over n d ∷ [] else []))))
    ≤ 3 + (if z then 6 else 0)
both_gates true true true n c d k = omega arith
both_gates true true false n c d k = omega arith
both_gates true false true n c d k = omega arith
both_gates true false false n c d k = omega arith
both_gates false true true n c d k = omega arith
both_gates false true false n c d k = omega arith
both_gates false false true n c d k = omega arith
both_gates false false false n c d k = omega arith

parallel_gates : (A C : ℕ → Bool) (n c d k : ℕ) → gates_of (resumed_parallel A C n c d k) ≤ 13 + (if k == 0 then 6 else 0)
parallel_gates A C n c d k =
    omega (arith, upto_gates (has_code A) n c k, upto_gates (has_code C) n d k, both_gates (A k) (C k) (k == 0) n c d k)

suspend_gates : (B : Scope) (e : Expression) (fs : List Formula) (n : ℕ) (b : Bool) → joined fs ≤ 1
    → gates_of (any_of (fs ++ (if b then Conjunction (Value (Go n Resumed)) (test_formula B e Resumed) ∷ [] else []))) ≤ 13 + (if b then operators e else 0)
suspend_gates B e fs n true h =
    let f = Conjunction (Value (Go n Resumed)) (test_formula B e Resumed) in
    omega (arith, any_last fs f, tested_gates B e Resumed)
suspend_gates B e fs n false h = omega (arith, any_within (fs ++ []), joined-append fs [])

-- the ends of a sequence and of a loop
pub sequence_gates : (B : Scope) (p q : Term) (n : ℕ) (l : Layer) (k : ℕ) → gates_of (end_formula B (Seq p q) n l k) ≤ 3
sequence_gates B p q n Resumed k =
    let m = n + 1 + statement_count p in
    omega (
      arith,
      three_gates (part_end (except 0 (resumed_codes p)) (n + 1) Resumed k) (part_end (codes_if (can_pass p) (resumed_codes q)) m Resumed k)
          (part_end (codes_if (resumed_codes p 0) (started_codes q)) m (Started m) k) (part_gates (except 0 (resumed_codes p)) (n + 1) Resumed k)
          (part_gates (codes_if (can_pass p) (resumed_codes q)) m Resumed k) (part_gates (codes_if (resumed_codes p 0) (started_codes q)) m (Started m) k),
    )
sequence_gates B p q n (Started r) k =
    omega (
      arith,
      two_gates (except 0 (started_codes p)) (codes_if (started_codes p 0) (started_codes q)) (n + 1) (n + 1 + statement_count p) (Started r) (Started r) k k,
    )

pub loop_gates : (B : Scope) (at : Span) (p : Term) (n : ℕ) (l : Layer) (k : ℕ) → gates_of (end_formula B (Loop at p) n l k) ≤ 2
loop_gates B at p n Resumed k =
    omega (
      arith,
      two_gates (except 0 (resumed_codes p)) (codes_if (resumed_codes p 0) (except 0 (started_codes p))) (n + 1) (n + 1) Resumed (Started (n + 1)) k k,
    )
loop_gates B at p n (Started r) k = omega (arith, one_gate (except 0 (started_codes p)) (n + 1) (Started r) k)

-- the end of a statement that needs more gates than others: which, and how many more
abbrev pub dear_code : Term → ℕ
dear_code (Suspend e p) = 1
dear_code t = 0

abbrev pub dear_gates : Term → Layer → ℕ
dear_gates (Par p q) l = where_resumed 6 l
dear_gates (Suspend e p) l = where_resumed (operators e) l
dear_gates t l = 0

pub end_gates : (B : Scope) (t : Term) (n : ℕ) (l : Layer) (k : ℕ)
    → gates_of (end_formula B t n l k) ≤ 13 + (if k == dear_code t then dear_gates t l else 0)
end_gates B Nothing n l k = omega arith
end_gates B Pause n l k = omega arith
end_gates B (Emit s) n l k = omega arith
end_gates B (Exit c) n l k = omega arith
end_gates B (Present e p q) n l k =
    omega (arith, two_gates (instance_codes p l) (instance_codes q l) (n + 1) (n + 1 + statement_count p) l l k k)
end_gates B (Suspend e p) n Resumed k =
    suspend_gates B e (part_end (resumed_codes p) (n + 1) Resumed k) n (k == 1) (part_gates (resumed_codes p) (n + 1) Resumed k)
end_gates B (Suspend e p) n (Started r) k = omega (arith, one_gate (started_codes p) (n + 1) (Started r) k)
end_gates B (Seq p q) n l k = omega (arith, sequence_gates B p q n l k)
end_gates B (Loop at p) n l k = omega (arith, loop_gates B at p n l k)
end_gates B (Par p q) n Resumed k = parallel_gates (resumed_codes p) (resumed_codes q) n (n + 1) (n + 1 + statement_count p) k
end_gates B (Par p q) n (Started r) k =
    omega (arith, two_gates (started_codes p) (started_codes q) (n + 1) (n + 1 + statement_count p) (Started r) (Started r) k k)
end_gates B (Trap p) n l k = omega (arith, trapped_gates (instance_codes p l) (n + 1) l k)
end_gates B (Local s p) n l k = omega (arith, one_gate (instance_codes p l) (n + 1) l k)
end_gates B (Awake e p) n l k = omega (arith, one_gate (instance_codes p l) (n + 1) l k)
