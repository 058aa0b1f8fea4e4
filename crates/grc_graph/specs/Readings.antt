-- To believe: what formulas mean in a state and an event, over Boolean values of the wires.
use Rattle.std.specs.Prelude.{ℕ, ◌+◌, Bool, true, false, not, ◌==◌, ◌&&◌, ◌||◌, nat_lt, if◌then◌else◌}
use Rattle.base_types.specs.Codes.{upto}
use Rattle.est_kernel.specs.Terms.{Term, Nothing, Pause, Emit, Exit, Present, Suspend, Seq, Loop, Par, Trap, Local}
use Rattle.est_kernel.specs.Terms.{Awake}
use Rattle.est_kernel.specs.Preorder.{statement_count}
use Rattle.grc_graph.specs.Layers.{Layer, Resumed, layer_above, same_layer}
use Rattle.grc_graph.specs.Scopes.{Binding, Entering, Outgoing, BoundAt, Unbound, Scope, bind}
use Rattle.grc_graph.specs.Wires.{Wire, Out, Go, StatusOf, End}
use Rattle.grc_graph.specs.Formulas.{Interpretation}
use Rattle.grc_graph.specs.Residuals.{holds}
use Rattle.grc_graph.specs.Walk.{State, Initial, Selecting, Values, truth, is_initial}

-- A value for each wire name; what is no wire of the graph has the value false.
abbrev pub Valuation : Type 0
Valuation = Wire → Bool

-- the value of a signal with this binding, as a place in this layer sees it: what the event gives of one that only
-- enters, else that of its status wire
abbrev pub seen_value : Values → Valuation → Binding → ℕ → Layer → Bool
seen_value given V Entering s l = given s
seen_value given V Outgoing s l = V (Out s)
seen_value given V (BoundAt b) s l = V (StatusOf b (layer_above b l))
seen_value given V Unbound s l = false

-- the values of all signals, as a place sees them
abbrev pub seen_values : Values → Valuation → Scope → Layer → Values
seen_values given V B l = λ s. seen_value given V (B s) s l

-- whether the statement with the number m, in a statement at n, holds a selected pause
abbrev pub holds_at : (ℕ → Bool) → Term → ℕ → ℕ → Bool
holds_at S Nothing n m = false
holds_at S Pause n m = S n
holds_at S (Emit s) n m = false
holds_at S (Exit k) n m = false
holds_at S (Present e p q) n m =
    if m == n then holds S (Present e p q) n
    else if nat_lt m (n + 1 + statement_count p) then holds_at S p (n + 1) m else holds_at S q
    (n + 1 + statement_count p) m
holds_at S (Suspend e p) n m = if m == n then holds S (Suspend e p) n else holds_at S p (n + 1) m
holds_at S (Seq p q) n m =
    if m == n then holds S (Seq p q) n
    else if nat_lt m (n + 1 + statement_count p) then holds_at S p (n + 1) m else holds_at S q
    (n + 1 + statement_count p) m
holds_at S (Loop at p) n m = if m == n then holds S (Loop at p) n else holds_at S p (n + 1) m
holds_at S (Par p q) n m =
    if m == n then holds S (Par p q) n
    else if nat_lt m (n + 1 + statement_count p) then holds_at S p (n + 1) m else holds_at S q
    (n + 1 + statement_count p) m
holds_at S (Trap p) n m = if m == n then holds S (Trap p) n else holds_at S p (n + 1) m
holds_at S (Local s p) n m = if m == n then holds S (Local s p) n else holds_at S p (n + 1) m
holds_at S (Awake e p) n m = false

-- in the first instant no pause is selected
abbrev pub state_holds_at : State → Term → ℕ → Bool
state_holds_at Initial body m = false
state_holds_at (Selecting S) body m = holds_at S body 0 m

-- whether each parallel in a statement at n that encloses the statement with the number m, in its instance as seen
-- from there, ends with code 1
abbrev pub kept_at : Valuation → Term → ℕ → ℕ → Layer → Bool
kept_at V Nothing n m l = true
kept_at V Pause n m l = true
kept_at V (Emit s) n m l = true
kept_at V (Exit k) n m l = true
kept_at V (Present e p q) n m l =
    if m == n then true
    else if nat_lt m (n + 1 + statement_count p) then kept_at V p (n + 1) m l else kept_at V q
    (n + 1 + statement_count p) m l
kept_at V (Suspend e p) n m l = if m == n then true else kept_at V p (n + 1) m l
kept_at V (Seq p q) n m l =
    if m == n then true
    else if nat_lt m (n + 1 + statement_count p) then kept_at V p (n + 1) m l else kept_at V q
    (n + 1 + statement_count p) m l
kept_at V (Loop at p) n m l = if m == n then true else kept_at V p (n + 1) m l
kept_at V (Par p q) n m l =
    if m == n then true
    else V (End n (layer_above n l) 1)
    && (if nat_lt m (n + 1 + statement_count p) then kept_at V p (n + 1) m l else kept_at V q
    (n + 1 + statement_count p) m l)
kept_at V (Trap p) n m l = if m == n then true else kept_at V p (n + 1) m l
kept_at V (Local s p) n m l = if m == n then true else kept_at V p (n + 1) m l
kept_at V (Awake e p) n m l = true

-- whether some resumed suspension in a statement at n, at the statement with the number m or enclosing it, runs with
-- a true test, and each parallel in between, from n on, ends with code 1
abbrev pub held_at : Values → Valuation → Scope → Term → ℕ → ℕ → Layer → Bool
held_at given V B Nothing n m l = false
held_at given V B Pause n m l = false
held_at given V B (Emit s) n m l = false
held_at given V B (Exit k) n m l = false
held_at given V B (Present e p q) n m l =
    if m == n then false
    else if nat_lt m (n + 1 + statement_count p) then held_at given V B p (n + 1) m l
    else held_at given V B q (n + 1 + statement_count p) m l
held_at given V B (Suspend e p) n m l =
    same_layer (layer_above n l) Resumed && (V (Go n Resumed) && truth e (seen_values given V B Resumed))
    || (if m == n then false else held_at given V B p (n + 1) m l)
held_at given V B (Seq p q) n m l =
    if m == n then false
    else if nat_lt m (n + 1 + statement_count p) then held_at given V B p (n + 1) m l
    else held_at given V B q (n + 1 + statement_count p) m l
held_at given V B (Loop at p) n m l = if m == n then false else held_at given V B p (n + 1) m l
held_at given V B (Par p q) n m l =
    if m == n then false
    else V (End n (layer_above n l) 1)
    && (if nat_lt m (n + 1 + statement_count p) then held_at given V B p (n + 1) m l
    else held_at given V B q (n + 1 + statement_count p) m l)
held_at given V B (Trap p) n m l = if m == n then false else held_at given V B p (n + 1) m l
held_at given V B (Local s p) n m l = if m == n then false else held_at given V (bind B s n) p (n + 1) m l
held_at given V B (Awake e p) n m l = false

-- the words of formulas over a body, in a state and an event, with these values of the wires, and those as what lasts
-- sees them
abbrev pub boolean_interpretation : Scope → Term → State → Values → (V lasts : Valuation) → Interpretation Bool
boolean_interpretation B body q given V lasts = record {
  constant = λ b. b;
  negation = not;
  conjunction = λ a b. a && b;
  disjunction = λ a b. a || b;
  boot = is_initial q;
  input = given;
  wire = V;
  selected = state_holds_at q body;
  upto = λ n l k. upto (λ j. V (End n l j)) k;
  kept = λ n l. kept_at lasts body 0 n l;
  held = λ n l. held_at given lasts B body 0 n l;
}
