-- To believe: the walk of a state under given statuses. The statuses are one truth value for each signal as a place
-- sees it, and one for each instance of a Local. The walk takes them as given and decides none.
use Rattle.std.specs.Prelude.{ℕ, ◌+◌, Bool, true, false, not, ◌==◌, ◌&&◌, ◌||◌, nat_le, nat_lt, if◌then◌else◌, max}
use Rattle.est_kernel.specs.Terms.{Expression, Tick, Sig, Not, And, Or, Term, Nothing, Pause, Emit, Exit, Present}
use Rattle.est_kernel.specs.Terms.{Suspend, Seq, Loop, Par, Trap, Local, Awake}
use Rattle.est_kernel.specs.Preorder.{statement_count}
use Rattle.est_kernel.specs.Steps.{trap_code}
use Rattle.grc_graph.specs.Layers.{Layer, Resumed, Started}
use Rattle.grc_graph.specs.Residuals.{holds, resumption}

-- what a walk of a statement gives: the emitted signals that its outside sees, its completion code, and the pauses
-- that stay or become selected
pub record Walk : Type 0 where
  pub signals : ℕ → Bool
  pub code : ℕ
  pub kept : ℕ → Bool

-- a value for each signal, as a place sees it
abbrev pub Values : Type 0
Values = ℕ → Bool

-- the values with another one for one signal
abbrev pub with_value : Values → ℕ → Bool → Values
with_value v s b = λ t. if t == s then b else v t

-- whether a test is true
abbrev pub truth : Expression → Values → Bool
truth Tick v = true
truth (Sig s) v = v s
truth (Not a) v = not (truth a v)
truth (And a b) v = truth a v && truth b v
truth (Or a b) v = truth a v || truth b v

-- no signal, this code, and no pause
abbrev pub ended : ℕ → Walk
ended c = record { signals = λ t. false; code = c; kept = λ m. false }

-- a statement whose code is not 1 keeps no pause
abbrev pub kept_by : ℕ → (ℕ → Bool) → ℕ → Bool
kept_by c K = λ m. c == 1 && K m

-- a sequence: the first part, and where its code is 0 the second as well
abbrev pub then_walk : Walk → Walk → Walk
then_walk a b =
    if a.code == 0 then record { signals = λ t. a.signals t || b.signals t; code = b.code; kept = b.kept } else a

-- a parallel: the greater code
abbrev pub both_walks : Walk → Walk → Walk
both_walks a b = record {
  signals = λ t. a.signals t || b.signals t;
  code = max a.code b.code;
  kept = kept_by (max a.code b.code) (λ m. a.kept m || b.kept m);
}

-- a trap: codes 0 and 2 become 0, 1 stays, k above 2 becomes k - 1
abbrev pub trapped_walk : Walk → Walk
trapped_walk a = record {
  signals = a.signals;
  code = trap_code a.code;
  kept = kept_by (trap_code a.code) a.kept;
}

-- a local signal, which the outside does not see
abbrev pub hidden_walk : ℕ → Walk → Walk
hidden_walk s a = record { signals = λ t. a.signals t && not (t == s); code = a.code; kept = a.kept }

-- The walk of a statement at n that is started, in a layer. Z has the statuses of the Locals by number and layer.
abbrev pub started_walk : (ℕ → Layer → Bool) → Term → ℕ → Layer → Values → Walk
started_walk Z Nothing n l v = ended 0
started_walk Z Pause n l v = record { signals = λ t. false; code = 1; kept = λ m. m == n }
started_walk Z (Emit s) n l v = record { signals = λ t. t == s; code = 0; kept = λ m. false }
started_walk Z (Exit k) n l v = ended k
started_walk Z (Present e p q) n l v =
    if truth e v then started_walk Z p (n + 1) l v else started_walk Z q (n + 1 + statement_count p) l v
started_walk Z (Suspend e p) n l v = started_walk Z p (n + 1) l v
started_walk Z (Seq p q) n l v =
    then_walk (started_walk Z p (n + 1) l v) (started_walk Z q (n + 1 + statement_count p) l v)
started_walk Z (Loop at p) n l v = started_walk Z p (n + 1) l v
started_walk Z (Par p q) n l v =
    both_walks (started_walk Z p (n + 1) l v) (started_walk Z q (n + 1 + statement_count p) l v)
started_walk Z (Trap p) n l v = trapped_walk (started_walk Z p (n + 1) l v)
started_walk Z (Local s p) n l v = hidden_walk s (started_walk Z p (n + 1) l (with_value v s (Z n l)))
-- no body of a program has this form
started_walk Z (Awake e p) n l v = ended 0

-- the selected pauses of a statement at n
abbrev pub selected_in : (ℕ → Bool) → Term → ℕ → ℕ → Bool
selected_in S t n m = S m && (nat_le n m && nat_lt m (n + statement_count t))

-- The walk of a statement at n that is resumed, where the pauses S are selected and some lie in the statement. A
-- branch of a parallel that holds none counts as code 0.
abbrev pub resumed_walk : (ℕ → Layer → Bool) → (ℕ → Bool) → Term → ℕ → Values → Walk
resumed_walk Z S Nothing n v = ended 0
resumed_walk Z S Pause n v = ended 0
resumed_walk Z S (Emit s) n v = ended 0
resumed_walk Z S (Exit k) n v = ended 0
resumed_walk Z S (Present e p q) n v =
    if holds S p (n + 1) then resumed_walk Z S p (n + 1) v else resumed_walk Z S q (n + 1 + statement_count p) v
resumed_walk Z S (Suspend e p) n v =
    if truth e v then record { signals = λ t. false; code = 1; kept = selected_in S p (n + 1) }
    else resumed_walk Z S p (n + 1) v
resumed_walk Z S (Seq p q) n v =
    if holds S p (n + 1)
    then then_walk (resumed_walk Z S p (n + 1) v)
    (started_walk Z q (n + 1 + statement_count p) (Started (n + 1 + statement_count p)) v)
    else resumed_walk Z S q (n + 1 + statement_count p) v
resumed_walk Z S (Loop at p) n v =
    then_walk (resumed_walk Z S p (n + 1) v) (started_walk Z p (n + 1) (Started (n + 1)) v)
resumed_walk Z S (Par p q) n v =
    both_walks (if holds S p (n + 1) then resumed_walk Z S p (n + 1) v else ended 0)
    (if holds S q (n + 1 + statement_count p) then resumed_walk Z S q (n + 1 + statement_count p) v else ended 0)
resumed_walk Z S (Trap p) n v = trapped_walk (resumed_walk Z S p (n + 1) v)
resumed_walk Z S (Local s p) n v = hidden_walk s (resumed_walk Z S p (n + 1) (with_value v s (Z n Resumed)))
-- no body of a program has this form
resumed_walk Z S (Awake e p) n v = ended 0

-- A state: the first instant is to come, or these pauses are selected.
pub data State : Type 0 where
  Initial : State
  Selecting : (S : ℕ → Bool) → State

-- whether a body at n holds a selected pause in a state
abbrev pub state_holds : State → Term → ℕ → Bool
state_holds Initial t n = false
state_holds (Selecting S) t n = holds S t n

-- what is left of a body in a state: before the first instant the whole
abbrev pub remaining : State → Term → Term
remaining Initial body = body
remaining (Selecting S) body = resumption S body

abbrev pub is_initial : State → Bool
is_initial Initial = true
is_initial (Selecting S) = false

-- The walk of a body in a state. Where nothing is selected, nothing runs and the code is 0.
abbrev pub body_walk : (ℕ → Layer → Bool) → State → Term → Values → Walk
body_walk Z Initial body v = started_walk Z body 0 (Started 0) v
body_walk Z (Selecting S) body v = if holds S body 0 then resumed_walk Z S body 0 v else ended 0
