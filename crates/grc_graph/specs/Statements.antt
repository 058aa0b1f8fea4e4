-- Contract: the statements of a body by number, each with what lets it run, the number of its second part, and what
-- the signals that it reads or emits stand for.
use Rattle.std.specs.Prelude.{ℕ, ◌+◌, ◌<◌, List, [], ◌∷◌, ◌++◌, map, Option, Some, None, ⊤}
use Rattle.est_kernel.specs.Plain.{Program, interface_count}
use Rattle.grc_graph.specs.Scopes.{Binding, Scope, bind, program_scope}
use Rattle.est_kernel.specs.Terms.{Expression, Tick, Sig, Not, And, Or, Term, Nothing, Pause, Emit, Exit, Present}
use Rattle.est_kernel.specs.Terms.{Suspend, Seq, Loop, Par, Trap, Local, Awake}
use Rattle.est_kernel.specs.Preorder.{statement_count}

-- what lets a statement run; the first number is that of the statement around it
pub data Entry : Type 0 where
  Body : Entry
  Part : (n : ℕ) → Entry
  Branch : (n : ℕ) → Entry
  Then : (n : ℕ) (e : Expression) → Entry
  Else : (n : ℕ) (e : Expression) → Entry
  Suspended : (n : ℕ) (e : Expression) → Entry
  Second : (n : ℕ) → Entry
  Looped : (n : ℕ) → Entry

-- the number of the statement around one that is entered so
abbrev pub around : Entry → Option ℕ
around Body = None
around (Part n) = Some n
around (Branch n) = Some n
around (Then n e) = Some n
around (Else n e) = Some n
around (Suspended n e) = Some n
around (Second n) = Some n
around (Looped n) = Some n

-- the signals of a test, in order, and those that a statement itself reads or emits
abbrev pub signals_in : Expression → List ℕ
signals_in Tick = []
signals_in (Sig s) = s ∷ []
signals_in (Not a) = signals_in a
signals_in (And a b) = signals_in a ++ signals_in b
signals_in (Or a b) = signals_in a ++ signals_in b

abbrev pub signals_of : Term → List ℕ
signals_of Nothing = []
signals_of Pause = []
signals_of (Emit s) = s ∷ []
signals_of (Exit k) = []
signals_of (Present e p q) = signals_in e
signals_of (Suspend e p) = signals_in e
signals_of (Seq p q) = []
signals_of (Loop at p) = []
signals_of (Par p q) = []
signals_of (Trap p) = []
signals_of (Local s p) = []
signals_of (Awake e p) = []

pub record Listed : Type 0 where
  pub statement : Term
  pub entry : Entry
  pub second : ℕ
  pub signals : List Binding

-- a statement whose second part has the number m, or which has none
abbrev pub listed_one : Scope → Entry → Term → ℕ → Listed
listed_one B x t m = record { statement = t; entry = x; second = m; signals = map B (signals_of t) }

-- a statement and all in it, in preorder
abbrev pub listed : Scope → Entry → Term → ℕ → List Listed
listed B x Nothing n = listed_one B x Nothing 0 ∷ []
listed B x Pause n = listed_one B x Pause 0 ∷ []
listed B x (Emit s) n = listed_one B x (Emit s) 0 ∷ []
listed B x (Exit k) n = listed_one B x (Exit k) 0 ∷ []
listed B x (Present e p q) n =
    listed_one B x (Present e p q) (n + 1 + statement_count p)
    ∷ (listed B (Then n e) p (n + 1) ++ listed B (Else n e) q (n + 1 + statement_count p))
listed B x (Suspend e p) n = listed_one B x (Suspend e p) 0 ∷ listed B (Suspended n e) p (n + 1)
listed B x (Seq p q) n =
    listed_one B x (Seq p q) (n + 1 + statement_count p)
    ∷ (listed B (Branch n) p (n + 1) ++ listed B (Second n) q (n + 1 + statement_count p))
listed B x (Loop at p) n = listed_one B x (Loop at p) 0 ∷ listed B (Looped n) p (n + 1)
listed B x (Par p q) n =
    listed_one B x (Par p q) (n + 1 + statement_count p)
    ∷ (listed B (Branch n) p (n + 1) ++ listed B (Branch n) q (n + 1 + statement_count p))
listed B x (Trap p) n = listed_one B x (Trap p) 0 ∷ listed B (Part n) p (n + 1)
listed B x (Local s p) n = listed_one B x (Local s p) 0 ∷ listed (bind B s n) (Part n) p (n + 1)
listed B x (Awake e p) n = listed_one B x (Awake e p) 0 ∷ listed B (Part n) p (n + 1)

-- the statements of a program's body
abbrev pub program_listed : Program → List Listed
program_listed p = listed (program_scope p.inputs (interface_count p)) Body p.body 0

-- each Local binds one of so many signals
abbrev pub LocalsFit : ℕ → Term → Type 0
LocalsFit all Nothing = ⊤
LocalsFit all Pause = ⊤
LocalsFit all (Emit s) = ⊤
LocalsFit all (Exit k) = ⊤
LocalsFit all (Present e p q) = LocalsFit all p × LocalsFit all q
LocalsFit all (Suspend e p) = LocalsFit all p
LocalsFit all (Seq p q) = LocalsFit all p × LocalsFit all q
LocalsFit all (Loop at p) = LocalsFit all p
LocalsFit all (Par p q) = LocalsFit all p × LocalsFit all q
LocalsFit all (Trap p) = LocalsFit all p
LocalsFit all (Local s p) = (s < all) × LocalsFit all p
LocalsFit all (Awake e p) = LocalsFit all p
