-- To believe: the layers of an instant, and which statements are live in which layers: what is resumed is the depth of
-- a statement, what is started its surface (Potop-Butucaru, Edwards and Berry, "Compiling Esterel").
--
-- Statements go by their numbers in preorder: under a statement with number n the first part has n + 1, and the
-- second n + 1 plus the number of statements in the first. A statement may run more than once in one instant:
-- resumed, where it holds control from the instant before, and started, where control enters it anew. What starts
-- it is the start of the whole body, or the end of a resumed first part of a sequence or of a resumed loop body
-- that encloses it: the root of a start is the number of the statement that was entered (0 for the body, else the
-- second part or the loop body).
use Rattle.std.specs.Prelude.{ℕ, ◌+◌, Bool, true, false, ◌==◌, ◌&&◌, ◌||◌, nat_le, nat_lt, if◌then◌else◌, List, [], ◌∷◌}
use Rattle.std.specs.Prelude.{◌++◌, map}
use Rattle.est_kernel.specs.Terms.{Term, Nothing, Pause, Emit, Exit, Present, Suspend, Seq, Loop, Par, Trap, Local}
use Rattle.est_kernel.specs.Terms.{Awake}
use Rattle.est_kernel.specs.Preorder.{statement_count}
use Rattle.est_kernel.specs.StaticCodes.{has_code, started_codes, resumed_codes}

pub data Layer : Type 0 where
  Resumed : Layer
  Started : (root : ℕ) → Layer

abbrev pub same_layer : Layer → Layer → Bool
same_layer Resumed Resumed = true
same_layer Resumed (Started r) = false
same_layer (Started q) Resumed = false
same_layer (Started q) (Started r) = q == r

-- The layer in which the statement at b, which encloses a place, runs as seen from that place in this layer: the
-- same start, where its root is at b or encloses it; else b was entered in an earlier instant. (The root and b
-- both enclose the place, so the lesser number is the outer one.)
abbrev pub layer_above : ℕ → Layer → Layer
layer_above b Resumed = Resumed
layer_above b (Started r) = if nat_le r b then Started r else Resumed

-- in which layers a statement is live: resumed or not, and the roots of its starts, ascending
pub record Liveness : Type 0 where
  pub resumed : Bool
  pub roots : List ℕ

-- its layers, in the order of the graph
abbrev pub layers_of : Liveness → List Layer
layers_of a = (if a.resumed then Resumed ∷ [] else []) ++ map Started a.roots

-- one root, where a condition holds
abbrev pub root_if : Bool → ℕ → List ℕ
root_if b r = if b then r ∷ [] else []

-- The body is started in the first instant, and may be resumed where it has a resumed code.
abbrev pub body_liveness : Term → Liveness
body_liveness body = record { resumed = has_code (resumed_codes body); roots = 0 ∷ [] }

-- A part is started with the whole. It may be resumed with the whole where it has a resumed code.
abbrev pub part_liveness : Liveness → Term → Liveness
part_liveness a p = record { resumed = a.resumed && has_code (resumed_codes p); roots = a.roots }

-- Whether a first part can ever terminate, so that the second part of the sequence can be entered.
abbrev pub can_pass : Term → Bool
can_pass p = started_codes p 0 || resumed_codes p 0

-- The second part q of a sequence after p, with the number m: it is started with the whole where p can terminate
-- at its start, and at its own root where p can terminate when it is resumed. It may be resumed where p can
-- terminate at all and q has a resumed code.
abbrev pub second_liveness : Liveness → Term → Term → ℕ → Liveness
second_liveness a p q m = record {
  resumed = a.resumed && (can_pass p && has_code (resumed_codes q));
  roots = (if started_codes p 0 then a.roots else []) ++ root_if (a.resumed && resumed_codes p 0) m;
}

-- The body p of a loop, with the number m: as a part, and it is restarted at its own root where it can terminate
-- when it is resumed.
abbrev pub loop_liveness : Liveness → Term → ℕ → Liveness
loop_liveness a p m = record {
  resumed = a.resumed && has_code (resumed_codes p);
  roots = a.roots ++ root_if (a.resumed && resumed_codes p 0) m;
}

-- the liveness of the statement with the number m in a statement at n that has the liveness a
abbrev pub liveness_at : Liveness → Term → ℕ → ℕ → Liveness
liveness_at a Nothing n m = a
liveness_at a Pause n m = a
liveness_at a (Emit s) n m = a
liveness_at a (Exit k) n m = a
liveness_at a (Present e p q) n m =
    if m == n then a
    else if nat_lt m (n + 1 + statement_count p) then liveness_at (part_liveness a p) p (n + 1) m
    else liveness_at (part_liveness a q) q (n + 1 + statement_count p) m
liveness_at a (Suspend e p) n m = if m == n then a else liveness_at (part_liveness a p) p (n + 1) m
liveness_at a (Seq p q) n m =
    if m == n then a
    else if nat_lt m (n + 1 + statement_count p) then liveness_at (part_liveness a p) p (n + 1) m
    else liveness_at (second_liveness a p q (n + 1 + statement_count p)) q (n + 1 + statement_count p) m
liveness_at a (Loop at p) n m = if m == n then a else liveness_at (loop_liveness a p (n + 1)) p (n + 1) m
liveness_at a (Par p q) n m =
    if m == n then a
    else if nat_lt m (n + 1 + statement_count p) then liveness_at (part_liveness a p) p (n + 1) m
    else liveness_at (part_liveness a q) q (n + 1 + statement_count p) m
liveness_at a (Trap p) n m = if m == n then a else liveness_at (part_liveness a p) p (n + 1) m
liveness_at a (Local s p) n m = if m == n then a else liveness_at (part_liveness a p) p (n + 1) m
-- no body of a program has this form
liveness_at a (Awake e p) n m = a

-- the layers in which each statement of a body is live
abbrev pub body_layers : Term → ℕ → List Layer
body_layers body m = layers_of (liveness_at (body_liveness body) body 0 m)
