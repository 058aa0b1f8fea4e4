-- Inner: what the walk over a body keeps.
use Rattle.std.specs.Prelude.{◌≡◌, ◌<◌, List, ◌++◌, drop, map, ⊤}
use Rattle.base_types.specs.CodeSet.{members}
use Rattle.est_kernel.specs.Terms.{Term, Nothing, Pause, Emit, Exit, Present, Suspend, Seq, Loop, Par, Trap, Local}
use Rattle.est_kernel.specs.Terms.{Awake}
use Rattle.est_kernel.specs.StaticCodes.{started_codes, resumed_codes, instant_loops}
use Rattle.est_kernel.specs.Preorder.{preorder}
use Rattle.est_codes.specs.declared.entries.Entry.{Entry}
use Rattle.est_codes.specs.declared.walk.Found.{Found}
use Rattle.est_codes.specs.Faults.{IsLeastSpan}

-- the entry has the codes of the statement
pub record HasCodesOf (entry : Entry) (p : Term) : Type 0 where
  pub started : members entry.started ≡ started_codes p
  pub resumed : members entry.resumed ≡ resumed_codes p

-- each exit has a code that a set can have
abbrev pub ExitsFit : Term → Type 0
ExitsFit Nothing = ⊤
ExitsFit Pause = ⊤
ExitsFit (Emit s) = ⊤
ExitsFit (Exit k) = k < 64
ExitsFit (Present e p q) = ExitsFit p × ExitsFit q
ExitsFit (Suspend e p) = ExitsFit p
ExitsFit (Seq p q) = ExitsFit p × ExitsFit q
ExitsFit (Loop at p) = ExitsFit p
ExitsFit (Par p q) = ExitsFit p × ExitsFit q
ExitsFit (Trap p) = ExitsFit p
ExitsFit (Local s p) = ExitsFit p
ExitsFit (Awake e p) = ExitsFit p

-- a walk over the statement has appended the entries of its statements, and found its own codes and
-- the least place of an instantaneous loop in it
pub record Lists (old new : List Entry) (found : Found) (p : Term) : Type 0 where
  pub started : map (λ entry. members entry.started) new
      ≡ map (λ entry. members entry.started) old ++ map started_codes (preorder p)
  pub resumed : map (λ entry. members entry.resumed) new
      ≡ map (λ entry. members entry.resumed) old ++ map resumed_codes (preorder p)
  pub entry : HasCodesOf found.entry p
  pub least : IsLeastSpan found.least (instant_loops p)

-- the same of all in the statement but itself: the entry of the statement stands before theirs
pub record ListsParts (old new : List Entry) (found : Found) (p : Term) : Type 0 where
  pub started : map (λ entry. members entry.started) new
      ≡ map (λ entry. members entry.started) old ++ map started_codes (drop 1 (preorder p))
  pub resumed : map (λ entry. members entry.resumed) new
      ≡ map (λ entry. members entry.resumed) old ++ map resumed_codes (drop 1 (preorder p))
  pub entry : HasCodesOf found.entry p
  pub least : IsLeastSpan found.least (instant_loops p)
