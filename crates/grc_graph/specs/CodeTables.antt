-- Inner: the static codes of each statement, read by its number.
use Rattle.std.specs.Prelude.{◌≡◌, ℕ, ◌+◌, ◌<◌, Bool, List, length, map, slice_index_or}
use Rattle.base_types.specs.declared.code_set.CodeSet.{CodeSet}
use Rattle.base_types.specs.CodeSet.{members}
use Rattle.base_types.specs.Codes.{no_code}
use Rattle.est_kernel.specs.declared.code_lists.Codes.{Codes}
use Rattle.est_kernel.specs.Terms.{Term, Nothing, Pause, Emit, Exit, Present, Suspend, Seq, Loop, Par, Trap, Local}
use Rattle.est_kernel.specs.Terms.{Awake}
use Rattle.est_kernel.specs.Preorder.{statement_count}
use Rattle.est_kernel.specs.StaticCodes.{started_codes, resumed_codes}
use Rattle.grc_graph.specs.Layers.{Layer, Resumed, Started}
use Rattle.grc_graph.specs.Instances.{Instance}

-- the set at a place of a list of sets
abbrev pub set_at : List CodeSet → ℕ → ℕ → Bool
set_at sets n = slice_index_or (map members sets) n no_code

-- the codes that the lists have for an instance
abbrev pub codes_at : Codes → ℕ → Layer → ℕ → Bool
codes_at codes n Resumed = set_at codes.resumed.items n
codes_at codes n (Started r) = set_at codes.started.items n

abbrev pub codes_of : Codes → Instance → ℕ → Bool
codes_of codes x = codes_at codes x.path x.layer

-- the lists have the codes of a statement at n
pub record HasCodesAt (codes : Codes) (t : Term) (n : ℕ) : Type 0 where
  pub started_in : n < length codes.started.items
  pub resumed_in : n < length codes.resumed.items
  pub started : set_at codes.started.items n ≡ started_codes t
  pub resumed : set_at codes.resumed.items n ≡ resumed_codes t

-- the lists have the codes of a statement at n, and of all statements in it
abbrev pub CodesFrom : Codes → Term → ℕ → Type 0
CodesFrom c Nothing n = HasCodesAt c Nothing n
CodesFrom c Pause n = HasCodesAt c Pause n
CodesFrom c (Emit s) n = HasCodesAt c (Emit s) n
CodesFrom c (Exit k) n = HasCodesAt c (Exit k) n
CodesFrom c (Present e p q) n =
    HasCodesAt c (Present e p q) n × CodesFrom c p (n + 1) × CodesFrom c q (n + 1 + statement_count p)
CodesFrom c (Suspend e p) n = HasCodesAt c (Suspend e p) n × CodesFrom c p (n + 1)
CodesFrom c (Seq p q) n =
    HasCodesAt c (Seq p q) n × CodesFrom c p (n + 1) × CodesFrom c q (n + 1 + statement_count p)
CodesFrom c (Loop at p) n = HasCodesAt c (Loop at p) n × CodesFrom c p (n + 1)
CodesFrom c (Par p q) n =
    HasCodesAt c (Par p q) n × CodesFrom c p (n + 1) × CodesFrom c q (n + 1 + statement_count p)
CodesFrom c (Trap p) n = HasCodesAt c (Trap p) n × CodesFrom c p (n + 1)
CodesFrom c (Local s p) n = HasCodesAt c (Local s p) n × CodesFrom c p (n + 1)
CodesFrom c (Awake e p) n = HasCodesAt c (Awake e p) n × CodesFrom c p (n + 1)
