-- Inner: the codes of a statement and of its parts, and what is known of a listed statement.
use Rattle.std.specs.Prelude.{◌≡◌, ℕ, ◌+◌, ◌<◌, ◌^◌, length}
use Rattle.base_types.specs.declared.code_set.CodeSet.{CodeSet}
use Rattle.base_types.specs.CodeSet.{members}
use Rattle.est_kernel.specs.declared.code_lists.Codes.{Codes}
use Rattle.est_kernel.specs.Plain.{term_of}
use Rattle.est_kernel.specs.Preorder.{statement_count}
use Rattle.est_kernel.specs.Terms.{Term, Nothing, Pause, Emit, Exit, Present, Suspend, Seq, Loop, Par, Trap, Local}
use Rattle.est_kernel.specs.Terms.{Awake}
use Rattle.est_kernel.specs.StaticCodes.{started_codes, resumed_codes}
use Rattle.grc_graph.specs.declared.statements.Statement.{Statement}
use Rattle.grc_graph.specs.CodeTables.{HasCodesAt}
use Rattle.grc_graph.specs.Rows.{second_of}
use Rattle.grc_graph.specs.Statements.{signals_of}

pub record HaveCodes (started resumed : CodeSet) (t : Term) : Type 0 where
  pub starts : members started ≡ started_codes t
  pub resumes : members resumed ≡ resumed_codes t

-- lists of codes have those of a statement at n and of its parts
abbrev pub PartsHaveCodes : Codes → Term → ℕ → Type 0
PartsHaveCodes c Nothing n = HasCodesAt c Nothing n
PartsHaveCodes c Pause n = HasCodesAt c Pause n
PartsHaveCodes c (Emit s) n = HasCodesAt c (Emit s) n
PartsHaveCodes c (Exit k) n = HasCodesAt c (Exit k) n
PartsHaveCodes c (Present e p q) n =
    HasCodesAt c (Present e p q) n × HasCodesAt c p (n + 1) × HasCodesAt c q (n + 1 + statement_count p)
PartsHaveCodes c (Suspend e p) n = HasCodesAt c (Suspend e p) n × HasCodesAt c p (n + 1)
PartsHaveCodes c (Seq p q) n =
    HasCodesAt c (Seq p q) n × HasCodesAt c p (n + 1) × HasCodesAt c q (n + 1 + statement_count p)
PartsHaveCodes c (Loop at p) n = HasCodesAt c (Loop at p) n × HasCodesAt c p (n + 1)
PartsHaveCodes c (Par p q) n =
    HasCodesAt c (Par p q) n × HasCodesAt c p (n + 1) × HasCodesAt c q (n + 1 + statement_count p)
PartsHaveCodes c (Trap p) n = HasCodesAt c (Trap p) n × HasCodesAt c p (n + 1)
PartsHaveCodes c (Local s p) n = HasCodesAt c (Local s p) n × HasCodesAt c p (n + 1)
PartsHaveCodes c (Awake e p) n = HasCodesAt c (Awake e p) n × HasCodesAt c p (n + 1)

-- a statement as it is listed, at n
pub record IsListed (s : Statement) (n : ℕ) : Type 0 where
  pub second : s.second ≡ second_of (term_of s.body.now) n
  pub signals : length s.signals.items ≡ length (signals_of (term_of s.body.now))
  pub fits : n + statement_count (term_of s.body.now) < 2 ^ 32
