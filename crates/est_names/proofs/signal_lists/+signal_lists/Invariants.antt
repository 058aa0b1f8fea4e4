use Rattle.std.proofs.Common.{◌≡◌, ◌++◌, map, drop}
use Rattle.est_ast.specs.Trees.{stmts, cases}
use Rattle.est_ast.specs.Views.{stmt_of, case_of}
use Rattle.est_names.specs.NameFaults.{signal_lists_all, signal_lists_cases}
use Rattle.est_names.proofs.signal_lists.+signal_lists.Given as goal

-- the lists so far, and those of what is left, are all
abbrev pub invariant-push_all-loop-p : goal.invariant-push_all-loop-p
invariant-push_all-loop-p l =
    map (λ names. names.now) l.lists.items ++ signal_lists_all (stmts (map stmt_of (drop l.p-index l.parts)))
    ≡ map (λ names. names.now) l.fn.lists.items ++ signal_lists_all (stmts (map stmt_of l.parts))

abbrev pub invariant-push_cases-loop-case : goal.invariant-push_cases-loop-case
invariant-push_cases-loop-case l =
    map (λ names. names.now) l.lists.items ++ signal_lists_cases (cases (map case_of (drop l.case-index l.found)))
    ≡ map (λ names. names.now) l.fn.lists.items ++ signal_lists_cases (cases (map case_of l.found))
