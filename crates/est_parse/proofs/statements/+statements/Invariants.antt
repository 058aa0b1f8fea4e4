use Rattle.std.proofs.Common.{◌≡◌, ◌++◌, ◌+◌, ◌*◌, ◌<◌, length, map, vec_len}
use Rattle.est_ast.specs.Trees.{Seq, Par, cases}
use Rattle.est_ast.specs.Views.{stmt_of, case_of}
use Rattle.base_reader.specs.Readings.{mapped, loop}
use Rattle.est_parse.specs.Parts.{stmt_list}
use Rattle.est_parse.specs.Reading.{finished, line, line_step, whole_step, statement, case_list, case_step, rules, inside}
use Rattle.est_parse.proofs.statements.+statements.Given as goal

-- Less room is less, and of the functions at one room those that call come after those that are called.

abbrev pub decreases-read_form : goal.decreases-read_form
decreases-read_form l = l.room * 16 + 1

abbrev pub decreases-read_item : goal.decreases-read_item
decreases-read_item l = l.room * 16 + 2

abbrev pub decreases-read_line : goal.decreases-read_line
decreases-read_line l = l.room * 16 + 3

abbrev pub decreases-read_statement : goal.decreases-read_statement
decreases-read_statement l = l.room * 16 + 4

abbrev pub decreases-read_boxed : goal.decreases-read_boxed
decreases-read_boxed l = l.room * 16 + 5

abbrev pub decreases-read_case : goal.decreases-read_case
decreases-read_case l = l.room * 16 + 5

abbrev pub decreases-read_part : goal.decreases-read_part
decreases-read_part l = l.room * 16 + 6

abbrev pub decreases-read_do_part : goal.decreases-read_do_part
decreases-read_do_part l = l.room * 16 + 6

abbrev pub decreases-read_handle : goal.decreases-read_handle
decreases-read_handle l = l.room * 16 + 6

abbrev pub decreases-read_cases : goal.decreases-read_cases
decreases-read_cases l = l.room * 16 + 6

abbrev pub decreases-read_other : goal.decreases-read_other
decreases-read_other l = l.room * 16 + 7

abbrev pub decreases-read_trap_end : goal.decreases-read_trap_end
decreases-read_trap_end l = l.room * 16 + 7

abbrev pub decreases-read_tail : goal.decreases-read_tail
decreases-read_tail l = l.room * 16 + 7

abbrev pub decreases-read_branches : goal.decreases-read_branches
decreases-read_branches l = l.room * 16 + 8

abbrev pub decreases-read_abort_tail : goal.decreases-read_abort_tail
decreases-read_abort_tail l = l.room * 16 + 8

abbrev pub decreases-read_present : goal.decreases-read_present
decreases-read_present l = l.room * 16 + 9

abbrev pub decreases-read_closing : goal.decreases-read_closing
decreases-read_closing l = l.room * 16 + 9

abbrev pub decreases-read_block : goal.decreases-read_block
decreases-read_block l = l.room * 16 + 10

-- What was read so far, in front of the steps on the rest, is the whole.
abbrev pub invariant-read_statement-loop-behind : goal.invariant-read_statement-loop-behind
invariant-read_statement-loop-behind l = record {
  some : 0 < vec_len l.parts;
  whole : finished (λ others. stmt_list Par (map stmt_of l.parts.items ++ others)) l.tokens (loop (whole_step l.room (inside l.room)) l.rest) ≡
      statement l.room l.tokens;
}

abbrev pub decreases-read_statement-loop-behind : goal.decreases-read_statement-loop-behind
decreases-read_statement-loop-behind l = length l.rest

-- What was read so far, in front of the steps on the rest, is the whole.
abbrev pub invariant-read_line-loop-behind : goal.invariant-read_line-loop-behind
invariant-read_line-loop-behind l = record {
  some : 0 < vec_len l.parts;
  whole : finished (λ others. stmt_list Seq (map stmt_of l.parts.items ++ others)) l.tokens (loop (line_step l.room (inside l.room)) l.rest) ≡
      line l.room (inside l.room) l.tokens;
}

abbrev pub decreases-read_line-loop-behind : goal.decreases-read_line-loop-behind
decreases-read_line-loop-behind l = length l.rest

abbrev pub invariant-read_cases-loop-behind : goal.invariant-read_cases-loop-behind
invariant-read_cases-loop-behind l =
    mapped (λ others. cases (map case_of l.found.items ++ others)) (loop (case_step (rules l.room))) l.rest ≡ case_list (rules l.room) l.tokens

abbrev pub decreases-read_cases-loop-behind : goal.decreases-read_cases-loop-behind
decreases-read_cases-loop-behind l = length l.rest
