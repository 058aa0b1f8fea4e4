use Rattle.est_ast.proofs.Exports.{reserved_front, ident_front}
use Rattle.est_lex.proofs.front.word.Goals as goal
use Rattle.est_lex.proofs.front.word.Goals.{in-Some, in-None+in_ok-from_bytes-in-None}

pub returns : goal.returns
returns c =
    elim c.match-reserved.branch [
      | in-Some w ↦ rw w.kind-is (reserved_front _ _ _ c.requires.some c.requires.letter c.name_len-width.ensures (w.in-Some.ensures))
      | in-None+in_ok-from_bytes-in-None w ↦ rw (w.kind-is, w.in_ok-from_bytes-in-None.ensures)
          (ident_front _ _ c.requires.some c.requires.letter c.name_len-width.ensures (w.in-None.ensures))
    ]
