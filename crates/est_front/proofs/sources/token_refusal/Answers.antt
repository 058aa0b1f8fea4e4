use Rattle.std.proofs.Common.{subst}
use Rattle.est_lex.specs.Faults.{LexesAsFault}
use Rattle.est_front.proofs.Unrefused.{no_bad_byte, no_big_number, no_open_comment}
use Rattle.est_front.proofs.sources.token_refusal.Goals as goal

pub returns-in-BadByte-clause-lacks : goal.returns-in-BadByte-clause-lacks
returns-in-BadByte-clause-lacks c = λ text lexes tree reads. no_bad_byte text tree _ reads (subst (LexesAsFault text) c.in-BadByte.is lexes)

pub returns-in-OpenComment-clause-lacks : goal.returns-in-OpenComment-clause-lacks
returns-in-OpenComment-clause-lacks c = λ text lexes tree reads. no_open_comment text tree _ reads (subst (LexesAsFault text) c.in-OpenComment.is lexes)

pub returns-in-BigNumber-clause-lacks : goal.returns-in-BigNumber-clause-lacks
returns-in-BigNumber-clause-lacks c = λ text lexes tree reads. no_big_number text tree _ reads (subst (LexesAsFault text) c.in-BigNumber.is lexes)
