use Rattle.std.proofs.Common.{arith}
use Rattle.est_front.proofs.TokenCounts.{few_tokens}
use Rattle.est_front.proofs.sources.read_source.Goals as goal

pub returns-in-Err-clause-refusal : goal.returns-in-Err-clause-refusal
returns-in-Err-clause-refusal c = λ main. c.token_refusal.ensures.refusal c.args.text.now main c.in-Err.ensures.fault

pub parse-requires : goal.parse-requires
parse-requires c = rw c.deref.ensures.value (omega (arith, few_tokens c.args.text.now c.in-Ok.tokens.items c.in-Ok.ensures.tokens, c.requires))

pub returns-in-Err-clause-lacks : goal.returns-in-Err-clause-lacks
returns-in-Err-clause-lacks c = c.token_refusal.ensures.lacks c.args.text.now c.in-Err.ensures.fault
