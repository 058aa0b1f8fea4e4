use Rattle.std.proofs.Common.{subst}
use Rattle.base_types.specs.declared.bounds.TheConstants.Limits.{NESTING}
use Rattle.est_parse.specs.Faults.{IsFirstFault}
use Rattle.est_front.proofs.Unrefused.{no_nesting, no_syntax}
use Rattle.est_front.proofs.sources.grammar_refusal.Goals as goal

pub returns-in-Syntax-clause-refusal : goal.returns-in-Syntax-clause-refusal
returns-in-Syntax-clause-refusal c = λ main. (
  record {
    tokens = c.args.tokens.now;
    lexes = c.requires.tokens;
    first = subst (IsFirstFault NESTING c.args.tokens.now) c.in-Syntax.is c.requires.first;
  },
  c.place_of-place.ensures,
)

pub returns-in-Syntax-clause-lacks : goal.returns-in-Syntax-clause-lacks
returns-in-Syntax-clause-lacks c = λ tree reads. no_syntax c.args.text.now tree _ reads (record {
  tokens = c.args.tokens.now;
  lexes = c.requires.tokens;
  first = subst (IsFirstFault NESTING c.args.tokens.now) c.in-Syntax.is c.requires.first;
})

pub returns-in-TooNested-clause-lacks : goal.returns-in-TooNested-clause-lacks
returns-in-TooNested-clause-lacks c = λ tree reads. no_nesting c.args.text.now tree _ reads (record {
  tokens = c.args.tokens.now;
  lexes = c.requires.tokens;
  first = subst (IsFirstFault NESTING c.args.tokens.now) c.in-TooNested.is c.requires.first;
})
