use Rattle.std.proofs.Common.{arith}
use Rattle.std.proofs.lemmas.List.{length-set}
use Rattle.csub_guard.specs.Tokens.{token_of}
use Rattle.csub_read.specs.Tokens.{kind_of}
use Rattle.csub_text.specs.Tokens.{tokens}
use Rattle.csub_read.specs.declared.tokens.Kind.{Kind}
use Rattle.net_expressions.specs.Plain.{token_by}
use Rattle.net_expressions.specs.declared.kinds.Token.{Token}
use Rattle.csub_guard_read.proofs.TokenWords.{placed-next, placed-all, word-put}
use Rattle.csub_guard_read.proofs.words.text_tokens.Goals as goal

pub tokens-preserved : goal.tokens-preserved
tokens-preserved c =
    let items = c.tokens.tokens.items in
    let now : Token Kind = record { kind = c.word_kind.result; at = c.index_mut.result.now.at } in
    let wide = length-set items c.tokens.k now in
    record {
      within = omega (arith, wide);
      same = placed-next (token_by kind_of) token_of items c.tokens.k (tokens c.args.text.now) now c.index.result.now (omega arith)
          c.tokens.invariant.same
          (word-put items c.tokens.k c.word_kind.result c.index.result.now c.index_mut.result.now (omega arith) c.index.ensures
          c.index_mut.ensures.value c.word_kind.ensures);
    }

pub returns : goal.returns
returns c =
    placed-all (token_by kind_of) token_of c.tokens.tokens.items c.tokens.k (tokens c.args.text.now) (omega arith) c.tokens.invariant.same
