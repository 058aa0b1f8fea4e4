use Rattle.net_ir.specs.Runs.{netlist_of}
use Rattle.cec_prove_sources.specs.Views.{plain_question}
use Rattle.cec_prove_texts.proofs.TextCircuits.{text-verdict}
use Rattle.cec_prove_texts.proofs.verdicts.text_verdict_of.Goals as goal

pub returns-clause-answers : goal.returns-clause-answers
returns-clause-answers c =
    text-verdict c.args.text.now (netlist_of c.in_ok-net.net) (plain_question c.args.question) c.in_ok-verdict.verdict c.in_ok-net.net.is_net
    c.in_ok-net.ensures.net c.in_ok-verdict.ensures
