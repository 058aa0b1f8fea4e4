use Rattle.std.specs.Prelude.{option_map}
use Rattle.net_ir.specs.Runs.{netlist_of}
use Rattle.cec_prove_texts.proofs.TextCircuits.{text-survey}
use Rattle.cec_prove_texts.proofs.surveys.text_survey_of.Goals as goal

pub returns-clause-surveys : goal.returns-clause-surveys
returns-clause-surveys c =
    text-survey c.args.text.now (netlist_of c.in_ok-net.net) (option_map (λ n. n.now) c.args.assumed) c.in_ok-survey.survey c.in_ok-net.net.is_net
    c.in_ok-net.ensures.net c.in_ok-survey.ensures
