use Rattle.std.specs.Prelude.{option_map}
use Rattle.std.proofs.lemmas.Result.{IfOk-weaker}
use Rattle.cec_compile.proofs.NetTexts.{encoded_answers}
use Rattle.cec_compile.proofs.compiler.encoded_blif_of.Goals as goal

pub returns-clause-compiles : goal.returns-clause-compiles
returns-clause-compiles g c =
    IfOk-weaker c.text_of.result _ _ (λ text written. (encoded_answers c.args.text.now (option_map (λ m. m.now) c.args.main) text.items written).0)
    c.text_of.ensures.written

pub returns-clause-made : goal.returns-clause-made
returns-clause-made g c =
    IfOk-weaker c.text_of.result _ _ (λ text written. (encoded_answers c.args.text.now (option_map (λ m. m.now) c.args.main) text.items written).1)
    c.text_of.ensures.written
