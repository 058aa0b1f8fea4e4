use Rattle.std.proofs.Common.{⊎_elim}
use Rattle.cec_commands.proofs.FormLanguages.{blif_writes, encoded_writes, c_writes, verilog_writes, blif_runs, encoded_runs, c_runs, verilog_runs}
use Rattle.cec_commands.proofs.commands.texts.do_in_form.Goals as goal

pub do_in-requires-clause-form : goal.do_in-requires-clause-form
do_in-requires-clause-form g c = ⊎_elim (λ is. rw is (blif_writes, blif_runs)) (λ is. rw is (encoded_writes, encoded_runs)) c.in-Blif.is

pub do_in-requires-in-C-clause-form : goal.do_in-requires-in-C-clause-form
do_in-requires-in-C-clause-form g c = rw c.in-C.is (c_writes, c_runs)

pub do_in-requires-in-Verilog-clause-form : goal.do_in-requires-in-Verilog-clause-form
do_in-requires-in-Verilog-clause-form g c = rw c.in-Verilog.is (verilog_writes, verilog_runs)
