-- Inner: the plain form of what is asked for, and of what a line speaks of.
use Rattle.std.specs.Prelude.{map, option_map}
use Rattle.std.specs.String.{string_bytes}
use Rattle.vlog_reset.specs.Views as reset_views
use Rattle.cec_opt_commands.specs.declared.lines.Subject as subjects
use Rattle.cec_opt_commands.specs.declared.resets.Wanted as wanted
use Rattle.cec_opt_commands.specs.declared.words.Options as options
use Rattle.cec_opt_commands.specs.declared.words.Request as requests
use Rattle.cec_opt_commands.specs.declared.words.Request.TheVariants as asks
use Rattle.cec_opt_commands.specs.declared.words.Task as tasks
use Rattle.cec_opt_commands.specs.declared.words.Task.TheVariants as does
use Rattle.cec_opt_commands.specs.Lines.{Subject}
use Rattle.cec_opt_commands.specs.Relations.{given_by}
use Rattle.cec_opt_commands.specs.Resets.{Wanted}
use Rattle.cec_opt_commands.specs.Words.{Options, Request, Task, Tell, Do, Make, Write, Embed, Reset, Check}

abbrev pub options_are : options.Options → Options
options_are o = record { source = option_map (λ s. s.now) o.source; main = option_map (λ s. s.now) o.main }

abbrev pub wanted_is : wanted.Wanted → Wanted
wanted_is w = record {
  options = reset_views.options_of w.options;
  source = option_map (λ s. s.now) w.source;
  main = option_map (λ s. s.now) w.main;
  text = option_map (λ s. s.now) w.text;
  is_encoded = w.is_encoded;
}

abbrev pub plain_task : tasks.Task → Task
plain_task (does.Write form) = Write form
plain_task (does.Embed component layout) = Embed component.now layout
plain_task (does.Reset options coding) = Reset (reset_views.options_of options) coding
plain_task does.Check = Check

abbrev pub plain_request : requests.Request → Request
plain_request (asks.Tell about) = Tell about
plain_request (asks.Do task given name) = Do (plain_task task) (given_by (map string_bytes given.now)) name.now
plain_request (asks.Make task name main) = Make (plain_task task) name.now (option_map (λ s. s.now) main)

abbrev pub subject_is : subjects.Subject → Subject
subject_is s = record { name = s.name.now; main = s.main.now; source = s.source.now }
