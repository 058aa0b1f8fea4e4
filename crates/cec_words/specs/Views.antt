-- Inner: commands, options and parts of the code as plain data.
use Rattle.cec_words.specs.declared.steps.Command as code_commands
use Rattle.cec_words.specs.declared.steps.Command.TheVariants as code_command
use Rattle.cec_words.specs.declared.steps.Setting as code_settings
use Rattle.cec_words.specs.declared.steps.Setting.TheVariants as code_setting
use Rattle.cec_words.specs.declared.steps.Spelling as code_spellings
use Rattle.cec_words.specs.declared.steps.Spelling.TheVariants as code_spelling
use Rattle.cec_words.specs.declared.steps.Way as code_ways
use Rattle.cec_words.specs.declared.steps.Way.TheVariants as code_way
use Rattle.cec_words.specs.declared.steps.Part as code_parts
use Rattle.cec_words.specs.declared.steps.Part.TheVariants as code_part
use Rattle.cec_words.specs.declared.steps.Step as code_steps
use Rattle.cec_words.specs.declared.steps.Step.TheVariants as code_step
use Rattle.cec_words.specs.CommandNames as commands
use Rattle.cec_words.specs.CommandNames.{Command}
use Rattle.cec_words.specs.OptionNames as settings
use Rattle.cec_words.specs.OptionNames.{Setting}
use Rattle.cec_words.specs.Parts as parts
use Rattle.cec_words.specs.Parts.{Spelling, Bare, Valued, Way, Text, Tri, Part, WordStep, Waits, Ends}

abbrev pub plain_command : code_commands.Command → Command
plain_command code_command.Blif = commands.Blif
plain_command code_command.C = commands.C
plain_command code_command.Verilog = commands.Verilog
plain_command code_command.Grc = commands.Grc
plain_command code_command.Check = commands.Check
plain_command code_command.Run = commands.Run
plain_command code_command.Exec = commands.Exec
plain_command code_command.Gen = commands.Gen

abbrev pub plain_setting : code_settings.Setting → Setting
plain_setting code_setting.Via = settings.Via
plain_setting code_setting.Main = settings.Main
plain_setting code_setting.Pick = settings.Pick
plain_setting code_setting.Start = settings.Start
plain_setting code_setting.Branches = settings.Branches
plain_setting code_setting.Run = settings.Run
plain_setting code_setting.Encode = settings.Encode
plain_setting code_setting.Guard = settings.Guard

abbrev pub plain_spelling : code_spellings.Spelling → Spelling
plain_spelling (code_spelling.Bare setting) = Bare (plain_setting setting)
plain_spelling (code_spelling.Valued setting start) = Valued (plain_setting setting) start

abbrev pub plain_way : code_ways.Way → Way
plain_way (code_way.Text form) = Text form
plain_way code_way.Tri = Tri

abbrev pub plain_part : code_parts.Part → Part
plain_part (code_part.File at) = parts.File at
plain_part (code_part.Via way) = parts.Via (plain_way way)
plain_part (code_part.Main value) = parts.Main value
plain_part (code_part.Pick choice) = parts.Pick choice
plain_part (code_part.Start number) = parts.Start number
plain_part (code_part.Branches number) = parts.Branches number
plain_part (code_part.Run number) = parts.Run number
plain_part code_part.Encode = parts.Encode
plain_part code_part.Guard = parts.Guard

abbrev pub plain_step : code_steps.Step → WordStep
plain_step (code_step.Waits setting) = Waits (plain_setting setting)
plain_step (code_step.Ends part) = Ends (plain_part part)
