-- Contract: the plain form of what a caller chooses.
use Rattle.std.specs.Prelude.{option_map}
use Rattle.vlog_reset.specs.declared.options.ResetOptions.{ResetOptions}
use Rattle.vlog_reset.specs.Options.{ModuleOptions}

abbrev pub options_of : ResetOptions → ModuleOptions
options_of o = record {
  name = option_map (λ n. n.now) o.name;
  reset = o.reset.now;
  manner = o.manner;
  has_prefixes = o.has_prefixes;
}
