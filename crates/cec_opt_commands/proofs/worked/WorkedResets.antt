-- Worked requests for Verilog with a reset, by hand, what is amiss with others, and the lines of faults of names.
use Rattle.std.proofs.Common.{◌≡◌, ℕ, Bool, true, false, List, [], ◌∷◌, map, Option, None, Some, Ok, Err, codes, refl}
use Rattle.vlog_reset.specs.Options.{ModuleOptions}
use Rattle.vlog_reset.specs.declared.fault.ResetFault.TheVariants.{NoModule, NoReset, Reserved, Twice}
use Rattle.cec_opt_sources.specs.declared.light.Coding.TheVariants.{Encoded, Lighter}
use Rattle.cec_opt_commands.specs.Lines.{line_of, named}
use Rattle.cec_opt_commands.specs.Statuses.{status_of, written_of}
use Rattle.cec_opt_commands.specs.Words.{Task, Do, Make, Reset, request_by}
use Rattle.cec_opt_commands.specs.declared.outcome.OptOutcome.TheVariants.{BadModule}

-- ---- words

-- the words after `verilog --reset rst`
abbrev resets : List (List ℕ) → List (List ℕ)
resets words = codes "verilog" ∷ codes "--reset" ∷ codes "rst" ∷ words

abbrev options : Option (List ℕ) → (asynchronous low initialized prefixes : Bool) → ModuleOptions
options name asynchronous low initialized prefixes = record {
  name = name;
  reset = codes "rst";
  manner = record { is_asynchronous = asynchronous; is_active_low = low; is_initialized = initialized };
  has_prefixes = prefixes;
}

abbrev plain_options : ModuleOptions
plain_options = options None false false false false

abbrev with_names : Option (List ℕ) → (asynchronous low initialized prefixes : Bool) → Task
with_names name asynchronous low initialized prefixes = Reset (options name asynchronous low initialized prefixes) Lighter

abbrev plain : Task
plain = with_names None false false false false

requests : map (λ words. request_by (resets words)) ((codes "p" ∷ []) ∷ (codes "--source" ∷ codes "p" ∷ [])
    ∷ (codes "--main" ∷ codes "M" ∷ codes "--async" ∷ codes "--source" ∷ codes "p" ∷ [])
    ∷ (codes "--initial" ∷ codes "p" ∷ codes "--active-low" ∷ [])
    ∷ (codes "--prefix" ∷ codes "--module" ∷ codes "top" ∷ codes "p" ∷ [])
    ∷ (codes "p" ∷ codes "--module" ∷ codes "top" ∷ codes "--initial" ∷ codes "--prefix" ∷ codes "--active-low" ∷ codes "--async" ∷ []) ∷ [])
    ≡ Ok (Do plain [] (codes "p")) ∷ Ok (Make plain (codes "p") None) ∷ Ok (Make (with_names None true false false false) (codes "p") (Some (codes "M")))
    ∷ Ok (Do (with_names None false true true false) [] (codes "p")) ∷ Ok (Do (with_names (Some (codes "top")) false false false true) [] (codes "p"))
    ∷ Ok (Do (with_names (Some (codes "top")) true true true true) [] (codes "p")) ∷ []
requests = refl

-- a source alone is encoded
encoded : map (λ words. request_by (resets words)) ((codes "--encode" ∷ codes "--source" ∷ codes "p" ∷ [])
    ∷ (codes "--source" ∷ codes "p" ∷ codes "--encode" ∷ []) ∷ [])
    ≡ Ok (Make (Reset plain_options Encoded) (codes "p") None) ∷ Ok (Make (Reset plain_options Encoded) (codes "p") None) ∷ []
encoded = refl

misuses_of_encoded : map (λ words. request_by (resets words)) ((codes "--encode" ∷ codes "p" ∷ []) ∷ (codes "p" ∷ codes "--encode" ∷ [])
    ∷ (codes "--encode" ∷ codes "--encode" ∷ codes "--source" ∷ codes "p" ∷ []) ∷ (codes "--encode" ∷ []) ∷ [])
    ≡ map Err (codes "one word too many: p" ∷ codes "bad option: --encode" ∷ codes "bad option: --encode" ∷ codes "no file after verilog" ∷ [])
misuses_of_encoded = refl

-- a word twice, a word that is none, a text with a source or with a main module, no file, a file too many, and no value
misuses : map (λ words. request_by (resets words))
    ((codes "--async" ∷ codes "--async" ∷ codes "p" ∷ []) ∷ (codes "--prefix" ∷ codes "p" ∷ codes "--prefix" ∷ [])
    ∷ (codes "--packed" ∷ codes "p" ∷ []) ∷ (codes "p" ∷ codes "--source" ∷ codes "q" ∷ []) ∷ (codes "--main" ∷ codes "M" ∷ codes "p" ∷ [])
    ∷ (codes "--main" ∷ codes "M" ∷ []) ∷ (codes "--async" ∷ []) ∷ (codes "p" ∷ codes "q" ∷ []) ∷ (codes "--module" ∷ []) ∷ (codes "p" ∷ codes "--main" ∷ [])
    ∷ (codes "--module" ∷ codes "-m" ∷ codes "p" ∷ []) ∷ (codes "--module" ∷ codes "m" ∷ codes "--module" ∷ codes "m" ∷ codes "p" ∷ []) ∷ [])
    ≡ map Err (codes "bad option: --async" ∷ codes "bad option: --prefix" ∷ codes "bad option: --packed" ∷ codes "bad option: --source"
    ∷ codes "one word too many: p" ∷ codes "no file after verilog" ∷ codes "no file after verilog" ∷ codes "one word too many: q"
    ∷ codes "no value after --module" ∷ codes "no value after --main" ∷ codes "bad option: --module" ∷ codes "bad option: --module" ∷ [])
misuses = refl

-- the reset comes first, right after `verilog`
misuses_elsewhere : map request_by ((codes "verilog" ∷ codes "--reset" ∷ []) ∷ (codes "verilog" ∷ codes "--reset" ∷ codes "-r" ∷ codes "p" ∷ [])
    ∷ (codes "verilog" ∷ codes "--async" ∷ codes "--reset" ∷ codes "rst" ∷ codes "p" ∷ [])
    ∷ (codes "blif" ∷ codes "--reset" ∷ codes "rst" ∷ codes "p" ∷ []) ∷ (codes "verilog" ∷ codes "p" ∷ codes "--reset" ∷ codes "rst" ∷ []) ∷ [])
    ≡ map Err (codes "no value after --reset" ∷ codes "bad option: --reset" ∷ codes "bad option: --async" ∷ codes "bad option: --reset"
    ∷ codes "one word too many: --reset" ∷ [])
misuses_elsewhere = refl

-- ---- faults

lines : map (λ fault. line_of (named []) (BadModule fault)) (NoModule ∷ NoReset ∷ Reserved (codes "wire") ∷ Twice (codes "clk") ∷ [])
    ≡ codes "cec-opt: the name of the module is not a letter followed by letters, digits and _\n"
    ∷ codes "cec-opt: the name after --reset is not a letter followed by letters, digits and _\n"
    ∷ codes "cec-opt: a name is a word of Verilog: wire\n" ∷ codes "cec-opt: two names are the same: clk\n" ∷ []
lines = refl

statuses : map status_of (BadModule NoModule ∷ BadModule NoReset ∷ BadModule (Reserved (codes "wire")) ∷ BadModule (Twice (codes "clk")) ∷ [])
    ≡ 14 ∷ 14 ∷ 14 ∷ 14 ∷ []
statuses = refl

nothing_written : written_of (BadModule NoModule) ≡ None
nothing_written = refl
