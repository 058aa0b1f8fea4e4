-- To believe: the words after `verilog --reset`, in any order: how the reset works, names, and a text or a source.
use Rattle.std.specs.Prelude.{ℕ, Bool, true, false, not, ◌||◌, if◌then◌else◌, List, [], ◌∷◌, ◌++◌, codes}
use Rattle.std.specs.Prelude.{Option, Some, None, is_some, option_map, ok_or, Result, Ok, Err}
use Rattle.base_types.specs.Names.{is_same_name}
use Rattle.vlog_reset.specs.Options.{ModuleOptions}
use Rattle.vlog_reset.specs.declared.options.Manner.{Manner}
use Rattle.cec_opt_sources.specs.declared.light.Coding.{Coding}
use Rattle.cec_opt_sources.specs.declared.light.Coding.TheVariants.{Lighter, Encoded}
use Rattle.cec_opt_texts.specs.Related.{result_then}
use Rattle.cec_words.specs.CommonWords.{is_plain}

-- what the words have said so far
pub record Wanted : Type 0 where
  pub options : ModuleOptions
  pub source : Option (List ℕ)
  pub main : Option (List ℕ)
  pub text : Option (List ℕ)
  pub is_encoded : Bool

-- before any such word: a reset of this name that takes effect at edges of the clock, and is active high
abbrev pub plain_reset : List ℕ → Wanted
plain_reset reset = record {
  options = record {
    name = None;
    reset = reset;
    manner = record { is_asynchronous = false; is_active_low = false; is_initialized = false };
    has_prefixes = false;
  };
  source = None;
  main = None;
  text = None;
  is_encoded = false;
}

-- ---- words without a value, each at most once

abbrev pub with_asynchronous : Manner → Option Manner
with_asynchronous m = if m.is_asynchronous then None else Some (record m { is_asynchronous = true })

abbrev pub with_active_low : Manner → Option Manner
with_active_low m = if m.is_active_low then None else Some (record m { is_active_low = true })

abbrev pub with_initialized : Manner → Option Manner
with_initialized m = if m.is_initialized then None else Some (record m { is_initialized = true })

abbrev pub manner_with : Manner → List ℕ → Option Manner
manner_with m word =
    if is_same_name word (codes "--async") then with_asynchronous m
    else if is_same_name word (codes "--active-low") then with_active_low m
    else if is_same_name word (codes "--initial") then with_initialized m
    else None

abbrev pub with_prefixes : ModuleOptions → Option ModuleOptions
with_prefixes o = if o.has_prefixes then None else Some (record o { has_prefixes = true })

abbrev pub with_flag : ModuleOptions → List ℕ → Option ModuleOptions
with_flag o word =
    if is_same_name word (codes "--prefix") then with_prefixes o
    else option_map (λ m. record o { manner = m }) (manner_with o.manner word)

-- a text, where neither one nor a source is named, and none is asked to be encoded
abbrev pub with_its_text : Wanted → List ℕ → Option Wanted
with_its_text w name =
    if is_some w.text || (is_some w.source || (is_some w.main || w.is_encoded)) then None
    else Some (record w { text = Some name })

-- a source is encoded, and no text
abbrev pub with_encoded : Wanted → Option Wanted
with_encoded w = if is_some w.text || w.is_encoded then None else Some (record w { is_encoded = true })

-- the circuit of a source whose latches hold the state in a code, or the lighter one of two
abbrev pub coding_of : Bool → Coding
coding_of true = Encoded
coding_of false = Lighter

abbrev pub with_word : Wanted → List ℕ → Option Wanted
with_word w word =
    if is_plain word then with_its_text w word
    else if is_same_name word (codes "--encode") then with_encoded w
    else option_map (λ o. record w { options = o }) (with_flag w.options word)

-- ---- words with a value, each at most once

abbrev pub with_module : Wanted → List ℕ → Option Wanted
with_module w value =
    if is_some w.options.name || not (is_plain value) then None
    else Some (record w { options = record w.options { name = Some value } })

abbrev pub with_its_source : Wanted → List ℕ → Option Wanted
with_its_source w value =
    if is_some w.text || (is_some w.source || not (is_plain value)) then None
    else Some (record w { source = Some value })

abbrev pub with_its_main : Wanted → List ℕ → Option Wanted
with_its_main w value =
    if is_some w.text || (is_some w.main || not (is_plain value)) then None else Some (record w { main = Some value })

abbrev pub with_value : Wanted → (key value : List ℕ) → Option Wanted
with_value w key value =
    if is_same_name key (codes "--module") then with_module w value
    else if is_same_name key (codes "--source") then with_its_source w value
    else if is_same_name key (codes "--main") then with_its_main w value
    else None

abbrev pub needs_value : List ℕ → Bool
needs_value word =
    is_same_name word (codes "--module") || (is_same_name word (codes "--source") || is_same_name word (codes "--main"))

-- ---- all of them

-- what is wrong with a word that has no value, and does not go with those before; a file is one word too many
abbrev pub bad_word : List ℕ → List ℕ
bad_word word = if is_plain word then codes "one word too many: " ++ word else codes "bad option: " ++ word

-- the words that follow; the one that is named here waits for its value
abbrev pub wanted_by : Wanted → (waiting : Option (List ℕ)) → List (List ℕ) → Result Wanted (List ℕ)
wanted_by w None [] = Ok w
wanted_by w None (word ∷ more) =
    if needs_value word then wanted_by w (Some word) more
    else result_then (λ next. wanted_by next None more) (ok_or (with_word w word) (bad_word word))
wanted_by w (Some key) [] = Err (codes "no value after " ++ key)
wanted_by w (Some key) (value ∷ more) =
    result_then (λ next. wanted_by next None more) (ok_or (with_value w key value) (codes "bad option: " ++ key))
