-- Options that are looked through, one after another.
use Rattle.std.proofs.Common.{◌≡◌, ℕ, ◌+◌, ◌<◌, List, length, map, drop, get_or, refl, ap, ◌∙◌, sym, Option, Some, None, arith}
use Rattle.std.specs.Prelude.{option_map}
use Rattle.std.proofs.lemmas.List.{drop_more, get_or-map, length-map}
use Rattle.cec_words.specs.declared.steps.Setting as code_settings
use Rattle.cec_words.specs.declared.steps.Setting.TheVariants as code_setting
use Rattle.cec_words.specs.declared.steps.Spelling as code_spellings
use Rattle.cec_words.specs.OptionNames as settings
use Rattle.cec_words.specs.Parts.{Spelling}
use Rattle.cec_words.specs.Commands.{spelling_of, named, or_else}
use Rattle.cec_words.specs.Views.{plain_setting, plain_spelling}

is_none : {X : Type 0} (o : Option X) → ((x : X) → o ≡ Some x → ⊥) → o ≡ None
is_none None none = refl
is_none (Some x) none = absurd (none x refl)

module _ (options : List code_settings.Setting) (word : List ℕ) (k : ℕ) (low : k < length options) (found : Option code_spellings.Spelling)
    (spelled : option_map plain_spelling found ≡ spelling_of (plain_setting (get_or options k code_setting.Via)) word) where
  abbrev all : List settings.Setting
  all = map plain_setting options

  -- the next option
  named-next : named (drop k all) word ≡ or_else (option_map plain_spelling found) (named (drop (k + 1) all) word)
  named-next =
      ap (λ l. named l word) (drop_more all k settings.Via (omega (arith, low, length-map options plain_setting)))
      ∙ ap (λ s. or_else (spelling_of s word) (named (drop (k + 1) all) word)) (get_or-map plain_setting options k code_setting.Via settings.Via low)
      ∙ ap (λ o. or_else o (named (drop (k + 1) all) word)) (sym spelled)

  pub named-found : (spelling : code_spellings.Spelling) → found ≡ Some spelling → named (drop k all) word ≡ Some (plain_spelling spelling)
  named-found spelling is = named-next ∙ ap (λ o. or_else (option_map plain_spelling o) (named (drop (k + 1) all) word)) is

  pub named-passed : ((spelling : code_spellings.Spelling) → found ≡ Some spelling → ⊥) → named (drop k all) word ≡ named (drop (k + 1) all) word
  named-passed none = named-next ∙ ap (λ o. or_else (option_map plain_spelling o) (named (drop (k + 1) all) word)) (is_none found none)
