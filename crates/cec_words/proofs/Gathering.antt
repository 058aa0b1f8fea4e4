-- Words that are gathered one by one.
use Rattle.std.proofs.Common.{◌≡◌, ℕ, ◌+◌, ◌<◌, List, [], ◌∷◌, length, get_or, drop, refl, ap, sym, ◌∙◌, Option, Some, None}
use Rattle.std.specs.Prelude.{option_map}
use Rattle.std.proofs.lemmas.List.{drop_more}
use Rattle.cec_words.specs.declared.given.Given.{Given}
use Rattle.cec_words.specs.declared.steps.Part as code_parts
use Rattle.cec_words.specs.declared.steps.Setting as code_settings
use Rattle.cec_words.specs.declared.steps.Step as code_steps
use Rattle.cec_words.specs.declared.steps.Step.TheVariants as code_step
use Rattle.cec_words.specs.CommandNames.{Command}
use Rattle.cec_words.specs.OptionNames.{Setting}
use Rattle.cec_words.specs.Parts.{WordStep}
use Rattle.cec_words.specs.Commands.{step_of}
use Rattle.cec_words.specs.Readings.{Gathered, with_part, after_step, gathered, asked_once}
use Rattle.cec_words.specs.Slots.{Fills, Overfills, asked_with, HasNoMeaning, Takes}
use Rattle.cec_words.specs.Views.{plain_part, plain_setting, plain_step}

gathered-cons : (command : Command) (waiting : Option Setting) (at : ℕ) (word : List ℕ) (words : List (List ℕ)) →
    gathered command waiting at (word ∷ words) ≡ after_step (λ w. gathered command w (at + 1) words) (step_of command waiting at word)
gathered-cons command None at word words = refl
gathered-cons command (Some setting) at word words = refl

-- the next word
gathered-drop : (command : Command) (waiting : Option Setting) (at : ℕ) (words : List (List ℕ)) (k : ℕ) (word : List ℕ) → k < length words →
    word ≡ get_or words k []
    → gathered command waiting at (drop k words) ≡ after_step (λ w. gathered command w (at + 1) (drop (k + 1) words)) (step_of command waiting at word)
gathered-drop command waiting at words k word low is =
    ap (gathered command waiting at) (drop_more words k [] low) ∙ gathered-cons command waiting at (get_or words k []) (drop (k + 1) words)
    ∙ ap (λ w. after_step (λ s. gathered command s (at + 1) (drop (k + 1) words)) (step_of command waiting at w)) (sym is)

pub Takes-ends : (old new : Given) (part : code_parts.Part) → Fills old new part → Takes old (code_step.Ends part) new None
Takes-ends old new part same command rest = go (rest None)
  where
    go : (left : Option Gathered) → asked_with command old (option_map (with_part (plain_part part)) left) ≡ asked_with command new left
    go None = refl
    go (Some g) = ap (asked_once command) (sym (same g))

pub HasNoMeaning-ends : (old : Given) (part : code_parts.Part) → Overfills old part → HasNoMeaning old (code_step.Ends part)
HasNoMeaning-ends old part none command rest = go (rest None)
  where
    go : (left : Option Gathered) → asked_with command old (option_map (with_part (plain_part part)) left) ≡ None
    go None = refl
    go (Some g) = none command g

module _ (command : Command) (given : Given) (waiting : Option Setting) (at : ℕ) (words : List (List ℕ)) (k : ℕ) (word : List ℕ) (low : k < length words)
    (is : word ≡ get_or words k []) where
  abbrev rest : Option Setting → Option Gathered
  rest w = gathered command w (at + 1) (drop (k + 1) words)

  next : (step : Option WordStep) → step_of command waiting at word ≡ step →
      asked_with command given (gathered command waiting at (drop k words)) ≡ asked_with command given (after_step rest step)
  next step e = ap (asked_with command given) (gathered-drop command waiting at words k word low is ∙ ap (after_step rest) e)

  pub next-none : step_of command waiting at word ≡ None → asked_with command given (gathered command waiting at (drop k words)) ≡ None
  next-none e = next None e

  pub next-no_meaning : (step : code_steps.Step) → step_of command waiting at word ≡ Some (plain_step step) → HasNoMeaning given step →
      asked_with command given (gathered command waiting at (drop k words)) ≡ None
  next-no_meaning step e none = next (Some (plain_step step)) e ∙ none command rest

  pub next-takes : (step : code_steps.Step) (new : Given) (waits : Option code_settings.Setting) → step_of command waiting at word ≡ Some (plain_step step)
      → Takes given step new waits
      → asked_with command given (gathered command waiting at (drop k words))
      ≡ asked_with command new (gathered command (option_map plain_setting waits) (at + 1) (drop (k + 1) words))
  next-takes step new waits e takes = next (Some (plain_step step)) e ∙ takes command rest
