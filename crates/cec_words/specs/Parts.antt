-- To believe: the parts that the words after a command make.
use Rattle.std.specs.Prelude.{ℕ}
use Rattle.cec_words.specs.declared.asked.Via.{Via as Form}
use Rattle.cec_words.specs.declared.asked.Pick.{Pick as Choice}
use Rattle.cec_words.specs.declared.asked.Value.{Value}
use Rattle.cec_words.specs.OptionNames.{Setting}

-- what a run goes by: a text of this form, or three-valued reactions
pub data Way : Type 0 where
  Text : (form : Form) → Way
  Tri : Way

-- how a word spells an option: by its name alone, or with the value from this byte on
pub data Spelling : Type 0 where
  Bare : (setting : Setting) → Spelling
  Valued : (setting : Setting) (start : ℕ) → Spelling

-- a file, by the place of its word, or an option with its value, where it takes one
pub data Part : Type 0 where
  File : (at : ℕ) → Part
  Via : (way : Way) → Part
  Main : (value : Value) → Part
  Pick : (choice : Choice) → Part
  Start : (number : ℕ) → Part
  Branches : (number : ℕ) → Part
  Run : (number : ℕ) → Part
  Encode : Part
  Guard : Part

-- what a word does: it makes an option wait for its value, or it ends a part
pub data WordStep : Type 0 where
  Waits : (setting : Setting) → WordStep
  Ends : (part : Part) → WordStep
