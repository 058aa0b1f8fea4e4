-- To believe: the options of commands, and their names.
use Rattle.std.specs.Prelude.{ℕ, List, codes}

pub data Setting : Type 0 where
  Via : Setting
  Main : Setting
  Pick : Setting
  Start : Setting
  Branches : Setting
  Run : Setting
  Encode : Setting
  Guard : Setting

abbrev pub option_name : Setting → List ℕ
option_name Via = codes "--via"
option_name Main = codes "--main"
option_name Pick = codes "--pick"
option_name Start = codes "--start"
option_name Branches = codes "--branches"
option_name Run = codes "--run"
option_name Encode = codes "--encode"
option_name Guard = codes "--guard"
