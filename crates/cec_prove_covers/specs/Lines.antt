-- To believe: the lines of a covering.
use Rattle.std.specs.Prelude.{ℕ, Bool, true, false, List, [], ◌∷◌, ◌++◌, codes, decimal}
use Rattle.est_cover.specs.declared.points.Point.{Point}
use Rattle.est_cover.specs.declared.points.PointKind.{PointKind}
use Rattle.est_cover.specs.declared.points.PointKind.TheVariants.{Emit, Sustain, Pause, Halt, Await, Then, Else}
use Rattle.est_cover.specs.declared.points.PointKind.TheVariants.{Case, Do, Handle}
use Rattle.est_front.specs.Positions.{Position, position}

-- what is known of a point
pub data Reach : Type 0 where
  -- no reaction starts what is there
  Never : Reach
  -- the last reaction to this trace does
  Reached : (trace : List ℕ) → Reach
  -- neither was shown
  Unknown : Reach

abbrev pub is_decided : Reach → Bool
is_decided Never = true
is_decided (Reached trace) = true
is_decided Unknown = false

abbrev pub kind_word : PointKind → List ℕ
kind_word Emit = codes "emit"
kind_word Sustain = codes "sustain"
kind_word Pause = codes "pause"
kind_word Halt = codes "halt"
kind_word Await = codes "await"
kind_word Then = codes "then"
kind_word Else = codes "else"
kind_word Case = codes "case"
kind_word Do = codes "do"
kind_word Handle = codes "handle"

-- LINE:COLUMN
abbrev pub place_text : Position → List ℕ
place_text p = decimal p.line ++ (codes ":" ++ decimal p.column)

-- a trace on one line has a space before each instant
abbrev pub reach_text : Reach → List ℕ
reach_text Never = codes " never\n"
reach_text (Reached trace) = codes " reached:" ++ (trace ++ codes "\n")
reach_text Unknown = codes " undecided\n"

-- LINE:COLUMN: KIND, and what is known
abbrev pub point_text : List ℕ → Point → Reach → List ℕ
point_text source point reach =
    place_text (position source point.span.start) ++ (codes ": " ++ (kind_word point.kind ++ reach_text reach))

abbrev pub covering_text : List ℕ → List Point → List Reach → List ℕ
covering_text source (point ∷ points) (reach ∷ others) =
    point_text source point reach ++ covering_text source points others
covering_text source [] others = []
covering_text source (point ∷ points) [] = []
