-- Inner: how the parts of a node are coded.
use Rattle.std.specs.Prelude.{ℕ, ◌≡◌, ◌+◌, ◌<◌, ◌≤◌, ◌^◌, ◌==◌, ◌||◌, if◌then◌else◌, List, ◌++◌, map, ⊤}
use Rattle.net_state_enc.specs.declared.codes.Literal.{Literal}
use Rattle.net_state_enc.specs.declared.codes.Way.{Way}
use Rattle.net_state_enc.specs.declared.codes.Way.TheVariants.{Full, Loose, Part}
use Rattle.net_state_enc.specs.declared.codes.Plan.{Plan}
use Rattle.net_state_enc.specs.Codes.{LeafCode, leaf_codes, part_way, width_by}
use Rattle.net_state_enc.specs.Shapes.{Shape, widths_of}
use Rattle.net_state_enc.specs.Widths.{Widths}

-- the literals of leaves
abbrev pub needs_of : List LeafCode → List (List Literal)
needs_of es = map (λ e. e.needs) es

-- the same after others
abbrev pub codes_behind : List Literal → List LeafCode → List (List Literal)
codes_behind front es = map (λ e. front ++ e.needs) es

-- how each of two parts is coded
abbrev pub first_way : Way → Widths → Widths → Way
first_way way a b = if a.parts == 0 || b.parts == 0 then way else part_way way (a.parts + b.parts) 0

abbrev pub second_way : Way → Widths → Widths → Way
second_way way a b = if a.parts == 0 || b.parts == 0 then way else part_way way (a.parts + b.parts) a.parts

-- numbers of parts and their widths fit 32 bits
abbrev pub IsShort : Way → ℕ → Type 0
IsShort Full parts = ⊤
IsShort Loose parts = ⊤
IsShort (Part width number) parts = (width ≤ 32) × (number + parts ≤ 2 ^ 32)

-- a tree is coded as its two parts are
pub record IsPlan (plan : Plan) (known : List Literal) (t a b : Shape) (way : Way) (bit : ℕ) : Type 0 where
  pub codes : codes_behind known (leaf_codes t way bit)
      ≡ codes_behind plan.front.items (leaf_codes a plan.first plan.first_bit)
      ++ codes_behind plan.front.items (leaf_codes b plan.second plan.second_bit)
  pub first_short : IsShort plan.first (widths_of a).parts
  pub first_fits : plan.first_bit + width_by plan.first (widths_of a) < 2 ^ 32
  pub second_short : IsShort plan.second (widths_of b).parts
  pub second_fits : plan.second_bit + width_by plan.second (widths_of b) < 2 ^ 32
