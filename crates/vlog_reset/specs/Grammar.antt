-- To believe: the tokens of a module, which determine it. In words, where NAME is any name, and CLOCK and RESET are
-- those of the clock and of the reset:
--
-- ```
--   text     = "module" NAME "(" "input" "wire" CLOCK "," "input" "wire" RESET { "," "input" "wire" NAME }
--              { "," "output" "wire" NAME } ")" ";" { "reg" NAME ";" } { "wire" NAME ";" }
--              { "initial" NAME "=" BIT ";" } { "assign" NAME "=" expr ";" } [ clocked ] "endmodule"
--   clocked  = "always" "@" "(" "posedge" CLOCK [ "or" ( "posedge" | "negedge" ) RESET ] ")"
--              "if" "(" [ "!" ] RESET ")" "begin" { NAME "<=" BIT ";" } "end"
--              "else" "begin" { NAME "<=" NAME ";" } "end"
--   expr     = factor { "&" factor } | factor { "|" factor }
--   factor   = NAME | BIT | "~" factor | "(" expr ")"
--   BIT      = "1'b0" | "1'b1"
-- ```
-- An asynchronous module has an edge of RESET, which is `negedge` if the reset is active low. In that case the test has
-- `!` before RESET. Each register has an `initial` if the manner says so. A module without registers has no `always`.
use Rattle.std.specs.Prelude.{ℕ, Bool, true, false, List, [], ◌∷◌, ◌++◌, flat_map, codes, if◌then◌else◌}
use Rattle.net_expressions.specs.Trees.{Expr, Name, Const, Not, And, Or, Exprs, NoExprs, MoreExprs}
use Rattle.vlog_text.specs.Machine.{given_inputs}
use Rattle.vlog_reset.specs.Tokens.{Kind, Word, Mark}
use Rattle.vlog_reset.specs.Trees.{Assign, Manner, Register, ResetModule, clock_of}

abbrev pub semicolon : Kind
semicolon = Mark (codes ";")

abbrev pub comma : Kind
comma = Mark (codes ",")

abbrev pub equals : Kind
equals = Mark (codes "=")

abbrev pub becomes : Kind
becomes = Mark (codes "<=")

abbrev pub left : Kind
left = Mark (codes "(")

abbrev pub right : Kind
right = Mark (codes ")")

-- ---- expressions

abbrev pub bit_kind : Bool → Kind
bit_kind false = Mark (codes "1'b0")
bit_kind true = Mark (codes "1'b1")

abbrev mutual
  pub expr_kinds : Expr → List Kind
  expr_kinds (Name name) = Word name ∷ []
  expr_kinds (Const value) = bit_kind value ∷ []
  expr_kinds (Not e) = Mark (codes "~") ∷ factor_kinds e
  expr_kinds (And parts) = parts_kinds (Mark (codes "&")) parts
  expr_kinds (Or parts) = parts_kinds (Mark (codes "|")) parts

  -- a part of an expression: one of several parts is in brackets
  pub factor_kinds : Expr → List Kind
  factor_kinds (Name name) = Word name ∷ []
  factor_kinds (Const value) = bit_kind value ∷ []
  factor_kinds (Not e) = Mark (codes "~") ∷ factor_kinds e
  factor_kinds (And parts) = left ∷ (parts_kinds (Mark (codes "&")) parts ++ right ∷ [])
  factor_kinds (Or parts) = left ∷ (parts_kinds (Mark (codes "|")) parts ++ right ∷ [])

  pub parts_kinds : Kind → Exprs → List Kind
  parts_kinds mark NoExprs = []
  parts_kinds mark (MoreExprs e others) = factor_kinds e ++ others_kinds mark others

  pub others_kinds : Kind → Exprs → List Kind
  others_kinds mark NoExprs = []
  others_kinds mark (MoreExprs e others) = mark ∷ (factor_kinds e ++ others_kinds mark others)

-- ---- the ports

abbrev pub input_kinds : List ℕ → List Kind
input_kinds name = comma ∷ Word (codes "input") ∷ Word (codes "wire") ∷ Word name ∷ []

abbrev pub output_kinds : List ℕ → List Kind
output_kinds name = comma ∷ Word (codes "output") ∷ Word (codes "wire") ∷ Word name ∷ []

abbrev pub head_kinds : List ℕ → List ℕ → List ℕ → List Kind
head_kinds name clock reset =
    Word (codes "module") ∷ Word name ∷ left ∷ Word (codes "input") ∷ Word (codes "wire") ∷ Word clock
    ∷ input_kinds reset

-- ---- declarations and assignments

abbrev pub reg_kinds : Register → List Kind
reg_kinds r = Word (codes "reg") ∷ Word r.name ∷ semicolon ∷ []

abbrev pub wire_kinds : List ℕ → List Kind
wire_kinds name = Word (codes "wire") ∷ Word name ∷ semicolon ∷ []

abbrev pub initial_kinds : Register → List Kind
initial_kinds r = Word (codes "initial") ∷ Word r.name ∷ equals ∷ bit_kind r.init ∷ semicolon ∷ []

abbrev pub assign_kinds : Assign Expr → List Kind
assign_kinds a = Word (codes "assign") ∷ Word a.target ∷ equals ∷ (expr_kinds a.value ++ semicolon ∷ [])

-- the registers that have their first values at power-up too
abbrev pub initial_ones : {X : Type 0} → Manner → List X → List X
initial_ones manner registers = if manner.is_initialized then registers else []

-- ---- what the registers get

abbrev pub edge_word : Bool → List ℕ
edge_word true = codes "negedge"
edge_word false = codes "posedge"

-- the edge at which an asynchronous reset becomes active
abbrev pub edge_kinds : Manner → List ℕ → List Kind
edge_kinds manner reset =
    if manner.is_asynchronous then Word (codes "or") ∷ Word (edge_word manner.is_active_low) ∷ Word reset ∷ [] else []

-- whether the reset is active
abbrev pub test_kinds : Manner → List ℕ → List Kind
test_kinds manner reset = if manner.is_active_low then Mark (codes "!") ∷ Word reset ∷ [] else Word reset ∷ []

abbrev pub clock_kinds : Manner → List ℕ → List ℕ → List Kind
clock_kinds manner clock reset =
    Word (codes "always") ∷ Mark (codes "@") ∷ left ∷ Word (codes "posedge") ∷ Word clock
    ∷ (edge_kinds manner reset ++ (right ∷ Word (codes "if") ∷ left
    ∷ (test_kinds manner reset ++ (right ∷ Word (codes "begin") ∷ []))))

abbrev pub first_kinds : Register → List Kind
first_kinds r = Word r.name ∷ becomes ∷ bit_kind r.init ∷ semicolon ∷ []

abbrev pub else_kinds : List Kind
else_kinds = Word (codes "end") ∷ Word (codes "else") ∷ Word (codes "begin") ∷ []

abbrev pub next_kinds : Register → List Kind
next_kinds r = Word r.name ∷ becomes ∷ Word r.from ∷ semicolon ∷ []

-- nothing where there is no register
abbrev pub where_some : {X Y : Type 0} → List X → List Y → List Y
where_some [] ys = []
where_some (x ∷ xs) ys = ys

abbrev pub clocked_kinds : ResetModule → List Kind
clocked_kinds m =
    let registers = m.design.registers in
    where_some registers (clock_kinds m.manner (clock_of m) m.reset) ++ (flat_map first_kinds registers
    ++ (where_some registers else_kinds ++ (flat_map next_kinds registers
    ++ where_some registers (Word (codes "end") ∷ []))))

abbrev pub module_kinds : ResetModule → List Kind
module_kinds m =
    let registers = m.design.registers in
    head_kinds m.design.name (clock_of m) m.reset
    ++ (flat_map input_kinds (given_inputs m.design) ++ (flat_map output_kinds m.design.outputs
    ++ (right ∷ semicolon ∷ (flat_map reg_kinds registers ++ (flat_map wire_kinds m.design.wires
    ++ (flat_map initial_kinds (initial_ones m.manner registers) ++ (flat_map assign_kinds m.design.assigns
    ++ (clocked_kinds m ++ Word (codes "endmodule") ∷ []))))))))
