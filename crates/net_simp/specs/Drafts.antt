-- Inner: the gates that the first pass makes.
use Rattle.std.specs.Prelude.{⊤, ◌≡◌, ℕ, ◌+◌, ◌<◌, Bool, true, false, Option, None, Some, List, [], ◌∷◌, ◌++◌, length}
use Rattle.std.specs.Prelude.{slice_index_or, if◌then◌else◌, IsTrue, All}
use Rattle.indexmap.specs.IndexMap.{IndexMap, get}
use Rattle.base_types.specs.declared.indices.NetId.{NetId}
use Rattle.base_types.specs.declared.indices.WireId.{WireId}
use Rattle.net_ir.specs.declared.netlist.Op.{Op}
use Rattle.net_ir.specs.declared.netlist.Op.TheVariants.{Const, Copy, Not, And, Or}
use Rattle.net_ir.specs.declared.netlist.Gate.{Gate}
use Rattle.net_ir.specs.Gates.{ReadsLower}
use Rattle.net_simp.specs.declared.forms.Form.{Form}
use Rattle.net_simp.specs.contracts.forms.FormPartialEq.TheImpl as form_eq
use Rattle.net_simp.specs.SimpleNets.{IsNoCopy}
use Rattle.net_simp.specs.Renaming.{stand_in}
use Rattle.net_simp.specs.Rules.{op_at, reduced_op}
use Rattle.net_simp.specs.Forms.{form_of}
use Rattle.net_simp.specs.Keeping.{KeepsValues, Any}

abbrev pub same_form : Form → Form → Bool
same_form = (form_eq.ghosts).eq

-- the net that is known to compute a form
abbrev pub form_in : {S : Type 0} → IndexMap Form NetId S → Form → Option NetId
form_in m q = get same_form m q

abbrev pub found_by : Option NetId → Op → Op
found_by None op = op
found_by (Some n) op = Copy n

-- the operator, or a copy of the net that is known to compute it
abbrev pub found_op : (Form → Option NetId) → Op → Op
found_op known op = found_by (known (form_of op)) op

-- a copy of a net whose gate has this operator: of a constant it is that constant
abbrev pub outright_op : Option Op → NetId → Op
outright_op None n = Copy n
outright_op (Some (Const b)) n = Const b
outright_op (Some (Copy m)) n = Copy n
outright_op (Some (Not m)) n = Copy n
outright_op (Some (And l m)) n = Copy n
outright_op (Some (Or l m)) n = Copy n

abbrev pub told : ℕ → List Gate → NetId → Option WireId → List Gate
told first gates n None = gates
told first gates n (Some w) = gates ++ record { op = outright_op (op_at first gates n.0) n; wire = Some w } ∷ []

-- the gates with one more, where it copies no net or carries a wire
abbrev pub with_gate : ℕ → List Gate → Op → Option WireId → List Gate
with_gate first gates (Copy n) wire = told first gates n wire
with_gate first gates (Const b) wire = gates ++ record { op = Const b; wire = wire } ∷ []
with_gate first gates (Not n) wire = gates ++ record { op = Not n; wire = wire } ∷ []
with_gate first gates (And m n) wire = gates ++ record { op = And m n; wire = wire } ∷ []
with_gate first gates (Or m n) wire = gates ++ record { op = Or m n; wire = wire } ∷ []

-- the net that stands for a gate of this operator, where one of its own has the number `own`
abbrev pub name_of : Op → ℕ → NetId
name_of (Copy n) own = n
name_of (Const b) own = record { 0 = own }
name_of (Not n) own = record { 0 = own }
name_of (And m n) own = record { 0 = own }
name_of (Or m n) own = record { 0 = own }

abbrev pub set_form : (Form → Option NetId) → Op → ℕ → Form → Option NetId
set_form known op own q = if same_form (form_of op) q then Some (record { 0 = own }) else known q

-- what is known with one more gate
abbrev pub with_form : (Form → Option NetId) → Op → ℕ → Form → Option NetId
with_form known (Copy n) own q = known q
with_form known (Const b) own q = set_form known (Const b) own q
with_form known (Not n) own q = set_form known (Not n) own q
with_form known (And m n) own q = set_form known (And m n) own q
with_form known (Or m n) own q = set_form known (Or m n) own q

abbrev pub no_copy : Option Op → Type 0
no_copy None = ⊤
no_copy (Some op) = IsNoCopy op

-- an input, a latch, or a gate that is neither a copy nor a constant
abbrev pub computes : Option Op → Type 0
computes None = ⊤
computes (Some (Const b)) = ⊥
computes (Some (Copy n)) = ⊥
computes (Some (Not n)) = ⊤
computes (Some (And m n)) = ⊤
computes (Some (Or m n)) = ⊤

-- no rule makes less of the operator
abbrev pub Settled : ℕ → List Gate → Op → Type 0
Settled first gates (Const b) = ⊤
Settled first gates (Copy n) = no_copy (op_at first gates n.0)
Settled first gates (Not n) = computes (op_at first gates n.0)
Settled first gates (And m n) = (m.0 ≡ n.0 → ⊥) × computes (op_at first gates m.0) × computes (op_at first gates n.0)
Settled first gates (Or m n) = (m.0 ≡ n.0 → ⊥) × computes (op_at first gates m.0) × computes (op_at first gates n.0)

-- a net that computes the form
pub record Finds (first : ℕ) (gates : List Gate) (q : Form) (n : ℕ) : Type 0 where
  pub op : Op
  pub low : n < first + length gates
  pub at : op_at first gates n ≡ Some op
  pub form : form_of op ≡ q
  pub no_copy_is : IsNoCopy op

-- the new gates, of which no rule makes less, and those that carry no wire are no copies
pub record Settles (first : ℕ) (new : List Gate) : Type 0 where
  pub settled : All (λ g. Settled first new g.op) new
  pub reduced : All (λ g. reduced_op first new g.op ≡ g.op) new
  pub no_copies : All (λ g. g.wire ≡ None → IsNoCopy g.op) new

-- the new gates for these old ones, with what stands for each old net and what is known of forms
pub record Drafted (first : ℕ) (old new : List Gate) (names : List NetId) (known : Form → Option NetId) : Type 0 where
  pub count : length names ≡ first + length old
  pub keeps : KeepsValues first old new (stand_in names) Any
  pub names_no_copy : (n : ℕ) → n < length names → no_copy (op_at first new (stand_in names n))
  pub settles : Settles first new
  pub finds : (q : Form) (n : NetId) → known q ≡ Some n → Finds first new q n.0
  pub knows : (k : ℕ) (d : Gate) → k < length new → (slice_index_or new k d).wire ≡ None
      → known (form_of (slice_index_or new k d).op) ≡ Some (record { 0 = first + k })

-- what stands for nets and is known of forms are nets
pub record InRange (first : ℕ) (gates : List Gate) (names : List NetId) (known : Form → Option NetId) : Type 0 where
  pub stand_in_low : (n : ℕ) → n < length names → stand_in names n < first + length gates
  pub reads_lower : ReadsLower first gates
  pub known_low : (q : Form) (n : NetId) → known q ≡ Some n → n.0 < first + length gates

-- no two gates that carry no wire have operators of one form
abbrev pub FormsOnce : List Gate → Type 0
FormsOnce gates = (j k : ℕ) (d : Gate) → j < length gates → k < length gates
    → (slice_index_or gates j d).wire ≡ None → (slice_index_or gates k d).wire ≡ None
    → form_of (slice_index_or gates j d).op ≡ form_of (slice_index_or gates k d).op → j ≡ k

-- what the first pass makes
pub record Folded (first : ℕ) (old new : List Gate) (names : List NetId) : Type 0 where
  pub count : length names ≡ first + length old
  pub keeps : KeepsValues first old new (stand_in names) Any
  pub settles : Settles first new
  pub once : FormsOnce new
