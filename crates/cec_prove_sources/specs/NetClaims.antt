-- Contract: what is asked of a netlist.
use Rattle.std.specs.Prelude.{ℕ, true, not, List, [], ◌∷◌, ◌++◌, Option, Some, None, slice_index_or}
use Rattle.base_types.specs.Relations.{Relation}
use Rattle.net_ir.specs.declared.netlist.NetOut.{NetOut}
use Rattle.sat_kernel.specs.declared.literals.Literal.{Literal}
use Rattle.net_never.specs.GateClauses.{signed}
use Rattle.cec_prove_sources.specs.Claims.{claimed}
use Rattle.cec_prove_sources.specs.RelationClauses.{all_relation_clauses}
use Rattle.cec_prove_sources.specs.declared.questions.Claim.{Claim}

-- the net of the output with this place
abbrev pub output_net : List NetOut → ℕ → ℕ
output_net outputs place = (slice_index_or outputs place (record { name = []; net = record { 0 = 0 } })).net.0

-- what breaks the claim
abbrev pub bad_literal : List NetOut → Claim → ℕ → Literal
bad_literal outputs claim place = signed (output_net outputs place) (not (claimed claim))

-- the output that is assumed is true
abbrev pub assumed_clauses : List NetOut → Option ℕ → List (List Literal)
assumed_clauses outputs None = []
assumed_clauses outputs (Some place) = (signed (output_net outputs place) true ∷ []) ∷ []

-- what is allowed
abbrev pub allowed_clauses : List Relation → List NetOut → Option ℕ → List (List Literal)
allowed_clauses relations outputs assumed = all_relation_clauses relations ++ assumed_clauses outputs assumed
