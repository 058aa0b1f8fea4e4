-- A program without blocks does what the program of the C subset does that has the same assignments, and each of its calls
-- runs them all.
use Rattle.std.proofs.Common.{◌≡◌, ◌+◌, Bool, List, [], ◌∷◌, ◌++◌, length, map, refl, arith}
use Rattle.csub_text.specs.Machine as plain
use Rattle.csub_text.specs.Machine.{Memory, run_body}
use Rattle.csub_text.specs.Names.{inputs_of}
use Rattle.csub_text.specs.Trees as trees
use Rattle.csub_text.specs.Trees.{Assign}
use Rattle.csub_guard.specs.Machine.{Counted, run_assigns, chosen, run_pieces, call}
use Rattle.csub_guard.specs.Trees.{Piece, One, Program}

-- the same assignments, none in a block
abbrev pub unguarded : trees.Program → Program
unguarded p = record {
  states = p.states;
  globals = p.globals;
  locals = p.locals;
  body = map One p.body;
  answer = p.answer;
}

pub record IsPlainRun (body : List Assign) (before after : Counted) : Type 0 where
  pub memory : after.memory ≡ run_body body before.memory
  pub count : after.count ≡ before.count + length body

pub plain-run : (body : List Assign) (c : Counted) → IsPlainRun body c (run_pieces (map One body) c)
plain-run [] c = record { memory = refl; count = omega arith }
plain-run (a ∷ body) c =
    let rest = plain-run body (run_assigns (a ∷ []) c) in
    record { memory = rest.memory; count = omega (arith, rest.count) }

pub unguarded-memory : (p : trees.Program) (inputs : List Bool) (memory : Memory)
    → (call (unguarded p) inputs memory).memory ≡ plain.call p inputs memory
unguarded-memory p inputs memory =
    (plain-run p.body (record { memory = plain.with_inputs (inputs_of p) inputs memory; count = 0 })).memory

pub unguarded-count : (p : trees.Program) (inputs : List Bool) (memory : Memory) → (call (unguarded p) inputs memory).count ≡ length p.body
unguarded-count p inputs memory =
    let all = (plain-run p.body (record { memory = plain.with_inputs (inputs_of p) inputs memory; count = 0 })).count in omega (arith, all)

-- pieces one behind another
pub pieces-append : (ps qs : List Piece) (c : Counted) → run_pieces (ps ++ qs) c ≡ run_pieces qs (run_pieces ps c)
pieces-append [] qs c = refl
pieces-append (p ∷ ps) qs c = pieces-append ps qs (run_assigns (chosen p c.memory) c)
