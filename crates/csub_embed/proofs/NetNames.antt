-- The names of a net's component: that they are free words, and that no two locals and no two states have one.
use Rattle.std.proofs.Common.{◌≡◌, ℕ, ◌<◌, ◌^◌, ◌==◌, Bool, true, false, not, ◌||◌, List, [], ◌∷◌, ◌++◌, map, refl}
use Rattle.std.proofs.Common.{ap, ◌∙◌, arith}
use Rattle.std.specs.Prelude.{codes, decimal}
use Rattle.std.specs.List.{list_all}
use Rattle.base_types.specs.Distinct.{all_differ}
use Rattle.base_types.specs.Names.{is_name, is_same_name}
use Rattle.net_ir.specs.Netlists.{Netlist}
use Rattle.net_ir.specs.NameLists.{is_among}
use Rattle.net_ir.specs.Numbered.{numbered}
use Rattle.net_ir.specs.Writing.{IsWritable}
use Rattle.net_ir.specs.declared.netlist.Gate.{Gate}
use Rattle.net_ir.specs.declared.netlist.Latch.{Latch}
use Rattle.net_ir.proofs.Exports.{differ-by, differ-decimal, map-numbered, numbered-differ}
use Rattle.std.proofs.lemmas.List.{map-append}
use Rattle.net_expressions.proofs.Exports.{all-both, all-numbered, bytes-decimal, digits-decimal, in-front, mark, no-word}
use Rattle.csub_embed.specs.Names.{IsFree, is_reserved, name_of_local, parameters}
use Rattle.csub_embed.specs.Written.{state_word, gate_word, next_word, running_word, net_locals, gate_local, next_local, running_local}
use Rattle.csub_embed.proofs.Lexing.{word-name}

-- ---- free words

pub free-state : (j : ℕ) → j < 2 ^ 64 → IsFree (state_word j)
unfolding is_reserved
free-state j small = record { word = bytes-decimal j small; free = refl }

pub free-gate : (k : ℕ) → k < 2 ^ 64 → IsFree (gate_word k)
unfolding is_reserved
free-gate k small = record {
  word = bytes-decimal k small;
  free = rw (no-word (decimal k) (codes "oto") (digits-decimal k small) refl) refl;
}

pub free-next : (j : ℕ) → j < 2 ^ 64 → IsFree (next_word j)
unfolding is_reserved
free-next j small = record { word = bytes-decimal j small; free = refl }

pub free-running : IsFree running_word
unfolding is_reserved
free-running = record { word = refl; free = refl }

pub free-signal : (name : List ℕ) → is_name name ≡ true → is_reserved name ≡ false → IsFree name
free-signal name fits free = record { word = word-name name fits; free = free }

-- ---- the locals

abbrev pub gate_words : Netlist → List (List ℕ)
gate_words net = numbered (λ k (gate : Gate). gate_word k) 0 net.gates

abbrev pub next_words : Netlist → List (List ℕ)
next_words net = numbered (λ j (latch : Latch). next_word j) 0 net.latches

abbrev pub state_words : Netlist → List (List ℕ)
state_words net = numbered (λ j (latch : Latch). state_word j) 0 net.latches

abbrev pub local_words : Netlist → List (List ℕ)
local_words net = gate_words net ++ (next_words net ++ running_word ∷ [])

pub local_names-net : (net : Netlist) → map name_of_local (net_locals net) ≡ local_words net
local_names-net net =
    map-append name_of_local (numbered (gate_local net) 0 net.gates) (numbered (next_local net) 0 net.latches ++ running_local net ∷ [])
    ∙ ap (λ l. l ++ map name_of_local (numbered (next_local net) 0 net.latches ++ running_local net ∷ []))
    (map-numbered name_of_local (gate_local net) 0 net.gates)
    ∙ ap (λ l. gate_words net ++ l) (map-append name_of_local (numbered (next_local net) 0 net.latches) (running_local net ∷ [])
    ∙ ap (λ l. l ++ running_word ∷ []) (map-numbered name_of_local (next_local net) 0 net.latches))

pub marks-gates : (net : Netlist) (p : ℕ → Bool) → p 103 ≡ true → list_all (λ x. p (mark x)) (gate_words net) ≡ true
marks-gates net p holds = all-numbered (λ x. p (mark x)) (λ k (gate : Gate). gate_word k) 0 net.gates (λ k x. holds)

pub marks-nexts : (net : Netlist) (p : ℕ → Bool) → p 110 ≡ true → list_all (λ x. p (mark x)) (next_words net) ≡ true
marks-nexts net p holds = all-numbered (λ x. p (mark x)) (λ j (latch : Latch). next_word j) 0 net.latches (λ k x. holds)

pub differ-states : (net : Netlist) → IsWritable net → all_differ is_same_name (state_words net) ≡ true
differ-states net is = let few = is.is_net.numbered in numbered-differ state_word differ-decimal 0 net.latches (omega arith)

pub differ-gates : (net : Netlist) → IsWritable net → all_differ is_same_name (gate_words net) ≡ true
differ-gates net is = let few = is.is_net.numbered in numbered-differ gate_word differ-decimal 0 net.gates (omega arith)

pub differ-nexts : (net : Netlist) → IsWritable net → all_differ is_same_name (next_words net) ≡ true
differ-nexts net is = let few = is.is_net.numbered in numbered-differ next_word differ-decimal 0 net.latches (omega arith)

-- the parameters and the locals
pub differ-locals : (net : Netlist) → IsWritable net → all_differ is_same_name (parameters ++ local_words net) ≡ true
differ-locals net is =
    let p : ℕ → Bool = λ m. m == 115 || (m == 105 || m == 111) in
    let nexts = in-front (λ m. m == 110) (next_words net) (running_word ∷ []) (differ-nexts net is) (marks-nexts net (λ m. m == 110) refl) refl refl in
    let gates = in-front (λ m. m == 103) (gate_words net) (next_words net ++ running_word ∷ []) (differ-gates net is)
    (marks-gates net (λ m. m == 103) refl)
    (all-both (λ x. not (mark x == 103)) (next_words net) (running_word ∷ []) (marks-nexts net (λ m. not (m == 103)) refl) refl) nexts in
    in-front p parameters (local_words net) refl refl
    (all-both (λ x. not (p (mark x))) (gate_words net) (next_words net ++ running_word ∷ []) (marks-gates net (λ m. not (p m)) refl)
    (all-both (λ x. not (p (mark x))) (next_words net) (running_word ∷ []) (marks-nexts net (λ m. not (p m)) refl) refl)) gates

-- no gate is one of the other locals
pub gate-no_next : (net : Netlist) (k : ℕ) → is_among (gate_word k) (next_words net) ≡ false
gate-no_next net k = differ-by mark (λ m. m == 103) (gate_word k) (next_words net) refl (marks-nexts net (λ m. not (m == 103)) refl)
