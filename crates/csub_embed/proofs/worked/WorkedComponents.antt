-- A worked component by hand: its net, its texts, their tokens, and what calls on two instances show. And words and tokens.
use Rattle.std.proofs.Common.{◌≡◌, ℕ, Bool, true, false, List, [], ◌∷◌, ◌++◌, map, refl, None, codes}
use Rattle.base_types.specs.Items.{Item, Event, Reset}
use Rattle.net_ir.specs.declared.netlist.Op.TheVariants as ops
use Rattle.net_ir.specs.Netlists.{Netlist}
use Rattle.csub_embed.specs.Grammar.{component_kinds}
use Rattle.csub_embed.specs.Machine.{Frame, Call, SeenOf, run_calls, own_seen, own_items}
use Rattle.csub_embed.specs.Names.{is_reserved, is_type, is_identifier}
use Rattle.csub_embed.specs.Tokens.{Word, Number, Mark, Bad, kinds}
use Rattle.csub_embed.specs.Trees.{State, Given, Local, Const, Copy, Not, And, Or, Component}
use Rattle.csub_embed.specs.Written.{body_text, component_text, gate_word, net_component, net_ignored, next_word, state_word}
use Rattle.csub_embed.specs.declared.layout.EmbedFile.{EmbedFile}
use Rattle.csub_embed.specs.declared.layout.EmbedFile.TheVariants.{Header, Declarations, Definitions}
use Rattle.csub_embed.specs.declared.layout.EmbedLayout.{EmbedLayout}

abbrev plain : EmbedFile → EmbedLayout
plain file = record { packed = false; file = file }

abbrev packed : EmbedFile → EmbedLayout
packed file = record { packed = true; file = file }

-- the component, where the names of the states, of the gates and of the next values are these
abbrev two_of : (s0 s1 g0 g1 g2 n0 n1 : List ℕ) → Component
two_of s0 s1 g0 g1 g2 n0 n1 = record {
  name = codes "two";
  states = record { name = s0; init = true } ∷ record { name = s1; init = false } ∷ [];
  inputs = codes "A" ∷ codes "B" ∷ [];
  outputs = codes "O" ∷ [];
  ignored = [];
  locals = record { name = g0; value = Or (State s0) (Given (codes "A")) } ∷ record { name = g1; value = Not (Local g0) }
      ∷ record { name = g2; value = And (Local g1) (Given (codes "B")) } ∷ record { name = n0; value = Copy (Local g2) }
      ∷ record { name = n1; value = Copy (State s0) } ∷ record { name = codes "running"; value = Copy (State s1) } ∷ [];
  shown = record { member = codes "O"; from = Local g2 } ∷ [];
  kept = record { member = s0; from = Local n0 } ∷ record { member = s1; from = Local n1 } ∷ [];
  answer = Local (codes "running");
}

abbrev two : Component
two = two_of (codes "state0") (codes "state1") (codes "g0") (codes "g1") (codes "g2") (codes "next0") (codes "next1")

-- the nets are A, B, the two latches, and the three gates
two_net : Netlist
two_net = record {
  name = codes "two";
  inputs = codes "A" ∷ codes "B" ∷ [];
  outputs = record { name = codes "O"; net = record { 0 = 6 } } ∷ [];
  paused = 3;
  latches = record { init = true; from = record { 0 = 6 } } ∷ record { init = false; from = record { 0 = 2 } } ∷ [];
  gates = record { op = ops.Or (record { 0 = 2 }) (record { 0 = 0 }); wire = None } ∷ record { op = ops.Not (record { 0 = 4 }); wire = None }
      ∷ record { op = ops.And (record { 0 = 5 }) (record { 0 = 1 }); wire = None } ∷ [];
}

the-net : net_component two_net
    ≡ two_of (state_word 0) (state_word 1) (gate_word 0) (gate_word 1) (gate_word 2) (next_word 0) (next_word 1)
unfolding two_net
the-net = refl

the-text : component_text (plain Header) two ≡ codes "#ifndef two_H\n#define two_H\n\n#include <stdbool.h>\n#include <stdint.h>\n\n"
    ++ codes "/* two, by cec-opt 0.1.0: cec-opt c --embed. Any number of instances.\n"
    ++ codes " * Reset an instance before its first call of react; react returns whether it is still running. */\n\ntypedef struct {\n"
    ++ codes "    bool state0;\n    bool state1;\n} two_t;\n\ntypedef struct {\n    bool A;\n    bool B;\n} two_inputs_t;\n\n"
    ++ codes "typedef struct {\n    bool O;\n} two_outputs_t;\n\nstatic inline void two_reset(two_t *self)\n{\n"
    ++ codes "    self->state0 = true;\n    self->state1 = false;\n}\n\n"
    ++ codes "static inline bool two_react(two_t *self, const two_inputs_t *in, two_outputs_t *out)\n{\n"
    ++ codes "    const bool g0 = self->state0 | in->A;\n    const bool g1 = !g0;\n    const bool g2 = g1 & in->B;\n"
    ++ codes "    const bool next0 = g2;\n    const bool next1 = self->state0;\n    const bool running = self->state1;\n"
    ++ codes "    out->O = g2;\n    self->state0 = next0;\n    self->state1 = next1;\n    return running;\n}\n\n#endif\n"
the-text = refl

the-tokens : kinds (body_text (plain Header) two) ≡ component_kinds (plain Header) two
the-tokens = refl

-- one bit for each latch
abbrev packed-structures : List ℕ
packed-structures =
    codes "/* two, by cec-opt 0.1.0: cec-opt c --embed. Any number of instances.\n"
    ++ codes " * Reset an instance before its first call of react; react returns whether it is still running. */\n\ntypedef struct {\n"
    ++ codes "    bool state0 : 1;\n    bool state1 : 1;\n} two_t;\n\ntypedef struct {\n    bool A;\n    bool B;\n} two_inputs_t;\n\n"
    ++ codes "typedef struct {\n    bool O;\n} two_outputs_t;\n\n"

packed-text : component_text (packed Header) two ≡ codes "#ifndef two_H\n#define two_H\n\n#include <stdbool.h>\n#include <stdint.h>\n\n"
    ++ packed-structures ++ codes "static inline void two_reset(two_t *self)\n{\n"
    ++ codes "    self->state0 = true;\n    self->state1 = false;\n}\n\n"
    ++ codes "static inline bool two_react(two_t *self, const two_inputs_t *in, two_outputs_t *out)\n{\n"
    ++ codes "    const bool g0 = self->state0 | in->A;\n    const bool g1 = !g0;\n    const bool g2 = g1 & in->B;\n"
    ++ codes "    const bool next0 = g2;\n    const bool next1 = self->state0;\n    const bool running = self->state1;\n"
    ++ codes "    out->O = g2;\n    self->state0 = next0;\n    self->state1 = next1;\n    return running;\n}\n\n#endif\n"
packed-text = refl

packed-tokens : kinds (body_text (packed Header) two) ≡ component_kinds (packed Header) two
packed-tokens = refl

-- in two files
declarations-text : component_text (packed Declarations) two
    ≡ codes "#ifndef two_H\n#define two_H\n\n#include <stdbool.h>\n#include <stdint.h>\n\n"
    ++ codes "#ifdef __cplusplus\nextern \"C\" {\n#endif\n\n" ++ packed-structures
    ++ codes "void two_reset(two_t *self);\n"
    ++ codes "bool two_react(two_t *self, const two_inputs_t *in, two_outputs_t *out);\n\n"
    ++ codes "#ifdef __cplusplus\n}\n#endif\n\n#endif\n"
declarations-text = refl

declarations-tokens : kinds (body_text (packed Declarations) two) ≡ component_kinds (packed Declarations) two
declarations-tokens = refl

definitions-text : component_text (packed Definitions) two ≡ codes "#include \"two.h\"\n\n"
    ++ codes "/* two, by cec-opt 0.1.0: cec-opt c --embed. Any number of instances.\n"
    ++ codes " * Reset an instance before its first call of react; react returns whether it is still running. */\n\n"
    ++ codes "void two_reset(two_t *self)\n{\n    self->state0 = true;\n    self->state1 = false;\n}\n\n"
    ++ codes "bool two_react(two_t *self, const two_inputs_t *in, two_outputs_t *out)\n{\n"
    ++ codes "    const bool g0 = self->state0 | in->A;\n    const bool g1 = !g0;\n    const bool g2 = g1 & in->B;\n"
    ++ codes "    const bool next0 = g2;\n    const bool next1 = self->state0;\n    const bool running = self->state1;\n"
    ++ codes "    out->O = g2;\n    self->state0 = next0;\n    self->state1 = next1;\n    return running;\n}\n"
definitions-text = refl

definitions-tokens : kinds (body_text (packed Definitions) two) ≡ component_kinds (packed Definitions) two
definitions-tokens = refl

-- the definitions are the same for both
same-definitions : component_text (plain Definitions) two ≡ component_text (packed Definitions) two
same-definitions = refl

-- ---- calls

-- what the callers hold before a call: of a call on instance 1 all false, of one on instance 2 all true
abbrev around : Bool → Frame
around b = record { state = λ name. b; given = λ name. b; shown = λ name. b; local = λ name. b }

abbrev one : Item → Call
one item = record { instance = 1; item = item; around = around false }

abbrev other : Item → Call
other item = record { instance = 2; item = item; around = around true }

abbrev calls : List Call
calls =
    one Reset ∷ one (Event (false ∷ true ∷ [])) ∷ other Reset ∷ other (Event (true ∷ true ∷ [])) ∷ one (Event (false ∷ true ∷ []))
    ∷ other (Event (false ∷ false ∷ [])) ∷ one Reset ∷ one (Event (false ∷ false ∷ [])) ∷ []

abbrev shows : ℕ → Bool → Bool → SeenOf
shows k output answer = record { instance = k; seen = record { outputs = output ∷ []; answer = answer } }

-- the first event of an instance clears `state0` and sets `state1`; the second one sets O where B is given
the-calls : run_calls two (λ k name. true) calls
    ≡ shows 1 false false ∷ shows 2 false false ∷ shows 1 true true ∷ shows 2 false true ∷ shows 1 false false ∷ []
the-calls = refl

own-calls : own_seen 2 (run_calls two (λ k name. true) calls)
    ≡ record { outputs = false ∷ []; answer = false } ∷ record { outputs = false ∷ []; answer = true } ∷ []
own-calls = refl

own-items : own_items 2 calls ≡ Reset ∷ Event (true ∷ true ∷ []) ∷ Event (false ∷ false ∷ []) ∷ []
own-items = refl

-- ---- a component with nothing

none : Netlist
none = record {
  name = codes "none";
  inputs = codes "I" ∷ [];
  outputs = [];
  paused = 1;
  latches = [];
  gates = record { op = ops.Const false; wire = None } ∷ [];
}

ignores-all : net_ignored none ≡ codes "self" ∷ codes "in" ∷ codes "out" ∷ []
unfolding none
ignores-all = refl

abbrev none_of : List ℕ → Component
none_of g0 = record {
  name = codes "none";
  states = [];
  inputs = codes "I" ∷ [];
  outputs = [];
  ignored = codes "self" ∷ codes "in" ∷ codes "out" ∷ [];
  locals = record { name = g0; value = Const false } ∷ record { name = codes "running"; value = Copy (Local g0) } ∷ [];
  shown = [];
  kept = [];
  answer = Local (codes "running");
}

none-net : net_component none ≡ none_of (gate_word 0)
unfolding none
none-net = refl

no-members : body_text (packed Header) (none_of (codes "g0")) ≡ codes "\n/* none, by cec-opt 0.1.0: cec-opt c --embed. Any number of instances.\n"
    ++ codes " * Reset an instance before its first call of react; react returns whether it is still running. */\n\ntypedef struct {\n"
    ++ codes "    uint8_t unused;\n} none_t;\n\ntypedef struct {\n    bool I;\n} none_inputs_t;\n\ntypedef struct {\n"
    ++ codes "    uint8_t unused;\n} none_outputs_t;\n\nstatic inline void none_reset(none_t *self)\n{\n    (void)self;\n}\n\n"
    ++ codes "static inline bool none_react(none_t *self, const none_inputs_t *in, none_outputs_t *out)\n{\n    (void)self;\n"
    ++ codes "    (void)in;\n    (void)out;\n    const bool g0 = false;\n    const bool running = g0;\n    return running;\n}\n"
no-members = refl

none-tokens : kinds (body_text (packed Header) (none_of (codes "g0"))) ≡ component_kinds (packed Header) (none_of (codes "g0"))
none-tokens = refl

-- ---- tokens

spaced : kinds (codes "a->b /* x*y */\n& !(c_1)|{};=*,:1")
    ≡ Word (codes "a") ∷ Mark (codes "->") ∷ Word (codes "b") ∷ Mark (codes "&") ∷ Mark (codes "!") ∷ Mark (codes "(") ∷ Word (codes "c_1")
    ∷ Mark (codes ")") ∷ Mark (codes "|") ∷ Mark (codes "{") ∷ Mark (codes "}") ∷ Mark (codes ";") ∷ Mark (codes "=") ∷ Mark (codes "*")
    ∷ Mark (codes ",") ∷ Mark (codes ":") ∷ Number (codes "1") ∷ []
spaced = refl

half-arrow : kinds (codes "a- >b") ≡ Word (codes "a") ∷ Bad ∷ []
half-arrow = refl

-- two marks, which no component has in a row
doubled : kinds (codes "a && b||") ≡ Word (codes "a") ∷ Mark (codes "&") ∷ Mark (codes "&") ∷ Word (codes "b") ∷ Mark (codes "|") ∷ Mark (codes "|") ∷ []
doubled = refl

no-comment : kinds (codes "a /* b") ≡ Word (codes "a") ∷ Bad ∷ []
no-comment = refl

-- a number is as long as it can be
number : kinds (codes "a 1 1x_2") ≡ Word (codes "a") ∷ Number (codes "1") ∷ Number (codes "1x_2") ∷ []
number = refl

-- ---- words

words-reserved : map is_reserved (codes "alignas" ∷ codes "class" ∷ codes "int" ∷ codes "true" ∷ codes "xor_eq" ∷ [])
    ≡ true ∷ true ∷ true ∷ true ∷ true ∷ []
unfolding is_reserved
words-reserved = refl

words-free : map is_reserved (codes "Int" ∷ codes "in" ∷ codes "self" ∷ codes "classes" ∷ codes "g0" ∷ []) ≡ false ∷ false ∷ false ∷ false ∷ false ∷ []
unfolding is_reserved
words-free = refl

types-known : map is_type (codes "size" ∷ codes "uint8" ∷ codes "wchar" ∷ codes "lift" ∷ []) ≡ true ∷ true ∷ true ∷ false ∷ []
unfolding is_type
types-known = refl

words : map is_identifier (codes "_a1" ∷ codes "1a" ∷ [] ∷ codes "a-b" ∷ []) ≡ true ∷ false ∷ false ∷ false ∷ []
words = refl
