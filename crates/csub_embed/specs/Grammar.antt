-- To believe: the tokens of the files of a component, which determine it. In words, where NAME is the name of the
-- component:
--
-- ```
--   header       = structures reset react
--   declarations = structures reset_head ";" react_head ";"
--   definitions  = reset react
--   structures   = structure(NAME_t) structure(NAME_inputs_t) structure(NAME_outputs_t)
--   structure(TYPE) = "typedef" "struct" "{" ( member { member } | "uint8_t" "unused" ";" ) "}" TYPE ";"
--   member     = "bool" MEMBER [ ":" "1" ] ";"
--   reset      = reset_head "{" ( first { first } | "(" "void" ")" "self" ";" ) "}"
--   reset_head = [ "static" "inline" ] "void" NAME_reset "(" NAME_t "*" "self" ")"
--   first      = "self" "->" MEMBER "=" bit ";"
--   react      = react_head
--                "{" { "(" "void" ")" PARAMETER ";" } { local } { "out" "->" MEMBER "=" place ";" }
--                { "self" "->" MEMBER "=" place ";" } "return" place ";" "}"
--   react_head = [ "static" "inline" ] "bool" NAME_react
--                "(" NAME_t "*" "self" "," "const" NAME_inputs_t "*" "in" "," NAME_outputs_t "*" "out" ")"
--   local      = "const" "bool" LOCAL "=" value ";"
--   value      = bit | place | "!" place | place "&" place | place "|" place
--   place      = "self" "->" MEMBER | "in" "->" MEMBER | LOCAL
--   bit        = "true" | "false"
-- ```
-- The functions of a header are static and inline, and those of two files are not. The members of a packed state have
-- one bit each, and no others. A structure without members of its own has the member `unused`, which is no state, input
-- or output.
use Rattle.std.specs.Prelude.{ℕ, Bool, true, false, List, [], ◌∷◌, ◌++◌, map, flat_map, codes}
use Rattle.csub_embed.specs.Tokens.{Kind, Word, Number, Mark}
use Rattle.csub_embed.specs.Trees.{StateVariable, Place, State, Given, Local, Value, Const, Copy, Not, And, Or}
use Rattle.csub_embed.specs.Trees.{LocalValue, Transfer, Component, name_of_state}
use Rattle.csub_embed.specs.declared.layout.EmbedLayout.{EmbedLayout}
use Rattle.csub_embed.specs.declared.layout.EmbedFile.{EmbedFile}
use Rattle.csub_embed.specs.declared.layout.EmbedFile.TheVariants.{Header, Declarations, Definitions}

abbrev pub semicolon : Kind
semicolon = Mark (codes ";")

abbrev pub equals : Kind
equals = Mark (codes "=")

abbrev pub arrow : Kind
arrow = Mark (codes "->")

abbrev pub star : Kind
star = Mark (codes "*")

abbrev pub comma : Kind
comma = Mark (codes ",")

-- the parameters of the functions
abbrev pub self_word : List ℕ
self_word = codes "self"

abbrev pub in_word : List ℕ
in_word = codes "in"

abbrev pub out_word : List ℕ
out_word = codes "out"

-- ---- places and values

abbrev pub bit_kind : Bool → Kind
bit_kind true = Word (codes "true")
bit_kind false = Word (codes "false")

abbrev pub place_kinds : Place → List Kind
place_kinds (State name) = Word self_word ∷ arrow ∷ Word name ∷ []
place_kinds (Given name) = Word in_word ∷ arrow ∷ Word name ∷ []
place_kinds (Local name) = Word name ∷ []

abbrev pub value_kinds : Value → List Kind
value_kinds (Const value) = bit_kind value ∷ []
value_kinds (Copy place) = place_kinds place
value_kinds (Not place) = Mark (codes "!") ∷ place_kinds place
value_kinds (And first second) = place_kinds first ++ Mark (codes "&") ∷ place_kinds second
value_kinds (Or first second) = place_kinds first ++ Mark (codes "|") ∷ place_kinds second

-- ---- structures

-- the width of a packed member
abbrev pub width_kinds : (packed : Bool) → List Kind
width_kinds true = Mark (codes ":") ∷ Number (codes "1") ∷ []
width_kinds false = []

abbrev pub member_kinds : (packed : Bool) → List ℕ → List Kind
member_kinds packed name = Word (codes "bool") ∷ Word name ∷ (width_kinds packed ++ semicolon ∷ [])

abbrev pub unused_kinds : List (List ℕ) → List Kind
unused_kinds [] = Word (codes "uint8_t") ∷ Word (codes "unused") ∷ semicolon ∷ []
unused_kinds (name ∷ names) = []

abbrev pub open_kinds : List Kind
open_kinds = Word (codes "typedef") ∷ Word (codes "struct") ∷ Mark (codes "{") ∷ []

abbrev pub close_kinds : List ℕ → List Kind
close_kinds type = Mark (codes "}") ∷ Word type ∷ semicolon ∷ []

abbrev pub structure_kinds : (packed : Bool) → List ℕ → List (List ℕ) → List Kind
structure_kinds packed type members =
    open_kinds ++ (flat_map (member_kinds packed) members ++ (unused_kinds members ++ close_kinds type))

abbrev pub structures_kinds : (packed : Bool) → Component → List Kind
structures_kinds packed c =
    structure_kinds packed (c.name ++ codes "_t") (map name_of_state c.states)
    ++ (structure_kinds false (c.name ++ codes "_inputs_t") c.inputs
    ++ structure_kinds false (c.name ++ codes "_outputs_t") c.outputs)

-- ---- functions

abbrev pub ignored_kinds : List ℕ → List Kind
ignored_kinds parameter =
    Mark (codes "(") ∷ Word (codes "void") ∷ Mark (codes ")") ∷ Word parameter ∷ semicolon ∷ []

-- where nothing is set, the parameter is ignored
abbrev pub untouched_kinds : List (List ℕ) → List Kind
untouched_kinds [] = ignored_kinds self_word
untouched_kinds (name ∷ names) = []

abbrev pub first_kinds : StateVariable → List Kind
first_kinds s = Word self_word ∷ arrow ∷ Word s.name ∷ equals ∷ bit_kind s.init ∷ semicolon ∷ []

abbrev pub linkage_kinds : EmbedFile → List Kind
linkage_kinds Header = Word (codes "static") ∷ Word (codes "inline") ∷ []
linkage_kinds Declarations = []
linkage_kinds Definitions = []

abbrev pub reset_head_kinds : EmbedFile → List ℕ → List Kind
reset_head_kinds file name =
    linkage_kinds file ++ (Word (codes "void") ∷ Word (name ++ codes "_reset")
    ∷ Mark (codes "(") ∷ Word (name ++ codes "_t") ∷ star ∷ Word self_word ∷ Mark (codes ")") ∷ [])

abbrev pub react_head_kinds : EmbedFile → List ℕ → List Kind
react_head_kinds file name =
    linkage_kinds file ++ (Word (codes "bool") ∷ Word (name ++ codes "_react")
    ∷ Mark (codes "(") ∷ Word (name ++ codes "_t") ∷ star ∷ Word self_word ∷ comma
    ∷ Word (codes "const") ∷ Word (name ++ codes "_inputs_t") ∷ star ∷ Word in_word ∷ comma
    ∷ Word (name ++ codes "_outputs_t") ∷ star ∷ Word out_word ∷ Mark (codes ")") ∷ [])

abbrev pub local_kinds : LocalValue → List Kind
local_kinds l =
    Word (codes "const") ∷ Word (codes "bool") ∷ Word l.name ∷ equals ∷ (value_kinds l.value ++ semicolon ∷ [])

abbrev pub store_kinds : List ℕ → Transfer → List Kind
store_kinds structure s =
    Word structure ∷ arrow ∷ Word s.member ∷ equals ∷ (place_kinds s.from ++ semicolon ∷ [])

abbrev pub answer_kinds : Place → List Kind
answer_kinds place = Word (codes "return") ∷ (place_kinds place ++ semicolon ∷ Mark (codes "}") ∷ [])

abbrev pub prototype_kinds : List ℕ → List Kind
prototype_kinds name =
    reset_head_kinds Declarations name ++ semicolon ∷ (react_head_kinds Declarations name ++ semicolon ∷ [])

abbrev pub function_kinds : EmbedFile → Component → List Kind
function_kinds file c =
    reset_head_kinds file c.name ++ (Mark (codes "{") ∷ (flat_map first_kinds c.states
    ++ (untouched_kinds (map name_of_state c.states) ++ (Mark (codes "}")
    ∷ (react_head_kinds file c.name ++ (Mark (codes "{") ∷ (flat_map ignored_kinds c.ignored
    ++ (flat_map local_kinds c.locals ++ (flat_map (store_kinds out_word) c.shown
    ++ (flat_map (store_kinds self_word) c.kept ++ answer_kinds c.answer))))))))))

-- ---- the files

abbrev pub file_kinds : EmbedFile → (packed : Bool) → Component → List Kind
file_kinds Header packed c = structures_kinds packed c ++ function_kinds Header c
file_kinds Declarations packed c = structures_kinds packed c ++ prototype_kinds c.name
file_kinds Definitions packed c = function_kinds Definitions c

abbrev pub component_kinds : EmbedLayout → Component → List Kind
component_kinds layout c = file_kinds layout.file layout.packed c
