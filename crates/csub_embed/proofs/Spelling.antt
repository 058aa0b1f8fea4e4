-- The text of a component: its tokens.
use Rattle.std.proofs.Common.{◌≡◌, ℕ, Bool, true, false, List, [], ◌∷◌, ◌++◌, map, get_or, All, refl, sym, ap, ◌∙◌, subst, append_assoc}
use Rattle.std.specs.Prelude.{flat_map, codes}
use Rattle.std.proofs.lemmas.List.Elements.{All-map}
use Rattle.base_types.specs.Names.{is_name, is_name_byte}
use Rattle.net_expressions.proofs.Exports.{says-then, says-lines, says-whole}
use Rattle.net_expressions.proofs.Saying as saying
use Rattle.csub_embed.specs.Grammar.{semicolon, equals, arrow, star, comma, self_word, in_word, out_word, bit_kind, place_kinds, value_kinds, member_kinds}
use Rattle.csub_embed.specs.Grammar.{unused_kinds, open_kinds, close_kinds, structure_kinds, structures_kinds, ignored_kinds, untouched_kinds, first_kinds}
use Rattle.csub_embed.specs.Grammar.{linkage_kinds, reset_head_kinds, react_head_kinds, local_kinds, store_kinds, answer_kinds, prototype_kinds, function_kinds}
use Rattle.csub_embed.specs.Grammar.{file_kinds, component_kinds}
use Rattle.csub_embed.specs.Tokens.{Kind, Word, Number, Mark, kinds}
use Rattle.csub_embed.specs.Trees.{StateVariable, Place, State, Given, Local, Value, Const, Copy, Not, And, Or, LocalValue, Transfer, Component, name_of_state}
use Rattle.csub_embed.specs.Written.{line_end, bit_text, written_place, value_text, comment, open_text, member_line, unused_line, close_text, structure_text}
use Rattle.csub_embed.specs.Written.{structures_text, linkage_text, reset_head, react_head, body_start, ignored_line, untouched_line, first_line, local_line}
use Rattle.csub_embed.specs.Written.{store_line, return_lines, prototype_text, function_text, file_text, body_text}
use Rattle.csub_embed.specs.declared.layout.EmbedFile.{EmbedFile}
use Rattle.csub_embed.specs.declared.layout.EmbedFile.TheVariants.{Header, Declarations, Definitions}
use Rattle.csub_embed.specs.declared.layout.EmbedLayout.{EmbedLayout}
use Rattle.csub_embed.proofs.Lexing.{Says, IsSpelledWord, says-word, spelled-word, spelled-more, says-comment, says-open, says-bool, says-end, says-width}
use Rattle.csub_embed.proofs.Lexing.{says-unused, says-close, says-line, says-static-inline, says-void, says-bool-type, says-start, says-stop, says-left}
use Rattle.csub_embed.proofs.Lexing.{says-self-parameter, says-ignored, says-self-indented, says-equals, says-self-const, says-in-parameter, says-out-parameter}
use Rattle.csub_embed.proofs.Lexing.{says-const, says-not, says-and, says-or, says-self, says-in, says-arrow, says-indent, says-return, says-last}

-- ---- what is spelled of words

abbrev pub PlaceSpelled : Place → Type 0
PlaceSpelled (State name) = IsSpelledWord name
PlaceSpelled (Given name) = IsSpelledWord name
PlaceSpelled (Local name) = IsSpelledWord name

abbrev pub ValueSpelled : Value → Type 0
ValueSpelled (Const value) = Unit {0}
ValueSpelled (Copy place) = PlaceSpelled place
ValueSpelled (Not place) = PlaceSpelled place
ValueSpelled (And first second) = PlaceSpelled first × PlaceSpelled second
ValueSpelled (Or first second) = PlaceSpelled first × PlaceSpelled second

pub record LocalSpelled (l : LocalValue) : Type 0 where
  pub name : IsSpelledWord l.name
  pub value : ValueSpelled l.value

pub record StoreSpelled (s : Transfer) : Type 0 where
  pub member : IsSpelledWord s.member
  pub from : PlaceSpelled s.from

pub record IsSpelled (c : Component) : Type 0 where
  pub name : is_name c.name ≡ true
  pub states : All (λ s. IsSpelledWord s.name) c.states
  pub inputs : All IsSpelledWord c.inputs
  pub outputs : All IsSpelledWord c.outputs
  pub ignored : All IsSpelledWord c.ignored
  pub locals : All LocalSpelled c.locals
  pub shown : All StoreSpelled c.shown
  pub kept : All StoreSpelled c.kept
  pub answer : PlaceSpelled c.answer

-- ---- places and values, in front of a byte that no word has

says-place : (p : Place) (d : ℕ) (ds : List ℕ) (ks : List Kind) → PlaceSpelled p → is_name_byte d ≡ false → Says (d ∷ ds) ks
    → Says (written_place p ++ d ∷ ds) (place_kinds p ++ ks)
says-place (State name) d ds ks is stops says =
    says-then (codes "self->") (name ++ d ∷ ds) (Word self_word ∷ arrow ∷ []) (Word name ∷ ks) says-self (says-word name d ds ks is stops says)
says-place (Given name) d ds ks is stops says =
    says-then (codes "in->") (name ++ d ∷ ds) (Word in_word ∷ arrow ∷ []) (Word name ∷ ks) says-in (says-word name d ds ks is stops says)
says-place (Local name) d ds ks is stops says = says-word name d ds ks is stops says

says-pair : (p q : Place) (mark : List ℕ) (kind : Kind) (c : ℕ) (cs : List ℕ) (d : ℕ) (ds : List ℕ) (ks : List Kind) → mark ≡ c ∷ cs → is_name_byte c ≡ false
    → Says mark (kind ∷ []) → PlaceSpelled p → PlaceSpelled q → is_name_byte d ≡ false → Says (d ∷ ds) ks
    → Says ((written_place p ++ (mark ++ written_place q)) ++ d ∷ ds) ((place_kinds p ++ kind ∷ place_kinds q) ++ ks)
says-pair p q mark kind c cs d ds ks is gap says-mark first second stops says =
    let last = says-then mark (written_place q ++ d ∷ ds) (kind ∷ []) (place_kinds q ++ ks) says-mark (says-place q d ds ks second stops says) in
    let marked : mark ++ (written_place q ++ d ∷ ds) ≡ c ∷ (cs ++ (written_place q ++ d ∷ ds)) = ap (λ m. m ++ (written_place q ++ d ∷ ds)) is in
    let whole = says-place p c (cs ++ (written_place q ++ d ∷ ds)) (kind ∷ (place_kinds q ++ ks)) first gap
    (subst (λ t. Says t (kind ∷ (place_kinds q ++ ks))) marked last) in
    subst (λ t. Says t ((place_kinds p ++ kind ∷ place_kinds q) ++ ks))
    (ap (λ t. written_place p ++ t) (sym marked ∙ sym (append_assoc mark (written_place q) (d ∷ ds)))
    ∙ sym (append_assoc (written_place p) (mark ++ written_place q) (d ∷ ds)))
    (subst (λ l. Says (written_place p ++ c ∷ (cs ++ (written_place q ++ d ∷ ds))) l) (sym (append_assoc (place_kinds p) (kind ∷ place_kinds q) ks)) whole)

says-bit : (value : Bool) (d : ℕ) (ds : List ℕ) (ks : List Kind) → is_name_byte d ≡ false → Says (d ∷ ds) ks
    → Says (bit_text value ++ d ∷ ds) (bit_kind value ∷ ks)
says-bit true d ds ks stops says = says-word (codes "true") d ds ks (spelled-word (codes "true") refl) stops says
says-bit false d ds ks stops says = says-word (codes "false") d ds ks (spelled-word (codes "false") refl) stops says

says-value : (v : Value) (d : ℕ) (ds : List ℕ) (ks : List Kind) → ValueSpelled v → is_name_byte d ≡ false → Says (d ∷ ds) ks
    → Says (value_text v ++ d ∷ ds) (value_kinds v ++ ks)
says-value (Const value) d ds ks is stops says = says-bit value d ds ks stops says
says-value (Copy place) d ds ks is stops says = says-place place d ds ks is stops says
says-value (Not place) d ds ks is stops says =
    says-then (codes "!") (written_place place ++ d ∷ ds) (Mark (codes "!") ∷ []) (place_kinds place ++ ks) says-not (says-place place d ds ks is stops says)
says-value (And p q) d ds ks is stops says =
    says-pair p q (codes " & ") (Mark (codes "&")) 32 (codes "& ") d ds ks refl refl says-and is.0 is.1 stops says
says-value (Or p q) d ds ks is stops says =
    says-pair p q (codes " | ") (Mark (codes "|")) 32 (codes "| ") d ds ks refl refl says-or is.0 is.1 stops says

-- ---- lines

says-member : (packed : Bool) (name : List ℕ) → IsSpelledWord name → Says (member_line packed name) (member_kinds packed name)
says-member true name is =
    says-then (codes "    bool ") (name ++ codes " : 1;\n") (Word (codes "bool") ∷ []) (Word name ∷ Mark (codes ":") ∷ Number (codes "1") ∷ semicolon ∷ [])
    says-bool (says-word name 32 (codes ": 1;\n") (Mark (codes ":") ∷ Number (codes "1") ∷ semicolon ∷ []) is refl says-width)
says-member false name is =
    says-then (codes "    bool ") (name ++ line_end) (Word (codes "bool") ∷ []) (Word name ∷ semicolon ∷ []) says-bool
    (says-word name 59 (10 ∷ []) (semicolon ∷ []) is refl says-end)

says-no-member : (names : List (List ℕ)) → Says (unused_line names) (unused_kinds names)
says-no-member [] = says-unused
says-no-member (name ∷ names) = saying.says-nothing

says-ignored-line : (parameter : List ℕ) → IsSpelledWord parameter → Says (ignored_line parameter) (ignored_kinds parameter)
says-ignored-line parameter is =
    says-then (codes "    (void)") (parameter ++ line_end) (Mark (codes "(") ∷ Word (codes "void") ∷ Mark (codes ")") ∷ [])
    (Word parameter ∷ semicolon ∷ []) says-ignored (says-word parameter 59 (10 ∷ []) (semicolon ∷ []) is refl says-end)

says-untouched : (names : List (List ℕ)) → Says (untouched_line names) (untouched_kinds names)
says-untouched [] = says-ignored-line self_word (spelled-word self_word refl)
says-untouched (name ∷ names) = saying.says-nothing

says-first : (s : StateVariable) → IsSpelledWord s.name → Says (first_line s) (first_kinds s)
says-first s is =
    let last = says-bit s.init 59 (10 ∷ []) (semicolon ∷ []) refl says-end in
    let value = says-then (codes " = ") (bit_text s.init ++ line_end) (equals ∷ []) (bit_kind s.init ∷ semicolon ∷ []) says-equals last in
    says-then (codes "    self->") (s.name ++ (codes " = " ++ (bit_text s.init ++ line_end))) (Word self_word ∷ arrow ∷ [])
    (Word s.name ∷ equals ∷ bit_kind s.init ∷ semicolon ∷ []) says-self-indented
    (says-word s.name 32 (61 ∷ 32 ∷ (bit_text s.init ++ line_end)) (equals ∷ bit_kind s.init ∷ semicolon ∷ []) is refl value)

says-local : (l : LocalValue) → LocalSpelled l → Says (local_line l) (local_kinds l)
says-local l is =
    let last = says-value l.value 59 (10 ∷ []) (semicolon ∷ []) is.value refl says-end in
    let value = says-then (codes " = ") (value_text l.value ++ line_end) (equals ∷ []) (value_kinds l.value ++ semicolon ∷ []) says-equals last in
    says-then (codes "    const bool ") (l.name ++ (codes " = " ++ (value_text l.value ++ line_end))) (Word (codes "const") ∷ Word (codes "bool") ∷ [])
    (Word l.name ∷ equals ∷ (value_kinds l.value ++ semicolon ∷ [])) says-const
    (says-word l.name 32 (61 ∷ 32 ∷ (value_text l.value ++ line_end)) (equals ∷ (value_kinds l.value ++ semicolon ∷ [])) is.name refl value)

says-store : (structure : List ℕ) (s : Transfer) → IsSpelledWord structure → StoreSpelled s → Says (store_line structure s) (store_kinds structure s)
says-store structure s word is =
    let last = says-place s.from 59 (10 ∷ []) (semicolon ∷ []) is.from refl says-end in
    let value = says-then (codes " = ") (written_place s.from ++ line_end) (equals ∷ []) (place_kinds s.from ++ semicolon ∷ []) says-equals last in
    let text1 = codes " = " ++ (written_place s.from ++ line_end) in
    let kinds1 = equals ∷ (place_kinds s.from ++ semicolon ∷ []) in
    let member = says-word s.member 32 (61 ∷ 32 ∷ (written_place s.from ++ line_end)) kinds1 is.member refl value in
    let access = says-then (codes "->") (s.member ++ text1) (arrow ∷ []) (Word s.member ∷ kinds1) says-arrow member in
    says-then (codes "    ") (structure ++ (codes "->" ++ (s.member ++ text1))) [] (Word structure ∷ arrow ∷ Word s.member ∷ kinds1) says-indent
    (says-word structure 45 (62 ∷ (s.member ++ text1)) (arrow ∷ Word s.member ∷ kinds1) word refl access)

says-answer : (p : Place) → PlaceSpelled p → Says (return_lines p) (answer_kinds p)
says-answer p is =
    says-then (codes "    return ") (written_place p ++ codes ";\n}\n") (Word (codes "return") ∷ []) (place_kinds p ++ semicolon ∷ Mark (codes "}") ∷ [])
    says-return (says-place p 59 (10 ∷ 125 ∷ 10 ∷ []) (semicolon ∷ Mark (codes "}") ∷ []) is refl says-last)

says-close-line : (type : List ℕ) → IsSpelledWord type → Says (close_text type) (close_kinds type)
says-close-line type is =
    says-then (codes "} ") (type ++ line_end) (Mark (codes "}") ∷ []) (Word type ∷ semicolon ∷ []) says-close
    (says-word type 59 (10 ∷ []) (semicolon ∷ []) is refl says-end)

says-structure : (packed : Bool) (type : List ℕ) (members : List (List ℕ)) → IsSpelledWord type → All IsSpelledWord members
    → Says (structure_text packed type members) (structure_kinds packed type members)
says-structure packed type members is all =
    let lines = says-lines (member_line packed) (member_kinds packed) members (λ k d h. says-member packed (get_or members k d) (all k d h)) in
    says-then open_text (flat_map (member_line packed) members ++ (unused_line members ++ close_text type)) open_kinds
    (flat_map (member_kinds packed) members ++ (unused_kinds members ++ close_kinds type)) says-open
    (says-then (flat_map (member_line packed) members) (unused_line members ++ close_text type) (flat_map (member_kinds packed) members)
    (unused_kinds members ++ close_kinds type) lines
    (says-then (unused_line members) (close_text type) (unused_kinds members) (close_kinds type) (says-no-member members) (says-close-line type is)))

says-structures : (packed : Bool) (c : Component) → IsSpelled c → Says (structures_text packed c) (structures_kinds packed c)
says-structures packed c is =
    let states = map name_of_state c.states in
    let named = All-map IsSpelledWord name_of_state c.states is.states in
    let members = structure_text packed (c.name ++ codes "_t") states in
    let state_kinds = structure_kinds packed (c.name ++ codes "_t") states in
    let inputs = structure_text false (c.name ++ codes "_inputs_t") c.inputs in
    let input_kinds = structure_kinds false (c.name ++ codes "_inputs_t") c.inputs in
    let outputs = structure_text false (c.name ++ codes "_outputs_t") c.outputs in
    let output_kinds = structure_kinds false (c.name ++ codes "_outputs_t") c.outputs in
    says-then members (inputs ++ outputs) state_kinds (input_kinds ++ output_kinds)
    (says-structure packed (c.name ++ codes "_t") states (spelled-more c.name (codes "_t") is.name refl) named)
    (says-then inputs outputs input_kinds output_kinds
    (says-structure false (c.name ++ codes "_inputs_t") c.inputs (spelled-more c.name (codes "_inputs_t") is.name refl) is.inputs)
    (says-structure false (c.name ++ codes "_outputs_t") c.outputs (spelled-more c.name (codes "_outputs_t") is.name refl) is.outputs))

-- ---- heads of functions

says-linkage : (file : EmbedFile) → Says (linkage_text file) (linkage_kinds file)
says-linkage Header = says-static-inline
says-linkage Declarations = saying.says-nothing
says-linkage Definitions = saying.says-nothing

says-reset-head : (file : EmbedFile) (name : List ℕ) → is_name name ≡ true → Says (reset_head file name) (reset_head_kinds file name)
says-reset-head file name fits =
    let type = name ++ codes "_t" in
    let function = name ++ codes "_reset" in
    let kinds1 = star ∷ Word self_word ∷ Mark (codes ")") ∷ [] in
    let text1 = type ++ codes " *self)" in
    let last = says-word type 32 (codes "*self)") kinds1 (spelled-more name (codes "_t") fits refl) refl says-self-parameter in
    let left = says-then (codes "(") text1 (Mark (codes "(") ∷ []) (Word type ∷ kinds1) says-left last in
    let kinds2 = Word function ∷ Mark (codes "(") ∷ Word type ∷ kinds1 in
    let text2 = function ++ (codes "(" ++ text1) in
    says-then (linkage_text file) (codes "void " ++ text2) (linkage_kinds file) (Word (codes "void") ∷ kinds2) (says-linkage file)
    (says-then (codes "void ") text2 (Word (codes "void") ∷ []) kinds2 says-void
    (says-word function 40 text1 (Mark (codes "(") ∷ Word type ∷ kinds1) (spelled-more name (codes "_reset") fits refl) refl left))

says-react-head : (file : EmbedFile) (name : List ℕ) → is_name name ≡ true → Says (react_head file name) (react_head_kinds file name)
says-react-head file name fits =
    let type = name ++ codes "_t" in
    let function = name ++ codes "_react" in
    let inputs = name ++ codes "_inputs_t" in
    let outputs = name ++ codes "_outputs_t" in
    let kinds1 = star ∷ Word out_word ∷ Mark (codes ")") ∷ [] in
    let text1 = outputs ++ codes " *out)" in
    let says1 = says-word outputs 32 (codes "*out)") kinds1 (spelled-more name (codes "_outputs_t") fits refl) refl says-out-parameter in
    let kinds2 = star ∷ Word in_word ∷ comma ∷ Word outputs ∷ kinds1 in
    let text2 = inputs ++ (codes " *in, " ++ text1) in
    let says2 = says-word inputs 32 (codes "*in, " ++ text1) kinds2 (spelled-more name (codes "_inputs_t") fits refl) refl
    (says-then (codes " *in, ") text1 (star ∷ Word in_word ∷ comma ∷ []) (Word outputs ∷ kinds1) says-in-parameter says1) in
    let kinds3 = star ∷ Word self_word ∷ comma ∷ Word (codes "const") ∷ Word inputs ∷ kinds2 in
    let text3 = type ++ (codes " *self, const " ++ text2) in
    let says3 = says-word type 32 (codes "*self, const " ++ text2) kinds3 (spelled-more name (codes "_t") fits refl) refl
    (says-then (codes " *self, const ") text2 (star ∷ Word self_word ∷ comma ∷ Word (codes "const") ∷ []) (Word inputs ∷ kinds2) says-self-const says2) in
    let left = says-then (codes "(") text3 (Mark (codes "(") ∷ []) (Word type ∷ kinds3) says-left says3 in
    let kinds4 = Word function ∷ Mark (codes "(") ∷ Word type ∷ kinds3 in
    let text4 = function ++ (codes "(" ++ text3) in
    says-then (linkage_text file) (codes "bool " ++ text4) (linkage_kinds file) (Word (codes "bool") ∷ kinds4) (says-linkage file)
    (says-then (codes "bool ") text4 (Word (codes "bool") ∷ []) kinds4 says-bool-type
    (says-word function 40 text3 (Mark (codes "(") ∷ Word type ∷ kinds3) (spelled-more name (codes "_react") fits refl) refl left))

says-prototypes : (name : List ℕ) → is_name name ≡ true → Says (prototype_text name) (prototype_kinds name)
says-prototypes name fits =
    let reset = reset_head Declarations name in
    let resets = reset_head_kinds Declarations name in
    let react = react_head Declarations name in
    let reacts = react_head_kinds Declarations name in
    says-then (codes "\n") (reset ++ (line_end ++ (react ++ line_end))) [] (resets ++ semicolon ∷ (reacts ++ semicolon ∷ [])) says-line
    (says-then reset (line_end ++ (react ++ line_end)) resets (semicolon ∷ (reacts ++ semicolon ∷ [])) (says-reset-head Declarations name fits)
    (says-then line_end (react ++ line_end) (semicolon ∷ []) (reacts ++ semicolon ∷ []) says-end
    (says-then react line_end reacts (semicolon ∷ []) (says-react-head Declarations name fits) says-end)))

-- ---- the functions

says-functions : (file : EmbedFile) (c : Component) → IsSpelled c → Says (function_text file c) (function_kinds file c)
says-functions file c is =
    let states = map name_of_state c.states in
    let firsts = says-lines first_line first_kinds c.states (λ k d h. says-first (get_or c.states k d) (is.states k d h)) in
    let ignored = says-lines ignored_line ignored_kinds c.ignored (λ k d h. says-ignored-line (get_or c.ignored k d) (is.ignored k d h)) in
    let locals = says-lines local_line local_kinds c.locals (λ k d h. says-local (get_or c.locals k d) (is.locals k d h)) in
    let shown = says-lines (store_line out_word) (store_kinds out_word) c.shown
    (λ k d h. says-store out_word (get_or c.shown k d) (spelled-word out_word refl) (is.shown k d h)) in
    let kept = says-lines (store_line self_word) (store_kinds self_word) c.kept
    (λ k d h. says-store self_word (get_or c.kept k d) (spelled-word self_word refl) (is.kept k d h)) in
    let text1 = return_lines c.answer in
    let kinds1 = answer_kinds c.answer in
    let text2 = flat_map (store_line self_word) c.kept ++ text1 in
    let kinds2 = flat_map (store_kinds self_word) c.kept ++ kinds1 in
    let text3 = flat_map (store_line out_word) c.shown ++ text2 in
    let kinds3 = flat_map (store_kinds out_word) c.shown ++ kinds2 in
    let text4 = flat_map local_line c.locals ++ text3 in
    let kinds4 = flat_map local_kinds c.locals ++ kinds3 in
    let text5 = flat_map ignored_line c.ignored ++ text4 in
    let kinds5 = flat_map ignored_kinds c.ignored ++ kinds4 in
    let text6 = body_start ++ text5 in
    let kinds6 = Mark (codes "{") ∷ kinds5 in
    let text7 = react_head file c.name ++ text6 in
    let kinds7 = react_head_kinds file c.name ++ kinds6 in
    let text8 = codes "}\n\n" ++ text7 in
    let kinds8 = Mark (codes "}") ∷ kinds7 in
    let text9 = untouched_line states ++ text8 in
    let kinds9 = untouched_kinds states ++ kinds8 in
    let text10 = flat_map first_line c.states ++ text9 in
    let kinds10 = flat_map first_kinds c.states ++ kinds9 in
    let text11 = body_start ++ text10 in
    let kinds11 = Mark (codes "{") ∷ kinds10 in
    let text12 = reset_head file c.name ++ text11 in
    let kinds12 = reset_head_kinds file c.name ++ kinds11 in
    says-then (codes "\n") text12 [] kinds12 says-line
    (says-then (reset_head file c.name) text11 (reset_head_kinds file c.name) kinds11 (says-reset-head file c.name is.name)
    (says-then body_start text10 (Mark (codes "{") ∷ []) kinds10 says-start
    (says-then (flat_map first_line c.states) text9 (flat_map first_kinds c.states) kinds9 firsts
    (says-then (untouched_line states) text8 (untouched_kinds states) kinds8 (says-untouched states)
    (says-then (codes "}\n\n") text7 (Mark (codes "}") ∷ []) kinds7 says-stop
    (says-then (react_head file c.name) text6 (react_head_kinds file c.name) kinds6 (says-react-head file c.name is.name)
    (says-then body_start text5 (Mark (codes "{") ∷ []) kinds5 says-start
    (says-then (flat_map ignored_line c.ignored) text4 (flat_map ignored_kinds c.ignored) kinds4 ignored
    (says-then (flat_map local_line c.locals) text3 (flat_map local_kinds c.locals) kinds3 locals
    (says-then (flat_map (store_line out_word) c.shown) text2 (flat_map (store_kinds out_word) c.shown) kinds2 shown
    (says-then (flat_map (store_line self_word) c.kept) text1 (flat_map (store_kinds self_word) c.kept) kinds1 kept
    (says-answer c.answer is.answer))))))))))))

-- ---- the whole

says-file : (file : EmbedFile) (packed : Bool) (c : Component) → IsSpelled c → Says (file_text file packed c) (file_kinds file packed c)
says-file Header packed c is =
    says-then (structures_text packed c) (function_text Header c) (structures_kinds packed c) (function_kinds Header c) (says-structures packed c is)
    (says-functions Header c is)
says-file Declarations packed c is =
    says-then (structures_text packed c) (prototype_text c.name) (structures_kinds packed c) (prototype_kinds c.name) (says-structures packed c is)
    (says-prototypes c.name is.name)
says-file Definitions packed c is = says-functions Definitions c is

pub kinds-component : (layout : EmbedLayout) (c : Component) → IsSpelled c → kinds (body_text layout c) ≡ component_kinds layout c
kinds-component layout c is =
    says-whole (body_text layout c) (component_kinds layout c)
    (says-then (comment c.name) (file_text layout.file layout.packed c) [] (component_kinds layout c) (says-comment c.name is.name)
    (says-file layout.file layout.packed c is))
