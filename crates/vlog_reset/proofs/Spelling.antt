-- Inner: the text of a module: its tokens.
use Rattle.std.proofs.Common.{◌≡◌, ℕ, ◌<◌, ◌≤◌, suc, Bool, true, false, List, [], ◌∷◌, ◌++◌, get_or, All, refl, sym, ap, ◌∙◌, subst, append_assoc, arith}
use Rattle.std.specs.Prelude.{flat_map, codes, if◌then◌else◌}
use Rattle.std.specs.List.{list_all}
use Rattle.std.proofs.lemmas.Bool.{and_from}
use Rattle.std.proofs.lemmas.List.Folds.{list_all-append}
use Rattle.base_types.specs.Names.{is_name, is_name_byte}
use Rattle.net_ir.specs.declared.netlist.Op.{Op}
use Rattle.net_ir.specs.declared.netlist.Op.TheVariants as ops
use Rattle.net_ir.specs.Gates.{operand_end}
use Rattle.net_expressions.specs.Operators.{op_expr}
use Rattle.net_expressions.specs.Trees.{Expr, Name}
use Rattle.net_expressions.proofs.Exports.{says-then, says-lines, says-whole}
use Rattle.net_expressions.proofs.Saying as saying
use Rattle.vlog_text.specs.Machine.{given_inputs}
use Rattle.vlog_text.specs.Tokens.{stays_in_line}
use Rattle.vlog_text.specs.Written.{bit_text, expr_text, line_end}
use Rattle.vlog_reset.specs.Grammar.{semicolon, comma, equals, becomes, left, right, bit_kind, expr_kinds, input_kinds, output_kinds, head_kinds, reg_kinds}
use Rattle.vlog_reset.specs.Grammar.{wire_kinds, initial_kinds, assign_kinds, initial_ones, edge_word, edge_kinds, test_kinds, clock_kinds, first_kinds}
use Rattle.vlog_reset.specs.Grammar.{else_kinds, next_kinds, where_some, module_kinds}
use Rattle.vlog_reset.specs.Tokens.{Kind, Word, Mark, kinds}
use Rattle.vlog_reset.specs.Trees.{Assign, Manner, Register, ResetModule, clock_of}
use Rattle.vlog_reset.specs.Written.{name_tail, level_word, time_words, comments, lint_lines, module_head, input_port, output_port, ports_end}
use Rattle.vlog_reset.specs.Written.{reg_line, wire_declaration, initial_line, assign_line, edge_text, test_text, clock_lines, first_value_line, else_line}
use Rattle.vlog_reset.specs.Written.{next_line}
use Rattle.vlog_reset.specs.Written.{end_line, body_text}
use Rattle.vlog_reset.proofs.Lexing.{Says, IsSpelledWord, says-word, spelled-word, word-name, says-comment, name-stays, says-module, says-open, says-input}
use Rattle.vlog_reset.proofs.Lexing.{says-output, says-ports-end, says-reg, says-wire, says-initial, says-assign, says-equals, says-becomes, says-end, says-not}
use Rattle.vlog_reset.proofs.Lexing.{says-and, says-or, says-zero, says-one, says-always, says-or-edge, says-space, says-if, says-bang, says-begin}
use Rattle.vlog_reset.proofs.Lexing.{says-indent, says-else, says-end-line, says-endmodule}

-- ---- what is spelled of words

-- an expression, in front of a byte that no word has
pub record IsSpelledExpr (e : Expr) : Type 0 where
  pub on : (d : ℕ) (ds : List ℕ) (ks : List Kind) → is_name_byte d ≡ false → Says (d ∷ ds) ks → Says (expr_text e ++ d ∷ ds) (expr_kinds e ++ ks)

pub record IsSpelledRegister (r : Register) : Type 0 where
  pub name : IsSpelledWord r.name
  pub from : IsSpelledWord r.from

pub record IsSpelledAssign (a : Assign Expr) : Type 0 where
  pub target : IsSpelledWord a.target
  pub value : IsSpelledExpr a.value

pub record IsSpelled (m : ResetModule) : Type 0 where
  pub name : is_name m.design.name ≡ true
  pub reset : is_name m.reset ≡ true
  pub clock : is_name (clock_of m) ≡ true
  pub inputs : All IsSpelledWord (given_inputs m.design)
  pub outputs : All IsSpelledWord m.design.outputs
  pub registers : All IsSpelledRegister m.design.registers
  pub wires : All IsSpelledWord m.design.wires
  pub assigns : All IsSpelledAssign m.design.assigns

name-word : (name : List ℕ) → is_name name ≡ true → IsSpelledWord name
name-word name fits = spelled-word name (word-name name fits)

-- ---- expressions

says-bit : (value : Bool) → Says (bit_text value) (bit_kind value ∷ [])
says-bit true = says-one
says-bit false = says-zero

says-pair : (x y mark : List ℕ) (kind : Kind) (c : ℕ) (cs : List ℕ) (d : ℕ) (ds : List ℕ) (ks : List Kind) → mark ≡ c ∷ cs → is_name_byte c ≡ false
    → Says mark (kind ∷ []) → IsSpelledWord x → IsSpelledWord y → is_name_byte d ≡ false → Says (d ∷ ds) ks
    → Says ((x ++ (mark ++ (y ++ []))) ++ d ∷ ds) (Word x ∷ kind ∷ Word y ∷ ks)
says-pair x y mark kind c cs d ds ks is gap says-mark first second stops says =
    let last = says-then mark (y ++ d ∷ ds) (kind ∷ []) (Word y ∷ ks) says-mark (says-word y d ds ks second stops says) in
    let marked : mark ++ (y ++ d ∷ ds) ≡ c ∷ (cs ++ (y ++ d ∷ ds)) = ap (λ m. m ++ (y ++ d ∷ ds)) is in
    let whole = says-word x c (cs ++ (y ++ d ∷ ds)) (kind ∷ Word y ∷ ks) first gap (subst (λ t. Says t (kind ∷ Word y ∷ ks)) marked last) in
    subst (λ t. Says t (Word x ∷ kind ∷ Word y ∷ ks)) (ap (λ t. x ++ t) (sym marked) ∙ sym (regrouped x mark y (d ∷ ds))) whole
  where
    regrouped : (x mark y rest : List ℕ) → (x ++ (mark ++ (y ++ []))) ++ rest ≡ x ++ (mark ++ (y ++ rest))
    regrouped x mark y rest = simp append_assoc refl

pub spelled-name : (name : List ℕ) → IsSpelledWord name → IsSpelledExpr (Name name)
spelled-name name word = record { on = λ d ds ks stops says. says-word name d ds ks word stops says }

-- what an operator makes of nets with these names
pub spelled-op : (word : ℕ → List ℕ) (op : Op) (end : ℕ) → operand_end op ≤ end → ((n : ℕ) → n < end → IsSpelledWord (word n))
    → IsSpelledExpr (op_expr word op)
spelled-op word (ops.Const value) end low all =
    record { on = λ d ds ks stops says. says-then (bit_text value) (d ∷ ds) (bit_kind value ∷ []) ks (says-bit value) says }
spelled-op word (ops.Copy n) end low all = record { on = λ d ds ks stops says. says-word (word n.0) d ds ks (all n.0 (omega arith)) stops says }
spelled-op word (ops.Not n) end low all = record {
  on = λ d ds ks stops says.
      says-then (codes "~") (word n.0 ++ d ∷ ds) (Mark (codes "~") ∷ []) (Word (word n.0) ∷ ks) says-not
      (says-word (word n.0) d ds ks (all n.0 (omega arith)) stops says);
}
spelled-op word (ops.And m n) end low all = record {
  on = λ d ds ks stops says.
      says-pair (word m.0) (word n.0) (codes " & ") (Mark (codes "&")) 32 (codes "& ") d ds ks refl refl says-and (all m.0 (omega arith))
      (all n.0 (omega arith)) stops says;
}
spelled-op word (ops.Or m n) end low all = record {
  on = λ d ds ks stops says.
      says-pair (word m.0) (word n.0) (codes " | ") (Mark (codes "|")) 32 (codes "| ") d ds ks refl refl says-or (all m.0 (omega arith))
      (all n.0 (omega arith)) stops says;
}

-- ---- comments

tail-stays : (low now : Bool) → list_all stays_in_line (codes " resets it while it is "
    ++ (level_word low ++ (time_words now ++ codes "; paused is whether the program is still running."))) ≡ true
tail-stays true true = refl
tail-stays true false = refl
tail-stays false true = refl
tail-stays false false = refl

two-comments : (name a clock reset b low now c : List ℕ)
    → (47 ∷ 47 ∷ 32 ∷ ((name ++ (a ++ (clock ++ 46 ∷ []))) ++ 10 ∷ [])) ++ (47 ∷ 47 ∷ 32 ∷ ((reset ++ (b ++ (low ++ (now ++ c)))) ++ 10 ∷ []))
    ≡ 47 ∷ 47 ∷ 32 ∷ (name ++ (a ++ (clock ++ (46 ∷ 10 ∷ 47 ∷ 47 ∷ 32 ∷ (reset ++ (b ++ (low ++ (now ++ (c ++ 10 ∷ [])))))))))
two-comments name a clock reset b low now c = simp append_assoc refl

-- the two lines about the text
says-comments : (name clock reset : List ℕ) (manner : Manner) → is_name name ≡ true → is_name clock ≡ true → is_name reset ≡ true
    → Says (comments name clock reset manner) []
says-comments name clock reset manner n c r =
    let low = level_word manner.is_active_low in
    let now = time_words manner.is_asynchronous in
    let last = codes "; paused is whether the program is still running." in
    let line = name ++ (name_tail ++ (clock ++ codes ".")) in
    let tail = codes " resets it while it is " ++ (low ++ (now ++ last)) in
    let first = says-comment (32 ∷ line) (list_all-append stays_in_line name (name_tail ++ (clock ++ codes "."))
    ∙ rw (name-stays name n, list_all-append stays_in_line clock (codes "."), name-stays clock c) refl) in
    let second = says-comment (32 ∷ (reset ++ tail)) (list_all-append stays_in_line reset tail
    ∙ and_from (list_all stays_in_line reset) (list_all stays_in_line tail) (name-stays reset r) (tail-stays manner.is_active_low manner.is_asynchronous)) in
    subst (λ t. Says t []) (two-comments name name_tail clock reset (codes " resets it while it is ") low now last)
    (says-then (47 ∷ 47 ∷ 32 ∷ (line ++ 10 ∷ [])) (47 ∷ 47 ∷ 32 ∷ ((reset ++ tail) ++ 10 ∷ [])) [] [] first second)

says-lint : Says lint_lines []
says-lint =
    says-then (codes "// verilator lint_off UNUSED\n") (codes "// verilator lint_off SYMRSVDWORD\n") [] []
    (says-comment (codes " verilator lint_off UNUSED") refl) (says-comment (codes " verilator lint_off SYMRSVDWORD") refl)

-- ---- pieces after words

-- a piece that begins with a byte that no word has
pub record Stops (text : List ℕ) (ks : List Kind) : Type 0 where
  pub head : ℕ
  pub tail : List ℕ
  pub is : text ≡ head ∷ tail
  pub stops : is_name_byte head ≡ false
  pub says : Says text ks

-- a word in front of such a piece, after another one
says-named : (front name text : List ℕ) (ks1 ks2 : List Kind) → Says front ks1 → IsSpelledWord name → Stops text ks2
    → Says (front ++ (name ++ text)) (ks1 ++ Word name ∷ ks2)
says-named front name text ks1 ks2 says-front word rest =
    says-then front (name ++ text) ks1 (Word name ∷ ks2) says-front (subst (λ t. Says (name ++ t) (Word name ∷ ks2)) (sym rest.is)
    (says-word name rest.head rest.tail ks2 word rest.stops (subst (λ t. Says t ks2) rest.is rest.says)))

stops-end : Stops line_end (semicolon ∷ [])
stops-end = record { head = 59; tail = 10 ∷ []; is = refl; stops = refl; says = says-end }

-- ---- ports

moved : (s t u : List ℕ) (ks ls ms : List Kind) → Stops (s ++ (t ++ u)) (ks ++ (ls ++ ms)) → Stops ((s ++ t) ++ u) ((ks ++ ls) ++ ms)
moved s t u ks ls ms is =
    subst (λ x. Stops x ((ks ++ ls) ++ ms)) (sym (append_assoc s t u)) (subst (λ l. Stops (s ++ (t ++ u)) l) (sym (append_assoc ks ls ms)) is)

-- a port, which begins with a comma
stops-port : (front name text : List ℕ) (cs : List ℕ) (ks1 ks2 : List Kind) → front ≡ 44 ∷ cs → Says front ks1 → IsSpelledWord name → Stops text ks2
    → Stops ((front ++ name) ++ text) ((ks1 ++ Word name ∷ []) ++ ks2)
stops-port front name text cs ks1 ks2 is says-front word rest =
    let whole = says-named front name text ks1 ks2 says-front word rest in
    record {
      head = 44;
      tail = (cs ++ name) ++ text;
      is = ap (λ f. (f ++ name) ++ text) is;
      stops = refl;
      says = subst (λ t. Says t ((ks1 ++ Word name ∷ []) ++ ks2)) (sym (append_assoc front name text))
          (subst (λ l. Says (front ++ (name ++ text)) l) (sym (append_assoc ks1 (Word name ∷ []) ks2)) whole);
    }

stops-inputs : (names : List (List ℕ)) (text : List ℕ) (ks : List Kind) → All IsSpelledWord names → Stops text ks
    → Stops (flat_map input_port names ++ text) (flat_map input_kinds names ++ ks)
stops-inputs [] text ks all rest = rest
stops-inputs (name ∷ names) text ks all rest =
    let more = stops-inputs names text ks (λ k d h. all (suc k) d (omega arith)) rest in
    moved (input_port name) (flat_map input_port names) text (input_kinds name) (flat_map input_kinds names) ks
    (stops-port (codes ",\n    input wire ") name (flat_map input_port names ++ text) _ (comma ∷ Word (codes "input") ∷ Word (codes "wire") ∷ [])
    (flat_map input_kinds names ++ ks) refl says-input (all 0 name (omega arith)) more)

stops-outputs : (names : List (List ℕ)) (text : List ℕ) (ks : List Kind) → All IsSpelledWord names → Stops text ks
    → Stops (flat_map output_port names ++ text) (flat_map output_kinds names ++ ks)
stops-outputs [] text ks all rest = rest
stops-outputs (name ∷ names) text ks all rest =
    let more = stops-outputs names text ks (λ k d h. all (suc k) d (omega arith)) rest in
    moved (output_port name) (flat_map output_port names) text (output_kinds name) (flat_map output_kinds names) ks
    (stops-port (codes ",\n    output wire ") name (flat_map output_port names ++ text) _ (comma ∷ Word (codes "output") ∷ Word (codes "wire") ∷ [])
    (flat_map output_kinds names ++ ks) refl says-output (all 0 name (omega arith)) more)

says-head : (name clock reset text : List ℕ) (ks : List Kind) → is_name name ≡ true → is_name clock ≡ true → is_name reset ≡ true → Stops text ks
    → Says (module_head name clock reset ++ text) (head_kinds name clock reset ++ ks)
says-head name clock reset text ks n c r rest =
    let port = stops-port (codes ",\n    input wire ") reset text _ (comma ∷ Word (codes "input") ∷ Word (codes "wire") ∷ []) ks refl says-input
    (name-word reset r) rest in
    let kinds1 = (comma ∷ Word (codes "input") ∷ Word (codes "wire") ∷ Word reset ∷ []) ++ ks in
    let text1 = (codes ",\n    input wire " ++ reset) ++ text in
    let clocked = says-named (codes " (\n    input wire ") clock text1 (left ∷ Word (codes "input") ∷ Word (codes "wire") ∷ []) kinds1 says-open
    (name-word clock c) port in
    let text2 = codes " (\n    input wire " ++ (clock ++ text1) in
    let kinds2 = left ∷ Word (codes "input") ∷ Word (codes "wire") ∷ Word clock ∷ kinds1 in
    subst (λ t. Says t (head_kinds name clock reset ++ ks)) (regrouped name clock reset text)
    (says-named (codes "module ") name text2 (Word (codes "module") ∷ []) kinds2 says-module (name-word name n)
    (record { head = 32; tail = _; is = refl; stops = refl; says = clocked }))
  where
    regrouped : (name clock reset rest : List ℕ)
        → codes "module " ++ (name ++ (codes " (\n    input wire " ++ (clock ++ ((codes ",\n    input wire " ++ reset) ++ rest))))
        ≡ module_head name clock reset ++ rest
    regrouped name clock reset rest = simp append_assoc refl

-- ---- lines

says-reg-line : (r : Register) → IsSpelledRegister r → Says (reg_line r.name) (reg_kinds r)
says-reg-line r is = says-named (codes "    reg ") r.name line_end (Word (codes "reg") ∷ []) (semicolon ∷ []) says-reg is.name stops-end

says-wire-line : (name : List ℕ) → IsSpelledWord name → Says (wire_declaration name) (wire_kinds name)
says-wire-line name is = says-named (codes "    wire ") name line_end (Word (codes "wire") ∷ []) (semicolon ∷ []) says-wire is stops-end

-- a mark between spaces, and a constant
stops-bit : (front : List ℕ) (kind : Kind) (cs : List ℕ) (value : Bool) → front ≡ 32 ∷ cs → Says front (kind ∷ [])
    → Stops (front ++ (bit_text value ++ line_end)) (kind ∷ bit_kind value ∷ semicolon ∷ [])
stops-bit front kind cs value is says-front = record {
  head = 32;
  tail = cs ++ (bit_text value ++ line_end);
  is = ap (λ f. f ++ (bit_text value ++ line_end)) is;
  stops = refl;
  says = says-then front (bit_text value ++ line_end) (kind ∷ []) (bit_kind value ∷ semicolon ∷ []) says-front
      (says-then (bit_text value) line_end (bit_kind value ∷ []) (semicolon ∷ []) (says-bit value) says-end);
}

says-initial-line : (r : Register) → IsSpelledRegister r → Says (initial_line r.name r.init) (initial_kinds r)
says-initial-line r is =
    says-named (codes "    initial ") r.name (codes " = " ++ (bit_text r.init ++ line_end)) (Word (codes "initial") ∷ [])
    (equals ∷ bit_kind r.init ∷ semicolon ∷ []) says-initial is.name (stops-bit (codes " = ") equals _ r.init refl says-equals)

says-first-line : (r : Register) → IsSpelledRegister r → Says (first_value_line r.name r.init) (first_kinds r)
says-first-line r is =
    says-named (codes "            ") r.name (codes " <= " ++ (bit_text r.init ++ line_end)) [] (becomes ∷ bit_kind r.init ∷ semicolon ∷ []) says-indent
    is.name (stops-bit (codes " <= ") becomes _ r.init refl says-becomes)

says-next-line : (r : Register) → IsSpelledRegister r → Says (next_line r.name r.from) (next_kinds r)
says-next-line r is =
    let got = says-named (codes " <= ") r.from line_end (becomes ∷ []) (semicolon ∷ []) says-becomes is.from stops-end in
    says-named (codes "            ") r.name (codes " <= " ++ (r.from ++ line_end)) [] (becomes ∷ Word r.from ∷ semicolon ∷ []) says-indent is.name
    (record { head = 32; tail = _; is = refl; stops = refl; says = got })

says-assign-line : (a : Assign Expr) → IsSpelledAssign a → Says (assign_line a) (assign_kinds a)
says-assign-line a is =
    let value = is.value.on 59 (10 ∷ []) (semicolon ∷ []) refl says-end in
    let equal = says-then (codes " = ") (expr_text a.value ++ line_end) (equals ∷ []) (expr_kinds a.value ++ semicolon ∷ []) says-equals value in
    says-named (codes "    assign ") a.target (codes " = " ++ (expr_text a.value ++ line_end)) (Word (codes "assign") ∷ [])
    (equals ∷ (expr_kinds a.value ++ semicolon ∷ [])) says-assign is.target
    (record { head = 32; tail = _; is = refl; stops = refl; says = equal })

-- ---- how the registers' part begins

says-edge : (low : Bool) → IsSpelledWord (edge_word low)
says-edge true = spelled-word (codes "negedge") refl
says-edge false = spelled-word (codes "posedge") refl

stops-edge : (at_once low : Bool) (reset text : List ℕ) (ks : List Kind) → IsSpelledWord reset → Stops text ks
    → Stops ((if at_once then codes " or " ++ (edge_word low ++ (codes " " ++ reset)) else []) ++ text)
    ((if at_once then Word (codes "or") ∷ Word (edge_word low) ∷ Word reset ∷ [] else []) ++ ks)
stops-edge false low reset text ks word rest = rest
stops-edge true low reset text ks word rest =
    let named = says-named (codes " ") reset text [] ks says-space word rest in
    let edge = says-named (codes " or ") (edge_word low) (codes " " ++ (reset ++ text)) (Word (codes "or") ∷ []) (Word reset ∷ ks) says-or-edge (says-edge low)
    (record { head = 32; tail = _; is = refl; stops = refl; says = named }) in
    record {
      head = 32;
      tail = _;
      is = refl;
      stops = refl;
      says = subst (λ t. Says t (Word (codes "or") ∷ Word (edge_word low) ∷ Word reset ∷ ks)) (regrouped (edge_word low) reset text) edge;
    }
  where
    regrouped : (edge reset text : List ℕ) → codes " or " ++ (edge ++ (codes " " ++ (reset ++ text))) ≡ (codes " or " ++ (edge ++ (codes " " ++ reset))) ++ text
    regrouped edge reset text = simp append_assoc refl

-- after `if (`
says-test : (low : Bool) (front reset text : List ℕ) (ks1 ks2 : List Kind) → Says front ks1 → IsSpelledWord reset → Stops text ks2
    → Says (front ++ ((if low then codes "!" ++ reset else reset) ++ text))
    (ks1 ++ ((if low then Mark (codes "!") ∷ Word reset ∷ [] else Word reset ∷ []) ++ ks2))
says-test false front reset text ks1 ks2 says-front word rest = says-named front reset text ks1 ks2 says-front word rest
says-test true front reset text ks1 ks2 says-front word rest =
    says-then front (codes "!" ++ (reset ++ text)) ks1 (Mark (codes "!") ∷ Word reset ∷ ks2) says-front
    (says-named (codes "!") reset text (Mark (codes "!") ∷ []) ks2 says-bang word rest)

says-clock : (manner : Manner) (clock reset : List ℕ) → is_name clock ≡ true → is_name reset ≡ true
    → Says (clock_lines manner clock reset) (clock_kinds manner clock reset)
says-clock manner clock reset c r =
    let tested = says-test manner.is_active_low (codes ")\n        if (") reset (codes ") begin\n") (right ∷ Word (codes "if") ∷ left ∷ [])
    (right ∷ Word (codes "begin") ∷ []) says-if (name-word reset r) (record { head = 41; tail = _; is = refl; stops = refl; says = says-begin }) in
    let text1 = codes ")\n        if (" ++ (test_text manner reset ++ codes ") begin\n") in
    let kinds1 = right ∷ Word (codes "if") ∷ left ∷ (test_kinds manner reset ++ (right ∷ Word (codes "begin") ∷ [])) in
    says-named (codes "    always @(posedge ") clock (edge_text manner reset ++ text1)
    (Word (codes "always") ∷ Mark (codes "@") ∷ left ∷ Word (codes "posedge") ∷ []) (edge_kinds manner reset ++ kinds1) says-always (name-word clock c)
    (stops-edge manner.is_asynchronous manner.is_active_low reset text1 kinds1 (name-word reset r)
    (record { head = 41; tail = _; is = refl; stops = refl; says = tested }))

says-some : {X : Type 0} (xs : List X) (text : List ℕ) (ks : List Kind) → Says text ks → Says (where_some xs text) (where_some xs ks)
says-some [] text ks says = saying.says-nothing
says-some (x ∷ xs) text ks says = says

-- ---- the whole

all-initial : (b : Bool) (registers : List Register) → All IsSpelledRegister registers → All IsSpelledRegister (if b then registers else [])
all-initial true registers all = all
all-initial false registers all = λ k d h. absurd (omega arith)

says-module-text : (m : ResetModule) → IsSpelled m → Says (body_text m) (module_kinds m)
says-module-text m is =
    let reg = λ (r : Register). reg_line r.name in
    let initial = λ (r : Register). initial_line r.name r.init in
    let value = λ (r : Register). first_value_line r.name r.init in
    let next = λ (r : Register). next_line r.name r.from in
    let registers = m.design.registers in
    let initials = initial_ones m.manner registers in
    let initials-fit = all-initial m.manner.is_initialized registers is.registers in
    let each : All (λ r. Says (value r) (first_kinds r)) registers = λ k d h. says-first-line (get_or registers k d) (is.registers k d h) in
    let text1 = where_some registers end_line ++ codes "endmodule\n" in
    let kinds1 = where_some registers (Word (codes "end") ∷ []) ++ Word (codes "endmodule") ∷ [] in
    let text2 = where_some registers else_line ++ (flat_map next registers ++ text1) in
    let kinds2 = where_some registers else_kinds ++ (flat_map next_kinds registers ++ kinds1) in
    let clock = where_some registers (clock_lines m.manner (clock_of m) m.reset) in
    let clock_kinds1 = where_some registers (clock_kinds m.manner (clock_of m) m.reset) in
    let text3 = clock ++ (flat_map value registers ++ text2) in
    let kinds3 = clock_kinds1 ++ (flat_map first_kinds registers ++ kinds2) in
    let says1 = says-then (where_some registers end_line) (codes "endmodule\n") (where_some registers (Word (codes "end") ∷ [])) (Word (codes "endmodule") ∷ [])
    (says-some registers end_line (Word (codes "end") ∷ []) says-end-line) says-endmodule in
    let says2 = says-then (where_some registers else_line) (flat_map next registers ++ text1) (where_some registers else_kinds)
    (flat_map next_kinds registers ++ kinds1) (says-some registers else_line else_kinds says-else)
    (says-then (flat_map next registers) text1 (flat_map next_kinds registers) kinds1
    (says-lines next next_kinds registers (λ k d h. says-next-line (get_or registers k d) (is.registers k d h))) says1) in
    let says3 = says-then clock (flat_map value registers ++ text2) clock_kinds1 (flat_map first_kinds registers ++ kinds2)
    (says-some registers (clock_lines m.manner (clock_of m) m.reset) (clock_kinds m.manner (clock_of m) m.reset)
    (says-clock m.manner (clock_of m) m.reset is.clock is.reset))
    (says-then (flat_map value registers) text2 (flat_map first_kinds registers) kinds2 (says-lines value first_kinds registers each) says2)
    in
    let text4 = flat_map initial initials ++ (flat_map assign_line m.design.assigns ++ text3) in
    let kinds4 = flat_map initial_kinds initials ++ (flat_map assign_kinds m.design.assigns ++ kinds3) in
    let says4 = says-then (flat_map initial initials) (flat_map assign_line m.design.assigns ++ text3) (flat_map initial_kinds initials)
    (flat_map assign_kinds m.design.assigns ++ kinds3)
    (says-lines initial initial_kinds initials (λ k d h. says-initial-line (get_or initials k d) (initials-fit k d h)))
    (says-then (flat_map assign_line m.design.assigns) text3 (flat_map assign_kinds m.design.assigns) kinds3
    (says-lines assign_line assign_kinds m.design.assigns (λ k d h. says-assign-line (get_or m.design.assigns k d) (is.assigns k d h))) says3) in
    let text5 = flat_map reg registers ++ (flat_map wire_declaration m.design.wires ++ text4) in
    let kinds5 = flat_map reg_kinds registers ++ (flat_map wire_kinds m.design.wires ++ kinds4) in
    let says5 = says-then (flat_map reg registers) (flat_map wire_declaration m.design.wires ++ text4) (flat_map reg_kinds registers)
    (flat_map wire_kinds m.design.wires ++ kinds4)
    (says-lines reg reg_kinds registers (λ k d h. says-reg-line (get_or registers k d) (is.registers k d h)))
    (says-then (flat_map wire_declaration m.design.wires) text4 (flat_map wire_kinds m.design.wires) kinds4
    (says-lines wire_declaration wire_kinds m.design.wires (λ k d h. says-wire-line (get_or m.design.wires k d) (is.wires k d h))) says4) in
    let ports = stops-inputs (given_inputs m.design) _ _ is.inputs (stops-outputs m.design.outputs _ _ is.outputs (record {
      head = 10;
      tail = _;
      is = refl;
      stops = refl;
      says = says-then ports_end text5 (right ∷ semicolon ∷ []) kinds5 says-ports-end says5;
    })) in
    let head = says-head m.design.name (clock_of m) m.reset _ _ is.name is.clock is.reset ports in
    let says6 = says-then (comments m.design.name (clock_of m) m.reset m.manner) (lint_lines ++ (module_head m.design.name (clock_of m) m.reset
    ++ (flat_map input_port (given_inputs m.design) ++ (flat_map output_port m.design.outputs ++ (ports_end ++ text5))))) [] _
    (says-comments m.design.name (clock_of m) m.reset m.manner is.name is.clock is.reset) (says-then lint_lines _ [] _ says-lint head) in
    subst (Says (body_text m)) (whole-kinds (head_kinds m.design.name (clock_of m) m.reset) (flat_map input_kinds (given_inputs m.design))
    (flat_map output_kinds m.design.outputs) (flat_map reg_kinds registers) (flat_map wire_kinds m.design.wires) (flat_map initial_kinds initials)
    (flat_map assign_kinds m.design.assigns) clock_kinds1 (flat_map first_kinds registers) (where_some registers else_kinds)
    (flat_map next_kinds registers) (where_some registers (Word (codes "end") ∷ [])) (Word (codes "endmodule") ∷ [])) says6
  where
    whole-kinds : (head i o r w f a c v e n d x : List Kind)
        → head ++ (i ++ (o ++ (right ∷ semicolon ∷ (r ++ (w ++ (f ++ (a ++ (c ++ (v ++ (e ++ (n ++ (d ++ x))))))))))))
        ≡ head ++ (i ++ (o ++ (right ∷ semicolon ∷ (r ++ (w ++ (f ++ (a ++ ((c ++ (v ++ (e ++ (n ++ d)))) ++ x))))))))
    whole-kinds head i o r w f a c v e n d x = simp append_assoc refl

pub kinds-module : (m : ResetModule) → IsSpelled m → kinds (body_text m) ≡ module_kinds m
kinds-module m is = says-whole (body_text m) (module_kinds m) (says-module-text m is)
