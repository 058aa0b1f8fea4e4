-- Inner: the text of a source whose expressions have one operator at most: its tokens, and that the grammar has them.
use Rattle.std.proofs.Common.{◌≡◌, ℕ, ◌≤◌, suc, Bool, false, List, [], ◌∷◌, ◌++◌, map, get_or, All, refl, sym, ap, ◌∙◌}
use Rattle.std.proofs.Common.{subst, arith, append_assoc}
use Rattle.std.specs.Prelude.{flat_map, codes}
use Rattle.std.proofs.lemmas.List.{map-id}
use Rattle.base_types.specs.Names.{is_name_byte}
use Rattle.base_reader.specs.Languages.{Empty, One as Single, Loop, Many, Parted}
use Rattle.net_expressions.specs.Trees.{Expr}
use Rattle.net_expressions.specs.Grammar.{Written}
use Rattle.net_expressions.proofs.Saying as saying
use Rattle.net_expressions.proofs.Exports.{says-then, says-lines, plain_written, meant-plain, nesting-plain, spells-many}
use Rattle.net_expressions.proofs.Spelling as spelling
use Rattle.vlog_text.specs.Trees.{Declaration, Initial, Assign, Next, Source}
use Rattle.vlog_text.specs.Tokens.{Kind, ModuleWord, InitialWord, AssignWord, AlwaysWord, PosedgeWord, BeginWord}
use Rattle.vlog_text.specs.Tokens.{EndWord, EndmoduleWord, LeftParenthesis, RightParenthesis, Comma, Semicolon, Equals}
use Rattle.vlog_text.specs.Tokens.{At, Becomes, Declares, Named, Bad, front, word_kind}
use Rattle.vlog_text.specs.Grammar as grammar
use Rattle.vlog_text.specs.Grammar.{sign, SpellsExpression, SpellsHead, SpellsDeclaration, SpellsInitial, SpellsAssign, SpellsNext}
use Rattle.vlog_text.specs.Grammar.{SpellsClocked, SpellsText, assigns_nesting, assign_meant, source_meant}
use Rattle.vlog_text.specs.Written.{expr_text, bit_text, line_end, sort_text, next_port, ports_text, head_front, head_end, declaration_line}
use Rattle.vlog_text.specs.Written.{initial_line, assign_line, clock_line, next_line, last_lines, source_text}
use Rattle.vlog_text.proofs.Lexing.{Says, IsVariable, says-end, says-equals, says-becomes, says-module, says-open, says-comma, says-head_end}
use Rattle.vlog_text.proofs.Lexing.{says-sort, says-initial, says-assign, says-always, says-begin, says-last, bit_kind, says-bit, writes}

-- a name, a constant, or one operator on names
abbrev pub IsPlain : Expr → Type 0
IsPlain = spelling.IsPlain IsVariable

-- ---- tokens

abbrev pub expr_kinds : Expr → List Kind
expr_kinds = spelling.expr_kinds sign Bad front word_kind (codes "~") bit_text writes

-- a variable, and an expression, in front of a byte that no name has
says-name : (name : List ℕ) (d : ℕ) (ds : List ℕ) (ks : List Kind) → IsVariable name → is_name_byte d ≡ false → Says (d ∷ ds) ks
    → Says (name ++ d ∷ ds) (Named name ∷ ks)
says-name = saying.says-name Bad front word_kind Named writes.fronts

says-expr : (e : Expr) (d : ℕ) (ds : List ℕ) (ks : List Kind) → IsPlain e → is_name_byte d ≡ false → Says (d ∷ ds) ks
    → Says (expr_text e ++ d ∷ ds) (expr_kinds e ++ ks)
says-expr = spelling.says-expr sign Bad front word_kind (codes "~") bit_text writes

abbrev port_kinds : List ℕ → List Kind
port_kinds name = Comma ∷ Named name ∷ []

abbrev ports_kinds : List (List ℕ) → List Kind
ports_kinds [] = []
ports_kinds (name ∷ others) = Named name ∷ flat_map port_kinds others

abbrev head_kinds : List ℕ → List (List ℕ) → List Kind
head_kinds name ports = ModuleWord ∷ Named name ∷ LeftParenthesis ∷ (ports_kinds ports ++ RightParenthesis ∷ Semicolon ∷ [])

abbrev declaration_kinds : Declaration → List Kind
declaration_kinds d = Declares d.sort ∷ Named d.name ∷ Semicolon ∷ []

abbrev initial_kinds : Initial → List Kind
initial_kinds i = InitialWord ∷ Named i.name ∷ Equals ∷ bit_kind i.value ∷ Semicolon ∷ []

abbrev assign_kinds : Assign Expr → List Kind
assign_kinds a = AssignWord ∷ Named a.target ∷ Equals ∷ (expr_kinds a.value ++ Semicolon ∷ [])

abbrev clock_kinds : List ℕ → List Kind
clock_kinds clock = AlwaysWord ∷ At ∷ LeftParenthesis ∷ PosedgeWord ∷ Named clock ∷ RightParenthesis ∷ BeginWord ∷ []

abbrev next_kinds : Next → List Kind
next_kinds n = Named n.target ∷ Becomes ∷ Named n.source ∷ Semicolon ∷ []

abbrev last_kinds : List Kind
last_kinds = EndWord ∷ EndmoduleWord ∷ []

abbrev pub source_kinds : Source Expr → List Kind
source_kinds s =
    head_kinds s.name s.ports ++ (flat_map declaration_kinds s.declarations ++ (flat_map initial_kinds s.initials
    ++ (flat_map assign_kinds s.assigns ++ (clock_kinds s.clock ++ (flat_map next_kinds s.nexts ++ last_kinds)))))

says-declaration : (d : Declaration) → IsVariable d.name → Says (declaration_line d) (declaration_kinds d)
says-declaration d is =
    says-then (sort_text d.sort) (d.name ++ line_end) (Declares d.sort ∷ []) (Named d.name ∷ Semicolon ∷ []) (says-sort d.sort)
    (says-name d.name 59 (10 ∷ []) (Semicolon ∷ []) is refl says-end)

says-initial_line : (i : Initial) → IsVariable i.name → Says (initial_line i) (initial_kinds i)
says-initial_line i is =
    let last = says-then (bit_text i.value) line_end (bit_kind i.value ∷ []) (Semicolon ∷ []) (says-bit i.value) says-end in
    let equals = says-then (codes " = ") (bit_text i.value ++ line_end) (Equals ∷ []) (bit_kind i.value ∷ Semicolon ∷ []) says-equals last in
    says-then (codes "initial ") (i.name ++ (codes " = " ++ (bit_text i.value ++ line_end))) (InitialWord ∷ [])
    (Named i.name ∷ Equals ∷ bit_kind i.value ∷ Semicolon ∷ []) says-initial
    (says-name i.name 32 (61 ∷ 32 ∷ (bit_text i.value ++ line_end)) (Equals ∷ bit_kind i.value ∷ Semicolon ∷ []) is refl equals)

says-assign_line : (a : Assign Expr) → IsVariable a.target → IsPlain a.value → Says (assign_line a) (assign_kinds a)
says-assign_line a is plain =
    let value = says-expr a.value 59 (10 ∷ []) (Semicolon ∷ []) plain refl says-end in
    let equals = says-then (codes " = ") (expr_text a.value ++ line_end) (Equals ∷ []) (expr_kinds a.value ++ Semicolon ∷ []) says-equals value in
    says-then (codes "assign ") (a.target ++ (codes " = " ++ (expr_text a.value ++ line_end))) (AssignWord ∷ [])
    (Named a.target ∷ Equals ∷ (expr_kinds a.value ++ Semicolon ∷ [])) says-assign
    (says-name a.target 32 (61 ∷ 32 ∷ (expr_text a.value ++ line_end)) (Equals ∷ (expr_kinds a.value ++ Semicolon ∷ [])) is refl equals)

says-clock_line : (clock : List ℕ) → IsVariable clock → Says (clock_line clock) (clock_kinds clock)
says-clock_line clock is =
    says-then (codes "always @(posedge ") (clock ++ (codes ") begin" ++ 10 ∷ [])) (AlwaysWord ∷ At ∷ LeftParenthesis ∷ PosedgeWord ∷ [])
    (Named clock ∷ RightParenthesis ∷ BeginWord ∷ []) says-always
    (says-name clock 41 (codes " begin" ++ 10 ∷ []) (RightParenthesis ∷ BeginWord ∷ []) is refl says-begin)

says-next_line : (n : Next) → IsVariable n.target → IsVariable n.source → Says (next_line n) (next_kinds n)
says-next_line n target source =
    let behind = says-name n.source 59 (10 ∷ []) (Semicolon ∷ []) source refl says-end in
    says-name n.target 32 (codes "<= " ++ (n.source ++ line_end)) (Becomes ∷ Named n.source ∷ Semicolon ∷ []) target refl
    (says-then (codes " <= ") (n.source ++ line_end) (Becomes ∷ []) (Named n.source ∷ Semicolon ∷ []) says-becomes behind)

-- ports in front of what ends them
says-next_ports : (names : List (List ℕ)) → All IsVariable names → Says (flat_map next_port names ++ head_end)
    (flat_map port_kinds names ++ RightParenthesis ∷ Semicolon ∷ [])
says-next_ports [] all = says-head_end
says-next_ports (name ∷ names) all =
    let rest = says-next_ports names (λ k d h. all (suc k) d (omega arith)) in
    let text = flat_map next_port names ++ head_end in
    let kinds = flat_map port_kinds names ++ RightParenthesis ∷ Semicolon ∷ [] in
    subst (λ t. Says t (Comma ∷ Named name ∷ kinds)) (sym (append_assoc (next_port name) (flat_map next_port names) head_end))
    (says-then (codes ", ") (name ++ text) (Comma ∷ []) (Named name ∷ kinds) says-comma (named names rest))
  where
    named : (names : List (List ℕ)) → Says (flat_map next_port names ++ head_end) (flat_map port_kinds names ++ RightParenthesis ∷ Semicolon ∷ [])
        → Says (name ++ (flat_map next_port names ++ head_end)) (Named name ∷ (flat_map port_kinds names ++ RightParenthesis ∷ Semicolon ∷ []))
    named [] says = says-name name 41 (59 ∷ 10 ∷ []) (RightParenthesis ∷ Semicolon ∷ []) (all 0 name (omega arith)) refl says
    named (n ∷ ns) says = says-name name 44 (32 ∷ n ++ flat_map next_port ns ++ head_end) _ (all 0 name (omega arith)) refl says

says-ports : (name : List ℕ) (names : List (List ℕ)) → IsVariable name → All IsVariable names
    → Says (ports_text (name ∷ names) ++ head_end) (ports_kinds (name ∷ names) ++ RightParenthesis ∷ Semicolon ∷ [])
says-ports name names is all =
    let text = flat_map next_port names ++ head_end in
    subst (λ t. Says t (ports_kinds (name ∷ names) ++ RightParenthesis ∷ Semicolon ∷ [])) (sym (append_assoc name (flat_map next_port names) head_end))
    (named names (says-next_ports names all))
  where
    named : (names : List (List ℕ)) → Says (flat_map next_port names ++ head_end) (flat_map port_kinds names ++ RightParenthesis ∷ Semicolon ∷ [])
        → Says (name ++ (flat_map next_port names ++ head_end)) (Named name ∷ (flat_map port_kinds names ++ RightParenthesis ∷ Semicolon ∷ []))
    named [] says = says-name name 41 (59 ∷ 10 ∷ []) (RightParenthesis ∷ Semicolon ∷ []) is refl says
    named (n ∷ ns) says = says-name name 44 (32 ∷ n ++ flat_map next_port ns ++ head_end) _ is refl says

-- what holds of a source whose text is read back
pub record IsSpelled (s : Source Expr) : Type 0 where
  pub first : List ℕ
  pub others : List (List ℕ)
  pub ports : s.ports ≡ first ∷ others
  pub name_fits : IsVariable s.name
  pub first_fits : IsVariable first
  pub others_fit : All IsVariable others
  pub declared : All (λ d. IsVariable d.name) s.declarations
  pub initials : All (λ i. IsVariable i.name) s.initials
  pub targets : All (λ a. IsVariable a.target) s.assigns
  pub values : All (λ a. IsPlain a.value) s.assigns
  pub clock_fits : IsVariable s.clock
  pub next_targets : All (λ n. IsVariable n.target) s.nexts
  pub next_sources : All (λ n. IsVariable n.source) s.nexts

says-head : (s : Source Expr) (is : IsSpelled s) → Says (head_front s.name ++ (ports_text s.ports ++ head_end)) (head_kinds s.name s.ports)
says-head s is =
    subst (λ ports. Says (head_front s.name ++ (ports_text ports ++ head_end)) (head_kinds s.name ports)) (sym is.ports)
    (let ports = is.first ∷ is.others in
    let text = ports_text ports ++ head_end in
    let kinds = ports_kinds ports ++ RightParenthesis ∷ Semicolon ∷ [] in
    let behind = says-then (codes "(") text (LeftParenthesis ∷ []) kinds says-open (says-ports is.first is.others is.first_fits is.others_fit) in
    let named = says-name s.name 40 text (LeftParenthesis ∷ kinds) is.name_fits refl behind in
    subst (λ t. Says t (head_kinds s.name ports))
    (sym (append_assoc (codes "module ") (s.name ++ codes "(") text ∙ ap (λ t. codes "module " ++ t) (append_assoc s.name (codes "(") text)))
    (says-then (codes "module ") (s.name ++ 40 ∷ text) (ModuleWord ∷ []) (Named s.name ∷ LeftParenthesis ∷ kinds) says-module named))

pub says-source : (s : Source Expr) → IsSpelled s → Says (source_text s) (source_kinds s)
says-source s is =
    let b = says-lines declaration_line declaration_kinds s.declarations
    (λ k d h. says-declaration (get_or s.declarations k d) (is.declared k d h)) in
    let c = says-lines initial_line initial_kinds s.initials (λ k d h. says-initial_line (get_or s.initials k d) (is.initials k d h)) in
    let d = says-lines assign_line assign_kinds s.assigns
    (λ k d h. says-assign_line (get_or s.assigns k d) (is.targets k d h) (is.values k d h)) in
    let e = says-clock_line s.clock is.clock_fits in
    let f = says-lines next_line next_kinds s.nexts
    (λ k d h. says-next_line (get_or s.nexts k d) (is.next_targets k d h) (is.next_sources k d h)) in
    let text5 = flat_map next_line s.nexts ++ last_lines in
    let kinds5 = flat_map next_kinds s.nexts ++ last_kinds in
    let text4 = clock_line s.clock ++ text5 in
    let kinds4 = clock_kinds s.clock ++ kinds5 in
    let text3 = flat_map assign_line s.assigns ++ text4 in
    let kinds3 = flat_map assign_kinds s.assigns ++ kinds4 in
    let text2 = flat_map initial_line s.initials ++ text3 in
    let kinds2 = flat_map initial_kinds s.initials ++ kinds3 in
    let text1 = flat_map declaration_line s.declarations ++ text2 in
    let kinds1 = flat_map declaration_kinds s.declarations ++ kinds2 in
    let behind = says-then (flat_map declaration_line s.declarations) text2 (flat_map declaration_kinds s.declarations) kinds2 b
    (says-then (flat_map initial_line s.initials) text3 (flat_map initial_kinds s.initials) kinds3 c
    (says-then (flat_map assign_line s.assigns) text4 (flat_map assign_kinds s.assigns) kinds4 d
    (says-then (clock_line s.clock) text5 (clock_kinds s.clock) kinds5 e
    (says-then (flat_map next_line s.nexts) last_lines (flat_map next_kinds s.nexts) last_kinds f says-last)))) in
    subst (λ t. Says t (source_kinds s))
    (append_assoc (head_front s.name) (ports_text s.ports ++ head_end) text1
    ∙ ap (λ t. head_front s.name ++ t) (append_assoc (ports_text s.ports) head_end text1))
    (says-then (head_front s.name ++ (ports_text s.ports ++ head_end)) text1 (head_kinds s.name s.ports) kinds1 (says-head s is) behind)

-- ---- the grammar

one-bit : (value : Bool) → Single grammar.bit value (bit_kind value ∷ [])
one-bit = spelling.one-bit sign Bad front word_kind (codes "~") bit_text writes

spells-plain : (e : Expr) → IsPlain e → SpellsExpression (plain_written e) (expr_kinds e)
spells-plain = spelling.spells-plain sign Bad front word_kind (codes "~") bit_text writes

abbrev written_assign : Assign Expr → Assign Written
written_assign a = record { target = a.target; value = plain_written a.value }

abbrev pub written_source : Source Expr → Source Written
written_source s = record {
  name = s.name;
  ports = s.ports;
  declarations = s.declarations;
  initials = s.initials;
  assigns = map written_assign s.assigns;
  clock = s.clock;
  nexts = s.nexts;
}

meant-assigns : (assigns : List (Assign Expr)) → map assign_meant (map written_assign assigns) ≡ assigns
meant-assigns [] = refl
meant-assigns (a ∷ assigns) =
    ap (λ e. record { target = a.target; value = e } ∷ map assign_meant (map written_assign assigns)) (meant-plain a.value)
    ∙ ap (λ l. a ∷ l) (meant-assigns assigns)

pub meant-written : (s : Source Expr) → source_meant (written_source s) ≡ s
meant-written s = ap (λ assigns. record {
  name = s.name;
  ports = s.ports;
  declarations = s.declarations;
  initials = s.initials;
  assigns = assigns;
  clock = s.clock;
  nexts = s.nexts;
}) (meant-assigns s.assigns)

pub nesting-written : (assigns : List (Assign Expr)) → All (λ a. IsPlain a.value) assigns → assigns_nesting (map written_assign assigns) ≤ 1
nesting-written [] all = omega arith
nesting-written (a ∷ assigns) all =
    let here = nesting-plain IsVariable a.value (all 0 a (omega arith)) in
    let rest = nesting-written assigns (λ k d h. all (suc k) d (omega arith)) in omega arith

one-name : (name : List ℕ) → Single grammar.name name (Named name ∷ [])
one-name name = record { token = Named name; only = refl; passes = refl }

semicolon : Single (grammar.is Semicolon) tt (Semicolon ∷ [])
semicolon = record { token = Semicolon; only = refl; passes = refl }

spells-next_ports : (names : List (List ℕ)) → Loop (Parted (grammar.is Comma) (λ _. Single grammar.name) Empty) names (flat_map port_kinds names)
spells-next_ports [] = refl
spells-next_ports (name ∷ names) = record {
  front = port_kinds name;
  back = flat_map port_kinds names;
  cut = refl;
  first = record { token = Comma; value = tt; rest = Named name ∷ []; cut = refl; passes = refl; behind = one-name name };
  second = spells-next_ports names;
}

spells-head : (name : List ℕ) (first : List ℕ) (others : List (List ℕ)) → SpellsHead name (first ∷ others) (head_kinds name (first ∷ others))
spells-head name first others = record {
  token = ModuleWord;
  value = tt;
  rest = Named name ∷ LeftParenthesis ∷ (ports_kinds (first ∷ others) ++ RightParenthesis ∷ Semicolon ∷ []);
  cut = refl;
  passes = refl;
  behind = record {
    front = Named name ∷ [];
    back = LeftParenthesis ∷ (ports_kinds (first ∷ others) ++ RightParenthesis ∷ Semicolon ∷ []);
    cut = refl;
    first = one-name name;
    second = record {
      token = LeftParenthesis;
      value = tt;
      rest = ports_kinds (first ∷ others) ++ RightParenthesis ∷ Semicolon ∷ [];
      cut = refl;
      passes = refl;
      behind = record {
        front = ports_kinds (first ∷ others);
        back = RightParenthesis ∷ Semicolon ∷ [];
        cut = refl;
        first = record {
          front = Named first ∷ [];
          back = flat_map port_kinds others;
          cut = refl;
          first = one-name first;
          second = spells-next_ports others;
        };
        second = record { token = RightParenthesis; value = tt; rest = Semicolon ∷ []; cut = refl; passes = refl; behind = semicolon };
      };
    };
  };
}

spells-declaration : (d : Declaration) → SpellsDeclaration d (declaration_kinds d)
spells-declaration d = record {
  front = Declares d.sort ∷ [];
  back = Named d.name ∷ Semicolon ∷ [];
  cut = refl;
  first = record { token = Declares d.sort; only = refl; passes = refl };
  second = record { front = Named d.name ∷ []; back = Semicolon ∷ []; cut = refl; first = one-name d.name; second = semicolon };
}

spells-initial : (i : Initial) → SpellsInitial i (initial_kinds i)
spells-initial i = record {
  token = InitialWord;
  value = tt;
  rest = Named i.name ∷ Equals ∷ bit_kind i.value ∷ Semicolon ∷ [];
  cut = refl;
  passes = refl;
  behind = record {
    front = Named i.name ∷ [];
    back = Equals ∷ bit_kind i.value ∷ Semicolon ∷ [];
    cut = refl;
    first = one-name i.name;
    second = record {
      token = Equals;
      value = tt;
      rest = bit_kind i.value ∷ Semicolon ∷ [];
      cut = refl;
      passes = refl;
      behind = record { front = bit_kind i.value ∷ []; back = Semicolon ∷ []; cut = refl; first = one-bit i.value; second = semicolon };
    };
  };
}

spells-assign : (a : Assign Expr) → IsPlain a.value → SpellsAssign (written_assign a) (assign_kinds a)
spells-assign a plain = record {
  token = AssignWord;
  value = tt;
  rest = Named a.target ∷ Equals ∷ (expr_kinds a.value ++ Semicolon ∷ []);
  cut = refl;
  passes = refl;
  behind = record {
    front = Named a.target ∷ [];
    back = Equals ∷ (expr_kinds a.value ++ Semicolon ∷ []);
    cut = refl;
    first = one-name a.target;
    second = record {
      token = Equals;
      value = tt;
      rest = expr_kinds a.value ++ Semicolon ∷ [];
      cut = refl;
      passes = refl;
      behind = record { front = expr_kinds a.value; back = Semicolon ∷ []; cut = refl; first = spells-plain a.value plain; second = semicolon };
    };
  };
}

spells-next : (n : Next) → SpellsNext n (next_kinds n)
spells-next n = record {
  front = Named n.target ∷ [];
  back = Becomes ∷ Named n.source ∷ Semicolon ∷ [];
  cut = refl;
  first = one-name n.target;
  second = record {
    token = Becomes;
    value = tt;
    rest = Named n.source ∷ Semicolon ∷ [];
    cut = refl;
    passes = refl;
    behind = record { front = Named n.source ∷ []; back = Semicolon ∷ []; cut = refl; first = one-name n.source; second = semicolon };
  };
}

spells-clocked : (clock : List ℕ) (nexts : List Next) → SpellsClocked clock nexts (clock_kinds clock ++ (flat_map next_kinds nexts ++ last_kinds))
spells-clocked clock nexts =
    let many = subst (λ l. Many SpellsNext l (flat_map next_kinds nexts)) (map-id nexts)
    (spells-many SpellsNext (λ n. n) next_kinds nexts (λ k d h. spells-next (get_or nexts k d))) in
    record {
      front = clock_kinds clock;
      back = flat_map next_kinds nexts ++ last_kinds;
      cut = refl;
      first = record {
        token = AlwaysWord;
        value = tt;
        rest = At ∷ LeftParenthesis ∷ PosedgeWord ∷ Named clock ∷ RightParenthesis ∷ BeginWord ∷ [];
        cut = refl;
        passes = refl;
        behind = record {
          token = At;
          value = tt;
          rest = LeftParenthesis ∷ PosedgeWord ∷ Named clock ∷ RightParenthesis ∷ BeginWord ∷ [];
          cut = refl;
          passes = refl;
          behind = record {
            token = LeftParenthesis;
            value = tt;
            rest = PosedgeWord ∷ Named clock ∷ RightParenthesis ∷ BeginWord ∷ [];
            cut = refl;
            passes = refl;
            behind = record {
              token = PosedgeWord;
              value = tt;
              rest = Named clock ∷ RightParenthesis ∷ BeginWord ∷ [];
              cut = refl;
              passes = refl;
              behind = record {
                front = Named clock ∷ [];
                back = RightParenthesis ∷ BeginWord ∷ [];
                cut = refl;
                first = one-name clock;
                second = record {
                  token = RightParenthesis;
                  value = tt;
                  rest = BeginWord ∷ [];
                  cut = refl;
                  passes = refl;
                  behind = record { token = BeginWord; only = refl; passes = refl };
                };
              };
            };
          };
        };
      };
      second = record {
        front = flat_map next_kinds nexts;
        back = last_kinds;
        cut = refl;
        first = many;
        second = record {
          token = EndWord;
          value = tt;
          rest = EndmoduleWord ∷ [];
          cut = refl;
          passes = refl;
          behind = record { token = EndmoduleWord; only = refl; passes = refl };
        };
      };
    }

pub spells-source : (s : Source Expr) → IsSpelled s → SpellsText (written_source s) (source_kinds s)
spells-source s is =
    let declarations = subst (λ l. Many SpellsDeclaration l (flat_map declaration_kinds s.declarations)) (map-id s.declarations)
    (spells-many SpellsDeclaration (λ d. d) declaration_kinds s.declarations (λ k d h. spells-declaration (get_or s.declarations k d))) in
    let initials = subst (λ l. Many SpellsInitial l (flat_map initial_kinds s.initials)) (map-id s.initials)
    (spells-many SpellsInitial (λ i. i) initial_kinds s.initials (λ k d h. spells-initial (get_or s.initials k d))) in
    let assigns = spells-many SpellsAssign written_assign assign_kinds s.assigns (λ k d h. spells-assign (get_or s.assigns k d) (is.values k d h)) in
    let behind = clock_kinds s.clock ++ (flat_map next_kinds s.nexts ++ last_kinds) in
    record {
      front = head_kinds s.name s.ports;
      back = flat_map declaration_kinds s.declarations ++ (flat_map initial_kinds s.initials ++ (flat_map assign_kinds s.assigns ++ behind));
      cut = refl;
      first = subst (λ ports. SpellsHead s.name ports (head_kinds s.name ports)) (sym is.ports) (spells-head s.name is.first is.others);
      second = record {
        front = flat_map declaration_kinds s.declarations;
        back = flat_map initial_kinds s.initials ++ (flat_map assign_kinds s.assigns ++ behind);
        cut = refl;
        first = declarations;
        second = record {
          front = flat_map initial_kinds s.initials;
          back = flat_map assign_kinds s.assigns ++ behind;
          cut = refl;
          first = initials;
          second = record {
            front = flat_map assign_kinds s.assigns;
            back = behind;
            cut = refl;
            first = assigns;
            second = spells-clocked s.clock s.nexts;
          };
        };
      };
    }
