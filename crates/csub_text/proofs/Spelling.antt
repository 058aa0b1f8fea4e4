-- The text of a program whose expressions have one operator at most: its tokens, and that the grammar has them.
use Rattle.std.proofs.Common.{◌≡◌, ℕ, ◌≤◌, suc, Bool, false, List, [], ◌∷◌, ◌++◌, map, get_or, All, refl, sym, ap, ◌∙◌}
use Rattle.std.proofs.Common.{subst, arith, append_assoc, Some}
use Rattle.std.specs.Prelude.{flat_map, codes}
use Rattle.std.proofs.lemmas.List.{map-id}
use Rattle.base_types.specs.Names.{is_name_byte}
use Rattle.base_reader.specs.Languages.{One as Single, Then, Led, Loop, Many}
use Rattle.csub_text.specs.Tokens.{Kind, Static, Int, Return, Void, React, LeftParenthesis, RightParenthesis, LeftBrace}
use Rattle.csub_text.specs.Tokens.{RightBrace, Semicolon, Equals, Named, Bad, front, word_kind}
use Rattle.csub_text.specs.Trees.{Expr, StateVariable, Assign, Program}
use Rattle.csub_text.specs.Grammar as grammar
use Rattle.csub_text.specs.Grammar.{sign, SpellsExpression, WrittenAssign, WrittenProgram}
use Rattle.csub_text.specs.Grammar.{SpellsState, SpellsGlobal, SpellsLocal, SpellsAssign}
use Rattle.csub_text.specs.Grammar.{SpellsAnswer, SpellsText}
use Rattle.csub_text.specs.Grammar.{text_nesting, body_nesting, assign_meant, program_meant, begins_global, global_name, own_name}
use Rattle.csub_text.specs.Written.{expr_text, bit_text, line_end, state_line, declaration, assign_line, head_line, last_lines}
use Rattle.csub_text.specs.Written.{program_text}
use Rattle.csub_text.proofs.Lexing.{Says, IsVariable, says-int, says-static, says-end, says-equals, says-head, says-return}
use Rattle.csub_text.proofs.Lexing.{says-last, bit_kind, says-bit, writes}
use Rattle.net_expressions.specs.Grammar.{meant}
use Rattle.net_expressions.proofs.Saying as saying
use Rattle.net_expressions.proofs.Exports.{says-then, says-lines, plain_written, meant-plain, nesting-plain, spells-many}
use Rattle.net_expressions.proofs.Spelling as spelling

-- a name, a constant, or one operator on names
abbrev pub IsPlain : Expr → Type 0
IsPlain = spelling.IsPlain IsVariable

-- ---- tokens

abbrev pub expr_kinds : Expr → List Kind
expr_kinds = spelling.expr_kinds sign Bad front word_kind (codes "!") bit_text writes

-- a variable, and an expression, in front of a byte that no name has
says-name : (name : List ℕ) (d : ℕ) (ds : List ℕ) (ks : List Kind) → IsVariable name → is_name_byte d ≡ false → Says (d ∷ ds) ks
    → Says (name ++ d ∷ ds) (Named name ∷ ks)
says-name = saying.says-name Bad front word_kind Named writes.fronts

says-expr : (e : Expr) (d : ℕ) (ds : List ℕ) (ks : List Kind) → IsPlain e → is_name_byte d ≡ false → Says (d ∷ ds) ks
    → Says (expr_text e ++ d ∷ ds) (expr_kinds e ++ ks)
says-expr = spelling.says-expr sign Bad front word_kind (codes "!") bit_text writes

abbrev pub state_kinds : StateVariable → List Kind
state_kinds s = Static ∷ Int ∷ Named s.name ∷ Equals ∷ bit_kind s.init ∷ Semicolon ∷ []

abbrev pub declaration_kinds : List ℕ → List Kind
declaration_kinds name = Int ∷ Named name ∷ Semicolon ∷ []

abbrev pub assign_kinds : Assign → List Kind
assign_kinds a = Named a.target ∷ Equals ∷ (expr_kinds a.value ++ Semicolon ∷ [])

abbrev pub head_kinds : List Kind
head_kinds = Int ∷ React ∷ LeftParenthesis ∷ Void ∷ RightParenthesis ∷ LeftBrace ∷ []

abbrev pub last_kinds : Expr → List Kind
last_kinds answer = Return ∷ (expr_kinds answer ++ Semicolon ∷ RightBrace ∷ [])

abbrev pub program_kinds : Program → List Kind
program_kinds p =
    flat_map state_kinds p.states ++ (flat_map declaration_kinds p.globals ++ (head_kinds
    ++ (flat_map declaration_kinds p.locals ++ (flat_map assign_kinds p.body ++ last_kinds p.answer))))

says-state : (s : StateVariable) → IsVariable s.name → Says (state_line s) (state_kinds s)
says-state s is =
    let last = says-then (bit_text s.init) line_end (bit_kind s.init ∷ []) (Semicolon ∷ []) (says-bit s.init) says-end in
    let equals = says-then (codes " = ") (bit_text s.init ++ line_end) (Equals ∷ []) (bit_kind s.init ∷ Semicolon ∷ []) says-equals last in
    says-then (codes "static int ") (s.name ++ (codes " = " ++ (bit_text s.init ++ line_end))) (Static ∷ Int ∷ [])
    (Named s.name ∷ Equals ∷ bit_kind s.init ∷ Semicolon ∷ []) says-static
    (says-name s.name 32 (61 ∷ 32 ∷ (bit_text s.init ++ line_end)) (Equals ∷ bit_kind s.init ∷ Semicolon ∷ []) is refl equals)

says-declaration : (name : List ℕ) → IsVariable name → Says (declaration name) (declaration_kinds name)
says-declaration name is =
    says-then (codes "int ") (name ++ line_end) (Int ∷ []) (Named name ∷ Semicolon ∷ []) says-int
    (says-name name 59 (10 ∷ []) (Semicolon ∷ []) is refl says-end)

pub says-assign : (a : Assign) → IsVariable a.target → IsPlain a.value → Says (assign_line a) (assign_kinds a)
says-assign a is plain =
    let value = says-expr a.value 59 (10 ∷ []) (Semicolon ∷ []) plain refl says-end in
    says-name a.target 32 (61 ∷ 32 ∷ (expr_text a.value ++ line_end)) (Equals ∷ (expr_kinds a.value ++ Semicolon ∷ [])) is refl
    (says-then (codes " = ") (expr_text a.value ++ line_end) (Equals ∷ []) (expr_kinds a.value ++ Semicolon ∷ []) says-equals value)

-- what holds of the declarations and the answer of a program whose text is read back
pub record IsFramed (kept : List StateVariable) (shared own : List (List ℕ)) (returned : Expr) : Type 0 where
  pub states : All (λ s. IsVariable s.name) kept
  pub globals : All IsVariable shared
  pub locals : All IsVariable own
  pub answer : IsPlain returned
  pub states_own : All (λ s. begins_global s.name ≡ false) kept
  pub globals_long : All (λ n. global_name (Named n) ≡ Some n) shared
  pub locals_own : All (λ n. begins_global n ≡ false) own

-- what holds of a program whose text is read back
pub record IsSpelled (p : Program) : Type 0 where
  pub frame : IsFramed p.states p.globals p.locals p.answer
  pub targets : All (λ a. IsVariable a.target) p.body
  pub values : All (λ a. IsPlain a.value) p.body

-- the text of a program whose body has this one
abbrev pub framed_text : List StateVariable → List (List ℕ) → List (List ℕ) → Expr → List ℕ → List ℕ
framed_text states globals locals answer body =
    flat_map state_line states ++ (flat_map declaration globals ++ (head_line ++ (flat_map declaration locals ++ (body ++ last_lines answer))))

abbrev pub framed_kinds : List StateVariable → List (List ℕ) → List (List ℕ) → Expr → List Kind → List Kind
framed_kinds states globals locals answer body =
    flat_map state_kinds states ++ (flat_map declaration_kinds globals ++ (head_kinds
    ++ (flat_map declaration_kinds locals ++ (body ++ last_kinds answer))))

pub says-framed : (states : List StateVariable) (globals locals : List (List ℕ)) (answer : Expr) → IsFramed states globals locals answer
    → (body : List ℕ) (ks : List Kind) → Says body ks → Says (framed_text states globals locals answer body) (framed_kinds states globals locals answer ks)
says-framed states globals locals answer is body ks d =
    let a = says-lines state_line state_kinds states (λ k d h. says-state (get_or states k d) (is.states k d h)) in
    let b = says-lines declaration declaration_kinds globals (λ k d h. says-declaration (get_or globals k d) (is.globals k d h)) in
    let c = says-lines declaration declaration_kinds locals (λ k d h. says-declaration (get_or locals k d) (is.locals k d h)) in
    let e = says-then (codes "return ") (expr_text answer ++ (59 ∷ 10 ∷ 125 ∷ 10 ∷ [])) (Return ∷ []) (expr_kinds answer ++ Semicolon ∷ RightBrace ∷ [])
    says-return (says-expr answer 59 (10 ∷ 125 ∷ 10 ∷ []) (Semicolon ∷ RightBrace ∷ []) is.answer refl says-last) in
    let text1 = last_lines answer in
    let kinds1 = last_kinds answer in
    let text2 = body ++ text1 in
    let kinds2 = ks ++ kinds1 in
    let text3 = flat_map declaration locals ++ text2 in
    let kinds3 = flat_map declaration_kinds locals ++ kinds2 in
    let text4 = flat_map declaration globals ++ (head_line ++ text3) in
    let kinds4 = flat_map declaration_kinds globals ++ (head_kinds ++ kinds3) in
    says-then (flat_map state_line states) text4 (flat_map state_kinds states) kinds4 a
    (says-then (flat_map declaration globals) (head_line ++ text3) (flat_map declaration_kinds globals) (head_kinds ++ kinds3) b
    (says-then head_line text3 head_kinds kinds3 says-head
    (says-then (flat_map declaration locals) text2 (flat_map declaration_kinds locals) kinds2 c
    (says-then body text1 ks kinds1 d e))))

pub says-program : (p : Program) → IsSpelled p → Says (program_text p) (program_kinds p)
says-program p is =
    says-framed p.states p.globals p.locals p.answer is.frame (flat_map assign_line p.body) (flat_map assign_kinds p.body)
    (says-lines assign_line assign_kinds p.body (λ k d h. says-assign (get_or p.body k d) (is.targets k d h) (is.values k d h)))

-- ---- the grammar

one-bit : (value : Bool) → Single grammar.bit value (bit_kind value ∷ [])
one-bit = spelling.one-bit sign Bad front word_kind (codes "!") bit_text writes

spells-plain : (e : Expr) → IsPlain e → SpellsExpression (plain_written e) (expr_kinds e)
spells-plain = spelling.spells-plain sign Bad front word_kind (codes "!") bit_text writes

abbrev pub written_assign : Assign → WrittenAssign
written_assign a = record { target = a.target; value = plain_written a.value }

abbrev pub written_program : Program → WrittenProgram
written_program p = record {
  states = p.states;
  globals = p.globals;
  locals = p.locals;
  body = map written_assign p.body;
  answer = plain_written p.answer;
}

pub meant-body : (body : List Assign) → map assign_meant (map written_assign body) ≡ body
meant-body [] = refl
meant-body (a ∷ body) = ap (λ e. record { target = a.target; value = e } ∷ map assign_meant (map written_assign body)) (meant-plain a.value)
    ∙ ap (λ l. a ∷ l) (meant-body body)

pub meant-written : (p : Program) → program_meant (written_program p) ≡ p
meant-written p =
    ap (λ b. record { states = p.states; globals = p.globals; locals = p.locals; body = b; answer = meant (plain_written p.answer) }) (meant-body p.body)
    ∙ ap (λ e. record { states = p.states; globals = p.globals; locals = p.locals; body = p.body; answer = e }) (meant-plain p.answer)

pub nesting-body : (body : List Assign) → All (λ a. IsPlain a.value) body → body_nesting (map written_assign body) ≤ 1
nesting-body [] all = omega arith
nesting-body (a ∷ body) all =
    let here = nesting-plain IsVariable a.value (all 0 a (omega arith)) in
    let rest = nesting-body body (λ k d h. all (suc k) d (omega arith)) in omega arith

own-passes : (n : List ℕ) → begins_global n ≡ false → own_name (Named n) ≡ Some n
own-passes n own = rw own refl

semicolon : Single (grammar.is Semicolon) tt (Semicolon ∷ [])
semicolon = record { token = Semicolon; only = refl; passes = refl }

spells-state : (s : StateVariable) → begins_global s.name ≡ false → SpellsState s (state_kinds s)
spells-state s own = record {
  token = Static;
  value = tt;
  rest = Int ∷ Named s.name ∷ Equals ∷ bit_kind s.init ∷ Semicolon ∷ [];
  cut = refl;
  passes = refl;
  behind = record {
    token = Int;
    value = tt;
    rest = Named s.name ∷ Equals ∷ bit_kind s.init ∷ Semicolon ∷ [];
    cut = refl;
    passes = refl;
    behind = record {
      front = Named s.name ∷ [];
      back = Equals ∷ bit_kind s.init ∷ Semicolon ∷ [];
      cut = refl;
      first = record { token = Named s.name; only = refl; passes = own-passes s.name own };
      second = record {
        token = Equals;
        value = tt;
        rest = bit_kind s.init ∷ Semicolon ∷ [];
        cut = refl;
        passes = refl;
        behind = record { front = bit_kind s.init ∷ []; back = Semicolon ∷ []; cut = refl; first = one-bit s.init; second = semicolon };
      };
    };
  };
}

spells-global : (n : List ℕ) → global_name (Named n) ≡ Some n → SpellsGlobal (Some n) (declaration_kinds n)
spells-global n long = record {
  token = Int;
  value = tt;
  rest = Named n ∷ Semicolon ∷ [];
  cut = refl;
  passes = refl;
  behind = record {
    front = Named n ∷ [];
    back = Semicolon ∷ [];
    cut = refl;
    first = record { token = Named n; only = refl; passes = long };
    second = semicolon;
  };
}

spells-local : (n : List ℕ) → begins_global n ≡ false → SpellsLocal n (declaration_kinds n)
spells-local n own = record {
  token = Int;
  value = tt;
  rest = Named n ∷ Semicolon ∷ [];
  cut = refl;
  passes = refl;
  behind = record {
    front = Named n ∷ [];
    back = Semicolon ∷ [];
    cut = refl;
    first = record { token = Named n; only = refl; passes = own-passes n own };
    second = semicolon;
  };
}

pub spells-assign : (a : Assign) → IsPlain a.value → SpellsAssign (written_assign a) (assign_kinds a)
spells-assign a plain = record {
  front = Named a.target ∷ [];
  back = Equals ∷ (expr_kinds a.value ++ Semicolon ∷ []);
  cut = refl;
  first = record { token = Named a.target; only = refl; passes = refl };
  second = record {
    token = Equals;
    value = tt;
    rest = expr_kinds a.value ++ Semicolon ∷ [];
    cut = refl;
    passes = refl;
    behind = record { front = expr_kinds a.value; back = Semicolon ∷ []; cut = refl; first = spells-plain a.value plain; second = semicolon };
  };
}

spells-globals : (names : List (List ℕ)) → All (λ n. global_name (Named n) ≡ Some n) names
    → Loop SpellsGlobal names (flat_map declaration_kinds names ++ Int ∷ React ∷ [])
spells-globals [] all = record {
  token = Int;
  value = tt;
  rest = React ∷ [];
  cut = refl;
  passes = refl;
  behind = record { token = React; only = refl; passes = refl };
}
spells-globals (n ∷ names) all = record {
  front = declaration_kinds n;
  back = flat_map declaration_kinds names ++ Int ∷ React ∷ [];
  cut = refl;
  first = spells-global n (all 0 n (omega arith));
  second = spells-globals names (λ k d h. all (suc k) d (omega arith));
}

-- the declarations around a body that is such, and the answer
abbrev pub SpellsFramed : List StateVariable → List (List ℕ) → List (List ℕ) → (List Kind → Type 0) → Expr → List Kind → Type 0
SpellsFramed states globals locals Body answer =
    Then (Many SpellsState states) (Then (Loop SpellsGlobal globals)
    (Led (grammar.is LeftParenthesis) (λ _. Led (grammar.is Void) (λ _. Led (grammar.is RightParenthesis) (λ _. Led (grammar.is LeftBrace) (λ _.
    Then (Many SpellsLocal locals) (Then Body (SpellsAnswer (plain_written answer)))))))))

pub spells-framed : (states : List StateVariable) (globals locals : List (List ℕ)) (answer : Expr) → IsFramed states globals locals answer
    → (Body : List Kind → Type 0) (ks : List Kind) → Body ks
    → SpellsFramed states globals locals Body answer (framed_kinds states globals locals answer ks)
spells-framed states globals locals answer is Body ks body =
    let all_states = subst (λ l. Many SpellsState l (flat_map state_kinds states)) (map-id states)
    (spells-many SpellsState (λ s. s) state_kinds states (λ k d h. spells-state (get_or states k d) (is.states_own k d h))) in
    let all_locals = subst (λ l. Many SpellsLocal l (flat_map declaration_kinds locals)) (map-id locals)
    (spells-many SpellsLocal (λ n. n) declaration_kinds locals (λ k d h. spells-local (get_or locals k d) (is.locals_own k d h))) in
    let tail = flat_map declaration_kinds locals ++ (ks ++ last_kinds answer) in
    record {
      front = flat_map state_kinds states;
      back = flat_map declaration_kinds globals ++ (head_kinds ++ tail);
      cut = refl;
      first = all_states;
      second = record {
        front = flat_map declaration_kinds globals ++ Int ∷ React ∷ [];
        back = LeftParenthesis ∷ Void ∷ RightParenthesis ∷ LeftBrace ∷ tail;
        cut = sym (append_assoc (flat_map declaration_kinds globals) (Int ∷ React ∷ []) (LeftParenthesis ∷ Void ∷ RightParenthesis ∷ LeftBrace ∷ tail));
        first = spells-globals globals is.globals_long;
        second = record {
          token = LeftParenthesis;
          value = tt;
          rest = Void ∷ RightParenthesis ∷ LeftBrace ∷ tail;
          cut = refl;
          passes = refl;
          behind = record {
            token = Void;
            value = tt;
            rest = RightParenthesis ∷ LeftBrace ∷ tail;
            cut = refl;
            passes = refl;
            behind = record {
              token = RightParenthesis;
              value = tt;
              rest = LeftBrace ∷ tail;
              cut = refl;
              passes = refl;
              behind = record {
                token = LeftBrace;
                value = tt;
                rest = tail;
                cut = refl;
                passes = refl;
                behind = record {
                  front = flat_map declaration_kinds locals;
                  back = ks ++ last_kinds answer;
                  cut = refl;
                  first = all_locals;
                  second = record {
                    front = ks;
                    back = last_kinds answer;
                    cut = refl;
                    first = body;
                    second = record {
                      token = Return;
                      value = tt;
                      rest = expr_kinds answer ++ Semicolon ∷ RightBrace ∷ [];
                      cut = refl;
                      passes = refl;
                      behind = record {
                        front = expr_kinds answer;
                        back = Semicolon ∷ RightBrace ∷ [];
                        cut = refl;
                        first = spells-plain answer is.answer;
                        second = record {
                          token = Semicolon;
                          value = tt;
                          rest = RightBrace ∷ [];
                          cut = refl;
                          passes = refl;
                          behind = record { token = RightBrace; only = refl; passes = refl };
                        };
                      };
                    };
                  };
                };
              };
            };
          };
        };
      };
    }

pub spells-program : (p : Program) → IsSpelled p → SpellsText (written_program p) (program_kinds p)
spells-program p is =
    spells-framed p.states p.globals p.locals p.answer is.frame (Many SpellsAssign (map written_assign p.body)) (flat_map assign_kinds p.body)
    (spells-many SpellsAssign written_assign assign_kinds p.body (λ k d h. spells-assign (get_or p.body k d) (is.values k d h)))

pub nesting-written : (p : Program) → IsSpelled p → text_nesting (written_program p) ≤ 1
nesting-written p is =
    let body = nesting-body p.body is.values in
    let answer = nesting-plain IsVariable p.answer is.frame.answer in omega arith
