-- The text of a guarded program whose names are variables and no words has the grammar's tokens of it.
use Rattle.std.proofs.Common.{◌≡◌, ℕ, ◌+◌, ◌≤◌, suc, Bool, true, false, List, [], ◌∷◌, ◌++◌, map, get_or, All}
use Rattle.std.proofs.Common.{Option, Some, None, refl, sym, ap, ◌∙◌, subst, arith, append_assoc}
use Rattle.std.specs.Prelude.{flat_map, codes, if◌then◌else◌}
use Rattle.std.specs.List.{AllByRecursion}
use Rattle.std.proofs.lemmas.List.{map-append, append-nil}
use Rattle.base_facts.proofs.Lists.{map-twice}
use Rattle.base_types.specs.Names.{is_name_byte, is_same_name}
use Rattle.base_reader.specs.Languages.{Many, Optional}
use Rattle.csub_text.specs.Tokens as plain
use Rattle.csub_text.specs.Tokens.{Kind, If, Else, Named, LeftParenthesis, RightParenthesis, LeftBrace, RightBrace, Semicolon, Equals, Int, Return}
use Rattle.csub_text.specs.Grammar.{SpellsAssign, WrittenAssign, assign_meant, body_nesting}
use Rattle.csub_text.specs.Trees.{StateVariable, Assign, Expr, Name, Const}
use Rattle.net_expressions.specs.Trees as exprs
use Rattle.csub_text.specs.Written.{assign_line}
use Rattle.csub_text.proofs.Exports.{Says, IsVariable, fronts-names, bit_kind, IsReadable, IsPlain, IsFramed, expr_kinds, assign_kinds, state_kinds}
use Rattle.csub_text.proofs.Exports.{declaration_kinds, head_kinds, last_kinds, framed_kinds, says-framed, spells-framed, says-assign, spells-assign}
use Rattle.csub_text.proofs.Exports.{written_assign, meant-body, nesting-body}
use Rattle.net_expressions.proofs.Saying as saying
use Rattle.net_expressions.proofs.Exports.{says-then, says-lines, says-whole, plain_written, meant-plain, nesting-plain, spells-many}
use Rattle.net_expressions.specs.Grammar.{meant}
use Rattle.net_expressions.specs.Names.{names_in}
use Rattle.csub_guard.specs.Grammar.{WrittenPiece, OneWritten, IfWritten, WrittenProgram, SpellsHalf, SpellsElse, SpellsPiece, SpellsText, piece_nesting}
use Rattle.csub_guard.specs.Grammar.{pieces_nesting}
use Rattle.csub_guard.specs.Grammar.{piece_meant, program_meant, text_nesting}
use Rattle.csub_guard.specs.Tokens.{kind_of, kinds, token_of}
use Rattle.csub_guard.specs.Trees.{Piece, One, Program}
use Rattle.csub_guard.specs.Trees as trees
use Rattle.csub_guard_blocks.specs.Blocks.{if_line, else_line, end_line, second_text, piece_text, program_text}

-- ---- what is written

abbrev second_written : List Assign → Option (List WrittenAssign)
second_written [] = None
second_written (a ∷ assigns) = Some (map written_assign (a ∷ assigns))

abbrev pub written_piece : Piece → WrittenPiece
written_piece (One a) = OneWritten (written_assign a)
written_piece (trees.If test first second) = IfWritten test (map written_assign first) (second_written second)

abbrev pub written_program : Program → WrittenProgram
written_program p = record {
  states = p.states;
  globals = p.globals;
  locals = p.locals;
  body = map written_piece p.body;
  answer = plain_written p.answer;
}

meant-assign : (a : Assign) → assign_meant (written_assign a) ≡ a
meant-assign a = ap (λ e. record { target = a.target; value = e }) (meant-plain a.value)

meant-piece : (x : Piece) → piece_meant (written_piece x) ≡ x
meant-piece (One a) = ap One (meant-assign a)
meant-piece (trees.If test first []) = ap (λ l. trees.If test l []) (meant-body first)
meant-piece (trees.If test first (a ∷ second)) =
    ap (λ l. trees.If test l (map assign_meant (map written_assign (a ∷ second)))) (meant-body first)
    ∙ ap (λ l. trees.If test first l) (meant-body (a ∷ second))

meant-pieces : (xs : List Piece) → map piece_meant (map written_piece xs) ≡ xs
meant-pieces [] = refl
meant-pieces (x ∷ xs) = ap (λ y. y ∷ map piece_meant (map written_piece xs)) (meant-piece x) ∙ ap (λ l. x ∷ l) (meant-pieces xs)

pub meant-written : (p : Program) → program_meant (written_program p) ≡ p
meant-written p =
    ap (λ b. record { states = p.states; globals = p.globals; locals = p.locals; body = b; answer = meant (plain_written p.answer) }) (meant-pieces p.body)
    ∙ ap (λ e. record { states = p.states; globals = p.globals; locals = p.locals; body = p.body; answer = e }) (meant-plain p.answer)

-- ---- tokens as the C subset has them

abbrev second_kinds : Kind → List Assign → List Kind
second_kinds else_kind [] = RightBrace ∷ []
second_kinds else_kind (a ∷ assigns) = RightBrace ∷ else_kind ∷ LeftBrace ∷ (flat_map assign_kinds (a ∷ assigns) ++ RightBrace ∷ [])

abbrev piece_kinds : Kind → Kind → Piece → List Kind
piece_kinds if_kind else_kind (One a) = assign_kinds a
piece_kinds if_kind else_kind (trees.If test first second) =
    if_kind ∷ LeftParenthesis ∷ Named test ∷ RightParenthesis ∷ LeftBrace ∷ (flat_map assign_kinds first ++ second_kinds else_kind second)

-- what holds of a piece whose lines are read back
abbrev pub Readable : Piece → Type 0
Readable (One a) = IsReadable a
Readable (trees.If test first second) = IsVariable test × All IsReadable first × All IsReadable second

says-if : Says (codes "if (") (Named (codes "if") ∷ LeftParenthesis ∷ [])
says-if = record { on = λ at rest. (at + 1 + 1 + 1 + 1, refl) }

says-open : Says (codes ") {\n") (RightParenthesis ∷ LeftBrace ∷ [])
says-open = record { on = λ at rest. (at + 1 + 1 + 1 + 1, refl) }

says-close : Says end_line (RightBrace ∷ [])
says-close = record { on = λ at rest. (at + 1 + 1, refl) }

says-else : Says else_line (RightBrace ∷ Named (codes "else") ∷ LeftBrace ∷ [])
says-else = record { on = λ at rest. (at + 1 + 1 + 1 + 1 + 1 + 1 + 1 + 1 + 1, refl) }

says-name : (name : List ℕ) (d : ℕ) (ds : List ℕ) (ks : List Kind) → IsVariable name → is_name_byte d ≡ false → Says (d ∷ ds) ks
    → Says (name ++ d ∷ ds) (Named name ∷ ks)
says-name = saying.says-name plain.Bad plain.front plain.word_kind Named fronts-names

says-assigns : (xs : List Assign) → All IsReadable xs → Says (flat_map assign_line xs) (flat_map assign_kinds xs)
says-assigns xs all = says-lines assign_line assign_kinds xs (λ k d low. says-assign (get_or xs k d) (all k d low).target (all k d low).value)

says-second : (xs : List Assign) → All IsReadable xs → Says (second_text xs) (second_kinds (Named (codes "else")) xs)
says-second [] all = says-close
says-second (a ∷ xs) all =
    says-then else_line (flat_map assign_line (a ∷ xs) ++ end_line) (RightBrace ∷ Named (codes "else") ∷ LeftBrace ∷ [])
    (flat_map assign_kinds (a ∷ xs) ++ RightBrace ∷ []) says-else
    (says-then (flat_map assign_line (a ∷ xs)) end_line (flat_map assign_kinds (a ∷ xs)) (RightBrace ∷ []) (says-assigns (a ∷ xs) all) says-close)

says-piece : (x : Piece) → Readable x → Says (piece_text x) (piece_kinds (Named (codes "if")) (Named (codes "else")) x)
says-piece (One a) is = says-assign a is.target is.value
says-piece (trees.If test first second) is =
    let body = flat_map assign_line first ++ second_text second in
    let body_kinds = flat_map assign_kinds first ++ second_kinds (Named (codes "else")) second in
    let rest = says-then (flat_map assign_line first) (second_text second) (flat_map assign_kinds first) (second_kinds (Named (codes "else")) second)
    (says-assigns first is.1) (says-second second is.2) in
    let head : Says (if_line test) (Named (codes "if") ∷ LeftParenthesis ∷ Named test ∷ RightParenthesis ∷ LeftBrace ∷ [])
    = says-then (codes "if (") (test ++ codes ") {\n") (Named (codes "if") ∷ LeftParenthesis ∷ []) (Named test ∷ RightParenthesis ∷ LeftBrace ∷ []) says-if
    (says-name test 41 (32 ∷ 123 ∷ 10 ∷ []) (RightParenthesis ∷ LeftBrace ∷ []) is.0 refl says-open) in
    says-then (if_line test) body (Named (codes "if") ∷ LeftParenthesis ∷ Named test ∷ RightParenthesis ∷ LeftBrace ∷ []) body_kinds head rest

-- ---- the words of guarded texts

-- a name that is neither word
pub record NoWord (n : List ℕ) : Type 0 where
  pub no_if : is_same_name n (codes "if") ≡ false
  pub no_else : is_same_name n (codes "else") ≡ false

-- tokens that guarded texts have as the C subset has them
abbrev Same : List Kind → Type 0
Same ks = map kind_of ks ≡ ks

same-named : (n : List ℕ) → NoWord n → kind_of (Named n) ≡ Named n
same-named n free = ap (λ b. if b then If else (if is_same_name n (codes "else") then Else else Named n)) free.no_if
    ∙ ap (λ b. if b then Else else Named n) free.no_else

same-append : (xs ys : List Kind) → Same xs → Same ys → Same (xs ++ ys)
same-append xs ys a b = map-append kind_of xs ys ∙ ap (λ l. l ++ map kind_of ys) a ∙ ap (λ l. xs ++ l) b

same-more : (k : Kind) (ks : List Kind) → kind_of k ≡ k → Same ks → Same (k ∷ ks)
same-more k ks a b = ap (λ x. x ∷ map kind_of ks) a ∙ ap (λ l. k ∷ l) b

same-lists : {X : Type 0} (f : X → List Kind) (xs : List X) → All (λ x. Same (f x)) xs → Same (flat_map f xs)
same-lists f [] all = refl
same-lists f (x ∷ xs) all = same-append (f x) (flat_map f xs) (all 0 x (omega arith)) (same-lists f xs (λ k d low. all (suc k) d (omega (arith, low))))

same-bit : (b : Bool) → kind_of (bit_kind b) ≡ bit_kind b
same-bit true = refl
same-bit false = refl

-- an expression that is plain, of names that are no words
same-expr : (e : Expr) → IsPlain e → AllByRecursion NoWord (names_in e) → Same (expr_kinds e)
same-expr (Name n) simple free = same-more (Named n) [] (same-named n free.0) refl
same-expr (Const b) simple free = same-more (bit_kind b) [] (same-bit b) refl
same-expr (exprs.Not (Name n)) simple free = same-more plain.Bang (Named n ∷ []) refl (same-more (Named n) [] (same-named n free.0) refl)
same-expr (exprs.And (exprs.MoreExprs (Name m) (exprs.MoreExprs (Name n) exprs.NoExprs))) simple free =
    same-more (Named m) (plain.Ampersand ∷ Named n ∷ []) (same-named m free.0)
    (same-more plain.Ampersand (Named n ∷ []) refl (same-more (Named n) [] (same-named n free.1.0) refl))
same-expr (exprs.Or (exprs.MoreExprs (Name m) (exprs.MoreExprs (Name n) exprs.NoExprs))) simple free =
    same-more (Named m) (plain.Bar ∷ Named n ∷ []) (same-named m free.0)
    (same-more plain.Bar (Named n ∷ []) refl (same-more (Named n) [] (same-named n free.1.0) refl))
same-expr others simple free = absurd simple

-- an assignment whose names are no words
pub record Wordless (a : Assign) : Type 0 where
  pub target : NoWord a.target
  pub value : AllByRecursion NoWord (names_in a.value)

same-assign : (a : Assign) → IsReadable a → Wordless a → Same (assign_kinds a)
same-assign a is free =
    same-more (Named a.target) (Equals ∷ (expr_kinds a.value ++ Semicolon ∷ [])) (same-named a.target free.target)
    (same-more Equals (expr_kinds a.value ++ Semicolon ∷ []) refl
    (same-append (expr_kinds a.value) (Semicolon ∷ []) (same-expr a.value is.value free.value) refl))

same-assigns : (xs : List Assign) → All IsReadable xs → All Wordless xs → Same (flat_map assign_kinds xs)
same-assigns xs is free = same-lists assign_kinds xs (λ k d low. same-assign (get_or xs k d) (is k d low) (free k d low))

abbrev pub WordlessPiece : Piece → Type 0
WordlessPiece (One a) = Wordless a
WordlessPiece (trees.If test first second) = NoWord test × All Wordless first × All Wordless second

-- the tokens of a piece become those of guarded texts
words-second : (xs : List Assign) → All IsReadable xs → All Wordless xs → map kind_of (second_kinds (Named (codes "else")) xs) ≡ second_kinds Else xs
words-second [] is free = refl
words-second (a ∷ xs) is free =
    ap (λ l. RightBrace ∷ Else ∷ LeftBrace ∷ l)
    (same-append (flat_map assign_kinds (a ∷ xs)) (RightBrace ∷ []) (same-assigns (a ∷ xs) is free) refl)

words-piece : (x : Piece) → Readable x → WordlessPiece x → map kind_of (piece_kinds (Named (codes "if")) (Named (codes "else")) x) ≡ piece_kinds If Else x
words-piece (One a) is free = same-assign a is free
words-piece (trees.If test first second) is free =
    ap (λ k. If ∷ LeftParenthesis ∷ k ∷ RightParenthesis ∷ LeftBrace ∷ map kind_of (flat_map assign_kinds first ++ second_kinds (Named (codes "else")) second))
    (same-named test free.0)
    ∙ ap (λ l. If ∷ LeftParenthesis ∷ Named test ∷ RightParenthesis ∷ LeftBrace ∷ l)
    (map-append kind_of (flat_map assign_kinds first) (second_kinds (Named (codes "else")) second)
    ∙ ap (λ l. l ++ map kind_of (second_kinds (Named (codes "else")) second)) (same-assigns first is.1 free.1)
    ∙ ap (λ l. flat_map assign_kinds first ++ l) (words-second second is.2 free.2))

words-pieces : (xs : List Piece) → All Readable xs → All WordlessPiece xs
    → map kind_of (flat_map (piece_kinds (Named (codes "if")) (Named (codes "else"))) xs) ≡ flat_map (piece_kinds If Else) xs
words-pieces [] is free = refl
words-pieces (x ∷ xs) is free =
    let rest = flat_map (piece_kinds (Named (codes "if")) (Named (codes "else"))) xs in
    map-append kind_of (piece_kinds (Named (codes "if")) (Named (codes "else")) x) rest
    ∙ ap (λ l. l ++ map kind_of rest) (words-piece x (is 0 x (omega arith)) (free 0 x (omega arith)))
    ∙ ap (λ l. piece_kinds If Else x ++ l) (words-pieces xs (λ k d low. is (suc k) d (omega (arith, low))) (λ k d low. free (suc k) d (omega (arith, low))))

-- ---- whole texts

pub record IsSpelled (p : Program) : Type 0 where
  pub frame : IsFramed p.states p.globals p.locals p.answer
  pub lines : All Readable p.body
  pub states : All (λ s. NoWord s.name) p.states
  pub globals : All NoWord p.globals
  pub locals : All NoWord p.locals
  pub answer : AllByRecursion NoWord (names_in p.answer)
  pub words : All WordlessPiece p.body

same-state : (s : StateVariable) → NoWord s.name → Same (state_kinds s)
same-state s free = ap (λ k. plain.Static ∷ Int ∷ k ∷ Equals ∷ kind_of (bit_kind s.init) ∷ Semicolon ∷ []) (same-named s.name free)
    ∙ ap (λ k. plain.Static ∷ Int ∷ Named s.name ∷ Equals ∷ k ∷ Semicolon ∷ []) (same-bit s.init)

same-declaration : (n : List ℕ) → NoWord n → Same (declaration_kinds n)
same-declaration n free = ap (λ k. Int ∷ k ∷ Semicolon ∷ []) (same-named n free)

words-framed : (p : Program) → IsSpelled p → map kind_of (framed_kinds p.states p.globals p.locals p.answer
    (flat_map (piece_kinds (Named (codes "if")) (Named (codes "else"))) p.body))
    ≡ framed_kinds p.states p.globals p.locals p.answer (flat_map (piece_kinds If Else) p.body)
words-framed p is =
    let before = flat_map (piece_kinds (Named (codes "if")) (Named (codes "else"))) p.body in
    let after = flat_map (piece_kinds If Else) p.body in
    let last = last_kinds p.answer in
    let states = same-lists state_kinds p.states (λ k d low. same-state (get_or p.states k d) (is.states k d low)) in
    let globals = same-lists declaration_kinds p.globals (λ k d low. same-declaration (get_or p.globals k d) (is.globals k d low)) in
    let locals = same-lists declaration_kinds p.locals (λ k d low. same-declaration (get_or p.locals k d) (is.locals k d low)) in
    let answer : Same last = same-more Return (expr_kinds p.answer ++ Semicolon ∷ RightBrace ∷ []) refl
    (same-append (expr_kinds p.answer) (Semicolon ∷ RightBrace ∷ []) (same-expr p.answer is.frame.answer is.answer) refl) in
    let body : map kind_of (before ++ last) ≡ after ++ last
    = map-append kind_of before last ∙ ap (λ l. l ++ map kind_of last) (words-pieces p.body is.lines is.words) ∙ ap (λ l. after ++ l) answer in
    let inner : map kind_of (flat_map declaration_kinds p.locals ++ (before ++ last)) ≡ flat_map declaration_kinds p.locals ++ (after ++ last)
    = map-append kind_of (flat_map declaration_kinds p.locals) (before ++ last) ∙ ap (λ l. l ++ map kind_of (before ++ last)) locals
    ∙ ap (λ l. flat_map declaration_kinds p.locals ++ l) body in
    let outer : map kind_of (head_kinds ++ (flat_map declaration_kinds p.locals ++ (before ++ last)))
    ≡ head_kinds ++ (flat_map declaration_kinds p.locals ++ (after ++ last))
    = ap (λ l. head_kinds ++ l) inner in
    let later = head_kinds ++ (flat_map declaration_kinds p.locals ++ (before ++ last)) in
    let both = flat_map declaration_kinds p.globals ++ later in
    map-append kind_of (flat_map state_kinds p.states) both ∙ ap (λ l. l ++ map kind_of both) states
    ∙ ap (λ l. flat_map state_kinds p.states ++ l) (map-append kind_of (flat_map declaration_kinds p.globals) later
    ∙ ap (λ l. l ++ map kind_of later) globals ∙ ap (λ l. flat_map declaration_kinds p.globals ++ l) outer)

says-text : (p : Program) → IsSpelled p → plain.kinds (program_text p)
    ≡ framed_kinds p.states p.globals p.locals p.answer (flat_map (piece_kinds (Named (codes "if")) (Named (codes "else"))) p.body)
says-text p is =
    says-whole (program_text p) _ (says-framed p.states p.globals p.locals p.answer is.frame (flat_map piece_text p.body) _
    (says-lines piece_text (piece_kinds (Named (codes "if")) (Named (codes "else"))) p.body (λ k d low. says-piece (get_or p.body k d) (is.lines k d low))))

kinds-text : (p : Program) → IsSpelled p → kinds (program_text p) ≡ framed_kinds p.states p.globals p.locals p.answer (flat_map (piece_kinds If Else) p.body)
kinds-text p is =
    map-twice (λ (t : plain.Token). t.kind) token_of (plain.tokens (program_text p))
    ∙ sym (map-twice kind_of (λ (t : plain.Token). t.kind) (plain.tokens (program_text p)))
    ∙ ap (map kind_of) (says-text p is) ∙ words-framed p is

-- ---- the grammar

spells-half : (xs : List Assign) → All IsReadable xs → SpellsHalf (map written_assign xs) (LeftBrace ∷ (flat_map assign_kinds xs ++ RightBrace ∷ []))
spells-half xs all = record {
  token = LeftBrace;
  value = tt;
  rest = flat_map assign_kinds xs ++ RightBrace ∷ [];
  cut = refl;
  passes = refl;
  behind = record {
    front = flat_map assign_kinds xs;
    back = RightBrace ∷ [];
    cut = refl;
    first = spells-many SpellsAssign written_assign assign_kinds xs (λ k d low. spells-assign (get_or xs k d) (all k d low).value);
    second = record { token = RightBrace; only = refl; passes = refl };
  };
}

-- behind the first half
abbrev else_kinds : List Assign → List Kind
else_kinds [] = []
else_kinds (a ∷ assigns) = Else ∷ LeftBrace ∷ (flat_map assign_kinds (a ∷ assigns) ++ RightBrace ∷ [])

spells-else : (xs : List Assign) → All IsReadable xs → Optional SpellsElse (second_written xs) (else_kinds xs)
spells-else [] all = refl
spells-else (a ∷ xs) all = record {
  token = Else;
  value = tt;
  rest = LeftBrace ∷ (flat_map assign_kinds (a ∷ xs) ++ RightBrace ∷ []);
  cut = refl;
  passes = refl;
  behind = spells-half (a ∷ xs) all;
}

second-cut : (front : List Kind) (xs : List Assign) → front ++ second_kinds Else xs ≡ (front ++ RightBrace ∷ []) ++ else_kinds xs
second-cut front [] = sym (append-nil (front ++ RightBrace ∷ []))
second-cut front (a ∷ xs) = sym (append_assoc front (RightBrace ∷ []) (else_kinds (a ∷ xs)))

spells-piece : (x : Piece) → Readable x → SpellsPiece (written_piece x) (piece_kinds If Else x)
spells-piece (One a) is = spells-assign a is.value
spells-piece (trees.If test first second) is =
    let body = flat_map assign_kinds first ++ second_kinds Else second in
    record {
      token = If;
      value = tt;
      rest = LeftParenthesis ∷ Named test ∷ RightParenthesis ∷ LeftBrace ∷ body;
      cut = refl;
      passes = refl;
      behind = record {
        token = LeftParenthesis;
        value = tt;
        rest = Named test ∷ RightParenthesis ∷ LeftBrace ∷ body;
        cut = refl;
        passes = refl;
        behind = record {
          front = Named test ∷ [];
          back = RightParenthesis ∷ LeftBrace ∷ body;
          cut = refl;
          first = record { token = Named test; only = refl; passes = refl };
          second = record {
            token = RightParenthesis;
            value = tt;
            rest = LeftBrace ∷ body;
            cut = refl;
            passes = refl;
            behind = record {
              front = LeftBrace ∷ (flat_map assign_kinds first ++ RightBrace ∷ []);
              back = else_kinds second;
              cut = ap (λ l. LeftBrace ∷ l) (second-cut (flat_map assign_kinds first) second);
              first = spells-half first is.1;
              second = spells-else second is.2;
            };
          };
        };
      };
    }

pub spells-text : (p : Program) → IsSpelled p → SpellsText (written_program p) (kinds (program_text p))
spells-text p is =
    subst (SpellsText (written_program p)) (sym (kinds-text p is))
    (spells-framed p.states p.globals p.locals p.answer is.frame (Many SpellsPiece (map written_piece p.body)) (flat_map (piece_kinds If Else) p.body)
    (spells-many SpellsPiece written_piece (piece_kinds If Else) p.body (λ k d low. spells-piece (get_or p.body k d) (is.lines k d low))))

nesting-assigns : (xs : List Assign) → All IsReadable xs → body_nesting (map written_assign xs) ≤ 1
nesting-assigns xs all = nesting-body xs (λ k d low. (all k d low).value)

nesting-piece : (x : Piece) → Readable x → piece_nesting (written_piece x) ≤ 1
nesting-piece (One a) is = nesting-plain IsVariable a.value is.value
nesting-piece (trees.If test first []) is = nesting-assigns first is.1
nesting-piece (trees.If test first (a ∷ second)) is =
    let one = nesting-assigns first is.1 in let other = nesting-assigns (a ∷ second) is.2 in omega arith

nesting-pieces : (xs : List Piece) → All Readable xs → pieces_nesting (map written_piece xs) ≤ 1
nesting-pieces [] all = omega arith
nesting-pieces (x ∷ xs) all =
    let here = nesting-piece x (all 0 x (omega arith)) in
    let rest = nesting-pieces xs (λ k d low. all (suc k) d (omega (arith, low))) in omega arith

pub nesting-text : (p : Program) → IsSpelled p → text_nesting (written_program p) ≤ 1
nesting-text p is =
    let body = nesting-pieces p.body is.lines in
    let answer = nesting-plain IsVariable p.answer is.frame.answer in omega arith
