-- What the parts of a module begin with: no statement with a word of a declaration.
use Rattle.std.proofs.Common.{◌≡◌, ◌⊎◌, Bool, true, false, cond, List, [], ◌∷◌, ◌++◌, get_or, Option, Some, None, refl, sym, ap, ◌∙◌, inl, inr}
use Rattle.std.specs.Str.{bytes_eq}
use Rattle.std.proofs.lemmas.Slice.Eq.{bytes_eq-Decides}
use Rattle.base_types.specs.declared.place.Span.{Span}
use Rattle.est_ast.specs.declared.tokens.Token.{Token}
use Rattle.est_ast.specs.declared.tokens.Kind.{Kind}
use Rattle.est_ast.specs.declared.tokens.Kind.TheVariants as kinds
use Rattle.est_ast.specs.declared.tokens.Reserved.{Reserved}
use Rattle.est_ast.specs.declared.tokens.Reserved.TheVariants as words
use Rattle.est_ast.specs.declared.tokens.Mark.{Mark}
use Rattle.est_ast.specs.declared.tokens.Mark.TheVariants as marks
use Rattle.est_ast.specs.Spelling.{spelling, sign}
use Rattle.est_ast.specs.Grammar.{is_word, word, is_mark, mark, Level, Whole, Line, Item, OnLine, Spells, SpellsSeq, SpellsPar, SpellsItem, SpellsStmts}
use Rattle.est_ast.specs.Trees.{Stmt, At, Form, Nothing, Pause, Halt, Emit, Sustain, Await, AwaitCase, Present, PresentCase, Loop, LoopEach, Every, Repeat}
use Rattle.est_ast.specs.Trees.{Abort, AbortCase, WeakAbort, Suspend, Trap, Exit, Signal, Run, Seq, Par, Group, Stmts, NoStmts, MoreStmts}
use Rattle.est_ast.proofs.Exports.{mark_of, mark_of-head, read-spelling, read_word}
use Rattle.base_reader.specs.Languages.{One, Then, Led, Maybe}

-- ---- what the tests of words and marks take

pub word-taken : (w : Reserved) (token : Token) (x : Unit {0}) → word w token ≡ Some x → token.kind ≡ kinds.Reserved w
word-taken w token x is = by token.kind is
  where
    by : (kind : Kind) → is_word w kind ≡ Some x → kind ≡ kinds.Reserved w
    by (kinds.Reserved other) is = go (bytes_eq (spelling other) (spelling w)) refl is
      where
        go : (b : Bool) → bytes_eq (spelling other) (spelling w) ≡ b → cond b (Some tt) None ≡ Some x → kinds.Reserved other ≡ kinds.Reserved w
        go true same is = ap kinds.Reserved
            (sym (read-spelling other) ∙ ap read_word ((bytes_eq-Decides (spelling other) (spelling w)).0 same) ∙ read-spelling w)
        go false same is = cc
    by (kinds.Mark m) is = cc
    by (kinds.Ident name) is = cc
    by (kinds.Number value) is = cc

pub mark-taken : (m : Mark) (token : Token) (x : Unit {0}) → mark m token ≡ Some x → token.kind ≡ kinds.Mark m
mark-taken m token x is = by token.kind is
  where
    by : (kind : Kind) → is_mark m kind ≡ Some x → kind ≡ kinds.Mark m
    by (kinds.Mark other) is = go (bytes_eq (sign other) (sign m)) refl is
      where
        go : (b : Bool) → bytes_eq (sign other) (sign m) ≡ b → cond b (Some tt) None ≡ Some x → kinds.Mark other ≡ kinds.Mark m
        go true same is = ap kinds.Mark
            (sym (mark_of-head other) ∙ ap (λ bytes. mark_of (get_or bytes 0 0)) ((bytes_eq-Decides (sign other) (sign m)).0 same) ∙ mark_of-head m)
        go false same is = cc
    by (kinds.Reserved w) is = cc
    by (kinds.Ident name) is = cc
    by (kinds.Number value) is = cc

-- ---- statements

-- a word of a declaration
abbrev pub declares : Kind → Bool
declares (kinds.Reserved words.Input) = true
declares (kinds.Reserved words.InputOutput) = true
declares (kinds.Reserved words.Output) = true
declares (kinds.Reserved words.Relation) = true
declares _ = false

-- there is a first token, which is none
pub record Opens (tokens : List Token) : Type 0 where
  pub token : Token
  pub rest : List Token
  pub cut : tokens ≡ token ∷ rest
  pub apart : declares token.kind ≡ false

opens-word : {L : Unit {0} → List Token → Type 0} (w : Reserved) (tokens : List Token) → declares (kinds.Reserved w) ≡ false → Led (word w) L tokens →
    Opens tokens
opens-word w tokens none led =
    record { token = led.token; rest = led.rest; cut = led.cut; apart = ap declares (word-taken w led.token led.value led.passes) ∙ none }

opens-mark : {L : Unit {0} → List Token → Type 0} (m : Mark) (tokens : List Token) → Led (mark m) L tokens → Opens tokens
opens-mark m tokens led =
    record { token = led.token; rest = led.rest; cut = led.cut; apart = ap declares (mark-taken m led.token led.value led.passes) }

opens-one : (w : Reserved) (tokens : List Token) → declares (kinds.Reserved w) ≡ false → One (word w) tt tokens → Opens tokens
opens-one w tokens none one =
    record { token = one.token; rest = []; cut = one.only; apart = ap declares (word-taken w one.token tt one.passes) ∙ none }

opens-front : (front back tokens : List Token) → tokens ≡ front ++ back → Opens front → Opens tokens
opens-front front back tokens cut o = record { token = o.token; rest = o.rest ++ back; cut = cut ∙ ap (λ l. l ++ back) o.cut; apart = o.apart }

opens-repeat : {L : Unit {0} → List Token → Type 0} (tokens : List Token) → Then (Maybe (word words.Positive)) (Led (word words.Repeat) L) tokens → Opens tokens
opens-repeat tokens s = go s.first
  where
    go : Maybe (word words.Positive) s.front → Opens tokens
    go (inl none) =
        let led = opens-word words.Repeat s.back refl s.second in
        record { token = led.token; rest = led.rest; cut = s.cut ∙ ap (λ l. l ++ s.back) none ∙ led.cut; apart = led.apart }
    go (inr one) = opens-front s.front s.back tokens s.cut (opens-one words.Positive s.front refl one)

opens-item : (form : Form) (tokens : List Token) → SpellsItem form tokens → Opens tokens
opens-item Nothing tokens s = opens-one words.Nothing tokens refl s
opens-item Pause tokens s = opens-one words.Pause tokens refl s
opens-item Halt tokens s = opens-one words.Halt tokens refl s
opens-item (Emit n) tokens s = opens-word words.Emit tokens refl s
opens-item (Sustain n) tokens s = opens-word words.Sustain tokens refl s
opens-item (Exit n) tokens s = opens-word words.Exit tokens refl s
opens-item (Group p) tokens s = opens-mark marks.LeftBracket tokens s
opens-item (Await delay q) tokens s = opens-word words.Await tokens refl s
opens-item (AwaitCase cases) tokens s = opens-word words.Await tokens refl s
opens-item (Present e p q) tokens s = opens-word words.Present tokens refl s
opens-item (PresentCase cases q) tokens s = opens-word words.Present tokens refl s
opens-item (Loop p) tokens s = opens-word words.Loop tokens refl s
opens-item (LoopEach p delay) tokens s = opens-word words.Loop tokens refl s
opens-item (Every delay p) tokens s = opens-word words.Every tokens refl s
opens-item (Repeat count span p) tokens s = opens-repeat tokens s
opens-item (Abort p delay q) tokens s = opens-word words.Abort tokens refl s
opens-item (AbortCase p cases) tokens s = opens-word words.Abort tokens refl s
opens-item (WeakAbort p delay) tokens s = opens-word words.Weak tokens refl s
opens-item (Suspend p delay) tokens s = opens-word words.Suspend tokens refl s
opens-item (Trap n p handler) tokens s = opens-word words.Trap tokens refl s
opens-item (Signal names p) tokens s = opens-word words.Signal tokens refl s
opens-item (Run n renames) tokens s = opens-word words.Run tokens refl s
opens-item (Seq parts) tokens s = absurd s
opens-item (Par parts) tokens s = absurd s

mutual
  pub opens : (level : Level) (p : Stmt) (tokens : List Token) → Spells level p tokens → Opens tokens
  opens Item (At span form) tokens s = opens-item form tokens s.1
  opens Line (At span form) tokens (inl s) = opens-front s.front s.back tokens s.cut (opens-item form s.front s.first.1)
  opens Line (At span form) tokens (inr s) = opens-seq form tokens s.1
  opens Whole (At span form) tokens (inl (inl s)) = opens-front s.front s.back tokens s.cut (opens-item form s.front s.first.1)
  opens Whole (At span form) tokens (inl (inr s)) = opens-seq form tokens s.1
  opens Whole (At span form) tokens (inr s) = opens-par form tokens s.1

  opens-seq : (form : Form) (tokens : List Token) → SpellsSeq form tokens → Opens tokens
  opens-seq (Seq NoStmts) tokens s = absurd s
  opens-seq (Seq (MoreStmts p others)) tokens s = opens-front s.front s.back tokens s.cut (opens Item p s.front s.first)
  opens-seq _ tokens s = absurd s

  opens-par : (form : Form) (tokens : List Token) → SpellsPar form tokens → Opens tokens
  opens-par (Par NoStmts) tokens s = absurd s
  opens-par (Par (MoreStmts p others)) tokens s = opens-front s.front s.back tokens s.cut (opens Line p s.front s.first)
  opens-par _ tokens s = absurd s
