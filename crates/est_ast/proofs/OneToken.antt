-- The bytes of a part make one token, or none.
use Rattle.std.proofs.Common.{◌≡◌, ℕ, ◌<◌, ◌^◌, List, Option, Some, None, refl, sym, ◌∙◌, ap, subst, cond, eqb, get_or}
use Rattle.std.specs.Prelude.{codes}
use Rattle.std.specs.Str.{bytes_eq}
use Rattle.est_ast.specs.declared.tokens.Kind.{Kind}
use Rattle.est_ast.specs.declared.tokens.Kind.TheVariants.{Reserved, Mark, Ident, Number}
use Rattle.est_ast.specs.declared.tokens.Reserved.{Reserved as ReservedWord}
use Rattle.est_ast.specs.declared.tokens.Mark.{Mark as MarkSign}
use Rattle.est_ast.specs.declared.tokens.Reserved.TheVariants.{Abort, And, Await, Case, Do, Each, Else, Emit, End, Every, Exit, Halt, Handle, Immediate, In}
use Rattle.est_ast.specs.declared.tokens.Reserved.TheVariants.{Input, InputOutput, Loop, Module, Not, Nothing, Or, Output, Pause, Positive, Present, Relation}
use Rattle.est_ast.specs.declared.tokens.Reserved.TheVariants.{Repeat, Run, Signal, Suspend, Sustain, Then, Tick, Times, Trap, Weak, When}
use Rattle.est_ast.specs.declared.tokens.Mark.TheVariants.{Semicolon, DoubleBar, LeftBracket, RightBracket, LeftParenthesis, RightParenthesis, Comma, Slash}
use Rattle.est_ast.specs.declared.tokens.Mark.TheVariants.{Colon, Hash, Arrow, Period}
use Rattle.est_ast.specs.Spelling.{spelling, sign}
use Rattle.est_ast.specs.Lexemes.{LexicalPart, Space, LineComment, BlockComment, Word, Numeral, Sign}
use Rattle.est_ast.specs.Lexing.{Makes, number_of}

-- the word that is written so; of bytes that are no reserved word it says nothing
abbrev pub read_word : List ℕ → ReservedWord
read_word bytes =
    cond (bytes_eq bytes (codes "abort")) Abort (
    cond (bytes_eq bytes (codes "and")) And (
    cond (bytes_eq bytes (codes "await")) Await (
    cond (bytes_eq bytes (codes "case")) Case (
    cond (bytes_eq bytes (codes "do")) Do (
    cond (bytes_eq bytes (codes "each")) Each (
    cond (bytes_eq bytes (codes "else")) Else (
    cond (bytes_eq bytes (codes "emit")) Emit (
    cond (bytes_eq bytes (codes "end")) End (
    cond (bytes_eq bytes (codes "every")) Every (
    cond (bytes_eq bytes (codes "exit")) Exit (
    cond (bytes_eq bytes (codes "halt")) Halt (
    cond (bytes_eq bytes (codes "handle")) Handle (
    cond (bytes_eq bytes (codes "immediate")) Immediate (
    cond (bytes_eq bytes (codes "in")) In (
    cond (bytes_eq bytes (codes "input")) Input (
    cond (bytes_eq bytes (codes "inputoutput")) InputOutput (
    cond (bytes_eq bytes (codes "loop")) Loop (
    cond (bytes_eq bytes (codes "module")) Module (
    cond (bytes_eq bytes (codes "not")) Not (
    cond (bytes_eq bytes (codes "nothing")) Nothing (
    cond (bytes_eq bytes (codes "or")) Or (
    cond (bytes_eq bytes (codes "output")) Output (
    cond (bytes_eq bytes (codes "pause")) Pause (
    cond (bytes_eq bytes (codes "positive")) Positive (
    cond (bytes_eq bytes (codes "present")) Present (
    cond (bytes_eq bytes (codes "relation")) Relation (
    cond (bytes_eq bytes (codes "repeat")) Repeat (
    cond (bytes_eq bytes (codes "run")) Run (
    cond (bytes_eq bytes (codes "signal")) Signal (
    cond (bytes_eq bytes (codes "suspend")) Suspend (
    cond (bytes_eq bytes (codes "sustain")) Sustain (
    cond (bytes_eq bytes (codes "then")) Then (
    cond (bytes_eq bytes (codes "tick")) Tick (
    cond (bytes_eq bytes (codes "times")) Times (
    cond (bytes_eq bytes (codes "trap")) Trap (
    cond (bytes_eq bytes (codes "weak")) Weak (
    When)))))))))))))))))))))))))))))))))))))

pub read-spelling : (word : ReservedWord) → read_word (spelling word) ≡ word
read-spelling Abort = refl
read-spelling _ = refl

-- the mark that begins with this byte; of a byte that begins none it says nothing
abbrev pub mark_of : ℕ → MarkSign
mark_of byte =
    cond (eqb byte 59) Semicolon (
    cond (eqb byte 124) DoubleBar (
    cond (eqb byte 91) LeftBracket (
    cond (eqb byte 93) RightBracket (
    cond (eqb byte 40) LeftParenthesis (
    cond (eqb byte 41) RightParenthesis (
    cond (eqb byte 44) Comma (
    cond (eqb byte 47) Slash (
    cond (eqb byte 58) Colon (
    cond (eqb byte 35) Hash (
    cond (eqb byte 61) Arrow (
    Period)))))))))))

pub mark_of-head : (mark : MarkSign) → mark_of (get_or (sign mark) 0 0) ≡ mark
mark_of-head Semicolon = refl
mark_of-head _ = refl

-- reserved words are written apart
pub one_word : (word other : ReservedWord) → spelling word ≡ spelling other → word ≡ other
one_word word other same = sym (read-spelling word) ∙ ap read_word same ∙ read-spelling other

-- marks are written apart
pub one_mark : (mark other : MarkSign) → sign mark ≡ sign other → mark ≡ other
one_mark mark other same =
    sym (mark_of-head mark) ∙ ap (λ bytes. mark_of (get_or bytes 0 0)) same ∙ mark_of-head other

-- the bytes of a word are one token
word_makes_one : (bytes : List ℕ) (token other : Option Kind) → Makes Word bytes token → Makes Word bytes other → token ≡ other
word_makes_one bytes (Some (Reserved word)) (Some (Reserved other)) a b = ap (λ (w : ReservedWord). Some (Reserved w)) (one_word word other (sym a ∙ b))
word_makes_one bytes (Some (Reserved word)) (Some (Ident name)) a b = absurd (b.1 word a)
word_makes_one bytes (Some (Ident name)) (Some (Reserved other)) a b = absurd (a.1 other b)
word_makes_one bytes (Some (Ident name)) (Some (Ident other)) a b = ap (λ (n : List ℕ). Some (Ident n)) (a.0 ∙ sym b.0)
word_makes_one bytes None other a b = absurd a
word_makes_one bytes (Some (Number value)) other a b = absurd a
word_makes_one bytes (Some (Mark mark)) other a b = absurd a
word_makes_one bytes (Some (Reserved word)) None a b = absurd b
word_makes_one bytes (Some (Reserved word)) (Some (Number value)) a b = absurd b
word_makes_one bytes (Some (Reserved word)) (Some (Mark mark)) a b = absurd b
word_makes_one bytes (Some (Ident name)) None a b = absurd b
word_makes_one bytes (Some (Ident name)) (Some (Number value)) a b = absurd b
word_makes_one bytes (Some (Ident name)) (Some (Mark mark)) a b = absurd b

-- a numeral is its number
numeral_makes : (bytes : List ℕ) (token : Option Kind) → Makes Numeral bytes token → token ≡ Some (Number (number_of bytes))
numeral_makes bytes (Some (Number value)) makes = ap (λ (n : ℕ). Some (Number n)) makes.0
numeral_makes bytes None makes = absurd makes
numeral_makes bytes (Some (Reserved word)) makes = absurd makes
numeral_makes bytes (Some (Ident name)) makes = absurd makes
numeral_makes bytes (Some (Mark mark)) makes = absurd makes

-- a numeral that is a token is no great number
pub numeral_fits : (bytes : List ℕ) (token : Option Kind) → Makes Numeral bytes token → number_of bytes < 2 ^ 128
numeral_fits bytes (Some (Number value)) makes = subst (λ (n : ℕ). n < 2 ^ 128) makes.0 makes.1
numeral_fits bytes None makes = absurd makes
numeral_fits bytes (Some (Reserved word)) makes = absurd makes
numeral_fits bytes (Some (Ident name)) makes = absurd makes
numeral_fits bytes (Some (Mark mark)) makes = absurd makes

-- the bytes of a mark are that mark
sign_makes : (bytes : List ℕ) (token : Option Kind) → Makes Sign bytes token → token ≡ Some (Mark (mark_of (get_or bytes 0 0)))
sign_makes bytes (Some (Mark mark)) makes =
    ap (λ (m : MarkSign). Some (Mark m)) (sym (ap (λ (b : List ℕ). mark_of (get_or b 0 0)) makes ∙ mark_of-head mark))
sign_makes bytes None makes = absurd makes
sign_makes bytes (Some (Reserved word)) makes = absurd makes
sign_makes bytes (Some (Ident name)) makes = absurd makes
sign_makes bytes (Some (Number value)) makes = absurd makes

space_makes : (bytes : List ℕ) (token : Option Kind) → Makes Space bytes token → token ≡ None
space_makes bytes None makes = refl
space_makes bytes (Some kind) makes = absurd makes

line_makes : (bytes : List ℕ) (token : Option Kind) → Makes LineComment bytes token → token ≡ None
line_makes bytes None makes = refl
line_makes bytes (Some kind) makes = absurd makes

block_makes : (bytes : List ℕ) (token : Option Kind) → Makes BlockComment bytes token → token ≡ None
block_makes bytes None makes = refl
block_makes bytes (Some kind) makes = absurd makes

-- the bytes of a part are one token, or none
pub one_token : (part : LexicalPart) (bytes : List ℕ) (token other : Option Kind) → Makes part bytes token → Makes part bytes other → token ≡ other
one_token Space bytes token other a b = space_makes bytes token a ∙ sym (space_makes bytes other b)
one_token LineComment bytes token other a b = line_makes bytes token a ∙ sym (line_makes bytes other b)
one_token BlockComment bytes token other a b = block_makes bytes token a ∙ sym (block_makes bytes other b)
one_token Word bytes token other a b = word_makes_one bytes token other a b
one_token Numeral bytes token other a b = numeral_makes bytes token a ∙ sym (numeral_makes bytes other b)
one_token Sign bytes token other a b = sign_makes bytes token a ∙ sym (sign_makes bytes other b)
