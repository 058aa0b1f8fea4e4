-- Where each reserved word stands in the list of all.
use Rattle.std.proofs.Common.{◌≡◌, ℕ, ◌<◌, get_or, refl, arith}
use Rattle.est_ast.specs.declared.tokens.Reserved.{Reserved}
use Rattle.est_ast.specs.declared.tokens.Reserved.TheVariants.{Abort, And, Await, Case, Do, Each, Else, Emit, End, Every, Exit, Halt, Handle, Immediate, In}
use Rattle.est_ast.specs.declared.tokens.Reserved.TheVariants.{Input, InputOutput, Loop, Module, Not, Nothing, Or, Output, Pause, Positive, Present, Relation}
use Rattle.est_ast.specs.declared.tokens.Reserved.TheVariants.{Repeat, Run, Signal, Suspend, Sustain, Then, Tick, Times, Trap, Weak, When}
use Rattle.est_lex.specs.declared.words.TheConstants.{WORDS}

-- the word's place
abbrev pub place : Reserved → ℕ
place Abort = 0
place And = 1
place Await = 2
place Case = 3
place Do = 4
place Each = 5
place Else = 6
place Emit = 7
place End = 8
place Every = 9
place Exit = 10
place Halt = 11
place Handle = 12
place Immediate = 13
place In = 14
place Input = 15
place InputOutput = 16
place Loop = 17
place Module = 18
place Not = 19
place Nothing = 20
place Or = 21
place Output = 22
place Pause = 23
place Positive = 24
place Present = 25
place Relation = 26
place Repeat = 27
place Run = 28
place Signal = 29
place Suspend = 30
place Sustain = 31
place Then = 32
place Tick = 33
place Times = 34
place Trap = 35
place Weak = 36
place When = 37

pub word_at_place : (word : Reserved) → get_or WORDS (place word) Abort ≡ word
word_at_place Abort = refl
word_at_place _ = refl

pub place_within : (word : Reserved) → place word < 38
place_within Abort = omega arith
place_within _ = omega arith
