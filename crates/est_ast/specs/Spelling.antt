-- To believe: how the reserved words and the marks are written.
use Rattle.std.specs.Prelude.{ℕ, List, codes}
use Rattle.est_ast.specs.declared.tokens.Reserved.{Reserved}
use Rattle.est_ast.specs.declared.tokens.Reserved.TheVariants.{Abort, And, Await, Case, Do, Each, Else, Emit, End}
use Rattle.est_ast.specs.declared.tokens.Reserved.TheVariants.{Every, Exit, Halt, Handle, Immediate, In, Input}
use Rattle.est_ast.specs.declared.tokens.Reserved.TheVariants.{InputOutput, Loop, Module, Not, Nothing, Or, Output}
use Rattle.est_ast.specs.declared.tokens.Reserved.TheVariants.{Pause, Positive, Present, Relation, Repeat, Run, Signal}
use Rattle.est_ast.specs.declared.tokens.Reserved.TheVariants.{Suspend, Sustain, Then, Tick, Times, Trap, Weak, When}
use Rattle.est_ast.specs.declared.tokens.Mark.{Mark}
use Rattle.est_ast.specs.declared.tokens.Mark.TheVariants.{Semicolon, DoubleBar, LeftBracket, RightBracket}
use Rattle.est_ast.specs.declared.tokens.Mark.TheVariants.{LeftParenthesis, RightParenthesis, Comma, Slash, Colon, Hash}
use Rattle.est_ast.specs.declared.tokens.Mark.TheVariants.{Arrow, Period}

-- the bytes of a reserved word
abbrev pub spelling : Reserved → List ℕ
spelling Abort = codes "abort"
spelling And = codes "and"
spelling Await = codes "await"
spelling Case = codes "case"
spelling Do = codes "do"
spelling Each = codes "each"
spelling Else = codes "else"
spelling Emit = codes "emit"
spelling End = codes "end"
spelling Every = codes "every"
spelling Exit = codes "exit"
spelling Halt = codes "halt"
spelling Handle = codes "handle"
spelling Immediate = codes "immediate"
spelling In = codes "in"
spelling Input = codes "input"
spelling InputOutput = codes "inputoutput"
spelling Loop = codes "loop"
spelling Module = codes "module"
spelling Not = codes "not"
spelling Nothing = codes "nothing"
spelling Or = codes "or"
spelling Output = codes "output"
spelling Pause = codes "pause"
spelling Positive = codes "positive"
spelling Present = codes "present"
spelling Relation = codes "relation"
spelling Repeat = codes "repeat"
spelling Run = codes "run"
spelling Signal = codes "signal"
spelling Suspend = codes "suspend"
spelling Sustain = codes "sustain"
spelling Then = codes "then"
spelling Tick = codes "tick"
spelling Times = codes "times"
spelling Trap = codes "trap"
spelling Weak = codes "weak"
spelling When = codes "when"

-- the bytes of a mark
abbrev pub sign : Mark → List ℕ
sign Semicolon = codes ";"
sign DoubleBar = codes "||"
sign LeftBracket = codes "["
sign RightBracket = codes "]"
sign LeftParenthesis = codes "("
sign RightParenthesis = codes ")"
sign Comma = codes ","
sign Slash = codes "/"
sign Colon = codes ":"
sign Hash = codes "#"
sign Arrow = codes "=>"
sign Period = codes "."
