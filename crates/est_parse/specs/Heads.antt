-- Inner: the plain form of a head.
use Rattle.est_ast.specs.Views.{delay_of}
use Rattle.est_parse.specs.declared.heads.Head.{Head as CodeHead}
use Rattle.est_parse.specs.declared.heads.Head.TheVariants as heads
use Rattle.est_parse.specs.Parts.{Head, GroupHead, LoopHead, EveryHead, RepeatHead, AbortHead, WeakHead, SuspendHead}
use Rattle.est_parse.specs.Parts.{TrapHead, SignalHead}

abbrev pub head_of : CodeHead → Head
head_of heads.Group = GroupHead
head_of heads.Loop = LoopHead
head_of (heads.Every delay) = EveryHead (delay_of delay)
head_of (heads.Repeat count span) = RepeatHead count span
head_of heads.Abort = AbortHead
head_of heads.Weak = WeakHead
head_of heads.Suspend = SuspendHead
head_of (heads.Trap name) = TrapHead name
head_of (heads.Signal names) = SignalHead names.items
