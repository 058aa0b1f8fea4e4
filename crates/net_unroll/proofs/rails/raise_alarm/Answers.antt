use Rattle.net_unroll.proofs.RailSteps.{alarm-raised}
use Rattle.net_unroll.proofs.rails.raise_alarm.Goals as goal

pub returns-clause-made : goal.returns-clause-made
returns-clause-made c =
    alarm-raised c.args.gates.now c.unroll_twice.new.gates c.watch.new.gates c.push.new.self c.args.system.now c.args.sources.now c.in_ok-rails.rails
    c.args.schedule.now c.args.watched.now c.in_ok-whole.whole c.in_ok-alarm.alarm c.in_ok-rails.ensures.made c.requires.watched c.in_ok-whole.ensures.made
    c.in_ok-alarm.ensures.pushed c.in_ok-alarm.ensures.number c.in_ok-alarm.ensures.room
