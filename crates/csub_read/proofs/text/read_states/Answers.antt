use Rattle.std.proofs.Common.{◌∙◌, map}
use Rattle.std.proofs.lemmas.List.{map-append}
use Rattle.csub_text.specs.Tokens.{Static}
use Rattle.csub_text.specs.Grammar.{is}
use Rattle.csub_text.specs.Views.{state_of}
use Rattle.base_reader.proofs.Exports.{loop-started, loop-grown}
use Rattle.csub_read.specs.Reading.{state_behind, state_step}
use Rattle.csub_read.specs.Tokens.{kind_in}
use Rattle.net_expressions.proofs.Exports.{shorter, maybe-on}
use Rattle.csub_read.proofs.TextLaws.{state-advances}
use Rattle.csub_read.proofs.text.read_states.Goals as goal

pub states-init : goal.states-init
states-init c = rw (c.nothing_read-states.ensures.left, c.nothing_read-states.ensures.read) (loop-started state_step (map kind_in c.args.tokens.now))

pub states-smaller : goal.states-smaller
states-smaller c =
    shorter kind_in c.in_ok-state.behind.now c.states.rest.now
    (state-advances (map kind_in c.states.rest.now) (state_of c.in_ok-state.state) (map kind_in c.in_ok-state.behind.now)
    (maybe-on (is Static) (λ _. state_behind) (map kind_in c.states.rest.now) tt (map kind_in c.in-Some.behind.now) (state_of c.in_ok-state.state)
    (map kind_in c.in_ok-state.behind.now) c.in-Some.ensures c.in_ok-state.ensures))

pub states-preserved : goal.states-preserved
states-preserved c =
    rw (c.in_ok-push.ensures.items, map-append)
    (loop-grown state_step state-advances (λ all. all) (map state_of c.states.states.items) (map kind_in c.states.rest.now) (state_of c.in_ok-state.state)
    (map kind_in c.in_ok-state.behind.now)
    (maybe-on (is Static) (λ _. state_behind) (map kind_in c.states.rest.now) tt (map kind_in c.in-Some.behind.now) (state_of c.in_ok-state.state)
    (map kind_in c.in_ok-state.behind.now) c.in-Some.ensures c.in_ok-state.ensures)
    ∙ c.states.invariant)
