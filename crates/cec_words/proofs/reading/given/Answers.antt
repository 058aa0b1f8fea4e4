use Rattle.std.proofs.Common.{◌≡◌, ◌+◌, ◌<◌, ◌∙◌, [], length, map, get_or, sym, ap, arith}
use Rattle.std.specs.Prelude.{option_and_then, option_map}
use Rattle.std.specs.String.{string_bytes}
use Rattle.std.proofs.lemmas.List.{get_or-map, length-map}
use Rattle.cec_words.specs.Readings.{asked_once}
use Rattle.cec_words.specs.Slots.{slots}
use Rattle.cec_words.specs.Views.{plain_command, plain_setting, plain_step}
use Rattle.cec_words.proofs.Gathering.{next-none, next-no_meaning, next-takes}
use Rattle.cec_words.proofs.reading.given.Goals as goal

pub returns-in_err-step : goal.returns-in_err-step
returns-in_err-step c =
    let words = map string_bytes c.args.words.now in
    let k = c.loop-k.k in
    let word = c.as_bytes.result.now in
    let low : k < length words = omega (arith, length-map c.args.words.now string_bytes) in
    let is : word ≡ get_or words k [] = c.as_bytes.ensures.value ∙ ap string_bytes c.index-words-k.is
    ∙ sym (get_or-map string_bytes c.args.words.now k _ [] (omega arith)) in
    c.loop-k.invariant ∙ next-none (plain_command c.args.command) c.loop-k.reader.given
    (option_map plain_setting c.loop-k.reader.waiting) (k + 1) words k word low is
    (sym c.step_of.ensures ∙ ap (option_map plain_step) c.in_err-step.was)
    ∙ ap (option_and_then (λ g. asked_once (plain_command c.args.command) (slots g))) (sym c.from_residual.ensures)

pub returns-in_err-reader : goal.returns-in_err-reader
returns-in_err-reader c =
    let words = map string_bytes c.args.words.now in
    let k = c.loop-k.k in
    let word = c.as_bytes.result.now in
    let low : k < length words = omega (arith, length-map c.args.words.now string_bytes) in
    let is : word ≡ get_or words k [] = c.as_bytes.ensures.value ∙ ap string_bytes c.index-words-k.is
    ∙ sym (get_or-map string_bytes c.args.words.now k _ [] (omega arith)) in
    c.loop-k.invariant ∙ next-no_meaning (plain_command c.args.command) c.loop-k.reader.given
    (option_map plain_setting c.loop-k.reader.waiting) (k + 1) words k word low is c.in_ok-step.step
    (sym c.step_of.ensures ∙ ap (option_map plain_step) c.in_ok-step.was) c.in_err-reader.ensures
    ∙ ap (option_and_then (λ g. asked_once (plain_command c.args.command) (slots g))) (sym c.from_residual-in_err-reader.ensures)

pub loop-k-preserved : goal.loop-k-preserved
loop-k-preserved c =
    let words = map string_bytes c.args.words.now in
    let k = c.loop-k.k in
    let word = c.as_bytes.result.now in
    let low : k < length words = omega (arith, length-map c.args.words.now string_bytes) in
    let is : word ≡ get_or words k [] = c.as_bytes.ensures.value ∙ ap string_bytes c.index-words-k.is
    ∙ sym (get_or-map string_bytes c.args.words.now k _ [] (omega arith)) in
    c.loop-k.invariant ∙ next-takes (plain_command c.args.command) c.loop-k.reader.given (option_map plain_setting c.loop-k.reader.waiting)
    (k + 1) words k word low is c.in_ok-step.step c.in_ok-reader.reader.given c.in_ok-reader.reader.waiting
    (sym c.step_of.ensures ∙ ap (option_map plain_step) c.in_ok-step.was) c.in_ok-reader.ensures
