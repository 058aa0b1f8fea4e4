use Rattle.std.proofs.Common.{◌≡◌, ◌+◌, ◌/◌, ◌%◌, ◌<◌, ◌≤◌, [], ◌++◌, length, get_or, sym, ap, ◌∙◌, arith}
use Rattle.net_ir.specs.Runs.{netlist_of}
use Rattle.vlog_reset.specs.Parts.{all_parts}
use Rattle.vlog_reset.specs.Views.{options_of}
use Rattle.vlog_reset.specs.declared.pieces.TheConstants.{PLACES}
use Rattle.vlog_reset.proofs.Places.{part-at, part-put, section-ended, section-later}
use Rattle.vlog_reset.proofs.pieces.ResetWriterPlaces.put_place.Goals as goal

pub returns-in_ok-put_in : goal.returns-in_ok-put_in
returns-in_ok-put_in c =
    let sections = all_parts (options_of c.args.self.now.options) (netlist_of c.args.self.now.net.now) in
    let place = c.args.place in
    let text = c.args.text.now.items in
    let at = part-at (options_of c.args.self.now.options) (netlist_of c.args.self.now.net.now) (place / PLACES) _ c.if-number-ge14.false in
    let count : c.part_count.result ≡ length (get_or sections (place / PLACES) []) = c.part_count.ensures ∙ ap length (sym at) in
    let low : place % PLACES < length (get_or sections (place / PLACES) []) = omega (arith, count, c.if-k-part_count.true) in
    let room : place % PLACES + 1 < PLACES = omega (arith, c.if-k-part_count.true, c.part_count.type_inv) in (
      omega arith,
      part-put PLACES sections place text c.put_in.new.text.items (omega arith) room low
          (c.in_ok-put_in.ensures ∙ ap (λ p. text ++ get_or p (place % PLACES) []) (sym at)),
    )

pub returns-else-k-part_count : goal.returns-else-k-part_count
returns-else-k-part_count c =
    let sections = all_parts (options_of c.args.self.now.options) (netlist_of c.args.self.now.net.now) in
    let place = c.args.place in
    let at = part-at (options_of c.args.self.now.options) (netlist_of c.args.self.now.net.now) (place / PLACES) _ c.if-number-ge14.false in
    let count : c.part_count.result ≡ length (get_or sections (place / PLACES) []) = c.part_count.ensures ∙ ap length (sym at) in
    let high : length (get_or sections (place / PLACES) []) ≤ place % PLACES = omega (arith, count, c.if-k-part_count.false) in
    (section-later PLACES place (omega arith), section-ended PLACES sections place c.args.text.now.items (omega arith) high)
