-- One answer per form that the check leaves: what is found of it, from what is found of its parts.
use Rattle.std.proofs.Common.{◌≡◌, length, refl, arith}
use Rattle.est_kernel.specs.Plain.{expression_of, term_of}
use Rattle.est_codes.proofs.Listings.{listed, listed_two}
use Rattle.est_codes.proofs.walk.+list_entries.Goals as goal

pub list_entries-returns : goal.list_entries-returns
list_entries-returns t c =
    let place : c.len-at.result ≡ length c.args.entries.now.items = omega arith in
    rw place (listed _ c.push.new.self.items c.list_parts.new.entries.items c.empty.result c.in_ok-found.found
    (term_of c.args.body.now) c.in_ok-push.ensures.items c.in_ok-found.ensures)

pub list_parts-returns-in_ok-no-in-Present : goal.list_parts-returns-in_ok-no-in-Present
list_parts-returns-in_ok-no-in-Present t c =
    let first = rw c.deref.ensures at c.in_ok-yes-in-Present.ensures in
    let second = rw c.deref-in-Present.ensures at c.in_ok-no-in-Present.ensures in
    rw c.in-Present.is (listed_two _ c.list_entries.new.entries.items c.list_entries-in-Present.new.entries.items
    c.in_ok-yes-in-Present.yes c.in_ok-no-in-Present.no c.of_two.result c.present.result
    (term_of c.in-Present.yes.value) (term_of c.in-Present.no.value) _
    first second refl c.of_two.ensures.entry
    (c.present.ensures (expression_of c.in-Present.field-0) (term_of c.in-Present.yes.value) (term_of c.in-Present.no.value) first.entry second.entry)
    (c.of_two.ensures.least _ _ first.least second.least))

pub list_parts-returns-in_ok-part-in-Suspend : goal.list_parts-returns-in_ok-part-in-Suspend
list_parts-returns-in_ok-part-in-Suspend t c =
    let part = rw c.deref-in-Suspend.ensures at c.in_ok-part-in-Suspend.ensures in
    rw (c.in-Suspend.is, c.of_one.ensures) (record {
      started = part.started;
      resumed = part.resumed;
      entry = c.suspended.ensures (expression_of c.in-Suspend.field-0) (term_of c.in-Suspend.part.value) part.entry;
      least = part.least;
    })

pub list_parts-returns-in_ok-second-in-Seq : goal.list_parts-returns-in_ok-second-in-Seq
list_parts-returns-in_ok-second-in-Seq t c =
    let first = rw c.deref-in-Seq.ensures at c.in_ok-first-in-Seq.ensures in
    let second = rw c.deref-in-Seq-2.ensures at c.in_ok-second-in-Seq.ensures in
    rw c.in-Seq.is (listed_two _ c.list_entries-in-Seq.new.entries.items c.list_entries-in-Seq-2.new.entries.items
    c.in_ok-first-in-Seq.first c.in_ok-second-in-Seq.second c.of_two-in-Seq.result c.then.result
    (term_of c.in-Seq.first.value) (term_of c.in-Seq.second.value) _
    first second refl c.of_two-in-Seq.ensures.entry
    (c.then.ensures (term_of c.in-Seq.first.value) (term_of c.in-Seq.second.value) first.entry second.entry)
    (c.of_two-in-Seq.ensures.least _ _ first.least second.least))

pub list_parts-returns-in_ok-right-in-Par : goal.list_parts-returns-in_ok-right-in-Par
list_parts-returns-in_ok-right-in-Par t c =
    let first = rw c.deref-in-Par.ensures at c.in_ok-left-in-Par.ensures in
    let second = rw c.deref-in-Par-2.ensures at c.in_ok-right-in-Par.ensures in
    rw c.in-Par.is (listed_two _ c.list_entries-in-Par.new.entries.items c.list_entries-in-Par-2.new.entries.items
    c.in_ok-left-in-Par.left c.in_ok-right-in-Par.right c.of_two-in-Par.result c.beside.result
    (term_of c.in-Par.left.value) (term_of c.in-Par.right.value) _
    first second refl c.of_two-in-Par.ensures.entry
    (c.beside.ensures (term_of c.in-Par.left.value) (term_of c.in-Par.right.value) first.entry second.entry)
    (c.of_two-in-Par.ensures.least _ _ first.least second.least))
