use Rattle.std.proofs.Common.{ℕ, List, ap, sym, ◌∙◌, Some, Bor}
use Rattle.std.specs.Prelude.{if◌then◌else◌}
use Rattle.std.specs.HashMap.{get_by}
use Rattle.base_types.specs.Names.{is_same_name}
use Rattle.csub_guard_read.specs.Tables.{puts_told, noted, joined}
use Rattle.csub_guard_read.specs.Uses.{place_of, use_of}
use Rattle.csub_guard_read.proofs.PutPlaces.{puts-cond}
use Rattle.csub_guard_read.proofs.places.note.Goals as goal

pub returns-in_ok-insert : goal.returns-in_ok-insert
returns-in_ok-insert c = λ n.
    let name = c.in-Put.name.now in
    let old = get_by (λ (k : Bor (List ℕ)). is_same_name n k.now) c.args.puts.now in
    ap puts_told (c.in_ok-insert.ensures.updates.0 (record { ref_ptr = (0, 0); now = n }))
    ∙ puts-cond (is_same_name name n) c.joined-now.result old
    ∙ ap (λ q. if is_same_name name n then Some q else puts_told old)
    (c.joined-now.ensures ∙ ap (λ o. joined (puts_told o) (place_of c.in-Put.at)) (c.copied.ensures ∙ c.get.ensures.value))
    ∙ ap (λ u. noted (λ m. puts_told (get_by (λ (k : Bor (List ℕ)). is_same_name m k.now) c.args.puts.now)) (use_of u) n) (sym c.in-Put.is)
