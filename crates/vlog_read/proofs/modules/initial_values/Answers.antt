use Rattle.std.proofs.Common.{◌≡◌, ◌+◌, ◌-◌, [], false, map, drop, get_or, sym, ◌∙◌, ap, arith}
use Rattle.std.specs.HashMap.{get_by}
use Rattle.std.proofs.lemmas.List.{get_or_default}
use Rattle.base_types.specs.Names.{is_same_name}
use Rattle.vlog_text.specs.Texts.{initial_value}
use Rattle.vlog_read.specs.Sources.{initial_of}
use Rattle.vlog_read.specs.declared.sources.Initial.{Initial}
use Rattle.vlog_read.proofs.RegisterTables.{initials-step}
use Rattle.vlog_read.proofs.modules.initial_values.Goals as goal

pub initials-preserved : goal.initials-preserved
initials-preserved c =
    let xs = c.args.initials.now in
    let i = c.initials.left - 1 in
    let none : Initial = record { name = record { ref_ptr = (0, 0); now = [] }; value = false } in
    let x = get_or xs i none in
    let next : i + 1 ≡ c.initials.left = omega arith in
    record {
      within = omega arith;
      values = λ n. initials-step xs i x n (get_by (λ k. is_same_name n k.now) c.initials.values)
          (get_by (λ k. is_same_name n k.now) c.insert.new.self) (omega arith) (get_or_default xs i none x (omega arith))
          (c.initials.invariant.values n ∙ ap (λ k. initial_value (map initial_of (drop k xs)) n) (sym next))
          (c.in_ok-insert.ensures.updates.0 (record { ref_ptr = (0, 0); now = n }));
    }
