use Rattle.std.proofs.Common.{◌≡◌, ◌+◌, ◌-◌, [], map, drop, get_or, sym, ◌∙◌, ap, arith}
use Rattle.std.specs.HashMap.{get_by}
use Rattle.std.proofs.lemmas.List.{get_or_default}
use Rattle.base_types.specs.Names.{is_same_name}
use Rattle.vlog_text.specs.Texts.{next_source}
use Rattle.vlog_read.specs.Sources.{next_of}
use Rattle.vlog_read.specs.declared.sources.Next.{Next}
use Rattle.vlog_read.proofs.RegisterTables.{nexts-step}
use Rattle.vlog_read.proofs.modules.next_sources.Goals as goal

pub nexts-preserved : goal.nexts-preserved
nexts-preserved c =
    let xs = c.args.nexts.now in
    let i = c.nexts.left - 1 in
    let none : Next = record { target = record { ref_ptr = (0, 0); now = [] }; source = record { ref_ptr = (0, 0); now = [] } } in
    let x = get_or xs i none in
    let next : i + 1 ≡ c.nexts.left = omega arith in
    record {
      within = omega arith;
      sources = λ n. nexts-step xs i x n (get_by (λ k. is_same_name n k.now) c.nexts.sources)
          (get_by (λ k. is_same_name n k.now) c.insert.new.self) (omega arith) (get_or_default xs i none x (omega arith))
          (c.nexts.invariant.sources n ∙ ap (λ k. next_source (map next_of (drop k xs)) n) (sym next))
          (c.in_ok-insert.ensures.updates.0 (record { ref_ptr = (0, 0); now = n }));
    }
