use Rattle.std.proofs.Common.{◌≡◌, ℕ, List, map, ap, ◌∙◌, Bor}
use Rattle.std.proofs.lemmas.Result.{IfOk-weaker}
use Rattle.vlog_text.specs.Names.{is_reg, names_of}
use Rattle.vlog_text.specs.Texts.{register_said}
use Rattle.vlog_text.specs.Views.{register_of}
use Rattle.vlog_read.specs.Registers.{register_by}
use Rattle.vlog_read.specs.Sources.{declaration_of, plain_source}
use Rattle.vlog_read.proofs.RegisterTables.{registers-said}
use Rattle.vlog_read.proofs.modules.registers_of.Goals as goal

pub returns : goal.returns
returns c =
    let s = plain_source c.args.source.now in
    let tables = c.in_ok-tables.tables in
    let names : map (λ (w : Bor (List ℕ)). w.now) c.deref-2.result.now ≡ names_of is_reg s.declarations =
    ap (map (λ (w : Bor (List ℕ)). w.now)) c.deref-2.ensures.value ∙ c.in_ok-names.ensures
    ∙ ap (λ l. names_of is_reg (map declaration_of l)) c.deref.ensures.value in
    IfOk-weaker c.registers_by.result
    (λ v. map register_of v.items ≡ map (register_by tables) (map (λ (w : Bor (List ℕ)). w.now) c.deref-2.result.now))
    (λ v. map register_of v.items ≡ map (register_said s) (names_of is_reg s.declarations))
    (λ v is. is ∙ ap (map (register_by tables)) names ∙ registers-said tables s (names_of is_reg s.declarations) c.in_ok-tables.ensures)
    c.registers_by.ensures
