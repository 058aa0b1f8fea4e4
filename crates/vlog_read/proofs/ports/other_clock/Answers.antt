use Rattle.std.proofs.Common.{◌∙◌, ◌≡◌, Bool, true, false, sym, ap, map, Some, None}
use Rattle.std.specs.Prelude.{if◌then◌else◌}
use Rattle.vlog_read.specs.NameTests.{first_of, is_told}
use Rattle.vlog_read.specs.Sources.{declaration_of, plain_source}
use Rattle.vlog_read.proofs.NameLaws.{other_clock-is}
use Rattle.vlog_read.proofs.ports.other_clock.Goals as goal

pub returns-then-is_name_of : goal.returns-then-is_name_of
returns-then-is_name_of c =
    let s = plain_source c.args.source.now in
    let first = c.first_input.ensures ∙ ap (λ l. first_of (map declaration_of l)) c.deref.ensures.value in
    let test : is_told (first_of s.declarations) s.clock ≡ true = sym (ap (λ o. is_told o s.clock) first) ∙ sym c.is_name_of.ensures ∙ c.if-is_name_of.true in
    ap (λ (b : Bool). if b then None else Some s.clock) (sym test) ∙ other_clock-is s

pub returns-else-is_name_of : goal.returns-else-is_name_of
returns-else-is_name_of c =
    let s = plain_source c.args.source.now in
    let first = c.first_input.ensures ∙ ap (λ l. first_of (map declaration_of l)) c.deref.ensures.value in
    let test : is_told (first_of s.declarations) s.clock ≡ false = sym (ap (λ o. is_told o s.clock) first) ∙ sym c.is_name_of.ensures ∙ c.if-is_name_of.false in
    ap (λ (b : Bool). if b then None else Some s.clock) (sym test) ∙ other_clock-is s
