use Rattle.std.proofs.Common.{map, sym, ap, subst, ◌∙◌, IsTrue}
use Rattle.std.specs.List.{list_any}
use Rattle.base_types.specs.declared.interface.SignalInfo.{SignalInfo}
use Rattle.base_types.specs.Names.{is_name, is_same_name}
use Rattle.est_cover.proofs.FreshNames.{new-more, numbered-name}
use Rattle.est_cover.proofs.names.push_new.Goals as goal

pub returns-clause-new : goal.returns-clause-new
returns-clause-new c = λ before.
    let given = map (λ (s : SignalInfo). s.name) c.args.given.now in
    let made = c.args.made.now.items in
    let name = c.in_ok-name.name in
    new-more (λ (s : SignalInfo). s.name) given made c.push.new.self.items _ c.in_ok-push.ensures.items
    (subst (λ n. IsTrue (is_name n)) (sym c.in_ok-name.ensures) (numbered-name c.args.number c.ranges.number.fits))
    (ap (λ n. list_any (is_same_name n) given) (sym c.bytes.ensures) ∙ sym c.is_among.ensures ∙ c.if-is_among.false)
    (ap (λ n. list_any (is_same_name n) (map (λ (s : SignalInfo). s.name) made)) (sym c.bytes-else-is_among.ensures)
    ∙ ap (λ l. list_any (is_same_name c.bytes-else-is_among.result.now) (map (λ (s : SignalInfo). s.name) l)) (sym c.deref.ensures.value)
    ∙ sym c.is_among-else-is_among.ensures ∙ c.if-is_among-2.false) before
