use Rattle.std.proofs.Common.{◌≡◌, ℕ, List, [], ◌∷◌, ◌++◌, refl, subst}
use Rattle.std.specs.Prelude.{OnOk}
use Rattle.net_ir.specs.Runs.{netlist_of}
use Rattle.net_writer.proofs.Exports.{put-counted}
use Rattle.csub_embed.specs.Parts.{parts_in}
use Rattle.csub_embed.specs.Written.{member_line, prototype_text, state_word}
use Rattle.csub_embed.specs.declared.layout.EmbedLayout.{EmbedLayout}
use Rattle.csub_embed.specs.declared.parts.EmbedSection.TheVariants.{Prototypes, States}
use Rattle.csub_embed.proofs.parts.EmbedWriterNetText.put_in.Goals as goal

pub returns-in-States : goal.returns-in-States
returns-in-States g c =
    let net = netlist_of c.args.net.now in
    let layout = g.L.FixedLayout.layout in
    let put : EmbedLayout → Type 0 = λ l. OnOk c.put_state_member.result
    (c.put_state_member.new.text.items ≡ c.args.text.now.items ++ member_line l.packed (state_word c.args.k)) in
    put-counted (parts_in layout net) c.args.section States (λ j. member_line layout.packed (state_word j)) net.latches c.args.k _ _
    c.put_state_member.result c.in-States.is refl c.requires.within (subst put c.layout-layout.ensures c.put_state_member.ensures)

-- the only part of its section
pub returns-in-Prototypes : goal.returns-in-Prototypes
returns-in-Prototypes g c =
    let net = netlist_of c.args.net.now in
    let put : List ℕ → Type 0 = λ name. OnOk c.put_prototypes.result
    (c.put_prototypes.new.text.items ≡ c.args.text.now.items ++ prototype_text name) in
    let only : List ℕ = 0 ∷ [] in
    put-counted (parts_in g.L.FixedLayout.layout net) c.args.section Prototypes (λ j. prototype_text net.name) only c.args.k _ _
    c.put_prototypes.result c.in-Prototypes.is refl c.requires.within (subst put c.bytes-in-Prototypes.ensures c.put_prototypes.ensures)
