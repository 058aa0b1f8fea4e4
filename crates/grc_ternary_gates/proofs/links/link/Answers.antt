use Rattle.std.proofs.Common.{◌≡◌, ℕ, ◌+◌, ◌<◌, length, slice_index, arith, ap, sym, ◌∙◌, subst}
use Rattle.std.proofs.lemmas.List.{length_push}
use Rattle.std.specs.Prelude.{Some}
use Rattle.grc_ternary_gates.specs.Linking.{IsEarlier, IsLastReader, earlier_of}
use Rattle.grc_ternary_gates.specs.Systems.{gate_at, operand}
use Rattle.grc_ternary_gates.proofs.Linking.{last-more, earlier-more, length-last}
use Rattle.grc_ternary_gates.proofs.links.link.Goals as goal

pub loop-k-preserved : goal.loop-k-preserved
loop-k-preserved c =
    let inv = c.loop-k.invariant in
    let side = c.args.side in
    let all = c.args.gates.now in
    let k = c.loop-k.k in
    let o = c.operand.result in
    let last = c.loop-k.links.last.items in
    let earlier = c.loop-k.links.earlier.items in
    let done = c.in_ok-add_link.ensures in
    let e : k < length all = omega arith in
    let is : o ≡ operand side (gate_at all k) = c.operand.ensures in
    let nodes = inv.nodes in
    let fits : (a : ℕ) → o ≡ Some a → a < length last = λ a h. let f = c.requires.fit k a e (sym is ∙ h) in omega arith in
    let before : (node : ℕ) → node < length last → IsLastReader side all node k (slice_index last node) = λ node low. inv.into node (omega arith) in
    let places = inv.places in
    record {
      nodes = ap length done.last ∙ length-last last k o ∙ nodes;
      places = rw done.earlier (omega (arith, length_push earlier (earlier_of last o)));
      into = λ node low.
          let L : ℕ → Type 0 = λ x. IsLastReader side all node (k + 1) x in
          subst L (sym (ap (λ xs. slice_index xs node) done.last)) (last-more side all last k o is fits before node (omega arith));
      before = λ j low.
          let E : ℕ → Type 0 = λ x. IsEarlier side all j x in
          subst E (sym (ap (λ xs. slice_index xs j) done.earlier)) (earlier-more side all last earlier k o places is fits before inv.before j low);
    }
