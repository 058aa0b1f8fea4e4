use Rattle.std.proofs.Common.{◌≡◌, ℕ, ◌<◌, ◌≤◌, true, false, List, [], cond, get_or, map, length, take, sym, ap, ◌∙◌, subst, arith, Bor, Some}
use Rattle.std.proofs.lemmas.Bool.{not-true, not-false}
use Rattle.std.proofs.lemmas.List.{get_or_default, drop_all, length-map}
use Rattle.std.specs.HashSet.{contains_by}
use Rattle.base_types.specs.Names.{is_same_name}
use Rattle.net_ir.specs.NameLists.{is_among, first_again}
use Rattle.net_ir.proofs.Exports.{members-next, once-next, again-here}
use Rattle.blif_net.proofs.Faults.{map-same}
use Rattle.blif_net.proofs.interface.check_once.Goals as goal

pub returns-then-not-branch-clause-fault : goal.returns-then-not-branch-clause-fault
returns-then-not-branch-clause-fault c =
    let words : List (List ℕ) = c.args.words.now in
    let i = c.loop-word.word-index in
    let low : i < length words = omega arith in
    let own : c.word-item.result ≡ get_or words i [] = c.word-item.is ∙ get_or_default words i c.word-item.result [] low in
    let among : is_among c.bytes.result.now (take i (map (λ (w : List ℕ). w) words)) ≡ true =
    sym (c.loop-word.invariant.members c.bytes.result.now) ∙ not-false _ (sym c.in_ok-insert.ensures.added ∙ c.if-not-branch.true) in
    ap (first_again []) (sym (map-same words)) ∙ c.loop-word.invariant.once
    ∙ again-here (λ (w : List ℕ). w) words i [] low
    (subst (λ (n : List ℕ). is_among n (take i (map (λ (w : List ℕ). w) words)) ≡ true) (c.bytes.ensures ∙ own) among)
    ∙ ap Some (sym (c.in_ok-copy.ensures ∙ c.bytes-then-not-branch.ensures ∙ own))

pub loop-word-preserved : goal.loop-word-preserved
loop-word-preserved c =
    let words : List (List ℕ) = c.args.words.now in
    let i = c.loop-word.word-index in
    let low : i < length words = omega arith in
    let at : c.bytes.result.now ≡ get_or words i [] = c.bytes.ensures ∙ c.word-item.is ∙ get_or_default words i c.word-item.result [] low in
    let other : is_among c.bytes.result.now (take i (map (λ (w : List ℕ). w) words)) ≡ false =
    sym (c.loop-word.invariant.members c.bytes.result.now) ∙ not-true _ (sym c.in_ok-insert.ensures.added ∙ c.if-not-branch.false) in
    record {
      once = c.loop-word.invariant.once
          ∙ once-next (λ (w : List ℕ). w) words i [] low
          (subst (λ (n : List ℕ). is_among n (take i (map (λ (w : List ℕ). w) words)) ≡ false) at other);
      members = λ name. members-next (λ (w : List ℕ). w) words i [] low name _ _ (c.loop-word.invariant.members name)
          (c.in_ok-insert.ensures.updates.0 (record { ref_ptr = (0, 0); now = name })
          ∙ ap (λ (n : List ℕ). cond (is_same_name n name) true (contains_by (λ (k : Bor (List ℕ)). is_same_name name k.now) c.loop-word.seen)) at);
    }

pub returns-clause-once : goal.returns-clause-once
returns-clause-once c =
    let words : List (List ℕ) = c.args.words.now in
    let i = c.loop-word.word-index in
    let high : length (map (λ (w : List ℕ). w) words) ≤ i = omega (arith, length-map words (λ (w : List ℕ). w), c.loop-word-test.false) in
    ap (first_again []) (sym (map-same words)) ∙ c.loop-word.invariant.once
    ∙ ap (first_again (take i (map (λ (w : List ℕ). w) words))) (drop_all i (map (λ (w : List ℕ). w) words) high)
