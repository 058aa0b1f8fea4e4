-- The places of names among those that have a value.
use Rattle.std.proofs.Common.{◌≡◌, ℕ, ◌+◌, ◌<◌, true, List, [], length, map, get_or, refl, sym, ap, ◌∙◌, arith}
use Rattle.std.specs.Cmp.Lexicographic.{nat_list_eq_equiv}
use lib.Pointwise.{bytes_decides}
use Rattle.std.proofs.lemmas.List.{length-map, get_or-map, length-append, get_or_append_left, get_or-append-add}
use Rattle.std.proofs.lemmas.List.Sums.{position_or_len_is}
use Rattle.base_types.specs.Names.{is_same_name}
use Rattle.base_types.specs.Distinct.{all_differ}
use Rattle.net_ir.proofs.Exports.{differ-at}
use Rattle.run_steps.specs.Slots.{slot_in}
use Rattle.run_steps.specs.Equations.{NameEquation}
use Rattle.run_steps.specs.Steps.{driven}
use Rattle.run_steps.specs.Order.{no_equation}

-- each of different names is found at its own place
pub place-at : (xs : List (List ℕ)) → all_differ is_same_name xs ≡ true → (k : ℕ) → k < length xs → slot_in xs (get_or xs k []) ≡ k
place-at xs differ k h =
    position_or_len_is (is_same_name (get_or xs k [])) xs k [] (omega arith)
    (λ j low. nat_list_eq_equiv.symm (get_or xs k []) (get_or xs j []) ∙ differ-at xs differ j k low h)
    (λ low. (bytes_decides (get_or xs k []) (get_or xs k [])).1 refl)

module _ (given : List (List ℕ)) (equations : List NameEquation) where
  abbrev outs : List (List ℕ)
  outs = map (λ e. e.output) equations

  pub driven-count : length (driven given equations) ≡ length given + length equations
  driven-count = length-append given outs ∙ ap (λ n. length given + n) (length-map equations (λ e. e.output))

  pub given-name : (k : ℕ) → k < length given → get_or (driven given equations) k [] ≡ get_or given k []
  given-name k h = get_or_append_left given outs [] k h

  pub output-name : (k : ℕ) → k < length equations → get_or (driven given equations) (length given + k) [] ≡ (get_or equations k no_equation).output
  output-name k h = get_or-append-add given outs k [] ∙ get_or-map (λ e. e.output) equations k no_equation [] h

  pub given-slot : all_differ is_same_name (driven given equations) ≡ true → (k : ℕ) → k < length given
      → slot_in (driven given equations) (get_or given k []) ≡ k
  given-slot differ k h =
      ap (slot_in (driven given equations)) (sym (given-name k h))
      ∙ place-at (driven given equations) differ k (omega (arith, driven-count))

  pub output-slot : all_differ is_same_name (driven given equations) ≡ true → (k : ℕ) → k < length equations
      → slot_in (driven given equations) (get_or equations k no_equation).output ≡ length given + k
  output-slot differ k h =
      ap (slot_in (driven given equations)) (sym (output-name k h))
      ∙ place-at (driven given equations) differ (length given + k) (omega (arith, driven-count))
