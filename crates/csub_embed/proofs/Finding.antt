-- Inner: the first signal that is a word of C or of C++.
use Rattle.std.proofs.Common.{◌≡◌, ℕ, Bool, true, false, ◌||◌, List, [], ◌∷◌, Option, Some, None, refl, sym, ap, ◌∙◌}
use Rattle.std.specs.Prelude.{cond, find, option_map}
use Rattle.std.specs.Borrow.{Bor}
use Rattle.std.specs.List.{list_any}
use Rattle.std.specs.Option.{option_or}
use Rattle.std.proofs.lemmas.List.Folds.{find-append}
use Rattle.std.proofs.lemmas.Option.{none-some}
use Rattle.net_ir.specs.Netlists.{Netlist, output_names}
use Rattle.csub_embed.specs.Faults.{signals}
use Rattle.csub_embed.specs.Names.{is_reserved}

-- the first one of the inputs, else of the outputs
pub found-input : (net : Netlist) (word : List ℕ) → Some word ≡ find is_reserved net.inputs → Some word ≡ find is_reserved (signals net)
found-input net word is =
    ap (λ o. option_or o (find is_reserved (output_names net))) is ∙ sym (find-append is_reserved net.inputs (output_names net))

pub found-output : (net : Netlist) (word : Option (List ℕ)) → None ≡ find is_reserved net.inputs → word ≡ find is_reserved (output_names net)
    → word ≡ find is_reserved (signals net)
found-output net word none is =
    is ∙ ap (λ o. option_or o (find is_reserved (output_names net))) none ∙ sym (find-append is_reserved net.inputs (output_names net))

-- where none is found, none passes
pub none-passes : {X : Type 0} (p : X → Bool) (xs : List X) → find p xs ≡ None → list_any p xs ≡ false
none-passes p [] none = refl
none-passes p (x ∷ xs) none = go (p x) refl (none-passes p xs)
  where
    go : (b : Bool) → p x ≡ b → (find p xs ≡ None → list_any p xs ≡ false) → list_any p (x ∷ xs) ≡ false
    go true is rest = absurd (none-some x (sym none ∙ ap (λ c. cond c (Some x) (find p xs)) is))
    go false is rest = ap (λ c. c || list_any p xs) is ∙ rest (ap (λ c. cond c (Some x) (find p xs)) (sym is) ∙ none)

pub none-told : (o : Option (Bor (List ℕ))) → o ≡ None → option_map (λ w. w.now) o ≡ None
none-told o is = ap (option_map (λ (w : Bor (List ℕ)). w.now)) is
