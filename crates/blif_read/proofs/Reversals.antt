-- Lists from the last element to the first, and drafts.
use Rattle.std.proofs.Common.{◌≡◌, List, [], ◌∷◌, ◌++◌, map, refl, sym, ap, ◌∙◌}
use Rattle.std.specs.Prelude.{reverse, flat_map}
use Rattle.std.proofs.lemmas.List.{map-append, reverse-append}
use Rattle.blif_text.specs.Statements.{Statement, Model, Inputs, Outputs, Latch, Names, Row, End}
use Rattle.blif_text.specs.Circuits.{model_name, inputs_in, outputs_in, latches_in, leading_rows, tables_of, circuit_of}
use Rattle.blif_read.specs.Drafts.{Parts, no_parts, in_front, behind, parts_circuit}

pub map-reverse : {X Y : Type 0} (f : X → Y) (xs : List X) → map f (reverse xs) ≡ reverse (map f xs)
map-reverse f [] = refl
map-reverse f (x ∷ xs) =
    ap (map f) (reverse-append (x ∷ []) xs) ∙ map-append f (reverse xs) (x ∷ []) ∙ ap (λ l. l ++ f x ∷ []) (map-reverse f xs)
    ∙ sym (reverse-append (f x ∷ []) (map f xs))

-- one more at the end is one more in front
pub reverse-map-push : {X Y : Type 0} (f : X → Y) (xs : List X) (x : X) → reverse (map f (xs ++ x ∷ [])) ≡ f x ∷ reverse (map f xs)
reverse-map-push f xs x = ap reverse (map-append f xs (x ∷ [])) ∙ reverse-append (map f xs) (f x ∷ [])

-- one more statement, behind those
pub behind-push : (ss : List Statement) (s : Statement) (p : Parts) → behind (ss ++ s ∷ []) p ≡ behind ss (in_front s p)
behind-push [] s p = refl
behind-push (t ∷ ss) s p = ap (in_front t) (behind-push ss s p)

-- what statements describe
abbrev parts_of : List Statement → Parts
parts_of ss = record {
  name = model_name ss;
  inputs = flat_map inputs_in ss;
  outputs = flat_map outputs_in ss;
  latches = flat_map latches_in ss;
  tables = tables_of ss;
  rows = leading_rows ss;
}

parts-behind : (ss : List Statement) → behind ss no_parts ≡ parts_of ss
parts-behind [] = refl
parts-behind (Model name ∷ ss) = rw (parts-behind ss) refl
parts-behind (Inputs names ∷ ss) = rw (parts-behind ss) refl
parts-behind (Outputs names ∷ ss) = rw (parts-behind ss) refl
parts-behind (Latch source target init ∷ ss) = rw (parts-behind ss) refl
parts-behind (Names inputs output ∷ ss) = rw (parts-behind ss) refl
parts-behind (Row cells ∷ ss) = rw (parts-behind ss) refl
parts-behind (End ∷ ss) = rw (parts-behind ss) refl

pub parts_circuit-behind : (ss : List Statement) → parts_circuit (behind ss no_parts) ≡ circuit_of ss
parts_circuit-behind ss = ap parts_circuit (parts-behind ss)
