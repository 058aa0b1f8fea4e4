-- The main module of a program whose names are declared as they may be.
use Rattle.std.proofs.Common.{◌≡◌, ℕ, ◌<◌, List, [], ◌∷◌, zero, suc, length, Option, Some, refl, ap, ◌∙◌, subst, arith}
use Rattle.std.specs.Prelude.{slice_get, option_and_then}
use Rattle.std.proofs.lemmas.List.{length-map}
use Rattle.est_ast.specs.Trees.{SourceProgram, Module}
use Rattle.est_names.specs.NameFaults.{main_place, module_names}
use Rattle.est_names.proofs.Exports.{main_place-within}
use Rattle.est_front.specs.Sources.{main_module}

get_there : (program : SourceProgram) (place : ℕ) → place < length program → (m : Module) × slice_get program place ≡ Some m
get_there [] place within = absurd (omega arith)
get_there (m ∷ program) zero within = (m, refl)
get_there (m ∷ program) (suc place) within = get_there program place (omega arith)

-- the module at the main place is there, and is the main one
pub main_there : (main : Option (List ℕ)) (program : SourceProgram) (place : ℕ) → main_place main (module_names program) ≡ Some place
    → (m : Module) × (slice_get program place ≡ Some m) × (main_module main program ≡ Some m)
main_there main program place is =
    let within : place < length program = subst (λ n. place < n) (length-map program (λ m. m.name.text))
    (main_place-within main (module_names program) place is) in
    let found = get_there program place within in
    (found.0, found.1, ap (option_and_then (λ k. slice_get program k)) is ∙ found.1)
