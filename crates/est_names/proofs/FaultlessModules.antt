-- Where a program's names have no fault, those of each of its modules have none.
use Rattle.std.proofs.Common.{◌≡◌, ℕ, zero, suc, ◌<◌, List, [], ◌∷◌, ◌++◌, map, length, get_or, refl, Option, arith}
use Rattle.std.specs.Prelude.{flat_map}
use Rattle.est_ast.specs.Trees.{Module, SourceProgram}
use Rattle.est_names.specs.declared.refusal.NameFault.{NameFault}
use Rattle.est_names.specs.declared.refusal.NameFault.TheVariants.{DuplicateModule}
use Rattle.est_names.specs.NameFaults.{again, interface_faults, body_faults, module_faults, module_names, main_place, main_faults, name_faults}

pub nothing_before : (xs ys : List NameFault) → xs ++ ys ≡ [] → (xs ≡ []) × (ys ≡ [])
nothing_before [] ys none = (refl, none)
nothing_before (x ∷ xs) ys none = absurd (cc)

faultless-at : (program : SourceProgram) (k : ℕ) (d : Module) → flat_map module_faults program ≡ [] → k < length program
    → module_faults (get_or program k d) ≡ []
faultless-at [] k d none low = absurd (omega arith)
faultless-at (m ∷ program) zero d none low = (nothing_before (module_faults m) (flat_map module_faults program) none).0
faultless-at (m ∷ program) (suc k) d none low =
    faultless-at program k d (nothing_before (module_faults m) (flat_map module_faults program) none).1 (omega (arith, low))

pub faultless-interface : (main : Option (List ℕ)) (program : SourceProgram) (k : ℕ) (d : Module) → name_faults main program ≡ [] → k < length program
    → interface_faults (get_or program k d).decls ≡ []
faultless-interface main program k d none low =
    let m = get_or program k d in
    let modules = nothing_before (again DuplicateModule [] (map (λ m. m.name) program))
    (main_faults (main_place main (module_names program)) ++ flat_map module_faults program) none in
    let bodies = nothing_before (main_faults (main_place main (module_names program))) (flat_map module_faults program) modules.1 in
    (nothing_before (interface_faults m.decls) (body_faults m.body) (faultless-at program k d bodies.1 low)).0
