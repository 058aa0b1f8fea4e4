-- Faults of relations depend only on which names are given.
use Rattle.std.proofs.Common.{◌≡◌, ℕ, List, [], ◌∷◌, ◌++◌, refl}
use Rattle.std.specs.Prelude.{flat_map, if◌then◌else◌}
use Rattle.est_ast.specs.Trees.{Decl}
use Rattle.est_ast.specs.declared.trees.Name.{Name}
use Rattle.est_names.specs.declared.refusal.NameFault.TheVariants.{DuplicateSignal, RelationName}
use Rattle.est_names.specs.Names.{texts, is_among}
use Rattle.est_names.specs.NameFaults.{again, declared_in, related_in, not_given, decl_faults}

abbrev pub SameNames : List (List ℕ) → List (List ℕ) → Type 0
SameNames given other = (name : List ℕ) → is_among name given ≡ is_among name other

pub not_given-same : (given other : List (List ℕ)) (names : List Name) → SameNames given other → not_given given names ≡ not_given other names
not_given-same given other names same i = flat_map (λ name. if same name.text i then [] else RelationName name.span ∷ []) names

pub decl_faults-same : (given other before : List (List ℕ)) (decls : List Decl) → SameNames given other →
    decl_faults given before decls ≡ decl_faults other before decls
decl_faults-same given other before [] same = refl
decl_faults-same given other before (decl ∷ decls) same = λ i.
    again DuplicateSignal before (declared_in decl)
    ++ (not_given-same given other (related_in decl) same i ++ decl_faults-same given other (before ++ texts (declared_in decl)) decls same i)
