-- What a text without a tree, or without a flat form, lacks besides.
use Rattle.std.proofs.Common.{ℕ, List, Option}
use Rattle.est_front.specs.declared.refusal.SourceRefusal.{SourceRefusal}
use Rattle.est_front.specs.declared.refusal.SourceRefusal.TheVariants.{Static, Limit, NoMemory}
use Rattle.est_front.specs.Lacks.{HasNoTree, HasNoFlat, HasNoExpansion}

pub no_tree_no_flat : (text : List ℕ) (main : Option (List ℕ)) (r : SourceRefusal) → HasNoTree text r → HasNoFlat text main r
no_tree_no_flat text main (Static fault) h = λ flat f. h f.tree f.declares.reads
no_tree_no_flat text main (Limit quantity) h = λ flat f. h f.tree f.declares.reads
no_tree_no_flat text main NoMemory h = tt

pub no_flat_no_expansion : (text : List ℕ) (main : Option (List ℕ)) (r : SourceRefusal) → HasNoFlat text main r → HasNoExpansion text main r
no_flat_no_expansion text main (Static fault) h = λ p e. h e.flat e.flattens
no_flat_no_expansion text main (Limit quantity) h = λ p e. h e.flat e.flattens
no_flat_no_expansion text main NoMemory h = tt
