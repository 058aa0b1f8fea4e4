-- Inner: the plain form of a statement that holds a list of statements.
use Rattle.std.proofs.Common.{◌≡◌, ◌<◌, List, [], ◌∷◌, length, map, refl, ◌∙◌, ap, arith}
use Rattle.std.specs.declared.alloc.Global.{Global}
use Rattle.std.specs.declared.vec.Vec.{Vec}
use Rattle.base_reader.specs.declared.statements.Statement.{Statement, Row_of-Statement, end_of-Statement, more_of-Statement, items-the_row-Statement}
use Rattle.base_reader.specs.declared.statements.Statement.{items_hidden-the_row-Statement-0}
use Rattle.base_reader.specs.declared.statements.Statement.TheBlock.{hidden-the_row-Statement-0}
use Rattle.base_reader.specs.declared.statements.Statement.TheVariants as code
use Rattle.base_reader.specs.StatementGrammar.{Plain, Sequence, plain_of, plains_of, More}
use Rattle.base_reader.specs.StatementReading.{plains, list_of}

row-plains : {n : _} (row : Row_of-Statement n) → plains_of row ≡ plains (map plain_of (items-the_row-Statement _ row))
row-plains end_of-Statement = refl
row-plains (more_of-Statement statement row) = ap (More (plain_of statement)) (row-plains row)

pub plain-Sequence : (v : Vec Statement Global) → plain_of (code.Sequence v) ≡ Sequence (plains (map plain_of v.items))
plain-Sequence v = ap Sequence (row-plains (hidden-the_row-Statement-0 v) ∙ ap (λ l. plains (map plain_of l)) (items_hidden-the_row-Statement-0 v))

-- a list of more than one
pub list_of-many : (parts : List Plain) → 1 < length parts → list_of parts ≡ Sequence (plains parts)
list_of-many [] many = absurd (omega arith)
list_of-many (plain ∷ []) many = absurd (omega arith)
list_of-many (plain ∷ next ∷ others) many = refl
