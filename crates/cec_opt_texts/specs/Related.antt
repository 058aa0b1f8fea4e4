-- To believe: relations of the inputs of a text, which are given by their names.
use Rattle.std.specs.Prelude.{ℕ, ◌==◌, List, [], ◌∷◌, position, Result, Ok, Err, ok_or}
use Rattle.std.specs.List.{slice_split}
use Rattle.base_types.specs.Names.{is_same_name}
use Rattle.base_types.specs.Relations.{Relation, Implies, Excludes}
use Rattle.cec_opt_texts.specs.declared.relations.GivenRelation as given
use Rattle.cec_opt_texts.specs.declared.relations.GivenRelation.TheVariants as relations_given

-- what the environment keeps of inputs in every instant
pub data GivenRelation : Type 0 where
  -- at most one of these inputs is present
  Never : (names : List (List ℕ)) → GivenRelation
  -- the second input is present whenever the first one is
  Implication : (a b : List ℕ) → GivenRelation

-- the names of a list with commas between them
abbrev pub names_between_commas : List ℕ → List (List ℕ)
names_between_commas = slice_split (λ c. c == 44)

-- a relation as a call takes it
abbrev pub named_relation : given.GivenRelation → GivenRelation
named_relation (relations_given.Never names) = Never (names_between_commas names.now)
named_relation (relations_given.Implies a b) = Implication a.now b.now

-- what follows a value; a name that is no input ends it
abbrev pub result_then : {X Y : Type 0} → (X → Result Y (List ℕ)) → Result X (List ℕ) → Result Y (List ℕ)
result_then f (Ok x) = f x
result_then f (Err name) = Err name

-- the values of all, or the first name that is no input
abbrev pub results_of : {X Y : Type 0} → (X → Result Y (List ℕ)) → List X → Result (List Y) (List ℕ)
results_of f [] = Ok []
results_of f (x ∷ xs) = result_then (λ y. result_then (λ ys. Ok (y ∷ ys)) (results_of f xs)) (f x)

-- the number of the input of this name
abbrev pub input_number : (inputs : List (List ℕ)) → List ℕ → Result ℕ (List ℕ)
input_number inputs name = ok_or (position (is_same_name name) inputs) name

abbrev pub input_numbers : (inputs : List (List ℕ)) → List (List ℕ) → Result (List ℕ) (List ℕ)
input_numbers inputs = results_of (input_number inputs)

-- a relation by the numbers of the inputs
abbrev pub numbered_relation : (inputs : List (List ℕ)) → GivenRelation → Result Relation (List ℕ)
numbered_relation inputs (Never names) = result_then (λ numbers. Ok (Excludes numbers)) (input_numbers inputs names)
numbered_relation inputs (Implication a b) =
    result_then (λ m. result_then (λ n. Ok (Implies m n)) (input_number inputs b)) (input_number inputs a)

-- All relations by the numbers of the inputs; or the first name that is no input, in the order in which they are given.
abbrev pub numbered_relations : (inputs : List (List ℕ)) → List GivenRelation → Result (List Relation) (List ℕ)
numbered_relations inputs = results_of (numbered_relation inputs)
