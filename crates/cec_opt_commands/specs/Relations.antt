-- To believe: the words right after a command that give relations of the inputs of a text.
use Rattle.std.specs.Prelude.{ℕ, Bool, true, false, ◌||◌, if◌then◌else◌, List, [], ◌∷◌, codes, Option, Some, None}
use Rattle.std.specs.Prelude.{is_some}
use Rattle.std.specs.List.{list_all}
use Rattle.base_types.specs.Names.{is_same_name}
use Rattle.cec_opt_texts.specs.Related.{GivenRelation, Never, Implication, names_between_commas}

-- a name is not empty
abbrev pub is_nonempty : List ℕ → Bool
is_nonempty [] = false
is_nonempty (c ∷ cs) = true

abbrev pub all_given : List (List ℕ) → Option GivenRelation
all_given names = if list_all is_nonempty names then Some (Never names) else None

-- two names or more
abbrev pub never_of : List (List ℕ) → Option GivenRelation
never_of [] = None
never_of (name ∷ []) = None
never_of (a ∷ b ∷ more) = all_given (a ∷ b ∷ more)

-- two names
abbrev pub implication_of : List (List ℕ) → Option GivenRelation
implication_of [] = None
implication_of (name ∷ []) = None
implication_of (a ∷ b ∷ []) = if list_all is_nonempty (a ∷ b ∷ []) then Some (Implication a b) else None
implication_of (a ∷ b ∷ c ∷ more) = None

-- the relation that two words give, the second of which has names with commas between them
abbrev pub relation_by : (key value : List ℕ) → Option GivenRelation
relation_by key value =
    if is_same_name key (codes "--never") then never_of (names_between_commas value)
    else if is_same_name key (codes "--implies") then implication_of (names_between_commas value)
    else None

abbrev pub given_with : Option GivenRelation → List GivenRelation → List GivenRelation
given_with None more = []
given_with (Some relation) more = relation ∷ more

-- the relations that words begin with, each of which is two words
abbrev pub given_by : List (List ℕ) → List GivenRelation
given_by [] = []
given_by (word ∷ []) = []
given_by (key ∷ value ∷ words) = given_with (relation_by key value) (given_by words)

-- the words after them
abbrev pub rest_by : List (List ℕ) → List (List ℕ)
rest_by [] = []
rest_by (word ∷ []) = word ∷ []
rest_by (key ∷ value ∷ words) = if is_some (relation_by key value) then rest_by words else key ∷ value ∷ words

-- a word that begins a relation
abbrev pub is_relation : List ℕ → Bool
is_relation word = is_same_name word (codes "--never") || is_same_name word (codes "--implies")
