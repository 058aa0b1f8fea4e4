-- Worked words that give relations of inputs, by hand, and what is amiss with others.
use Rattle.std.proofs.Common.{◌≡◌, [], ◌∷◌, map, None, Ok, Err, codes, refl}
use Rattle.cec_opt_texts.specs.Related.{Never, Implication}
use Rattle.cec_opt_commands.specs.Relations.{given_by, rest_by}
use Rattle.cec_opt_commands.specs.Words.{Make, Do, Check, request_by}

relations : given_by (codes "--never" ∷ codes "A,B,C" ∷ codes "--implies" ∷ codes "B,A" ∷ codes "p" ∷ [])
    ≡ Never (codes "A" ∷ codes "B" ∷ codes "C" ∷ []) ∷ Implication (codes "B") (codes "A") ∷ []
relations = refl

after_them : rest_by (codes "--never" ∷ codes "A,B,C" ∷ codes "--implies" ∷ codes "B,A" ∷ codes "p" ∷ []) ≡ codes "p" ∷ []
after_them = refl

-- one name, none, an empty one, three where there must be two, a word without names, and words before
no_relations : map given_by ((codes "--never" ∷ codes "A" ∷ codes "p" ∷ []) ∷ (codes "--never" ∷ [] ∷ codes "p" ∷ [])
    ∷ (codes "--never" ∷ codes "A,,B" ∷ codes "p" ∷ []) ∷ (codes "--implies" ∷ codes "A," ∷ codes "p" ∷ [])
    ∷ (codes "--implies" ∷ codes "A,B,C" ∷ codes "p" ∷ []) ∷ (codes "--never" ∷ []) ∷ (codes "p" ∷ codes "--never" ∷ codes "A,B" ∷ []) ∷ [])
    ≡ [] ∷ [] ∷ [] ∷ [] ∷ [] ∷ [] ∷ [] ∷ []
no_relations = refl

requests : map request_by ((codes "check" ∷ codes "--never" ∷ codes "A,B" ∷ codes "p" ∷ [])
    ∷ (codes "check" ∷ codes "--implies" ∷ codes "A,B" ∷ codes "--implies" ∷ codes "B,C" ∷ codes "p" ∷ [])
    ∷ (codes "check" ∷ codes "--source" ∷ codes "p" ∷ []) ∷ [])
    ≡ Ok (Do Check (Never (codes "A" ∷ codes "B" ∷ []) ∷ []) (codes "p"))
    ∷ Ok (Do Check (Implication (codes "A") (codes "B") ∷ Implication (codes "B") (codes "C") ∷ []) (codes "p"))
    ∷ Ok (Make Check (codes "p") None) ∷ []
requests = refl

misuses : map request_by ((codes "check" ∷ codes "--never" ∷ []) ∷ (codes "check" ∷ codes "--never" ∷ codes "A" ∷ codes "p" ∷ [])
    ∷ (codes "check" ∷ codes "--never" ∷ codes "A,B" ∷ []) ∷ (codes "check" ∷ codes "--never" ∷ codes "A,B" ∷ codes "--implies" ∷ [])
    ∷ (codes "check" ∷ codes "--never" ∷ codes "A,B" ∷ codes "--source" ∷ codes "p" ∷ [])
    ∷ (codes "check" ∷ codes "p" ∷ codes "--never" ∷ codes "A,B" ∷ [])
    ∷ (codes "c" ∷ codes "--embed" ∷ codes "lift" ∷ codes "--never" ∷ codes "A,B" ∷ codes "p" ∷ []) ∷ [])
    ≡ map Err (codes "no value after --never" ∷ codes "bad option: --never" ∷ codes "no file after check" ∷ codes "no value after --implies"
    ∷ codes "a source has relations of its own: --never" ∷ codes "one word too many: --never" ∷ codes "bad option: --never" ∷ [])
misuses = refl
