-- Inner: the tokens of code and their places.
use Rattle.std.proofs.Common.{◌≡◌, ℕ, ◌-◌, ◌<◌, ◌≤◌, get_or, false, List, [], ◌∷◌, length, map, drop, Err, refl, sym}
use Rattle.std.proofs.Common.{◌∙◌, ap, subst, arith}
use Rattle.std.proofs.lemmas.List.{length-map, length-append, get_or-map, drop_all}
use Rattle.base_facts.proofs.Lists.{drop-at}
use Rattle.base_reader.specs.declared.faults.Fault.{Fault}
use Rattle.base_reader.specs.Readings.{ended}
use Rattle.base_reader.specs.Exact.{IsLeastPlace}
use Rattle.net_expressions.specs.Lexemes as lexemes
use Rattle.net_expressions.specs.Lexemes.{place_of, IsFaultPlace}
use Rattle.net_expressions.specs.Plain.{kind_by, token_by}
use Rattle.net_expressions.specs.declared.kinds.Token.{Token}

module _ {K P : Type 0} (plain : K → P) where
  -- the kinds of a text are those of the code's tokens
  pub kinds-are : (ts : List (lexemes.PlacedToken P)) (all : List (Token K)) → map (token_by plain) all ≡ ts → map (kind_by plain) all ≡ map (λ t. t.kind) ts
  kinds-are ts all same = go all ∙ ap (map (λ (t : lexemes.PlacedToken P). t.kind)) same
    where
      go : (all : List (Token K)) → map (kind_by plain) all ≡ map (λ (t : lexemes.PlacedToken P). t.kind) (map (token_by plain) all)
      go [] = refl
      go (t ∷ all) = ap (λ l. plain t.kind ∷ l) (go all)

  pub ended-kinds : {A : Type 0} (value : A) (rest : List (Token K)) → ended value (map (kind_by plain) rest) ≡ ended value rest
  ended-kinds value [] = refl
  ended-kinds value (t ∷ rest) = ap (λ n. Err (record { deep = false; left = n })) (length-map (t ∷ rest) (kind_by plain))

  pub fault-place : {A : Type 0} (L : ℕ → A → List P → Type 0) (room : ℕ) (ts : List (lexemes.PlacedToken P)) (end : ℕ) (all : List (Token K)) (fault : Fault)
      (at : ℕ)
      → map (token_by plain) all ≡ ts → IsLeastPlace L room (map (kind_by plain) all) fault
      → at ≡ place_of end (drop (length all - fault.left) (map (token_by plain) all)) → IsFaultPlace L room ts end at
  fault-place L room ts end all fault at same least place =
      let n : length all ≡ length ts = sym (length-map all (token_by plain)) ∙ ap length same in
      record {
        fault = fault;
        least = subst (λ ks. IsLeastPlace L room ks fault) (kinds-are ts all same) least;
        place = place ∙ ap (λ l. place_of end (drop (length all - fault.left) l)) same ∙ ap (λ m. place_of end (drop (m - fault.left) ts)) n;
      }

  -- the place of the token with this number, or the end of the text
  pub place-token : (end : ℕ) (ts : List (Token K)) (k : ℕ) (x : Token K) → k < length ts → x ≡ get_or ts k x
      → x.at ≡ place_of end (drop k (map (token_by plain) ts))
  place-token end ts k x low is =
      let wide = length-map ts (token_by plain) in
      let at : token_by plain x ≡ get_or (map (token_by plain) ts) k (token_by plain x) =
      ap (token_by plain) is ∙ sym (get_or-map (token_by plain) ts k x (token_by plain x) low) in
      ap (place_of end) (sym (drop-at (map (token_by plain) ts) k (token_by plain x) (omega (arith, low, wide)) at))

  pub place-end : (end : ℕ) (ts : List (Token K)) (k : ℕ) → length ts ≤ k → end ≡ place_of end (drop k (map (token_by plain) ts))
  place-end end ts k high =
      let wide = length-map ts (token_by plain) in ap (place_of end) (sym (drop_all k (map (token_by plain) ts) (omega (arith, high, wide))))

-- a fault stands within the tokens
pub left-low : {P A : Type 0} (L : ℕ → A → List P → Type 0) (room : ℕ) (ks : List P) (fault : Fault) → IsLeastPlace L room ks fault → fault.left ≤ length ks
left-low L room ks fault least =
    let a = ap length least.cut in
    let b = length-append least.front least.rest in
    omega (arith, a, b, least.place)
