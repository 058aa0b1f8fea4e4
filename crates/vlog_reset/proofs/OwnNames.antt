-- Inner: the module's own names, pushed one after another.
use Rattle.std.proofs.Common.{◌≡◌, ℕ, ◌+◌, List, [], ◌∷◌, ◌++◌, length, map, refl, ap, ◌∙◌, append_assoc}
use Rattle.std.specs.Prelude.{codes, decimal}
use Rattle.std.specs.List.{range_with_len}
use Rattle.net_ir.specs.Netlists.{Netlist}
use Rattle.net_ir.specs.Numbered.{numbered}
use Rattle.vlog_text.specs.Written.{clock_name}
use Rattle.vlog_reset.specs.Faults.{own_names}
use Rattle.vlog_reset.specs.Written.{gate_word, gate_words, state_word, state_words}

range-numbered : {X : Type 0} (f : ℕ → List ℕ) (n : ℕ) (xs : List X) → map f (range_with_len n (length xs)) ≡ numbered (λ k x. f k) n xs
range-numbered f n [] = refl
range-numbered f n (x ∷ xs) = ap (λ l. f n ∷ l) (range-numbered f (n + 1) xs)

pub own-pushed : (t : List (List ℕ)) (net : Netlist)
    → ((t ++ clock_name ∷ []) ++ map (λ k. codes "state" ++ decimal k) (range_with_len 0 (length net.latches)))
    ++ map (λ k. codes "gate" ++ decimal k) (range_with_len 0 (length net.gates)) ≡ t ++ own_names net
own-pushed t net =
    ap (λ l. ((t ++ clock_name ∷ []) ++ l) ++ map gate_word (range_with_len 0 (length net.gates))) (range-numbered state_word 0 net.latches)
    ∙ ap (λ l. ((t ++ clock_name ∷ []) ++ state_words net) ++ l) (range-numbered gate_word 0 net.gates)
    ∙ joined t (state_words net) (gate_words net)
  where
    joined : (t states gates : List (List ℕ)) → ((t ++ clock_name ∷ []) ++ states) ++ gates ≡ t ++ (clock_name ∷ (states ++ gates))
    joined t states gates = simp append_assoc refl
