-- Inner: what is put behind a text, piece by piece.
use Rattle.std.proofs.Common.{◌≡◌, ℕ, Bool, true, false, List, [], ◌∷◌, ◌++◌, refl, sym, ap, ◌∙◌, append_assoc}
use Rattle.std.specs.Prelude.{flat_map}
use Rattle.std.proofs.lemmas.List.{append-nil}
use Rattle.net_ir.specs.Netlists.{Netlist}
use Rattle.csub_embed.specs.Grammar.{self_word, out_word}
use Rattle.csub_embed.specs.Parts.{unread_line, unshown_line}
use Rattle.csub_embed.specs.Written.{ignored_line, untouched_line, where_empty, where_unread, reads_input, net_ignored}

pub three-pieces : (t a b c : List ℕ) → ((t ++ a) ++ b) ++ c ≡ t ++ (a ++ (b ++ c))
three-pieces t a b c = simp append_assoc refl

pub four-pieces : (t a b c d : List ℕ) → (((t ++ a) ++ b) ++ c) ++ d ≡ t ++ (a ++ (b ++ (c ++ d)))
four-pieces t a b c d = simp append_assoc refl

-- the linkage, and the names of the function and of its parameters' types
pub react-pieces : (t l h n r p own s given j shown q : List ℕ)
    → (((t ++ l) ++ (h ++ (n ++ (r ++ p)))) ++ (n ++ ((own ++ s) ++ n))) ++ ((given ++ j) ++ (n ++ (shown ++ q)))
    ≡ t ++ (l ++ (h ++ ((n ++ r) ++ (p ++ ((n ++ own) ++ (s ++ ((n ++ given) ++ (j ++ ((n ++ shown) ++ q)))))))))
react-pieces t l h n r p own s given j shown q = simp append_assoc refl

pub reset-pieces : (t l h n r p own q : List ℕ)
    → ((t ++ l) ++ (h ++ (n ++ (r ++ p)))) ++ (n ++ (own ++ q)) ≡ t ++ (l ++ (h ++ ((n ++ r) ++ (p ++ ((n ++ own) ++ q)))))
reset-pieces t l h n r p own q = simp append_assoc refl

pub five-pieces : (t a b c d e : List ℕ) → ((((t ++ a) ++ b) ++ c) ++ d) ++ e ≡ t ++ (a ++ (b ++ (c ++ (d ++ e))))
five-pieces t a b c d e = simp append_assoc refl

-- three pieces that a call put, between two others
pub react-text-pieces : (t a b c d e : List ℕ) → ((t ++ a) ++ (b ++ (c ++ d))) ++ e ≡ t ++ (a ++ (b ++ (c ++ (d ++ e))))
react-text-pieces t a b c d e = simp append_assoc refl

-- ---- parameters that nothing uses

unread-lines : (read : Bool) (rest : List (List ℕ)) → unread_line read ++ flat_map ignored_line rest ≡ flat_map ignored_line (where_unread read ++ rest)
unread-lines true rest = refl
unread-lines false rest = refl

untouched-lines : {X : Type 0} (xs : List X) (rest : List (List ℕ))
    → untouched_line xs ++ flat_map ignored_line rest ≡ flat_map ignored_line (where_empty xs self_word ++ rest)
untouched-lines [] rest = refl
untouched-lines (x ∷ xs) rest = refl

unshown-lines : {X : Type 0} (xs : List X) → unshown_line xs ≡ flat_map ignored_line (where_empty xs out_word)
unshown-lines [] = sym (append-nil (ignored_line out_word))
unshown-lines (x ∷ xs) = refl

pub ignored-lines : (net : Netlist) (read : Bool) → read ≡ reads_input net
    → untouched_line net.latches ++ (unread_line read ++ unshown_line net.outputs) ≡ flat_map ignored_line (net_ignored net)
ignored-lines net read is =
    ap (λ l. untouched_line net.latches ++ (unread_line read ++ l)) (unshown-lines net.outputs)
    ∙ ap (λ l. untouched_line net.latches ++ l) (unread-lines read (where_empty net.outputs out_word))
    ∙ untouched-lines net.latches (where_unread read ++ where_empty net.outputs out_word)
    ∙ ap (λ b. flat_map ignored_line (where_empty net.latches self_word ++ (where_unread b ++ where_empty net.outputs out_word))) is
