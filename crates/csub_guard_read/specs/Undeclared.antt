-- Inner: uses that are wrong, by sets of names.
use Rattle.std.specs.Prelude.{◌≡◌, ℕ, Bool, not, ◌||◌, List}
use Rattle.std.specs.HashSet.{contains_by}
use Rattle.csub_text.specs.Grammar.{begins_input}
use Rattle.csub_guard.specs.Names.{Outside, Half, Use, Put, Taken, Tested, declared}
use Rattle.csub_guard.specs.Trees.{Program}
use Rattle.base_types.specs.Names.{is_same_name}
use Rattle.net_ir.specs.NameLists.{is_among}
use Rattle.csub_guard_read.specs.declared.undeclared.Known.{Known}

-- a use that is wrong, by what is known of the declared names and of the locals
abbrev pub wrong_use : (List ℕ → Bool) → (List ℕ → Bool) → Use → Bool
wrong_use known local (Put name Outside) = begins_input name || not (known name)
wrong_use known local (Put name (Half block test first)) = not (local name)
wrong_use known local (Taken name place) = not (known name)
wrong_use known local (Tested name) = not (local name)

abbrev pub wrong_in : Known → Use → Bool
wrong_in known =
    wrong_use (λ n. contains_by (λ k. is_same_name n k.now) known.declared)
    (λ n. contains_by (λ k. is_same_name n k.now) known.locals)

-- the names that are known are those of the program
pub record AreKnown (p : Program) (known : Known) : Type 0 where
  pub declared : (n : List ℕ) → contains_by (λ k. is_same_name n k.now) known.declared ≡ is_among n (declared p)
  pub locals : (n : List ℕ) → contains_by (λ k. is_same_name n k.now) known.locals ≡ is_among n p.locals
