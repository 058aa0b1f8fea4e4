-- Inner: what tables know of the names of a source.
use Rattle.std.specs.Prelude.{◌≡◌, ℕ, Bool, List, map}
use Rattle.std.specs.HashSet.{contains_by}
use Rattle.base_types.specs.Names.{is_same_name}
use Rattle.net_ir.specs.NameLists.{is_among}
use Rattle.net_expressions.specs.NameTables.{name_told}
use Rattle.net_expressions.specs.Trees.{Expr}
use Rattle.vlog_text.specs.Names.{Use, declared, is_reg, names_of, targets}
use Rattle.vlog_text.specs.Trees.{Declaration, Sort, Source}
use Rattle.vlog_read.specs.NameTests.{driven_by, first_of, wrong_use}
use Rattle.vlog_read.specs.declared.drivers.Drivers.{Drivers}
use Rattle.vlog_read.specs.declared.uses.Known.{Known}

-- a use that is wrong, by the names that are known
abbrev pub wrong_in : Known → Use → Bool
wrong_in known =
    wrong_use (λ n. contains_by (λ k. is_same_name n k.now) known.regs)
    (λ n. contains_by (λ k. is_same_name n k.now) known.declared) (name_told known.clock)

-- the names that are known are those of the declarations
pub record AreKnown (declarations : List Declaration) (known : Known) : Type 0 where
  pub regs : (n : List ℕ) → contains_by (λ k. is_same_name n k.now) known.regs
      ≡ is_among n (names_of is_reg declarations)
  pub declared : (n : List ℕ) → contains_by (λ k. is_same_name n k.now) known.declared
      ≡ is_among n (declared declarations)
  pub clock : name_told known.clock ≡ first_of declarations

-- whether a declared name has its drivers, by the names that have some
abbrev pub driven_in : Drivers → Sort → List ℕ → Bool
driven_in drivers =
    driven_by (λ n. contains_by (λ k. is_same_name n k.now) drivers.initials)
    (λ n. contains_by (λ k. is_same_name n k.now) drivers.assigned)
    (λ n. contains_by (λ k. is_same_name n k.now) drivers.clocked)

-- the names that have drivers are those of the source
pub record AreDrivers (s : Source Expr) (drivers : Drivers) : Type 0 where
  pub initials : (n : List ℕ) → contains_by (λ k. is_same_name n k.now) drivers.initials
      ≡ is_among n (map (λ i. i.name) s.initials)
  pub assigned : (n : List ℕ) → contains_by (λ k. is_same_name n k.now) drivers.assigned
      ≡ is_among n (targets s.assigns)
  pub clocked : (n : List ℕ) → contains_by (λ k. is_same_name n k.now) drivers.clocked
      ≡ is_among n (map (λ x. x.target) s.nexts)
