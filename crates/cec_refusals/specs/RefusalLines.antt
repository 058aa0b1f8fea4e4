-- To believe: the line about a source that does not compile, of a program that is not `cec` itself.
use Rattle.std.specs.Prelude.{ℕ, List, ◌++◌, codes}
use Rattle.est_front.specs.Lines.{fault_text}
use Rattle.cec_compile.specs.declared.refusal.Refusal.{Refusal}
use Rattle.cec_compile.specs.declared.refusal.Refusal.TheVariants.{Static, Cyclic, Limit, NoMemory}

-- what the line speaks of: what it begins with, the name of the file, the name that was asked for the main module, and
-- the source
pub record RefusalSubject : Type 0 where
  pub program : List ℕ
  pub name : List ℕ
  pub main : List ℕ
  pub source : List ℕ

-- the line; that of a static fault is the compiler's
abbrev pub refusal_line : RefusalSubject → Refusal → List ℕ
refusal_line s (Static fault) = codes "cec: " ++ (fault_text s.source s.main fault ++ codes "\n")
refusal_line s (Cyclic cycle) = s.program ++ ((codes "cyclic: " ++ cycle.text.items) ++ codes "\n")
refusal_line s (Limit limit) = s.program ++ ((codes "a limit is passed, see cec check " ++ s.name) ++ codes "\n")
refusal_line s NoMemory = s.program ++ (codes "out of memory" ++ codes "\n")
