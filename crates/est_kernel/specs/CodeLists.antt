-- Contract: what the lists of static codes have for a body.
use Rattle.std.specs.Prelude.{◌≡◌, map}
use Rattle.base_types.specs.CodeSet.{members}
use Rattle.est_kernel.specs.declared.code_lists.Codes.{Codes}
use Rattle.est_kernel.specs.Terms.{Term}
use Rattle.est_kernel.specs.Preorder.{preorder}
use Rattle.est_kernel.specs.StaticCodes.{started_codes, resumed_codes}

-- the lists have the sets of each statement of the body, in preorder
pub record AreCodesOf (codes : Codes) (body : Term) : Type 0 where
  pub started : map members codes.started.items ≡ map started_codes (preorder body)
  pub resumed : map members codes.resumed.items ≡ map resumed_codes (preorder body)
