-- Inner: operators as keys: the operands of an and, and of an or, are in ascending order.
use Rattle.std.specs.Prelude.{ℕ, Bool, if◌then◌else◌, nat_lt}
use Rattle.net_ir.specs.declared.netlist.Op.{Op}
use Rattle.net_ir.specs.declared.netlist.Op.TheVariants.{Const, Copy, Not, And, Or}
use Rattle.net_simp.specs.declared.forms.Form.{Form}
use Rattle.net_simp.specs.declared.forms.Form.TheVariants as forms

abbrev pub form_of : Op → Form
form_of (Const b) = forms.Const b
form_of (Copy n) = forms.Copy n.0
form_of (Not n) = forms.Not n.0
form_of (And m n) = if nat_lt m.0 n.0 then forms.And m.0 n.0 else forms.And n.0 m.0
form_of (Or m n) = if nat_lt m.0 n.0 then forms.Or m.0 n.0 else forms.Or n.0 m.0
