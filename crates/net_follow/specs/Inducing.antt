-- Inner: what holds of one netlist in an instant, as equations.
use Rattle.std.specs.Prelude.{Bool, true, false, List, ◌++◌, length, map}
use Rattle.net_ir.specs.Netlists.{Netlist}
use Rattle.net_follow.specs.declared.inducing.Instant.{Instant}
use Rattle.net_follow.specs.declared.inducing.Instant.TheVariants.{First, Later}
use Rattle.net_follow.specs.declared.literals.Side.TheVariants.{Old}
use Rattle.net_follow.specs.declared.literals.Equation.{Equation}
use Rattle.net_follow.specs.Literals.{moved_equation}
use Rattle.net_follow.specs.Frames.{net_equations, init_equations, link_equations}

-- whether the instant comes after another one
abbrev pub is_late : Instant → Bool
is_late First = false
is_late Later = true

-- what holds in the first instant, and in one after an instant in which the claims hold, if the known equations hold in
-- each
abbrev pub own_equations : Instant → Netlist → List Equation → List Equation → List Equation
own_equations First net known claims = net_equations false Old net ++ map (moved_equation false) known
    ++ init_equations Old (length net.inputs) net.latches
own_equations Later net known claims = net_equations false Old net ++ map (moved_equation false) known
    ++ map (moved_equation false) claims ++ net_equations true Old net ++ map (moved_equation true) known
    ++ link_equations Old (length net.inputs) net.latches
