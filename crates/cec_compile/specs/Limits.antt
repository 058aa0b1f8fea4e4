-- Contract: the refusal that stands for a fault of a pass.
use Rattle.est_front.specs.declared.refusal.Quantity.{Quantity}
use Rattle.est_front.specs.declared.refusal.Quantity.TheVariants as quantities
use Rattle.est_front.specs.declared.refusal.SourceRefusal as fronts
use Rattle.est_front.specs.declared.refusal.SourceRefusal.TheVariants as front
use Rattle.grc_build.specs.declared.refusal.BuildFault.{BuildFault}
use Rattle.grc_build.specs.declared.refusal.BuildFault.TheVariants as building
use Rattle.grc_layout.specs.declared.refusal.CopyFault.{CopyFault}
use Rattle.grc_layout.specs.declared.refusal.CopyFault.TheVariants as copying
use Rattle.cec_compile.specs.declared.refusal.Limit as bounds
use Rattle.cec_compile.specs.declared.refusal.Limit.TheVariants as limits
use Rattle.cec_compile.specs.declared.refusal.Refusal.{Refusal}
use Rattle.cec_compile.specs.declared.refusal.Refusal.TheVariants.{Static, Limit, NoMemory}

abbrev pub limit_of : Quantity → bounds.Limit
limit_of quantities.Nesting = limits.Nesting
limit_of quantities.Statements = limits.Statements
limit_of quantities.Signals = limits.Signals
limit_of quantities.Kernel = limits.Kernel
limit_of quantities.Height = limits.Height
limit_of quantities.Traps = limits.Traps

abbrev pub refusal_of : fronts.SourceRefusal → Refusal
refusal_of (front.Static fault) = Static fault
refusal_of (front.Limit quantity) = Limit (limit_of quantity)
refusal_of front.NoMemory = NoMemory

abbrev pub copying_refusal : CopyFault → Refusal
copying_refusal copying.TooManyInstances = Limit limits.Instances
copying_refusal copying.NoMemory = NoMemory

abbrev pub building_refusal : BuildFault → Refusal
building_refusal building.TooManyWires = Limit limits.Wires
building_refusal building.NoMemory = NoMemory
