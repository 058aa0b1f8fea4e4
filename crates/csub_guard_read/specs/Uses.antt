-- Inner: the plain forms of uses of names.
use Rattle.std.specs.Prelude.{true, false, List}
use Rattle.csub_text.specs.Trees.{Assign}
use Rattle.csub_guard.specs.Names.{Place, Outside, Half, Use, Put, Taken, Tested, written_uses, made_uses}
use Rattle.csub_guard_read.specs.declared.uses.Place.{Place as CodePlace}
use Rattle.csub_guard_read.specs.declared.uses.Place.TheVariants as places
use Rattle.csub_guard_read.specs.declared.uses.Use.{Use as CodeUse}
use Rattle.csub_guard_read.specs.declared.uses.Use.TheVariants as codes
use Rattle.csub_guard_read.specs.declared.uses.Order.{Order}
use Rattle.csub_guard_read.specs.declared.uses.Order.TheVariants as orders

abbrev pub place_of : CodePlace → Place
place_of places.Outside = Outside
place_of (places.First block test) = Half block test.now true
place_of (places.Second block test) = Half block test.now false

abbrev pub use_of : CodeUse → Use
use_of (codes.Put name place) = Put name.now (place_of place)
use_of (codes.Taken name place) = Taken name.now (place_of place)
use_of (codes.Tested name) = Tested name.now

-- the uses of an assignment, in an order
abbrev pub uses_by : Order → Place → Assign → List Use
uses_by orders.Written = written_uses
uses_by orders.Made = made_uses
