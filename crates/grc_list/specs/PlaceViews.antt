-- Inner: the plain form of a place.
-- (It is in specs/, short as it is, because a contract can cite definitions of specs/ alone.)
use Rattle.std.specs.Prelude.{option_map}
use Rattle.grc_list.specs.declared.places.Place as declared_places
use Rattle.grc_list.specs.Places.{Place}

abbrev pub place_of : declared_places.Place → Place
place_of x = record { parent = x.parent; child = x.child; bound = option_map (λ s. s.0) x.bound }
