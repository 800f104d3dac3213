-- The place of a decision (own).
--   next_in   the dot of the next fact at a place
use Rattle.tk_handle.specs.declared.dot.Dot.{Dot}
use Rattle.tk_message.specs.declared.place.Place.{Place}

-- the dot of the next fact at the place
abbrev pub next_in : Place → Dot
next_in place = record { region = place.number; serial = place.next }
