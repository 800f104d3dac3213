-- A row in little memory: its dots as numbers, and its link in parts (own).
--   dot_from, IsDotFrom                  the dot of two numbers; the serial 0 is of no dot
--   form_of, named_in, generation_in     the parts of a link
--   link_from                            the link of its parts
use Rattle.std.specs.Prelude.{ℕ, zero, suc, ◌<◌, Option, Some, None}
use Rattle.tk_handle.specs.declared.dot.Dot.{Dot}
use Rattle.tk_handle.specs.Ranges.{IsRegion, IsSerial}
use Rattle.tk_family.specs.declared.link.Link.{Link}
use Rattle.tk_family.specs.declared.link.Link.TheVariants.{Code, Redeems, Rotates}
use Rattle.tk_family.specs.declared.packed.Form.{Form}
use Rattle.tk_family.specs.declared.packed.Form.TheVariants as form

-- the dot of a region and a serial; the serial 0 is of no dot
abbrev pub dot_from : ℕ → ℕ → Option Dot
dot_from r zero = None
dot_from r (suc s) = Some (record { region = r; serial = suc s })

-- the numbers are those of a dot, or the serial is 0
abbrev pub IsDotFrom : ℕ → ℕ → Type 0
IsDotFrom r s = 0 < s → IsRegion r × IsSerial s

-- the kind of a link, or that there is no link
abbrev pub form_of : Option Link → Form
form_of None = form.Absent
form_of (Some Code) = form.Code
form_of (Some (Redeems d)) = form.Redeems
form_of (Some (Rotates d g)) = form.Rotates

-- the dot that a link names, if it names one
abbrev pub named_in : Option Link → Option Dot
named_in None = None
named_in (Some Code) = None
named_in (Some (Redeems d)) = Some d
named_in (Some (Rotates d g)) = Some d

-- the generation of a link, or 0 if it has none
abbrev pub generation_in : Option Link → ℕ
generation_in None = 0
generation_in (Some Code) = 0
generation_in (Some (Redeems d)) = 0
generation_in (Some (Rotates d g)) = g

-- the link that has these parts
abbrev pub link_from : Form → Option Dot → ℕ → Option Link
link_from form.Absent o g = None
link_from form.Code o g = Some Code
link_from form.Redeems None g = None
link_from form.Redeems (Some d) g = Some (Redeems d)
link_from form.Rotates None g = None
link_from form.Rotates (Some d) g = Some (Rotates d g)
