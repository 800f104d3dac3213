-- The lines of facts, of the marks of skipped facts, and of the entries of vectors (own). Each is a
-- JSON object with a line feed behind it.
--   kind_name     the name of a fact's kind
--   fact_line     the line of a fact
--   mark_line     the line of the mark of a skipped fact
--   item_line     the line of an item of a bundle
--   item_lines    the lines of items of a bundle
--   entry_line    the line of an entry of a vector
--   vector_lines  the lines of a vector
use Rattle.std.specs.Prelude.{ℕ, zero, suc, ◌==◌, List, [], ◌++◌, codes, Option}
use Rattle.std.specs.Prelude.{Some, None}
use Rattle.std.specs.Prelude.{if◌then◌else◌}
use Rattle.std.specs.List.{flat_map}
use Rattle.tk_handle.specs.declared.dot.Dot.{Dot}
use Rattle.tk_handle.specs.DotText.{dot_text}
use Rattle.tk_fact.specs.Administered.{by_of}
use Rattle.tk_fact.specs.declared.body.Body.{Body}
use Rattle.tk_fact.specs.declared.body.Body.TheVariants as bodies
use Rattle.tk_store.specs.Slots.{Slot, Held, Skipped}
use Rattle.tk_bundle.specs.BundleFields.{Items}
use Rattle.tk_handle.specs.Ranges.{max_region}
use Rattle.tk_vector.specs.VersionVector.{Vector, entry}
use Rattle.tk_listing.specs.Members.{plain_member, number_member}
use Rattle.tk_listing.specs.Members.{moment_member}
use Rattle.tk_listing.specs.FactMembers.{by_members, fields_of}

-- the name of a fact's kind
unfoldable pub kind_name : Body → List ℕ
kind_name (bodies.ClientAdded f) = codes "client_added"
kind_name (bodies.ClientRetired f) = codes "client_retired"
kind_name (bodies.ConsentGiven f) = codes "consent_given"
kind_name (bodies.ConsentWithdrawn f) = codes "consent_withdrawn"
kind_name (bodies.CodeIssued f) = codes "code_issued"
kind_name (bodies.CodeRedeemed f) = codes "code_redeemed"
kind_name (bodies.RefreshRotated f) = codes "refresh_rotated"
kind_name (bodies.TokenRevoked f) = codes "token_revoked"
kind_name (bodies.ReuseSeen f) = codes "reuse_seen"
kind_name (bodies.SubjectOut f) = codes "subject_out"
kind_name (bodies.AccessRefreshed f) = codes "access_refreshed"
kind_name (bodies.SecretSet f) = codes "secret_set"

-- the beginning of the line of a dot: the dot, and a kind
unfoldable pub begun_line : Dot → List ℕ → List ℕ
begun_line d kind =
    codes "{\"dot\":\"" ++ (dot_text d ++ (codes "\"" ++ plain_member (codes "kind") kind))

-- the line of a fact: its dot, its kind, its fields, and by whom and when
unfoldable pub fact_line : Dot → Body → List ℕ
fact_line d body =
    begun_line d (kind_name body)
    ++ (fields_of body ++ (by_members (by_of body) ++ codes "}\n"))

-- the horizon of a bundle, if it has one
unfoldable pub horizon_members : Option ℕ → List ℕ
horizon_members None = []
horizon_members (Some horizon) = moment_member (codes "horizon") horizon

-- the line of the mark that the fact of a dot was skipped, with the horizon of its bundle
unfoldable pub mark_line : Option ℕ → Dot → List ℕ
mark_line horizon d = begun_line d (codes "mark") ++ (horizon_members horizon ++ codes "}\n")

-- the line of an item of a bundle with this horizon
abbrev pub item_line : Option ℕ → Dot × Slot → List ℕ
item_line horizon (d, Held body) = fact_line d body
item_line horizon (d, Skipped) = mark_line horizon d

-- the lines of items of a bundle with this horizon, in order
abbrev pub item_lines : Option ℕ → Items → List ℕ
item_lines horizon items = flat_map (item_line horizon) items

-- the beginning of the line of an entry of a vector
unfoldable pub begun_entry : List ℕ
begun_entry = codes "{\"kind\":\"vector\""

-- the line of an entry of a vector
unfoldable pub entry_line : ℕ × ℕ → List ℕ
entry_line entry =
    begun_entry
    ++ (number_member (codes "region") entry.0
    ++ (number_member (codes "serial") entry.1 ++ codes "}\n"))

-- the line of a region's entry in a vector, or nothing if the vector has no entry of the region
abbrev pub region_line : Vector → ℕ → List ℕ
region_line v region =
    if entry v region == 0 then [] else entry_line (region, entry v region)

-- the lines of a vector's entries, of the regions up to a number
unfoldable pub lines_up_to : Vector → ℕ → List ℕ
lines_up_to v zero = []
lines_up_to v (suc n) = lines_up_to v n ++ region_line v (suc n)

-- the lines of a vector's entries, ascending by region
abbrev pub vector_lines : Vector → List ℕ
vector_lines v = lines_up_to v max_region
