-- The passes of a service that prunes its region between turns (own). Milliseconds are those of the
-- monotonic clock.
--   slice_size           how many facts a slice looks at at most
--   begins               the pruning of a service that starts
--   pause                how long the server may wait for its next slice
--   latest               the moment of a pass that begins
--   is_due, begun        a pass begins if its time has come
--   gone_on              a pass behind a slice
--   SlicesRegion         a slice was pruned of a region
--   Slices, IsPruned     what a server prunes behind a turn
use Rattle.std.specs.Prelude.{◌≡◌, ℕ, ◌+◌, ◌-◌, ◌/◌, min, nat_le, Bool, ◌&&◌, Option, Some, None}
use Rattle.std.specs.Prelude.{is_none, if◌then◌else◌}
use Rattle.tk_handle.specs.declared.dot.Dot.{Dot}
use Rattle.tk_ledger.specs.Slices.{PrunesSome}
use Rattle.tk_ledger.specs.declared.slices.Slice.{Slice}
use Rattle.tk_region.specs.RegionFields.{RegionFields}
use Rattle.tokend.specs.Counting.{sum_of}
use Rattle.tokend.specs.declared.pruning.Pruning.{Pruning}
use Rattle.tokend.specs.declared.server.Server.{Server}

-- how many facts a slice looks at at most
abbrev pub slice_size : ℕ
slice_size = 256

-- how many milliseconds after the start the first pass begins: a second
abbrev pub first_rest : ℕ
first_rest = 1000

-- how many milliseconds after the end of a pass the next one begins: an hour
abbrev pub long_rest : ℕ
long_rest = 3600000

-- the pruning of a service that starts with a margin, at a time in seconds since 1970 that is also
-- one in milliseconds
abbrev pub begins : Option ℕ → ℕ → ℕ → Pruning
begins margin start since =
    record {
      margin = margin;
      start = start;
      since = since;
      moment = None;
      after = None;
      ended = since;
      rest = first_rest;
    }

-- how many milliseconds are left until the next pass
abbrev pub left_at : Pruning → ℕ → ℕ
left_at p millis = p.rest - (millis - p.ended)

-- how many milliseconds the server may wait for its next slice, if it prunes, by what is left until
-- the next pass
abbrev pub pause_by : Option ℕ → Option ℕ → ℕ → Option ℕ
pause_by None moment left = None
pause_by (Some margin) (Some moment) left = Some 0
pause_by (Some margin) None left = Some left

-- how many milliseconds the server may wait for its next slice at a time, if it prunes
abbrev pub pause : Pruning → ℕ → Option ℕ
pause p millis = pause_by p.margin p.moment (left_at p millis)

-- the moment of a pass that begins now: the clock, and no later than it was at the start with the
-- seconds since then, less the margin
abbrev pub latest : Pruning → ℕ → ℕ → ℕ → ℕ
latest p margin millis now = min (p.start + (millis - p.since) / 1000) now - margin

-- no pass is under way, and the time of the next one has come
abbrev pub is_due : Pruning → ℕ → Bool
is_due p millis = is_none p.moment && nat_le p.rest (millis - p.ended)

-- a pass begins from the least dot on, if its time has come
abbrev pub begun : Pruning → ℕ → ℕ → ℕ → Pruning
begun p margin millis now =
    if is_due p millis
    then record p { moment = Some (latest p margin millis now); after = None }
    else p

-- a pass behind a slice that returned this cursor; without one it has ended
abbrev pub gone_on : Pruning → Option Dot → ℕ → Pruning
gone_on p (Some dot) millis = record p { after = Some dot }
gone_on p None millis =
    record p { moment = None; after = None; ended = millis; rest = long_rest }

-- A slice of a prune up to a moment was pruned of a region, above a cursor. The region's number and
-- settings are unchanged.
pub record SlicesRegion
    (old : RegionFields) (moment : ℕ) (after : Option Dot) (slice : Slice) (new : RegionFields)
    : Type 0
  where
    pub number : new.number ≡ old.number
    pub settings : new.settings ≡ old.settings
    pub facts : PrunesSome old.facts moment after slice_size slice new.facts

-- a server has pruned the next slice of a pass up to a moment and counted the facts that went, and
-- nothing else changed
pub record Slices (old : Server) (pass : Pruning) (moment millis : ℕ) (new : Server) : Type 0 where
  pub slice : Slice
  pub region : SlicesRegion old.edge.region moment pass.after slice new.edge.region
  pub others : new ≡ record old {
    edge = record old.edge { region = new.edge.region };
    pruning = gone_on pass slice.at millis;
    tally = record old.tally { pruned = sum_of old.tally.pruned slice.gone };
  }

-- a server has pruned the next slice of the pass, if it is under way
abbrev pub SlicesBy : Server → Pruning → Option ℕ → ℕ → Server → Type 0
SlicesBy old pass None millis new = new ≡ old
SlicesBy old pass (Some moment) millis new = Slices old pass moment millis new

-- a server with a margin has pruned the next slice, if a pass is under way or begins; without a
-- margin nothing changes
abbrev pub IsPrunedBy : Option ℕ → Server → ℕ → Server → Type 0
IsPrunedBy None old millis new = new ≡ old
IsPrunedBy (Some margin) old millis new =
    SlicesBy old (begun old.pruning margin millis old.now)
    (begun old.pruning margin millis old.now).moment millis new

-- what a server prunes behind a turn
abbrev pub IsPruned : Server → ℕ → Server → Type 0
IsPruned old millis new = IsPrunedBy old.pruning.margin old millis new
