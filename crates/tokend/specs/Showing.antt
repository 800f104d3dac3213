-- A server that makes the text of its metrics anew (own). Milliseconds are those of the monotonic
-- clock.
--   figures_of   what the text shows
--   is_due       the text is made anew
--   shown_by     the server with its text, made anew if that is due
use Rattle.std.specs.Prelude.{ℕ, ◌-◌, nat_le, Bool, true, ◌&&◌, List, Option, Some, None, is_some}
use Rattle.std.specs.Prelude.{if◌then◌else◌}
use Rattle.std.specs.FinMap as map
use Rattle.tk_store.specs.StoreFields.{held_facts}
use Rattle.tokend.specs.Exposition.{exposition}
use Rattle.tokend.specs.Turns.{with_text}
use Rattle.tokend.specs.declared.exposition.Figures.{Figures}
use Rattle.tokend.specs.declared.server.Server.{Server}

-- how many milliseconds a text is shown: a second
abbrev pub text_life : ℕ
text_life = 1000

-- what the text of a server shows that has this many open connections
abbrev pub figures_of : Server → ℕ → Figures
figures_of server still_open = record {
  counts = server.tally.counts;
  untaken = server.tally.untaken;
  ended = server.tally.limit - server.left;
  still_open = still_open;
  facts = map.len (held_facts server.edge.region.facts);
  pruned = server.tally.pruned;
  horizon = server.edge.region.facts.horizon;
}

-- a text that was made then is too old at a time, or there is none yet
abbrev pub is_old : Option ℕ → ℕ → Bool
is_old None millis = true
is_old (Some shown) millis = nat_le text_life (millis - shown)

-- the server shows metrics, and their text is too old
abbrev pub is_due : Server → ℕ → Bool
is_due server millis = is_some server.edge.terms.metrics && is_old server.tally.shown millis

-- the server with this text, made at a time
abbrev pub with_shown : Server → List ℕ → ℕ → Server
with_shown server text millis = record server {
  edge = with_text server.edge text;
  tally = record server.tally { shown = Some millis };
}

-- the server with the text of its metrics, made anew if that is due
abbrev pub shown_by : Server → ℕ → ℕ → Server
shown_by server millis still_open =
    if is_due server millis
    then with_shown server (exposition (figures_of server still_open)) millis
    else server
