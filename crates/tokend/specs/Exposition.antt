-- The text of the metrics, in the text format of Prometheus, version 0.0.4 (own).
--   faults_text        the faults
--   connections_text   the connections
--   facts_text         the facts of the region
--   horizon_text       its horizon
--   push_text          its last push
--   region_text        the facts, the horizon, and the last push
--   exposition         the whole text
use Rattle.std.specs.Prelude.{ℕ, List, [], ◌∷◌, codes, decimal}
use Rattle.std.specs.List.{concat}
use Rattle.std.specs.Option.{unwrap_or}
use Rattle.tokend.specs.Counting.{sum_of}
use Rattle.tokend.specs.RepliesText.{requests_text}
use Rattle.tokend.specs.declared.exposition.Figures.{Figures}

-- the faults, with the samples of each kind; a reply that can't be written ran out of memory, or
-- its client didn't take it
unfoldable pub faults_text : Figures → List ℕ
faults_text f = concat (
    codes "# HELP tokend_faults_total Connections that ended in a fault, by its kind.\n"
    ∷ codes "# TYPE tokend_faults_total counter\n"
    ∷ codes "tokend_faults_total{kind=\"memory\"} " ∷ decimal f.counts.short
    ∷ codes "\ntokend_faults_total{kind=\"read\"} " ∷ decimal f.counts.unread
    ∷ codes "\ntokend_faults_total{kind=\"write\"} "
    ∷ decimal (sum_of f.counts.unwritten f.untaken) ∷ codes "\n" ∷ [])

-- the connections that have ended, and those that are open
unfoldable pub connections_text : Figures → List ℕ
connections_text f = concat (
    codes "# HELP tokend_connections_total Connections that have ended.\n"
    ∷ codes "# TYPE tokend_connections_total counter\ntokend_connections_total "
    ∷ decimal f.ended
    ∷ codes "\n# HELP tokend_open_connections Connections that are open.\n"
    ∷ codes "# TYPE tokend_open_connections gauge\ntokend_open_connections "
    ∷ decimal f.still_open ∷ codes "\n" ∷ [])

-- the facts that are held, and those that were pruned
unfoldable pub facts_text : Figures → List ℕ
facts_text f = concat (
    codes "# HELP tokend_held_facts Facts that the region holds.\n"
    ∷ codes "# TYPE tokend_held_facts gauge\ntokend_held_facts " ∷ decimal f.facts
    ∷ codes "\n# HELP tokend_pruned_facts_total Facts that the server skipped between requests.\n"
    ∷ codes "# TYPE tokend_pruned_facts_total counter\ntokend_pruned_facts_total "
    ∷ decimal f.pruned ∷ codes "\n" ∷ [])

-- the horizon
unfoldable pub horizon_text : Figures → List ℕ
horizon_text f = concat (
    codes "# HELP tokend_horizon_timestamp_seconds The region's horizon, since 1970.\n"
    ∷ codes "# TYPE tokend_horizon_timestamp_seconds gauge\ntokend_horizon_timestamp_seconds "
    ∷ decimal f.horizon ∷ codes "\n" ∷ [])

-- when a push was last taken in, or 0
unfoldable pub push_text : Figures → List ℕ
push_text f = concat (
    codes "# HELP tokend_last_push_timestamp_seconds When a push was last taken in, or 0.\n"
    ∷ codes "# TYPE tokend_last_push_timestamp_seconds gauge\n"
    ∷ codes "tokend_last_push_timestamp_seconds " ∷ decimal (unwrap_or f.counts.pushed 0)
    ∷ codes "\n" ∷ [])

-- the region's facts, its horizon, and its last push
unfoldable pub region_text : Figures → List ℕ
region_text f = concat (facts_text f ∷ horizon_text f ∷ push_text f ∷ [])

-- the whole text
abbrev pub exposition : Figures → List ℕ
exposition f = concat (
    requests_text f.counts ∷ faults_text f ∷ connections_text f ∷ region_text f ∷ [])
