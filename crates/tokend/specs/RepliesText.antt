-- The text of the replies that a server has counted, in the text format 0.0.4 of Prometheus (own).
--   front_of           the beginning of the samples of an endpoint
--   sample             the sample of a status
--   granted_samples, refused_samples, unread_samples   those of some statuses
--   endpoint_samples   the samples of an endpoint
--   client_samples, notice_samples, registry_samples, consent_samples, login_samples,
--   admin_samples, sync_samples
--                      those of some endpoints
--   outer_samples      the samples of what clients reach
--   all_samples        the samples of all paths
--   requests_text      the replies
use Rattle.std.specs.Prelude.{ℕ, List, [], ◌∷◌, codes, decimal}
use Rattle.std.specs.List.{concat}
use Rattle.tokend.specs.declared.metrics.Counts.{Counts}
use Rattle.tokend.specs.declared.metrics.Replies.{Replies}
use Rattle.tokend.specs.declared.metrics.Statuses.{Statuses}

-- the beginning of the samples of the replies to requests that reach these paths and name this
-- endpoint, up to the status
abbrev pub front_of : List ℕ → List ℕ → List ℕ
front_of paths endpoint = concat (
    codes "tokend_requests_total{paths=\"" ∷ paths ∷ codes "\",endpoint=\"" ∷ endpoint
    ∷ codes "\",status=\"" ∷ [])

-- the sample of the replies of this status, which begins so
abbrev pub sample : List ℕ → List ℕ → ℕ → List ℕ
sample front status count = concat (
    front ∷ status ∷ codes "\"} " ∷ decimal count ∷ codes "\n" ∷ [])

-- the samples of requests that were granted, which begin so
unfoldable pub granted_samples : List ℕ → Statuses → List ℕ
granted_samples front s = concat (
    sample front (codes "200") s.ok ∷ sample front (codes "201") s.created
    ∷ sample front (codes "302") s.found ∷ [])

-- the samples of requests that were decided and refused, which begin so
unfoldable pub refused_samples : List ℕ → Statuses → List ℕ
refused_samples front s = concat (
    sample front (codes "400") s.bad_request ∷ sample front (codes "401") s.unauthorized
    ∷ sample front (codes "409") s.conflict ∷ sample front (codes "503") s.unavailable ∷ [])

-- the samples of requests whose body isn't read, which begin so
unfoldable pub unread_samples : List ℕ → Statuses → List ℕ
unread_samples front s = concat (
    sample front (codes "404") s.not_found ∷ sample front (codes "405") s.not_allowed
    ∷ sample front (codes "411") s.no_length ∷ sample front (codes "413") s.too_large ∷ [])

-- the samples of the replies to requests that reach these paths and name this endpoint
unfoldable pub endpoint_samples : List ℕ → List ℕ → Statuses → List ℕ
endpoint_samples paths endpoint s = concat (
    granted_samples (front_of paths endpoint) s ∷ refused_samples (front_of paths endpoint) s
    ∷ unread_samples (front_of paths endpoint) s ∷ [])

-- the samples of the paths of clients
unfoldable pub client_samples : List ℕ → Replies → List ℕ
client_samples paths r = concat (
    endpoint_samples paths (codes "authorize") r.authorize
    ∷ endpoint_samples paths (codes "token") r.token
    ∷ endpoint_samples paths (codes "introspect") r.introspect
    ∷ endpoint_samples paths (codes "revoke") r.revoke ∷ [])

-- the samples of the notices that clients reach, and of unknown paths
unfoldable pub notice_samples : List ℕ → Replies → List ℕ
notice_samples paths r = concat (
    endpoint_samples paths (codes "metadata") r.metadata
    ∷ endpoint_samples paths (codes "health") r.health
    ∷ endpoint_samples paths (codes "unknown") r.unknown ∷ [])

-- the samples of the paths by which operators add, list and retire clients, and change their
-- secrets
unfoldable pub registry_samples : List ℕ → Replies → List ℕ
registry_samples paths r = concat (
    endpoint_samples paths (codes "admin/client") r.client
    ∷ endpoint_samples paths (codes "admin/clients") r.clients
    ∷ endpoint_samples paths (codes "admin/retire") r.retire
    ∷ endpoint_samples paths (codes "admin/secret") r.secret ∷ [])

-- the samples of the paths by which operators add and end consents, and sign subjects out
unfoldable pub consent_samples : List ℕ → Replies → List ℕ
consent_samples paths r = concat (
    endpoint_samples paths (codes "admin/consent") r.consent
    ∷ endpoint_samples paths (codes "admin/withdraw") r.withdraw
    ∷ endpoint_samples paths (codes "admin/signout") r.sign_out ∷ [])

-- the samples of the paths by which operators see and end logins
unfoldable pub login_samples : List ℕ → Replies → List ℕ
login_samples paths r = concat (
    endpoint_samples paths (codes "admin/subject") r.subject
    ∷ endpoint_samples paths (codes "admin/logout") r.logout ∷ [])

-- the samples of the paths of operators
unfoldable pub admin_samples : List ℕ → Replies → List ℕ
admin_samples paths r = concat (
    registry_samples paths r ∷ consent_samples paths r ∷ login_samples paths r ∷ [])

-- the samples of the paths of other regions
unfoldable pub sync_samples : List ℕ → Replies → List ℕ
sync_samples paths r = concat (
    endpoint_samples paths (codes "sync/vector") r.vector
    ∷ endpoint_samples paths (codes "sync/pull") r.pull
    ∷ endpoint_samples paths (codes "sync/push") r.push ∷ [])

-- the samples of what clients reach, of requests that reach these paths
unfoldable pub outer_samples : List ℕ → Replies → List ℕ
outer_samples paths r = concat (client_samples paths r ∷ notice_samples paths r ∷ [])

-- the samples of the replies to requests that reach all paths
unfoldable pub all_samples : Replies → List ℕ
all_samples r = concat (
    outer_samples (codes "all") r ∷ admin_samples (codes "all") r ∷ sync_samples (codes "all") r
    ∷ endpoint_samples (codes "all") (codes "metrics") r.metrics ∷ [])

-- the replies, with the samples of all that each socket reaches
unfoldable pub requests_text : Counts → List ℕ
requests_text counts = concat (
    codes "# HELP tokend_requests_total Replies to requests, by the path that each names.\n"
    ∷ codes "# TYPE tokend_requests_total counter\n"
    ∷ outer_samples (codes "clients") counts.clients ∷ all_samples counts.all ∷ [])
