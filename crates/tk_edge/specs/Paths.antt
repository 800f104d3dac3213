-- The paths that tokend serves, and what each serves under a method (RFC 6749, 3.1 and 3.2; RFC
-- 7662, 2; RFC 7009, 2; RFC 8414, 3; the paths of operators, of exchanges between regions, of
-- health and of metrics are own).
--   path_of        the part of a target before its first `?` (RFC 9112, 3.2.1)
--   query_of       the part of a target behind its first `?`
--   client_named   the path of a name among those of clients
--   logins_named   the path of a name among those by which operators see and end logins
--   admin_named    the path of a name among those of operators
--   sync_named     the path of a name among those by which regions exchange facts
--   has_metrics    the metrics are reached
--   notice_named   the path of a name among those of notices, if it is reached
--   path_named     the path of a name, byte for byte, if it is reached
--   plain          the reach of some paths, without notices
--   method_named   the method of a name, which is case-sensitive (RFC 9110, 9.1)
--   service_at     what a path serves under a method
--   allowed_at     the methods of a path, as `Allow` names them (RFC 9110, 10.2.1)
use Rattle.std.specs.Prelude.{ℕ, ◌+◌, ◌==◌, ◌&&◌, Bool, true, false, List}
use Rattle.std.specs.Prelude.{take, drop, Option, None, Some}
use Rattle.std.specs.Prelude.{codes, if◌then◌else◌}
use Rattle.std.specs.List.{position_or_len}
use Rattle.std.specs.Option.{option_or}
use Rattle.std.specs.Str.{bytes_eq}
use Rattle.tk_message.specs.declared.request.Endpoint.{Endpoint}
use Rattle.tk_message.specs.declared.request.Endpoint.TheVariants as endpoint
use Rattle.tk_edge.specs.declared.path.Path.{Path}
use Rattle.tk_edge.specs.declared.path.Path.TheVariants.{Authorize, Token, Introspect, Revoke}
use Rattle.tk_edge.specs.declared.path.Path.TheVariants.{Client, Retire, Secret, Consent}
use Rattle.tk_edge.specs.declared.path.Path.TheVariants.{Withdraw, SignOut, Subject}
use Rattle.tk_edge.specs.declared.path.Path.TheVariants.{Logout, Vector, Pull, Push}
use Rattle.tk_edge.specs.declared.path.Path.TheVariants as paths
use Rattle.tk_edge.specs.declared.path.Method.{Method}
use Rattle.tk_edge.specs.declared.path.Method.TheVariants.{Get, Post}
use Rattle.tk_edge.specs.declared.path.Posted.TheVariants as posted
use Rattle.tk_edge.specs.declared.path.Service.{Service}
use Rattle.tk_edge.specs.declared.path.Service.TheVariants as service
use Rattle.tk_edge.specs.declared.notice.Notice.TheVariants.{Discovery, Health, Metrics}
use Rattle.tk_edge.specs.declared.pull.Pages.TheVariants.{Plain}
use Rattle.tk_edge.specs.declared.reach.Reach.{Reach}
use Rattle.tk_edge.specs.declared.reach.PathSet.{PathSet}
use Rattle.tk_edge.specs.declared.reach.PathSet.TheVariants.{Clients, Admin, All}

-- the part of a target before its first `?`, which has the code 63 (RFC 9112, 3.2.1)
abbrev pub path_of : List ℕ → List ℕ
path_of target = take (position_or_len (λ b. b == 63) target) target

-- the part of a target behind its first `?` (RFC 9112, 3.2.1)
abbrev pub query_of : List ℕ → List ℕ
query_of target = drop (position_or_len (λ b. b == 63) target + 1) target

-- the path of a name among those of clients (RFC 6749, 3.1 and 3.2; RFC 7662, 2; RFC 7009, 2)
abbrev pub client_named : List ℕ → Option Path
client_named path =
    if bytes_eq path (codes "/authorize") then Some Authorize
    else if bytes_eq path (codes "/token") then Some Token
    else if bytes_eq path (codes "/introspect") then Some Introspect
    else if bytes_eq path (codes "/revoke") then Some Revoke
    else None

-- the path of a name among those by which operators see and end logins (own)
abbrev pub logins_named : List ℕ → Option Path
logins_named path =
    if bytes_eq path (codes "/admin/subject") then Some Subject
    else if bytes_eq path (codes "/admin/logout") then Some Logout
    else None

-- the path of a name among those of operators (own)
abbrev pub admin_named : List ℕ → Option Path
admin_named path =
    if bytes_eq path (codes "/admin/client") then Some Client
    else if bytes_eq path (codes "/admin/clients") then Some paths.Clients
    else if bytes_eq path (codes "/admin/retire") then Some Retire
    else if bytes_eq path (codes "/admin/secret") then Some Secret
    else if bytes_eq path (codes "/admin/consent") then Some Consent
    else if bytes_eq path (codes "/admin/withdraw") then Some Withdraw
    else if bytes_eq path (codes "/admin/signout") then Some SignOut
    else logins_named path

-- the path of a name among those by which regions exchange facts (own)
abbrev pub sync_named : List ℕ → Option Path
sync_named path =
    if bytes_eq path (codes "/sync/vector") then Some Vector
    else if bytes_eq path (codes "/sync/pull") then Some Pull
    else if bytes_eq path (codes "/sync/push") then Some Push
    else None

-- the reach of these paths, without notices (own)
abbrev pub plain : PathSet → Reach
plain set = record { paths = set; discovery = false; health = false; metrics = false }

-- the paths of operators are served (own)
abbrev pub is_operators : PathSet → Bool
is_operators Clients = false
is_operators set = true

-- the metrics are reached: the paths of operators are, and the server has metrics (own)
abbrev pub has_metrics : Reach → Bool
has_metrics reach = is_operators reach.paths && reach.metrics

-- the path of a name among those of notices, if it is reached (RFC 8414, 3; own)
abbrev pub notice_named : Reach → List ℕ → Option Path
notice_named reach path =
    if reach.discovery && bytes_eq path (codes "/.well-known/oauth-authorization-server")
    then Some (paths.Notice Discovery)
    else if reach.health && bytes_eq path (codes "/health") then Some (paths.Notice Health)
    else if has_metrics reach && bytes_eq path (codes "/metrics") then Some (paths.Notice Metrics)
    else None

-- the path of a name among those of operators and of regions, if it is reached (own)
abbrev pub inner_named : PathSet → List ℕ → Option Path
inner_named Clients path = None
inner_named Admin path = admin_named path
inner_named All path = option_or (admin_named path) (sync_named path)

-- the path of a name among those that aren't of clients, if it is reached (RFC 8414, 3; own)
abbrev pub beside_clients : Reach → List ℕ → Option Path
beside_clients reach path = option_or (notice_named reach path) (inner_named reach.paths path)

-- the path of a name, if it is reached (RFC 6749, 3.1 and 3.2; RFC 7662, 2; RFC 7009, 2; RFC 8414,
-- 3; own)
abbrev pub path_named : Reach → List ℕ → Option Path
path_named reach path = option_or (client_named path) (beside_clients reach path)

-- the method of a name, GET or POST alone (RFC 9110, 9.1)
abbrev pub method_named : List ℕ → Option Method
method_named name =
    if bytes_eq name (codes "GET") then Some Get
    else if bytes_eq name (codes "POST") then Some Post
    else None

-- what a path serves under GET (RFC 6749, 3.1; RFC 8414, 3.1; own)
abbrev pub get_service : Path → Option Service
get_service Authorize = Some (service.Query endpoint.Authorize)
get_service Client = Some (service.Query endpoint.ShowClient)
get_service paths.Clients = Some (service.Query endpoint.ListClients)
get_service Subject = Some (service.Query endpoint.ShowSubject)
get_service Vector = Some service.Vector
get_service (paths.Notice notice) = Some (service.Notice notice)
get_service path = None

-- the service whose body is a form for this endpoint (own)
abbrev pub form_for : Endpoint → Option Service
form_for e = Some (service.Body (posted.Form e))

-- what a path serves under POST without a query (RFC 6749, 3.2; RFC 7662, 2.1; RFC 7009, 2.1; own)
abbrev pub post_service : Path → Option Service
post_service Authorize = None
post_service Token = form_for endpoint.Token
post_service Introspect = form_for endpoint.Introspect
post_service Revoke = form_for endpoint.Revoke
post_service Client = form_for endpoint.AddClient
post_service paths.Clients = None
post_service Retire = form_for endpoint.Retire
post_service Secret = form_for endpoint.ChangeSecret
post_service Consent = form_for endpoint.Consent
post_service Withdraw = form_for endpoint.Withdraw
post_service SignOut = form_for endpoint.SignOut
post_service Subject = None
post_service Logout = form_for endpoint.Logout
post_service Vector = None
post_service Pull = Some (service.Body (posted.Pull Plain))
post_service Push = Some (service.Body posted.Push)
post_service (paths.Notice notice) = None

-- what a path serves under a method; methods other than GET and POST are `None` (RFC 9110, 9.1)
abbrev pub service_at : Path → Option Method → Option Service
service_at path None = None
service_at path (Some Get) = get_service path
service_at path (Some Post) = post_service path

-- the methods of a path, as `Allow` names them (RFC 9110, 10.2.1)
abbrev pub allowed_at : Path → List ℕ
allowed_at Authorize = codes "GET"
allowed_at Client = codes "GET, POST"
allowed_at paths.Clients = codes "GET"
allowed_at Subject = codes "GET"
allowed_at Vector = codes "GET"
allowed_at (paths.Notice notice) = codes "GET"
allowed_at path = codes "POST"
