-- The requests of a script's lines, as bytes: a whole one, and short forms for common ones (own;
-- RFC 9112, 3 and 5; RFC 7617, 2, for AUTH).
--   request_bytes   the bytes of a request, by the fields of its line
--   request_of      the bytes of a request whose METHOD is capital letters
--   asked_of        the request of any line, by its first field and the fields after the moment
use Rattle.std.specs.Prelude.{ℕ, Bool, nat_le, ◌&&◌, List, [], ◌∷◌, length, codes, decimal, Option}
use Rattle.std.specs.Prelude.{Some, None, if◌then◌else◌}
use Rattle.std.specs.List.{concat, list_all}
use Rattle.std.specs.Str.{bytes_eq}
use Rattle.tk_put.specs.Put.{field_line}

-- ---- the value of a field, which `-` leaves out

-- the text of a field that is left out (own)
abbrev pub none_text : List ℕ
none_text = codes "-"

-- the body that a field stands for (own)
abbrev pub body_in : List ℕ → List ℕ
body_in text = if bytes_eq text none_text then [] else text

-- ---- whole lines

-- the value of a field, unless it is left out (own)
abbrev pub value_in : List ℕ → Option (List ℕ)
value_in text = if bytes_eq text none_text then None else Some text

-- the lines of a POST that describe its body (RFC 9112, 5)
abbrev pub post_lines : List ℕ → List ℕ → List ℕ
post_lines method body =
    if bytes_eq method (codes "POST")
    then concat (
    codes "Content-Type: application/x-www-form-urlencoded\r\nContent-Length: "
    ∷ decimal (length body) ∷ codes "\r\n" ∷ [])
    else []

-- the parts of a request, joined in their order (RFC 9112, 3 and 5)
abbrev pub assembly : List ℕ → List ℕ → List ℕ → List ℕ → List ℕ → List ℕ → List ℕ
assembly method target auth subject post body = concat (
    method ∷ codes " " ∷ target ∷ codes " HTTP/1.1\r\nHost: tokend\r\n" ∷ auth ∷ subject ∷ post
    ∷ codes "\r\n" ∷ body ∷ [])

-- the bytes of a request, by the fields of its line (RFC 9112, 3 and 5; RFC 7617, 2; own)
abbrev pub request_bytes : List ℕ → List ℕ → List ℕ → List ℕ → List ℕ → List ℕ
request_bytes method target auth subject body =
    assembly method target (field_line (codes "Authorization: Basic ") (value_in auth))
    (field_line (codes "X-Subject: ") (value_in subject)) (post_lines method body) body

-- the byte is a capital letter (own)
abbrev pub is_capital : ℕ → Bool
is_capital b = nat_le 65 b && nat_le b 90

-- the request of METHOD TARGET AUTH SUBJECT BODY, if METHOD is one or more capital letters (own)
abbrev pub request_of : List ℕ → List ℕ → List ℕ → List ℕ → List ℕ → Option (List ℕ)
request_of method target auth subject body =
    if list_all is_capital method
    then Some (request_bytes method target auth subject (body_in body)) else None

-- the request of the fields of a `req` line (own)
abbrev pub whole_of : List (List ℕ) → Option (List ℕ)
whole_of (method ∷ target ∷ auth ∷ subject ∷ body ∷ []) = request_of method target auth subject body
whole_of form = None

-- ---- short lines

-- the text, unless the value is left out (own)
abbrev pub given : List ℕ → List ℕ → List ℕ
given value text = if bytes_eq value none_text then [] else text

-- the form that a `client` line posts (own)
abbrev pub client_form : List ℕ → List ℕ → List ℕ → List ℕ → List ℕ
client_form kind secret scope uris = concat (
    codes "kind=" ∷ kind ∷ given secret (codes "&secret=") ∷ given secret secret
    ∷ codes "&scope=" ∷ scope ∷ codes "&redirects=" ∷ uris ∷ [])

-- the request of a `client` line: KIND SECRET SCOPE URIS (own)
abbrev pub client_of : List (List ℕ) → Option (List ℕ)
client_of (kind ∷ secret ∷ scope ∷ uris ∷ []) =
    request_of (codes "POST") (codes "/admin/client") none_text none_text
    (client_form kind secret scope uris)
client_of form = None

-- the request of a `retire` line: ID (own)
abbrev pub retire_of : List (List ℕ) → Option (List ℕ)
retire_of (id ∷ []) =
    request_of (codes "POST") (codes "/admin/retire") none_text none_text
    (concat (codes "client_id=" ∷ id ∷ []))
retire_of form = None

-- the request of a `signout` line: SUBJECT (own)
abbrev pub sign_out_of : List (List ℕ) → Option (List ℕ)
sign_out_of (subject ∷ []) =
    request_of (codes "POST") (codes "/admin/signout") none_text none_text
    (concat (codes "subject=" ∷ subject ∷ []))
sign_out_of form = None

-- the request of a `look` line: ID (own)
abbrev pub look_of : List (List ℕ) → Option (List ℕ)
look_of (id ∷ []) =
    request_of (codes "GET") (concat (codes "/admin/client?client_id=" ∷ id ∷ [])) none_text
    none_text none_text
look_of form = None

-- the request of any line, by its first field and the fields after the moment (own)
abbrev pub asked_of : List ℕ → List (List ℕ) → Option (List ℕ)
asked_of name form =
    if bytes_eq name (codes "req") then whole_of form
    else if bytes_eq name (codes "client") then client_of form
    else if bytes_eq name (codes "retire") then retire_of form
    else if bytes_eq name (codes "signout") then sign_out_of form
    else if bytes_eq name (codes "look") then look_of form
    else None
