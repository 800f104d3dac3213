-- A client that is shown, as it is written. Key results:
--   shown_written   the members of a client, whatever its kind, with lives or without
--   shown_of        a client behind what was written before
use Rattle.std.proofs.Common.{◌≡◌, List, ℕ, Bool, [], ◌∷◌, ◌++◌, codes, Option, Some, None, refl}
use Rattle.std.proofs.Common.{ap, ◌∙◌}
use Rattle.json.specs.Token as token
use Rattle.json.specs.Token.{Token}
use Rattle.json.specs.Tree.{json_tokens}
use Rattle.serde_json.specs.Written.{outline}
use Rattle.tk_handle.specs.declared.dot.Dot.{Dot}
use Rattle.tk_handle.specs.ClientId.{client_text}
use Rattle.tk_fact.specs.declared.client_kind.ClientKind.{ClientKind}
use Rattle.tk_fact.specs.declared.client_kind.ClientKind.TheVariants.{Public, Confidential}
use Rattle.tk_fact.specs.declared.client_kind.ClientKind.TheVariants.{Resource, Keeping}
use Rattle.tk_fact.specs.declared.client_lives.ClientLives.{ClientLives}
use Rattle.tk_message.specs.Bodies.{kind_name, refresh_written, number_written, shown_body}
use Rattle.tk_message.specs.Bodies.{access_life, refresh_life, family_life}
use Rattle.tk_message.proofs.MemberLaws.{three_of}

-- the members of a client
abbrev pub shown : Dot → ClientKind → Option ClientLives → Bool → List ℕ → List Token
shown client client_kind lives live scope =
    number_written (codes "access_life") (access_life lives)
    ++ (token.key (codes "client_id") ∷ token.string (client_text client) ∷ []
    ++ (number_written (codes "family_life") (family_life lives)
    ++ (token.key (codes "kind") ∷ token.string (kind_name client_kind)
    ∷ token.key (codes "live") ∷ token.boolean live ∷ []
    ++ (refresh_written client_kind
    ++ (number_written (codes "refresh_life") (refresh_life lives)
    ++ token.key (codes "scope") ∷ token.string scope ∷ [])))))

-- a client that is shown is written as its JSON body
shown_written : (client : Dot) (k : ClientKind) (lives : Option ClientLives) (live : Bool)
    (scope : List ℕ)
    → token.begin_object ∷ (shown client k lives live scope ++ token.end_object ∷ [])
    ≡ json_tokens (outline (shown_body client k lives live scope))
shown_written client Public None live scope = refl
shown_written client (Confidential digest) None live scope = refl
shown_written client (Resource digest) None live scope = refl
shown_written client (Keeping digest) None live scope = refl
shown_written client Public (Some lives) live scope = refl
shown_written client (Confidential digest) (Some lives) live scope = refl
shown_written client (Resource digest) (Some lives) live scope = refl
shown_written client (Keeping digest) (Some lives) live scope = refl

-- a client behind what was written before
pub shown_of : (t0 t1 t2 t3 : List Token) (client : Dot) (k : ClientKind)
    (lives : Option ClientLives) (live : Bool) (scope : List ℕ)
    → t1 ≡ t0 ++ token.begin_object ∷ [] → t2 ≡ t1 ++ shown client k lives live scope
    → t3 ≡ t2 ++ token.end_object ∷ []
    → t3 ≡ t0 ++ json_tokens (outline (shown_body client k lives live scope))
shown_of t0 t1 t2 t3 client k lives live scope h1 h2 h3 =
    three_of t0 t1 t2 t3 (token.begin_object ∷ []) (shown client k lives live scope)
    (token.end_object ∷ []) h1 h2 h3
    ∙ ap (λ x. t0 ++ x) (shown_written client k lives live scope)
