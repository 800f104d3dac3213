-- Laws of streams (RFC 9112, 3 and 6), of pushed bundles (own) and of redirects (RFC 9207, 2),
-- whatever a program does.
--   HasOneMeaning   a stream has at most one meaning
--   HearsAll        no exchange arrives unless all paths are served, and no notice unless that is
--   RefusedIsLost   a bundle that the terms refuse changes nothing
--   TakesAsRegion   a bundle that the terms don't refuse is taken in as the region does
--   AcceptsAll      the terms that accept all refuse no bundle
--   AddsIssuer      a redirect with its issuer is one with a further parameter
--   LeadsAlike      a redirect with its issuer leads where the redirect did
use Rattle.std.specs.Prelude.{◌≡◌, ◌⊎◌, ℕ, List, [], ◌∷◌, ◌++◌, codes, Option, None, Some}
use Rattle.std.specs.Prelude.{Result, Err}
use Rattle.tk_format.specs.Format.{whole}
use Rattle.tk_match.specs.ReplyUri.{reply_of}
use Rattle.tk_params.specs.Params.{Pairs}
use Rattle.tk_store.specs.FactSet.{FactSet}
use Rattle.tk_bundle.specs.Bundle.{bundle}
use Rattle.tk_bundle.specs.BundleFields.{BundleFields}
use Rattle.tk_message.specs.ReplyFields.{ReplyFields}
use Rattle.tk_authorize.specs.Registered.{LeadsToClient}
use Rattle.tk_region.specs.RegionFields.{RegionFields}
use Rattle.tk_region.specs.declared.take.TakeError.{TakeError}
use Rattle.tk_region.specs.declared.take.TakeError.TheVariants.{Memory}
use Rattle.tk_edge.specs.Ahead.{lifted, refused}
use Rattle.tk_edge.specs.Exchanges.{Pushes, TakesBundle}
use Rattle.tk_edge.specs.Issuer.{iss_behind, with_iss}
use Rattle.tk_edge.specs.Terms.{TermsFields, accept_all}
use Rattle.tk_edge.specs.declared.ahead.PushError.{PushError}
use Rattle.tk_edge.specs.declared.ahead.PushError.TheVariants.{Take}
use Rattle.tk_edge.specs.Heard.{IsArrival, MayArrive}
use Rattle.tk_edge.specs.declared.hear.Arrival.{Arrival}
use Rattle.tk_edge.specs.declared.reach.Reach.{Reach}

-- a stream has at most one meaning (RFC 9112, 3 and 6)
abbrev pub HasOneMeaning : Type 0
HasOneMeaning =
    (reach : Reach) (bytes : List ℕ) (a b : Arrival) → IsArrival reach bytes a
    → IsArrival reach bytes b → a ≡ b

-- no exchange arrives unless all paths are served, and no notice unless that is (own)
abbrev pub HearsAll : Type 0
HearsAll =
    (reach : Reach) (bytes : List ℕ) (came : Arrival) → IsArrival reach bytes came
    → MayArrive reach came

-- a pushed bundle that the terms refuse is a lost one: the result is why, unless memory ran out,
-- and the region is unchanged (own)
abbrev pub RefusedIsLost : Type 0
RefusedIsLost =
    (terms : TermsFields) (now : ℕ) (old new : RegionFields) (bytes : List ℕ)
    (taken : Result ℕ PushError) (why : PushError)
    → refused terms now (whole bundle bytes) ≡ Some why
    → Pushes terms now old bytes taken new
    → ((taken ≡ Err why) ⊎ (taken ≡ Err (Take Memory))) × (new ≡ old)

-- an edge takes a bundle that the terms don't refuse in, or refuses it, as its region does (own)
abbrev pub TakesAsRegion : Type 0
TakesAsRegion =
    (terms : TermsFields) (now : ℕ) (old new : RegionFields) (bytes : List ℕ)
    (taken : Result ℕ PushError)
    → refused terms now (whole bundle bytes) ≡ None
    → Pushes terms now old bytes taken new
    → (result : Result ℕ TakeError) × (taken ≡ lifted result) × TakesBundle old bytes result new

-- the terms that accept all refuse no bundle (own)
abbrev pub AcceptsAll : Type 0
AcceptsAll = (now : ℕ) (sent : Option BundleFields) → refused accept_all now sent ≡ None

-- a location of a URI and parameters, with the issuer, is that of the URI and the parameters with
-- one more behind them, which is named `iss` (RFC 9207, 2)
abbrev pub AddsIssuer : Type 0
AddsIssuer =
    (issuer uri : List ℕ) (first : List ℕ × List ℕ) (others : Pairs)
    → iss_behind issuer (reply_of uri (first ∷ others))
    ≡ reply_of uri (first ∷ (others ++ (codes "iss", issuer) ∷ []))

-- a reply that leads to a registered URI of the client, or to no URI, does so with its issuer, too
-- (RFC 6749, 3.1.2.4 and 10.15)
abbrev pub LeadsAlike : Type 0
LeadsAlike =
    (F : FactSet) (params : Pairs) (issuer : Option (List ℕ)) (reply : ReplyFields)
    → LeadsToClient F params reply → LeadsToClient F params (with_iss issuer reply)
