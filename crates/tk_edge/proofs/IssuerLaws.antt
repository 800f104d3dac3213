-- Redirects with their issuer. Key results:
--   adds_iss     a redirect with its issuer has one more parameter
--   leads_same   a redirect with its issuer leads where it did
use Rattle.std.proofs.Common.{◌≡◌, ℕ, ◌<◌, cond, List, [], ◌∷◌, ◌++◌, length, Option, Some, None}
use Rattle.std.proofs.Common.{codes, IfSome, option_map, sym, ap, ◌∙◌, append_assoc, arith}
use Rattle.std.proofs.lemmas.List.{length-append}
use Rattle.std.proofs.lemmas.List.Sums.{fold-append}
use Rattle.std.proofs.lemmas.Bool.{lt-ltb}
use Rattle.form_urlencoded.specs.Form.{append_pair, extend_pairs, separator, serialize_pair}
use Rattle.tk_match.specs.ReplyUri.{joint, reply_of}
use Rattle.tk_params.specs.Params.{Pairs}
use Rattle.tk_authorize.specs.Registered.{IsAtRegistered}
use Rattle.tk_edge.specs.Issuer.{iss_behind}
use Rattle.tk_edge.specs.Laws.{AddsIssuer, LeadsAlike}

-- a form with a pair isn't empty
pair_grows : (form name value : List ℕ) → 0 < length (append_pair form name value)
pair_grows form name value = simp length-append (omega arith)

-- a form that isn't empty isn't empty with pairs added
pairs_grow : (form : List ℕ) (pairs : Pairs) → 0 < length form
    → 0 < length (extend_pairs form pairs)
pairs_grow form [] some = some
pairs_grow form (pair ∷ pairs) some =
    pairs_grow (append_pair form pair.0 pair.1) pairs (pair_grows form pair.0 pair.1)

-- a pair behind a form that isn't empty is separated from it
parts : (form : List ℕ) → 0 < length form → separator form ≡ 38 ∷ []
parts form some = ap (λ b. cond b (38 ∷ []) []) (lt-ltb 0 (length form) some)

-- a redirect with its issuer is one with a further parameter
pub adds_iss : AddsIssuer
adds_iss issuer uri first others =
    let form = extend_pairs [] (first ∷ others) in
    let iss = serialize_pair (codes "iss", issuer) in
    let long : 0 < length form =
    pairs_grow (append_pair [] first.0 first.1) others (pair_grows [] first.0 first.1) in
    let longer : 0 < length (reply_of uri (first ∷ others)) = simp length-append (omega arith) in
    let more : extend_pairs [] (first ∷ (others ++ (codes "iss", issuer) ∷ []))
    ≡ append_pair form (codes "iss") issuer =
    fold-append (λ text pair. append_pair text pair.0 pair.1) (append_pair [] first.0 first.1)
    others ((codes "iss", issuer) ∷ []) in
    ap (λ s. (reply_of uri (first ∷ others) ++ s) ++ iss)
    (parts (reply_of uri (first ∷ others)) longer)
    ∙ ap (λ s. s ++ iss) (append_assoc uri (joint uri ∷ form) (38 ∷ []))
    ∙ append_assoc uri ((joint uri ∷ form) ++ 38 ∷ []) iss
    ∙ ap (λ s. uri ++ joint uri ∷ ((form ++ s) ++ iss)) (sym (parts form long))
    ∙ ap (λ f. uri ++ joint uri ∷ f) (sym more)

-- a redirect with its issuer leads where the redirect did
pub leads_same : LeadsAlike
leads_same F params None reply leads = leads
leads_same F params (Some issuer) reply leads = by reply.location leads
  where
    by : (o : Option (List ℕ)) → IfSome o (IsAtRegistered F params)
        → IfSome (option_map (iss_behind issuer) o) (IsAtRegistered F params)
    by None h = tt
    by (Some location) h = record {
      uri = h.uri;
      known = h.known;
      first = h.first;
      others = h.others ++ (codes "iss", issuer) ∷ [];
      location_is = ap (iss_behind issuer) h.location_is ∙ adds_iss issuer h.uri h.first h.others;
    }
