-- Lists of redirection URIs that may be registered. Key results:
--   registered_list     a list that may be registered is registered as it is
--   unregistered_list   a list with an error is not registered
use Rattle.std.proofs.Common.{◌≡◌, ℕ, Bool, cond, List, Option, Some, None, is_none, is_some, refl}
use Rattle.std.proofs.Common.{sym, ap, ◌∙◌}
use Rattle.std.specs.List.{list_all}
use Rattle.tk_match.specs.Redirects.{client_refusal, is_registrable, redirects_of}
use Rattle.tk_match.specs.Redirects.{redirects_refusal}
use Rattle.tk_match.specs.declared.redirects.RedirectError.{RedirectError}
use Rattle.tk_authorize.specs.Administered.{registered}

-- a list that may be registered keeps the rules of every list
registrable : (uris : List (List ℕ)) → client_refusal uris ≡ None → redirects_refusal uris ≡ None
registrable uris h = by_refusal (redirects_refusal uris) (list_all is_registrable uris) h
  where
    by_refusal : (o : Option RedirectError) (all : Bool)
        → cond (is_some o) o (cond all None (Some RedirectError.Malformed)) ≡ None → o ≡ None
    by_refusal None all h = refl
    by_refusal (Some e) all h = h

-- a list that may be registered is registered as it is
pub registered_list : (uris us : List (List ℕ)) → client_refusal uris ≡ None
    → redirects_of uris ≡ Some us → Some us ≡ registered uris
registered_list uris us h r =
    let same : Some uris ≡ Some us =
    ap (λ o. cond (is_none o) (Some uris) None) (sym (registrable uris h)) ∙ r in
    sym same ∙ ap (λ o. cond (is_none o) (Some uris) None) (sym h)

-- a list with an error is not registered
pub unregistered_list : (uris : List (List ℕ)) (e : RedirectError) → client_refusal uris ≡ Some e
    → registered uris ≡ None
unregistered_list uris e h = ap (λ o. cond (is_none o) (Some uris) None) h
