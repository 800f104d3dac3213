-- A list of redirection URIs that was made keeps the limits of a fact (`kept_uris`).
use Rattle.std.proofs.Common.{◌≡◌, ℕ, true, List, None}
use Rattle.std.specs.List.{list_all}
use Rattle.tk_match.specs.Redirects.{is_uri, redirects_refusal}
use Rattle.tk_fact.specs.FieldLaws.{kept_list}

-- a list that breaks no rule has only URIs
pub kept_uris : (uris : List (List ℕ)) → redirects_refusal uris ≡ None → list_all is_uri uris ≡ true
kept_uris uris h = (kept_list uris h).1
