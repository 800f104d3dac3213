-- The URI that a request means. Key results:
--   picked_matches, pick_matches   it matches a registered one
--   picked_meant                   it is the sent URI, or the only one if no URI is sent
use Rattle.std.proofs.Common.{◌≡◌, ℕ, Bool, true, false, ◌&&◌, cond, List, [], ◌∷◌, Option, None}
use Rattle.std.proofs.Common.{Some, Any, bytes_eq, ◌⊎◌, inl, inr, refl, sym, ap, subst, arith}
use Rattle.std.specs.List.{list_any}
use Rattle.std.proofs.lemmas.Bool.{and_parts}
use Rattle.std.proofs.lemmas.List.Folds.{Any-from_list_any}
use Rattle.std.proofs.lemmas.Slice.Eq.{bytes_eq-Decides}
use Rattle.tk_match.proofs.AnyPortLaws.{differs_in_port}
use Rattle.tk_match.specs.AnyPort.{is_any_port, matches_any_port}
use Rattle.tk_match.specs.Pick.{matches, Matches, Uri, Missing, Unknown, only_uri, picked}
use Rattle.tk_match.specs.Pick.{shown_pick, IfUri}
use Rattle.tk_match.specs.Redirects.{is_uri}
use Rattle.tk_match.specs.declared.pick.Pick.{Pick}
use Rattle.tk_match.specs.declared.pick.Pick.TheVariants as pick

-- a URI matches one of the list
abbrev pub MatchesSome : List (List ℕ) → List ℕ → Type 0
MatchesSome uris uri = Any (λ registered. Matches registered uri) uris

-- a test that holds gives its relation
matches_is : (registered sent : List ℕ) → matches registered sent ≡ true → Matches registered sent
matches_is registered sent h = by_kind (is_any_port registered) refl h
  where
    by_kind : (b : Bool) → is_any_port registered ≡ b
        → cond b (matches_any_port registered sent) (bytes_eq registered sent) ≡ true
        → Matches registered sent
    by_kind true is e = inr (differs_in_port registered sent e)
    by_kind false is e = inl ((bytes_eq-Decides registered sent).0 e, is)

-- a sent URI that is picked matches a registered one
sent_matches : (uris : List (List ℕ)) (sent uri : List ℕ) (b : Bool)
    → (is_uri sent && list_any (λ x. matches x sent) uris) ≡ b → cond b (Uri sent) Unknown ≡ Uri uri
    → MatchesSome uris uri
sent_matches uris sent uri true is h =
    let same : sent ≡ uri = cc in
    let found = Any-from_list_any (λ x. matches x sent) uris
    (and_parts (is_uri sent) (list_any (λ x. matches x sent) uris) is).1 in
    subst (MatchesSome uris) same
    (found.0, found.1, found.2, found.3, matches_is found.1 sent found.4)
sent_matches uris sent uri false is h = cc

-- the only URI of a list, if it is picked, matches itself
own_matches : (x uri : List ℕ) (b : Bool) → is_any_port x ≡ b → cond b Missing (Uri x) ≡ Uri uri
    → MatchesSome (x ∷ []) uri
own_matches x uri true is h = cc
own_matches x uri false is h = let same : x ≡ uri = cc in (0, x, omega arith, refl, inl (same, is))

-- the URI that is picked if no URI is sent matches one of the list
only_matches : (uris : List (List ℕ)) (uri : List ℕ) → only_uri uris ≡ Uri uri
    → MatchesSome uris uri
only_matches [] uri h = cc
only_matches (x ∷ []) uri h = own_matches x uri (is_any_port x) refl h
only_matches (x ∷ y ∷ uris) uri h = cc

-- the URI that is picked from a list matches one of it
pub picked_matches : (uris : List (List ℕ)) (sent : Option (List ℕ)) (uri : List ℕ)
    → picked uris sent ≡ Uri uri → MatchesSome uris uri
picked_matches uris None uri h = only_matches uris uri h
picked_matches uris (Some sent) uri h =
    sent_matches uris sent uri (is_uri sent && list_any (λ x. matches x sent) uris) refl h

-- the URI that is picked if one is sent is the sent one
sent_meant : (sent uri : List ℕ) (b : Bool) → cond b (Uri sent) Unknown ≡ Uri uri → sent ≡ uri
sent_meant sent uri true h = cc
sent_meant sent uri false h = cc

-- the only URI of a list is the one that is picked of it
own_meant : (x uri : List ℕ) (b : Bool) → cond b Missing (Uri x) ≡ Uri uri → x ≡ uri
own_meant x uri true h = cc
own_meant x uri false h = cc

-- the URI that is picked if no URI is sent is the only one of the list
only_meant : (uris : List (List ℕ)) (uri : List ℕ) → only_uri uris ≡ Uri uri → uris ≡ uri ∷ []
only_meant [] uri h = cc
only_meant (x ∷ []) uri h = ap (λ (y : List ℕ). y ∷ []) (own_meant x uri (is_any_port x) h)
only_meant (x ∷ y ∷ uris) uri h = cc

-- the URI that is picked is the sent one; or no URI is sent, and it is the only one of the list
pub picked_meant : (uris : List (List ℕ)) (sent : Option (List ℕ)) (uri : List ℕ)
    → picked uris sent ≡ Uri uri → (sent ≡ Some uri) ⊎ ((sent ≡ None) × (uris ≡ uri ∷ []))
picked_meant uris None uri h = inr (refl, only_meant uris uri h)
picked_meant uris (Some sent) uri h =
    inl (ap Some (sent_meant sent uri (is_uri sent && list_any (λ x. matches x sent) uris) h))

-- the URI of a pick matches one of the list
pub pick_matches : (uris : List (List ℕ)) (sent : Option (List ℕ)) (p : Pick)
    → shown_pick p ≡ picked uris sent
    → IfUri p (λ uri. Any (λ registered. Matches registered uri) uris)
pick_matches uris sent (pick.Uri uri) h = picked_matches uris sent uri.now (sym h)
pick_matches uris sent pick.Missing h = tt
pick_matches uris sent pick.Unknown h = tt
