-- A refresh that is repeated gets the reply of its grant. Key result:
--   same_among      comparing each borrowed name is comparing their texts
--   repeats_reply   the reply, of which `expires_in` alone differs
--   refreshes_anew  what minted no refresh token isn't repeated
use Rattle.std.proofs.Common.{◌≡◌, ℕ, ◌-◌, ◌&&◌, List, [], ◌∷◌, map, Option, Some, None, inl, inr}
use Rattle.std.proofs.Common.{refl, sym, ap, subst, ◌∙◌}
use Rattle.std.proofs.lemmas.Bool.{cases_Bool, cond-true, cond-false}
use Rattle.std.specs.Borrow.{Bor}
use Rattle.std.specs.FinMap as fin
use Rattle.std.specs.List.{list_all}
use Rattle.std.specs.Option.{option_and_then}
use Rattle.tk_handle.specs.declared.handle.Handle.{Handle}
use Rattle.tk_handle.specs.declared.kind.Kind.TheVariants as kind
use Rattle.tk_fact.specs.declared.body.Body.{Body}
use Rattle.tk_fact.specs.Tokens.{MintedFields, minted_at, minted_of}
use Rattle.tk_store.specs.FactSet.{FactSet}
use Rattle.tk_store.specs.StoreFields.{held_facts}
use Rattle.tk_store.proofs.PutLaws.{none_is_not_some, some_injective}
use Rattle.tk_ledger.specs.StandingFields.{StandingFields}
use Rattle.tk_ledger.specs.Status.{status_here, is_live}
use Rattle.tk_ledger.specs.declared.status.Status.{Status}
use Rattle.tk_ledger.specs.declared.status.Status.TheVariants.{Unseen, Wrong, Broken, Known}
use Rattle.tk_ledger.proofs.HereLaws.{here_known}
use Rattle.tk_ledger.proofs.StatusCases.{Knows, known_parts}
use Rattle.tk_params.specs.Params.{Pairs}
use Rattle.tk_message.specs.Bodies.{token_body}
use Rattle.tk_message.specs.Place.{next_in}
use Rattle.tk_message.specs.Reply.{json_reply}
use Rattle.tk_message.specs.ReplyFields.{ReplyFields}
use Rattle.tk_message.specs.declared.status_code.StatusCode.TheVariants.{Ok}
use Rattle.tk_grant.specs.Granted.{access_handle, access_token, granted_by, refresh_handle}
use Rattle.tk_grant.specs.Laws.{RefreshesAnew, RepeatsReply}
use Rattle.tk_grant.specs.Repeat.{has_same, have_same, live_as, live_in, repeat_by}

-- comparing each borrowed name is comparing their texts
pub same_among : (names : List (Bor (List ℕ))) (a b : Pairs)
    → list_all (λ name. has_same name.now a b) names ≡ have_same (map (λ x. x.now) names) a b
same_among [] a b = refl
same_among (name ∷ names) a b = ap (λ t. has_same name.now a b && t) (same_among names a b)

-- the reply with a standing of the access token
abbrev reply_with : ℕ → Handle → Handle → StandingFields → ReplyFields
reply_with now access refresh s = json_reply Ok (token_body access (s.expiry - now) refresh s.scope)

-- a reply is that with the standing of a live access token
repeat_parts : (now : ℕ) (a b : Handle) (o p : Option StandingFields) (reply : ReplyFields)
    → repeat_by now a b o p ≡ Some reply
    → (s : StandingFields) × (o ≡ Some s) × (reply_with now a b s ≡ reply)
repeat_parts now a b (Some s) (Some t) reply h =
    (s, refl, some_injective (reply_with now a b s) reply h)
repeat_parts now a b (Some s) None reply h = absurd (none_is_not_some reply h)
repeat_parts now a b None (Some t) reply h = absurd (none_is_not_some reply h)
repeat_parts now a b None None reply h = absurd (none_is_not_some reply h)

-- a standing that is taken as live is the standing itself
live_parts : (x s : StandingFields) → live_as x ≡ Some s → x ≡ s
live_parts x s h = elim (cases_Bool (is_live x.state)) [
  | inl live ↦ some_injective x s (sym (cond-true (is_live x.state) (Some x) None live) ∙ h)
  | inr over ↦
      absurd (none_is_not_some s (sym (cond-false (is_live x.state) (Some x) None over) ∙ h))
]

-- a status with a live standing is that of the standing
live_known : (x : Status) (s : StandingFields) → live_in x ≡ Some s → x ≡ Known s
live_known Unseen s h = absurd (none_is_not_some s h)
live_known Wrong s h = absurd (none_is_not_some s h)
live_known (Broken t) s h = absurd (none_is_not_some s h)
live_known (Known x) s h = ap (λ (y : StandingFields). Known y) (live_parts x s h)

-- the standing of the access token has what its fact minted
known_minted : (F : FactSet) (now : ℕ) (h : Handle) (s : StandingFields) (body : Body)
    (m : MintedFields)
    → Knows F now h s → fin.get F h.id.dot ≡ Some body → minted_of body h.id.kind ≡ Some m
    → (s.expiry ≡ m.expiry) × (s.scope ≡ m.scope)
known_minted F now h s body m k held mints =
    let same : k.minted ≡ m = some_injective k.minted m
    (sym k.mints ∙ ap (option_and_then (λ b. minted_of b h.id.kind)) held ∙ mints) in (
      ap (λ (y : StandingFields). y.expiry) (sym k.standing)
          ∙ ap (λ (y : MintedFields). y.expiry) same,
      ap (λ (y : StandingFields). y.scope) (sym k.standing)
          ∙ ap (λ (y : MintedFields). y.scope) same,
    )

-- a refresh that is repeated gets the reply that was given to it
pub repeats_reply : RepeatsReply
repeats_reply P Q place now later words request generation grant body reply judged made held
    repeats =
    let a = access_handle (next_in place) words in
    let b = refresh_handle (next_in place) words in
    let p = repeat_parts later a b (live_in (status_here Q later a))
    (live_in (status_here Q later b)) reply repeats in
    let known = here_known Q later a p.0 (live_known (status_here Q later a) p.0 p.1) in
    let by = subst (λ j. (granted_by place now words j).made ≡ Some body) judged made in
    let mints : minted_of body kind.Access
    ≡ Some (minted_at now (access_token place now words grant)) =
    subst (λ y. minted_of y kind.Access ≡ Some (minted_at now (access_token place now words grant)))
    (some_injective _ body by) refl in
    let m = known_minted (held_facts Q) later a p.0 body
    (minted_at now (access_token place now words grant))
    (known_parts (held_facts Q) later a p.0 known) held mints in
    sym p.2 ∙ ap (λ e. json_reply Ok (token_body a (e - later) b p.0.scope)) m.0
    ∙ ap (λ scope.
    json_reply Ok (token_body a ((access_token place now words grant).expiry - later) b scope)) m.1

-- no reply is given again without a live refresh token
without_refresh : (now : ℕ) (a b : Handle) (o p : Option StandingFields)
    → ((s : StandingFields) → p ≡ Some s → ⊥) → repeat_by now a b o p ≡ None
without_refresh now a b (Some s) (Some t) none = absurd (none t refl)
without_refresh now a b (Some s) None none = refl
without_refresh now a b None (Some t) none = refl
without_refresh now a b None None none = refl

-- a refresh by a client that keeps its refresh token is no repeat
pub refreshes_anew : RefreshesAnew
refreshes_anew Q later dot words fact held =
    let b = refresh_handle dot words in
    without_refresh later (access_handle dot words) b
    (live_in (status_here Q later (access_handle dot words))) (live_in (status_here Q later b))
    (λ s live.
    let known = known_parts (held_facts Q) later b s
    (here_known Q later b s (live_known (status_here Q later b) s live)) in
    none_is_not_some known.minted
    (sym (ap (option_and_then (λ (x : Body). minted_of x kind.Refresh)) held) ∙ known.mints))
