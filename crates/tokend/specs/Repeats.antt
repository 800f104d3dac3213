-- Refreshes that were granted a short time ago, and are repeated (own).
--   RepeatsFields   for how many seconds a refresh may be repeated, and those that were granted
--   used_in         the dot of the refresh token that a request sends
--   is_recent       a refresh was granted a few seconds before a moment
--   is_repeat       a request repeats a refresh that was granted
--   kept_with       one more that is kept
--   forgotten       without the oldest ones that weren't granted lately
--   IsRefresh       a refresh came at the front of some bytes
--   granted_at      the refresh that is kept of a request
--   Repetition      a refresh that was repeated, and when
--   IsRepeated      a refresh is repeated, and gets its reply again
--   MayRepeat       what was repeated had been granted lately
use Rattle.std.specs.Prelude.{◌≡◌, ◌≢◌, ◌⊎◌, ⊤, ℕ, ◌-◌, Bool, true, ◌&&◌, nat_le, nat_lt, List, []}
use Rattle.std.specs.Prelude.{◌∷◌, ◌++◌, length, drop, codes, Option, Some, None, if◌then◌else◌}
use Rattle.std.specs.Option.{option_and_then, option_map}
use Rattle.tk_handle.specs.declared.dot.Dot.{Dot}
use Rattle.tk_handle.specs.Handle.{handle_in}
use Rattle.tk_ledger.specs.Bodies.{is_same_dot}
use Rattle.tk_params.specs.Params.{value_of}
use Rattle.tk_message.specs.RequestFields.{RequestFields}
use Rattle.tk_grant.specs.Repeat.{is_again, is_refresh_request}
use Rattle.tk_edge.specs.Again.{repeat_at}
use Rattle.tk_edge.specs.EdgeFields.{EdgeFields}
use Rattle.tk_edge.specs.Fronts.{HasCome}
use Rattle.tk_edge.specs.declared.front.Taken.{Taken}
use Rattle.tk_edge.specs.declared.hear.Arrival.TheVariants.{Request}
use Rattle.tk_edge.specs.declared.reach.Reach.{Reach}
use Rattle.tokend.specs.declared.repeating.Refresh.{Refresh}
use Rattle.tokend.specs.declared.repeats.Refreshed.{Refreshed}

-- for how many seconds a refresh may be repeated, and the refreshes that were granted, the oldest
-- first
pub record RepeatsFields : Type 0 where
  pub seconds : ℕ
  pub kept : List Refreshed

-- the dot of the refresh token that a request sends, if it sends one
abbrev pub used_in : RequestFields → Option Dot
used_in request =
    option_map (λ h. h.id.dot)
    (option_and_then handle_in (value_of (codes "refresh_token") request.params))

-- a refresh was granted at most these seconds before a moment
abbrev pub is_recent : ℕ → ℕ → Refreshed → Bool
is_recent seconds now it = nat_le it.at now && nat_le (now - it.at) seconds

-- a request, whose refresh token has the dot, repeats a refresh that was granted
abbrev pub is_repeat : ℕ → ℕ → Dot → RequestFields → Refreshed → Bool
is_repeat seconds now parent request it =
    is_same_dot it.parent parent && (is_recent seconds now it && is_again it.request request)

-- how many are kept at most
abbrev pub max_kept : ℕ
max_kept = 4096

-- what is left if one more is to be kept: the oldest goes if there are as many as there may be
abbrev pub with_room : List Refreshed → List Refreshed
with_room kept = if nat_lt (length kept) max_kept then kept else drop 1 kept

-- with one more
abbrev pub kept_with : Refreshed → RepeatsFields → RepeatsFields
kept_with it repeats = record repeats { kept = with_room repeats.kept ++ it ∷ [] }

-- without the oldest ones, as long as they weren't granted lately
abbrev pub forgotten : ℕ → ℕ → List Refreshed → List Refreshed
forgotten seconds now [] = []
forgotten seconds now (it ∷ kept) =
    if is_recent seconds now it then it ∷ kept else forgotten seconds now kept

-- a refresh came at the front of the bytes of a connection; `taken` says how many it took
pub record IsRefresh (reach : Reach) (bytes : List ℕ) (over : Bool) (refresh : Refresh)
    (taken : Taken) : Type 0 where
  pub came : HasCome reach bytes over (Request refresh.request) taken
  pub refreshes : is_refresh_request refresh.request ≡ true
  pub uses : used_in refresh.request ≡ Some refresh.parent

-- the refresh that is kept of a request, if it was granted: with the moment, the dot of the fact
-- that was made, and the random words of the new tokens
abbrev pub granted_at : Refresh → ℕ → Dot → List ℕ → Refreshed
granted_at refresh now dot words = record {
  request = refresh.request;
  parent = refresh.parent;
  at = now;
  dot = dot;
  words = words;
}

-- A refresh that was repeated, and when.
pub record Repetition : Type 0 where
  pub refreshed : Refreshed
  pub now : ℕ

-- a request at the front of the bytes repeats a refresh, whose tokens are both live, and gets its
-- reply again
pub record IsRepeated (reach : Reach) (bytes : List ℕ) (over : Bool) (edge : EdgeFields)
    (it : Repetition) (taken : Taken) (reply : List ℕ) : Type 0 where
  pub refresh : Refresh
  pub came : IsRefresh reach bytes over refresh taken
  pub again : is_again it.refreshed.request refresh.request ≡ true
  pub replied : repeat_at edge it.now it.refreshed.dot it.refreshed.words ≡ Some reply

-- a refresh is one of those
abbrev pub IsIn : Refreshed → List Refreshed → Type 0
IsIn it [] = ⊥
IsIn it (first ∷ kept) = (first ≡ it) ⊎ IsIn it kept

-- what was repeated, if anything, had been granted at most these seconds before
abbrev pub MayRepeat : ℕ → List Refreshed → Option Repetition → Type 0
MayRepeat seconds granted None = ⊤
MayRepeat seconds granted (Some it) =
    (seconds ≢ 0) × IsIn it.refreshed granted × (is_recent seconds it.now it.refreshed ≡ true)

-- those that were granted, with one more, if there is one
abbrev pub with_granted : Option Refreshed → List Refreshed → List Refreshed
with_granted None granted = granted
with_granted (Some it) granted = it ∷ granted
