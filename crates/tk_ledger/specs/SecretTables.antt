-- The table of secrets beside the facts (own): those of a client by their turns, the last first.
--   turns_left                  the turns left after a turn
--   secret_cmp, secret_key      the keys of secrets, and their order
--   secrets_of, last_listed     the keys of one client, and the turn of the first
--   secrets_at, has_secret      the keys of one secret, and whether there is one
--   secret_at                   the change of a secret at a dot
--   IsSecrets                   the table has what the set has
use Rattle.std.specs.Prelude.{
  ◌≡◌,
  ◌≤◌,
  ◌-◌,
  ℕ,
  Bool,
  true,
  false,
  ◌&&◌,
  ◌==◌,
  List,
  length,
  replicate,
  Option,
  Some,
  None,
}
use Rattle.std.specs.Option.{option_and_then}
use Rattle.std.specs.List.{find, list_any}
use Rattle.std.specs.Ordering.{nat_cmp, ordering_then}
use Rattle.std.specs.declared.cmp.Ordering.{Ordering}
use Rattle.std.specs.declared.ops.Bound.TheVariants.{Included}
use Rattle.std.specs.Cmp.Lexicographic.{slice_cmp}
use Rattle.std.specs.Str.{bytes_eq}
use Rattle.std.specs.BTreeSet as keys
use Rattle.std.specs.BTreeSet.{BTreeSet}
use Rattle.std.specs.FinMap as map
use Rattle.tk_handle.specs.declared.dot.Dot.{Dot}
use Rattle.tk_handle.specs.Dot.{IsDot, dot_cmp, least_dot, greatest_dot}
use Rattle.tk_fact.specs.declared.body.Body.{Body}
use Rattle.tk_fact.specs.declared.body.Body.TheVariants.{SecretSet}
use Rattle.tk_fact.specs.declared.secret_set.SecretSet as set
use Rattle.tk_store.specs.FactSet.{FactSet}
use Rattle.tk_ledger.specs.Bodies.{Bodies, is_same_dot}
use Rattle.tk_ledger.specs.declared.secrets.SecretKey.{SecretKey}

-- ---- keys

-- the greatest turn that a key can have: 2^64 - 1
abbrev pub max_key : ℕ
max_key = 18446744073709551615

-- the turns from the turn to the greatest
abbrev pub turns_left : ℕ → ℕ
turns_left turn = max_key - turn

-- the order of secrets: by client, then by the turns left, then by the digest, then by the dot of
-- the fact. The last secret of a client is first
abbrev pub secret_cmp : SecretKey → SecretKey → Ordering
secret_cmp a b =
    ordering_then (dot_cmp a.client b.client)
    (ordering_then (nat_cmp a.left b.left)
    (ordering_then (slice_cmp nat_cmp a.digest b.digest) (dot_cmp a.place b.place)))

-- the key of a secret
abbrev pub secret_key : Dot → ℕ → List ℕ → Dot → SecretKey
secret_key client left digest d =
    record { client = client; left = left; digest = digest; place = d }

-- the least key that a secret of the client can have
abbrev pub first_of : Dot → SecretKey
first_of client = secret_key client 0 (replicate 32 0) least_dot

-- the greatest key that a secret of the client can have
abbrev pub last_of : Dot → SecretKey
last_of client = secret_key client max_key (replicate 32 255) greatest_dot

-- the keys of the secrets of a client
abbrev pub secrets_of : BTreeSet SecretKey → Dot → List SecretKey
secrets_of t client =
    keys.keys_between secret_cmp (Included (first_of client)) (Included (last_of client)) t

-- the turn of a key, or 0 if there is no key
abbrev pub turn_of : Option SecretKey → ℕ
turn_of None = 0
turn_of (Some k) = max_key - k.left

-- the turn of the first key of a client, or 0 if the client has none
abbrev pub last_listed : BTreeSet SecretKey → Dot → ℕ
last_listed t client = turn_of (find (λ k. true) (secrets_of t client))

-- the keys of the secret with the digest of a client, with `left` turns left
abbrev pub secrets_at : BTreeSet SecretKey → Dot → ℕ → List ℕ → List SecretKey
secrets_at t client left digest =
    keys.keys_between secret_cmp (Included (secret_key client left digest least_dot))
    (Included (secret_key client left digest greatest_dot)) t

-- the table has the secret with the digest of the client, with `left` turns left
abbrev pub has_secret : BTreeSet SecretKey → Dot → ℕ → List ℕ → Bool
has_secret t client left digest = list_any (λ k. true) (secrets_at t client left digest)

-- ---- what the table has

-- the change of a secret that the body is, if it is one
abbrev pub secret_in : Body → Option set.SecretSet
secret_in (SecretSet f) = Some f
secret_in body = None

-- the change of a secret at the dot
abbrev pub secret_at : Bodies → Dot → Option set.SecretSet
secret_at body_at d = option_and_then secret_in (body_at d)

-- the secret with the digest was set for the client, with `left` turns left
abbrev pub is_left_to : Dot → ℕ → List ℕ → Option set.SecretSet → Bool
is_left_to client left digest None = false
is_left_to client left digest (Some f) =
    is_same_dot f.client client && ((turns_left f.turn == left) && bytes_eq f.digest digest)

-- the table has the secret of the dot under the client, the turns left and the digest
abbrev pub is_listed_secret : BTreeSet SecretKey → Dot → ℕ → List ℕ → Dot → Bool
is_listed_secret t client left digest d =
    keys.contains secret_cmp t (secret_key client left digest d)

-- the table has each secret that was set, under its client, its turn and its digest, and no other
pub record IsSecrets (F : FactSet) (t : BTreeSet SecretKey) : Type 0 where
  pub listed : (client : Dot) (left : ℕ) (digest : List ℕ) (d : Dot)
      → is_listed_secret t client left digest d
      ≡ is_left_to client left digest (secret_at (map.get F) d)
  pub ranged : (client : Dot) (left : ℕ) (digest : List ℕ) (d : Dot)
      → is_listed_secret t client left digest d ≡ true
      → IsDot d × (length digest ≡ 32)
  pub early : (d : Dot) (f : set.SecretSet) → secret_at (map.get F) d ≡ Some f
      → f.turn ≤ max_key
