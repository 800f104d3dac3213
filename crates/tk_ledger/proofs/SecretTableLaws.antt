-- The table of secrets follows the set when that gets one more fact, or loses one. Key results:
--   secret_row, same_secrets   the table after one more fact
--   secrets_alike              a table with the same keys
--   secrets_less               the table after the loss of a fact
use Rattle.std.proofs.Common.{◌≡◌, inl, inr, ℕ, ◌≤◌, Bool, true, false, cond, ◌&&◌, ◌||◌, ◌==◌}
use Rattle.std.proofs.Common.{List, length, Option, Some, None, refl, sym, ap, subst, ◌∙◌}
use Rattle.std.proofs.lemmas.Bool.{true≢false, or_cases, and_parts}
use Rattle.std.proofs.lemmas.Slice.Eq.{bytes_eq-Decides}
use Rattle.std.specs.Option.{option_and_then, option_map}
use Rattle.std.specs.Ordering.{eq_by_cmp}
use Rattle.std.specs.Str.{bytes_eq}
use Rattle.std.specs.BTreeSet.{BTreeSet, contains}
use Rattle.std.specs.FinMap as map
use Rattle.tk_handle.specs.declared.dot.Dot.{Dot}
use Rattle.tk_handle.specs.Dot.{IsDot}
use Rattle.tk_fact.specs.declared.body.Body.{Body}
use Rattle.tk_fact.specs.declared.body.Body.TheVariants.{SecretSet}
use Rattle.tk_fact.specs.declared.secret_set.SecretSet as set
use Rattle.tk_store.specs.FactSet.{FactSet}
use Rattle.tk_store.proofs.PutLaws.{none_is_not_some, some_injective}
use Rattle.tk_store.proofs.OneMoreLaws.{OneMore, cases_dots}
use Rattle.tk_ledger.specs.Bodies.{is_same_dot}
use Rattle.tk_ledger.specs.Changes.{change_in}
use Rattle.tk_ledger.specs.Index.{is_at}
use Rattle.tk_ledger.specs.SecretTables.{max_key, turns_left, secret_cmp, secret_key}
use Rattle.tk_ledger.specs.SecretTables.{secret_in, secret_at, is_left_to, is_listed_secret}
use Rattle.tk_ledger.specs.SecretTables.{IsSecrets}
use Rattle.tk_ledger.specs.declared.change.Change.{Change}
use Rattle.tk_ledger.specs.declared.change.Change.TheVariants as change
use Rattle.tk_ledger.specs.declared.secrets.SecretKey.{SecretKey}
use Rattle.tk_ledger.proofs.ChangeLaws.{changed, or_cond}
use Rattle.tk_ledger.proofs.KeyLaws.{at_is_same}
use Rattle.tk_ledger.proofs.SameLaws.{same_dot-true}
use Rattle.tk_ledger.proofs.SecretKeyLaws.{secret_tied}
use Rattle.tk_ledger.proofs.TableLaws.{own_on}

-- ---- a change and its body set the same secret

-- the change sets the secret with the digest for the client, with `left` turns left
abbrev pub sets_to : Dot → ℕ → List ℕ → Change → Bool
sets_to client left digest (change.SetSecret c turn g) =
    is_same_dot c client && ((turns_left turn == left) && bytes_eq g digest)
sets_to client left digest other = false

-- a body sets a secret exactly if its change does
sets-change : (c : Dot) (l : ℕ) (g : List ℕ) (b : Body)
    → is_left_to c l g (secret_in b) ≡ sets_to c l g (change_in b)
sets-change c l g (SecretSet x) = refl
sets-change c l g body = refl

-- the change sets a secret
abbrev pub setting : Change → Bool
setting (change.SetSecret c turn g) = true
setting other = false

-- a change that sets no secret sets none of any client, turn or digest
sets_none : (c : Dot) (l : ℕ) (g : List ℕ) (y : Change) → setting y ≡ false
    → sets_to c l g y ≡ false
sets_none c l g (change.SetSecret e turn h) none = absurd (true≢false none)
sets_none c l g other none = refl

-- the turn of the secret that a change sets
abbrev pub turn_by : Change → Option ℕ
turn_by (change.SetSecret c turn g) = Some turn
turn_by other = None

-- the turn of a secret that a body sets is that of its change
turn-change : (b : Body) (f : set.SecretSet) → secret_in b ≡ Some f
    → turn_by (change_in b) ≡ Some f.turn
turn-change (SecretSet x) f h = ap (λ (c : set.SecretSet). Some c.turn) (some_injective x f h)
turn-change body f h = absurd (none_is_not_some f h)

-- the change sets no secret at a turn above the greatest of a key
abbrev pub IsKeyed : Change → Type 0
IsKeyed (change.SetSecret c turn g) = turn ≤ max_key
IsKeyed other = Unit {0}

-- a change that sets no secret has no turn out of range
unset_keyed : (y : Change) → setting y ≡ false → IsKeyed y
unset_keyed (change.SetSecret c turn g) h = absurd (true≢false h)
unset_keyed other h = tt

-- the turn of a change whose turn is in range is at most the greatest of a key
keyed_turn : (y : Change) (turn : ℕ) → turn_by y ≡ Some turn → IsKeyed y → turn ≤ max_key
keyed_turn (change.SetSecret c n g) turn h keyed =
    subst (λ (m : ℕ). m ≤ max_key) (some_injective n turn h) keyed
keyed_turn other turn h keyed = absurd (none_is_not_some turn h)

-- ---- one more fact

-- each secret that is listed is at a dot in range, with a digest of 32 bytes
abbrev pub RangedSecrets : BTreeSet SecretKey → Type 0
RangedSecrets t = (c : Dot) (l : ℕ) (g : List ℕ) (d : Dot) → is_listed_secret t c l g d ≡ true
    → IsDot d × (length g ≡ 32)

-- a secret at a dot is set by the new fact, or was before
set_on : (F G : FactSet) (d : Dot) (b : Body) (c : Dot) (l : ℕ) (g : List ℕ) (q : Dot) (x : Bool)
    → OneMore F G d b → x ≡ is_left_to c l g (secret_at (map.get F) q)
    → ((sets_to c l g (change_in b) && is_at d q) || x)
    ≡ is_left_to c l g (secret_at (map.get G) q)
set_on F G d b c l g q x m i =
    own_on d q (sets_to c l g (change_in b)) x (is_left_to c l g (secret_at (map.get F) q))
    (is_left_to c l g (secret_at (map.get G) q))
    (λ same. ap (λ e. is_left_to c l g (option_and_then secret_in e))
    (ap (map.get F) same ∙ m.free))
    (λ same. ap (λ e. is_left_to c l g (option_and_then secret_in e))
    (ap (map.get G) same ∙ m.here)
    ∙ sets-change c l g b)
    (λ ne. ap (λ e. is_left_to c l g (option_and_then secret_in e)) (m.there q ne))
    i

-- the table of secrets follows the set with one more fact
secrets_on : (F G : FactSet) (d : Dot) (b : Body) (t u : BTreeSet SecretKey) → OneMore F G d b
    → IsSecrets F t → RangedSecrets u → IsKeyed (change_in b)
    → ((c : Dot) (l : ℕ) (g : List ℕ) (q : Dot)
    → is_listed_secret u c l g q
    ≡ ((sets_to c l g (change_in b) && is_at d q) || is_listed_secret t c l g q))
    → IsSecrets G u
secrets_on F G d b t u m i ranged keyed r = record {
  listed = λ c l g q. r c l g q
      ∙ set_on F G d b c l g q (is_listed_secret t c l g q) m (i.listed c l g q);
  ranged = ranged;
  early = λ q f h. elim (cases_dots q d) [
    | inl same ↦ keyed_turn (change_in b) f.turn
        (turn-change b f
        (sym (ap (option_and_then secret_in) (ap (map.get G) same ∙ m.here)) ∙ h)) keyed
    | inr ne ↦ i.early q f (sym (ap (option_and_then secret_in) (m.there q ne)) ∙ h)
  ];
}

-- the table of secrets after any change
secrets_by : (G : FactSet) (d : Dot) (y : Change) (t u : BTreeSet SecretKey)
    → option_map change_in (map.get G d) ≡ Some y → IsSecrets (map.remove G d) t → RangedSecrets u
    → IsKeyed y
    → ((c : Dot) (l : ℕ) (g : List ℕ) (q : Dot)
    → is_listed_secret u c l g q
    ≡ ((sets_to c l g y && is_at d q) || is_listed_secret t c l g q))
    → IsSecrets G u
secrets_by G d y t u h i ranged keyed r =
    let x = changed G d y h in
    secrets_on (map.remove G d) G d x.body t u x.more i ranged (subst IsKeyed (sym x.is) keyed)
    (λ c l g q. r c l g q
    ∙ ap (λ z. (sets_to c l g z && is_at d q) || is_listed_secret t c l g q) (sym x.is))

-- a change that sets no secret leaves the secrets
pub same_secrets : (G : FactSet) (d : Dot) (y : Change) (t : BTreeSet SecretKey)
    → option_map change_in (map.get G d) ≡ Some y → setting y ≡ false
    → IsSecrets (map.remove G d) t → IsSecrets G t
same_secrets G d y t h none i = secrets_by G d y t t h i i.ranged (unset_keyed y none)
    (λ c l g q.
    sym (ap (λ b. (b && is_at d q) || is_listed_secret t c l g q) (sets_none c l g y none)))

-- the table with the key of a secret
pub secret_row : (G : FactSet) (d client : Dot) (turn : ℕ) (digest : List ℕ)
    (t u : BTreeSet SecretKey)
    → option_map change_in (map.get G d) ≡ Some (change.SetSecret client turn digest)
    → IsSecrets (map.remove G d) t → IsDot d → length digest ≡ 32 → turn ≤ max_key
    → ((k : SecretKey)
    → contains secret_cmp u k
    ≡ cond (eq_by_cmp secret_cmp (secret_key client (turns_left turn) digest d) k) true
    (contains secret_cmp t k))
    → IsSecrets G u
secret_row G d client turn digest t u h i here long keyed r =
    secrets_by G d (change.SetSecret client turn digest) t u h i ranged keyed
    (λ c l g q. own c l g q
    ∙ ap (λ x. (sets c l g && x) || is_listed_secret t c l g q) (sym (at_is_same d q)))
  where
    sets : Dot → ℕ → List ℕ → Bool
    sets c l g = is_same_dot client c && ((turns_left turn == l) && bytes_eq digest g)

    own : (c : Dot) (l : ℕ) (g : List ℕ) (q : Dot)
        → is_listed_secret u c l g q
        ≡ ((sets c l g && is_same_dot d q) || is_listed_secret t c l g q)
    own c l g q = r (secret_key c l g q)
        ∙ or_cond
        (eq_by_cmp secret_cmp (secret_key client (turns_left turn) digest d) (secret_key c l g q))
        (is_listed_secret t c l g q)
        ∙ ap (λ x. x || is_listed_secret t c l g q)
        (secret_tied client c (turns_left turn) l digest g d q)

    ranged : RangedSecrets u
    ranged c l g q at = elim (or_cases (sets c l g && is_same_dot d q)
        (is_listed_secret t c l g q) (sym (own c l g q) ∙ at)) [
          | inl new ↦
              let p = and_parts (sets c l g) (is_same_dot d q) new in
              let s = and_parts _ _ (and_parts _ _ p.0).1 in (
                subst (λ (x : Dot). IsDot x) (same_dot-true d q p.1) here,
                ap length (sym ((bytes_eq-Decides digest g).0 s.1)) ∙ long,
              )
          | inr old ↦ i.ranged c l g q old
        ]

-- a table with the same keys is of the same facts
pub secrets_alike : (F : FactSet) (t u : BTreeSet SecretKey) → IsSecrets F t
    → ((k : SecretKey) → contains secret_cmp u k ≡ contains secret_cmp t k) → IsSecrets F u
secrets_alike F t u i same = record {
  listed = λ c l g q. same (secret_key c l g q) ∙ i.listed c l g q;
  ranged = λ c l g q h. i.ranged c l g q (sym (same (secret_key c l g q)) ∙ h);
  early = i.early;
}

-- ---- the loss of a fact

-- a table that has no key of the fact
pub secrets_less : (F G : FactSet) (d : Dot) (b : Body) (t : BTreeSet SecretKey) → OneMore F G d b
    → setting (change_in b) ≡ false → IsSecrets G t → IsSecrets F t
secrets_less F G d b t m none i = record {
  listed = λ c l g q. i.listed c l g q
      ∙ sym (set_on F G d b c l g q (is_left_to c l g (secret_at (map.get F) q)) m refl)
      ∙ ap (λ a. (a && is_at d q) || is_left_to c l g (secret_at (map.get F) q))
      (sets_none c l g (change_in b) none);
  ranged = i.ranged;
  early = λ q f h. i.early q f
      (ap (option_and_then secret_in)
      (m.there q
      (λ same. none_is_not_some f
      (sym (ap (option_and_then secret_in) (ap (map.get F) same ∙ m.free)) ∙ h)))
      ∙ h);
}
