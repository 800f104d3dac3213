-- The table of logins follows the set when that gets one more fact, and when it loses one. Key
-- results:
--   login_row, same_logins      the table after a code was issued, and after any other change
--   logins_less, logins_kept    the table after the loss of a code, and of any other fact
--   login_dropped               the table after the key of a login was removed again
--   logins_alike                a table with the same keys
use Rattle.std.proofs.Common.{◌≡◌, inl, inr, ℕ, Bool, true, false, cond, ◌&&◌, ◌||◌, ◌==◌, Some}
use Rattle.std.proofs.Common.{None, refl, sym, ap, subst, ◌∙◌}
use Rattle.std.proofs.lemmas.Bool.{or_cases, and_parts}
use Rattle.std.specs.Option.{option_and_then, option_map}
use Rattle.std.specs.Ordering.{eq_by_cmp}
use Rattle.std.specs.BTreeSet.{BTreeSet, contains}
use Rattle.std.specs.FinMap as map
use Rattle.tk_handle.specs.declared.dot.Dot.{Dot}
use Rattle.tk_handle.specs.Dot.{IsDot}
use Rattle.tk_fact.specs.declared.body.Body.{Body}
use Rattle.tk_fact.specs.declared.body.Body.TheVariants.{CodeIssued}
use Rattle.tk_store.specs.FactSet.{FactSet}
use Rattle.tk_store.proofs.PutLaws.{none_is_not_some}
use Rattle.tk_store.proofs.OneMoreLaws.{OneMore}
use Rattle.tk_ledger.specs.Bodies.{is_same_dot}
use Rattle.tk_ledger.specs.Changes.{change_in}
use Rattle.tk_ledger.specs.Index.{is_at}
use Rattle.tk_ledger.specs.SubjectTables.{login_cmp, login_key, begins_under, is_listed_login}
use Rattle.tk_ledger.specs.SubjectTables.{IsLogins}
use Rattle.tk_ledger.specs.Tokens.{issued_in, issued_at}
use Rattle.tk_ledger.specs.declared.change.Change.{Change}
use Rattle.tk_ledger.specs.declared.change.Change.TheVariants as change
use Rattle.tk_ledger.specs.declared.subject_keys.LoginKey.{LoginKey}
use Rattle.tk_ledger.proofs.ChangeLaws.{changed, or_cond}
use Rattle.tk_ledger.proofs.KeyLaws.{at_is_same}
use Rattle.tk_ledger.proofs.LoginKeyLaws.{login_tied, login_tied-dot}
use Rattle.tk_ledger.proofs.SameLaws.{same_dot-true}
use Rattle.tk_ledger.proofs.SubjectTableLaws.{issuing, without}
use Rattle.tk_family.proofs.HangRemovalLaws.{less as fewer}
use Rattle.tk_ledger.proofs.TableLaws.{own_on}

-- ---- a change and its body begin the same login

-- the change issues a code under the prefix
abbrev pub begins : ℕ → Change → Bool
begins prefix (change.Issue own start) = own == prefix
begins prefix other = false

-- a body begins a login under a prefix exactly if its change does
begins-change : (prefix : ℕ) (b : Body)
    → begins_under prefix (issued_in b) ≡ begins prefix (change_in b)
begins-change prefix (CodeIssued x) = refl
begins-change prefix body = refl

-- a change that issues no code begins no login
begins_none : (prefix : ℕ) (y : Change) → issuing y ≡ None → begins prefix y ≡ false
begins_none prefix (change.Issue own start) h = absurd (none_is_not_some own (sym h))
begins_none prefix other h = refl

-- a login at a dot is begun by the new fact, or was before
begun_on : (F G : FactSet) (d : Dot) (b : Body) (prefix : ℕ) (q : Dot) (x : Bool)
    → OneMore F G d b
    → x ≡ begins_under prefix (issued_at (map.get F) q)
    → ((begins prefix (change_in b) && is_at d q) || x)
    ≡ begins_under prefix (issued_at (map.get G) q)
begun_on F G d b prefix q x m i =
    own_on d q (begins prefix (change_in b)) x
    (begins_under prefix (issued_at (map.get F) q)) (begins_under prefix (issued_at (map.get G) q))
    (λ same. ap (λ e. begins_under prefix (option_and_then issued_in e))
    (ap (map.get F) same ∙ m.free))
    (λ same. ap (λ e. begins_under prefix (option_and_then issued_in e))
    (ap (map.get G) same ∙ m.here)
    ∙ begins-change prefix b)
    (λ ne. ap (λ e. begins_under prefix (option_and_then issued_in e)) (m.there q ne))
    i

-- ---- one more fact

-- each login that is listed is at a dot in range
abbrev RangedLogins : BTreeSet LoginKey → Type 0
RangedLogins t = (prefix : ℕ) (d : Dot) → is_listed_login t prefix d ≡ true → IsDot d

-- the table of logins after any change
logins_by : (G : FactSet) (d : Dot) (y : Change) (t u : BTreeSet LoginKey)
    → option_map change_in (map.get G d) ≡ Some y → IsLogins (map.remove G d) t → RangedLogins u
    → ((prefix : ℕ) (q : Dot)
    → is_listed_login u prefix q ≡ ((begins prefix y && is_at d q) || is_listed_login t prefix q))
    → IsLogins G u
logins_by G d y t u h i ranged l = let x = changed G d y h in
    record {
      listed = λ g q. l g q
          ∙ ap (λ z. (begins g z && is_at d q) || is_listed_login t g q) (sym x.is)
          ∙ begun_on (map.remove G d) G d x.body g q (is_listed_login t g q) x.more (i.listed g q);
      ranged = ranged;
    }

-- a change that issues no code leaves the logins
pub same_logins : (G : FactSet) (d : Dot) (y : Change) (t : BTreeSet LoginKey)
    → option_map change_in (map.get G d) ≡ Some y → issuing y ≡ None → IsLogins (map.remove G d) t
    → IsLogins G t
same_logins G d y t h none i = logins_by G d y t t h i i.ranged
    (λ g q. sym (ap (λ b. (b && is_at d q) || is_listed_login t g q) (begins_none g y none)))

-- the table with the key of a login
pub login_row : (G : FactSet) (d : Dot) (prefix start : ℕ) (t u : BTreeSet LoginKey)
    → option_map change_in (map.get G d) ≡ Some (change.Issue prefix start)
    → IsLogins (map.remove G d) t → IsDot d
    → ((k : LoginKey)
    → contains login_cmp u k
    ≡ cond (eq_by_cmp login_cmp (login_key prefix d) k) true (contains login_cmp t k))
    → IsLogins G u
login_row G d prefix start t u h i here r =
    logins_by G d (change.Issue prefix start) t u h i ranged
    (λ g q. own g q
    ∙ ap (λ x. ((prefix == g) && x) || is_listed_login t g q) (sym (at_is_same d q)))
  where
    own : (g : ℕ) (q : Dot)
        → is_listed_login u g q
        ≡ (((prefix == g) && is_same_dot d q) || is_listed_login t g q)
    own g q = r (login_key g q)
        ∙ or_cond (eq_by_cmp login_cmp (login_key prefix d) (login_key g q))
        (is_listed_login t g q)
        ∙ ap (λ x. x || is_listed_login t g q) (login_tied prefix g d q)

    ranged : RangedLogins u
    ranged g q h = elim (or_cases ((prefix == g) && is_same_dot d q) (is_listed_login t g q)
        (sym (own g q) ∙ h)) [
          | inl new ↦ subst (λ (x : Dot). IsDot x)
              (same_dot-true d q (and_parts (prefix == g) (is_same_dot d q) new).1) here
          | inr old ↦ i.ranged g q old
        ]

-- a table with the same keys
pub logins_alike : (F : FactSet) (t u : BTreeSet LoginKey) → IsLogins F t
    → ((k : LoginKey) → contains login_cmp u k ≡ contains login_cmp t k) → IsLogins F u
logins_alike F t u i same = record {
  listed = λ g q. same (login_key g q) ∙ i.listed g q;
  ranged = λ g q h. i.ranged g q (sym (same (login_key g q)) ∙ h);
}

-- ---- one fact less

-- the loss of a fact that issued no code leaves the logins
pub logins_kept : (F G : FactSet) (d : Dot) (b : Body) (t : BTreeSet LoginKey) → OneMore F G d b
    → issuing (change_in b) ≡ None → IsLogins G t → IsLogins F t
logins_kept F G d b t m none i = record {
  listed = λ g q. i.listed g q
      ∙ sym (begun_on F G d b g q (begins_under g (issued_at (map.get F) q)) m refl)
      ∙ ap (λ a. (a && is_at d q) || begins_under g (issued_at (map.get F) q))
      (begins_none g (change_in b) none);
  ranged = i.ranged;
}

-- the table without the key of a login
pub logins_less : (F G : FactSet) (d : Dot) (b : Body) (prefix start : ℕ)
    (t u : BTreeSet LoginKey) → OneMore F G d b → change_in b ≡ change.Issue prefix start
    → IsLogins G t
    → ((k : LoginKey)
    → contains login_cmp u k
    ≡ cond (eq_by_cmp login_cmp (login_key prefix d) k) false (contains login_cmp t k))
    → IsLogins F u
logins_less F G d b prefix start t u m is i r = record {
  listed = listed;
  ranged = λ g q h. i.ranged g q
      (fewer (eq_by_cmp login_cmp (login_key prefix d) (login_key g q)) (is_listed_login t g q)
      (sym (r (login_key g q)) ∙ h));
}
  where
    before : (g : ℕ) (q : Dot)
        → is_listed_login t g q
        ≡ (eq_by_cmp login_cmp (login_key prefix d) (login_key g q)
        || begins_under g (issued_at (map.get F) q))
    before g q =
        i.listed g q
        ∙ sym (begun_on F G d b g q (begins_under g (issued_at (map.get F) q)) m refl)
        ∙ ap (λ y. (begins g y && is_at d q) || begins_under g (issued_at (map.get F) q)) is
        ∙ ap (λ a. ((prefix == g) && a) || begins_under g (issued_at (map.get F) q))
        (at_is_same d q)
        ∙ ap (λ a. a || begins_under g (issued_at (map.get F) q)) (sym (login_tied prefix g d q))

    gone : (g : ℕ) (q : Dot)
        → eq_by_cmp login_cmp (login_key prefix d) (login_key g q) ≡ true
        → begins_under g (issued_at (map.get F) q) ≡ false
    gone g q h =
        let same : d ≡ q = login_tied-dot prefix g d q h in
        ap (λ e. begins_under g (option_and_then issued_in e))
        (ap (map.get F) (sym same) ∙ m.free)

    listed : (g : ℕ) (q : Dot)
        → is_listed_login u g q ≡ begins_under g (issued_at (map.get F) q)
    listed g q =
        r (login_key g q)
        ∙ ap (λ x. cond (eq_by_cmp login_cmp (login_key prefix d) (login_key g q)) false x)
        (before g q)
        ∙ without (eq_by_cmp login_cmp (login_key prefix d) (login_key g q))
        (begins_under g (issued_at (map.get F) q)) (gone g q)

-- the table after the key of a login was removed again
pub login_dropped : (G : FactSet) (d : Dot) (prefix start : ℕ) (t u : BTreeSet LoginKey)
    → option_map change_in (map.get G d) ≡ Some (change.Issue prefix start) → IsLogins G t
    → ((k : LoginKey)
    → contains login_cmp u k
    ≡ cond (eq_by_cmp login_cmp (login_key prefix d) k) false (contains login_cmp t k))
    → IsLogins (map.remove G d) u
login_dropped G d prefix start t u h i r = let x = changed G d (change.Issue prefix start) h in
    logins_less (map.remove G d) G d x.body prefix start t u x.more x.is i r
