-- The version of items is in the table, and shows which sorts of items are among them (own). Key
-- results:
--   version_known   the version of items is in the table: every kind has a version
--   version_tells   the digit of items, by whether runs, marks, sign-outs, and facts of clients
--                   that keep their refresh tokens or have lives are among them
--   horizon_told    the version of items has a horizon exactly if it has runs, or one is a mark
--   runs_told       the version of items has runs exactly if marks are spelled as runs
--   facts_told      no mark is among facts
use Rattle.std.proofs.Common.{◌≡◌, ℕ, ◌≤◌, Bool, true, false, ◌&&◌, ◌||◌, not, max}
use Rattle.std.proofs.Common.{nat_le}
use Rattle.std.proofs.Common.{[], ◌∷◌, map, Option, Some, None, refl, sym, ap, ◌∙◌, arith}
use Rattle.std.specs.List.{list_any}
use Rattle.std.proofs.lemmas.Bool.Decides.{nat_tests}
use Rattle.std.proofs.Math.Bool.{and-true}
use Rattle.tk_handle.specs.declared.dot.Dot.{Dot}
use Rattle.tk_fact.specs.Administered.{by_of}
use Rattle.tk_fact.specs.declared.by.By.{By}
use Rattle.tk_fact.specs.declared.client_kind.ClientKind.{ClientKind}
use Rattle.tk_fact.specs.declared.client_kind.ClientKind.TheVariants.{
  Public,
  Confidential,
  Resource,
  Keeping,
}
use Rattle.tk_fact.specs.declared.client_lives.ClientLives.{ClientLives}
use Rattle.tk_fact.specs.declared.body.Body.{Body}
use Rattle.tk_fact.specs.declared.body.Body.TheVariants as bodies
use Rattle.tk_store.specs.FactSet.{Facts}
use Rattle.tk_store.specs.Slots.{Slot, Held, Skipped}
use Rattle.tk_store.specs.WholeStores.{as_slot}
use Rattle.tk_bundle.specs.BundleFields.{Items, is_mark}
use Rattle.tk_bundle.specs.Bundle.{digit_told}
use Rattle.tk_bundle.specs.Versions.{kind_of_client, is_newer_client, kind_of, kind_in, newest_kind}
use Rattle.tk_bundle.specs.Versions.{version_with, bare_kind_of, kind_by, is_newer_bare}
use Rattle.tk_bundle.specs.Versions.{is_newer_by}
use Rattle.tk_bundle.specs.Versions.{version_of, is_version, has_horizon, has_runs, is_newer}
use Rattle.tk_bundle.specs.Versions.{is_sign_out}

-- All kinds are in the table; the kinds up to 10 are those of facts without a client that keeps its
-- refresh token or has lives, without a change of a secret, and without an operator; the kinds up
-- to
-- 9, those of these without sign-outs
record KindTold (kind : ℕ) (newer out : Bool) : Type 0 where
  known : kind ≤ 23
  up_to_10 : nat_le kind 10 ≡ not newer
  up_to_9 : nat_le kind 9 ≡ (not newer && not out)

-- the registration of a client
registered : (kind : ClientKind) (lives : Option ClientLives)
    → KindTold (kind_of_client kind lives) (is_newer_client kind lives) false
registered kind (Some lives) = record { known = omega arith; up_to_10 = refl; up_to_9 = refl }
registered Public None = record { known = omega arith; up_to_10 = refl; up_to_9 = refl }
registered (Confidential d) None = record { known = omega arith; up_to_10 = refl; up_to_9 = refl }
registered (Resource d) None = record { known = omega arith; up_to_10 = refl; up_to_9 = refl }
registered (Keeping d) None = record { known = omega arith; up_to_10 = refl; up_to_9 = refl }

-- a kind that the first version has
plain : (kind : ℕ) → kind ≤ 9 → KindTold kind false false
plain kind low = record {
  known = omega (arith, low);
  up_to_10 = grind (arith, nat_tests);
  up_to_9 = grind (arith, nat_tests);
}

-- the kind of a fact, its operator aside, shows whether it is newer and whether a sign-out
bare_kind : (d : Dot) (b : Body)
    → KindTold (bare_kind_of b) (is_newer_bare b) (is_sign_out (d, Held b))
bare_kind d (bodies.ClientAdded f) = registered f.client_kind f.lives
bare_kind d (bodies.ClientRetired f) = plain 2 (omega arith)
bare_kind d (bodies.ConsentGiven f) = plain 3 (omega arith)
bare_kind d (bodies.ConsentWithdrawn f) = plain 4 (omega arith)
bare_kind d (bodies.CodeIssued f) = plain 5 (omega arith)
bare_kind d (bodies.CodeRedeemed f) = plain 6 (omega arith)
bare_kind d (bodies.RefreshRotated f) = plain 7 (omega arith)
bare_kind d (bodies.TokenRevoked f) = plain 8 (omega arith)
bare_kind d (bodies.ReuseSeen f) = plain 9 (omega arith)
bare_kind d (bodies.SubjectOut f) =
    record { known = omega arith; up_to_10 = refl; up_to_9 = refl }
bare_kind d (bodies.AccessRefreshed f) =
    record { known = omega arith; up_to_10 = refl; up_to_9 = refl }
bare_kind d (bodies.SecretSet f) =
    record { known = omega arith; up_to_10 = refl; up_to_9 = refl }

-- a kind, or the newest if an operator is named
named_kind : (kind : ℕ) (newer out : Bool) (o : Option By) → KindTold kind newer out
    → KindTold (kind_by kind o) (is_newer_by newer o) out
named_kind kind newer out None h = h
named_kind kind newer out (Some by) h =
    record { known = omega arith; up_to_10 = refl; up_to_9 = refl }

-- the kind of a fact shows whether it is newer and whether a sign-out
fact_kind : (d : Dot) (b : Body)
    → KindTold (kind_of b) (is_newer (d, Held b)) (is_sign_out (d, Held b))
fact_kind d b = named_kind (bare_kind_of b) (is_newer_bare b) (is_sign_out (d, Held b)) (by_of b)
    (bare_kind d b)

-- the kind of an item shows whether it is newer and whether a sign-out
kind_told : (i : Dot × Slot) → KindTold (kind_in i.1) (is_newer i) (is_sign_out i)
kind_told (d, Held b) = fact_kind d b
kind_told (d, Skipped) = plain 0 (omega arith)

-- the greater of two numbers is within a limit exactly if both are
greater : (limit m n : ℕ) → nat_le (max m n) limit ≡ (nat_le m limit && nat_le n limit)
greater limit m n = grind (arith, nat_tests)

-- without one and without another is without either of the two
either : (low a b : Bool) → ((low && not a) && not b) ≡ (low && not (a || b))
either true true b = refl
either true false b = refl
either false a b = refl

-- the newest kind is in the table
newest_known : (last : ℕ) (items : Items) → last ≤ 23 → newest_kind last items ≤ 23
newest_known last [] low = low
newest_known last (i ∷ more) low =
    newest_known (max last (kind_in i.1)) more (omega (arith, (kind_told i).known))

-- the newest kind is at most 10 exactly if no item is of a client that keeps its refresh token or
-- has lives, or a change of a secret, or names an operator
newest_newer : (last : ℕ) (items : Items)
    → nat_le (newest_kind last items) 10 ≡ (nat_le last 10 && not (list_any is_newer items))
newest_newer last [] = sym (and-true (nat_le last 10))
newest_newer last (i ∷ more) =
    newest_newer (max last (kind_in i.1)) more
    ∙ ap (λ t. t && not (list_any is_newer more)) (greater 10 last (kind_in i.1))
    ∙ ap (λ t. (nat_le last 10 && t) && not (list_any is_newer more)) (kind_told i).up_to_10
    ∙ either (nat_le last 10) (is_newer i) (list_any is_newer more)

-- the newest kind is at most 9 exactly if no item is one of these or a sign-out
newest_told : (last : ℕ) (items : Items) → nat_le (newest_kind last items) 9
    ≡ (nat_le last 9 && (not (list_any is_newer items) && not (list_any is_sign_out items)))
newest_told last [] = sym (and-true (nat_le last 9))
newest_told last (i ∷ more) =
    newest_told (max last (kind_in i.1)) more
    ∙ ap (λ t. t && (not (list_any is_newer more) && not (list_any is_sign_out more)))
    (greater 9 last (kind_in i.1))
    ∙ ap (λ t. (nat_le last 9 && t) && (not (list_any is_newer more)
    && not (list_any is_sign_out more))) (kind_told i).up_to_9
    ∙ sorted (nat_le last 9) (is_newer i) (is_sign_out i) (list_any is_newer more)
    (list_any is_sign_out more)
  where
    sorted : (low a o b p : Bool) → ((low && (not a && not o)) && (not b && not p))
        ≡ (low && (not (a || b) && not (o || p)))
    sorted true true o b p = refl
    sorted true false true true p = refl
    sorted true false true false p = refl
    sorted true false false b p = refl
    sorted false a o b p = refl

-- the digit by the newest kind, and by whether there are marks and runs
by_kind : (kind : ℕ) (runs newer marked out : Bool) → kind ≤ 23 → nat_le kind 10 ≡ not newer
    → nat_le kind 9 ≡ (not newer && not out)
    → version_with kind marked runs ≡ digit_told runs newer marked out
by_kind kind true newer true out low k o = grind (arith, nat_tests)
by_kind kind true newer false out low k o = grind (arith, nat_tests)
by_kind kind false true true out low k o = grind (arith, nat_tests)
by_kind kind false true false out low k o = grind (arith, nat_tests)
by_kind kind false false true true low k o = grind (arith, nat_tests)
by_kind kind false false true false low k o = grind (arith, nat_tests)
by_kind kind false false false true low k o = grind (arith, nat_tests)
by_kind kind false false false false low k o = grind (arith, nat_tests)

-- the digit of items, by which sorts of items are among them, and whether there are runs
pub version_tells : (runs : Bool) (items : Items) → version_of runs items
    ≡ digit_told runs (list_any is_newer items) (list_any is_mark items)
    (list_any is_sign_out items)
version_tells runs items =
    by_kind (newest_kind 0 items) runs (list_any is_newer items) (list_any is_mark items)
    (list_any is_sign_out items) (newest_known 0 items (omega arith)) (newest_newer 0 items)
    (newest_told 0 items)

-- the version of items is in the table
pub version_known : (runs : Bool) (items : Items) → is_version (version_of runs items) ≡ true
unfolding is_version
version_known runs items =
    ap is_version (version_tells runs items)
    ∙ known runs (list_any is_newer items) (list_any is_mark items) (list_any is_sign_out items)
  where
    known : (runs newer marked out : Bool) → is_version (digit_told runs newer marked out) ≡ true
    known true newer marked out = refl
    known false true true out = refl
    known false true false out = refl
    known false false true out = refl
    known false false false true = refl
    known false false false false = refl

-- the version of items has a horizon exactly if it has runs, or one of the items is a mark
pub horizon_told : (runs : Bool) (items : Items)
    → has_horizon (version_of runs items) ≡ (runs || list_any is_mark items)
unfolding has_horizon
horizon_told runs items =
    ap has_horizon (version_tells runs items)
    ∙ told runs (list_any is_newer items) (list_any is_mark items) (list_any is_sign_out items)
  where
    told : (runs newer marked out : Bool)
        → has_horizon (digit_told runs newer marked out) ≡ (runs || marked)
    told true newer marked out = refl
    told false true true out = refl
    told false true false out = refl
    told false false true out = refl
    told false false false true = refl
    told false false false false = refl

-- the version of items has runs exactly if marks are spelled as runs
pub runs_told : (runs : Bool) (items : Items) → has_runs (version_of runs items) ≡ runs
unfolding has_runs
runs_told runs items =
    ap has_runs (version_tells runs items)
    ∙ told runs (list_any is_newer items) (list_any is_mark items) (list_any is_sign_out items)
  where
    told : (runs newer marked out : Bool) → has_runs (digit_told runs newer marked out) ≡ runs
    told true newer marked out = refl
    told false true true out = refl
    told false true false out = refl
    told false false true out = refl
    told false false false true = refl
    told false false false false = refl

-- no mark is among facts
pub facts_told : (fs : Facts) → list_any is_mark (map as_slot fs) ≡ false
facts_told [] = refl
facts_told (f ∷ fs) = facts_told fs
