-- The table of live consents after a consent was given, and after one was withdrawn. Key results:
--   unlisted       the table after the key of the consent at a dot was removed
--   give_row       the table after a consent was given
--   withdraw_row   the table after a consent was withdrawn
use Rattle.std.proofs.Math.Bool.{and-true as and_yes, and-false as and_no}
use Rattle.std.proofs.Common.{◌≡◌, ℕ, Bool, true, false, ◌&&◌, ◌||◌, not, cond, List, Option, Some}
use Rattle.std.proofs.Common.{None, refl, sym, ap, subst, ◌∙◌}
use Rattle.std.proofs.lemmas.Bool.{and_parts}
use Rattle.std.specs.BTreeSet.{BTreeSet, contains}
use Rattle.std.specs.FinMap as map
use Rattle.std.specs.Option.{option_map}
use Rattle.std.specs.Ordering.{eq_by_cmp}
use Rattle.std.specs.Str.{bytes_eq}
use Rattle.sha2.specs.Sha256.{sha256}
use Rattle.tk_handle.specs.declared.dot.Dot.{Dot}
use Rattle.tk_handle.specs.Dot.{IsDot, dot_cmp}
use Rattle.tk_fact.specs.declared.consent_given.ConsentGiven as given
use Rattle.tk_store.specs.FactSet.{FactSet}
use Rattle.tk_store.proofs.PutLaws.{some_injective, none_is_not_some}
use Rattle.tk_ledger.specs.Bodies.{is_same_dot}
use Rattle.tk_ledger.specs.Changes.{change_in, gives_to}
use Rattle.tk_ledger.specs.Clients.{consent_at, is_withdrawn}
use Rattle.tk_ledger.specs.Index.{is_at, consent_cmp, consent_key, key_of, is_from, is_key_at}
use Rattle.tk_ledger.specs.Index.{is_listed, IsConsents, IsWithdrawals}
use Rattle.tk_ledger.specs.declared.change.Change.TheVariants as change
use Rattle.tk_ledger.specs.declared.consent_keys.ConsentKey.{ConsentKey}
use Rattle.tk_ledger.proofs.ChangeLaws.{changed}
use Rattle.tk_ledger.proofs.TableChangeLaws.{consents_by}
use Rattle.tk_ledger.proofs.KeyLaws.{at_is_same, consent_tied}
use Rattle.tk_ledger.proofs.SameLaws.{same_dot-true}
use Rattle.tk_ledger.proofs.TableLaws.{given_on, ranged_on}

-- ---- one key less

-- a key is listed after a removal if it was listed before and isn't the removed one
removed : (x t : Bool) → cond x false t ≡ (t && not x)
removed true t = sym (and_no t)
removed false t = sym (and_yes t)

-- the last of three tests may be made first
turned : (a b c : Bool) → (a && (b && c)) ≡ (c && (a && b))
turned true b true = and_yes b
turned true b false = and_no b
turned false b c = sym (and_no c)

-- the key of the consent at a dot ties with those of equal dot, client and subject alone
key_is : (o : Option given.ConsentGiven) (d : Dot) (key k : ConsentKey)
    → Some key ≡ option_map (key_of d) o
    → eq_by_cmp consent_cmp key k ≡ (is_at d k.consent && is_from k.client k.subject o)
key_is None d key k h = absurd (none_is_not_some key (sym h))
key_is (Some c) d key k h =
    ap (λ (x : ConsentKey). eq_by_cmp consent_cmp x k) (some_injective key (key_of d c) h)
    ∙ consent_tied c.client k.client (sha256 c.subject) k.subject d k.consent
    ∙ turned (is_same_dot c.client k.client) (bytes_eq (sha256 c.subject) k.subject)
    (is_same_dot d k.consent)
    ∙ ap (λ x. x && is_from k.client k.subject (Some c)) (sym (at_is_same d k.consent))

-- the table without the key of the consent at a dot
pub unlisted : (F : FactSet) (d : Dot) (key k : ConsentKey) (before after : Bool)
    → Some key ≡ option_map (key_of d) (consent_at F d)
    → after ≡ cond (eq_by_cmp consent_cmp key k) false before
    → after ≡ (before && not (is_key_at F d k))
unlisted F d key k before after h r = r ∙ removed (eq_by_cmp consent_cmp key k) before
    ∙ ap (λ x. before && not x) (key_is (consent_at F d) d key k h)

-- ---- a consent that was given

-- the new key is listed unless its consent is withdrawn
pub give_row : (G : FactSet) (d client : Dot) (subject : List ℕ) (ws : BTreeSet Dot)
    (t u : BTreeSet ConsentKey)
    → option_map change_in (map.get G d) ≡ Some (change.Give client subject)
    → IsWithdrawals (map.remove G d) ws → IsConsents (map.remove G d) t → IsDot d → IsDot client
    → ((k : ConsentKey)
    → contains consent_cmp u k
    ≡ ((eq_by_cmp consent_cmp (consent_key client subject d) k && not (contains dot_cmp ws d))
    || contains consent_cmp t k))
    → IsConsents G u
give_row G d client subject ws t u h w i here there r =
    consents_by G d (change.Give client subject) t u h i
    (ranged_on t u d
    (λ e s. gives_to e s (change.Give client subject) && not (contains dot_cmp ws d)) here
    (λ e s new. subst (λ (x : Dot). IsDot x)
    (same_dot-true client e (and_parts (is_same_dot client e) (bytes_eq subject s)
    (and_parts (gives_to e s (change.Give client subject)) (not (contains dot_cmp ws d)) new).0).0)
    there)
    i.ranged own)
    (λ e s q. own e s q
    ∙ ap (λ x. x || is_listed t e s q)
    (moved (gives_to e s (change.Give client subject)) (is_same_dot d q) (contains dot_cmp ws d)
    (is_withdrawn (map.remove G d) q)
    (λ same. w d ∙ ap (is_withdrawn (map.remove G d)) (same_dot-true d q same)))
    ∙ ap (λ x. ((gives_to e s (change.Give client subject) && x)
    && not (is_withdrawn (map.remove G d) q))
    || is_listed t e s q) (sym (at_is_same d q))
    ∙ sym (and_yes _))
  where
    regroup : (a b c n : Bool) → ((a && (b && c)) && n) ≡ (((a && b) && n) && c)
    regroup true true true n = sym (and_yes n)
    regroup true true false n = sym (and_no n)
    regroup true false c n = refl
    regroup false b c n = refl

    own : (e : Dot) (s : List ℕ) (q : Dot)
        → is_listed u e s q
        ≡ (((gives_to e s (change.Give client subject) && not (contains dot_cmp ws d))
        && is_same_dot d q)
        || is_listed t e s q)
    own e s q = r (consent_key e s q)
        ∙ ap (λ x. (x && not (contains dot_cmp ws d)) || is_listed t e s q)
        (consent_tied client e subject s d q)
        ∙ ap (λ x. x || is_listed t e s q)
        (regroup (is_same_dot client e) (bytes_eq subject s) (is_same_dot d q)
        (not (contains dot_cmp ws d)))

    moved : (g s v w : Bool) → (s ≡ true → v ≡ w) → ((g && not v) && s) ≡ ((g && s) && not w)
    moved true true v w h = and_yes (not v) ∙ ap not (h refl)
    moved true false v w h = and_no (not v)
    moved false s v w h = refl

-- ---- a consent that was withdrawn

-- the key of a consent that is withdrawn is listed no more
pub withdraw_row : (G : FactSet) (d c : Dot) (t u : BTreeSet ConsentKey)
    → option_map change_in (map.get G d) ≡ Some (change.Withdraw c) → IsConsents (map.remove G d) t
    → ((k : ConsentKey)
    → contains consent_cmp u k ≡ (contains consent_cmp t k && not (is_key_at G c k)))
    → IsConsents G u
withdraw_row G d c t u h i r =
    consents_by G d (change.Withdraw c) t u h i
    (λ e s q listed.
    i.ranged e s q
    (and_parts (is_listed t e s q) (not (is_key_at G c (consent_key e s q)))
    (sym (r (consent_key e s q)) ∙ listed)).0)
    (λ e s q. r (consent_key e s q)
    ∙ gone (is_at c q) (is_from e s (consent_at (map.remove G d) q)) (is_from e s (consent_at G c))
    (is_listed t e s q) (not (is_withdrawn (map.remove G d) q)) (i.listed e s q)
    (λ same. given e s c
    ∙ ap (λ x. is_from e s (consent_at (map.remove G d) x))
    (same_dot-true c q (sym (at_is_same c q) ∙ same)))
    ∙ ap (λ x. is_listed t e s q && not x) (at_is_same c q))
  where
    given : (e : Dot) (s : List ℕ) (q : Dot)
        → is_from e s (consent_at G q) ≡ is_from e s (consent_at (map.remove G d) q)
    given e s q =
        let x = changed G d (change.Withdraw c) h in
        sym (given_on (map.remove G d) G d x.body e s q
        (is_from e s (consent_at (map.remove G d) q)) x.more refl)
        ∙ ap (λ z. (gives_to e s z && is_at d q) || is_from e s (consent_at (map.remove G d) q))
        x.is

    gone : (a f g x n : Bool) → x ≡ (f && n) → (a ≡ true → g ≡ f)
        → (x && not (a && g)) ≡ (x && not a)
    gone true f g x n h same =
        ap (λ z. x && not z) (same refl) ∙ ap (λ z. z && not f) h ∙ none f n ∙ sym (and_no x)
      where
        none : (f n : Bool) → ((f && n) && not f) ≡ false
        none true n = and_no n
        none false n = refl
    gone false f g x n h same = refl
