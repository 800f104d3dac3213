-- The tables of codes and of sign-outs follow the set when that gets one more fact. Key results:
--   codes_on, outs_on         the tables after any fact, by what it issues or signs out
--   codes_alike, outs_alike   a table with the same keys
use Rattle.std.proofs.Common.{◌≡◌, inl, inr, ℕ, ◌≤◌, Bool, true, false, cond, ◌&&◌, ◌||◌, ◌==◌}
use Rattle.std.proofs.Common.{List, Option, Some, None, refl, sym, ap, subst, ◌∙◌}
use Rattle.std.proofs.lemmas.Bool.{true≢false, or_cases, and_parts}
use Rattle.std.specs.Option.{option_and_then}
use Rattle.std.specs.Str.{bytes_eq}
use Rattle.std.specs.BTreeSet.{BTreeSet, contains}
use Rattle.std.specs.FinMap as map
use Rattle.tk_handle.specs.declared.dot.Dot.{Dot}
use Rattle.tk_handle.specs.Dot.{IsDot}
use Rattle.tk_handle.specs.Ranges.{max_moment}
use Rattle.tk_fact.specs.declared.body.Body.{Body}
use Rattle.tk_fact.specs.declared.body.Body.TheVariants.{CodeIssued, SubjectOut}
use Rattle.tk_fact.specs.declared.subject_out.SubjectOut as out
use Rattle.tk_store.specs.FactSet.{FactSet}
use Rattle.tk_store.proofs.PutLaws.{none_is_not_some, some_injective}
use Rattle.tk_store.proofs.OneMoreLaws.{OneMore, cases_dots}
use Rattle.tk_ledger.specs.Bodies.{is_same_dot}
use Rattle.tk_ledger.specs.Changes.{change_in}
use Rattle.tk_ledger.specs.Index.{is_at}
use Rattle.tk_ledger.specs.SignOuts.{sign_out_in, sign_out_at}
use Rattle.tk_ledger.specs.SubjectTables.{code_cmp, code_key, is_to, is_listed_code, IsCodes}
use Rattle.tk_ledger.specs.SubjectTables.{out_cmp, out_key, left_after, is_left_by, is_listed_out}
use Rattle.tk_ledger.specs.SubjectTables.{IsOuts}
use Rattle.tk_ledger.specs.Tokens.{issued_in, issued_at}
use Rattle.tk_ledger.specs.declared.change.Change.{Change}
use Rattle.tk_ledger.specs.declared.change.Change.TheVariants as change
use Rattle.tk_ledger.specs.declared.subject_keys.CodeKey.{CodeKey}
use Rattle.tk_ledger.specs.declared.subject_keys.OutKey.{OutKey}
use Rattle.tk_ledger.proofs.ForestLaws.{signs}
use Rattle.tk_ledger.proofs.SameLaws.{same_dot-true}
use Rattle.tk_ledger.proofs.TableLaws.{own_on}

-- ---- a change and its body have the same code and sign-out

-- the change issues a code under the prefix, which starts at `start`
abbrev pub issues_to : ℕ → ℕ → Change → Bool
issues_to prefix start (change.Issue own from) = (own == prefix) && (from == start)
issues_to prefix start other = false

-- a body issues a code under a prefix, from a start, exactly if its change does
issues-change : (prefix start : ℕ) (b : Body)
    → is_to prefix start (issued_in b) ≡ issues_to prefix start (change_in b)
issues-change prefix start (CodeIssued x) = refl
issues-change prefix start body = refl

-- the prefix of the code that a change issues
abbrev pub issuing : Change → Option ℕ
issuing (change.Issue prefix start) = Some prefix
issuing other = None

-- a change that issues no code issues none under a prefix
pub issues_none : (prefix start : ℕ) (y : Change) → issuing y ≡ None
    → issues_to prefix start y ≡ false
issues_none prefix start (change.Issue own from) h = absurd (none_is_not_some own (sym h))
issues_none prefix start other h = refl

-- the change signs out a subject with the digest, with `left` seconds left after the moment
abbrev pub signs_out_by : List ℕ → ℕ → Change → Bool
signs_out_by subject left (change.SignOut digest moment) =
    bytes_eq digest subject && (left_after moment == left)
signs_out_by subject left other = false

-- a body signs a subject out exactly if its change does
signs_out-change : (subject : List ℕ) (left : ℕ) (b : Body)
    → is_left_by subject left (sign_out_in b) ≡ signs_out_by subject left (change_in b)
signs_out-change subject left (SubjectOut x) = refl
signs_out-change subject left body = refl

-- a change that signs nobody out signs no subject out
pub signs_none : (subject : List ℕ) (left : ℕ) (y : Change) → signs y ≡ false
    → signs_out_by subject left y ≡ false
signs_none subject left (change.SignOut digest moment) h = absurd (true≢false h)
signs_none subject left other h = refl

-- the moment of the sign-out of a change
abbrev pub moment_of : Change → Option ℕ
moment_of (change.SignOut digest moment) = Some moment
moment_of other = None

-- the moment of a sign-out in a body is that of its change
moment-change : (b : Body) (f : out.SubjectOut) → sign_out_in b ≡ Some f
    → moment_of (change_in b) ≡ Some f.moment
moment-change (SubjectOut x) f h = ap (λ (c : out.SubjectOut). Some c.moment) (some_injective x f h)
moment-change body f h = absurd (none_is_not_some f h)

-- ---- codes

-- each code that is listed is at a dot in range
abbrev pub RangedCodes : BTreeSet CodeKey → Type 0
RangedCodes t =
    (prefix start : ℕ) (d : Dot) → is_listed_code t prefix start d ≡ true → IsDot d

-- a code at a dot is the new fact's, or one from before
pub issued_on : (F G : FactSet) (d : Dot) (b : Body) (prefix start : ℕ) (q : Dot)
    (x : Bool)
    → OneMore F G d b
    → x ≡ is_to prefix start (issued_at (map.get F) q)
    → ((issues_to prefix start (change_in b) && is_at d q) || x)
    ≡ is_to prefix start (issued_at (map.get G) q)
issued_on F G d b prefix start q x m i =
    own_on d q (issues_to prefix start (change_in b)) x
    (is_to prefix start (issued_at (map.get F) q)) (is_to prefix start (issued_at (map.get G) q))
    (λ same. ap (λ e. is_to prefix start (option_and_then issued_in e))
    (ap (map.get F) same ∙ m.free))
    (λ same. ap (λ e. is_to prefix start (option_and_then issued_in e))
    (ap (map.get G) same ∙ m.here)
    ∙ issues-change prefix start b)
    (λ ne. ap (λ e. is_to prefix start (option_and_then issued_in e)) (m.there q ne))
    i

-- the table of codes follows the set with one more fact
pub codes_on : (F G : FactSet) (d : Dot) (b : Body) (t u : BTreeSet CodeKey) → OneMore F G d b
    → IsCodes F t → RangedCodes u
    → ((prefix start : ℕ) (q : Dot)
    → is_listed_code u prefix start q
    ≡ ((issues_to prefix start (change_in b) && is_at d q) || is_listed_code t prefix start q))
    → IsCodes G u
codes_on F G d b t u m i ranged l = record {
  listed = λ prefix start q. l prefix start q
      ∙ issued_on F G d b prefix start q (is_listed_code t prefix start q) m
      (i.listed prefix start q);
  ranged = ranged;
}

-- codes that are newly listed are in range if their dot is
pub codes_ranged : (t u : BTreeSet CodeKey) (d : Dot) (n : ℕ → ℕ → Bool) → IsDot d
    → RangedCodes t
    → ((prefix start : ℕ) (q : Dot)
    → is_listed_code u prefix start q
    ≡ ((n prefix start && is_same_dot d q) || is_listed_code t prefix start q))
    → RangedCodes u
codes_ranged t u d n here before l prefix start q h = elim (or_cases
    (n prefix start && is_same_dot d q) (is_listed_code t prefix start q)
    (sym (l prefix start q) ∙ h)) [
      | inl new ↦ subst (λ (x : Dot). IsDot x)
          (same_dot-true d q (and_parts (n prefix start) (is_same_dot d q) new).1) here
      | inr old ↦ before prefix start q old
    ]

-- a table of codes with the same keys is of the same facts
pub codes_alike : (F : FactSet) (t u : BTreeSet CodeKey) → IsCodes F t
    → ((k : CodeKey) → contains code_cmp u k ≡ contains code_cmp t k) → IsCodes F u
codes_alike F t u i same = record {
  listed = λ prefix start q. same (code_key prefix start q) ∙ i.listed prefix start q;
  ranged =
      λ prefix start q h. i.ranged prefix start q (sym (same (code_key prefix start q)) ∙ h);
}

-- a key that was put in and removed again leaves the other keys
pub without : (a b : Bool) → (a ≡ true → b ≡ false) → cond a false (a || b) ≡ b
without true b h = sym (h refl)
without false b h = refl

-- ---- sign-outs

-- each sign-out that is listed is at a dot in range
abbrev pub RangedOuts : BTreeSet OutKey → Type 0
RangedOuts t =
    (subject : List ℕ) (left : ℕ) (d : Dot) → is_listed_out t subject left d ≡ true → IsDot d

-- a sign-out at a dot is the new fact's, or one from before
pub signed_on : (F G : FactSet) (d : Dot) (b : Body) (subject : List ℕ) (left : ℕ) (q : Dot)
    (x : Bool)
    → OneMore F G d b
    → x ≡ is_left_by subject left (sign_out_at (map.get F) q)
    → ((signs_out_by subject left (change_in b) && is_at d q) || x)
    ≡ is_left_by subject left (sign_out_at (map.get G) q)
signed_on F G d b subject left q x m i =
    own_on d q (signs_out_by subject left (change_in b)) x
    (is_left_by subject left (sign_out_at (map.get F) q))
    (is_left_by subject left (sign_out_at (map.get G) q))
    (λ same. ap (λ e. is_left_by subject left (option_and_then sign_out_in e))
    (ap (map.get F) same ∙ m.free))
    (λ same. ap (λ e. is_left_by subject left (option_and_then sign_out_in e))
    (ap (map.get G) same ∙ m.here)
    ∙ signs_out-change subject left b)
    (λ ne. ap (λ e. is_left_by subject left (option_and_then sign_out_in e)) (m.there q ne))
    i

-- the change signs out nobody after the greatest moment
abbrev pub IsEarly : Change → Type 0
IsEarly (change.SignOut digest moment) = moment ≤ max_moment
IsEarly other = Unit {0}

-- a change that signs nobody out signs nobody out after the greatest moment
pub unsigned_early : (y : Change) → signs y ≡ false → IsEarly y
unsigned_early (change.SignOut digest moment) h = absurd (true≢false h)
unsigned_early other h = tt

-- the moment of a sign-out whose change is early enough is at most the greatest
early_moment : (y : Change) (moment : ℕ) → moment_of y ≡ Some moment → IsEarly y
    → moment ≤ max_moment
early_moment (change.SignOut digest n) moment h early =
    subst (λ (m : ℕ). m ≤ max_moment) (some_injective n moment h) early
early_moment other moment h early = absurd (none_is_not_some moment h)

-- the table of sign-outs follows the set with one more fact
pub outs_on : (F G : FactSet) (d : Dot) (b : Body) (t u : BTreeSet OutKey) → OneMore F G d b
    → IsOuts F t → RangedOuts u → IsEarly (change_in b)
    → ((subject : List ℕ) (left : ℕ) (q : Dot)
    → is_listed_out u subject left q
    ≡ ((signs_out_by subject left (change_in b) && is_at d q) || is_listed_out t subject left q))
    → IsOuts G u
outs_on F G d b t u m i ranged early l = record {
  listed = λ subject left q. l subject left q
      ∙ signed_on F G d b subject left q (is_listed_out t subject left q) m
      (i.listed subject left q);
  ranged = ranged;
  early = λ q f h. elim (cases_dots q d) [
    | inl same ↦ early_moment (change_in b) f.moment
        (moment-change b f
        (sym (ap (option_and_then sign_out_in) (ap (map.get G) same ∙ m.here)) ∙ h)) early
    | inr ne ↦ i.early q f (sym (ap (option_and_then sign_out_in) (m.there q ne)) ∙ h)
  ];
}

-- sign-outs that are newly listed are in range if their dot is
pub outs_ranged : (t u : BTreeSet OutKey) (d : Dot) (n : List ℕ → ℕ → Bool) → IsDot d → RangedOuts t
    → ((subject : List ℕ) (left : ℕ) (q : Dot)
    → is_listed_out u subject left q
    ≡ ((n subject left && is_same_dot d q) || is_listed_out t subject left q))
    → RangedOuts u
outs_ranged t u d n here before l subject left q h = elim (or_cases
    (n subject left && is_same_dot d q) (is_listed_out t subject left q)
    (sym (l subject left q) ∙ h)) [
      | inl new ↦ subst (λ (x : Dot). IsDot x)
          (same_dot-true d q (and_parts (n subject left) (is_same_dot d q) new).1) here
      | inr old ↦ before subject left q old
    ]

-- a table of sign-outs with the same keys is of the same facts
pub outs_alike : (F : FactSet) (t u : BTreeSet OutKey) → IsOuts F t
    → ((k : OutKey) → contains out_cmp u k ≡ contains out_cmp t k) → IsOuts F u
outs_alike F t u i same = record {
  listed = λ subject left q. same (out_key subject left q) ∙ i.listed subject left q;
  ranged = λ subject left q h. i.ranged subject left q (sym (same (out_key subject left q)) ∙ h);
  early = i.early;
}
