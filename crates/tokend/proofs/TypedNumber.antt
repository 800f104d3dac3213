-- A number that a typed getter read, or didn't read. Key result: none_between.
use Rattle.std.proofs.Common.{◌≡◌, ◌<◌, ◌^◌, ℕ, List, Option, Some, None, Result, Ok, Err, refl}
use Rattle.std.proofs.Common.{sym, ◌∙◌, arith}
use Rattle.std.specs.Prelude.{IfSome, IfNone}
use Rattle.clap.specs.Words.{Row, one_text, rows_of}
use Rattle.clap.specs.Matches.{ReadsOne}
use Rattle.clap.specs.declared.parser.matches.Found.{Found}
use Rattle.clap.proofs.WalkLemmas.{one_text-rows}
use Rattle.tokend.specs.CommandLine.{IsDecimal, ReadsNumber, HasNumber}

-- a number that is read of an argument is the one that its text spells
pub number_read : {E : Type 0} (gives : List ℕ → Result ℕ E → Type 0) (f : Found) (id : List ℕ)
    (r : Option ℕ)
    → ((t : List ℕ) (n : ℕ) → gives t (Ok n) → IsDecimal t n)
    → (one_text f id ≡ None → r ≡ None)
    → ((t : List ℕ) → one_text f id ≡ Some t → ReadsOne gives t r)
    → IfSome r (ReadsNumber (rows_of f) id)
number_read gives f id r digits none value =
    elim (one_text f id) as (λ o. one_text f id ≡ o → IfSome r (ReadsNumber (rows_of f) id)) [
      | None ↦ λ e. absent r (none e)
      | Some t ↦ λ e. present r t e (value t e)
    ] refl
  where
    absent : (r : Option ℕ) → r ≡ None → IfSome r (ReadsNumber (rows_of f) id)
    absent None e = tt
    absent (Some n) e = absurd (cc)

    present : (r : Option ℕ) (t : List ℕ) → one_text f id ≡ Some t → ReadsOne gives t r
        → IfSome r (ReadsNumber (rows_of f) id)
    present None t e h = tt
    present (Some n) t e h = (t, sym (one_text-rows f id) ∙ e, digits t n h)

-- if no number is read of an argument, its text spells none
pub number_unread : {E : Type 0} (gives : List ℕ → Result ℕ E → Type 0) (f : Found) (id : List ℕ)
    (r : Option ℕ)
    → ((t : List ℕ) (e : E) (n : ℕ) → gives t (Err e) → n < 2 ^ 64 → ¬ (IsDecimal t n))
    → ((t : List ℕ) → one_text f id ≡ Some t → ReadsOne gives t r)
    → IfNone r ((n : ℕ) → n < 2 ^ 64 → ¬ (ReadsNumber (rows_of f) id n))
number_unread gives f id (Some x) digits value = tt
number_unread gives f id None digits value = λ n lt h.
    let failed = value h.0 (one_text-rows f id ∙ h.1) in
    digits h.0 failed.0 n failed.1 lt h.2

-- no number between the ends is under the id, if no number is
pub none_between : (rows : List Row) (id : List ℕ) (least greatest : ℕ) (r : Option ℕ)
    → greatest < 2 ^ 64
    → ((n : ℕ) → n < 2 ^ 64 → ¬ (ReadsNumber rows id n))
    → IfNone r ((n : ℕ) → ¬ (HasNumber rows id least greatest n))
none_between rows id least greatest (Some x) fits none = tt
none_between rows id least greatest None fits none = λ n h. none n (omega (h.2, fits, arith)) h.0
