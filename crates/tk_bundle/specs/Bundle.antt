-- A bundle's bytes (own): the magic, a digit for the version, the horizon if the version has one, a
-- count, and the items behind their lengths, strictly ascending by dot. In a version with runs,
-- marks that follow one another are one piece.
--   magic           the bytes with which a bundle begins
--   max_items      the greatest number of items in a bundle
--   ascends         the dots of a list rise
--   marked          a value behind a byte that the value determines
--   items_by        the items of a bundle, without runs or with them
--   bundle          the spelling of a bundle
--   bundle_bytes    the bytes of a bundle
--   digit_told      the digit that shows which of three sorts of items are inside, and runs
--   VersionsTold    a bundle's first four bytes show whether runs, marks, sign-outs, and facts of
--                   clients that keep their refresh tokens, have lives, or changed their secrets
--                   are inside
use Rattle.std.specs.Prelude.{◌≡◌, ℕ, Bool, true, false, ◌&&◌, nat_le, ◌==◌, List, [], ◌∷◌, ◌++◌}
use Rattle.std.specs.Prelude.{take}
use Rattle.std.specs.Prelude.{Option, Some, None, if◌then◌else◌}
use Rattle.std.specs.Int.{w16}
use Rattle.std.specs.List.{list_any}
use Rattle.std.specs.Option.{option_map_or}
use Rattle.std.specs.Ordering.{is_lt}
use Rattle.tk_format.specs.Format.{◌>>=◌, ◌⊗◌, Format, number, byte, only, after, counted, shaped}
use Rattle.tk_handle.specs.declared.dot.Dot.{Dot}
use Rattle.tk_handle.specs.Dot.{dot_cmp}
use Rattle.tk_handle.specs.Moment.{moment}
use Rattle.tk_bundle.specs.BundleFields.{BundleFields, Items, is_mark}
use Rattle.tk_bundle.specs.Items.{item}
use Rattle.tk_bundle.specs.PieceBytes.{pieced_items}
use Rattle.tk_bundle.specs.Versions.{version_of, has_horizon, has_runs, is_newer, is_sign_out}

-- the dots of the list rise, and are above the given dot, if one is given
abbrev pub ascends : Option Dot → Items → Bool
ascends last [] = true
ascends None (i ∷ more) = ascends (Some i.0) more
ascends (Some d) (i ∷ more) = is_lt (dot_cmp d i.0) && ascends (Some i.0) more

-- the letters OTB
abbrev pub magic : List ℕ
magic = 79 ∷ 84 ∷ 66 ∷ []

-- the greatest number of items in a bundle without runs
abbrev pub max_items : ℕ
max_items = 128

-- a value behind a byte that the value determines by `mark`; the byte determines the format
abbrev pub marked : {A : Type 0} → (A → ℕ) → (ℕ → Format A) → Format A
marked mark f = record {
  spell = λ a. mark a ∷ (f (mark a)).spell a;
  Fits = λ a. (f (mark a)).Fits a;
  read = λ bytes. byte.read bytes >>= λ m. (f m.0).read m.1 >>= λ a. if m.0 == mark a.0
      then Some a else None;
}

-- a count of at most 128, and that many items, each behind its length
abbrev pub counted_items : Format Items
counted_items = counted (only (λ n. nat_le n max_items) (number w16)) item

-- the items, without runs or with them
abbrev pub items_by : Bool → Format Items
items_by false = counted_items
items_by true = pieced_items

-- whether a bundle has runs: no byte of its own shows that, but the version
abbrev pub runs_field : ℕ → Format Bool
runs_field digit = record {
  spell = λ runs. [];
  Fits = λ runs. runs ≡ has_runs digit;
  read = λ bytes. Some (has_runs digit, bytes);
}

-- the bytes of a horizon, if there is one
abbrev pub horizon_bytes : Option ℕ → List ℕ
horizon_bytes horizon = option_map_or moment.spell horizon []

-- a horizon is there exactly if the version has one
abbrev pub HorizonFits : ℕ → Option ℕ → Type 0
HorizonFits digit None = has_horizon digit ≡ false
HorizonFits digit (Some horizon) = moment.Fits horizon × (has_horizon digit ≡ true)

-- the horizon of a bundle, a moment, if the version has one
abbrev pub horizon_field : ℕ → Format (Option ℕ)
horizon_field digit = record {
  spell = horizon_bytes;
  Fits = HorizonFits digit;
  read = λ bytes. if has_horizon digit then (moment.read bytes >>= λ m. Some (Some m.0, m.1))
      else Some (None, bytes);
}

-- the horizon and the items of a bundle of this version
abbrev pub contents : ℕ → Format BundleFields
contents digit = shaped (λ p. record { horizon = p.1.0; runs = p.0; items = p.1.1 })
    (λ b. (b.runs, (b.horizon, b.items)))
    (runs_field digit ⊗ horizon_field digit ⊗ items_by (has_runs digit))

-- the digit of the version of the items, and what follows it
abbrev pub versioned : Format BundleFields
versioned = marked (λ b. version_of b.runs b.items) contents

-- the magic, and what is behind it
abbrev pub listed : Format BundleFields
listed = after magic versioned

-- the spelling of a bundle: items that rise by dot, behind the magic
abbrev pub bundle : Format BundleFields
bundle = only (λ b. ascends None b.items) listed

-- the bytes of a bundle
abbrev pub bundle_bytes : BundleFields → List ℕ
bundle_bytes b = bundle.spell b

-- the digit by whether runs, facts of clients that keep their refresh tokens or have lives, marks,
-- and sign-outs are inside
abbrev pub digit_told : Bool → Bool → Bool → Bool → ℕ
digit_told runs newer marked out =
    if runs then 54
    else if newer then (if marked then 53 else 52)
    else if marked then 51
    else if out then 50
    else 49

-- A bundle with runs begins with OTB6. Another bundle with the registration of a client that keeps
-- its refresh token or has lives, with an access token that was refreshed for one that keeps it, or
-- with a change of a client's secret, begins with OTB5 if one of its items is a mark, otherwise
-- with OTB4. Any other begins with OTB3 if one of its items is a mark, otherwise with OTB2 if one
-- is a sign-out, otherwise with OTB1
abbrev pub VersionsTold : Type 0
VersionsTold =
    (b : BundleFields) → take 4 (bundle_bytes b) ≡ magic
    ++ digit_told b.runs (list_any is_newer b.items) (list_any is_mark b.items)
    (list_any is_sign_out b.items) ∷ []
