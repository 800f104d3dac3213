-- Values of which a field may stand behind the others (own): a value with it has another number
-- than
-- one without it, so that facts that were written without it keep their bytes.
--   bare, if_bare           a value without it, and the fields of one
--   followed, if_followed   a value with it, and the fields of one
--   bytes_behind            its bytes, if it is there
--   IfFits                  it has a spelling, if it is there
--   number_by               the number of a kind, by whether it is there
use Rattle.std.specs.Prelude.{ℕ, List, [], Option, Some, None}
use Rattle.tk_format.specs.Format.{Format}

-- the value of these fields, with nothing behind them
abbrev pub bare : {A B F : Type 0} → (A → Option B → F) → A → F
bare on fields = on fields None

-- the value of these fields, with more behind them
abbrev pub followed : {A B F : Type 0} → (A → Option B → F) → A × B → F
followed on (fields, more) = on fields (Some more)

-- the fields, if there are any and nothing is behind them
abbrev pub if_bare : {A B : Type 0} → Option A → Option B → Option A
if_bare fields None = fields
if_bare fields (Some more) = None

-- the fields and what is behind them, if both are there
abbrev pub if_followed : {A B : Type 0} → Option A → Option B → Option (A × B)
if_followed fields None = None
if_followed None (Some more) = None
if_followed (Some fields) (Some more) = Some (fields, more)

-- the bytes of what may be behind the fields
abbrev pub bytes_behind : {B : Type 0} → Format B → Option B → List ℕ
bytes_behind f None = []
bytes_behind f (Some more) = f.spell more

-- what may be behind the fields has a spelling, if it is there
abbrev pub IfFits : {B : Type 0} → Format B → Option B → Type 0
IfFits f None = Unit {0}
IfFits f (Some more) = f.Fits more

-- the number of a kind: one of two numbers, by whether more is behind the fields
abbrev pub number_by : {B : Type 0} → Option B → ℕ → ℕ → ℕ
number_by None bare named = bare
number_by (Some more) bare named = named
