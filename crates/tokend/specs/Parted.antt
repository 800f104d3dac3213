-- How a log goes on in parts (own). Throughout, `contents` has the bytes of a file and `closed`
-- those of closed parts, if they are known, and `makes` says which file was made by a name.
--   BeginsAs    a log begins in one file, or in its first part
--   IsFull      a next part is to be begun
--   next_name   the name of the next part
--   wrote       bytes were written to the part
--   tried       a next part was looked for
--   NextPart    the log goes on in its next part
--   GoesOn      the log goes on in its next part, or as it was
use Rattle.std.specs.Prelude.{◌≡◌, ◌⊎◌, ℕ, suc, ◌-◌, ◌==◌, ◌<◌, List, Option, Some, None}
use Rattle.std.specs.Prelude.{if◌then◌else◌, string_bytes}
use Rattle.tokend.specs.LogParts.{IsEmptyBehind, joined, part_name}
use Rattle.tokend.specs.declared.parted.Numbering.{Numbering}
use Rattle.tokend.specs.declared.parted.Parted.{Parted}

-- the greatest number of a part
abbrev pub last_part : ℕ
last_part = 9999

-- a log of this name begins in one file, or in the first of parts of this size in bytes
abbrev pub BeginsAs : List ℕ → Option ℕ → Option Numbering → Type 0
BeginsAs name None numbering = numbering ≡ None
BeginsAs name (Some size) None = ⊥
BeginsAs name (Some size) (Some n) =
    (string_bytes n.log ≡ name) × (n.number ≡ 1) × (n.size ≡ size) × (n.left ≡ size)

-- the part has its bytes, and isn't the last that a log may have
abbrev pub IsFull : Numbering → Type 0
IsFull n = (n.left ≡ 0) × (n.number < last_part)

-- the name of the next part
abbrev pub next_name : Numbering → List ℕ
next_name n = part_name (string_bytes n.log) (suc n.number)

-- this number of bytes was written to the part
abbrev pub wrote : ℕ → Numbering → Numbering
wrote bytes n = record n { left = n.left - bytes }

-- a next part was looked for, if the part has its bytes: it is next looked for once the part has
-- grown by as many again
abbrev pub tried : Numbering → Numbering
tried n = if n.left == 0 then record n { left = n.size } else n

-- The part was full, and was closed behind the others. The log goes on in an empty file, made by
-- the name of the next part.
pub record NextPart {F P : Type 0} (contents : F → Option (List ℕ)) (closed : P → Option (List ℕ))
    (makes : P → List ℕ → F → Type 0) (n : Numbering) (old new : Parted F P) : Type 0 where
  pub full : IsFull n
  pub made : makes new.parts (next_name n) new.file
  pub empty : IsEmptyBehind (closed old.parts) (contents new.file)
  pub closed_one : closed new.parts ≡ joined (closed old.parts) (contents old.file)
  pub numbering : new.numbering ≡ Some (record (tried n) { number = suc n.number })

-- the log goes on in its next part, or as it was
abbrev pub GoesOn : {F P : Type 0} → (F → Option (List ℕ)) → (P → Option (List ℕ))
    → (P → List ℕ → F → Type 0) → Option Numbering → Parted F P → Parted F P → Type 0
GoesOn contents closed makes None old new = new ≡ old
GoesOn contents closed makes (Some n) old new =
    NextPart contents closed makes n old new
    ⊎ (new ≡ record old { numbering = Some (tried n) })
