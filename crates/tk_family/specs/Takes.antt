-- What removing a link or a mark does to the rows of a forest, and its steps (own).
--   without              links without the one at a dot
--   IsShort              a list has no room for all children of a dot
--   HasUses              each token has its uses
--   KeptBut              the columns that stay if a dot is no child any more
--   with_first           the first children, once that of a dot has changed
--   first_uses, counted  the uses of a token, counted anew
--   Unlinks              the link at a dot is gone; the codes in the other rows stay
--   Clears               a dot and what hung below it are under no code
--   Takes, Unmarks       a link is removed, or a mark
use Rattle.std.specs.Prelude.{◌≡◌, ◌≢◌, ◌<◌, ◌+◌, ℕ, Bool, true, false, if◌then◌else◌, List, ◌++◌}
use Rattle.std.specs.Prelude.{length, take, Option, Some, None}
use Rattle.std.specs.BTreeSet.{BTreeSet}
use Rattle.tk_handle.specs.declared.dot.Dot.{Dot}
use Rattle.tk_handle.specs.declared.kind.Kind.{Kind}
use Rattle.tk_handle.specs.declared.token_id.TokenId.{TokenId}
use Rattle.tk_family.specs.declared.children.Child.{Child}
use Rattle.tk_family.specs.declared.link.Link.{Link}
use Rattle.tk_family.specs.declared.row.Uses.{Uses}
use Rattle.tk_family.specs.Children.{users_in}
use Rattle.tk_family.specs.Dots.{dot_eq}
use Rattle.tk_family.specs.Families.{Links, IsUsed, IsTwice}
use Rattle.tk_family.specs.Kept.{IsForest}
use Rattle.tk_family.specs.Puts.{FitsAll, Gathers}
use Rattle.tk_family.specs.Rows.{Rows, link_in, code_in, count_in, first_in, marked_in, used_in}
use Rattle.tk_family.specs.Rows.{again_in, links_of, marks_of}
use Rattle.tk_family.specs.Uses.{uses_by}
use Rattle.tk_family.specs.Writes.{as_uses, cleared}

-- the links f without the one at d
abbrev pub without : Links → Dot → Links
without f d q = if dot_eq d q then None else f q

-- the old list and all children of x are more than there is room for
pub record IsShort (f : Links) (x : Dot) (above : Link) (old : List Dot) (room : ℕ) : Type 0 where
  pub children : List Dot
  pub fit : FitsAll f x above children
  pub short : room < length (old ++ children)

-- the rows have the uses of each token by the links f: none, one, or more
pub record HasUses (f : Links) (T : Rows) : Type 0 where
  pub used : (k : TokenId) → used_in (T k.dot) k.kind ≡ true → IsUsed f k
  pub uses : (k : TokenId) → IsUsed f k → used_in (T k.dot) k.kind ≡ true
  pub again : (k : TokenId) → again_in (T k.dot) k.kind ≡ true → IsTwice f k
  pub twice : (k : TokenId) → IsTwice f k → again_in (T k.dot) k.kind ≡ true

-- each column is as it was, except the first child of the token's dot and the token's uses
pub record KeptBut (T N : Rows) (t : TokenId) : Type 0 where
  pub link : (q : Dot) → link_in (N q) ≡ link_in (T q)
  pub code : (q : Dot) → code_in (N q) ≡ code_in (T q)
  pub count : (q : Dot) → count_in (N q) ≡ count_in (T q)
  pub marked : (q : Dot) (k : Kind) → marked_in (N q) k ≡ marked_in (T q) k
  pub first : (q : Dot) → q ≢ t.dot → first_in (N q) ≡ first_in (T q)
  pub used : (k : TokenId) → k ≢ t → used_in (N k.dot) k.kind ≡ used_in (T k.dot) k.kind
  pub again : (k : TokenId) → k ≢ t → again_in (N k.dot) k.kind ≡ again_in (T k.dot) k.kind

-- the first children, with o as that of p
abbrev pub with_first : (Dot → Option Dot) → Dot → Option Dot → Dot → Option Dot
with_first first p o q = if dot_eq p q then o else first q

-- whether the first child, if there is one, uses the token
abbrev pub first_uses : Links → Option Dot → TokenId → Bool
first_uses f None t = false
first_uses f (Some e) t = uses_by (f e) t

-- the uses of a token: by the first child of its dot, and by children in the set
abbrev pub counted : Links → Option Dot → BTreeSet Child → TokenId → Uses
counted f first t k =
    as_uses ((if first_uses f first k then 1 else 0) + length (take 2 (users_in t k)))

-- the link at d is gone; the codes in the other rows stay
pub record Unlinks (T N : Rows) (d : Dot) : Type 0 where
  pub links : (q : Dot) → links_of N q ≡ without (links_of T) d q
  pub code_here : code_in (N d) ≡ None
  pub code : (q : Dot) → q ≢ d → code_in (N q) ≡ code_in (T q)
  pub count_here : count_in (N d) ≡ 0
  pub marked_here : (k : Kind) → marked_in (N d) k ≡ false
  pub marked : (q : Dot) (k : Kind) → q ≢ d → marked_in (N q) k ≡ marked_in (T q) k
  pub uses : HasUses (links_of N) N

-- d and what hangs below it, if l is the link at d, are under the code c no more
pub record Clears (T N : Rows) (d : Dot) (l : Link) (c : Dot) : Type 0 where
  pub list : List Dot
  pub got : Gathers (links_of T) d l list
  pub rows : (q : Dot) → N q ≡ cleared T list c q

-- the link at d is removed, with the marks of its tokens
pub record Takes (T N : Rows) (d : Dot) : Type 0 where
  pub forest : IsForest N
  pub links : (q : Dot) → links_of N q ≡ without (links_of T) d q
  pub marks : (k : TokenId) → marks_of N k ≡ (if dot_eq d k.dot then false else marks_of T k)

-- the token k is not marked any more
pub record Unmarks (T N : Rows) (k : TokenId) : Type 0 where
  pub forest : IsForest N
  pub first : (q : Dot) → first_in (N q) ≡ first_in (T q)
  pub links : (q : Dot) → links_of N q ≡ links_of T q
  pub gone : marks_of N k ≡ false
  pub others : (j : TokenId) → j ≢ k → marks_of N j ≡ marks_of T j
