-- What the rows of a forest, and the set of the children beside the first of each dot, keep (own).
--   has_dot          an option has a dot
--   Hangs, IsHung    the first of the dots whose links name a dot, and the set of the others
--   IsForest         each column has what it stands for
use Rattle.std.specs.Prelude.{◌≡◌, ◌≢◌, Bool, true, false, not, ◌&&◌, Option, Some, None}
use Rattle.std.specs.BTreeSet.{BTreeSet}
use Rattle.tk_handle.specs.declared.dot.Dot.{Dot}
use Rattle.tk_handle.specs.declared.token_id.TokenId.{TokenId}
use Rattle.tk_handle.specs.Dot.{IsDot}
use Rattle.tk_family.specs.declared.children.Child.{Child}
use Rattle.tk_family.specs.Children.{Others, others_in}
use Rattle.tk_family.specs.Counts.{IsCounted}
use Rattle.tk_family.specs.Dots.{dot_eq}
use Rattle.tk_family.specs.Families.{Links, IsUnder, IsUsed, IsTwice}
use Rattle.tk_family.specs.Rows.{Rows, code_in, used_in, again_in, links_of, firsts_of, named_of}
use Rattle.tk_family.specs.Uses.{uses_by}

-- the option has the dot
abbrev pub has_dot : Option Dot → Dot → Bool
has_dot None q = false
has_dot (Some d) q = dot_eq d q

-- each dot that some link names has a first child, and the set has exactly the other children
pub record Hangs (f : Links) (first : Dot → Option Dot) (E : Others) : Type 0 where
  pub named : (p e : Dot) → first p ≡ Some e → named_of (f e) ≡ Some p
  pub none : (p e : Dot) → first p ≡ None → named_of (f e) ≢ Some p
  pub rest : (k : TokenId) (e : Dot)
      → E k e ≡ (uses_by (f e) k && not (has_dot (first k.dot) e))
  pub ranged : (k : TokenId) (e : Dot) → E k e ≡ true → IsDot e

-- the rows and the set have the children of each dot
abbrev pub IsHung : Rows → BTreeSet Child → Type 0
IsHung T t = Hangs (links_of T) (firsts_of T) (others_in t)

-- what a column has is true, and what is true the column has
pub record IsForest (T : Rows) : Type 0 where
  pub under : (q c : Dot) → code_in (T q) ≡ Some c → IsUnder (links_of T) q c
  pub memo : (q c : Dot) → IsUnder (links_of T) q c → code_in (T q) ≡ Some c
  pub bads : IsCounted T
  pub used : (k : TokenId) → used_in (T k.dot) k.kind ≡ true → IsUsed (links_of T) k
  pub uses : (k : TokenId) → IsUsed (links_of T) k → used_in (T k.dot) k.kind ≡ true
  pub again : (k : TokenId) → again_in (T k.dot) k.kind ≡ true → IsTwice (links_of T) k
  pub twice : (k : TokenId) → IsTwice (links_of T) k → again_in (T k.dot) k.kind ≡ true
