-- What `put` and `mark` do to the rows of a forest, and what `put` gathers for that (own).
--   with_link          links with one put
--   IsBelow            a dot hangs below another by fitting links
--   FitsAll, Pushes    the children of a dot, at the end of a list
--   IsFull             a dot fits the link above, and a list has no room for it
--   Gathers            all that hangs below a dot
--   NothingSeen        rows may have become more, but only by blank ones
--   Adds, Hung         a link more; the columns after it was hung below the dot that it names
--   first_after        the first child of a dot after that
--   ListsAt, ListsBy,
--   Lists              the new child is in the set, unless it became the first child
--   Puts, MarksOne     a link is put, a token is marked
use Rattle.std.specs.Prelude.{◌≡◌, ◌≢◌, ◌≤◌, ◌⊎◌, ℕ, Bool, true, false, ◌&&◌, ◌||◌, if◌then◌else◌}
use Rattle.std.specs.Prelude.{List, ◌++◌, length, Option, Some, None}
use Rattle.std.specs.List.{IsDistinct}
use Rattle.tk_handle.specs.declared.dot.Dot.{Dot}
use Rattle.tk_handle.specs.declared.kind.Kind.{Kind}
use Rattle.tk_handle.specs.declared.token_id.TokenId.{TokenId}
use Rattle.tk_family.specs.declared.link.Link.{Link}
use Rattle.tk_family.specs.Children.{Others, IsSame, is_child}
use Rattle.tk_family.specs.Dots.{dot_eq, has}
use Rattle.tk_family.specs.Families.{Links, fits, named_by, used_by, IsParent, IsTrail, IsUnder}
use Rattle.tk_family.specs.Kept.{has_dot, IsForest}
use Rattle.tk_family.specs.Rows.{Rows, code_in, first_in, marked_in, used_in, again_in, links_of}
use Rattle.tk_family.specs.Rows.{firsts_of, marks_of, named_of}
use Rattle.tk_family.specs.Tops.{IsRaised}
use Rattle.tk_family.specs.Uses.{uses_it}
use Rattle.tk_family.specs.Writes.{or_dot}

-- the links f, with the link l at d
abbrev pub with_link : Links → Dot → Link → Links
with_link f d l q = if dot_eq d q then Some l else f q

-- ---- what hangs below a dot

-- q is d, or q hangs below d by fitting links
pub record IsBelow (f : Links) (d q : Dot) : Type 0 where
  pub path : List Dot
  pub leads : IsTrail f q path d

-- the link at a dot fits the link above
abbrev pub fits_at : Option Link → Link → Bool
fits_at None above = false
fits_at (Some link) above = fits link above

-- the list has exactly the dots whose links name x and fit the link above, each once
pub record FitsAll (f : Links) (x : Dot) (above : Link) (cs : List Dot) : Type 0 where
  pub names : (e : Dot) → has cs e ≡ true → named_of (f e) ≡ Some x
  pub fitting : (e : Dot) → has cs e ≡ true → fits_at (f e) above ≡ true
  pub all : (e : Dot) → named_of (f e) ≡ Some x → fits_at (f e) above ≡ true → has cs e ≡ true
  pub distinct : IsDistinct dot_eq cs

-- the list has got the children of x at its end
pub record Pushes (f : Links) (x : Dot) (above : Link) (old new : List Dot) : Type 0 where
  pub children : List Dot
  pub after : new ≡ old ++ children
  pub fit : FitsAll f x above children

-- the link at x fits the link above, and the list has no room for x
abbrev pub IsFull : Links → Dot → Link → List Dot → ℕ → Type 0
IsFull f x above list room = (fits_at (f x) above ≡ true) × (room ≤ length list)

-- once the link l is at d, the list has d and all that hangs below d, each once
pub record Gathers (f : Links) (d : Dot) (l : Link) (ys : List Dot) : Type 0 where
  pub root : has ys d ≡ true
  pub closed : (x e : Dot) → has ys x ≡ true → IsParent (with_link f d l) e x → has ys e ≡ true
  pub below : (q : Dot) → has ys q ≡ true → IsBelow (with_link f d l) d q
  pub distinct : IsDistinct dot_eq ys

-- ---- what `put` and `mark` do

-- g is f with one more link, l at d
pub record Adds (f g : Links) (d : Dot) (l : Link) : Type 0 where
  pub free : f d ≡ None
  pub here : g d ≡ Some l
  pub others : (q : Dot) → q ≢ d → g q ≡ f q

-- the first child of q, after the link l was hung at d
abbrev pub first_after : Rows → Dot → Link → Dot → Option Dot
first_after T d l q = if has_dot (named_by l) q then or_dot (first_in (T q)) d else first_in (T q)

-- the columns of N after the link l was hung at d in T
pub record Hung (T N : Rows) (d : Dot) (l : Link) : Type 0 where
  pub adds : Adds (links_of T) (links_of N) d l
  pub code : (q : Dot) → code_in (N q) ≡ code_in (T q)
  pub first : (q : Dot) → first_in (N q) ≡ first_after T d l q
  pub marked : (q : Dot) (k : Kind) → marked_in (N q) k ≡ marked_in (T q) k
  pub used : (k : TokenId)
      → used_in (N k.dot) k.kind ≡ (used_in (T k.dot) k.kind || uses_it l k)
  pub again : (k : TokenId)
      → again_in (N k.dot) k.kind
      ≡ (again_in (T k.dot) k.kind || (uses_it l k && used_in (T k.dot) k.kind))

-- N is E with the child d that uses t, if t's dot has a first child o
abbrev pub ListsAt : Others → Others → TokenId → Dot → Option Dot → Type 0
ListsAt E N t d None = IsSame E N
ListsAt E N t d (Some e) =
    (k : TokenId) (q : Dot) → N k q ≡ (if is_child t d k q then true else E k q)

-- N is E with the child d, if d uses a token o whose dot has a first child
abbrev pub ListsBy : (Dot → Option Dot) → Others → Others → Dot → Option TokenId → Type 0
ListsBy first E N d None = IsSame E N
ListsBy first E N d (Some t) = ListsAt E N t d (first t.dot)

-- N is E with the child d, whose link is l, unless d becomes a first child
abbrev pub Lists : Rows → Others → Others → Dot → Link → Type 0
Lists T E N d l = ListsBy (firsts_of T) E N d (used_by l)

-- N is T, but blank rows may have been added
pub record NothingSeen (T N : Rows) : Type 0 where
  pub forest : IsForest N
  pub first : (q : Dot) → first_in (N q) ≡ first_in (T q)
  pub links : (q : Dot) → links_of N q ≡ links_of T q
  pub marks : (k : TokenId) → marks_of N k ≡ marks_of T k

-- the link l is put at d, and ys are the dots that this brought under a code
pub record Puts (T N : Rows) (d : Dot) (l : Link) (ys : List Dot) : Type 0 where
  pub forest : IsForest N
  pub links : (q : Dot) → links_of N q ≡ with_link (links_of T) d l q
  pub marks : (k : TokenId) → marks_of N k ≡ marks_of T k
  pub distinct : IsDistinct dot_eq ys
  pub raised_now : (q : Dot) → has ys q ≡ true → IsRaised (links_of T) (links_of N) q
  pub no_other : (q c : Dot) → IsUnder (links_of N) q c
      → (has ys q ≡ true) ⊎ IsUnder (links_of T) q c

-- the token k is marked
pub record MarksOne (T N : Rows) (k : TokenId) : Type 0 where
  pub forest : IsForest N
  pub first : (q : Dot) → first_in (N q) ≡ first_in (T q)
  pub links : (q : Dot) → links_of N q ≡ links_of T q
  pub here : marks_of N k ≡ true
  pub old : (j : TokenId) → marks_of T j ≡ true → marks_of N j ≡ true
  pub new : (j : TokenId) → marks_of N j ≡ true → (j ≡ k) ⊎ (marks_of T j ≡ true)
