-- Gathering all that hangs below a dot, in a list that is its own queue. Key results:
--   with_link-here, with_link-other   the links with one more
--   Gathering                         the loop's invariant
--   Gathering-starts, Gathering-turns the invariant holds at first, and after each turn
--   Gathering-ends                    a gathering that has seen each of its dots has all
--   Gathers-permuted                  what was gathered may be in any order
use Rattle.std.specs.FinMap as map
use Rattle.std.proofs.Common.{◌≡◌, ◌≢◌, inl, inr, ℕ, ◌+◌, ◌<◌, ◌≤◌, true, Option, None, Some, List}
use Rattle.std.proofs.Common.{[], ◌∷◌, ◌++◌, length, take, drop, get_or, ap, sym, ◌∙◌, refl, arith}
use Rattle.std.proofs.Common.{subst, append-nil, length-append, IsSome, rules}
use Rattle.std.proofs.lemmas.Bool.{true≢false, cond-true, cond-false}
use Rattle.std.proofs.lemmas.List.{take_more, drop_more, take-append-le, drop-append-le}
use Rattle.std.proofs.lemmas.List.{take-append-drop, take_all, drop_all}
use Rattle.std.proofs.lemmas.Map.Steps.{length-le_from_keys}
use Rattle.std.proofs.lemmas.Map.Keys.{IsDistinct-IsPermutation}
use Rattle.std.proofs.lemmas.List.Sorted.{list_any-IsPermutation}
use Rattle.std.specs.List.Sorted.{IsPermutation}
use Rattle.std.specs.List.{IsDistinct}
use Rattle.tk_handle.specs.declared.dot.Dot.{Dot}
use Rattle.tk_family.specs.declared.link.Link.{Link}
use Rattle.tk_family.specs.declared.row.Row.{Row}
use Rattle.tk_family.specs.Dots.{dot_eq, has}
use Rattle.tk_family.specs.Families.{Links, IsParent, fits}
use Rattle.tk_family.specs.Rows.{RowMap, table, link_in, links_of, named_of}
use Rattle.tk_family.specs.Puts.{fits_at, with_link, FitsAll, Gathers}
use Rattle.tk_family.specs.Takes.{IsShort}
use Rattle.tk_family.proofs.DotLaws.{dots_equiv, dot_eq-apart, dot_eq-same, cases_dots}
use Rattle.tk_family.proofs.Adding.{Adds}
use Rattle.tk_family.proofs.Reaching.{Walk, Walk-starts, Walk-turns, AreChildren}
use Rattle.tk_family.proofs.EntryLaws.{entries_table}

-- the new link is at its dot
pub with_link-here : (f : Links) (d : Dot) (l : Link) → with_link f d l d ≡ Some l
with_link-here f d l = cond-true (dot_eq d d) (Some l) (f d) (dot_eq-same d)

-- at other dots the links are the old ones
pub with_link-other : (f : Links) (d : Dot) (l : Link) (q : Dot) → q ≢ d → with_link f d l q ≡ f q
with_link-other f d l q ne =
    cond-false (dot_eq d q) (Some l) (f q) (dot_eq-apart d q (λ same. ne (sym same)))

-- links with one more at a free dot have that one more
pub Adds-with_link : (f : Links) (d : Dot) (l : Link) → f d ≡ None → Adds f (with_link f d l) d l
Adds-with_link f d l free =
    record { free = free; here = with_link-here f d l; others = with_link-other f d l }

-- a dot whose link names x and fits the link there has x as its parent
parent_from : (g : Links) (e x : Dot) (above : Link) (o : Option Link) → g e ≡ o
    → named_of o ≡ Some x → fits_at o above ≡ true → g x ≡ Some above → IsParent g e x
parent_from g e x above None at names fitting there = absurd (cc)
parent_from g e x above (Some k) at names fitting there =
    record { link = k; above = above; here = at; names = names; there = there; fitting = fitting }

-- an option that names a dot has a link
some_named : (o : Option Link) (x : Dot) → named_of o ≡ Some x → (k : Link) × (o ≡ Some k)
some_named None x h = absurd (cc)
some_named (Some k) x h = (k, refl)

-- what has a name stands where it stood, if at d is no other link
with_link-named : (f : Links) (d : Dot) (l : Link) (e x : Dot) → ((k : Link) → f d ≡ Some k → k ≡ l)
    → named_of (f e) ≡ Some x → with_link f d l e ≡ f e
with_link-named f d l e x other names = elim (cases_dots e d) [
  | inl same ↦
      let some : (k : Link) × (f e ≡ Some k) = some_named (f e) x names in
      let one : some.0 ≡ l = other some.0 (ap f (sym same) ∙ some.1) in
      ap (with_link f d l) same
      ∙ (with_link-here f d l ∙ (ap (λ (k : Link). Some k) (sym one) ∙ sym some.1))
  | inr ne ↦ with_link-other f d l e ne
]

-- the dots that fit under a link are the children of its dot
pub AreChildren-from : (f : Links) (d : Dot) (l : Link) (x : Dot) (above : Link) (cs : List Dot)
    → ((k : Link) → f d ≡ Some k → k ≡ l) → with_link f d l x ≡ Some above → FitsAll f x above cs
    → AreChildren (with_link f d l) d x cs
AreChildren-from f d l x above cs other there fit = record {
  sound = λ e h. parent_from (with_link f d l) e x above (f e)
      (with_link-named f d l e x other (fit.names e h)) (fit.names e h) (fit.fitting e h) there;
  all = λ e ne par.
      let at : f e ≡ Some par.link = sym (with_link-other f d l e ne) ∙ par.here in
      let both : Some par.above ≡ Some above = sym par.there ∙ there in
      let same : par.above ≡ above = cc in
      fit.all e (ap named_of at ∙ par.names)
      (ap (λ (o : Option Link). fits_at o above) at
      ∙ (ap (λ (k : Link). fits par.link k) (sym same) ∙ par.fitting));
  distinct = fit.distinct;
}

-- a dot without a link has no children
pub AreChildren-none : (g : Links) (d x : Dot) → g x ≡ None → AreChildren g d x []
unfolding IsDistinct
AreChildren-none g d x none = record {
  sound = λ e h. absurd (true≢false (sym h));
  all = λ e ne par. absurd (let clash : Some par.above ≡ None = sym par.there ∙ none in cc);
  distinct = search rules;
}

-- the invariant: the children of the first i dots of the list are in the list
pub record Gathering (m : RowMap) (d : Dot) (l : Link) (ys : List Dot) (i : ℕ) : Type 0 where
  pub walk : Walk (with_link (links_of (table m)) d l) d (take i ys) (drop i ys)
  pub within : i ≤ length ys
  pub room : length ys ≤ map.len m

-- a dot with a link has a row
pub link_row : (o : Option Row) (k : Link) → link_in o ≡ Some k → IsSome o
link_row None k h = absurd (cc)
link_row (Some r) k h = search rules

-- a walk has no more dots than there are rows
Walk-room : (m : RowMap) (d : Dot) (l : Link) (done rest : List Dot) → IsSome (table m d)
    → Walk (with_link (links_of (table m)) d l) d done rest → length (done ++ rest) ≤ map.len m
Walk-room m d l done rest row w = subst (λ (n : ℕ). length (done ++ rest) ≤ n)
    (sym (map.len-entries m))
    (length-le_from_keys dots_equiv (done ++ rest) (map.entries m) w.distinct
    (λ q h. subst IsSome (sym (entries_table m q)) (
    elim (cases_dots q d) [
      | inl same ↦ subst (λ (y : Dot). IsSome (table m y)) (sym same) row
      | inr ne ↦ elim (w.rooted q h).why [
        | inl same ↦ absurd (ne same)
        | inr above ↦ link_row (table m q) above.0.link
            (sym (with_link-other (links_of (table m)) d l q ne) ∙ above.0.here)
      ]
    ])))

-- a walk through rows is part of a gathering
pub Gathering-from : (m : RowMap) (d : Dot) (l : Link) (ys : List Dot) (i : ℕ) → IsSome (table m d)
    → i ≤ length ys → Walk (with_link (links_of (table m)) d l) d (take i ys) (drop i ys)
    → Gathering m d l ys i
Gathering-from m d l ys i row within w =
    let room : length (take i ys ++ drop i ys) ≤ map.len m =
    Walk-room m d l (take i ys) (drop i ys) row w in
    record {
      walk = w;
      within = within;
      room = subst (λ (zs : List Dot). length zs ≤ map.len m) (take-append-drop i ys) room;
    }

-- a gathering starts with the dot itself
pub Gathering-starts : (m : RowMap) (d : Dot) (l : Link) → IsSome (table m d)
    → Gathering m d l (d ∷ []) 0
Gathering-starts m d l row = Gathering-from m d l (d ∷ []) 0 row (omega arith)
    (Walk-starts (with_link (links_of (table m)) d l) d)

-- a gathering goes on with the children of its next dot
pub Gathering-turns : (m : RowMap) (d : Dot) (l : Link) (ys cs zs : List Dot) (i : ℕ) (x : Dot)
    → IsSome (table m d) → i < length ys → x ≡ get_or ys i x → zs ≡ ys ++ cs
    → AreChildren (with_link (links_of (table m)) d l) d x cs → Gathering m d l ys i
    → Gathering m d l zs (i + 1)
Gathering-turns m d l ys cs zs i x row below at after children g =
    let front : take (i + 1) ys ≡ take i ys ++ x ∷ [] =
    take_more ys i x below ∙ ap (λ (y : Dot). take i ys ++ y ∷ []) (sym at) in
    let split : drop i ys ≡ x ∷ drop (i + 1) ys =
    drop_more ys i x below ∙ ap (λ (y : Dot). y ∷ drop (i + 1) ys) (sym at) in
    let turned : Walk (with_link (links_of (table m)) d l) d (take i ys ++ x ∷ [])
    (drop (i + 1) ys ++ cs) =
    Walk-turns (with_link (links_of (table m)) d l) d (take i ys) x (drop (i + 1) ys) cs
    (subst (λ (r : List Dot). Walk (with_link (links_of (table m)) d l) d (take i ys) r) split
    g.walk) children in
    let in_ys : i + 1 ≤ length ys = omega arith in
    let new_front : take i ys ++ x ∷ [] ≡ take (i + 1) zs =
    sym front ∙ (sym (take-append-le (i + 1) ys cs in_ys) ∙ ap (take (i + 1)) (sym after)) in
    let new_rest : drop (i + 1) ys ++ cs ≡ drop (i + 1) zs =
    sym (drop-append-le (i + 1) ys cs in_ys) ∙ ap (drop (i + 1)) (sym after) in
    let long : length zs ≡ length ys + length cs = ap length after ∙ length-append ys cs in
    Gathering-from m d l zs (i + 1) row (omega arith)
    (subst (λ (r : List Dot). Walk (with_link (links_of (table m)) d l) d (take (i + 1) zs) r)
    new_rest
    (subst (λ (f : List Dot). Walk (with_link (links_of (table m)) d l) d f (drop (i + 1) ys ++ cs))
    new_front turned))

-- a list that has no room for the children of one of its dots has not room for all rows
pub Gathering-short : (m : RowMap) (d : Dot) (l : Link) (ys : List Dot) (i room : ℕ) (x : Dot)
    (above : Link)
    → IsSome (table m d) → i < length ys → x ≡ get_or ys i x
    → ((k : Link) → links_of (table m) d ≡ Some k → k ≡ l)
    → with_link (links_of (table m)) d l x ≡ Some above
    → IsShort (links_of (table m)) x above ys room → Gathering m d l ys i → room < map.len m
Gathering-short m d l ys i room x above row below at other there s g =
    let more : Gathering m d l (ys ++ s.children) (i + 1) =
    Gathering-turns m d l ys s.children (ys ++ s.children) i x row below at refl
    (AreChildren-from (links_of (table m)) d l x above s.children other there s.fit) g in
    let within : length (ys ++ s.children) ≤ map.len m = more.room in
    let short : room < length (ys ++ s.children) = s.short in
    omega arith

-- a gathering that has seen each of its dots has all
pub Gathering-ends : (m : RowMap) (d : Dot) (l : Link) (ys : List Dot) (i : ℕ) → length ys ≤ i
    → Gathering m d l ys i → Gathers (links_of (table m)) d l ys
Gathering-ends m d l ys i above g =
    let all : take i ys ≡ ys = take_all i ys above in
    let none : drop i ys ≡ [] = drop_all i ys above in
    let w : Walk (with_link (links_of (table m)) d l) d ys [] =
    subst (λ (r : List Dot). Walk (with_link (links_of (table m)) d l) d ys r) none
    (subst (λ (f : List Dot). Walk (with_link (links_of (table m)) d l) d f (drop i ys)) all
    g.walk) in
    let whole : ys ++ [] ≡ ys = append-nil ys in
    record {
      root = subst (λ (zs : List Dot). has zs d ≡ true) whole w.root;
      closed = λ x e h par. subst (λ (zs : List Dot). has zs e ≡ true) whole (w.closed x e h par);
      below = λ q h. w.below q (subst (λ (zs : List Dot). has zs q ≡ true) (sym whole) h);
      distinct = subst (λ (zs : List Dot). IsDistinct dot_eq zs) whole w.distinct;
    }

-- what was gathered may be in any order
pub Gathers-permuted : (f : Links) (d : Dot) (l : Link) (ys zs : List Dot) → IsPermutation ys zs
    → Gathers f d l ys → Gathers f d l zs
Gathers-permuted f d l ys zs p g =
    let same : (q : Dot) → has ys q ≡ has zs q = λ q. list_any-IsPermutation (dot_eq q) ys zs p in
    record {
      root = sym (same d) ∙ g.root;
      closed = λ x e h par. sym (same e) ∙ g.closed x e (same x ∙ h) par;
      below = λ q h. g.below q (same q ∙ h);
      distinct = IsDistinct-IsPermutation dot_eq dots_equiv.symm ys zs p g.distinct;
    }
