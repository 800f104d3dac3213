-- Rows and what contracts see of them have the same look-ups. Key results:
--   get-links, contains-marks   a link or a mark is seen exactly if the table has it
--   seen_same                   rows with the same look-ups are seen as the same forest
--   links_put, links_taken      one link more, and one less, are seen
--   tokens_total, exact_tokens  tokens are in a total order, and are equal if they tie
--   both_tied                   one order and then another are equal exactly if both are
use Rattle.std.proofs.Common.{◌≡◌, ◌||◌, ◌&&◌, not, Bool, true, false, cond, Option, None, Some}
use Rattle.std.proofs.Common.{List, [], ◌∷◌, ap, sym, ◌∙◌, refl}
use Rattle.std.proofs.lemmas.Bool.{true≢false, and_parts}
use Rattle.std.specs.declared.cmp.Ordering.{Ordering}
use Rattle.std.specs.declared.cmp.Ordering.TheVariants.{Less, Equal, Greater}
use Rattle.std.specs.Ordering.{nat_cmp, ordering_then, is_eq, eq_by_cmp}
use Rattle.std.specs.Cmp.{IsTotalOrder}
use Rattle.std.proofs.lemmas.Cmp.{nat_cmp_total, on_total, then_total}
use Rattle.std.specs.Map.{lookup}
use Rattle.std.specs.FinMap as map
use Rattle.std.specs.FinSet as set
use Rattle.tk_handle.specs.declared.dot.Dot.{Dot}
use Rattle.tk_handle.specs.declared.kind.Kind.{Kind}
use Rattle.tk_handle.specs.declared.kind.Kind.TheVariants as kind
use Rattle.tk_handle.specs.declared.token_id.TokenId.{TokenId}
use Rattle.tk_family.specs.declared.link.Link.{Link}
use Rattle.tk_family.specs.declared.row.Row.{Row}
use Rattle.tk_handle.specs.Dot.{dot_cmp, dot_cmp_total, dot_cmp-IsAntisymmetric}
use Rattle.tk_family.specs.Dots.{dot_eq}
use Rattle.tk_family.specs.Rows.{RowMap, table, link_in, marked_in, links_of, marks_of}
use Rattle.tk_family.specs.Puts.{with_link}
use Rattle.tk_family.specs.Takes.{without}
use Rattle.tk_handle.specs.TokenId.{token_cmp}
use Rattle.tk_handle.specs.Kind.{kind_number}
use Rattle.tk_family.specs.View.{seen_link, seen_links, seen_mark, seen_marks, seen}
use Rattle.tk_family.proofs.DotLaws.{dots_equiv, dot_eq-true}
use Rattle.tk_family.proofs.EntryLaws.{entries_table}
use Rattle.tk_family.proofs.Marking.{token_is}

-- once a dot's link is shown, or that it has none, that is seen there, and the rest stays
get-seen_link : (m : map.FinMap dot_cmp Link) (d : Dot) (o : Option Link) (q : Dot)
    → map.get (seen_link m d o) q ≡ cond (dot_eq q d) o (map.get m q)
get-seen_link m d None q = map.get-remove dot_cmp_total m d q
get-seen_link m d (Some l) q = map.get-insert dot_cmp_total m d l q

-- the link of one of two rows is one of their links
link_cond : (b : Bool) (r : Row) (o : Option Row)
    → cond b r.link (link_in o) ≡ link_in (cond b (Some r) o)
link_cond true r o = refl
link_cond false r o = refl

-- the links that are seen of a list of rows are those of the rows
get-seen_links : (es : List (Dot × Row)) (q : Dot)
    → map.get (seen_links es) q ≡ link_in (lookup (dot_eq q) es)
get-seen_links [] q = map.get-empty dot_cmp q
get-seen_links (e ∷ es) q = get-seen_link (seen_links es) e.0 e.1.link q
    ∙ (ap (cond (dot_eq q e.0) e.1.link) (get-seen_links es q)
    ∙ link_cond (dot_eq q e.0) e.1 (lookup (dot_eq q) es))

-- the link that is seen at a dot is the table's
pub get-links : (m : RowMap) (q : Dot)
    → map.get (seen_links (map.entries m)) q ≡ links_of (table m) q
get-links m q = get-seen_links (map.entries m) q ∙ ap link_in (entries_table m q)

-- ---- marks

-- tokens are in a total order
pub tokens_total : IsTotalOrder token_cmp
tokens_total = then_total (on_total (λ k. k.dot) dot_cmp_total)
    (on_total (λ k. kind_number k.kind) nat_cmp_total)

-- one order and then another are equal exactly if both are
pub both_tied : (o p : Ordering) → is_eq (ordering_then o p) ≡ (is_eq o && is_eq p)
both_tied Less p = refl
both_tied Equal p = refl
both_tied Greater p = refl

-- b or c is true if b holds, and otherwise c
pub insert_cond : (b c : Bool) → (b || c) ≡ cond b true c
insert_cond true c = refl
insert_cond false c = refl

-- c without b is false if b holds, and otherwise c
pub remove_cond : (b c : Bool) → (not b && c) ≡ cond b false c
remove_cond true c = refl
remove_cond false c = refl

-- once it is shown whether a token is marked, that is seen of the token, and the rest stays
contains-seen_mark : (s : set.FinSet token_cmp) (k : TokenId) (b : Bool) (j : TokenId)
    → set.contains (seen_mark s k b) j ≡ cond (eq_by_cmp token_cmp j k) b (set.contains s j)
contains-seen_mark s k true j = set.contains-insert tokens_total s k j
    ∙ insert_cond (eq_by_cmp token_cmp j k) (set.contains s j)
contains-seen_mark s k false j = set.contains-remove tokens_total s k j
    ∙ remove_cond (eq_by_cmp token_cmp j k) (set.contains s j)

-- what the marks of a row show of the token of a kind
three : (b : Bool) (r : Row) (k : Kind) (old : Bool) (o : Option Row) → old ≡ marked_in o k
    → cond (b && is_eq (nat_cmp (kind_number k) 3)) r.marked_refresh
    (cond (b && is_eq (nat_cmp (kind_number k) 2)) r.marked_access
    (cond (b && is_eq (nat_cmp (kind_number k) 1)) r.marked_code old))
    ≡ marked_in (cond b (Some r) o) k
three false r k old o h = h
three true r kind.Code old o h = refl
three true r kind.Access old o h = refl
three true r kind.Refresh old o h = refl

-- where no row is, no token is marked
none_marked : (k : Kind) → false ≡ marked_in None k
none_marked k = refl

-- the marks that are seen of a list of rows are those of the rows
contains-seen_marks : (es : List (Dot × Row)) (j : TokenId)
    → set.contains (seen_marks es) j ≡ marked_in (lookup (dot_eq j.dot) es) j.kind
contains-seen_marks [] j = set.contains-empty token_cmp j ∙ none_marked j.kind
contains-seen_marks (e ∷ es) j =
    let c : TokenId = record { dot = e.0; kind = kind.Code } in
    let a : TokenId = record { dot = e.0; kind = kind.Access } in
    let r : TokenId = record { dot = e.0; kind = kind.Refresh } in
    let s0 = seen_marks es in
    let s1 = seen_mark s0 c e.1.marked_code in
    let s2 = seen_mark s1 a e.1.marked_access in
    contains-seen_mark s2 r e.1.marked_refresh j
    ∙ (ap (cond (eq_by_cmp token_cmp j r) e.1.marked_refresh)
    (contains-seen_mark s1 a e.1.marked_access j
    ∙ ap (cond (eq_by_cmp token_cmp j a) e.1.marked_access)
    (contains-seen_mark s0 c e.1.marked_code j))
    ∙ (ap (λ (b : Bool).
    cond b e.1.marked_refresh
    (cond (eq_by_cmp token_cmp j a) e.1.marked_access
    (cond (eq_by_cmp token_cmp j c) e.1.marked_code (set.contains s0 j))))
    (both_tied (dot_cmp j.dot e.0) (nat_cmp (kind_number j.kind) 3))
    ∙ (ap (λ (b : Bool).
    cond (dot_eq j.dot e.0 && is_eq (nat_cmp (kind_number j.kind) 3)) e.1.marked_refresh
    (cond b e.1.marked_access (cond (eq_by_cmp token_cmp j c) e.1.marked_code (set.contains s0 j))))
    (both_tied (dot_cmp j.dot e.0) (nat_cmp (kind_number j.kind) 2))
    ∙ (ap (λ (b : Bool).
    cond (dot_eq j.dot e.0 && is_eq (nat_cmp (kind_number j.kind) 3)) e.1.marked_refresh
    (cond (dot_eq j.dot e.0 && is_eq (nat_cmp (kind_number j.kind) 2)) e.1.marked_access
    (cond b e.1.marked_code (set.contains s0 j))))
    (both_tied (dot_cmp j.dot e.0) (nat_cmp (kind_number j.kind) 1))
    ∙ three (dot_eq j.dot e.0) e.1 j.kind (set.contains s0 j) (lookup (dot_eq j.dot) es)
    (contains-seen_marks es j)))))

-- a mark is seen exactly if the table has it
pub contains-marks : (m : RowMap) (j : TokenId)
    → set.contains (seen_marks (map.entries m)) j ≡ marks_of (table m) j
contains-marks m j = contains-seen_marks (map.entries m) j
    ∙ ap (λ (o : Option Row). marked_in o j.kind) (entries_table m j.dot)

-- kinds with equal numbers are equal
same_kind : (a b : Kind) → is_eq (nat_cmp (kind_number a) (kind_number b)) ≡ true → a ≡ b
same_kind kind.Code kind.Code h = refl
same_kind kind.Access kind.Access h = refl
same_kind kind.Refresh kind.Refresh h = refl
same_kind kind.Code kind.Access h = absurd (true≢false (sym h))
same_kind kind.Code kind.Refresh h = absurd (true≢false (sym h))
same_kind kind.Access kind.Code h = absurd (true≢false (sym h))
same_kind kind.Access kind.Refresh h = absurd (true≢false (sym h))
same_kind kind.Refresh kind.Code h = absurd (true≢false (sym h))
same_kind kind.Refresh kind.Access h = absurd (true≢false (sym h))

-- tokens that tie are equal
pub exact_tokens : (a b : TokenId) → token_cmp a b ≡ Equal → a ≡ b
exact_tokens a b h =
    let parts : (is_eq (dot_cmp a.dot b.dot) ≡ true)
    × (is_eq (nat_cmp (kind_number a.kind) (kind_number b.kind)) ≡ true) =
    and_parts _ _
    (sym (both_tied (dot_cmp a.dot b.dot) (nat_cmp (kind_number a.kind) (kind_number b.kind)))
    ∙ ap is_eq h) in
    token_is a b (dot_eq-true a.dot b.dot parts.0) (same_kind a.kind b.kind parts.1)

-- rows with the same look-ups are seen as the same forest
pub seen_same : (m n : RowMap) → ((q : Dot) → links_of (table n) q ≡ links_of (table m) q)
    → ((k : TokenId) → marks_of (table n) k ≡ marks_of (table m) k) → seen n ≡ seen m
seen_same m n links marks =
    let l : seen_links (map.entries n) ≡ seen_links (map.entries m) =
    map.same_map dot_cmp_total dot_cmp-IsAntisymmetric _ _
    (λ q. get-links n q ∙ (links q ∙ sym (get-links m q))) in
    let s : seen_marks (map.entries n) ≡ seen_marks (map.entries m) =
    set.same_set tokens_total exact_tokens _ _
    (λ k. contains-marks n k ∙ (marks k ∙ sym (contains-marks m k))) in
    ap (λ (x : map.FinMap dot_cmp Link). record { links = x; marks = seen_marks (map.entries n) }) l
    ∙ ap (λ (y : set.FinSet token_cmp). record { links = seen_links (map.entries m); marks = y }) s

-- one more link in the table is one more that is seen
pub links_put : (m n : RowMap) (d : Dot) (l : Link)
    → ((q : Dot) → links_of (table n) q ≡ with_link (links_of (table m)) d l q)
    → seen_links (map.entries n) ≡ map.insert (seen_links (map.entries m)) d l
links_put m n d l h = map.same_map dot_cmp_total dot_cmp-IsAntisymmetric _ _ (λ q.
    get-links n q
    ∙ (h q ∙ (ap (λ (b : Bool). cond b (Some l) (links_of (table m) q)) (dots_equiv.symm d q)
    ∙ sym (map.get-insert dot_cmp_total (seen_links (map.entries m)) d l q
    ∙ ap (cond (dot_eq q d) (Some l)) (get-links m q)))))

-- marks that stay in the table stay as they are seen
pub marks_same : (m n : RowMap) → ((k : TokenId) → marks_of (table n) k ≡ marks_of (table m) k)
    → seen_marks (map.entries n) ≡ seen_marks (map.entries m)
marks_same m n marks = set.same_set tokens_total exact_tokens _ _
    (λ k. contains-marks n k ∙ (marks k ∙ sym (contains-marks m k)))

-- a link that is taken from the table is taken from what is seen
pub links_taken : (m n : RowMap) (d : Dot)
    → ((q : Dot) → links_of (table n) q ≡ without (links_of (table m)) d q)
    → seen_links (map.entries n) ≡ map.remove (seen_links (map.entries m)) d
links_taken m n d h = map.same_map dot_cmp_total dot_cmp-IsAntisymmetric _ _ (λ q.
    get-links n q
    ∙ (h q ∙ (ap (λ (b : Bool). cond b None (links_of (table m) q)) (dots_equiv.symm d q)
    ∙ sym (map.get-remove dot_cmp_total (seen_links (map.entries m)) d q
    ∙ ap (cond (dot_eq q d) None) (get-links m q)))))

-- no row shows nothing
pub links_none : (m : RowMap) → m ≡ map.empty → seen_links (map.entries m) ≡ map.empty
links_none m none = map.same_map dot_cmp_total dot_cmp-IsAntisymmetric _ _ (λ q.
    get-links m q ∙ ap link_in (ap (λ (x : RowMap). map.get x q) none ∙ map.get-empty dot_cmp q)
    ∙ sym (map.get-empty dot_cmp q))

-- an empty table shows no marks
pub marks_none : (m : RowMap) → m ≡ map.empty → seen_marks (map.entries m) ≡ set.empty
marks_none m none = set.same_set tokens_total exact_tokens _ _ (λ k.
    contains-marks m k
    ∙ ap (λ (o : Option Row). marked_in o k.kind)
    (ap (λ (x : RowMap). map.get x k.dot) none ∙ map.get-empty dot_cmp k.dot)
    ∙ sym (set.contains-empty token_cmp k))
