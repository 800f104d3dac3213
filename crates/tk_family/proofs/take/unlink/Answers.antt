use Rattle.std.proofs.Common.{◌≡◌, sym, ◌∙◌, ap, refl, subst, Some, cond}
use Rattle.std.specs.BTreeSet.{BTreeSet}
use Rattle.tk_handle.specs.declared.dot.Dot.{Dot}
use Rattle.tk_family.specs.declared.children.Child.{Child}
use Rattle.tk_family.specs.declared.link.Link.{Link}
use Rattle.tk_family.specs.declared.link.Link.TheVariants.{Code}
use Rattle.tk_family.specs.Children.{others_in, token_at}
use Rattle.tk_family.specs.Dots.{dot_eq}
use Rattle.tk_family.specs.Kept.{Hangs}
use Rattle.tk_family.specs.Rows.{RowMap, Rows, table, links_of, firsts_of}
use Rattle.tk_family.specs.Uses.{uses_by}
use Rattle.tk_family.specs.Writes.{without_link}
use Rattle.tk_family.proofs.Columns.{no_name}
use Rattle.tk_family.proofs.Gathering.{link_row}
use Rattle.tk_family.proofs.HangLaws.{named_token}
use Rattle.tk_family.proofs.HangRemovalLaws.{Hangs-code}
use Rattle.tk_family.proofs.Unlinking.{Loose-code, Loose-from, Unlinks-from, Hangs-unlinked}
use Rattle.tk_family.proofs.Unlinking.{IsCountedAs-unhangs, IsCount-bare}
use Rattle.tk_family.proofs.take.unlink.Goals as goal
use Rattle.tk_family.proofs.take.unlink.Goals.{in-Some, in_default}

pub unhang-requires-clause-uses : goal.unhang-requires-clause-uses
unhang-requires-clause-uses c =
    let T : Rows = table c.args.rows.now in
    ap (λ k. uses_by (links_of T c.args.dot) (token_at c.in-Some.above k)) c.used_kind.ensures
    ∙ named_token (links_of T c.args.dot) c.args.link.now c.in-Some.above c.requires.here
    (sym c.named.ensures ∙ c.in-Some.is)

pub recount-requires-clause-counted : goal.recount-requires-clause-counted
recount-requires-clause-counted c = rw c.is_bad-was.ensures
    (IsCountedAs-unhangs (table c.args.rows.now) (table c.unhang.new.rows)
    (token_at c.in-Some.above c.used_kind.result) c.requires.counted c.unhang.ensures.kept)

pub recount-requires-clause-coded : goal.recount-requires-clause-coded
recount-requires-clause-coded c = λ code h.
    let kept = c.unhang.ensures.kept in
    link_row (table c.unhang.new.rows code) Code
    (kept.link code ∙ c.requires.coded c.in-Some.above code (sym (kept.code c.in-Some.above) ∙ h))

-- the rows after each branch
rows_after : (N : Rows) (d : Dot) (m n : RowMap) → m ≡ n
    → ((q : Dot) → N q ≡ cond (dot_eq d q) (without_link (table m q)) (table m q)) → (q : Dot)
    → N q ≡ cond (dot_eq d q) (without_link (table n q)) (table n q)
rows_after N d m n is h = subst (λ (x : RowMap).
    (q : Dot) → N q ≡ cond (dot_eq d q) (without_link (table x q)) (table x q)) is h

pub returns-clause-unlinks : goal.returns-clause-unlinks
returns-clause-unlinks c =
    let T : Rows = table c.args.rows.now in
    let N : Rows = table c.set_bare.new.rows in
    elim c.match-named.branch [
      | in-Some w ↦ Unlinks-from T (table w.recount.new.rows) N c.args.dot
          (Loose-from T (table w.unhang.new.rows) (table w.recount.new.rows) c.args.dot
          (token_at w.in-Some.above w.used_kind.result) w.unhang.ensures.kept w.unhang.ensures.known
          w.recount.ensures.alike)
          (rows_after N c.args.dot c.match-named.rows w.recount.new.rows w.rows-is
          c.set_bare.ensures.rows)
      | in_default w ↦ Unlinks-from T T N c.args.dot
          (Loose-code T c.args.dot c.requires.known
          (c.requires.here
          ∙ ap (λ (k : Link). Some k)
          (no_name c.args.link.now (sym c.named.ensures ∙ w.in_default.is))))
          (rows_after N c.args.dot c.match-named.rows c.args.rows.now w.rows-is
          c.set_bare.ensures.rows)
    ]

pub returns-clause-hung : goal.returns-clause-hung
returns-clause-hung c =
    let T : Rows = table c.args.rows.now in
    let N : Rows = table c.set_bare.new.rows in
    elim c.match-named.branch [
      | in-Some w ↦ subst (λ (s : BTreeSet Child). Hangs (links_of N) (firsts_of N) (others_in s))
          (sym w.others-is)
          (Hangs-unlinked T (table w.unhang.new.rows) (table w.recount.new.rows) N
          (others_in w.unhang.new.others) c.args.dot w.unhang.ensures.hung
          w.recount.ensures.alike.first
          (rows_after N c.args.dot c.match-named.rows w.recount.new.rows w.rows-is
          c.set_bare.ensures.rows) (returns-clause-unlinks c))
      | in_default w ↦ subst (λ (s : BTreeSet Child).
          Hangs (links_of N) (firsts_of N) (others_in s)) (sym w.others-is)
          (Hangs-unlinked T T T N (others_in c.args.others.now) c.args.dot
          (Hangs-code (links_of T) (firsts_of T) (others_in c.args.others.now) c.args.dot
          (c.requires.here
          ∙ ap (λ (k : Link). Some k)
          (no_name c.args.link.now (sym c.named.ensures ∙ w.in_default.is))) c.requires.hung)
          (λ q. refl)
          (rows_after N c.args.dot c.match-named.rows c.args.rows.now w.rows-is
          c.set_bare.ensures.rows) (returns-clause-unlinks c))
    ]

pub returns-clause-counted : goal.returns-clause-counted
returns-clause-counted c =
    let T : Rows = table c.args.rows.now in
    let N : Rows = table c.set_bare.new.rows in
    elim c.match-named.branch [
      | in-Some w ↦ IsCount-bare (table w.recount.new.rows) N c.args.dot w.recount.ensures.counted
          (w.recount.ensures.alike.code c.args.dot
          ∙ (w.unhang.ensures.kept.code c.args.dot ∙ c.requires.alone))
          (subst (λ (m : RowMap).
          (q : Dot) → N q ≡ cond (dot_eq c.args.dot q) (without_link (table m q)) (table m q))
          w.rows-is c.set_bare.ensures.rows)
      | in_default w ↦ IsCount-bare T N c.args.dot c.requires.counted c.requires.alone
          (subst (λ (m : RowMap).
          (q : Dot) → N q ≡ cond (dot_eq c.args.dot q) (without_link (table m q)) (table m q))
          w.rows-is c.set_bare.ensures.rows)
    ]
