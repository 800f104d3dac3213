use Rattle.std.proofs.Common.{sym, ◌∙◌, refl, subst}
use Rattle.tk_family.specs.Children.{others_in}
use Rattle.tk_family.specs.Rows.{RowMap, Rows, table, links_of, firsts_of}
use Rattle.tk_family.proofs.HangLaws.{Hangs-same}
use Rattle.tk_family.proofs.Taking.{Ready, Ready-whole, Ready-none, HasUses-cleared, codes_links}
use Rattle.tk_family.proofs.Taking.{Takes-from}
use Rattle.tk_family.proofs.take.take_link.Goals as goal
use Rattle.tk_family.proofs.take.take_link.Goals.{in-Some, in_default}

pub unlink-requires-clause-hung : goal.unlink-requires-clause-hung
unlink-requires-clause-hung c =
    let T : Rows = table c.args.rows.now in
    let r : Ready T (table c.match-code_at.rows) c.args.dot c.args.link.now =
    elim c.match-code_at.branch [
      | in-Some w ↦ subst (λ (m : RowMap). Ready T (table m) c.args.dot c.args.link.now)
          (sym w.rows-is)
          (Ready-whole T (table w.clear_below.new.rows) c.args.dot c.args.link.now w.in-Some.code
          c.requires.forest c.requires.here (sym c.code_at.ensures ∙ w.in-Some.is)
          w.clear_below.ensures.clears)
      | in_default w ↦ subst (λ (m : RowMap). Ready T (table m) c.args.dot c.args.link.now)
          (sym w.rows-is)
          (Ready-none T c.args.dot c.args.link.now c.requires.forest c.requires.here
          (sym c.code_at.ensures ∙ w.in_default.is))
    ] in
    Hangs-same (links_of T) (links_of (table c.match-code_at.rows)) (firsts_of T)
    (firsts_of (table c.match-code_at.rows)) (others_in c.args.others.now)
    (others_in c.args.others.now) r.cleared.link r.cleared.first (λ k e. refl) c.requires.hung

pub unlink-requires-clause-known : goal.unlink-requires-clause-known
unlink-requires-clause-known c =
    let T : Rows = table c.args.rows.now in
    let r : Ready T (table c.match-code_at.rows) c.args.dot c.args.link.now =
    elim c.match-code_at.branch [
      | in-Some w ↦ subst (λ (m : RowMap). Ready T (table m) c.args.dot c.args.link.now)
          (sym w.rows-is)
          (Ready-whole T (table w.clear_below.new.rows) c.args.dot c.args.link.now w.in-Some.code
          c.requires.forest c.requires.here (sym c.code_at.ensures ∙ w.in-Some.is)
          w.clear_below.ensures.clears)
      | in_default w ↦ subst (λ (m : RowMap). Ready T (table m) c.args.dot c.args.link.now)
          (sym w.rows-is)
          (Ready-none T c.args.dot c.args.link.now c.requires.forest c.requires.here
          (sym c.code_at.ensures ∙ w.in_default.is))
    ] in
    HasUses-cleared T (table c.match-code_at.rows) r.list c.requires.forest r.cleared

pub unlink-requires-clause-counted : goal.unlink-requires-clause-counted
unlink-requires-clause-counted c =
    let T : Rows = table c.args.rows.now in
    let r : Ready T (table c.match-code_at.rows) c.args.dot c.args.link.now =
    elim c.match-code_at.branch [
      | in-Some w ↦ subst (λ (m : RowMap). Ready T (table m) c.args.dot c.args.link.now)
          (sym w.rows-is)
          (Ready-whole T (table w.clear_below.new.rows) c.args.dot c.args.link.now w.in-Some.code
          c.requires.forest c.requires.here (sym c.code_at.ensures ∙ w.in-Some.is)
          w.clear_below.ensures.clears)
      | in_default w ↦ subst (λ (m : RowMap). Ready T (table m) c.args.dot c.args.link.now)
          (sym w.rows-is)
          (Ready-none T c.args.dot c.args.link.now c.requires.forest c.requires.here
          (sym c.code_at.ensures ∙ w.in_default.is))
    ] in
    r.counted

pub unlink-requires-clause-coded : goal.unlink-requires-clause-coded
unlink-requires-clause-coded c =
    let T : Rows = table c.args.rows.now in
    let r : Ready T (table c.match-code_at.rows) c.args.dot c.args.link.now =
    elim c.match-code_at.branch [
      | in-Some w ↦ subst (λ (m : RowMap). Ready T (table m) c.args.dot c.args.link.now)
          (sym w.rows-is)
          (Ready-whole T (table w.clear_below.new.rows) c.args.dot c.args.link.now w.in-Some.code
          c.requires.forest c.requires.here (sym c.code_at.ensures ∙ w.in-Some.is)
          w.clear_below.ensures.clears)
      | in_default w ↦ subst (λ (m : RowMap). Ready T (table m) c.args.dot c.args.link.now)
          (sym w.rows-is)
          (Ready-none T c.args.dot c.args.link.now c.requires.forest c.requires.here
          (sym c.code_at.ensures ∙ w.in_default.is))
    ] in
    codes_links T (table c.match-code_at.rows) r.list c.requires.forest r.cleared

pub returns-clause-takes : goal.returns-clause-takes
returns-clause-takes c =
    let T : Rows = table c.args.rows.now in
    let r : Ready T (table c.match-code_at.rows) c.args.dot c.args.link.now =
    elim c.match-code_at.branch [
      | in-Some w ↦ subst (λ (m : RowMap). Ready T (table m) c.args.dot c.args.link.now)
          (sym w.rows-is)
          (Ready-whole T (table w.clear_below.new.rows) c.args.dot c.args.link.now w.in-Some.code
          c.requires.forest c.requires.here (sym c.code_at.ensures ∙ w.in-Some.is)
          w.clear_below.ensures.clears)
      | in_default w ↦ subst (λ (m : RowMap). Ready T (table m) c.args.dot c.args.link.now)
          (sym w.rows-is)
          (Ready-none T c.args.dot c.args.link.now c.requires.forest c.requires.here
          (sym c.code_at.ensures ∙ w.in_default.is))
    ] in
    Takes-from T (table c.match-code_at.rows) (table c.unlink.new.rows) c.args.dot c.args.link.now
    r.code r.list c.requires.forest c.requires.here r.below r.cleared c.unlink.ensures.unlinks
    c.unlink.ensures.counted
