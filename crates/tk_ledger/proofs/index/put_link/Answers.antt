use Rattle.std.proofs.Common.{ap, ◌∙◌, List}
use Rattle.tk_handle.specs.declared.dot.Dot.{Dot}
use Rattle.tk_family.specs.Dots.{has}
use Rattle.tk_store.specs.StoreFields.{held_facts}
use Rattle.tk_ledger.proofs.ChangeLaws.{put_free, put_links, put_ties}
use Rattle.tk_ledger.proofs.index.put_link.Goals as goal

pub put-requires : goal.put-requires
put-requires c = put_free (held_facts c.args.facts.now) c.args.dot c.args.link c.args.forest.now
    c.requires.link c.requires.tied

pub wake_all-requires-clause-links : goal.wake_all-requires-clause-links
wake_all-requires-clause-links c = put_links (held_facts c.args.facts.now) c.args.dot c.args.link
    c.args.forest.now c.put.new.self c.requires.link c.requires.tied c.in-Ok.ensures.links

pub returns-in-Ok-clause-ok : goal.returns-in-Ok-clause-ok
returns-in-Ok-clause-ok c =
    put_ties (held_facts c.args.facts.now) c.args.dot c.args.link c.args.forest.now c.put.new.self
    c.wake_all.new.forest c.as_slice.result.now c.requires.link c.requires.tied
    c.in-Ok.ensures.links c.in-Ok.ensures.marks
    (λ q r. ap (λ (ds : List Dot). has ds q) c.as_slice.ensures.value
    ∙ c.in-Ok.ensures.all_raised q r)
    c.wake_all.ensures
