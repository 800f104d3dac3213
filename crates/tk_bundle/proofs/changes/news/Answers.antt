use Rattle.tk_bundle.proofs.NewsLaws.{news_fits}
use Rattle.tk_bundle.proofs.changes.news.Goals as goal

pub returns-then-not-changes-clause-fits : goal.returns-then-not-changes-clause-fits
returns-then-not-changes-clause-fits c = news_fits c.args.store.now.slots c.args.sent.now c.requires

pub returns-in_err-bytes-clause-fits : goal.returns-in_err-bytes-clause-fits
returns-in_err-bytes-clause-fits c = news_fits c.args.store.now.slots c.args.sent.now c.requires

pub returns-clause-fits : goal.returns-clause-fits
returns-clause-fits c = news_fits c.args.store.now.slots c.args.sent.now c.requires
