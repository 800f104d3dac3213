use Rattle.tk_bundle.proofs.PagingLaws.{complete}
use Rattle.tk_bundle.proofs.paging.pages_complete.Goals as goal

pub returns : goal.returns
returns c = complete
