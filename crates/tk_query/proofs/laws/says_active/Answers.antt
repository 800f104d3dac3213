-- The law of introspection follows from the laws of a status.
use Rattle.tk_query.proofs.ActiveLaws as laws
use Rattle.tk_query.proofs.laws.says_active.Goals as goal

pub returns-clause-active : goal.returns-clause-active
returns-clause-active c =
    λ F seen now client_kind asker h a may. laws.says_active F seen now client_kind asker h a may

pub returns-clause-nothing : goal.returns-clause-nothing
returns-clause-nothing c =
    λ F seen now client_kind asker h n. laws.says_nothing F seen now client_kind asker h n

pub returns-clause-hidden : goal.returns-clause-hidden
returns-clause-hidden c = laws.hides_refresh
