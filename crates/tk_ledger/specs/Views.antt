-- The views of clients and consents (own).
--   client_view    the client that was added at a dot, and whether it is live
--   consent_view   the consent that was given at a dot, and whether it is live
use Rattle.std.specs.Prelude.{not, Option}
use Rattle.std.specs.Option.{option_map}
use Rattle.tk_handle.specs.declared.dot.Dot.{Dot}
use Rattle.tk_store.specs.FactSet.{FactSet}
use Rattle.tk_ledger.specs.Clients.{client_at, is_live_client, consent_at, is_withdrawn}
use Rattle.tk_ledger.specs.ViewFields.{ClientFields, ConsentFields}

-- the client as the fact that added it has it, and whether no retirement names it
abbrev pub client_view : FactSet → Dot → Option ClientFields
client_view F d = option_map (λ c. record {
  client_kind = c.client_kind;
  scope = c.scope;
  redirects = c.redirects;
  lives = c.lives;
  live = is_live_client F d;
}) (client_at F d)

-- the consent as the fact that gave it has it, and whether no withdrawal names it
abbrev pub consent_view : FactSet → Dot → Option ConsentFields
consent_view F d = option_map (λ c. record {
  client = c.client;
  subject = c.subject;
  scope = c.scope;
  live = not (is_withdrawn F d);
}) (consent_at F d)
