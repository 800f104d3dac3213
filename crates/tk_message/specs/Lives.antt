-- The lives of what a client gets (own).
--   lives_within   the lives of the server, bounded by those of a client
use Rattle.std.specs.Prelude.{min, Option, Some, None}
use Rattle.tk_fact.specs.declared.client_lives.ClientLives.{ClientLives}
use Rattle.tk_message.specs.declared.place.Lives.{Lives}

-- the lives of the server, of which those of tokens and families are bounded by the client's, if it
-- has any. The life of a code is the server's
abbrev pub lives_within : Lives → Option ClientLives → Lives
lives_within lives None = lives
lives_within lives (Some client) = record {
  code = lives.code;
  access = min lives.access client.access;
  refresh = min lives.refresh client.refresh;
  family = min lives.family client.family;
}
