use Rattle.std.proofs.Common.{rules}
use Rattle.std.specs.Prelude.{string_bytes}
use Rattle.clap.specs.Words.{found_of}
use Rattle.tokend.specs.declared.address.Address.TheVariants.{Socket}
use Rattle.tokend.proofs.TaskOptions.{socket_read, socket_unread}
use Rattle.tokend.proofs.address.read_address.Goals as goal

pub returns-in-Some-clause-address : goal.returns-in-Some-clause-address
returns-in-Some-clause-address c =
    socket_read (found_of c.args.matches.now) (Socket c.in-Some.path) c.get_str.result
    c.socket_alone.result c.get_str.ensures c.is_some-has_port.result (search rules)
    (λ none. (search rules, none)) c.socket_alone.ensures

pub returns-in-Some-clause-none : goal.returns-in-Some-clause-none
returns-in-Some-clause-none c =
    socket_unread (found_of c.args.matches.now) (Socket c.in-Some.path) c.get_str.result
    c.socket_alone.result c.get_str.ensures c.is_some-has_port.result (string_bytes c.in-Some.path)
    (search rules) (search rules)
    c.socket_alone.ensures
