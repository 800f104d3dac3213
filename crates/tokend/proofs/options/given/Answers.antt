use Rattle.std.proofs.Common.{◌<◌, ◌^◌, subst, sym}
use Rattle.std.specs.Str.Parse.{ParsesUnsigned, ExplainsUnsignedError, HasUnsignedDigitsIfOk}
use Rattle.clap.specs.Words.{found_of}
use Rattle.tokend.proofs.TypedNumber.{number_read, number_unread}
use Rattle.tokend.proofs.options.given.Goals as goal

pub returns-clause-value : goal.returns-clause-value
returns-clause-value c =
    number_read
    (λ bs r. ParsesUnsigned 64 10 bs r × ExplainsUnsignedError 10 bs r × HasUnsignedDigitsIfOk bs r)
    (found_of c.args.matches.now) c.args.id.now c.get_one.result (λ t n h. (h.0.0.0, sym h.0.1))
    c.get_one.ensures.none c.get_one.ensures.value

pub returns-clause-none : goal.returns-clause-none
returns-clause-none c =
    number_unread
    (λ bs r. ParsesUnsigned 64 10 bs r × ExplainsUnsignedError 10 bs r × HasUnsignedDigitsIfOk bs r)
    (found_of c.args.matches.now) c.args.id.now c.get_one.result
    (λ t e n h lt d. h.0 (d.0, subst (λ m. m < 2 ^ 64) (sym d.1) lt)) c.get_one.ensures.value
