use Rattle.std.proofs.Common.{◌≡◌, ◌∷◌, Ok, Err, map, refl, rules, string_bytes}
use Rattle.tokend.proofs.CheckLaws.{each_goes, each_stops}
use Rattle.tokend.proofs.check.+load_each.Goals as goal

pub returns-in-Err : goal.returns-in-Err
returns-in-Err g depth c =
    let is : map string_bytes c.args.names.now
    ≡ c.deref.result.now ∷ map string_bytes c.in-Some.more.now = search rules in
    each_stops (map string_bytes c.args.names.now) c.deref.result.now
    (map string_bytes c.in-Some.more.now) (g.I.Read.remaining c.args.input.now) c.in-Err.fault
    c.args.region.now
    c.load_source.new.region is c.in-Err.ensures.loaded

pub returns-in-Ok-load_each : goal.returns-in-Ok-load_each
returns-in-Ok-load_each g depth c =
    let is : map string_bytes c.args.names.now
    ≡ c.deref.result.now ∷ map string_bytes c.in-Some.more.now = search rules in
    each_goes (map string_bytes c.args.names.now) c.deref.result.now
    (map string_bytes c.in-Some.more.now) (g.I.Read.remaining c.args.input.now)
    (g.I.Read.remaining c.load_source.new.input) c.in-Ok.cut (Ok c.in-Ok-load_each.later)
    (Ok c.saturating_add.result) c.args.region.now c.load_source.new.region
    c.load_each.new.region is c.in-Ok.ensures.loaded c.in-Ok.ensures.left c.in-Ok-load_each.ensures
    (search rules)

pub returns-in-Err-load_each : goal.returns-in-Err-load_each
returns-in-Err-load_each g depth c =
    let is : map string_bytes c.args.names.now
    ≡ c.deref.result.now ∷ map string_bytes c.in-Some.more.now = search rules in
    each_goes (map string_bytes c.args.names.now) c.deref.result.now
    (map string_bytes c.in-Some.more.now) (g.I.Read.remaining c.args.input.now)
    (g.I.Read.remaining c.load_source.new.input) c.in-Ok.cut (Err c.in-Err-load_each.fault)
    (Err c.in-Err-load_each.fault) c.args.region.now c.load_source.new.region
    c.load_each.new.region is c.in-Ok.ensures.loaded c.in-Ok.ensures.left c.in-Err-load_each.ensures
    refl
