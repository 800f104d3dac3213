use Rattle.std.proofs.Common.{[], ◌∷◌, ◌++◌, refl, ◌∙◌, codes}
use Rattle.json.specs.Token.{end_object}
use Rattle.serde_json.specs.Data as json
use Rattle.tk_handle.specs.ClientId.{client_text}
use Rattle.tk_message.specs.Bodies.{kind_name, with_refresh, with_number, access_life}
use Rattle.tk_message.specs.Bodies.{refresh_life, family_life}
use Rattle.tk_message.proofs.ShownLaws.{shown_of}
use Rattle.tk_message.proofs.bodies.shown_body.Goals as goal

pub returns : goal.returns
returns c =
    let k = c.args.client_kind.now in
    let lives = c.args.lives in
    c.end.ensures
    (with_number (codes "access_life") (access_life lives)
    (json.member (codes "client_id") (json.string (client_text c.args.client))
    (with_number (codes "family_life") (family_life lives)
    (json.member (codes "kind") (json.string (kind_name k))
    (json.member (codes "live") (json.boolean c.args.live)
    (with_refresh k
    (with_number (codes "refresh_life") (refresh_life lives)
    (json.member (codes "scope") (json.string c.args.scope.now) json.no_members))))))))
    (c.in_ok-put_shown.ensures.before ∙ c.in_ok-out.ensures.before)
    (shown_of [] _ c.put_shown.new.out.tokens (c.put_shown.new.out.tokens ++ end_object ∷ [])
    c.args.client k lives c.args.live c.args.scope.now
    c.in_ok-out.ensures.tokens c.in_ok-put_shown.ensures.ok refl)
