use Rattle.std.proofs.Common.{◌≡◌, [], ◌∷◌, ◌++◌, Option, ℕ, ap, ◌∙◌, codes, rules}
use Rattle.std.proofs.lemmas.Result.{on_ok_weaker}
use Rattle.json.specs.Token.{key, string, boolean}
use Rattle.tk_handle.specs.ClientId.{client_text}
use Rattle.tk_message.specs.Bodies.{kind_name, refresh_written, number_written}
use Rattle.tk_message.specs.Bodies.{access_life, refresh_life, family_life}
use Rattle.tk_message.proofs.MemberLaws.{eight_of}
use Rattle.tk_message.proofs.bodies.put_shown.Goals as goal

pub returns-clause-ok : goal.returns-clause-ok
returns-clause-ok c =
    let lives = c.args.lives in
    let access : c.map.result ≡ access_life lives = search rules in
    let id : c.as_str.result.now ≡ client_text c.args.client = search rules in
    let family : c.map-2.result ≡ family_life lives = search rules in
    let kind : c.kind_name.result.now ≡ kind_name c.args.client_kind.now = search rules in
    let refresh : c.map-3.result ≡ refresh_life lives = search rules in
    let scope : c.text.result.now ≡ c.args.scope.now = search rules in
    let t0 = c.args.out.now.tokens in
    let t1 = c.put_optional.new.out.tokens in
    let t2 = c.put_text.new.out.tokens in
    let t3 = c.put_optional-2.new.out.tokens in
    let t4 = c.put_text-2.new.out.tokens in
    let t5 = c.put_flag.new.out.tokens in
    let t6 = c.put_refresh.new.out.tokens in
    let t7 = c.put_optional-3.new.out.tokens in
    on_ok_weaker c.put_text-3.result
    (λ h. eight_of t0 t1 t2 t3 t4 t5 t6 t7 c.put_text-3.new.out.tokens
    (number_written (codes "access_life") (access_life lives))
    (key (codes "client_id") ∷ string (client_text c.args.client) ∷ [])
    (number_written (codes "family_life") (family_life lives))
    (key (codes "kind") ∷ string (kind_name c.args.client_kind.now) ∷ [])
    (key (codes "live") ∷ boolean c.args.live ∷ [])
    (refresh_written c.args.client_kind.now)
    (number_written (codes "refresh_life") (refresh_life lives))
    (key (codes "scope") ∷ string c.args.scope.now ∷ [])
    (c.in_ok-put_optional.ensures.ok
    ∙ ap (λ (o : Option ℕ). t0 ++ number_written (codes "access_life") o) access)
    (c.in_ok-put_text.ensures.ok ∙ ap (λ x. t1 ++ key (codes "client_id") ∷ string x ∷ []) id)
    (c.in_ok-put_optional-2.ensures.ok
    ∙ ap (λ (o : Option ℕ). t2 ++ number_written (codes "family_life") o) family)
    (c.in_ok-put_text-2.ensures.ok ∙ ap (λ x. t3 ++ key (codes "kind") ∷ string x ∷ []) kind)
    c.in_ok-put_flag.ensures.ok
    c.in_ok-put_refresh.ensures.ok
    (c.in_ok-put_optional-3.ensures.ok
    ∙ ap (λ (o : Option ℕ). t6 ++ number_written (codes "refresh_life") o) refresh)
    (h ∙ ap (λ x. t7 ++ key (codes "scope") ∷ string x ∷ []) scope))
    c.put_text-3.ensures.ok
