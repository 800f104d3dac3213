-- What a fact that a region makes uses and mints. Key result:
--   made_meets   its tokens end with their family, and what it names was minted for it
use Rattle.std.proofs.Common.{◌≡◌, ◌≢◌, ℕ, ◌≤◌, nat_lt, true, false, cond, List, [], ◌∷◌}
use Rattle.std.proofs.Common.{Option, None, Some, IfSome, refl, sym, ap, subst}
use Rattle.std.proofs.Common.{◌∙◌}
use Rattle.std.specs.FinMap as map
use Rattle.std.specs.Option.{option_and_then}
use Rattle.tk_handle.specs.declared.dot.Dot.{Dot}
use Rattle.tk_handle.specs.declared.kind.Kind.{Kind}
use Rattle.tk_handle.specs.declared.kind.Kind.TheVariants as kind
use Rattle.tk_handle.specs.declared.token_id.TokenId.{TokenId}
use Rattle.tk_family.specs.declared.link.Link.{Link}
use Rattle.tk_family.specs.declared.link.Link.TheVariants.{Code, Redeems, Rotates}
use Rattle.tk_family.specs.Families.{IsParent, IsPath, IsUnder, named_by, use_of}
use Rattle.tk_family.proofs.FamilyLaws.{IsUnder-one, IsUnder-within}
use Rattle.tk_fact.specs.Tokens.{MintedFields, anchor_of, minted_of}
use Rattle.tk_fact.specs.declared.access_refreshed.AccessRefreshed as renewed
use Rattle.tk_fact.specs.declared.body.Body.{Body}
use Rattle.tk_fact.specs.declared.body.Body.TheVariants as body
use Rattle.tk_fact.specs.declared.code_issued.CodeIssued as issued
use Rattle.tk_fact.specs.declared.reuse_seen.ReuseSeen as seen
use Rattle.tk_store.specs.FactSet.{FactSet, IsSubset}
use Rattle.tk_store.specs.StoreFields.{held_facts}
use Rattle.tk_store.proofs.PutLaws.{none_is_not_some, some_injective}
use Rattle.tk_ledger.specs.Tokens.{IsMintedUnder, anchor_by, link_of, links_in}
use Rattle.tk_ledger.specs.Tokens.{issued_in, issued_at, minted_in}
use Rattle.tk_ledger.proofs.RootLaws.{from_some, links-below}
use Rattle.tk_message.specs.RequestFields.{RequestFields}
use Rattle.tk_grant.specs.Within.{IsCodeOf, IsWithin}
use Rattle.tk_region.specs.Decision.{decision_by}
use Rattle.tk_region.specs.RegionFields.{RegionFields, place_in}
use Rattle.tk_region.specs.Step.{early_in, prepared_by, prepared_of}
use Rattle.tk_ledger.proofs.EndingLaws.{under_itself as code_under}
use Rattle.tk_retention.specs.StandsFor.{AddsOne, MeetsFamily}
use Rattle.tk_retention.proofs.KeepingLaws.{minted_more}
use Rattle.tk_retention.proofs.WithinLaws.{made_within, prepares_within}
use Rattle.tk_grant.proofs.GateLaws.{some_known}

-- ---- what meets its family

module _ (F U V : FactSet) (d : Dot) (b : Body) (part : IsSubset F U) (adds : AddsOne U d b V) where
  -- the facts that the region held are among all facts with the new one
  grown : IsSubset F V
  grown q c h = by (part q c h)
    where
      taken : map.get U q ≡ Some c → q ≡ d → ⊥
      taken at same = none_is_not_some c (sym adds.free ∙ ap (map.get U) (sym same) ∙ at)

      by : map.get U q ≡ Some c → map.get V q ≡ Some c
      by at = adds.others q (λ same. taken at same) ∙ at

  -- the link at the new dot is that of the new fact
  link_here : links_in (map.get V) d ≡ link_of b
  link_here = ap (option_and_then link_of) adds.here

  -- what is minted at the new dot is under the codes that its anchor is under
  anchored : (x c : Dot) → x ≡ d → IsMintedUnder (map.get V) x c
      → IsUnder (links_in (map.get V)) (anchor_of d b) c
  anchored x c same under =
      subst (λ (q : Dot). IsUnder (links_in (map.get V)) q c) (ap (anchor_by d) adds.here)
      (subst (λ (q : Dot). IsMintedUnder (map.get V) q c) same under)

  -- a code that the region held is issued by all facts with the new one
  code_grown : (c : Dot) (code : issued.CodeIssued) → issued_at (map.get F) c ≡ Some code
      → issued_at (map.get V) c ≡ Some code
  code_grown c code h =
      let from = from_some issued_in (map.get F c) code h in
      ap (option_and_then issued_in) (grown c from.0 from.1) ∙ from.2

  -- a dot that names p is under the codes that p is under
  above_code : (l : Link) (p c : Dot) → link_of b ≡ Some l → l ≢ Code → named_by l ≡ Some p
      → IsUnder (links_in (map.get V)) d c → IsUnder (links_in (map.get V)) p c
  above_code l p c is other names under = by under.path under.leads
    where
      by : (ps : List Dot) → IsPath (links_in (map.get V)) d ps c
          → IsUnder (links_in (map.get V)) p c
      by [] leads = absurd
          (other (some_injective l Code
          (sym is ∙ sym link_here ∙ ap (links_in (map.get V)) leads.0 ∙ leads.1)))
      by (q ∷ ps) leads =
          let same : leads.0.0.link ≡ l =
          some_injective leads.0.0.link l (sym leads.0.0.here ∙ link_here ∙ is) in
          let here : q ≡ p = some_injective q p (sym leads.0.0.names ∙ ap named_by same ∙ names) in
          subst (λ (x : Dot). IsUnder (links_in (map.get V)) x c) here
          (record { path = ps; leads = (leads.0.1, leads.1) })

  -- a code that the region held is under itself
  code_itself : (c : Dot) (code : issued.CodeIssued) → issued_at (map.get F) c ≡ Some code
      → IsUnder (links_in (map.get V)) c c
  code_itself c code h = code_under V c code (code_grown c code h)

  -- the family of what is above ends at the moment
  ends_by : (p root c : Dot) (moment : ℕ) (code : issued.CodeIssued)
      → IsUnder (links_in (map.get V)) p root → IsCodeOf F root moment
      → IsUnder (links_in (map.get V)) p c → issued_at (map.get V) c ≡ Some code
      → moment ≡ code.family_end
  ends_by p root c moment code under of under_c issues =
      let same : c ≡ root = IsUnder-one (links_in (map.get V)) p c root under_c under in
      let is : of.0 ≡ code = some_injective of.0 code
      (sym (code_grown root of.0 of.1) ∙ ap (issued_at (map.get V)) (sym same) ∙ issues) in
      of.2 ∙ ap (λ (x : issued.CodeIssued). x.family_end) is

  -- what is minted at the new dot is what the new fact mints
  minted_here : (k : TokenId) → k.dot ≡ d → minted_in (map.get V) k ≡ minted_of b k.kind
  minted_here k same = ap (λ (q : Dot).
      option_and_then (λ (x : Body). minted_of x k.kind) (map.get V q)) same
      ∙ ap (option_and_then (λ (x : Body). minted_of x k.kind)) adds.here

  -- a token of a fact expires by a moment if the fact's access and refresh expiries are by then
  ends_within : (b' : Body) (access refresh : ℕ) (k : Kind) (m : MintedFields) (moment : ℕ)
      → k ≢ kind.Code
      → ((x : MintedFields) → minted_of b' kind.Access ≡ Some x → x.expiry ≡ access)
      → ((x : MintedFields) → minted_of b' kind.Refresh ≡ Some x → x.expiry ≡ refresh)
      → access ≤ moment → refresh ≤ moment → minted_of b' k ≡ Some m → m.expiry ≤ moment
  ends_within b' access refresh kind.Code m moment other a r x y h = absurd (other refl)
  ends_within b' access refresh kind.Access m moment other a r x y h =
      subst (λ n. n ≤ moment) (sym (a m h)) x
  ends_within b' access refresh kind.Refresh m moment other a r x y h =
      subst (λ n. n ≤ moment) (sym (r m h)) y

-- a fact that mints codes alone, and uses and refreshes nothing; a reuse is of what was minted
abbrev Alone : FactSet → Body → Type 0
Alone U b = ((k : Kind) → k ≢ kind.Code → minted_of b k ≡ None) × (use_of (link_of b) ≡ None)
    × ((reuse : seen.ReuseSeen) → b ≡ body.ReuseSeen reuse
    → minted_in (map.get U) reuse.token ≢ None)
    × ((f : renewed.AccessRefreshed) → b ≡ body.AccessRefreshed f → ⊥)

-- what is wanted of a family's new fact holds of one that mints codes alone and uses nothing
alone_meets : (U V : FactSet) (d : Dot) (b : Body) → AddsOne U d b V → Alone U b → MeetsFamily U d V
alone_meets U V d b adds alone = record {
  cut = λ k m c code same other minted under issues.
      absurd (none_is_not_some m
      (sym (alone.0 k.kind other) ∙ sym (minted_here U U V d b (λ q x h. h) adds k same) ∙ minted));
  parent = λ k u. absurd
      (none_is_not_some k
      (sym alone.1 ∙ ap use_of (sym (link_here U U V d b (λ q x h. h) adds)) ∙ u));
  reused = λ reuse at. alone.2 reuse (some_injective b (body.ReuseSeen reuse) (sym adds.here ∙ at));
  refreshed =
      λ f at. absurd (alone.3 f (some_injective b (body.AccessRefreshed f) (sym adds.here ∙ at)));
}

-- the fact of an issued code mints a code alone, and uses nothing
codes_alone : (U : FactSet) (f : issued.CodeIssued) → Alone U (body.CodeIssued f)
codes_alone U f = (none, refl, λ reuse same. absurd (cc), λ g same. cc)
  where
    none : (k : Kind) → k ≢ kind.Code → minted_of (body.CodeIssued f) k ≡ None
    none kind.Code other = absurd (other refl)
    none kind.Access other = refl
    none kind.Refresh other = refl

-- a fact that is within its family, by some of the facts made, meets its family among all facts
-- made
pub meets : (F U V : FactSet) (d : Dot) (b : Body) → IsSubset F U → AddsOne U d b V → IsWithin F b
    → MeetsFamily U d V
meets F U V d (body.CodeRedeemed f) part adds within =
    let b : Body = body.CodeRedeemed f in
    let of = within.1 in
    record {
      cut = λ k m c code same other minted under_k issues.
          let under = anchored F U V d b part adds k.dot c same under_k in
          let up = above_code F U V d b part adds (Redeems f.code) f.code c refl
          (λ e. no_code e) refl under in
          let moment : within.0 ≡ code.family_end =
          ends_by F U V d b part adds f.code f.code c within.0 code
          (code_itself F U V d b part adds f.code of.0 of.1) of up issues in
          subst (λ n. m.expiry ≤ n) moment
          (ends_within F U V d b part adds b f.access.expiry f.refresh.expiry k.kind m within.0
          other (λ x h. ap (λ (y : MintedFields). y.expiry) (sym (some_injective _ x h)))
          (λ x h. ap (λ (y : MintedFields). y.expiry) (sym (some_injective _ x h))) within.2
          within.3
          (sym (minted_here F U V d b part adds k same) ∙ minted));
      parent = λ k u.
          let is : record { dot = f.code; kind = kind.Code } ≡ k =
          some_injective _ k (ap use_of (sym (link_here F U V d b part adds)) ∙ u) in
          subst (λ (x : TokenId). IsParent (links_in (map.get V)) d x.dot) is (record {
            link = Redeems f.code;
            above = Code;
            here = link_here F U V d b part adds;
            names = refl;
            there = code_link of.0 (code_grown F U V d b part adds f.code of.0 of.1);
            fitting = refl;
          });
      reused = λ reuse at.
          absurd (no_reuse reuse (some_injective b (body.ReuseSeen reuse) (sym adds.here ∙ at)));
      refreshed = λ g at.
          absurd (no_refresh g (some_injective b (body.AccessRefreshed g) (sym adds.here ∙ at)));
    }
  where
    no_code : Redeems f.code ≡ Code → ⊥
    no_code e = cc

    no_reuse : (reuse : seen.ReuseSeen) → body.CodeRedeemed f ≡ body.ReuseSeen reuse → ⊥
    no_reuse reuse e = cc

    no_refresh : (g : renewed.AccessRefreshed) → body.CodeRedeemed f ≡ body.AccessRefreshed g → ⊥
    no_refresh g e = cc

    code_link : (code : issued.CodeIssued) → issued_at (map.get V) f.code ≡ Some code
        → links_in (map.get V) f.code ≡ Some Code
    code_link code h =
        let from = from_some issued_in (map.get V f.code) code h in
        ap (option_and_then link_of) from.1 ∙ by from.0 from.2
      where
        by : (x : Body) → issued_in x ≡ Some code → link_of x ≡ Some Code
        by (body.CodeIssued y) is = refl
        by x is = absurd (none_is_not_some code is)
meets F U V d (body.RefreshRotated f) part adds within =
    let b : Body = body.RefreshRotated f in
    let root = within.1 in
    let moment = within.3 in
    let of = within.4 in
    record {
      cut = λ k m c code same other minted under_k issues.
          let under = anchored F U V d b part adds k.dot c same under_k in
          let up = above_code F U V d b part adds (Rotates f.parent f.generation) f.parent c refl
          (λ e. no_code e) refl under in
          let old = IsUnder-within (links_in (map.get F)) (links_in (map.get V))
          (links-below F V (grown F U V d b part adds)) f.parent root within.2 in
          let ends : moment ≡ code.family_end =
          ends_by F U V d b part adds f.parent root c moment code old of up issues in
          subst (λ n. m.expiry ≤ n) ends
          (ends_within F U V d b part adds b f.access.expiry f.refresh.expiry k.kind m moment other
          (λ x h. ap (λ (y : MintedFields). y.expiry) (sym (some_injective _ x h)))
          (λ x h. ap (λ (y : MintedFields). y.expiry) (sym (some_injective _ x h))) within.5
          within.6
          (sym (minted_here F U V d b part adds k same) ∙ minted));
      parent = λ k u.
          let is : record { dot = f.parent; kind = kind.Refresh } ≡ k =
          some_injective _ k (ap use_of (sym (link_here F U V d b part adds)) ∙ u) in
          subst (λ (x : TokenId). IsParent (links_in (map.get V)) d x.dot) is (record {
            link = Rotates f.parent f.generation;
            above = within.0.0;
            here = link_here F U V d b part adds;
            names = refl;
            there = links-below F V (grown F U V d b part adds) f.parent within.0.0 within.0.1;
            fitting = within.0.2;
          });
      reused = λ reuse at.
          absurd (no_reuse reuse (some_injective b (body.ReuseSeen reuse) (sym adds.here ∙ at)));
      refreshed = λ g at.
          absurd (no_refresh g (some_injective b (body.AccessRefreshed g) (sym adds.here ∙ at)));
    }
  where
    no_code : Rotates f.parent f.generation ≡ Code → ⊥
    no_code e = cc

    no_reuse : (reuse : seen.ReuseSeen) → body.RefreshRotated f ≡ body.ReuseSeen reuse → ⊥
    no_reuse reuse e = cc

    no_refresh : (g : renewed.AccessRefreshed) → body.RefreshRotated f ≡ body.AccessRefreshed g → ⊥
    no_refresh g e = cc
meets F U V d (body.AccessRefreshed f) part adds within =
    let b : Body = body.AccessRefreshed f in
    let root = within.2 in
    let moment = within.4 in
    let of = within.5 in
    record {
      cut = λ k m c code same other minted under_k issues.
          let up = anchored F U V d b part adds k.dot c same under_k in
          let old = IsUnder-within (links_in (map.get F)) (links_in (map.get V))
          (links-below F V (grown F U V d b part adds)) f.parent root within.3 in
          let ends : moment ≡ code.family_end =
          ends_by F U V d b part adds f.parent root c moment code old of up issues in
          subst (λ n. m.expiry ≤ n) ends
          (by k.kind m moment other within.6
          (sym (minted_here F U V d b part adds k same) ∙ minted));
      parent =
          λ k u. absurd (none_is_not_some k (ap use_of (sym (link_here F U V d b part adds)) ∙ u));
      reused = λ reuse at.
          absurd (no_reuse reuse (some_injective b (body.ReuseSeen reuse) (sym adds.here ∙ at)));
      refreshed = λ g at.
          let is : f ≡ g = one g (some_injective b (body.AccessRefreshed g) (sym adds.here ∙ at)) in
          subst (λ (x : renewed.AccessRefreshed). links_in (map.get U) x.parent ≢ None) is
          (some_known (links_in (map.get U) f.parent) within.0
          (links-below F U part f.parent within.0 within.1));
    }
  where
    by : (k : Kind) (m : MintedFields) (moment : ℕ) → k ≢ kind.Code → f.access.expiry ≤ moment
        → minted_of (body.AccessRefreshed f) k ≡ Some m → m.expiry ≤ moment
    by kind.Code m moment other early h = absurd (other refl)
    by kind.Access m moment other early h =
        subst (λ n. n ≤ moment) (ap (λ (y : MintedFields). y.expiry) (some_injective _ m h)) early
    by kind.Refresh m moment other early h = absurd (none_is_not_some m h)

    no_reuse : (reuse : seen.ReuseSeen) → body.AccessRefreshed f ≡ body.ReuseSeen reuse → ⊥
    no_reuse reuse e = cc

    one : (g : renewed.AccessRefreshed) → body.AccessRefreshed f ≡ body.AccessRefreshed g → f ≡ g
    one g e = cc
meets F U V d (body.CodeIssued f) part adds within =
    alone_meets U V d (body.CodeIssued f) adds (codes_alone U f)
meets F U V d (body.ReuseSeen f) part adds within = alone_meets U V d (body.ReuseSeen f) adds (
  λ k other. refl,
  refl,
  λ reuse same.
      let is : f ≡ reuse = cc in
      subst (λ (x : seen.ReuseSeen). minted_in (map.get U) x.token ≢ None) is
      (minted_more F U part f.token (minted_in (map.get F) f.token) refl within),
  λ g same. cc,
)
meets F U V d b part adds within =
    alone_meets U V d b adds (λ k other. refl, refl, λ reuse same. absurd (cc), λ g same. cc)

-- a fact that a region makes ends with its family, and names what was minted for it
pub made_meets : (r : RegionFields) (U V : FactSet) (now : ℕ) (words : List ℕ)
    (request : RequestFields)
    → IsSubset (held_facts r.facts) U
    → IfSome (prepared_of r now words request).fact (λ f. AddsOne U f.0 f.1 V → MeetsFamily U f.0 V)
made_meets r U V now words request part =
    elim (nat_lt now r.facts.horizon) as
    (λ t. IfSome
    (cond t (early_in (place_in r))
    (prepared_by r.settings.cap (place_in r)
    (decision_by request.endpoint r.facts (place_in r) now words request))).fact (λ f.
    AddsOne U f.0 f.1 V → MeetsFamily U f.0 V)) [
      | true ↦ tt
      | false ↦ by _
          (prepares_within r.facts (place_in r) now words request r.settings.cap
          (decision_by request.endpoint r.facts (place_in r) now words request)
          (made_within r.facts (place_in r) now words request request.endpoint))
    ]
  where
    by : (o : Option (Dot × Body)) → IfSome o (λ f. IsWithin (held_facts r.facts) f.1)
        → IfSome o (λ f. AddsOne U f.0 f.1 V → MeetsFamily U f.0 V)
    by None x = tt
    by (Some f) x = λ adds. meets (held_facts r.facts) U V f.0 f.1 part adds x
