-- A forest as contracts see it: a finite map from dots to links, and a finite set of marks (own).
--   ForestFacts           the links and the marks of a forest
--   links_at, marks_at    the link at a dot; the marked tokens
--   coded_forest          the code of a forest
use Rattle.std.specs.Prelude.{◌≡◌, ℕ, Bool, true, false, Option, None, Some, refl}
use Rattle.std.specs.Coded.{Coded, code_by, coded×, coded_ℕ, coded_bool, coded_option}
use Rattle.std.specs.FinMap as map
use Rattle.std.specs.FinSet as set
use Rattle.tk_handle.specs.declared.dot.Dot.{Dot}
use Rattle.tk_handle.specs.declared.kind.Kind.{Kind}
use Rattle.tk_handle.specs.declared.kind.Kind.TheVariants as kind
use Rattle.tk_handle.specs.declared.token_id.TokenId.{TokenId}
use Rattle.tk_handle.specs.Dot.{dot_cmp, coded_dot}
use Rattle.tk_handle.specs.TokenId.{token_cmp}
use Rattle.tk_family.specs.declared.link.Link.{Link}
use Rattle.tk_family.specs.declared.link.Link.TheVariants.{Code, Redeems, Rotates}
use Rattle.tk_family.specs.Families.{Links, Marks}
use Rattle.tk_family.specs.Laws.{passing}

-- a forest as contracts see it: its links and its marks
pub record ForestFacts : Type 0 where
  pub links : map.FinMap dot_cmp Link
  pub marks : set.FinSet token_cmp

-- the link at each dot of a forest
abbrev pub links_at : ForestFacts → Links
links_at f q = map.get f.links q

-- the marked tokens of a forest
abbrev pub marks_at : ForestFacts → Marks
marks_at f = passing (set.contains f.marks)

-- ---- codes of links, kinds, tokens and forests

-- a link as plain data
abbrev pub link_out : Link → Option (Dot × Option ℕ)
link_out Code = None
link_out (Redeems d) = Some (d, None)
link_out (Rotates d g) = Some (d, Some g)

-- the link that names a dot: a redemption, or a rotation of a generation
abbrev pub link_from : Dot → Option ℕ → Link
link_from d None = Redeems d
link_from d (Some g) = Rotates d g

-- the link of plain data
abbrev pub link_back : Option (Dot × Option ℕ) → Link
link_back None = Code
link_back (Some p) = link_from p.0 p.1

-- a link is the link of its plain data
pub link_undo : (l : Link) → link_back (link_out l) ≡ l
link_undo Code = refl
link_undo (Redeems d) = refl
link_undo (Rotates d g) = refl

-- the code of a link
abbrev pub coded_link : Coded Link
coded_link = code_by (Option (Dot × Option ℕ))
    (coded_option (coded× coded_dot (coded_option coded_ℕ))) link_out link_back link_undo

-- a kind as plain data
abbrev pub kind_out : Kind → Option Bool
kind_out kind.Code = None
kind_out kind.Access = Some false
kind_out kind.Refresh = Some true

-- the kind of plain data
abbrev pub kind_back : Option Bool → Kind
kind_back None = kind.Code
kind_back (Some false) = kind.Access
kind_back (Some true) = kind.Refresh

-- a token with its kind as plain data, and back, is the token
token_by : (d : Dot) (k : Kind)
    → ◌≡◌ {A = TokenId} (record { dot = d; kind = kind_back (kind_out k) })
    (record { dot = d; kind = k })
token_by d kind.Code = refl
token_by d kind.Access = refl
token_by d kind.Refresh = refl

-- a token is the token of its plain data
pub token_undo : (k : TokenId) → record { dot = k.dot; kind = kind_back (kind_out k.kind) } ≡ k
token_undo k = token_by k.dot k.kind

-- the code of a token
abbrev pub coded_token : Coded TokenId
coded_token = code_by (Dot × Option Bool) (coded× coded_dot (coded_option coded_bool))
    (λ k. (k.dot, kind_out k.kind)) (λ p. record { dot = p.0; kind = kind_back p.1 }) token_undo

-- the code of a forest
abbrev pub coded_forest : Coded ForestFacts
coded_forest = code_by (map.FinMap dot_cmp Link × set.FinSet token_cmp)
    (coded× (map.code coded_dot coded_link) (set.code coded_token)) (λ f. (f.links, f.marks))
    (λ p. record { links = p.0; marks = p.1 }) (λ _. refl)
