-- What the rows of a forest keep is kept when a link is put and when a token is marked.
--   Grown                  the dots that a link brought under a code
--   PutRows                the rows after a link was put
use Rattle.std.proofs.Common.{◌≡◌, ◌⊎◌, inl, inr, true, cond, Option, None, Some, List, [], ◌∷◌}
use Rattle.std.proofs.Common.{◌||◌, ◌&&◌, ap, sym, ◌∙◌, refl, subst}
use Rattle.std.proofs.lemmas.Bool.{true≢false, cases_Bool, or_cases, or_left, or_right, cond-true}
use Rattle.std.proofs.lemmas.Bool.{cond-false, and_parts, and_from}
use Rattle.tk_handle.specs.declared.dot.Dot.{Dot}
use Rattle.tk_handle.specs.declared.kind.Kind.{Kind}
use Rattle.tk_handle.specs.declared.kind.Kind.TheVariants as kind
use Rattle.tk_handle.specs.declared.token_id.TokenId.{TokenId}
use Rattle.tk_handle.specs.Kind.{is_code, is_refresh}
use Rattle.tk_family.specs.Laws.{passing}
use Rattle.tk_family.specs.declared.link.Link.{Link}
use Rattle.tk_family.specs.declared.link.Link.TheVariants.{Code, Redeems, Rotates}
use Rattle.tk_family.specs.Dots.{dot_eq, has}
use Rattle.tk_family.specs.Families.{Links, used_by, grant_at, use_of, IsParent, IsPath, IsUnder}
use Rattle.tk_family.specs.Families.{IsTwice, IsBad, IsDead, LinksWithin, IsUsed}
use Rattle.tk_family.specs.Uses.{uses_it}
use Rattle.tk_family.specs.Counts.{IsCounted}
use Rattle.tk_family.specs.Rows.{Rows, code_in, dead_in, used_in, again_in, bad_at, bad_in}
use Rattle.tk_family.specs.Rows.{blamed_in, links_of, marks_of}
use Rattle.tk_family.specs.Kept.{IsForest}
use Rattle.tk_family.proofs.DotLaws.{cases_dots, dot_eq-true, dot_eq-same}
use Rattle.tk_family.proofs.Adding.{Adds, Within-adds, IsPath-adds, alone, below_under}
use Rattle.tk_family.proofs.FamilyLaws.{IsUnder-one, IsUnder-within, IsTwice-within, use_of-within}
use Rattle.tk_family.proofs.Counting.{blamed-bad, blamed-parts, count-some, some-count}

-- ---- what is under a code with one more link

-- ys are exactly the dots that came under c0
pub record Grown (f g : Links) (c0 : Dot) (ys : List Dot) : Type 0 where
  pub claim : (q c : Dot) → IsUnder g q c → (has ys q ≡ true) ⊎ IsUnder f q c
  pub sound : (q : Dot) → has ys q ≡ true → IsUnder g q c0

-- the dots below the new link, closed under children, are what grows
pub Grown-walk : (f g : Links) (d : Dot) (l : Link) (c : Dot) (ys : List Dot) → Adds f g d l
    → (has ys d ≡ true) → ((x e : Dot) → has ys x ≡ true → IsParent g e x → has ys e ≡ true)
    → ((q : Dot) → has ys q ≡ true → IsUnder g q c) → Grown f g c ys
Grown-walk f g d l c ys a root closed sound = record {
  claim = λ q b u. IsPath-adds f g d l (has ys) a root closed q u.path b u.leads;
  sound = sound;
}

-- a path doesn't use a new link that is under no code
pub IsPath-waits : (f g : Links) (d : Dot) (l : Link) → Adds f g d l
    → ((c : Dot) → IsUnder g d c → ⊥) → (q : Dot) (ps : List Dot) (c : Dot) → IsPath g q ps c
    → IsUnder f q c
IsPath-waits f g d l a none_under q [] c m = elim (cases_dots q d) [
  | inl same ↦ absurd
      (none_under c (subst (λ (x : Dot). IsUnder g x c) same (record { path = []; leads = m })))
  | inr ne ↦ alone f g d l a q c ne m
]
IsPath-waits f g d l a none_under q (p ∷ ps) c m = elim (cases_dots q d) [
  | inl same ↦ absurd
      (none_under c (subst (λ (x : Dot). IsUnder g x c) same (record { path = p ∷ ps; leads = m })))
  | inr ne ↦
      below_under f g d l a q p c ne m.0.0 (IsPath-waits f g d l a none_under p ps c (m.0.1, m.1))
]

-- nothing grows by a link that is under no code
pub Grown-waits : (f g : Links) (d : Dot) (l : Link) (c0 : Dot) → Adds f g d l
    → ((c : Dot) → IsUnder g d c → ⊥) → Grown f g c0 []
Grown-waits f g d l c0 a none_under = record {
  claim = λ q c u. inr (IsPath-waits f g d l a none_under q u.path c u.leads);
  sound = λ q h. absurd (true≢false (sym h));
}

-- ---- uses

-- a dot with a use has a link
some_use : (f : Links) (e : Dot) (k : TokenId) → use_of (f e) ≡ Some k → f e ≡ None → ⊥
some_use f e k h none = let clash : None ≡ Some k = sym (ap use_of none) ∙ h in cc

-- a grant that is used with one more link was used before, or is by this link
pub IsUsed-adds : (f g : Links) (d : Dot) (l : Link) → Adds f g d l → (k : TokenId) → IsUsed g k
    → (used_by l ≡ Some k) ⊎ IsUsed f k
IsUsed-adds f g d l a k u = elim (cases_dots u.user d) [
  | inl same ↦ inl (sym (ap use_of (ap g same ∙ a.here)) ∙ u.by)
  | inr ne ↦ inr (record { user = u.user; by = sym (ap use_of (a.others u.user ne)) ∙ u.by })
]

-- a grant that is used twice with one more link was so before, or was used and is again
pub IsTwice-adds : (f g : Links) (d : Dot) (l : Link) → Adds f g d l → (k : TokenId) → IsTwice g k
    → ((used_by l ≡ Some k) × IsUsed f k) ⊎ IsTwice f k
IsTwice-adds f g d l a k t = elim (cases_dots t.one d) [
  | inl first ↦ elim (cases_dots t.two d) [
    | inl second ↦ absurd (t.apart (first ∙ sym second))
    | inr other ↦ inl (
      sym (ap use_of (ap g first ∙ a.here)) ∙ t.by_one,
      record { user = t.two; by = sym (ap use_of (a.others t.two other)) ∙ t.by_two },
    )
  ]
  | inr other ↦ elim (cases_dots t.two d) [
    | inl second ↦ inl (
      sym (ap use_of (ap g second ∙ a.here)) ∙ t.by_two,
      record { user = t.one; by = sym (ap use_of (a.others t.one other)) ∙ t.by_one },
    )
    | inr also ↦ inr
        (record {
          one = t.one;
          two = t.two;
          apart = t.apart;
          by_one = sym (ap use_of (a.others t.one other)) ∙ t.by_one;
          by_two = sym (ap use_of (a.others t.two also)) ∙ t.by_two;
        })
  ]
]

-- a grant that was used, and is by the new link, is used twice
pub IsTwice-new : (f g : Links) (d : Dot) (l : Link) → Adds f g d l → (k : TokenId)
    → used_by l ≡ Some k → IsUsed f k → IsTwice g k
IsTwice-new f g d l a k uses u = record {
  one = d;
  two = u.user;
  apart = λ same. some_use f u.user k u.by (ap f (sym same) ∙ a.free);
  by_one = ap use_of a.here ∙ uses;
  by_two = use_of-within f g (Within-adds f g d l a) u.user (f u.user) k refl u.by;
}

-- ---- bad tokens

-- a row that is bad is that of a bad dot
pub bad-sound : (T : Rows)
    → ((k : TokenId) → again_in (T k.dot) k.kind ≡ true → IsTwice (links_of T) k)
    → (d : Dot) (o : Option Link) → links_of T d ≡ o → bad_at o (T d) ≡ true
    → IsBad (links_of T) (passing (marks_of T)) d
bad-sound T again d None at h = absurd (true≢false (sym h))
bad-sound T again d (Some Code) at h = record {
  link = Code;
  here = at;
  why = elim (or_cases _ _ h) [
    | inl marked ↦ inl marked
    | inr twice ↦ inr (again (grant_at d Code) twice)
  ];
}
bad-sound T again d (Some (Redeems c)) at h = record {
  link = Redeems c;
  here = at;
  why = elim (or_cases _ _ h) [
    | inl marked ↦ inl marked
    | inr twice ↦ inr (again (grant_at d (Redeems c)) twice)
  ];
}
bad-sound T again d (Some (Rotates p n)) at h = record {
  link = Rotates p n;
  here = at;
  why = elim (or_cases _ _ h) [
    | inl marked ↦ inl marked
    | inr twice ↦ inr (again (grant_at d (Rotates p n)) twice)
  ];
}

-- a row whose grant is marked or used twice is bad
bad-flags : (T : Rows) → ((k : TokenId) → IsTwice (links_of T) k → again_in (T k.dot) k.kind ≡ true)
    → (d : Dot) (l : Link)
    → (marks_of T (grant_at d l) ≡ true) ⊎ IsTwice (links_of T) (grant_at d l)
    → bad_at (Some l) (T d) ≡ true
bad-flags T twice d Code why =
    elim why [ inl marked ↦ or_left _ _ marked | inr t ↦ or_right _ _ (twice (grant_at d Code) t) ]
bad-flags T twice d (Redeems c) why = elim why [
  | inl marked ↦ or_left _ _ marked
  | inr t ↦ or_right _ _ (twice (grant_at d (Redeems c)) t)
]
bad-flags T twice d (Rotates p n) why = elim why [
  | inl marked ↦ or_left _ _ marked
  | inr t ↦ or_right _ _ (twice (grant_at d (Rotates p n)) t)
]

-- a bad dot has a row that is bad
pub bad-complete : (T : Rows)
    → ((k : TokenId) → IsTwice (links_of T) k → again_in (T k.dot) k.kind ≡ true) → (d : Dot)
    → IsBad (links_of T) (passing (marks_of T)) d → bad_in (T d) ≡ true
bad-complete T twice d b =
    ap (λ (o : Option Link). bad_at o (T d)) b.here ∙ bad-flags T twice d b.link b.why

-- ---- dead families

-- in a forest a code whose row is dead is dead
pub IsForest-dead : (T : Rows) → IsForest T → (c : Dot) → dead_in (T c) ≡ true
    → IsDead (links_of T) (passing (marks_of T)) c
IsForest-dead T t c h =
    let some : (q : Dot) × (blamed_in (T q) ≡ Some c) =
    count-some (λ q. blamed_in (T q)) c _ (t.bads c) h in
    let parts : (bad_in (T some.0) ≡ true) × (code_in (T some.0) ≡ Some c) =
    blamed-parts (T some.0) c some.1 in
    record {
      member = some.0;
      under = t.under some.0 c parts.1;
      bad = bad-sound T t.again some.0 (links_of T some.0) refl parts.0;
    }

-- in a forest a dead code has a row that is dead
pub IsForest-tomb : (T : Rows) → IsForest T → (c : Dot)
    → IsDead (links_of T) (passing (marks_of T)) c → dead_in (T c) ≡ true
IsForest-tomb T t c x = some-count (λ q. blamed_in (T q)) c x.member _ (t.bads c)
    (blamed-bad (T x.member) c (bad-complete T t.twice x.member x.bad) (t.memo x.member c x.under))

-- ---- a link is put

-- a kind that is a code's, by the test, is Code
pub kind_code : (k : Kind) → is_code k ≡ true → k ≡ kind.Code
kind_code kind.Code h = refl
kind_code kind.Access h = absurd (cc)
kind_code kind.Refresh h = absurd (cc)

-- a kind that is a refresh token's, by the test, is Refresh
pub kind_refresh : (k : Kind) → is_refresh k ≡ true → k ≡ kind.Refresh
kind_refresh kind.Code h = absurd (cc)
kind_refresh kind.Access h = absurd (cc)
kind_refresh kind.Refresh h = refl

-- the token of a kind at a dot, as an option
abbrev token_at : Dot → Kind → Option TokenId
token_at d k = Some (record { dot = d; kind = k })

-- tokens of equal dots and equal kinds are equal
same_token : (a b : Dot) (x y : Kind) → a ≡ b → x ≡ y → token_at a x ≡ token_at b y
same_token a b x y e h = ap (λ (z : Dot). token_at z x) e ∙ ap (λ (z : Kind). token_at b z) h

-- a link uses the grant that the test finds
pub uses_it-true : (l : Link) (k : TokenId) → uses_it l k ≡ true → used_by l ≡ Some k
uses_it-true Code k h = absurd (cc)
uses_it-true (Redeems c) k h =
    let parts : (dot_eq c k.dot ≡ true) × (is_code k.kind ≡ true) = and_parts _ _ h in
    same_token c k.dot kind.Code k.kind (dot_eq-true c k.dot parts.0)
    (sym (kind_code k.kind parts.1))
uses_it-true (Rotates p g) k h =
    let parts : (dot_eq p k.dot ≡ true) × (is_refresh k.kind ≡ true) = and_parts _ _ h in
    same_token p k.dot kind.Refresh k.kind (dot_eq-true p k.dot parts.0)
    (sym (kind_refresh k.kind parts.1))

-- the token of an option, or another one if there is none
token_or : TokenId → Option TokenId → TokenId
token_or d None = d
token_or d (Some k) = k

-- the test finds the grant that a link uses
pub used_by-uses : (l : Link) (k : TokenId) → used_by l ≡ Some k → uses_it l k ≡ true
unfolding token_or
used_by-uses Code k h = absurd (cc)
used_by-uses (Redeems c) k h = subst (λ (t : TokenId). uses_it (Redeems c) t ≡ true)
    (ap (token_or k) h) (and_from _ _ (dot_eq-same c) refl)
used_by-uses (Rotates p g) k h = subst (λ (t : TokenId). uses_it (Rotates p g) t ≡ true)
    (ap (token_or k) h) (and_from _ _ (dot_eq-same p) refl)

-- N is T after the link l was put at d and brought the dots ys under c0
pub record PutRows (T N : Rows) (d : Dot) (l : Link) (c0 : Dot) (ys : List Dot) : Type 0 where
  pub adds : Adds (links_of T) (links_of N) d l
  pub grown : Grown (links_of T) (links_of N) c0 ys
  pub marks : (k : TokenId) → marks_of N k ≡ marks_of T k
  pub code : (q : Dot) → code_in (N q) ≡ cond (has ys q) (Some c0) (code_in (T q))
  pub used_is : (k : TokenId) → used_in (N k.dot) k.kind ≡ (used_in (T k.dot) k.kind || uses_it l k)
  pub again_is : (k : TokenId)
      → again_in (N k.dot) k.kind
      ≡ (again_in (T k.dot) k.kind || (uses_it l k && used_in (T k.dot) k.kind))
  pub bads : IsCounted N

-- a grant whose row has a repeated use after a put is used twice by the links
put-again : (T N : Rows) (d : Dot) (l : Link) (c0 : Dot) (ys : List Dot) → IsForest T
    → PutRows T N d l c0 ys → (k : TokenId) → again_in (N k.dot) k.kind ≡ true
    → IsTwice (links_of N) k
put-again T N d l c0 ys t p k h = elim (or_cases (again_in (T k.dot) k.kind)
    (uses_it l k && used_in (T k.dot) k.kind) (sym (p.again_is k) ∙ h)) [
      | inl old ↦ IsTwice-within (links_of T) (links_of N)
          (Within-adds (links_of T) (links_of N) d l p.adds) k (t.again k old)
      | inr now ↦
          let parts : (uses_it l k ≡ true) × (used_in (T k.dot) k.kind ≡ true) =
          and_parts _ _ now in
          IsTwice-new (links_of T) (links_of N) d l p.adds k (uses_it-true l k parts.0)
          (t.used k parts.1)
    ]

-- a grant that is used twice by the links after a put has a repeated use in its row
put-twice : (T N : Rows) (d : Dot) (l : Link) (c0 : Dot) (ys : List Dot) → IsForest T
    → PutRows T N d l c0 ys → (k : TokenId) → IsTwice (links_of N) k
    → again_in (N k.dot) k.kind ≡ true
put-twice T N d l c0 ys t p k h =
    p.again_is k ∙ (elim (IsTwice-adds (links_of T) (links_of N) d l p.adds k h) [
      | inl now ↦ or_right _ _ (and_from _ _ (used_by-uses l k now.0) (t.uses k now.1))
      | inr old ↦ or_left _ _ (t.twice k old)
    ])

-- a forest with one more link that was put is a forest
pub IsForest-put : (T N : Rows) (d : Dot) (l : Link) (c0 : Dot) (ys : List Dot) → IsForest T
    → PutRows T N d l c0 ys → IsForest N
IsForest-put T N d l c0 ys t p =
    let w : LinksWithin (links_of T) (links_of N) =
    Within-adds (links_of T) (links_of N) d l p.adds in
    record {
      under = λ q c h. elim (cases_Bool (has ys q)) [
        | inl walked ↦
            let one : Some c0 ≡ Some c =
            sym (p.code q ∙ cond-true (has ys q) (Some c0) (code_in (T q)) walked) ∙ h in
            let same : c0 ≡ c = cc in
            subst (λ (y : Dot). IsUnder (links_of N) q y) same (p.grown.sound q walked)
        | inr passed ↦ IsUnder-within (links_of T) (links_of N) w q c
            (t.under q c
            (sym (p.code q ∙ cond-false (has ys q) (Some c0) (code_in (T q)) passed) ∙ h))
      ];
      memo = λ q c u. elim (cases_Bool (has ys q)) [
        | inl walked ↦ p.code q
            ∙ (cond-true (has ys q) (Some c0) (code_in (T q)) walked
            ∙ ap (λ (y : Dot). Some y) (IsUnder-one (links_of N) q c0 c (p.grown.sound q walked) u))
        | inr passed ↦ p.code q
            ∙ (cond-false (has ys q) (Some c0) (code_in (T q)) passed
            ∙ (elim (p.grown.claim q c u) [
              | inl walked ↦ absurd (true≢false (sym walked ∙ passed))
              | inr before ↦ t.memo q c before
            ]))
      ];
      bads = p.bads;
      used =
          λ k h. elim (or_cases (used_in (T k.dot) k.kind) (uses_it l k) (sym (p.used_is k) ∙ h)) [
            | inl old ↦ let u : IsUsed (links_of T) k = t.used k old in
                record {
                  user = u.user;
                  by = use_of-within (links_of T) (links_of N) w u.user (links_of T u.user) k refl
                      u.by;
                }
            | inr now ↦ record { user = d; by = ap use_of p.adds.here ∙ uses_it-true l k now }
          ];
      uses = λ k u. p.used_is k ∙ (elim (IsUsed-adds (links_of T) (links_of N) d l p.adds k u) [
        | inl now ↦ or_right _ _ (used_by-uses l k now)
        | inr old ↦ or_left _ _ (t.uses k old)
      ]);
      again = put-again T N d l c0 ys t p;
      twice = put-twice T N d l c0 ys t p;
    }
