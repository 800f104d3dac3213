-- Each kind of change, as the functions that make it need it: over the set that has the fact
-- already, and that set without the fact. Key results:
--   put_ties, mark_ties, revoke_ties, out_ties, quiet_ties   the forest after each kind of change
--   stored, stored_change, stored_back                       a fact at a free dot
use Rattle.std.proofs.Common.{◌≡◌, ℕ, Bool, true, false, ◌&&◌, ◌||◌, cond, List, Option, Some, None}
use Rattle.std.proofs.Common.{Result, Ok, Err, OnOk, refl, sym, ap, subst, ◌∙◌}
use Rattle.std.specs.Option.{option_and_then, option_map}
use Rattle.std.specs.Prelude.{nat_le}
use Rattle.std.specs.BTreeSet.{BTreeSet}
use Rattle.std.specs.FinMap as map
use Rattle.tk_handle.specs.declared.dot.Dot.{Dot}
use Rattle.tk_handle.specs.declared.token_id.TokenId.{TokenId}
use Rattle.tk_family.specs.declared.link.Link.{Link}
use Rattle.tk_family.specs.Dots.{dot_eq, has}
use Rattle.tk_family.specs.ForestFacts.{ForestFacts, links_at}
use Rattle.tk_family.specs.Tops.{IsRaised}
use Rattle.tk_family.proofs.LookUps.{link_put}
use Rattle.tk_fact.specs.declared.body.Body.{Body}
use Rattle.tk_fact.specs.declared.subject_out.SubjectOut as out
use Rattle.tk_ledger.specs.declared.change.RevokedToken as revoked
use Rattle.tk_store.specs.FactSet.{FactSet}
use Rattle.tk_store.specs.Adding.{Adds}
use Rattle.tk_store.specs.declared.store.Added.{Added}
use Rattle.tk_store.specs.declared.store.Added.TheVariants.{New, Held}
use Rattle.tk_store.proofs.PutLaws.{some_injective, none_is_not_some, get_here, taken_back}
use Rattle.tk_store.proofs.OneMoreLaws.{OneMore, more_remove}
use Rattle.tk_ledger.specs.SignOuts.{IsFirstUnreached, sign_out_at}
use Rattle.tk_ledger.specs.Tokens.{link_of, links_in}
use Rattle.tk_ledger.specs.Changes.{digest_prefix, change_in, adds, reuses_of}
use Rattle.tk_ledger.specs.Index.{IsTied, Wakes}
use Rattle.tk_ledger.specs.SubjectTables.{codes_started, dots_of, IsCodes}
use Rattle.tk_ledger.specs.declared.change.Change.{Change}
use Rattle.tk_ledger.specs.declared.change.Change.TheVariants as change
use Rattle.tk_ledger.specs.declared.subject_keys.CodeKey.{CodeKey}
use Rattle.tk_ledger.proofs.RootLaws.{from_some}
use Rattle.tk_ledger.proofs.ForestLaws.{puts, link-change, revoking, signs, links_still, links_put}
use Rattle.tk_ledger.proofs.ForestLaws.{tied_still, tied_put, tied_mark, tied_revoke}
use Rattle.tk_ledger.proofs.OutLaws.{tied_out}

-- what follows from two claims about a success holds of the success
pub on_ok2 : {A E : Type 0} (r : Result A E) (P Q R : Type 0) → OnOk r P → OnOk r Q → (P → Q → R)
    → OnOk r R
on_ok2 (Ok x) P Q R h i f = f h i
on_ok2 (Err e) P Q R h i f = tt

-- true if a holds, and otherwise b, is a or b
pub or_cond : (a b : Bool) → cond a true b ≡ (a || b)
or_cond true b = refl
or_cond false b = refl

-- the body at a dot whose change is known
pub record Changed (G : FactSet) (d : Dot) (x : Change) : Type 0 where
  pub body : Body
  pub held : map.get G d ≡ Some body
  pub is : change_in body ≡ x
  pub more : OneMore (map.remove G d) G d body

-- for `changed`: by the body at the dot, if there is one
changed_by : (G : FactSet) (d : Dot) (x : Change) (o : Option Body) → map.get G d ≡ o
    → option_map change_in o ≡ Some x → Changed G d x
changed_by G d x None at h = absurd (none_is_not_some x h)
changed_by G d x (Some b) at h = record {
  body = b;
  held = at;
  is = some_injective (change_in b) x h;
  more = more_remove G d b at;
}

-- a dot whose change is known has a body, which the set has more than without the dot
pub changed : (G : FactSet) (d : Dot) (x : Change) → option_map change_in (map.get G d) ≡ Some x
    → Changed G d x
changed G d x h = changed_by G d x (map.get G d) refl h

-- ---- the forest

-- the body at a dot whose link is known
record Linked (G : FactSet) (d : Dot) (l : Link) : Type 0 where
  pub body : Body
  pub is : puts (change_in body) ≡ Some l
  pub more : OneMore (map.remove G d) G d body

-- a dot with a link has a body with that link, which the set has more than without the dot
linked : (G : FactSet) (d : Dot) (l : Link) → links_in (map.get G) d ≡ Some l → Linked G d l
linked G d l h =
    let x : (b : Body) × (map.get G d ≡ Some b) × (link_of b ≡ Some l) =
    from_some link_of (map.get G d) l h in
    record { body = x.0; is = sym (link-change x.0) ∙ x.2; more = more_remove G d x.0 x.1 }

-- the forest of a set without the fact of a link has no link at its dot
pub put_free : (G : FactSet) (d : Dot) (l : Link) (x : ForestFacts)
    → links_in (map.get G) d ≡ Some l → IsTied (map.remove G d) x → map.get x.links d ≡ None
put_free G d l x h t = t.links d ∙ ap (option_and_then link_of) (linked G d l h).more.free

-- the links of a forest, with the one that was put, are those of the set
pub put_links : (G : FactSet) (d : Dot) (l : Link) (x y : ForestFacts)
    → links_in (map.get G) d ≡ Some l → IsTied (map.remove G d) x
    → y.links ≡ map.insert x.links d l → (q : Dot) → map.get y.links q ≡ links_in (map.get G) q
put_links G d l x y h t new = let c = linked G d l h in
    links_put (map.remove G d) G d c.body l (links_at x) (links_at y) c.more c.is t.links
    (link_put x.links y.links d l new)

-- the forest follows the set once a link was put, and the dots that it raised are marked anew
pub put_ties : (G : FactSet) (d : Dot) (l : Link) (x y z : ForestFacts) (ds : List Dot)
    → links_in (map.get G) d ≡ Some l → IsTied (map.remove G d) x
    → y.links ≡ map.insert x.links d l → y.marks ≡ x.marks
    → ((q : Dot) → IsRaised (links_at x) (links_at y) q → has ds q ≡ true)
    → Wakes G y (has ds) z → IsTied G z
put_ties G d l x y z ds h t new same all woke =
    let c = linked G d l h in
    tied_put (map.remove G d) G d c.body l x y z ds c.more c.is t (put_links G d l x y h t new) same
    all woke

-- the link of a change
pub change_link : (G : FactSet) (d : Dot) (y : Change) → option_map change_in (map.get G d) ≡ Some y
    → links_in (map.get G) d ≡ puts y
change_link G d y h = let c = changed G d y h in
    ap (option_and_then link_of) c.held ∙ link-change c.body ∙ ap puts c.is

-- the forest follows the set with a reuse once the token's dot is marked anew
pub mark_ties : (G : FactSet) (d : Dot) (j : TokenId) (x z : ForestFacts)
    → option_map change_in (map.get G d) ≡ Some (change.Mark j) → IsTied (map.remove G d) x
    → Wakes G x (λ q. dot_eq q j.dot) z → IsTied G z
mark_ties G d j x z h t woke = let c = changed G d (change.Mark j) h in
    tied_mark (map.remove G d) G d c.body j x z c.more c.is t woke

-- the forest follows the set with a revocation once the token's dot is marked anew
pub revoke_ties : (G : FactSet) (d : Dot) (f : revoked.RevokedToken) (x z : ForestFacts)
    → option_map change_in (map.get G d) ≡ Some (change.Revoke f) → IsTied (map.remove G d) x
    → Wakes G x (λ q. dot_eq q f.token.dot) z → IsTied G z
revoke_ties G d f x z h t woke = let c = changed G d (change.Revoke f) h in
    tied_revoke (map.remove G d) G d c.body f x z c.more c.is t woke

-- a change without a link leaves the links of the set without the fact
pub links_before : (G : FactSet) (d : Dot) (y : Change) (x : ForestFacts)
    → option_map change_in (map.get G d) ≡ Some y → puts y ≡ None → IsTied (map.remove G d) x
    → (q : Dot) → map.get x.links q ≡ links_in (map.get G) q
links_before G d y x h none t q = still (changed G d y h)
  where
    still : Changed G d y → map.get x.links q ≡ links_in (map.get G) q
    still c = t.links q ∙ links_still (map.remove G d) G d c.body c.more (ap puts c.is ∙ none) q

-- the forest follows the set with a sign-out once the codes that no sign-out reached before are
-- marked anew
pub out_ties : (G : FactSet) (d : Dot) (subject : List ℕ) (moment first : ℕ)
    (codes : BTreeSet CodeKey) (x z : ForestFacts)
    → option_map change_in (map.get G d) ≡ Some (change.SignOut subject moment)
    → IsTied (map.remove G d) x → IsCodes G codes
    → ((f : out.SubjectOut) → sign_out_at (map.get G) d ≡ Some f
    → IsFirstUnreached (map.get (map.remove G d)) f.subject first)
    → Wakes G x
    (λ q. nat_le first moment && has (dots_of
    (codes_started codes (digest_prefix subject) first moment)) q) z
    → IsTied G z
out_ties G d subject moment first codes x z h t listed left woke =
    let c = changed G d (change.SignOut subject moment) h in
    tied_out (map.remove G d) G d c.body subject moment first codes x z c.more c.held c.is t listed
    left woke

-- the forest follows the set with a fact that puts no link, and neither revokes, signs out nor
-- reports a reuse
pub quiet_ties : (G : FactSet) (d : Dot) (y : Change) (x : ForestFacts)
    → option_map change_in (map.get G d) ≡ Some y → puts y ≡ None → revoking y ≡ None
    → signs y ≡ false → ((k : TokenId) → reuses_of k y ≡ false) → IsTied (map.remove G d) x
    → IsTied G x
quiet_ties G d y x h p r s m t = let c = changed G d y h in
    tied_still (map.remove G d) G d c.body x c.more (ap puts c.is ∙ p) (ap revoking c.is ∙ r)
    (ap signs c.is ∙ s) (λ k. ap (reuses_of k) c.is ∙ m k) t

-- ---- a fact at a free dot

-- G is F with a fact at a dot that was free
pub record Stored (F G : FactSet) (d : Dot) (b : Body) : Type 0 where
  pub set : G ≡ map.insert F d b
  pub free : map.get F d ≡ None

-- for `stored`: by whether the fact was new or held
stored_by : (F G : FactSet) (d : Dot) (b : Body) (a : Added) → map.get F d ≡ None
    → Adds F (d, b) (Ok a) G → Stored F G d b
stored_by F G d b New free adds = record { set = adds.1; free = free }
stored_by F G d b Held free adds = absurd (none_is_not_some b (sym free ∙ adds.0))

-- a fact that was added at a free dot is stored there
pub stored : (F G : FactSet) (f : Dot × Body) (d : Dot) (b : Body) (a : Added) → (d, b) ≡ f
    → map.get F f.0 ≡ None → Adds F f (Ok a) G → Stored F G d b
stored F G f d b a same free adds = stored_by F G d b a
    (ap (λ (p : Dot × Body). map.get F p.0) same ∙ free)
    (subst (λ (p : Dot × Body). Adds F p (Ok a) G) (sym same) adds)

-- the change of a stored body is the one at its dot
pub stored_change : (F G : FactSet) (d : Dot) (b : Body) (x : Change) → Stored F G d b
    → x ≡ change_in b → option_map change_in (map.get G d) ≡ Some x
stored_change F G d b x s is = ap (λ (S : FactSet). option_map change_in (map.get S d)) s.set
    ∙ ap (option_map change_in) (get_here F d b) ∙ ap (λ (y : Change). Some y) (sym is)

-- a set that stored a fact is, without the fact, the set before
pub stored_back : (F G : FactSet) (d : Dot) (b : Body) → Stored F G d b → map.remove G d ≡ F
stored_back F G d b s = ap (λ (S : FactSet). map.remove S d) s.set ∙ taken_back F d b s.free
