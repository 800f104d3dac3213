-- The relations over the body at each dot stay when facts are added. Key results:
--   IsEnded-below, IsBad-below, IsDead-below   the relations stay in a greater set
use Rattle.std.proofs.Common.{inl, inr, ℕ, List}
use Rattle.std.specs.FinMap as map
use Rattle.tk_handle.specs.declared.dot.Dot.{Dot}
use Rattle.tk_handle.specs.declared.token_id.TokenId.{TokenId}
use Rattle.tk_family.specs.Families.{IsBad, IsDead, MarksWithin}
use Rattle.tk_family.proofs.FamilyLaws.{IsBad-within, IsDead-within}
use Rattle.tk_fact.specs.declared.body.Body.TheVariants as bodies
use Rattle.tk_fact.specs.declared.body.Body.TheVariants.{TokenRevoked, ReuseSeen}
use Rattle.tk_store.specs.FactSet.{FactSet, IsSubset}
use Rattle.tk_ledger.specs.Tokens.{links_in, issued_in, IsEnded, IsOut, IsStopped, IsMarked}
use Rattle.tk_ledger.specs.SignOuts.{IsSignedOut}
use Rattle.tk_ledger.proofs.RootLaws.{below-and_then, links-below, minted-below, minted-under-below}

-- ---- more facts

-- a token that its client revoked stays revoked
pub IsEnded-below : (F G : FactSet) → IsSubset F G → (k : TokenId) → IsEnded (map.get F) k
    → IsEnded (map.get G) k
IsEnded-below F G w k e = record {
  minted = e.minted;
  code = e.code;
  issued = e.issued;
  mints = minted-below F G w k e.minted e.mints;
  under = minted-under-below F G w k.dot e.code e.under;
  issues = below-and_then issued_in F G w e.code e.issued e.issues;
  by_client = record {
    place = e.by_client.place;
    revocation = e.by_client.revocation;
    held = w e.by_client.place (TokenRevoked e.by_client.revocation) e.by_client.held;
    token = e.by_client.token;
    digest_is = e.by_client.digest_is;
    client_is = e.by_client.client_is;
  };
}

-- a subject that signed out stays signed out
pub IsSignedOut-below : (F G : FactSet) → IsSubset F G → (subject : List ℕ) (moment : ℕ)
    → IsSignedOut (map.get F) subject moment → IsSignedOut (map.get G) subject moment
IsSignedOut-below F G w subject moment s = record {
  place = s.place;
  sign_out = s.sign_out;
  held = w s.place (bodies.SubjectOut s.sign_out) s.held;
  subject_is = s.subject_is;
  not_before = s.not_before;
}

-- a code whose subject signed out is so in a greater set
pub IsOut-below : (F G : FactSet) → IsSubset F G → (d : Dot) → IsOut (map.get F) d
    → IsOut (map.get G) d
IsOut-below F G w d o = record {
  issued = o.issued;
  issues = below-and_then issued_in F G w d o.issued o.issues;
  signed_out = IsSignedOut-below F G w o.issued.subject o.issued.start o.signed_out;
}

-- a stopped token is stopped in a greater set
IsStopped-below : (F G : FactSet) → IsSubset F G → (k : TokenId) → IsStopped (map.get F) k
    → IsStopped (map.get G) k
IsStopped-below F G w k (inl e) = inl (e.0, IsEnded-below F G w k e.1)
IsStopped-below F G w k (inr o) = inr (o.0, IsOut-below F G w k.dot o.1)

-- a marked token is marked in a greater set
pub IsMarked-below : (F G : FactSet) → IsSubset F G → (k : TokenId) → IsMarked (map.get F) k
    → IsMarked (map.get G) k
IsMarked-below F G w k (inl r) = inl
    (record {
      place = r.place;
      reuse = r.reuse;
      held = w r.place (ReuseSeen r.reuse) r.held;
      token = r.token;
    })
IsMarked-below F G w k (inr s) = inr (IsStopped-below F G w k s)

-- the marks of a set are marks of a greater set
pub marks-below : (F G : FactSet) → IsSubset F G
    → MarksWithin (IsMarked (map.get F)) (IsMarked (map.get G))
marks-below F G w k h = IsMarked-below F G w k h

-- a bad grant stays bad, and a dead family dead
pub IsBad-below : (F G : FactSet) → IsSubset F G → (d : Dot)
    → IsBad (links_in (map.get F)) (IsMarked (map.get F)) d
    → IsBad (links_in (map.get G)) (IsMarked (map.get G)) d
IsBad-below F G w d b = IsBad-within (links_in (map.get F)) (links_in (map.get G))
    (IsMarked (map.get F)) (IsMarked (map.get G)) (links-below F G w) (marks-below F G w) d b

-- a dead family is dead in a greater set
pub IsDead-below : (F G : FactSet) → IsSubset F G → (c : Dot)
    → IsDead (links_in (map.get F)) (IsMarked (map.get F)) c
    → IsDead (links_in (map.get G)) (IsMarked (map.get G)) c
IsDead-below F G w c x = IsDead-within (links_in (map.get F)) (links_in (map.get G))
    (IsMarked (map.get F)) (IsMarked (map.get G)) (links-below F G w) (marks-below F G w) c x
