-- The walk through all that hangs below a dot whose chain now reaches a code. The walk keeps a list
-- that is its own queue (`Walk`, its invariant).
use Rattle.std.proofs.Common.{◌≡◌, ◌≢◌, ◌⊎◌, inl, inr, ◌+◌, ◌≤◌, true, false, List, [], ◌∷◌, ◌++◌}
use Rattle.std.proofs.Common.{ap, sym, ◌∙◌, arith, append_assoc, subst, rules}
use Rattle.std.proofs.lemmas.Bool.{true≢false}
use Rattle.std.specs.List.{IsDistinct}
use Rattle.tk_handle.specs.declared.dot.Dot.{Dot}
use Rattle.tk_family.specs.Dots.{dot_eq, has}
use Rattle.tk_family.specs.Families.{Links, IsParent, rank_of}
use Rattle.tk_family.specs.Puts.{IsBelow}
use Rattle.tk_family.proofs.DotLaws.{has-cons, has-here, has-append, has-left, has-right}
use Rattle.tk_family.proofs.DotLaws.{IsDistinct-append, IsDistinct-middle}
use Rattle.tk_family.proofs.FamilyLaws.{IsParent-one, IsParent-rank}

-- a dot that the walk has reached is the first, or its parent is done
pub record IsRooted (g : Links) (d : Dot) (done : List Dot) (q : Dot) : Type 0 where
  pub parent : Dot
  pub why : (q ≡ d) ⊎ (IsParent g q parent × (has done parent ≡ true))

-- the invariant of the walk below d: some dots are done, and the rest are waiting
pub record Walk (g : Links) (d : Dot) (done rest : List Dot) : Type 0 where
  pub root : has (done ++ rest) d ≡ true
  pub below : (q : Dot) → has (done ++ rest) q ≡ true → IsBelow g d q
  pub deep : (q : Dot) → has (done ++ rest) q ≡ true → rank_of (g d) ≤ rank_of (g q)
  pub rooted : (q : Dot) → has (done ++ rest) q ≡ true → IsRooted g d done q
  pub closed : (x e : Dot) → has done x ≡ true → IsParent g e x → has (done ++ rest) e ≡ true
  pub distinct : IsDistinct dot_eq (done ++ rest)

-- cs has the children of x, each once, but perhaps not d
pub record AreChildren (g : Links) (d x : Dot) (cs : List Dot) : Type 0 where
  pub sound : (e : Dot) → has cs e ≡ true → IsParent g e x
  pub all : (e : Dot) → e ≢ d → IsParent g e x → has cs e ≡ true
  pub distinct : IsDistinct dot_eq cs

-- a dot that goes from those that wait to those that are done stays at its place
regroup : (done rest cs : List Dot) (x : Dot)
    → (done ++ x ∷ []) ++ (rest ++ cs) ≡ (done ++ x ∷ rest) ++ cs
regroup done rest cs x =
    append_assoc done (x ∷ []) (rest ++ cs) ∙ sym (append_assoc done (x ∷ rest) cs)

-- a walk starts with the dot itself, of which no child is known yet
pub Walk-starts : (g : Links) (d : Dot) → Walk g d [] (d ∷ [])
unfolding IsDistinct
Walk-starts g d = record {
  root = has-here d [];
  below = λ q h. elim (has-cons d [] q h) [
    | inl same ↦ record { path = []; leads = same }
    | inr none ↦ absurd (true≢false (sym none))
  ];
  deep = λ q h. elim (has-cons d [] q h) [
    | inl same ↦
        let e : rank_of (g q) ≡ rank_of (g d) = ap (λ (x : Dot). rank_of (g x)) same in
        omega arith
    | inr none ↦ absurd (true≢false (sym none))
  ];
  rooted = λ q h. elim (has-cons d [] q h) [
    | inl same ↦ record { parent = d; why = inl same }
    | inr none ↦ absurd (true≢false (sym none))
  ];
  closed = λ x e h. absurd (true≢false (sym h));
  distinct = search rules;
}

-- one turn: the children of the next waiting dot are added at the end
pub Walk-turns : (g : Links) (d : Dot) (done : List Dot) (x : Dot) (rest cs : List Dot)
    → Walk g d done (x ∷ rest) → AreChildren g d x cs → Walk g d (done ++ x ∷ []) (rest ++ cs)
Walk-turns g d done x rest cs w ch =
    let x_in : has (done ++ x ∷ rest) x ≡ true = has-right done (x ∷ rest) x (has-here x rest) in
    let from_old : (q : Dot) → has (done ++ x ∷ rest) q ≡ true
    → has ((done ++ x ∷ []) ++ (rest ++ cs)) q ≡ true =
    λ q h. rw (regroup done rest cs x) (has-left (done ++ x ∷ rest) cs q h) in
    let from_child : (q : Dot) → has cs q ≡ true → has ((done ++ x ∷ []) ++ (rest ++ cs)) q ≡ true =
    λ q h. rw (regroup done rest cs x) (has-right (done ++ x ∷ rest) cs q h) in
    let split : (q : Dot) → has ((done ++ x ∷ []) ++ (rest ++ cs)) q ≡ true
    → (has (done ++ x ∷ rest) q ≡ true) ⊎ (has cs q ≡ true) =
    λ q h. has-append (done ++ x ∷ rest) cs q (rw (regroup done rest cs x) at h) in
    let child_rank : (e : Dot) → IsParent g e x → rank_of (g d) + 1 ≤ rank_of (g e) = λ e par.
    let r : rank_of (g e) ≡ rank_of (g x) + 1 = IsParent-rank g e x par in
    let low : rank_of (g d) ≤ rank_of (g x) = w.deep x x_in in omega arith in
    let not_root : (e : Dot) → IsParent g e x → e ≢ d = λ e par same.
    let r : rank_of (g d) + 1 ≤ rank_of (g e) = child_rank e par in
    let s : rank_of (g e) ≡ rank_of (g d) = ap (λ (y : Dot). rank_of (g y)) same in
    absurd (omega arith) in
    record {
      root = from_old d w.root;
      below = λ q h. elim (split q h) [
        | inl old ↦ w.below q old
        | inr child ↦ let ux : IsBelow g d x = w.below x x_in in
            record { path = x ∷ ux.path; leads = (ch.sound q child, ux.leads) }
      ];
      deep = λ q h. elim (split q h) [
        | inl old ↦ w.deep q old
        | inr child ↦ let r : rank_of (g d) + 1 ≤ rank_of (g q) = child_rank q (ch.sound q child) in
            omega arith
      ];
      rooted = λ q h. elim (split q h) [
        | inl old ↦ let r : IsRooted g d done q = w.rooted q old in record {
          parent = r.parent;
          why = elim r.why [
            | inl same ↦ inl same
            | inr par ↦ inr (par.0, has-left done (x ∷ []) r.parent par.1)
          ];
        }
        | inr child ↦ record {
          parent = x;
          why = inr (ch.sound q child, has-right done (x ∷ []) x (has-here x []));
        }
      ];
      closed = λ y e h par. elim (has-append done (x ∷ []) y h) [
        | inl old ↦ from_old e (w.closed y e old par)
        | inr now ↦ elim (has-cons x [] y now) [
          | inl same ↦ let par_x : IsParent g e x = subst (λ (z : Dot). IsParent g e z) same par in
              from_child e (ch.all e (not_root e par_x) par_x)
          | inr none ↦ absurd (true≢false (sym none))
        ]
      ];
      distinct = rw (regroup done rest cs x)
          (IsDistinct-append (done ++ x ∷ rest) cs w.distinct ch.distinct (λ q old child.
          let par : IsParent g q x = ch.sound q child in
          let r : IsRooted g d done q = w.rooted q old in
          elim r.why [
            | inl same ↦ not_root q par same
            | inr above ↦
                let one : r.parent ≡ x = IsParent-one g q r.parent x above.0 par in
                let none : has done x ≡ false = IsDistinct-middle done x rest w.distinct in
                true≢false (sym (subst (λ (y : Dot). has done y ≡ true) one above.1) ∙ none)
          ]));
    }
