-- Sent URIs that match a registered URI at any port. Key result:
--   differs_in_port   a sent URI that matches differs in its port alone
use Rattle.std.proofs.Common.{◌≡◌, ℕ, ◌≤◌, ◌-◌, Bool, true, false, ◌||◌, ◌==◌, nat_le, cond, List}
use Rattle.std.proofs.Common.{[], ◌∷◌, ◌++◌, take, drop, length, codes, decimal, Option, Some, None}
use Rattle.std.proofs.Common.{Contains, inl, inr, refl, sym, ap, ◌∙◌, subst, arith}
use mathlib.Core.Bool.{false≢true}
use Rattle.std.specs.Option.{option_and_then}
use Rattle.std.specs.Str.{bytes_eq}
use Rattle.std.proofs.lemmas.Bool.{and_parts, or_cases}
use Rattle.std.proofs.lemmas.Bool.Decides.{nat_tests}
use Rattle.std.proofs.lemmas.List.{append_assoc, take-append-drop}
use Rattle.std.proofs.lemmas.Slice.Eq.{bytes_eq-Decides}
use Rattle.tk_format.specs.Decimals.{decimal_in}
use Rattle.tk_format.proofs.DecimalLaws.{decimal_found}
use Rattle.tk_match.specs.AnyPort.{hosts, behind, path_in, any_port_path, max_port, is_port_number}
use Rattle.tk_match.specs.AnyPort.{is_port, is_port_part, is_rest, matches_any_port, IsPortPart}
use Rattle.tk_match.specs.AnyPort.{DiffersInPort}

-- a text whose first bytes are the start is the start and the rest
starts : (start text rest : List ℕ) (b : Bool) → bytes_eq (take (length start) text) start ≡ b
    → cond b (Some (drop (length start) text)) None ≡ Some rest → text ≡ start ++ rest
starts start text rest true is h =
    let same : take (length start) text ≡ start =
    (bytes_eq-Decides (take (length start) text) start).0 is in
    let more : drop (length start) text ≡ rest = cc in
    sym (take-append-drop (length start) text) ∙ ap (λ x. x ++ drop (length start) text) same
    ∙ ap (λ x. start ++ x) more
starts start text rest false is h = cc

-- a text that has a rest behind a start is the start and the rest
behind_is : (start text rest : List ℕ) → behind start text ≡ Some rest → text ≡ start ++ rest
behind_is start text rest h =
    starts start text rest (bytes_eq (take (length start) text) start) refl h

-- a path is the text that it is found in
path_is : (text path : List ℕ) → path_in text ≡ Some path → text ≡ path
path_is [] path h = cc
path_is (b ∷ text) path h = by_slash (b == 47) h
  where
    by_slash : (t : Bool) → cond t (Some (b ∷ text)) None ≡ Some path → (b ∷ text) ≡ path
    by_slash true e = cc
    by_slash false e = cc

-- an any-port URI of a host is the host, `:*` and its path
any_port_is : (uri host path : List ℕ) → any_port_path uri host ≡ Some path
    → (uri ≡ host ++ codes ":*" ++ path) × (path_in path ≡ Some path)
any_port_is uri host path h = by_host (behind host uri) refl h
  where
    by_star : (rest : List ℕ) → uri ≡ host ++ rest → (o : Option (List ℕ))
        → behind (codes ":*") rest ≡ o → option_and_then path_in o ≡ Some path
        → (uri ≡ host ++ codes ":*" ++ path) × (path_in path ≡ Some path)
    by_star rest at None is e = cc
    by_star rest at (Some text) is e =
        let same : text ≡ path = path_is text path e in (
          at ∙ ap (λ x. host ++ x)
              (behind_is (codes ":*") rest text is ∙ ap (λ x. codes ":*" ++ x) same)
              ∙ sym (append_assoc host (codes ":*") path),
          subst (λ x. path_in x ≡ Some path) same e,
        )

    by_host : (o : Option (List ℕ)) → behind host uri ≡ o
        → option_and_then path_in (option_and_then (behind (codes ":*")) o) ≡ Some path
        → (uri ≡ host ++ codes ":*" ++ path) × (path_in path ≡ Some path)
    by_host None is e = cc
    by_host (Some rest) is e =
        by_star rest (behind_is host uri rest is) (behind (codes ":*") rest) refl e

-- a port is the decimal of a number from 1 to the greatest
port_is : (text : List ℕ) → is_port text ≡ true
    → (n : ℕ) × (1 ≤ n) × (n ≤ max_port) × (text ≡ decimal n)
port_is text h = by_number (decimal_in text) refl h
  where
    by_number : (o : Option ℕ) → decimal_in text ≡ o → is_port_number o ≡ true
        → (n : ℕ) × (1 ≤ n) × (n ≤ max_port) × (text ≡ decimal n)
    by_number None is e = absurd (false≢true e)
    by_number (Some n) is e =
        let p = and_parts (nat_le 1 n) (nat_le n max_port) e in
        let least : nat_le 1 n ≡ true = p.0 in
        let most : nat_le n max_port ≡ true = p.1 in
        (n, grind (arith, nat_tests), grind (arith, nat_tests), (decimal_found text n is).spelled)

-- a port part is empty, or a colon and a port
port_part_is : (text : List ℕ) → is_port_part text ≡ true → IsPortPart text
port_part_is [] h = inl refl
port_part_is (b ∷ text) h =
    let p = and_parts (b == 58) (is_port text) h in
    let colon : (b == 58) ≡ true = p.0 in
    let same : b ≡ 58 = grind (arith, nat_tests) in
    let x = port_is text p.1 in
    inr (x.0, x.1, x.2, ap (λ c. c ∷ text) same ∙ ap (λ t. 58 ∷ t) x.3)

-- two URIs of a host, where the sent one has some port, differ in the port alone
at_host : (registered sent host : List ℕ) → Contains hosts host → (o q : Option (List ℕ))
    → any_port_path registered host ≡ o → behind host sent ≡ q → is_rest o q ≡ true
    → DiffersInPort registered sent
at_host registered sent host on None q is rest h = absurd (false≢true h)
at_host registered sent host on (Some path) None is rest h = absurd (false≢true h)
at_host registered sent host on (Some path) (Some text) is rest h =
    let n = length text - length path in
    let r = any_port_is registered host path is in
    let p = and_parts (bytes_eq (drop n text) path) (is_port_part (take n text)) h in
    let ends : drop n text ≡ path = (bytes_eq-Decides (drop n text) path).0 p.0 in
    record {
      host = host;
      port = take n text;
      path = path;
      is_host = on;
      is_port = port_part_is (take n text) p.1;
      is_path = r.1;
      registered_is = r.0;
      sent_is = behind_is host sent text rest
          ∙ ap (λ x. host ++ x) (sym (take-append-drop n text) ∙ ap (λ x. take n text ++ x) ends)
          ∙ sym (append_assoc host (take n text) path);
    }

-- a sent URI that matches an any-port URI differs from it in the port alone
pub differs_in_port : (registered sent : List ℕ) → matches_any_port registered sent ≡ true
    → DiffersInPort registered sent
differs_in_port registered sent h =
    elim (or_cases (test (codes "http://127.0.0.1"))
    (test (codes "http://[::1]") || (test (codes "http://localhost") || false)) h) [
      | inl e ↦
          at_host registered sent (codes "http://127.0.0.1") (0, omega arith, refl) _ _ refl refl e
      | inr more ↦ elim (or_cases (test (codes "http://[::1]"))
          (test (codes "http://localhost") || false) more) [
            | inl e ↦
                at_host registered sent (codes "http://[::1]") (1, omega arith, refl) _ _ refl refl
                e
            | inr last ↦ elim (or_cases (test (codes "http://localhost")) false last) [
              | inl e ↦
                  at_host registered sent (codes "http://localhost") (2, omega arith, refl) _ _
                  refl refl e
              | inr none ↦ absurd (false≢true none)
            ]
          ]
    ]
  where
    test : List ℕ → Bool
    test host = is_rest (any_port_path registered host) (behind host sent)
