-- A page of entries, one behind the other. Key results:
--   listed_none, cursor_none   a page of no entries
--   tokens_more, cursor_more   a page of one entry and others
--   one_left, none_left        how many entries are left of a page
--   opened_of                  a page behind its name
--   whole_none, whole_some     a page of clients, without and with one behind which others follow
use Rattle.std.proofs.Common.{◌≡◌, ◌≤◌, ◌<◌, ◌+◌, ◌-◌, ℕ, zero, suc, List, [], ◌∷◌, ◌++◌, codes}
use Rattle.std.proofs.Common.{Option, Some, None, refl, sym, ap, ◌∙◌, append_assoc, arith}
use Rattle.json.specs.Token as token
use Rattle.json.specs.Token.{Token}
use Rattle.json.specs.Tree.{items_tokens, json_tokens}
use Rattle.serde_json.specs.Data as json
use Rattle.serde_json.specs.Data.{Data, Items, no_items}
use Rattle.serde_json.specs.Written.{items_outline, outline}
use Rattle.tk_handle.specs.declared.dot.Dot.{Dot}
use Rattle.tk_handle.specs.ClientId.{client_text}
use Rattle.tk_message.specs.Page.{max_listed, listed, cursor_of}

-- a page of no entries has no items
pub listed_none : {X : Type 0} (body : Dot × X → Data) (n : ℕ) → listed body n [] ≡ no_items
listed_none body zero = refl
listed_none body (suc n) = refl

-- behind no entries there is no cursor
pub cursor_none : (X : Type 0) (n : ℕ) (at : Option Dot) → cursor_of {X = X} n at [] ≡ None
cursor_none X zero at = refl
cursor_none X (suc n) at = refl

-- what is left to write behind an entry is the rest of the page
pub tokens_more : {X : Type 0} (body : Dot × X → Data) (t u all : List Token) (n m : ℕ)
    (c : Dot × X) (cs more : List (Dot × X))
    → n ≡ suc m → more ≡ c ∷ cs
    → u ≡ t ++ json_tokens (outline (body c))
    → t ++ items_tokens (items_outline (listed body n more)) ≡ all
    → u ++ items_tokens (items_outline (listed body m cs)) ≡ all
tokens_more {X} body t u all n m c cs more left is written whole =
    ap (λ x. x ++ items_tokens (items_outline (listed body m cs))) written
    ∙ append_assoc t (json_tokens (outline (body c)))
    (items_tokens (items_outline (listed body m cs)))
    ∙ ap (λ (k : ℕ). t ++ items_tokens (items_outline (listed body k (c ∷ cs)))) (sym left)
    ∙ ap (λ (x : List (Dot × X)). t ++ items_tokens (items_outline (listed body n x)))
    (sym is)
    ∙ whole

-- the cursor of a page that begins with an entry is that of the page of the others, one shorter,
-- behind that entry
pub cursor_more : {X : Type 0} (n m : ℕ) (at last : Option Dot) (c : Dot × X)
    (cs more : List (Dot × X))
    → n ≡ suc m → more ≡ c ∷ cs
    → cursor_of n at more ≡ last → cursor_of m (Some c.0) cs ≡ last
cursor_more n m at last c cs more left is whole =
    ap (λ (k : ℕ). cursor_of k at (c ∷ cs)) (sym left) ∙ ap (cursor_of n at) (sym is) ∙ whole

-- a page that is not full has room for one entry and the rest
pub one_left : (k : ℕ) → k < max_listed → max_listed - k ≡ suc (max_listed - (k + 1))
one_left k below = omega (arith, below)

-- a full page has room for no entry
pub none_left : (k : ℕ) → max_listed ≤ k → max_listed - k ≡ zero
none_left k full = omega (arith, full)

-- a page behind its name and its opening bracket
pub opened_of : (t u v page : List Token) (name : List ℕ) → u ≡ t ++ token.key name ∷ []
    → v ≡ u ++ token.begin_array ∷ []
    → v ++ page ≡ t ++ token.key name ∷ token.begin_array ∷ page
opened_of t u v page name h k = rw (k, h) (simp append_assoc)

-- ---- a whole page of clients

-- the tokens before the first entry of a page of clients
abbrev pub opened : List Token
opened = token.begin_object ∷ token.key (codes "clients") ∷ token.begin_array ∷ []

-- the tokens of a page of clients without a cursor, and the end of its object, are those of its
-- outline
pub whole_none : (t : List Token) (page : Items) → t ≡ opened ++ items_tokens (items_outline page)
    → t ++ token.end_object ∷ []
    ≡ json_tokens
    (outline (json.object (json.member (codes "clients") (json.array page) json.no_members)))
whole_none t page h = ap (λ x. x ++ token.end_object ∷ []) h

-- the tokens of a page of clients, its cursor and the end of its object are those of its outline
pub whole_some : (t u : List Token) (page : Items) (d : Dot)
    → t ≡ opened ++ items_tokens (items_outline page)
    → u ≡ t ++ token.key (codes "next") ∷ token.string (client_text d) ∷ []
    → u ++ token.end_object ∷ []
    ≡ json_tokens
    (outline
    (json.object
    (json.member (codes "clients") (json.array page)
    (json.member (codes "next") (json.string (client_text d)) json.no_members))))
whole_some t u page d h k =
    ap (λ x. x ++ token.end_object ∷ [])
    (k ∙ ap (λ x. x ++ token.key (codes "next") ∷ token.string (client_text d) ∷ []) h)
    ∙ ap (λ x. token.begin_object ∷ token.key (codes "clients") ∷ token.begin_array ∷ x)
    (append_assoc (items_tokens (items_outline page))
    (token.key (codes "next") ∷ token.string (client_text d) ∷ []) (token.end_object ∷ []))
