-- The events of a script's lines, as the lists of lines and of events grow, and its first bad line.
-- Key results:
--   told_line    a line that isn't empty and doesn't begin with # is an event's
--   all_lines    the items of a script are its lines, numbered
--   grown_told   the events of the items so far, with one more item that is an event
--   first_bad    the line after those that have their events is the first bad one, if it is bad
use Rattle.std.proofs.Common.{◌≡◌, ◌≢◌, ℕ, ◌+◌, ◌<◌, true, cond, List, [], ◌∷◌, ◌++◌, length}
use Rattle.std.proofs.Common.{get_or, map, take, drop, Option, Bor, refl, sym, ap, subst, ◌∙◌}
use Rattle.std.proofs.Common.{arith}
use Rattle.std.specs.List.{AllZip, enumerate_from, filter}
use Rattle.std.proofs.lemmas.Bool.Decides.{nat_tests}
use Rattle.std.proofs.lemmas.Grind.{common_steps}
use Rattle.std.proofs.lemmas.List.{length-map, map_push, take-map}
use Rattle.std.proofs.lemmas.List.Elements.{filter-append}
use Rattle.std.proofs.lemmas.List.FromFn.{get_or-enumerate_from, length-enumerate_from}
use Rattle.tk_world.specs.declared.event.Event.{Event}
use Rattle.tk_world.specs.Line.{IsEventLine}
use Rattle.tokend.specs.Script.{lines_of, is_told, AreEvents, IsBadLine, IsFirstBad}

-- ---- one more line

-- two lists that are related one by one stay so with a related element added to each
all_zip_pushed : {A B : Type 0} (R : A → B → Type 0) (xs : List A) (ys : List B) (x : A) (y : B)
    → AllZip R xs ys → R x y → AllZip R (xs ++ x ∷ []) (ys ++ y ∷ [])
all_zip_pushed R [] [] x y all one = (one, tt)
all_zip_pushed R [] (z ∷ ys) x y all one = absurd all
all_zip_pushed R (w ∷ xs) [] x y all one = absurd all
all_zip_pushed R (w ∷ xs) (z ∷ ys) x y all one = (all.0, all_zip_pushed R xs ys x y all.1 one)

-- the events of some lines, with one more line that is an event
pub told_pushed : (lines : List (List ℕ)) (events : List Event) (line : List ℕ) (event : Event)
    → AreEvents lines events → is_told line ≡ true → IsEventLine line event
    → AreEvents (lines ++ line ∷ []) (events ++ event ∷ [])
told_pushed lines events line event all told one =
    let grown : filter is_told (lines ++ line ∷ []) ≡ filter is_told lines ++ line ∷ [] =
    filter-append is_told lines (line ∷ [])
    ∙ ap (λ b. filter is_told lines ++ cond b (line ∷ []) []) told in
    subst (λ ls. AllZip IsEventLine ls (events ++ event ∷ [])) (sym grown)
    (all_zip_pushed IsEventLine (filter is_told lines) events line event all one)

-- ---- which lines should be events

-- a line that isn't empty and doesn't begin with # is an event's
pub told_line : (line : List ℕ) → 0 < length line → get_or line 0 0 ≢ 35 → is_told line ≡ true
told_line [] long other = absurd (omega (arith, long))
told_line (b ∷ rest) long other = grind (arith, nat_tests)

-- ---- the lines of an enumeration

-- a line with its index from 0
abbrev pub Item : Type 0
Item = ℕ × Bor (List ℕ)

-- the index of a line, and its bytes
abbrev pub numbered : Item → ℕ × List ℕ
numbered item = (item.0, item.1.now)

-- the bytes of each line
abbrev pub lines_in : List Item → List (List ℕ)
lines_in items = map (λ item. item.1.now) items

-- numbered lines without their numbers are the lines
unnumbered : (n : ℕ) (ls : List (List ℕ)) → map (λ p. p.1) (enumerate_from n ls) ≡ ls
unnumbered n [] = refl
unnumbered n (l ∷ ls) = ap (λ t. l ∷ t) (unnumbered (n + 1) ls)

-- items without their numbers are the lines in them
both_maps : (items : List Item) → map (λ p. p.1) (map numbered items) ≡ lines_in items
both_maps [] = refl
both_maps (i ∷ items) = ap (λ t. i.1.now ∷ t) (both_maps items)

-- the items of a script are its lines, numbered
pub all_lines : (ls : List (List ℕ)) (items : List Item) → map numbered items ≡ enumerate_from 0 ls
    → lines_in items ≡ ls
all_lines ls items all =
    sym (both_maps items) ∙ ap (map (λ (p : ℕ × List ℕ). p.1)) all ∙ unnumbered 0 ls

-- items that are the first lines of a script, numbered, have these lines
first_lines : (ls : List (List ℕ)) (items : List Item) (n : ℕ)
    → map numbered items ≡ take n (enumerate_from 0 ls) → lines_in items ≡ take n ls
first_lines ls items n some =
    sym (both_maps items) ∙ ap (map (λ (p : ℕ × List ℕ). p.1)) some
    ∙ sym (take-map (λ (p : ℕ × List ℕ). p.1) n (enumerate_from 0 ls))
    ∙ ap (take n) (unnumbered 0 ls)

-- the lines before an index, the line there, and those behind it are all lines
cut_at : (ls : List (List ℕ)) (i : ℕ) (d : List ℕ) → i < length ls
    → take i ls ++ get_or ls i d ∷ drop (i + 1) ls ≡ ls
cut_at ls i d lt = grind (arith, common_steps)

-- the line after those that have their events is the first bad one, if it is bad
pub first_bad : (longest : Option ℕ) (script : List ℕ) (items : List Item) (item : Item)
    (events : List Event)
    → map numbered items ≡ take (length items) (enumerate_from 0 (lines_of script))
    → (length items < length (enumerate_from 0 (lines_of script)))
    × (numbered item ≡ get_or (enumerate_from 0 (lines_of script)) (length items) (numbered item))
    → AreEvents (lines_in items) events → is_told item.1.now ≡ true → IsBadLine longest item.1.now
    → IsFirstBad longest script (item.0 + 1)
first_bad longest script items item events some turn earlier told bad =
    let ls = lines_of script in
    let n = length items in
    let there : n < length ls = omega (arith, turn.0, length-enumerate_from 0 ls) in
    let same = turn.1 ∙ get_or-enumerate_from 0 ls n (numbered item) there in
    let place : item.0 ≡ 0 + n = ap (λ (p : ℕ × List ℕ). p.0) same in
    let line : item.1.now ≡ get_or ls n item.1.now = ap (λ (p : ℕ × List ℕ). p.1) same in
    record {
      before = lines_in items;
      line = item.1.now;
      after = drop (n + 1) ls;
      events = events;
      stands = sym (ap (λ front. front ++ item.1.now ∷ drop (n + 1) ls)
          (first_lines ls items n some)
          ∙ ap (λ l. take n ls ++ l ∷ drop (n + 1) ls) line ∙ cut_at ls n item.1.now there);
      counted = omega (arith, place, length-map items (λ (i : Item). i.1.now));
      earlier = earlier;
      told = told;
      bad = bad;
    }

-- ---- a turn of the loop

-- the events of the items so far, with one more item that is an event
pub grown_told : (items : List Item) (item : Item) (events grown : List Event) (event : Event)
    → grown ≡ events ++ event ∷ [] → AreEvents (lines_in items) events → is_told item.1.now ≡ true
    → IsEventLine item.1.now event → AreEvents (lines_in (items ++ item ∷ [])) grown
grown_told items item events grown event pushed all told one =
    subst (λ ls. AreEvents ls grown) (sym (map_push (λ (i : Item). i.1.now) items item))
    (subst (AreEvents (lines_in items ++ item.1.now ∷ [])) (sym pushed)
    (told_pushed (lines_in items) events item.1.now event all told one))
