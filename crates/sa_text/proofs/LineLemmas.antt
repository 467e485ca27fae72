-- The lines of a text: the first one, those after it, and what they are together.
use Rattle.std.proofs.Common.{◌≡◌, ◌≢◌, ℕ, zero, suc, ◌+◌, ◌-◌, ◌<◌, ◌≤◌, inl, inr, Bool, true, false, cond, ltb, eqb, List, [], ◌∷◌, ◌++◌, length, get_or, take, drop, map, Some, All, arith, rules, tests, sym, ◌∙◌, ap, subst, refl, append_assoc, length-append}
use Rattle.std.specs.List.{flat_map, slice_range, slice_get}
use Rattle.std.specs.Option.{option_map}
use Rattle.std.proofs.lemmas.Bool.{cases_eq}
use Rattle.std.proofs.lemmas.List.Elements.{All-head, All-tail, All-nil, All-cons}
use Rattle.std.proofs.lemmas.List.{append-nil, nil_from_length, take_at, drop_at, drop-drop, take-append-drop, drop_more, take_all, drop_all, length-drop, length-take-le, take_rest}
use Rattle.sa_text.specs.LineText.{LineText, line_texts, onto_first_line, whole_line, LacksLineFeed, IsLinesOf}
use Rattle.sa_text.specs.Line.{placed, lines_from, text_of_line, IsWithin}
use Rattle.sa_text.specs.declared.line_reader.Line.{Line}

-- a byte that is no line feed goes onto the first line
pub line_texts-other : (b : ℕ) (bs : List ℕ) → b ≢ 10 → line_texts (b ∷ bs) ≡ onto_first_line b (line_texts bs)
line_texts-other b bs n = let e : eqb b 10 ≡ false = search (rules, tests) in rw e

-- the bytes before a line feed are the first line
pub line_texts-ended : (xs rest : List ℕ) → LacksLineFeed xs → line_texts (xs ++ 10 ∷ rest) ≡ record { bytes = xs; ended = true } ∷ line_texts rest
line_texts-ended [] rest h = refl
line_texts-ended (x ∷ xs) rest h =
    line_texts-other x (xs ++ 10 ∷ rest) (All-head (λ b. b ≢ 10) x xs h) ∙ ap (onto_first_line x) (line_texts-ended xs rest (All-tail (λ b. b ≢ 10) x xs h))

-- bytes with no line feed are one line, where there are any
pub line_texts-open : (xs : List ℕ) → LacksLineFeed xs → 0 < length xs → line_texts xs ≡ record { bytes = xs; ended = false } ∷ []
line_texts-open [] h p = absurd (omega arith)
line_texts-open (x ∷ []) h p = line_texts-other x [] (All-head (λ b. b ≢ 10) x [] h)
line_texts-open (x ∷ y ∷ xs) h p =
    line_texts-other x (y ∷ xs) (All-head (λ b. b ≢ 10) x (y ∷ xs) h)
    ∙ ap (onto_first_line x) (line_texts-open (y ∷ xs) (All-tail (λ b. b ≢ 10) x (y ∷ xs) h) (omega arith))

joined_onto : (b : ℕ) (ls : List LineText) → flat_map whole_line (onto_first_line b ls) ≡ b ∷ flat_map whole_line ls
joined_onto b [] = refl
joined_onto b (l ∷ ls) = refl

-- the lines with their line feeds are the text
pub line_texts-joined : (text : List ℕ) → flat_map whole_line (line_texts text) ≡ text
line_texts-joined [] = refl
line_texts-joined (b ∷ bs) =
    elim (cases_eq b 10) [
      | inl e ↦ rw e (ap (λ rest. 10 ∷ rest) (line_texts-joined bs))
      | inr n ↦ ap (flat_map whole_line) (line_texts-other b bs n) ∙ (joined_onto b (line_texts bs) ∙ ap (λ rest. b ∷ rest) (line_texts-joined bs))
    ]

-- at their places the text holds the lines
pub placed-texts : (text : List ℕ) (number start : ℕ) (ls : List LineText) → drop start text ≡ flat_map whole_line ls
    → map (text_of_line text) (placed number start ls) ≡ ls
placed-texts text number start [] e = refl
placed-texts text number start (l ∷ ls) e =
    let behind : drop (start + length (whole_line l)) text ≡ flat_map whole_line ls =
    sym (drop-drop (length (whole_line l)) start text) ∙ (ap (drop (length (whole_line l))) e ∙ drop_at (whole_line l) (flat_map whole_line ls) _ refl) in
    let size : start + length l.bytes - start ≡ length l.bytes = omega arith in
    let here : take (start + length l.bytes - start) (drop start text) ≡ l.bytes =
    ap (λ n. take n (drop start text)) size ∙ (ap (take (length l.bytes)) (e ∙ append_assoc l.bytes _ (flat_map whole_line ls)) ∙ take_at l.bytes _ _ refl) in
    rw (here, placed-texts text (number + 1) (start + length (whole_line l)) ls behind)

-- the n bytes from `start` on, as a line
abbrev line_at : ℕ → ℕ → ℕ → Bool → Line
line_at number start n ended = record { number = number; start = start; end = start + n; ended = ended }

-- the next line, where a line feed follows its n bytes
next_ended : (text : List ℕ) (number start n : ℕ) → start + n < length text
    → LacksLineFeed (take n (drop start text)) → get_or (drop start text) n 0 ≡ 10
    → lines_from text number start ≡ line_at number start n true ∷ lines_from text (number + 1) (start + n + 1)
next_ended text number start n inside lacks feed =
    let rest : List ℕ = drop start text in
    let others : List ℕ = drop (start + n + 1) text in
    let room : n < length rest = omega (arith, length-drop start text) in
    let size : length (take n rest) ≡ n = length-take-le n rest (omega arith) in
    let behind : drop (n + 1) rest ≡ others = drop-drop (n + 1) start text ∙ ap (λ k. drop k text) (omega arith) in
    let stopped : drop n rest ≡ 10 ∷ others =
    drop_more rest n 0 room ∙ (ap (λ b. b ∷ drop (n + 1) rest) feed ∙ ap (λ r. 10 ∷ r) behind) in
    let split : rest ≡ take n rest ++ 10 ∷ others =
    sym (take-append-drop n rest) ∙ ap (λ r. take n rest ++ r) stopped in
    let lines : line_texts rest ≡ record { bytes = take n rest; ended = true } ∷ line_texts others =
    ap line_texts split ∙ line_texts-ended (take n rest) others lacks in
    let next : start + length (take n rest ++ 10 ∷ []) ≡ start + n + 1 =
    omega (arith, length-append (take n rest) (10 ∷ []), size) in
    ap (placed number start) lines ∙ rw (next, size)

-- the next line, where the text ends after its n bytes
next_open : (text : List ℕ) (number start n : ℕ) → start < length text → start + n ≡ length text
    → LacksLineFeed (take n (drop start text))
    → lines_from text number start ≡ line_at number start n false ∷ lines_from text (number + 1) (start + n)
next_open text number start n inside all lacks =
    let rest : List ℕ = drop start text in
    let size : length rest ≡ n = omega (arith, length-drop start text) in
    let whole : take n rest ≡ rest = take_all n rest (omega arith) in
    let none : drop (start + n) text ≡ [] = drop_all (start + n) text (omega arith) in
    let lines : line_texts rest ≡ record { bytes = rest; ended = false } ∷ [] =
    line_texts-open rest (subst LacksLineFeed whole lacks) (omega arith) in
    ap (placed number start) lines ∙ rw (size, none)

-- the same of what the reader finds: n bytes of the rest of the text lack a line feed, and one follows them
pub next_line-ended : (text : List ℕ) (number start n next : ℕ) → start + n < length text
    → LacksLineFeed (take n (slice_range text start (length text)))
    → (n < length (slice_range text start (length text)) → get_or (slice_range text start (length text)) n 0 ≡ 10)
    → next ≡ start + n + 1
    → lines_from text number start ≡ line_at number start n (ltb (start + n) (length text)) ∷ lines_from text (number + 1) next
next_line-ended text number start n next inside lacks feed e =
    let rest : slice_range text start (length text) ≡ drop start text = take_rest text start in
    let more : ltb (start + n) (length text) ≡ true = search (rules, tests) in
    let found : get_or (drop start text) n 0 ≡ 10 =
    subst (λ r. n < length r → get_or r n 0 ≡ 10) rest feed (omega (arith, length-drop start text)) in
    rw (more, e) (next_ended text number start n inside (subst (λ r. LacksLineFeed (take n r)) rest lacks) found)

-- or they are the rest of the text
pub next_line-open : (text : List ℕ) (number start n next : ℕ) → start < length text → length text ≤ start + n
    → n ≤ length (slice_range text start (length text)) → LacksLineFeed (take n (slice_range text start (length text)))
    → next ≡ start + n
    → lines_from text number start ≡ line_at number start n (ltb (start + n) (length text)) ∷ lines_from text (number + 1) next
next_line-open text number start n next inside end within lacks e =
    let rest : slice_range text start (length text) ≡ drop start text = take_rest text start in
    let more : ltb (start + n) (length text) ≡ false = search (rules, tests) in
    let all : start + n ≡ length text = omega (arith, ap length rest, length-drop start text) in
    rw (more, e) (next_open text number start n inside all (subst (λ r. LacksLineFeed (take n r)) rest lacks))

-- the list is not changed but for its first line
onto_first_line-append : (b : ℕ) (ls more : List LineText) → 0 < length ls → onto_first_line b (ls ++ more) ≡ onto_first_line b ls ++ more
onto_first_line-append b [] more h = absurd (omega arith)
onto_first_line-append b (l ∷ ls) more h = refl

-- a text that is not empty has a line
length-line_texts-pos : (text : List ℕ) → 0 < length text → 0 < length (line_texts text)
length-line_texts-pos [] h = h
length-line_texts-pos (b ∷ bs) h =
    elim (cases_eq b 10) [ inl e ↦ rw e (omega arith) | inr n ↦ rw (line_texts-other b bs n) (longer (line_texts bs)) ]
  where
    longer : (ls : List LineText) → 0 < length (onto_first_line b ls)
    longer [] = omega arith
    longer (l ∷ ls) = omega arith

-- the lines up to a line feed, and those of the rest
pub line_texts-append : (front rest : List ℕ) → line_texts (front ++ 10 ∷ rest) ≡ line_texts (front ++ 10 ∷ []) ++ line_texts rest
line_texts-append [] rest = refl
line_texts-append (b ∷ bs) rest =
    elim (cases_eq b 10) [
      | inl e ↦ rw e (ap (λ ls. record { bytes = []; ended = true } ∷ ls) (line_texts-append bs rest))
      | inr n ↦ line_texts-other b (bs ++ 10 ∷ rest) n
          ∙ (ap (onto_first_line b) (line_texts-append bs rest)
          ∙ (onto_first_line-append b (line_texts (bs ++ 10 ∷ [])) (line_texts rest)
          (length-line_texts-pos (bs ++ 10 ∷ []) (omega (arith, length-append bs (10 ∷ []))))
          ∙ ap (λ ls. ls ++ line_texts rest) (sym (line_texts-other b (bs ++ 10 ∷ []) n))))
    ]

-- no line holds a line feed
abbrev Apart : List LineText → Type 0
Apart ls = All (λ l. LacksLineFeed l.bytes) ls

apart_onto : (b : ℕ) (ls : List LineText) → b ≢ 10 → Apart ls → Apart (onto_first_line b ls)
apart_onto b [] n h =
    All-cons (λ l. LacksLineFeed l.bytes) (record { bytes = b ∷ []; ended = false }) [] (All-cons (λ x. x ≢ 10) b [] n (All-nil (λ x. x ≢ 10))) h
apart_onto b (l ∷ ls) n h =
    All-cons (λ l. LacksLineFeed l.bytes) (record { bytes = b ∷ l.bytes; ended = l.ended }) ls
    (All-cons (λ x. x ≢ 10) b l.bytes n (All-head (λ l. LacksLineFeed l.bytes) l ls h)) (All-tail (λ l. LacksLineFeed l.bytes) l ls h)

line_texts-apart : (text : List ℕ) → Apart (line_texts text)
line_texts-apart [] = All-nil (λ l. LacksLineFeed l.bytes)
line_texts-apart (b ∷ bs) =
    elim (cases_eq b 10) [
      | inl e ↦ rw e (All-cons (λ l. LacksLineFeed l.bytes) (record { bytes = []; ended = true }) (line_texts bs) (All-nil (λ x. x ≢ 10)) (line_texts-apart bs))
      | inr n ↦ rw (line_texts-other b bs n) (apart_onto b (line_texts bs) n (line_texts-apart bs))
    ]

-- a line that no line feed follows is the last, and not empty
abbrev OpenLast : List LineText → Type 0
OpenLast ls = (k : ℕ) (l : LineText) → slice_get ls k ≡ Some l → l.ended ≡ false → (k + 1 ≡ length ls) × (0 < length l.bytes)

open_behind_ended : (ls : List LineText) → OpenLast ls → OpenLast (record { bytes = []; ended = true } ∷ ls)
open_behind_ended ls h zero l e f = absurd (cc (ap (option_map (λ x. x.ended)) e))
open_behind_ended ls h (suc k) l e f = let r = h k l e f in (omega (arith, r.0), r.1)

open_onto : (b : ℕ) (ls : List LineText) → OpenLast ls → OpenLast (onto_first_line b ls)
open_onto b [] h zero l e f =
    let same : record { bytes = b ∷ []; ended = false } ≡ l = cc in
    (omega arith, subst (λ x. 0 < length x.bytes) same (omega arith))
open_onto b [] h (suc k) l e f = absurd (cc)
open_onto b (m ∷ ls) h zero l e f =
    let same : record { bytes = b ∷ m.bytes; ended = m.ended } ≡ l = cc in
    ((h 0 m refl (ap (λ x. x.ended) same ∙ f)).0, subst (λ x. 0 < length x.bytes) same (omega arith))
open_onto b (m ∷ ls) h (suc k) l e f = h (suc k) l e f

line_texts-open_last : (text : List ℕ) → OpenLast (line_texts text)
line_texts-open_last [] = λ k l e f. absurd (cc)
line_texts-open_last (b ∷ bs) =
    elim (cases_eq b 10) [
      | inl e ↦ rw e (open_behind_ended (line_texts bs) (line_texts-open_last bs))
      | inr n ↦ rw (line_texts-other b bs n) (open_onto b (line_texts bs) (line_texts-open_last bs))
    ]

pub line_texts-are_lines : (text : List ℕ) → IsLinesOf text (line_texts text)
line_texts-are_lines text = record { joined = line_texts-joined text; apart = line_texts-apart text; open_last = line_texts-open_last text }

-- a first line, and the lines after it
only_first : (bytes : List ℕ) (ended : Bool) (ls : List LineText) → LacksLineFeed bytes → (ended ≡ false → (ls ≡ []) × (0 < length bytes))
    → ls ≡ line_texts (flat_map whole_line ls)
    → record { bytes = bytes; ended = ended } ∷ ls ≡ line_texts (flat_map whole_line (record { bytes = bytes; ended = ended } ∷ ls))
only_first bytes true ls lacks last e =
    sym (ap line_texts (append_assoc bytes (10 ∷ []) (flat_map whole_line ls))
    ∙ (line_texts-ended bytes (flat_map whole_line ls) lacks ∙ ap (λ r. record { bytes = bytes; ended = true } ∷ r) (sym e)))
only_first bytes false ls lacks last e = let l = last refl in rw l.0 (sym (simp append-nil (line_texts-open bytes lacks l.1)))

-- no other lines are those of a text
pub lines_only : (ls : List LineText) (text : List ℕ) → IsLinesOf text ls → ls ≡ line_texts text
lines_only [] text h = ap line_texts h.joined
lines_only (l ∷ ls) text h =
    let rest : ls ≡ line_texts (flat_map whole_line ls) =
    lines_only ls (flat_map whole_line ls) (record {
      joined = refl;
      apart = All-tail (λ l. LacksLineFeed l.bytes) l ls h.apart;
      open_last = λ k m e f. let r = h.open_last (suc k) m e f in (omega (arith, r.0), r.1);
    }) in
    only_first l.bytes l.ended ls (All-head (λ l. LacksLineFeed l.bytes) l ls h.apart)
    (λ f. let r = h.open_last 0 l refl f in (nil_from_length ls (omega (arith, r.0)), r.1)) rest
    ∙ ap line_texts h.joined

-- the number of the k-th line
pub placed-number : (ls : List LineText) (number start k : ℕ) (line : Line) → slice_get (placed number start ls) k ≡ Some line
    → line.number ≡ number + k
placed-number [] number start k line e = absurd (cc)
placed-number (l ∷ ls) number start zero line e =
    let same : record { number = number; start = start; end = start + length l.bytes; ended = l.ended } ≡ line = cc in
    omega (arith, ap (λ x. x.number) same)
placed-number (l ∷ ls) number start (suc k) line e = omega (arith, placed-number ls (number + 1) (start + length (whole_line l)) k line e)

-- placed lines lie within the text
pub placed-within : (text : List ℕ) (ls : List LineText) (number start : ℕ) → drop start text ≡ flat_map whole_line ls
    → start ≤ length text → All (IsWithin text) (placed number start ls)
placed-within text [] number start e h = All-nil (IsWithin text)
placed-within text (l ∷ ls) number start e h =
    let behind : drop (start + length (whole_line l)) text ≡ flat_map whole_line ls =
    sym (drop-drop (length (whole_line l)) start text) ∙ (ap (drop (length (whole_line l))) e ∙ drop_at (whole_line l) (flat_map whole_line ls) _ refl) in
    let room : start + length (whole_line l) ≤ length text =
    omega (arith, length-drop start text, ap length e, length-append (whole_line l) (flat_map whole_line ls)) in
    All-cons (IsWithin text) _ (placed (number + 1) (start + length (whole_line l)) ls)
    (record { forward = omega arith; inside = omega (arith, length-append l.bytes (cond l.ended (10 ∷ []) [])) })
    (placed-within text ls (number + 1) (start + length (whole_line l)) behind room)

-- what follows the last line feed
pub line_texts-rest : (bytes : List ℕ) → LacksLineFeed bytes
    → line_texts bytes ≡ cond (eqb (length bytes) 0) [] (record { bytes = bytes; ended = false } ∷ [])
line_texts-rest [] lacks = refl
line_texts-rest (b ∷ bs) lacks =
    let some : eqb (suc (length bs)) 0 ≡ false = search (rules, tests) in
    rw some (line_texts-open (b ∷ bs) lacks (omega arith))

length-onto_first_line : (b : ℕ) (ls : List LineText) → length (onto_first_line b ls) ≤ length ls + 1
length-onto_first_line b [] = omega arith
length-onto_first_line b (l ∷ ls) = omega arith

-- a text has no more lines than bytes
pub length-line_texts-le : (text : List ℕ) → length (line_texts text) ≤ length text
length-line_texts-le [] = omega arith
length-line_texts-le (b ∷ bs) =
    elim (cases_eq b 10) [
      | inl e ↦ rw e (omega (arith, length-line_texts-le bs))
      | inr n ↦ rw (line_texts-other b bs n) (omega (arith, length-onto_first_line b (line_texts bs), length-line_texts-le bs))
    ]

pub length-placed : (number start : ℕ) (ls : List LineText) → length (placed number start ls) ≡ length ls
length-placed number start [] = refl
length-placed number start (l ∷ ls) = omega (arith, length-placed (number + 1) (start + length (whole_line l)) ls)

-- lines that are printed one after another, each with a line feed after it, are the lines of the text
pub line_texts-printed : (ls : List (List ℕ)) → All LacksLineFeed ls
    → line_texts (flat_map (λ l. l ++ 10 ∷ []) ls) ≡ map (λ l. record { bytes = l; ended = true }) ls
line_texts-printed [] lacks = refl
line_texts-printed (l ∷ ls) lacks =
    ap line_texts (append_assoc l (10 ∷ []) (flat_map (λ l. l ++ 10 ∷ []) ls))
    ∙ (line_texts-ended l (flat_map (λ l. l ++ 10 ∷ []) ls) (All-head LacksLineFeed l ls lacks)
    ∙ ap (λ r. record { bytes = l; ended = true } ∷ r) (line_texts-printed ls (All-tail LacksLineFeed l ls lacks)))
