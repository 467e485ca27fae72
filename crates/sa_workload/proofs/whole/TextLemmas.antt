-- The texts of lines: each line's words are printed characters with no space, so the text's lines and pieces are these words again.
use Rattle.std.proofs.Common.{◌≡◌, ◌≢◌, ℕ, ◌⊎◌, inl, inr, ◌^◌, ◌<◌, ◌≤◌, leb, Bool, true, cond, ◌&&◌, List, [], ◌∷◌, ◌++◌, length, map, All, Ok, codes, decimal, arith, rules, tests, refl, sym, ◌∙◌, ap, subst}
use Rattle.std.specs.Option.{is_some}
use Rattle.std.specs.List.{flat_map, join_with_byte, list_all}
use Rattle.std.proofs.lemmas.List.Elements.{All-nil, All-cons, All-head, All-tail, All-append, All-contains, All-map, All-weaker}
use Rattle.std.proofs.lemmas.List.Sums.{AllPass-from_list_all}
use Rattle.std.proofs.lemmas.List.Folds.{flat_map-map}
use Rattle.std.proofs.lemmas.List.Splits.{join_with_byte-slice_split}
use Rattle.sa_spaces.specs.Workload.{WorkloadView, IsWorkload}
use Rattle.sa_text.specs.LineText.{LineText, ended_line, line_texts, whole_line, LacksLineFeed}
use Rattle.sa_text.specs.Pieces.{pieces_of, LacksSpace}
use Rattle.sa_text.proofs.LineLemmas.{line_texts-printed, line_texts-joined}
use Rattle.sa_text.proofs.PieceLemmas.{pieces_of-spaced}
use Rattle.sa_text.proofs.Spelling.{decimal-is_spelling}
use Rattle.sa_lemmas.proofs.Texts.{join-spaced}
use Rattle.sa_workload.specs.Text.{workload_lines, line_text, text_of}
use Rattle.sa_workload.specs.Bad.{IsPrinted, words_of, Field, Register, Number}
use Rattle.sa_workload.specs.Fields.{index_of}
use Rattle.sa_workload.specs.Position.{Position, AtVersion, Closed}
use Rattle.sa_workload.specs.Steps.{expected}
use Rattle.sa_workload.specs.Next.{next, fields_of}
use Rattle.sa_workload.proofs.fields.FieldLemmas.{and_then-ok, contained, spelled, Passes, spelled_all, AllPass}
use Rattle.sa_workload.proofs.forward.Sound.{took}
use Rattle.sa_workload.proofs.forward.Complete.{run, complete}
use Rattle.sa_workload.proofs.forward.Standing.{version_of-le}

-- each byte is printed and no space
abbrev pub IsVisible : List ℕ → Type 0
IsVisible bytes = All (λ b. (33 ≤ b) × (b ≤ 126)) bytes

-- a line has a word, and each word is visible
abbrev pub IsWords : List (List ℕ) → Type 0
IsWords line = (0 < length line) × All IsVisible line

-- a test that computes shows it, as `refl` at a literal
visible_by_test : (bytes : List ℕ) → list_all (λ b. leb 33 b && leb b 126) bytes ≡ true → IsVisible bytes
visible_by_test bytes t =
    All-weaker (λ b. (leb 33 b && leb b 126) ≡ true) (λ b. (33 ≤ b) × (b ≤ 126)) (λ b e. search (rules, tests)) bytes
    (AllPass-from_list_all (λ b. leb 33 b && leb b 126) bytes t)

decimal-visible : (n : ℕ) → n < 2 ^ 64 → IsVisible (decimal n)
decimal-visible n h =
    All-weaker (λ b. (48 ≤ b) × (b ≤ 57)) (λ b. (33 ≤ b) × (b ≤ 126)) (λ b d. (omega (arith, d.0), omega (arith, d.1))) (decimal n)
    (decimal-is_spelling n h).digits

-- the words of what is read are visible: each word that is expected, and what fields spell
spelled-visible : (f : Field) (n : ℕ) → Passes f n → IsVisible (spelled f n)
spelled-visible Register n h =
    All-append (λ b. (33 ≤ b) × (b ≤ 126)) (codes "r") (decimal n) (visible_by_test (codes "r") refl) (decimal-visible n (omega arith))
spelled-visible (Number test cause) n h = decimal-visible n h.0

all-visible : (fs : List Field) (ns : List ℕ) → AllPass fs ns → All IsVisible (spelled_all fs ns)
all-visible [] [] h = All-nil IsVisible
all-visible [] (n ∷ ns) h = absurd h
all-visible (f ∷ fs) [] h = absurd h
all-visible (f ∷ fs) (n ∷ ns) h = All-cons IsVisible (spelled f n) (spelled_all fs ns) (spelled-visible f n h.0) (all-visible fs ns h.1)

abbrev is_visible : List ℕ → Bool
is_visible word = list_all (λ b. leb 33 b && leb b 126) word

expected-visible : (p : Position) → list_all is_visible (expected p) ≡ true
expected-visible AtVersion = refl
expected-visible _ = refl

word-visible : (p : Position) (word : List ℕ) → is_some (index_of word (expected p)) ≡ true → IsVisible word
word-visible p word known =
    visible_by_test word
    (All-contains (λ (w : List ℕ). is_visible w ≡ true) (expected p) word (AllPass-from_list_all is_visible (expected p) (expected-visible p))
    (contained (expected p) word known))

run-words : (versions : ℕ) (lines : List (List (List ℕ))) (p q : Position) → run versions p lines ≡ Ok q → All IsWords lines
run-words versions [] p q h = All-nil IsWords
run-words versions ([] ∷ lines) p q h = absurd (cc h)
run-words versions ((word ∷ words) ∷ lines) p q h =
    let n = and_then-ok (next versions p (word ∷ words)) (λ (r : Position). run versions r lines) q h in
    let t = took versions p word words n.0 n.1 in
    All-cons IsWords (word ∷ words) lines (
      omega arith,
      All-cons IsVisible word words (word-visible p word t.known)
          (subst (All IsVisible) (sym t.line) (all-visible (fields_of versions p word) t.numbers t.passes)),
    )
    (run-words versions lines n.0 q n.2)

pub workload-words : (w : WorkloadView) → IsWorkload w → All IsWords (workload_lines w)
workload-words w is = run-words 3 (workload_lines w) AtVersion (Closed w) (complete 3 w is (omega arith) (version_of-le w))

-- what holds of all the parts holds of all that is made of them
All-flat_map : {X Y : Type 0} (P : Y → Type 0) (f : X → List Y) (xs : List X) → All (λ x. All P (f x)) xs → All P (flat_map f xs)
All-flat_map P f [] h = All-nil P
All-flat_map P f (x ∷ xs) h =
    All-append P (f x) (flat_map f xs) (All-head (λ x. All P (f x)) x xs h) (All-flat_map P f xs (All-tail (λ x. All P (f x)) x xs h))

visible-printed : (word : List ℕ) → IsVisible word → IsPrinted word
visible-printed word h = All-weaker (λ b. (33 ≤ b) × (b ≤ 126)) (λ b. (32 ≤ b) × (b ≤ 126)) (λ b v. (omega (arith, v.0), v.1)) word h

pub join-printed : (words : List (List ℕ)) → All IsVisible words → IsPrinted (join_with_byte 32 words)
join-printed [] h = All-nil (λ b. (32 ≤ b) × (b ≤ 126))
join-printed (w ∷ []) h = visible-printed w (All-head IsVisible w [] h)
join-printed (w ∷ x ∷ ws) h =
    All-append (λ b. (32 ≤ b) × (b ≤ 126)) w (32 ∷ join_with_byte 32 (x ∷ ws)) (visible-printed w (All-head IsVisible w (x ∷ ws) h))
    (All-cons (λ b. (32 ≤ b) × (b ≤ 126)) 32 (join_with_byte 32 (x ∷ ws)) (omega arith, omega arith) (join-printed (x ∷ ws) (All-tail IsVisible w (x ∷ ws) h)))

join-lacks : (line : List (List ℕ)) → IsWords line → LacksLineFeed (join_with_byte 32 line)
join-lacks line h =
    All-weaker (λ b. (32 ≤ b) × (b ≤ 126)) (λ b. b ≢ 10) (λ b p e. omega (arith, p.0)) (join_with_byte 32 line) (join-printed line h.1)

visible-lacks : (word : List ℕ) → IsVisible word → LacksSpace word
visible-lacks word h = All-weaker (λ b. (33 ≤ b) × (b ≤ 126)) (λ b. b ≢ 32) (λ b v e. omega (arith, v.0)) word h

-- the pieces of a line are its words
pub pieces_of-words : (line : List (List ℕ)) → IsWords line → pieces_of (join_with_byte 32 line) ≡ line
pieces_of-words [] h = absurd (omega (arith, h.0))
pieces_of-words (word ∷ words) h =
    ap pieces_of (join-spaced word words)
    ∙ pieces_of-spaced word words (visible-lacks word (All-head IsVisible word words h.1))
    (All-weaker IsVisible LacksSpace visible-lacks words (All-tail IsVisible word words h.1))

ended-joined : (lines : List (List (List ℕ))) → map (λ l. record { bytes = l; ended = true }) (map (join_with_byte 32) lines) ≡ map ended_line lines
ended-joined [] = refl
ended-joined (line ∷ lines) = ap (λ ls. ended_line line ∷ ls) (ended-joined lines)

-- the lines of the text of some lines are these
pub line_texts-of_lines : (lines : List (List (List ℕ))) → All IsWords lines → line_texts (flat_map line_text lines) ≡ map ended_line lines
line_texts-of_lines lines h =
    ap line_texts (sym (flat_map-map (λ l. l ++ 10 ∷ []) (join_with_byte 32) lines))
    ∙ (line_texts-printed (map (join_with_byte 32) lines)
    (All-map LacksLineFeed (join_with_byte 32) lines (All-weaker IsWords (λ line. LacksLineFeed (join_with_byte 32 line)) join-lacks lines h))
    ∙ ended-joined lines)

words_of-ended : (lines : List (List (List ℕ))) → All IsWords lines → words_of (map ended_line lines) ≡ lines
words_of-ended [] h = refl
words_of-ended (line ∷ lines) h =
    ap (λ first. first ∷ words_of (map ended_line lines)) (pieces_of-words line (All-head IsWords line lines h))
    ∙ ap (λ ls. line ∷ ls) (words_of-ended lines (All-tail IsWords line lines h))

-- and their words are the words of these
pub words_of-text : (lines : List (List (List ℕ))) → All IsWords lines → words_of (line_texts (flat_map line_text lines)) ≡ lines
words_of-text lines h = ap words_of (line_texts-of_lines lines h) ∙ words_of-ended lines h

-- lines that are all ended are the text of their words
whole_lines : (ls : List LineText) → All (λ (l : LineText). l.ended ≡ true) ls → flat_map whole_line ls ≡ flat_map line_text (words_of ls)
whole_lines [] h = refl
whole_lines (l ∷ ls) h =
    let feed : l.bytes ++ cond l.ended (10 ∷ []) [] ≡ l.bytes ++ 10 ∷ [] =
    ap (λ b. l.bytes ++ cond b (10 ∷ []) []) (All-head (λ (l : LineText). l.ended ≡ true) l ls h) in
    let first : whole_line l ≡ line_text (pieces_of l.bytes) =
    feed ∙ ap (λ bytes. bytes ++ 10 ∷ []) (sym (join_with_byte-slice_split 32 l.bytes)) in
    ap (λ text. text ++ flat_map whole_line ls) first
    ∙ ap (λ text. line_text (pieces_of l.bytes) ++ text) (whole_lines ls (All-tail (λ (l : LineText). l.ended ≡ true) l ls h))

pub text-from_words : (bytes : List ℕ) (lines : List (List (List ℕ))) → All (λ (l : LineText). l.ended ≡ true) (line_texts bytes)
    → words_of (line_texts bytes) ≡ lines → bytes ≡ flat_map line_text lines
text-from_words bytes lines ended e =
    sym (line_texts-joined bytes) ∙ (whole_lines (line_texts bytes) ended ∙ ap (flat_map line_text) e)

-- each byte of such a text is printed or a line feed
pub text-printed : (lines : List (List (List ℕ))) → All IsWords lines → All (λ b. (b ≡ 10) ⊎ ((32 ≤ b) × (b ≤ 126))) (flat_map line_text lines)
text-printed lines h =
    let P : ℕ → Type 0 = λ b. (b ≡ 10) ⊎ ((32 ≤ b) × (b ≤ 126)) in
    All-flat_map P line_text lines
    (All-weaker IsWords (λ line. All P (line_text line))
    (λ line words. All-append P (join_with_byte 32 line) (10 ∷ [])
    (All-weaker (λ b. (32 ≤ b) × (b ≤ 126)) P (λ b p. inr p) (join_with_byte 32 line) (join-printed line words.1))
    (All-cons P 10 [] (inl refl) (All-nil P)))
    lines h)

-- the same of the text of a workload
pub line_texts-text_of : (w : WorkloadView) → IsWorkload w → line_texts (text_of w) ≡ map ended_line (workload_lines w)
unfolding text_of
line_texts-text_of w is = line_texts-of_lines (workload_lines w) (workload-words w is)

pub words_of-text_of : (w : WorkloadView) → IsWorkload w → words_of (line_texts (text_of w)) ≡ workload_lines w
unfolding text_of
words_of-text_of w is = words_of-text (workload_lines w) (workload-words w is)

pub text_of-from_words : (bytes : List ℕ) (w : WorkloadView) → All (λ (l : LineText). l.ended ≡ true) (line_texts bytes)
    → words_of (line_texts bytes) ≡ workload_lines w → bytes ≡ text_of w
unfolding text_of
text_of-from_words bytes w ended e = text-from_words bytes (workload_lines w) ended e

pub text_of-printed : (w : WorkloadView) → IsWorkload w → All (λ b. (b ≡ 10) ⊎ ((32 ≤ b) × (b ≤ 126))) (text_of w)
unfolding text_of
text_of-printed w is = text-printed (workload_lines w) (workload-words w is)
