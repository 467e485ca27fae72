-- The pieces of a line: the first one, and those after it.
use Rattle.std.proofs.Common.{◌≡◌, ◌≢◌, ℕ, ◌+◌, ◌-◌, ◌<◌, ◌≤◌, inl, inr, true, false, ltb, eqb, List, [], ◌∷◌, ◌++◌, length, get_or, take, drop, All, arith, rules, tests, sym, ◌∙◌, ap, subst, refl}
use Rattle.std.specs.List.{slice_range, join_with_byte, onto_first, flat_map}
use Rattle.std.proofs.lemmas.Bool.{cases_lt, cases_eq}
use Rattle.std.proofs.lemmas.List.Elements.{All-weaker, All-head, All-tail, All-nil, All-cons}
use Rattle.std.proofs.lemmas.List.Splits.{slice_split_none, slice_split_at, join_with_byte-slice_split, length-slice_split}
use Rattle.std.proofs.lemmas.List.{append-nil, take-append-drop, drop_more, take_all, drop-drop, drop-take, take-take, length-drop, length-take}
use Rattle.sa_text.specs.Pieces.{pieces_of, pieces_from, LacksSpace, IsPiecesOf}

no_space_test : (bytes : List ℕ) → All (λ b. b ≢ 32) bytes → All (λ b. eqb b 32 ≡ false) bytes
no_space_test bytes h = All-weaker (λ b. b ≢ 32) (λ b. eqb b 32 ≡ false) (λ b n. search (rules, tests)) bytes h

-- bytes up to a space are the first piece
pub pieces_of-more : (bytes rest : List ℕ) → All (λ b. b ≢ 32) bytes → pieces_of (bytes ++ 32 ∷ rest) ≡ bytes ∷ pieces_of rest
pieces_of-more bytes rest h = slice_split_at (λ b. eqb b 32) bytes 32 rest (no_space_test bytes h) refl

-- bytes with no space are one piece
pub pieces_of-one : (bytes : List ℕ) → All (λ b. b ≢ 32) bytes → pieces_of bytes ≡ bytes ∷ []
pieces_of-one bytes h = slice_split_none (λ b. eqb b 32) bytes (no_space_test bytes h)

-- from a place within the line on
pub pieces_from-within : (text : List ℕ) (from end : ℕ) → from ≤ end → pieces_from text from end ≡ pieces_of (slice_range text from end)
pieces_from-within text from end h = let e : ltb end from ≡ false = search (rules, tests) in rw e

-- and past its end
pub pieces_from-past : (text : List ℕ) (from end : ℕ) → end < from → pieces_from text from end ≡ []
pieces_from-past text from end h = let e : ltb end from ≡ true = search (rules, tests) in rw e

length-line : (text : List ℕ) (from end : ℕ) → end ≤ length text → length (slice_range text from end) ≡ end - from
length-line text from end h = omega (arith, length-take (end - from) (drop from text), length-drop from text)

-- the first bytes of a line are those of the text from the line's place on
take-slice_range : (text : List ℕ) (from end n : ℕ) → from + n ≤ end → take n (slice_range text from end) ≡ slice_range text from (from + n)
take-slice_range text from end n within =
    take-take n (end - from) (drop from text) (omega arith) ∙ ap (λ k. take k (drop from text)) (omega arith)

-- the first bytes of a line lack a space, as bytes of the text
pub take-lacks_space : (text : List ℕ) (from end n : ℕ) → from + n ≤ end → All (λ b. b ≢ 32) (take n (slice_range text from end))
    → LacksSpace (slice_range text from (from + n))
take-lacks_space text from end n within lacks = subst LacksSpace (take-slice_range text from end n within) lacks

-- the first of several pieces
first_of_more : (text : List ℕ) (from end n : ℕ) → from + n < end → end ≤ length text
    → All (λ b. b ≢ 32) (take n (slice_range text from end)) → get_or (slice_range text from end) n 0 ≡ 32
    → pieces_from text from end ≡ slice_range text from (from + n) ∷ pieces_from text (from + n + 1) end
first_of_more text from end n inside high lacks space =
    let line : List ℕ = slice_range text from end in
    let room : n < length line = omega (arith, length-line text from end high) in
    let split : line ≡ take n line ++ 32 ∷ drop (n + 1) line =
    sym (take-append-drop n line) ∙ ap (λ r. take n line ++ r) (drop_more line n 0 room ∙ ap (λ b. b ∷ drop (n + 1) line) space) in
    let first : take n line ≡ slice_range text from (from + n) = take-slice_range text from end n (omega arith) in
    let behind : drop (n + 1) line ≡ slice_range text (from + n + 1) end =
    ap (λ k. drop (n + 1) (take k (drop from text))) (omega arith)
    ∙ (drop-take (n + 1) (end - (from + n + 1)) (drop from text)
    ∙ (ap (take (end - (from + n + 1))) (drop-drop (n + 1) from text)
    ∙ ap (λ k. take (end - (from + n + 1)) (drop k text)) (omega arith))) in
    pieces_from-within text from end (omega arith)
    ∙ (ap pieces_of split
    ∙ (pieces_of-more (take n line) (drop (n + 1) line) lacks
    ∙ (ap (λ x. x ∷ pieces_of (drop (n + 1) line)) first
    ∙ ap (λ xs. slice_range text from (from + n) ∷ xs) (ap pieces_of behind ∙ sym (pieces_from-within text (from + n + 1) end (omega arith))))))

-- the only piece
first_of_one : (text : List ℕ) (from end n : ℕ) → from ≤ end → end ≤ length text → from + n ≡ end
    → All (λ b. b ≢ 32) (take n (slice_range text from end))
    → pieces_from text from end ≡ slice_range text from (from + n) ∷ pieces_from text (from + n + 1) end
first_of_one text from end n low high all lacks =
    let line : List ℕ = slice_range text from end in
    let whole : take n line ≡ line = take_all n line (omega (arith, length-line text from end high)) in
    pieces_from-within text from end low
    ∙ (pieces_of-one line (subst (All (λ b. b ≢ 32)) whole lacks)
    ∙ (ap (λ k. slice_range text from k ∷ []) (sym all)
    ∙ ap (λ xs. slice_range text from (from + n) ∷ xs) (sym (pieces_from-past text (from + n + 1) end (omega arith)))))

-- the n bytes from a place on that lack a space, up to a space or the line's end, are the first piece
pub pieces_from-first : (text : List ℕ) (from end n : ℕ) → from ≤ end → end ≤ length text
    → n ≤ length (slice_range text from end) → All (λ b. b ≢ 32) (take n (slice_range text from end))
    → (n < length (slice_range text from end) → get_or (slice_range text from end) n 0 ≡ 32)
    → pieces_from text from end ≡ slice_range text from (from + n) ∷ pieces_from text (from + n + 1) end
pieces_from-first text from end n low high within lacks stopped =
    elim (cases_lt (from + n) end) [
      | inl inside ↦ first_of_more text from end n inside high lacks (stopped (omega (arith, length-line text from end high)))
      | inr all ↦ first_of_one text from end n low high (omega (arith, length-line text from end high)) lacks
    ]

-- with a byte more at the front of the first piece none holds a space, if the byte is none
apart_onto : (b : ℕ) (ps : List (List ℕ)) → b ≢ 32 → All LacksSpace ps → All LacksSpace (onto_first b ps)
apart_onto b [] n h = All-cons LacksSpace (b ∷ []) [] (All-cons (λ x. x ≢ 32) b [] n (All-nil (λ x. x ≢ 32))) h
apart_onto b (p ∷ ps) n h =
    All-cons LacksSpace (b ∷ p) ps (All-cons (λ x. x ≢ 32) b p n (All-head LacksSpace p ps h)) (All-tail LacksSpace p ps h)

pieces_of-apart : (bytes : List ℕ) → All LacksSpace (pieces_of bytes)
pieces_of-apart [] = All-cons LacksSpace [] [] (All-nil (λ x. x ≢ 32)) (All-nil LacksSpace)
pieces_of-apart (b ∷ bs) =
    elim (cases_eq b 32) [
      | inl e ↦ rw e (All-cons LacksSpace [] (pieces_of bs) (All-nil (λ x. x ≢ 32)) (pieces_of-apart bs))
      | inr n ↦ let e : eqb b 32 ≡ false = search (rules, tests) in rw e (apart_onto b (pieces_of bs) n (pieces_of-apart bs))
    ]

pub pieces_of-are_pieces : (bytes : List ℕ) → IsPiecesOf bytes (pieces_of bytes)
pieces_of-are_pieces bytes =
    record { joined = join_with_byte-slice_split 32 bytes; some = omega (arith, length-slice_split (λ b. eqb b 32) bytes); apart = pieces_of-apart bytes }

-- no other pieces are those of a line
pub pieces_only : (ps : List (List ℕ)) (bytes : List ℕ) → IsPiecesOf bytes ps → ps ≡ pieces_of bytes
pieces_only [] bytes h = absurd (omega (arith, h.some))
pieces_only (p ∷ []) bytes h = sym (pieces_of-one p (All-head LacksSpace p [] h.apart)) ∙ ap pieces_of h.joined
pieces_only (p ∷ q ∷ ps) bytes h =
    let rest : q ∷ ps ≡ pieces_of (join_with_byte 32 (q ∷ ps)) =
    pieces_only (q ∷ ps) (join_with_byte 32 (q ∷ ps)) (record { joined = refl; some = omega arith; apart = All-tail LacksSpace p (q ∷ ps) h.apart }) in
    ap (λ r. p ∷ r) rest ∙ (sym (pieces_of-more p (join_with_byte 32 (q ∷ ps)) (All-head LacksSpace p (q ∷ ps) h.apart)) ∙ ap pieces_of h.joined)

-- words that are printed one after another, with a space in front of each but the first, are the pieces of the line
pub pieces_of-spaced : (word : List ℕ) (words : List (List ℕ)) → LacksSpace word → All LacksSpace words
    → pieces_of (word ++ flat_map (λ w. 32 ∷ w) words) ≡ word ∷ words
pieces_of-spaced word [] first others = ap pieces_of (append-nil word) ∙ pieces_of-one word first
pieces_of-spaced word (w ∷ ws) first others =
    pieces_of-more word (w ++ flat_map (λ w. 32 ∷ w) ws) first
    ∙ ap (λ ps. word ∷ ps) (pieces_of-spaced w ws (All-head LacksSpace w ws others) (All-tail LacksSpace w ws others))
