-- What is read of a line of a common form.
use Rattle.std.proofs.Common.{◌≡◌, ℕ, ◌+◌, ◌-◌, ◌*◌, ◌/◌, ◌%◌, ◌<◌, ◌≤◌, true, ◌++◌, List, [], ◌∷◌, length, take, get_or, Ok, ap, ap₂, sym, ◌∙◌, arith, append_assoc, add-one}
use Rattle.std.specs.Prelude.{decimal}
use Rattle.std.proofs.lemmas.Fmt.{decimal_step, decimal_digit}
use Rattle.std.proofs.Math.Seq.{take-suc}
use Rattle.sa_base.specs.declared.record.Item.{Item}
use Rattle.sa_text.specs.LineText.{LineText}
use Rattle.sa_trace.specs.declared.so_far.SoFar.{SoFar}
use Rattle.sa_trace.specs.declared.line.Said.TheVariants.{Next}
use Rattle.sa_trace.specs.TraceText.{item_text}
use Rattle.sa_trace.specs.Pieces.{and_then}
use Rattle.sa_trace.specs.Line.{line_in, said_by}
use Rattle.sa_trace.specs.Text.{FitsItem, MayFollow}
use Rattle.sa_trace.proofs.Lines.{said_by-item}
use Rattle.sa_trace.proofs.LineTexts.{item_text-pieces, fine-item, pieces_in-line}

-- the text of an item that may follow is read as the item
pub item_line : (so : SoFar) (item : Item) (bytes : List ℕ) → bytes ≡ item_text item → FitsItem item → MayFollow so.last item
    → line_in so (record { bytes = bytes; ended = true }) ≡ Ok (Next item)
item_line so item bytes is fits follows =
    ap (λ (bs : List ℕ). line_in so (let l : LineText = record { bytes = bs; ended = true } in l)) (is ∙ item_text-pieces item)
    ∙ ap (λ r. and_then r (said_by so)) (pieces_in-line _ _ (fine-item item fits))
    ∙ said_by-item so item fits follows

-- one digit more
pub decimal_more : (n d : ℕ) → 0 < n → d < 10 → n ≤ 100000000000000000 → decimal n ++ (48 + d) ∷ [] ≡ decimal (n * 10 + d)
decimal_more n d some small few =
    let q : (n * 10 + d) / 10 ≡ n = omega arith in
    let r : (n * 10 + d) % 10 ≡ d = omega arith in
    sym (decimal_step (n * 10 + d) (omega arith) (omega arith) ∙ ap₂ (λ m k. decimal m ++ ((48 + k) ∷ [])) q r)

-- the digits at the front of some bytes, and one more
pub digits_more : (first n at : ℕ) (bytes : List ℕ) → 0 < n → n ≤ 100000000000000000 → at < length bytes
    → 48 ≤ get_or bytes at 0 → get_or bytes at 0 ≤ 57 → decimal first ++ take at bytes ≡ decimal n
    → decimal first ++ take (at + 1) bytes ≡ decimal (n * 10 + (get_or bytes at 0 - 48))
digits_more first n at bytes some few within low high is =
    let d : ℕ = get_or bytes at 0 - 48 in
    let byte : 48 + d ≡ get_or bytes at 0 = omega arith in
    ap (λ k. decimal first ++ take k bytes) (add-one at)
    ∙ ap (λ z. decimal first ++ z) (take-suc bytes at 0 within)
    ∙ sym (append_assoc (decimal first) (take at bytes) (get_or bytes at 0 ∷ []))
    ∙ ap₂ (λ z b. z ++ b ∷ []) is (sym byte)
    ∙ decimal_more n d some (omega arith) few

-- a digit at the front of some bytes
pub digit_front : (b : ℕ) (rest : List ℕ) → 48 ≤ b → b ≤ 57 → b ∷ rest ≡ decimal (b - 48) ++ rest
digit_front b rest low high =
    ap (λ k. k ∷ rest) (let e : b ≡ 48 + (b - 48) = omega arith in e) ∙ ap (λ z. z ++ rest) (sym (decimal_digit (b - 48) (omega arith)))

-- a zero
pub zero_front : (rest : List ℕ) → 48 ∷ rest ≡ decimal 0 ++ rest
zero_front rest = digit_front 48 rest (omega arith) (omega arith)

-- two digits at the front of some bytes
pub digits_front : (a b : ℕ) (rest : List ℕ) → 49 ≤ a → a ≤ 57 → 48 ≤ b → b ≤ 57 → a ∷ b ∷ rest ≡ decimal ((a - 48) * 10 + (b - 48)) ++ rest
digits_front a b rest some few low high =
    let d : ℕ = b - 48 in
    let byte : 48 + d ≡ b = omega arith in
    digit_front a (b ∷ rest) (omega arith) few
    ∙ sym (append_assoc (decimal (a - 48)) (b ∷ []) rest)
    ∙ ap (λ k. (decimal (a - 48) ++ k ∷ []) ++ rest) (sym byte)
    ∙ ap (λ z. z ++ rest) (decimal_more (a - 48) d (omega arith) (omega arith) (omega arith))
