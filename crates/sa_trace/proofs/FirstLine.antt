-- The first line of a text: where a line feed is found, where none is, and where an item is.
use Rattle.std.proofs.Common.{◌≡◌, ℕ, suc, ◌+◌, ◌-◌, ◌<◌, ◌≤◌, true, false, List, [], ◌∷◌, ◌++◌, length, get_or, take, drop, sym, ap, ◌∙◌, arith, subst, refl, append_assoc, add-one, take_all, drop-cons, length-append}
use Rattle.std.specs.Prelude.{slice_range}
use Rattle.std.proofs.lemmas.List.{take-append-drop, take_rest}
use Rattle.sa_base.specs.declared.record.Item.{Item}
use Rattle.sa_text.specs.LineText.{LineText, line_texts, LacksLineFeed}
use Rattle.sa_text.specs.Line.{text_of_line}
use Rattle.sa_text.specs.declared.line_reader.Line.{Line}
use Rattle.sa_trace.specs.TraceText.{item_text, line_of}
use Rattle.sa_trace.specs.Text.{FitsItem, MayFollow}
use Rattle.sa_trace.specs.declared.line.Said.TheVariants.{Next}
use Rattle.sa_trace.specs.Reader.{with_said, and_item, LeftToRead, left}
use Rattle.sa_trace.proofs.Lines.{item_pieces}
use Rattle.sa_trace.proofs.LineTexts.{item_text-pieces, fine-item, fine-lacks}
use Rattle.sa_trace.proofs.ItemLines.{item_line}
use Rattle.sa_trace.proofs.ReadOn.{item-line}
use Rattle.sa_text.proofs.LineLemmas.{line_texts-ended, line_texts-open}

-- what is before a place
before_place : (text : List ℕ) (end : ℕ) → take end text ≡ slice_range text 0 end
before_place text end = let e : end ≡ end - 0 = omega arith in ap (λ n. take n text) e

-- bytes up to a line feed
pub ended_first : (text : List ℕ) (end : ℕ) (line : Line) → end < length text → LacksLineFeed (take end text)
    → (end < length text → get_or text end 0 ≡ 10) → line ≡ record { number = line.number; start = 0; end = end; ended = true }
    → line_texts text ≡ text_of_line text line ∷ line_texts (slice_range text (end + 1) (length text))
ended_first text end line within lacks feed is =
    ap line_texts (sym (take-append-drop end text))
    ∙ ap (λ z. line_texts (take end text ++ z))
    (drop-cons text end 0 within ∙ ap (λ k. get_or text end 0 ∷ drop k text) (sym (add-one end)) ∙ ap (λ b. b ∷ drop (end + 1) text) (feed within))
    ∙ line_texts-ended (take end text) (drop (end + 1) text) lacks
    ∙ ap (λ bs. (let l : LineText = record { bytes = bs; ended = true } in l) ∷ line_texts (drop (end + 1) text)) (before_place text end)
    ∙ ap (λ rest. (let l : LineText = record { bytes = slice_range text 0 end; ended = true } in l) ∷ line_texts rest) (sym (take_rest text (end + 1)))
    ∙ ap (λ l. text_of_line text l ∷ line_texts (slice_range text (end + 1) (length text))) (sym is)

-- all bytes, where none is a line feed
pub open_first : (text : List ℕ) (end : ℕ) (line : Line) → (length text ≡ 0 → ⊥) → end ≡ length text → LacksLineFeed (take end text)
    → line ≡ record { number = line.number; start = 0; end = end; ended = false }
    → line_texts text ≡ text_of_line text line ∷ line_texts []
open_first text end line some whole lacks is =
    let all : take end text ≡ text = take_all end text (omega arith) in
    line_texts-open text (subst LacksLineFeed all lacks) (omega arith)
    ∙ ap (λ bs. (let l : LineText = record { bytes = bs; ended = false } in l) ∷ []) (sym all ∙ before_place text end)
    ∙ ap (λ l. text_of_line text l ∷ []) (sym is)

-- the line of an item
pub item_first : (item : Item) (bytes rest : List ℕ) → bytes ≡ line_of item ++ rest → FitsItem item
    → line_texts bytes ≡ record { bytes = item_text item; ended = true } ∷ line_texts rest
item_first item bytes rest is fits =
    ap line_texts (is ∙ append_assoc (item_text item) (10 ∷ []) rest)
    ∙ line_texts-ended (item_text item) rest (subst LacksLineFeed (sym (item_text-pieces item)) (fine-lacks (item_pieces item) (fine-item item fits)))

-- which has a byte at least
pub item_longer : (item : Item) (bytes rest : List ℕ) → bytes ≡ line_of item ++ rest → length rest + 1 ≤ length bytes
item_longer item bytes rest is =
    let all : length bytes ≡ length (line_of item) + length rest = ap length is ∙ length-append (line_of item) rest in
    let line : length (line_of item) ≡ length (item_text item) + 1 = length-append (item_text item) (10 ∷ []) in
    omega (arith, all, line)

-- a reader that goes on behind the line of an item
pub item_told : (at after : LeftToRead) (item : Item) (bytes rest : List ℕ) → bytes ≡ line_of item ++ rest → FitsItem item → MayFollow at.so.last item
    → at.lines ≡ line_texts bytes → after.lines ≡ line_texts rest → after.number ≡ at.number + 1 → after.so ≡ and_item item at.so
    → left at ≡ with_said (Next item) (left after)
item_told at after item bytes rest is fits follows before behind number added =
    let line : LineText = record { bytes = item_text item; ended = true } in
    let lines : at.lines ≡ line ∷ after.lines = before ∙ item_first item bytes rest is fits ∙ ap (λ ls. line ∷ ls) (sym behind) in
    item-line at after at.so line item lines refl (sym (item_line at.so item (item_text item) refl fits follows)) number added

-- and has a line less to read
pub line_fewer : (lines behind : List LineText) (line : LineText) → lines ≡ line ∷ behind → length behind < length lines
line_fewer lines behind line is = let e : length lines ≡ suc (length behind) = ap length is in omega (arith, e)
