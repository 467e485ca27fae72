-- What holds of lines, pieces and numbers, whatever the text.
use Rattle.std.specs.Prelude.{◌≡◌, ℕ, ◌+◌, ◌^◌, ◌<◌, ◌↔◌, true, false, List, [], ◌∷◌, ◌++◌, length, map, Some, All, decimal, slice_get, ◌==◌, if◌then◌else◌}
use Rattle.std.specs.List.{flat_map}
use Rattle.sa_text.specs.LineText.{LineText, line_texts, LacksLineFeed, IsLinesOf}
use Rattle.sa_text.specs.Line.{lines_of, text_of_line, IsWithin}
use Rattle.sa_text.specs.Pieces.{pieces_of, LacksSpace, IsPiecesOf}
use Rattle.sa_text.specs.Number.{IsSpellingOf}
use Rattle.sa_text.specs.declared.line_reader.Line.{Line}

-- the lines of a text are the one list that is the text when put together and is cut at each line feed
abbrev pub LinesAreTheText : Type 0
LinesAreTheText = (text : List ℕ) (ls : List LineText) → IsLinesOf text ls ↔ (ls ≡ line_texts text)

-- a text goes on after a line feed with the lines of the rest
abbrev pub LinesFollowLineFeeds : Type 0
LinesFollowLineFeeds = (front rest : List ℕ) → line_texts (front ++ 10 ∷ rest) ≡ line_texts (front ++ 10 ∷ []) ++ line_texts rest

-- bytes up to a line feed are one line
abbrev pub LinesEndAtLineFeeds : Type 0
LinesEndAtLineFeeds = (bytes : List ℕ) → LacksLineFeed bytes → line_texts (bytes ++ 10 ∷ []) ≡ record { bytes = bytes; ended = true } ∷ []

-- what follows the last line feed is a line exactly where it is not empty
abbrev pub RestIsLine : Type 0
RestIsLine = (bytes : List ℕ) → LacksLineFeed bytes → line_texts bytes ≡ (if length bytes == 0 then [] else record { bytes = bytes; ended = false } ∷ [])

-- lines that are printed one after another, each with a line feed after it, are the lines of the text
abbrev pub PrintedLinesAreTheLines : Type 0
PrintedLinesAreTheLines = (ls : List (List ℕ)) → All LacksLineFeed ls
    → line_texts (flat_map (λ l. l ++ 10 ∷ []) ls) ≡ map (λ l. record { bytes = l; ended = true }) ls

-- at their places the text holds its lines, they lie within it, and they are numbered from 1 on
abbrev pub PlacesHoldLines : Type 0
PlacesHoldLines = (text : List ℕ) → map (text_of_line text) (lines_of text) ≡ line_texts text

abbrev pub LinesLieWithin : Type 0
LinesLieWithin = (text : List ℕ) → All (IsWithin text) (lines_of text)

abbrev pub NumbersRiseByOne : Type 0
NumbersRiseByOne = (text : List ℕ) (k : ℕ) (line : Line) → slice_get (lines_of text) k ≡ Some line → line.number ≡ k + 1

-- the pieces of a line are the one list that is the line when put together and is cut at each space
abbrev pub PiecesAreTheLine : Type 0
PiecesAreTheLine = (bytes : List ℕ) (pieces : List (List ℕ)) → IsPiecesOf bytes pieces ↔ (pieces ≡ pieces_of bytes)

-- bytes up to a space are one piece, and the others are those of the rest
abbrev pub PiecesEndAtSpaces : Type 0
PiecesEndAtSpaces = (bytes rest : List ℕ) → LacksSpace bytes → pieces_of (bytes ++ 32 ∷ rest) ≡ bytes ∷ pieces_of rest

abbrev pub RestIsPiece : Type 0
RestIsPiece = (bytes : List ℕ) → LacksSpace bytes → pieces_of bytes ≡ bytes ∷ []

-- words that are printed one after another, with a space in front of each but the first, are the pieces of the line
abbrev pub SpacedWordsAreThePieces : Type 0
SpacedWordsAreThePieces = (word : List ℕ) (words : List (List ℕ)) → LacksSpace word → All LacksSpace words
    → pieces_of (word ++ flat_map (λ w. 32 ∷ w) words) ≡ word ∷ words

-- a number below 2 ^ 64 has one spelling, which is its decimal text
abbrev pub NumbersHaveOneSpelling : Type 0
NumbersHaveOneSpelling = (n : ℕ) (bytes : List ℕ) → n < 2 ^ 64 → IsSpellingOf n bytes ↔ (bytes ≡ decimal n)

-- and another number has another
abbrev pub SpellingsDiffer : Type 0
SpellingsDiffer = (m n : ℕ) → m < 2 ^ 64 → n < 2 ^ 64 → decimal m ≡ decimal n → m ≡ n

-- a decimal text is one piece of one line
abbrev pub SpellingsAreOnePiece : Type 0
SpellingsAreOnePiece = (n : ℕ) → n < 2 ^ 64 → LacksSpace (decimal n) × LacksLineFeed (decimal n)
