-- The words of a line.
use Rattle.std.specs.Prelude.{ℕ, ◌+◌, ◌-◌, ◌==◌, Bool, ◌&&◌, ◌||◌, nat_le, if◌then◌else◌, List, [], ◌∷◌, ◌++◌, length, take, slice_get, slice_range, Option, None, Some}
use Rattle.std.specs.List.{fold, enumerate_from}
use Rattle.toga_lines.specs.declared.words.Place.{Place}

-- a space or a tab
abbrev pub is_blank : ℕ → Bool
is_blank byte = (byte == 32) || (byte == 9)

-- the word of the byte of this number alone
abbrev pub word_from : ℕ → Place
word_from number = record { from = number; to = number + 1 }

-- a byte that is no blank makes the last word longer where that ends just before it; else it begins a word
abbrev pub joined : Option Place → ℕ → List Place
joined None number = word_from number ∷ []
joined (Some place) number = if place.to == number then record place { to = number + 1 } ∷ [] else place ∷ word_from number ∷ []

abbrev pub with_byte : List Place → ℕ → ℕ → List Place
with_byte places number byte =
    if is_blank byte then places else take (length places - 1) places ++ joined (slice_get places (length places - 1)) number

-- the longest pieces without blanks
abbrev pub places_of : List ℕ → List Place
places_of content = fold (λ places b. with_byte places b.0 b.1) [] (enumerate_from 0 content)

-- the bytes of a word; none where the place is outside of the content
abbrev pub word_at : List ℕ → Place → List ℕ
word_at content place =
    if nat_le place.from place.to && nat_le place.to (length content) then slice_range content place.from place.to else []
