-- Tags, attributes and elements.
use Rattle.std.specs.Prelude.{ℕ, List, ◌++◌, codes, decimal}
use Rattle.sa_svg.specs.declared.markup.Rect.{Rect}

-- an attribute with a number: its name, and the number in quotes
abbrev pub number : List ℕ → ℕ → List ℕ
number name n = codes " " ++ name ++ codes "=\"" ++ decimal n ++ codes "\""

-- where a rectangle is, and how large it is; where a text is
unfoldable pub rect_attrs : Rect → List ℕ
rect_attrs r = number (codes "x") r.x ++ number (codes "y") r.y ++ number (codes "width") r.width ++ number (codes "height") r.height

unfoldable pub text_attrs : ℕ → ℕ → List ℕ
text_attrs x y = number (codes "x") x ++ number (codes "y") y

-- a rectangle of a class, and words of a class
unfoldable pub rect : List ℕ → Rect → List ℕ
rect class r = codes "<rect class=\"" ++ class ++ codes "\"" ++ rect_attrs r ++ codes "/>"

unfoldable pub text_tag : List ℕ → ℕ → ℕ → List ℕ
text_tag class x y = codes "<text class=\"" ++ class ++ codes "\"" ++ text_attrs x y ++ codes ">"

unfoldable pub text_at : List ℕ → ℕ → ℕ → List ℕ → List ℕ
text_at class x y words = text_tag class x y ++ words ++ codes "</text>"

-- a word and a number after it
abbrev pub numbered : List ℕ → ℕ → List ℕ
numbered word n = word ++ decimal n

-- a shape: its title, which a pointer on it shows, and what is drawn
abbrev pub titled : List ℕ → List ℕ → List ℕ
titled title drawn = codes "<g><title>" ++ title ++ codes "</title>" ++ drawn ++ codes "</g>\n"
