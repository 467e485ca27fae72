-- The words of shapes, and their classes, which the style sheet colours.
use Rattle.std.specs.Prelude.{ℕ, Bool, List, [], ◌++◌, codes, decimal, count_by, if◌then◌else◌}
use Rattle.sa_base.specs.declared.number.SpaceNo.{SpaceNo}
use Rattle.sa_base.specs.declared.record.Note.TheVariants.{Add, Preempted, Blocked, Unblocked}
use Rattle.sa_base.specs.declared.record.Record.{Record}
use Rattle.sa_base.specs.declared.record.Record.TheVariants.{Line, Stop, Block, Unblock, Up, Told, Want, Take, Free, Spin, Fetch, Fetched}
use Rattle.sa_shapes.specs.declared.look.Look.{Look}
use Rattle.sa_shapes.specs.declared.look.Look.TheVariants as look
use Rattle.sa_svg.specs.Markup.{numbered}

-- the class of what a processor does, the word in its bar, and what it does in words
abbrev pub look_class : Look → List ℕ
look_class look.Unowned = codes "u"
look_class (look.Thread s t) = numbered (codes "t s") s.0
look_class (look.Package s) = numbered (codes "p s") s.0
look_class (look.Placed s) = numbered (codes "p s") s.0
look_class (look.GoesOn s) = numbered (codes "p s") s.0
look_class (look.List s l) = numbered (codes "p s") s.0
look_class (look.Idle s) = numbered (codes "i s") s.0
look_class (look.Section s) = numbered (codes "c s") s.0

-- a word of a space, which is named before it where there are several
abbrev pub named : Bool → SpaceNo → List ℕ → List ℕ
named names s word = (if names then decimal s.0 ++ codes ":" else []) ++ word

abbrev pub look_word : Bool → Look → List ℕ
look_word names look.Unowned = codes "-"
look_word names (look.Thread s t) = named names s (numbered (codes "t") t.0)
look_word names (look.Package s) = named names s (codes "p")
look_word names (look.Placed s) = named names s (codes "v")
look_word names (look.GoesOn s) = named names s (codes "g")
look_word names (look.List s l) = named names s (numbered (codes "L") l.0)
look_word names (look.Idle s) = named names s (codes "i")
look_word names (look.Section s) = named names s (codes "c")

-- a space and what it does, with a number or without
unfoldable pub of_space : SpaceNo → List ℕ → List ℕ
of_space s does = numbered (codes "space ") s.0 ++ does

unfoldable pub of_space_numbered : SpaceNo → List ℕ → ℕ → List ℕ
of_space_numbered s does n = numbered (codes "space ") s.0 ++ numbered does n

abbrev pub look_title : Look → List ℕ
look_title look.Unowned = codes "owned by no space"
look_title (look.Thread s t) = of_space_numbered s (codes ": thread ") t.0
look_title (look.Package s) = of_space s (codes ": the package")
look_title (look.List s l) = of_space_numbered s (codes ": the package, list ") l.0
look_title (look.Placed s) = of_space s (codes ": a virtual processor is placed")
look_title (look.GoesOn s) = of_space s (codes ": a virtual processor goes on")
look_title (look.Idle s) = of_space s (codes ": a look in vain")
look_title (look.Section s) = of_space s (codes ": a section in its copy")

-- how many processors are aimed
abbrev pub aimed_count : List Bool → ℕ
aimed_count aims = count_by (λ aimed. aimed) aims

-- the class of a record's mark, and its word
abbrev pub mark_class : Record → List ℕ
mark_class (Line p) = codes "mi"
mark_class (Stop s t a) = codes "mi"
mark_class (Block s t a io) = codes "mb"
mark_class (Unblock s t a) = codes "mb"
mark_class (Up s a) = codes "mu"
mark_class (Told note) = codes "mu"
mark_class (Want s n) = codes "mh"
mark_class (Take s l t) = codes "ml"
mark_class (Free s l t) = codes "ml"
mark_class (Spin l) = codes "ml"
mark_class other = codes "mf"

abbrev pub mark_word : Record → List ℕ
mark_word (Line p) = codes "line"
mark_word (Stop s t a) = codes "stop"
mark_word (Block s t a io) = codes "block"
mark_word (Unblock s t a) = codes "ret"
mark_word (Up s a) = numbered (codes "up ") a.0
mark_word (Told (Add p)) = numbered (codes "+P") p.0
mark_word (Told (Preempted a)) = numbered (codes "pre") a.0
mark_word (Told (Blocked a)) = numbered (codes "blk") a.0
mark_word (Told (Unblocked a)) = numbered (codes "ret") a.0
mark_word (Want s n) = numbered (codes "want ") n
mark_word (Take s l t) = codes "take"
mark_word (Free s l t) = codes "free"
mark_word (Spin l) = codes "spin"
mark_word (Fetch s) = codes "ftch"
mark_word (Fetched s) = codes "page"
mark_word other = codes "-"
