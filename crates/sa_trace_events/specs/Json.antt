-- The records of trace events: each is a line, with its keys in a fixed order. A name ends in the quote that `place_text` begins with.
use Rattle.std.specs.Prelude.{ℕ, ◌+◌, ◌-◌, ◌*◌, ◌^◌, List, ◌++◌, codes, min}
use Rattle.sa_base.specs.declared.record.Item.{Item}
use Rattle.sa_svg.specs.Markup.{numbered}
use Rattle.sa_trace.specs.TraceText.{item_text}

-- the time of an event in microseconds, and how long it is from one to another: each is a millisecond, and event 0 is at the first one
abbrev pub time_of : ℕ → ℕ
time_of event = min (min (event + 1) (2 ^ 64 - 1) * 1000) (2 ^ 64 - 1)

abbrev pub length_of : ℕ → ℕ → ℕ
length_of from to = min ((to - from) * 1000) (2 ^ 64 - 1)

-- the numbers of a track
unfoldable pub place_text : ℕ → ℕ → List ℕ
place_text pid tid = numbered (codes "\",\"pid\":") pid ++ numbered (codes ",\"tid\":") tid

-- the name of a process or a thread, and its place among the others
unfoldable pub name_text : List ℕ → ℕ → ℕ → List ℕ → List ℕ
name_text kind pid tid name =
    codes ",\n{\"ph\":\"M\",\"name\":\"" ++ kind ++ codes "_name" ++ place_text pid tid ++ codes ",\"args\":{\"name\":\"" ++ name ++ codes "\"}}"

unfoldable pub sort_text : List ℕ → ℕ → ℕ → ℕ → List ℕ
sort_text kind pid tid index =
    codes ",\n{\"ph\":\"M\",\"name\":\"" ++ kind ++ codes "_sort_index" ++ place_text pid tid
    ++ numbered (codes ",\"args\":{\"sort_index\":") index ++ codes "}}"

unfoldable pub titled_text : List ℕ → ℕ → ℕ → List ℕ → ℕ → List ℕ
titled_text kind pid tid name index = name_text kind pid tid name ++ sort_text kind pid tid index

-- a line of the trace, without its end
abbrev pub quoted : Item → List ℕ
quoted i = codes "\"" ++ item_text i ++ codes "\""

-- the record of a slice: what comes before its name, and from there up to its lines
unfoldable pub slice_head : List ℕ → List ℕ
slice_head category = codes ",\n{\"ph\":\"X\",\"cat\":\"" ++ category ++ codes "\",\"name\":\""

unfoldable pub slice_times : ℕ → ℕ → ℕ → ℕ → List ℕ
slice_times pid tid from to =
    place_text pid tid ++ numbered (codes ",\"ts\":") (time_of from) ++ numbered (codes ",\"dur\":") (length_of from to)
    ++ codes ",\"args\":{\"trace\":["

-- an end of an arrow, at an item on the track of its processor
unfoldable pub arrow_head : List ℕ → List ℕ → ℕ → List ℕ
arrow_head phase category id = codes ",\n{\"ph\":\"" ++ phase ++ codes "\",\"bp\":\"e\",\"cat\":\"" ++ category ++ numbered (codes "\",\"id\":") id

unfoldable pub arrow_rest : List ℕ → Item → List ℕ
arrow_rest category i =
    codes ",\"name\":\"" ++ category ++ place_text 1 (1 + i.proc.0) ++ numbered (codes ",\"ts\":") (time_of i.event) ++ codes "}"

unfoldable pub arrow_text : List ℕ → List ℕ → ℕ → Item → List ℕ
arrow_text phase category id i = arrow_head phase category id ++ arrow_rest category i
