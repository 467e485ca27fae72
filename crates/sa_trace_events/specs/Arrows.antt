-- The arrows of which both ends are found along the trace: one after another, each from where it begins to where it ends next.
use Rattle.std.specs.Prelude.{ℕ, Bool, true, false, not, ◌==◌, ◌&&◌, ◌||◌, List, [], ◌∷◌, ◌++◌, codes, if◌then◌else◌}
use Rattle.sa_base.specs.declared.number.ProcNo.{ProcNo}
use Rattle.sa_base.specs.declared.number.SpaceNo.{SpaceNo}
use Rattle.sa_base.specs.declared.number.ThreadNo.{ThreadNo}
use Rattle.sa_base.specs.declared.record.Item.{Item}
use Rattle.sa_base.specs.declared.record.Record.{Record}
use Rattle.sa_base.specs.declared.record.Record.TheVariants as what
use Rattle.sa_svg.specs.Markup.{numbered}
use Rattle.sa_trace_events.specs.declared.arrows.Arrow.{Arrow}
use Rattle.sa_trace_events.specs.declared.arrows.Arrow.TheVariants.{Line, Ready}
use Rattle.sa_trace_events.specs.State.{is_thread}
use Rattle.sa_trace_events.specs.Json.{arrow_text}

abbrev pub is_line : ProcNo → Record → Bool
is_line p (what.Line q) = q.0 == p.0
is_line p other = false

abbrev pub is_up : Record → Bool
is_up (what.Up s a) = true
is_up other = false

abbrev pub is_ready : SpaceNo → ThreadNo → Record → Bool
is_ready s t (what.Ready u v) = is_thread s t u v
is_ready s t other = false

abbrev pub is_run : SpaceNo → ThreadNo → Record → Bool
is_run s t (what.Run u v) = is_thread s t u v
is_run s t other = false

-- from where a line is raised to the next upcall on its processor; from where a thread is put into a ready list to where it is taken from it
abbrev pub begins : Arrow → Item → Bool
begins (Line p) i = is_line p i.what
begins (Ready s t) i = is_ready s t i.what

abbrev pub ends : Arrow → Item → Bool
ends (Line p) i = i.proc.0 == p.0 && is_up i.what
ends (Ready s t) i = is_run s t i.what

-- one that has begun goes on until it ends
abbrev pub begun_after : Arrow → Bool → Item → Bool
begun_after a begun i = begins a i || (begun && not (ends a i))

abbrev pub ready_end : List ℕ → SpaceNo → ThreadNo → Item → List ℕ
ready_end phase s t i = arrow_text phase (numbered (codes "ready in space ") s.0) t.0 i

abbrev pub end_text : List ℕ → Arrow → Item → List ℕ
end_text phase (Line p) i = arrow_text phase (codes "line") p.0 i
end_text phase (Ready s t) i = ready_end phase s t i

-- the end that is at an item: the beginning where none has begun, the other end where one is
abbrev pub end_if : Arrow → Bool → Item → List ℕ
end_if a begun i =
    if not begun && begins a i then end_text (codes "s") a i
    else (if begun && ends a i then end_text (codes "f") a i else [])

abbrev pub ends_from : Arrow → Bool → List Item → List ℕ
ends_from a begun [] = []
ends_from a begun (i ∷ is) = end_if a begun i ++ ends_from a (begun_after a begun i) is

abbrev pub ends_of : List Item → Arrow → List ℕ
ends_of items a = ends_from a false items
