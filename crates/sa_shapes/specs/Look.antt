-- What a processor does, from one of its turns to the next.
use Rattle.std.specs.Prelude.{Bool, true, false, ◌==◌, ◌&&◌, Option, Some, None, if◌then◌else◌}
use Rattle.sa_base.specs.declared.number.SpaceNo.{SpaceNo}
use Rattle.sa_base.specs.declared.record.Record.{Record}
use Rattle.sa_base.specs.declared.record.Record.TheVariants as what
use Rattle.sa_shapes.specs.declared.look.Look.{Look}
use Rattle.sa_shapes.specs.declared.look.Look.TheVariants.{Unowned, Thread, Package, Placed, GoesOn, List, Idle, Section}

-- the space that owns the processor
abbrev pub owner : Look → Option SpaceNo
owner Unowned = None
owner (Thread s t) = Some s
owner (Package s) = Some s
owner (Placed s) = Some s
owner (GoesOn s) = Some s
owner (List s l) = Some s
owner (Idle s) = Some s
owner (Section s) = Some s

-- what a step at a list shows: in a copy still the copy
abbrev pub working : Look → Look → Look
working (Section s) next = Section s
working look next = next

-- what a `cont` shows: a section in its copy; where no upcall has come, a virtual processor that goes on
abbrev pub continued : Look → SpaceNo → Look
continued (Placed u) s = GoesOn s
continued look s = Section s

-- what an announcement of demand shows: the package of the processor's owner is at work, and another space's changes nothing
abbrev pub announcing_by : Option SpaceNo → Look → SpaceNo → Look
announcing_by None look s = look
announcing_by (Some u) look s = if u.0 == s.0 then Package s else look

abbrev pub announcing : Look → SpaceNo → Look
announcing look s = announcing_by (owner look) look s

-- what an owned processor shows; an unowned one shows that it is
abbrev pub in_space : Option SpaceNo → (SpaceNo → Look) → Look
in_space None shows = Unowned
in_space (Some s) shows = shows s

abbrev pub owned_by : Option SpaceNo → Look
owned_by None = Unowned
owned_by (Some s) = Placed s

-- what a processor does after a record of its own: a thread ran an instruction; after an interrupt, a block or a new owner no upcall has come
-- yet; an upcall, or the end of a copy, gives control to the package; a copy goes on; the package is at a list; a hint is the package's work; a
-- look was in vain; the lock of a list was held; a turn of nobody. The others leave it at what it did.
abbrev pub look_after : Look → Record → Look
look_after look (what.Ins s t i) = Thread s t
look_after look (what.Out s t v) = Thread s t
look_after look (what.Stop s t a) = Placed s
look_after look (what.Block s t a io) = Placed s
look_after look (what.Up s a) = Package s
look_after look (what.Back s t) = Package s
look_after look (what.Cont s t) = continued look s
look_after look (what.Take s l t) = working look (List s l)
look_after look (what.Free s l t) = working look (List s l)
look_after look (what.Move o n) = owned_by n
look_after look (what.Want s n) = announcing look s
look_after look what.Idle = in_space (owner look) Idle
look_after look (what.Spin l) = in_space (owner look) (λ s. working look (List s l))
look_after look what.Tick = Unowned
look_after look other = look

-- the same thing is shown
abbrev pub same_look : Look → Look → Bool
same_look Unowned Unowned = true
same_look (Thread s t) (Thread u v) = s.0 == u.0 && t.0 == v.0
same_look (Package s) (Package u) = s.0 == u.0
same_look (Placed s) (Placed u) = s.0 == u.0
same_look (GoesOn s) (GoesOn u) = s.0 == u.0
same_look (List s l) (List u m) = s.0 == u.0 && l.0 == m.0
same_look (Idle s) (Idle u) = s.0 == u.0
same_look (Section s) (Section u) = s.0 == u.0
same_look a b = false
