-- Pairs, as thread priorities' test of which lives are in asks for them: whether the line of a processor is raised, and whether the
-- thread that runs there is outranked.
use Rattle.std.specs.Prelude.{ℕ, ◌==◌, Bool, true, false, not, ◌&&◌, if◌then◌else◌, List, ◌++◌, Option, Some, None, is_some}
use Rattle.sa_base.specs.declared.number.ProcNo.{ProcNo}
use Rattle.sa_base.specs.declared.number.SpaceNo.{SpaceNo}
use Rattle.sa_base.specs.declared.record.Item.{Item}
use Rattle.sa_base.specs.Items.{items_at}
use Rattle.sa_spaces.specs.Workload.{WorkloadView}
use Rattle.sa_assign.specs.Aims.{least_below}
use Rattle.sa_assign.specs.Reaim.{proc_no}
use Rattle.sa_laws.specs.Event.{Event}
use Rattle.sa_laws.specs.State.{SpaceState, Runner, space_at, runner_on}
use Rattle.sa_laws.specs.Shape.{own_part}
use Rattle.sa_ranks.specs.Pairs.{rank_in, is_outranked}
use Rattle.sa_ranks.specs.Inside.{has_entry}
use Rattle.sa_base.specs.declared.package.PackageName.{PackageName}
use Rattle.sa_base.specs.declared.package.PackageName.TheVariants.{FastThreads, Priorities}
use Rattle.sa_promises.specs.Words.{line_in}
use Rattle.sa_promises.specs.Along.{last_seen}
use Rattle.sa_promises.specs.Moments.{is_first, machine_of}

-- The line of a processor is raised from a line record of it until the next event of the processor begins.
abbrev pub line_said : ProcNo → List Item → Item → Option Bool
line_said q past x =
    if line_in q x.what then Some true else if x.proc.0 == q.0 && is_first x.event past then Some false else None

abbrev pub line_is_raised : List Item → ProcNo → Bool
line_is_raised items q = last_seen (line_said q) false items

-- A processor is in a pair of a space if the thread that runs there is of the space, the processor's line is low, and a ready
-- thread of the space outranks the running one.
abbrev pub is_in_pair : SpaceState → SpaceNo → Bool → Option Runner → Bool
is_in_pair x s raised None = false
is_in_pair x s raised (Some runner) = runner.space.0 == s.0 && not raised && is_outranked x (rank_in x runner.thread)

abbrev pub is_paired_on : WorkloadView → List Item → SpaceNo → ℕ → Bool
is_paired_on w items s q =
    is_in_pair (space_at (machine_of w items) s) s (line_is_raised items (proc_no q)) (runner_on (machine_of w items) (proc_no q))

abbrev pub has_pair_in : WorkloadView → List Item → SpaceNo → Bool
has_pair_in w items s = is_some (least_below w.processors (is_paired_on w items s))

-- The items up to the moment at which pairs are asked for: an event's end; but if only its slice closes it, the moment directly
-- before its closing.
abbrev pub asked_at : List Item → Event → List Item
asked_at past e =
    past ++ items_at e.number e.proc (if has_entry e.records then e.records else own_part e.records)

-- By thread priorities a pair keeps a life in; by FastThreads' rules none does.
abbrev pub is_urged : PackageName → WorkloadView → List Item → SpaceNo → Bool
is_urged FastThreads w items s = false
is_urged Priorities w items s = has_pair_in w items s
