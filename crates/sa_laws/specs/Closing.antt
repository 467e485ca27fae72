-- What is due at the closing of an event: wants, aims and lines.
use Rattle.std.specs.Prelude.{ℕ, ◌/◌, ◌%◌, ◌==◌, min, Bool, true, false, ◌&&◌, not, if◌then◌else◌, is_none, is_some, List, [], ◌∷◌, length, map, filter, filter_map, Option}
use Rattle.std.specs.List.{list_any, range_with_len}
use Rattle.std.specs.Option.{option_map}
use Rattle.sa_base.specs.declared.number.SpaceNo.{SpaceNo}
use Rattle.sa_base.specs.declared.record.Note.{Note}
use Rattle.sa_base.specs.declared.record.Record.{Record}
use Rattle.sa_base.specs.declared.record.Record.TheVariants.{Want, Line}
use Rattle.sa_share.specs.declared.Claim.{Claim}
use Rattle.sa_share.specs.Rounds.{shares_of}
use Rattle.sa_spaces.specs.Workload.{WorkloadView}
use Rattle.sa_assign.specs.Aims.{Change, aimed, is_aim, changes, least_below, space_no}
use Rattle.sa_assign.specs.Reaim.{proc_no}
use Rattle.sa_laws.specs.State.{space_def}
use Rattle.sa_laws.specs.Readings.{Readings, owner_of, aim_of, line_of, demand_of, untold_of, is_fetching, must_hear}

-- the spaces of a workload in the order of their numbers
abbrev pub spaces_of : WorkloadView → List SpaceNo
spaces_of w = map space_no (range_with_len 0 (length w.spaces))

-- a space that wants no processor must be told something
abbrev pub must_want : Readings → SpaceNo → Bool
must_want r s = demand_of r s == 0 && list_any (must_hear r) (untold_of r s)

-- the wants that are due: such a space wants one processor
abbrev pub want_one : SpaceNo → Record
want_one s = Want s 1

abbrev pub wants_due : WorkloadView → Readings → List Record
wants_due w r = map want_one (filter (must_want r) (spaces_of w))

-- the claim of a space is its demand; while its upcall page is fetched it is no more than the space has aims
abbrev pub claim_of : WorkloadView → Readings → SpaceNo → Claim
claim_of w r s = record {
  priority = (space_def w s).priority;
  want = if is_fetching r s then min (demand_of r s) (aimed s.0 r.aims) else demand_of r s;
}

abbrev pub claims_of : WorkloadView → Readings → List Claim
claims_of w r = map (claim_of w r) (spaces_of w)

-- the first space at an event: the remainder of the processors rotates with the slices
abbrev pub first_space : WorkloadView → ℕ → ℕ
first_space w e = if w.slice == 0 then 0 else (e / w.slice) % length w.spaces

-- the shares of the claims at an event, of each space
abbrev pub shares_at : WorkloadView → ℕ → Readings → List ℕ
shares_at w e r = shares_of w.processors (first_space w e) (claims_of w r)

-- the aims that are due: for each space in the order of their numbers, as many as it misses of its share
abbrev pub aims_due : WorkloadView → ℕ → Readings → List Change
aims_due w e r = changes (length w.spaces) (shares_at w e r) r.marks r.aims

-- a processor that the space owns is aimed at it and has its line raised, so that the space will be told there; a
-- processor that it owns has a low line
abbrev pub will_tell : Readings → SpaceNo → ℕ → Bool
will_tell r s q = is_aim s.0 (owner_of r (proc_no q)) && is_aim s.0 (aim_of r (proc_no q)) && is_some (line_of r (proc_no q))

abbrev pub can_be_raised : Readings → SpaceNo → ℕ → Bool
can_be_raised r s q = is_aim s.0 (owner_of r (proc_no q)) && is_none (line_of r (proc_no q))

-- the space has something untold, is not being fetched, and would not be told it anywhere
abbrev pub has_untold : List Note → Bool
has_untold [] = false
has_untold (note ∷ notes) = true

abbrev pub must_interrupt : WorkloadView → Readings → SpaceNo → Bool
must_interrupt w r s =
    has_untold (untold_of r s) && not (is_fetching r s) && is_none (least_below w.processors (will_tell r s))

-- the lines that are due: for each such space that of its lowest-numbered processor with a low line, if it owns one
abbrev pub line_due : WorkloadView → Readings → SpaceNo → Option Record
line_due w r s = option_map (λ q. Line (proc_no q)) (least_below w.processors (can_be_raised r s))

abbrev pub lines_due : WorkloadView → Readings → List Record
lines_due w r = filter_map (line_due w r) (filter (must_interrupt w r) (spaces_of w))
