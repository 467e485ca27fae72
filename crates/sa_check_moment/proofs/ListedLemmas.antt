-- The lists of a moment keep their lengths.
use Rattle.std.proofs.Common.{◌≡◌, ℕ, refl, sym, ◌∙◌, ap, List, [], Option, Some, None, Bool, true, false, length, filter}
use Rattle.std.proofs.lemmas.List.{length-set, length-map, length-replicate}
use Rattle.sa_base.specs.declared.number.ProcNo.{ProcNo}
use Rattle.sa_base.specs.declared.number.SpaceNo.{SpaceNo}
use Rattle.sa_base.specs.declared.number.ThreadNo.{ThreadNo}
use Rattle.sa_base.specs.declared.number.ActNo.{ActNo}
use Rattle.sa_base.specs.declared.record.Note.{Note}
use Rattle.sa_base.specs.declared.record.Note.TheVariants.{Add, Preempted, Blocked, Unblocked}
use Rattle.sa_base.specs.declared.record.Record.{Record}
use Rattle.sa_base.specs.declared.record.Record.TheVariants.{Stop, Block, Unblock, Cont, Back, Up, Told, Move, Want, Aim, Line, GiveBack, Idle, Spin, Tick}
use Rattle.sa_spaces.specs.Workload.{WorkloadView}
use Rattle.sa_laws.specs.declared.place.Place.{Place}
use Rattle.sa_laws.specs.State.{State, placed_if}
use Rattle.sa_laws.specs.Readings.{Readings, space_of_life}
use Rattle.sa_laws.specs.Record.{after_record, without_note, is_other_note}
use Rattle.sa_laws.proofs.Lengths.{with-length, without-length}
use Rattle.sa_laws.proofs.Spaces.{placed-owners}
use Rattle.sa_base.specs.declared.package.RulesName.{RulesName}
use Rattle.sa_check_moment.specs.Seen.{Seen, opened, behind_record}
use Rattle.sa_check_moment.specs.Listed.{IsListed}
use Rattle.sa_check_moment.specs.Reading.{changes_nothing, passing}

-- the lists, and as many in each
record Lists : Type 0 where
  owners : List (Option SpaceNo)
  aims : List (Option SpaceNo)
  lines : List (Option ℕ)
  marks : List Bool
  running : List (Option ActNo)
  taken : List (List ActNo)
  untold : List (List Note)

abbrev lists_of : Readings → Lists
lists_of r = record {
  owners = r.state.owners;
  aims = r.aims;
  lines = r.lines;
  marks = r.marks;
  running = r.running;
  taken = r.taken;
  untold = r.untold;
}

record AreAsLong (a b : Lists) : Type 0 where
  owners : length b.owners ≡ length a.owners
  aims : length b.aims ≡ length a.aims
  lines : length b.lines ≡ length a.lines
  marks : length b.marks ≡ length a.marks
  running : length b.running ≡ length a.running
  taken : length b.taken ≡ length a.taken
  untold : length b.untold ≡ length a.untold

same : (a : Lists) → AreAsLong a a
same a = record { owners = refl; aims = refl; lines = refl; marks = refl; running = refl; taken = refl; untold = refl }

still : (m n : Seen) → n.workload ≡ m.workload → AreAsLong (lists_of m.readings) (lists_of n.readings) → IsListed m → IsListed n
still m n workload long is =
    let processors : m.workload.processors ≡ n.workload.processors = ap (λ (w : WorkloadView). w.processors) (sym workload) in
    let spaces : length m.workload.spaces ≡ length n.workload.spaces = ap (λ (w : WorkloadView). length w.spaces) (sym workload) in
    record {
      owners = long.owners ∙ is.owners ∙ processors;
      aims = long.aims ∙ is.aims ∙ processors;
      lines = long.lines ∙ is.lines ∙ processors;
      marks = long.marks ∙ is.marks ∙ processors;
      running = long.running ∙ is.running ∙ processors;
      taken = long.taken ∙ is.taken ∙ spaces;
      untold = long.untold ∙ is.untold ∙ spaces;
    }

-- a thread that is put elsewhere moves no processor
as_many : (a : State) (s : SpaceNo) (t : Option ThreadNo) (place : Place) → length (placed_if a s t place).owners ≡ length a.owners
as_many a s t place = ap length (placed-owners a s t place)

told-long : (untold : List (List Note)) (n : Note) → length (without_note untold n) ≡ length untold
told-long untold n = length-map untold (filter (is_other_note n))

kept : (w : WorkloadView) (e : ℕ) (p : ProcNo) (r : Readings) (x : Record) → AreAsLong (lists_of r) (lists_of (after_record w e p r x))
kept w e p r (Stop s t a) = record {
  owners = as_many r.state s t _;
  aims = refl;
  lines = refl;
  marks = refl;
  running = length-set r.running p.0 _;
  taken = refl;
  untold = length-set r.untold s.0 _;
}
kept w e p r (Block s t a io) = record {
  owners = as_many r.state s t _;
  aims = refl;
  lines = refl;
  marks = refl;
  running = length-set r.running p.0 _;
  taken = refl;
  untold = length-set r.untold s.0 _;
}
kept w e p r (Unblock s t a) = record {
  owners = as_many r.state s t _;
  aims = refl;
  lines = refl;
  marks = refl;
  running = refl;
  taken = refl;
  untold = length-set r.untold s.0 _;
}
kept w e p r (Cont s t) = record { owners = as_many r.state s t _; aims = refl; lines = refl; marks = refl; running = refl; taken = refl; untold = refl }
kept w e p r (Back s t) = record { owners = as_many r.state s t _; aims = refl; lines = refl; marks = refl; running = refl; taken = refl; untold = refl }
kept w e p r (Up s a) = record {
  owners = refl;
  aims = refl;
  lines = refl;
  marks = length-set r.marks p.0 _;
  running = length-set r.running p.0 _;
  taken = refl;
  untold = refl;
}
kept w e p r (Told (Add q)) = record { owners = refl; aims = refl; lines = refl; marks = refl; running = refl; taken = refl; untold = told-long r.untold _ }
kept w e p r (Told (Preempted a)) = record {
  owners = refl;
  aims = refl;
  lines = refl;
  marks = refl;
  running = refl;
  taken = with-length r.taken (space_of_life r (Some a)) a;
  untold = told-long r.untold _;
}
kept w e p r (Told (Blocked a)) = record { owners = refl; aims = refl; lines = refl; marks = refl; running = refl; taken = refl; untold = told-long r.untold _ }
kept w e p r (Told (Unblocked a)) = record {
  owners = refl;
  aims = refl;
  lines = refl;
  marks = refl;
  running = refl;
  taken = with-length r.taken (space_of_life r (Some a)) a;
  untold = told-long r.untold _;
}
kept w e p r (Move old new) = record {
  owners = length-set r.state.owners p.0 _;
  aims = refl;
  lines = refl;
  marks = refl;
  running = refl;
  taken = refl;
  untold = refl;
}
kept w e p r (Want s n) = record { owners = refl; aims = refl; lines = refl; marks = length-set r.marks p.0 _; running = refl; taken = refl; untold = refl }
kept w e p r (Aim q s) = record { owners = refl; aims = length-set r.aims q.0 _; lines = refl; marks = refl; running = refl; taken = refl; untold = refl }
kept w e p r (Line q) = record { owners = refl; aims = refl; lines = length-set r.lines q.0 _; marks = refl; running = refl; taken = refl; untold = refl }
kept w e p r (GiveBack a) = record {
  owners = refl;
  aims = refl;
  lines = refl;
  marks = refl;
  running = refl;
  taken = without-length r.taken (space_of_life r (Some a)) a;
  untold = refl;
}
kept w e p r _ = same (lists_of r)

-- before any record, where an event begins, after a record, and where an event ends
pub listed-opened : (rules : RulesName) (w : WorkloadView) → IsListed (opened rules w)
listed-opened rules w = record {
  owners = length-replicate w.processors None;
  aims = length-replicate w.processors None;
  lines = length-replicate w.processors None;
  marks = length-replicate w.processors false;
  running = length-replicate w.processors None;
  taken = length-replicate (length w.spaces) [];
  untold = length-replicate (length w.spaces) [];
}

pub listed-behind : (number : ℕ) (p : ProcNo) (x : Record) (m : Seen) → IsListed m → IsListed (behind_record number p x m)
listed-behind number p x m is = still m (behind_record number p x m) refl (kept m.workload number p m.readings x) is

-- a record that changes nothing but which record comes directly before the next
pub nothing-changed : (number : ℕ) (p : ProcNo) (x : Record) (m : Seen) → changes_nothing x ≡ true → passing x m ≡ behind_record number p x m
nothing-changed number p Idle m is = refl
nothing-changed number p (Spin l) m is = refl
nothing-changed number p Tick m is = refl
nothing-changed number p _ m is = cc
