-- The lists of what is read keep their lengths.
use Rattle.std.proofs.Common.{◌≡◌, ℕ, List, Option, Some, None, length, refl, ◌∙◌}
use Rattle.std.proofs.lemmas.List.{length-map, length-set}
use Rattle.std.proofs.lemmas.List.FromFn.{length-map-range_with_len}
use Rattle.sa_base.specs.declared.number.ActNo.{ActNo}
use Rattle.sa_base.specs.declared.number.ProcNo.{ProcNo}
use Rattle.sa_base.specs.declared.number.SpaceNo.{SpaceNo}
use Rattle.sa_base.specs.declared.record.Record.{Record}
use Rattle.sa_base.specs.declared.record.Record.TheVariants.{Up, Stop, Block, Want, Line}
use Rattle.sa_spaces.specs.Workload.{WorkloadView}
use Rattle.sa_assign.specs.Aims.{space_no}
use Rattle.sa_laws.specs.Readings.{Readings}
use Rattle.sa_laws.specs.Record.{running_after, demands_after, lines_after, with_act, without_act}
use Rattle.sa_laws.specs.Closing.{spaces_of, claim_of, claims_of}

pub running-length : (p : ProcNo) (running : List (Option ActNo)) (x : Record) → length (running_after p running x) ≡ length running
running-length p running (Up s a) = length-set running p.0 (Some a)
running-length p running (Stop s t a) = length-set running p.0 None
running-length p running (Block s t a io) = length-set running p.0 None
running-length p running x = refl

pub demands-length : (demands : List ℕ) (x : Record) → length (demands_after demands x) ≡ length demands
demands-length demands (Want s n) = length-set demands s.0 n
demands-length demands x = refl

pub lines-length : (e : ℕ) (lines : List (Option ℕ)) (x : Record) → length (lines_after e lines x) ≡ length lines
lines-length e lines (Line q) = length-set lines q.0 (Some e)
lines-length e lines x = refl

pub with-length : (taken : List (List ActNo)) (s : Option SpaceNo) (a : ActNo) → length (with_act taken s a) ≡ length taken
with-length taken None a = refl
with-length taken (Some s) a = length-set taken s.0 _

pub without-length : (taken : List (List ActNo)) (s : Option SpaceNo) (a : ActNo) → length (without_act taken s a) ≡ length taken
without-length taken None a = refl
without-length taken (Some s) a = length-set taken s.0 _

pub claims-length : (w : WorkloadView) (r : Readings) → length (claims_of w r) ≡ length w.spaces
claims-length w r = length-map (spaces_of w) (claim_of w r) ∙ length-map-range_with_len space_no 0 (length w.spaces)
