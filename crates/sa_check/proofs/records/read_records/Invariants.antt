use Rattle.std.proofs.Common.{◌≡◌, ◌↔◌, ◌<◌, drop, take}
use Rattle.std.specs.Prelude.{IsTrue}
use Rattle.sa_laws.specs.Shape.{before_aims, before_wants, front_part, own_part}
use Rattle.sa_laws.specs.Upcalls.{TellsOnce, NamesTheLife, TellsAllThen, GivesUpcallThen, RaisesLine}
use Rattle.sa_check_moment.specs.Seen.{seen}
use Rattle.sa_check.specs.Items.{told_event}
use Rattle.sa_check.specs.Places.{WantsAreDue, AimsAreDue, LinesAreDue, urged_at}
use Rattle.sa_check.specs.Records.{behind_some}
use Rattle.sa_check.proofs.RecordLemmas.{Rest, StepsRest}
use Rattle.sa_check.proofs.records.read_records.Given as goal

-- what was found so far and what holds of the rest is what holds of all; what is due was found where its place is past
abbrev pub invariant-loop-i : goal.invariant-loop-i
invariant-loop-i l =
    let m = seen l.fn.moment in
    let e = told_event l.fn.event in
    let rest = drop l.i l.records in
    record {
      moment : seen l.now ≡ behind_some m e (take l.i l.records);
      steps : StepsRest (seen l.now) m e rest;
      told_once : Rest TellsOnce (seen l.now) m e rest l.laws.told_once;
      named : Rest (NamesTheLife e.proc) (seen l.now) m e rest l.laws.named;
      all_told : Rest (TellsAllThen e.proc) (seen l.now) m e rest l.laws.all_told;
      upcall_given : Rest (GivesUpcallThen e.proc) (seen l.now) m e rest l.laws.upcall_given;
      heard : Rest RaisesLine (seen l.now) m e rest l.laws.heard;
      wants : l.places.wants < l.i → (IsTrue l.due.wants ↔ WantsAreDue (behind_some m e (before_wants e.records)) e);
      aims : l.places.aims < l.i → (IsTrue l.due.aims ↔ AimsAreDue (behind_some m e (before_aims e.records)) e);
      urged : l.places.own < l.i → (IsTrue l.due.urged ↔ IsTrue (urged_at (behind_some m e (own_part e.records)) l.fn.running));
      lines : l.places.lines < l.i → (IsTrue l.due.lines ↔ LinesAreDue (behind_some m e (front_part e.records)) e);
    }
