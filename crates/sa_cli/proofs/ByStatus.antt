-- What an answer says by its status, whatever the command is.
use Rattle.std.proofs.Common.{◌≡◌, ◌⊎◌, ℕ, List, Some, refl, sym, ap, ◌∙◌, subst, inl, inr}
use Rattle.std.specs.Prelude.{⊤, IfSome}
use Rattle.sa_io.specs.Faults.{HasRisen}
use Rattle.sa_spaces.specs.Workload.{WorkloadView}
use Rattle.sa_cli.specs.declared.outcome.Status.{Status}
use Rattle.sa_cli.specs.declared.outcome.Status.TheVariants.{BadWorkload, ReadFault, WriteFault, OutOfMemory}
use Rattle.sa_base.specs.declared.refusal.Bad.{Bad}
use Rattle.sa_input.specs.Refusals.{Badness, IsInputRefused}
use Rattle.sa_cli.specs.Input.{Texts, GaveText}
use Rattle.sa_cli.specs.Refusals.{IsRefused}
use Rattle.sa_cli.specs.Answers.{World, TookAll, TookSome, Writes}
use Rattle.sa_cli.specs.Complete.{NoReadFailed, NoWriteFailed, Takes, Refuses}
use Rattle.sa_cli.proofs.Inputs.{AreParted, told-is, told-not_refused, told-refused_once, gave-not_refused}

-- a text was written whole, or cut by a fault
pub by-writes : (A : Status → Type 0) (old new : World) (text : List ℕ) (whole status : Status)
    → Writes old.taken new.taken old.writes new.writes text whole status → (TookAll old new text → A whole)
    → (HasRisen old.writes new.writes → TookSome old new text → A WriteFault) → A status
by-writes A old new text whole status (inl done) all some = subst A (sym done.0) (all done.1)
by-writes A old new text whole status (inr cut) all some = subst A (sym cut.0) (some cut.1 cut.2)

-- THE INPUT IS THE TEXT OF A WORKLOAD, or refused; with each other status the command is done
module _ (is_text : Texts) (is_bad : Badness) (Done : Status → Type 0) (old new : World) where
  abbrev pub Gave : Type 0
  Gave = (w : WorkloadView) × GaveText is_text old.left new.left w

  abbrev pub Says : Status → Type 0
  Says ReadFault = HasRisen old.reads new.reads
  Says (BadWorkload bad) = IsRefused is_bad old.left bad
  Says OutOfMemory = ⊤
  Says WriteFault = HasRisen old.writes new.writes × Gave
  Says other = Done other × Gave

  module _ (parted : AreParted is_text is_bad) where
    takes : (status : Status) → Says status → Takes is_text old new status (Done status)
    takes OutOfMemory said = λ input w told is short reads writes. inr refl
    takes (BadWorkload bad) said = λ input w told is short reads writes.
        absurd (told-not_refused is_text is_bad parted old.left input w bad told is short said)
    takes ReadFault said = λ input w told is short reads writes. absurd (reads said)
    takes WriteFault said = λ input w told is short reads writes. absurd (writes said.0)
    takes _ said = λ input w told is short reads writes. inl said.0

    none-refused : Gave → (input : List ℕ) (bad : Bad) → old.left ≡ Some input → IsInputRefused is_bad input bad → ⊥
    none-refused gave input bad told refused = gave-not_refused is_text is_bad parted old.left new.left gave.0 input bad told gave.1 refused

    refuses : (status : Status) → Says status → Refuses is_bad old new status
    refuses OutOfMemory said = λ input bad told refused reads. inr refl
    refuses (BadWorkload other) said = λ input bad told refused reads.
        inl (ap BadWorkload (told-refused_once is_text is_bad parted old.left input other bad told said refused))
    refuses ReadFault said = λ input bad told refused reads. absurd (reads said)
    refuses WriteFault said = λ input bad told refused reads. absurd (none-refused said.1 input bad told refused)
    refuses _ said = λ input bad told refused reads. absurd (none-refused said.1 input bad told refused)

    -- it is complete
    pub complete : (status : Status) → Says status → Takes is_text old new status (Done status) × Refuses is_bad old new status
    complete status said = (takes status said, refuses status said)

-- THE INPUT IS FOUND TO BE ONE THING, which has a status
module _ {A : Type 0} (Is : List ℕ → A → Type 0) (status_of : A → Status) where
  abbrev pub SaysFound : World → World → Status → Type 0
  SaysFound old new ReadFault = HasRisen old.reads new.reads
  SaysFound old new OutOfMemory = ⊤
  SaysFound old new WriteFault = HasRisen old.writes new.writes
  SaysFound old new other = (a : A) × (status_of a ≡ other) × IfSome old.left (λ whole. Is whole a)

  pub found-complete : ((input : List ℕ) (a b : A) → Is input a → Is input b → a ≡ b) → (old new : World) (status : Status) → SaysFound old new status
      → (input : List ℕ) (found : A) → old.left ≡ Some input → Is input found → NoReadFailed old new → NoWriteFailed old new
      → (status ≡ status_of found) ⊎ (status ≡ OutOfMemory)
  found-complete once old new OutOfMemory said input found told is reads writes = inr refl
  found-complete once old new ReadFault said input found told is reads writes = absurd (reads said)
  found-complete once old new WriteFault said input found told is reads writes = absurd (writes said)
  found-complete once old new _ said input found told is reads writes =
      inl (sym said.1 ∙ ap status_of (once input said.0 found (told-is (λ whole. Is whole said.0) old.left input told said.2) is))
