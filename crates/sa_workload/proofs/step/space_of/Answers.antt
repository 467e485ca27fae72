use Rattle.std.proofs.Common.{◌≡◌, Option, Some, None, sym, ap, ◌∙◌, arith}
use Rattle.std.specs.Prelude.{SomeIff}
use Rattle.sa_lemmas.proofs.Options.{there-where}
use Rattle.sa_spaces.specs.Space.{SpaceView, IsSpace}
use Rattle.sa_workload.specs.Steps.{space_of_draft}
use Rattle.sa_workload.specs.Stage.{draft_of}
use Rattle.sa_workload.proofs.step.space_of.Goals as goal

-- what is there exactly where something holds is what it then is
is_that : {T : Type 0} (o : Option T) (P : Type 0) (v x : T) → SomeIff o P v → o ≡ Some x → x ≡ v
is_that None P v x iff some = absurd cc
is_that (Some y) P v x iff some = let same : y ≡ x = cc in sym same ∙ iff.1

-- a space has every patience that it may have
impatient : (s : SpaceView) → IsSpace s → IsSpace (record s { patience = 1 })
impatient s is = record {
  priority = is.priority;
  mutexes = is.mutexes;
  sems = is.sems;
  starts = is.starts;
  cells = is.cells;
  pages = is.pages;
  absent_rise = is.absent_rise;
  some_program = is.some_program;
  few_programs = is.few_programs;
  programs = is.programs;
  names = is.names;
  patient = omega arith;
  patience = omega arith;
}

pub unwrap-requires : goal.unwrap-requires
unwrap-requires c = there-where c.new.result _ _ c.new.ensures (impatient (space_of_draft (draft_of c.args.draft)) c.requires)

pub unwrap-requires-2 : goal.unwrap-requires-2
unwrap-requires-2 c = there-where c.with_patience.result _ _ c.with_patience.ensures (c.requires.patient, c.requires.patience)

pub returns : goal.returns
returns c =
    is_that c.with_patience.result _ _ _ c.with_patience.ensures c.unwrap-2.ensures
    ∙ ap (λ (s : SpaceView). record s { patience = c.args.draft.patience }) (is_that c.new.result _ _ _ c.new.ensures c.unwrap.ensures)
