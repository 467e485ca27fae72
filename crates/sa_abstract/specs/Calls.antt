-- The calls of a user level as functions.
use Rattle.std.specs.Prelude.{ℕ, Bool, Option, List}
use Rattle.sa_base.specs.declared.number.ThreadNo.{ThreadNo}
use Rattle.sa_base.specs.declared.context.Seen.{Seen}
use Rattle.sa_base.specs.declared.context.Stopped.{Stopped}
use Rattle.sa_base.specs.declared.record.Note.{Note}
use Rattle.sa_base.specs.declared.record.Record.{Record}
use Rattle.sa_abstract.specs.declared.answer.SeatState.{SeatState}
use Rattle.sa_abstract.specs.declared.answer.Step.{Step}
use Rattle.sa_abstract.specs.declared.answer.Tally.{Tally}
use Rattle.sa_abstract.specs.Setting.{Setting}

-- what a step does: the value and the context afterwards, the records that it adds, and what it asks for
pub record Stepped (U C : Type 0) : Type 0 where
  pub user : U
  pub ctx : C
  pub says : List Record
  pub answer : Step

-- what a run of local instructions does: as a step, with one record an event
pub record Gone (U C : Type 0) : Type 0 where
  pub user : U
  pub ctx : C
  pub says : List Record

pub record Calls (U C : Type 0) : Type 0 where
  pub started : Setting → U
  pub begun : U → Seen → U × C
  pub told : U → C → Note → Option (Stopped C) → U × C
  pub answered : U → Seen → C → U × C
  pub stepped : U → Seen → C → Stepped U C
  pub went : U → Seen → C → ℕ → Gone U C
  pub thread : U → C → Option ThreadNo
  pub idle : U → C → Bool
  pub owes : U → C → Bool
  pub in_section : U → C → Option ℕ
  pub local : U → C → SeatState
  pub tally : U → Tally

-- the contexts of a space's activations that run, or were stopped or blocked and not yet handed over, by their numbers
abbrev pub Contexts : Type 0 → Type 0
Contexts C = ℕ → Option C
