-- A short run can be made.
use Rattle.std.proofs.Common.{◌≡◌, refl, ap, subst, Some, None, List, [], ◌∷◌, take, arith, true, false}
use Rattle.std.specs.Prelude.{Option, Bool, ◌&&◌, not}
use Rattle.std.proofs.lemmas.Option.{same_Some}
use Rattle.sa_base.specs.declared.number.SpaceNo.{SpaceNo}
use Rattle.sa_base.specs.declared.number.ActNo.{ActNo}
use Rattle.sa_devices.specs.Ios.{Io}
use Rattle.sa_devices.specs.declared.kind.IoKind.TheVariants.{Plain}
use Rattle.sa_kernel_model.specs.Entries.{io_for, after_fetch}
use Rattle.sa_laws.specs.Readings.{Readings}
use Rattle.sa_laws.specs.Record.{blocking, blocking_for, length_behind}
use Rattle.sa_laws.specs.History.{Test, after_event}
use Rattle.sa_base.specs.declared.record.Record.TheVariants.{Ins}
use Rattle.sa_kernel_model.specs.declared.entry.Entry.TheVariants as entry
use Rattle.sa_kernel_model.specs.State.{KernelState}
use Rattle.sa_kernel_model.specs.Opening.{opened}
use Rattle.sa_kernel_laws.specs.Turn.{Turn, turned, event_of, read_before_entry}
use Rattle.sa_kernel_laws.specs.Runs.{read_opening}
use Rattle.sa_kernel_laws.specs.Examples.{Blank, held, turn, s0, t0, act, small, short_run, ShortRunCanBeMade}

no-and : (b : Bool) → false ≡ (b && false)
no-and true = refl
no-and false = refl

block-for : (r : Readings) (s : SpaceNo) (a : ActNo) → Some s0 ≡ Some s → length_behind small r s0 (Some t0) r.last ≡ Some 3
    → blocking small r s (Some t0) a ≡ (record { kind = io_for s a None; length = 3 })
block-for r s a owner length =
    subst (λ u. blocking small r u (Some t0) a ≡ (record { kind = io_for u a None; length = 3 })) (same_Some s0 s owner)
    (ap (λ n. blocking_for small r s0 (Some t0) a n) length)

-- what is read before the block
abbrev state_behind : List (Option (Turn Blank)) → KernelState Blank → KernelState Blank
state_behind [] k = k
state_behind (None ∷ moves) k = state_behind moves (after_fetch k.telling k)
state_behind (Some t ∷ moves) k = state_behind moves (turned t k).state

abbrev reading_behind : Test → List (Option (Turn Blank)) → KernelState Blank → Readings → Readings
reading_behind test [] k r = r
reading_behind test (None ∷ moves) k r = reading_behind test moves (after_fetch k.telling k) r
reading_behind test (Some t ∷ moves) k r = reading_behind test moves (turned t k).state (after_event test small r (event_of t k))

abbrev before_block : Test → Readings
before_block test =
    let k = (opened {C = Blank} small).state in
    let moves = take 5 short_run in
    read_before_entry small (turn 5 (Ins s0 t0 0 ∷ []) 1 (Some (entry.Block held 3 None))) (state_behind moves k)
    (reading_behind test moves k (read_opening test small))

abbrev first_io : Io
first_io = record { number = 0; ends = 8; kind = Plain s0 (act 0) }

pub short-run : ShortRunCanBeMade
short-run test = (
  record {
    within = omega arith;
    later = omega arith;
    unused = refl;
    fetched = refl;
    fits = record { raised = refl; held = λ some. absurd (cc); owned = λ some. absurd (cc) };
    says = (refl, tt);
  },
  (
    record {
      within = omega arith;
      later = omega arith;
      unused = refl;
      fetched = refl;
      fits = record { space = s0; asks = record { owner = refl; low = refl }; some = omega arith };
      says = refl;
    },
    (
      record {
        within = omega arith;
        later = omega arith;
        unused = refl;
        fetched = refl;
        fits = record { space = s0; asks = record { owner = refl; low = refl }; some = omega arith; few = omega arith };
        says = refl;
      },
      (
        record { within = omega arith; later = omega arith; unused = tt; fetched = refl; fits = refl; says = ((λ is. cc), refl) },
        (
          record {
            within = omega arith;
            later = omega arith;
            unused = refl;
            fetched = refl;
            fits = record { space = s0; asks = record { owner = refl; low = refl }; page = tt };
            says = (refl, λ s a owner life. block-for (before_block test) s a owner refl);
          },
          (
            record {
              within = omega arith;
              later = omega arith;
              unused = refl;
              fetched = refl;
              fits = record { here = first_io; under_way = refl; low = refl };
              says = refl;
            },
            (
              record {
                within = omega arith;
                later = omega arith;
                unused = refl;
                fetched = refl;
                fits = record { raised = refl; held = λ some. refl; owned = λ some. refl };
                says = (refl, λ a life runs is. no-and (not life.inside));
              },
              tt,
            ),
          ),
        ),
      ),
    ),
  ),
)
