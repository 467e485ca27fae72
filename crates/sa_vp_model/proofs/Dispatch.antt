-- A processor can act on each board that is read.
use Rattle.std.proofs.Common.{◌≡◌, ℕ, ◌<◌, ◌≤◌, nat_le, List, [], ◌∷◌, slice_get, Option, Some, None, refl, sym, ap, subst, ◌∙◌, arith}
use Rattle.std.specs.Option.{option_map}
use Rattle.std.proofs.lemmas.Bool.{and_parts}
use Rattle.std.proofs.lemmas.Option.{same_Some}
use Rattle.sa_base.specs.declared.number.ProcNo.{ProcNo}
use Rattle.sa_base.specs.declared.number.ThreadNo.{ThreadNo}
use Rattle.sa_base.specs.declared.number.ActNo.{ActNo}
use Rattle.sa_base.specs.declared.number.IoNo.{IoNo}
use Rattle.sa_base.specs.declared.limits.TheConstants.{MAX_EVENTS}
use Rattle.sa_spaces.specs.Workload.{WorkloadView, IsWorkload}
use Rattle.sa_devices.specs.declared.kind.IoKind.{IoKind}
use Rattle.sa_devices.specs.Ios.{Io, due_of, io_at, io_no}
use Rattle.sa_virtual.specs.Virtual.{Virtuals, placed_on}
use Rattle.sa_virtual.specs.Turn as rules
use Rattle.sa_virtual.specs.Holding.{numbers}
use Rattle.sa_virtual.specs.Turning.{Good, HasRoom}
use Rattle.sa_vp_model.specs.Board.{Board, act_numbers}
use Rattle.sa_vp_model.specs.Turn.{act, after_evictions, thread}
use Rattle.sa_vp_model.specs.Mirror.{Own, board_of, Mirrors, IsBounded}
use Rattle.sa_vp_model.specs.Needs.{CanAct, CanStep, CanRunOn, CanReady, CanComeBack, CanPlaceOn}
use Rattle.sa_vp_model.specs.Run.{IsRead}
use Rattle.sa_vp_model.proofs.Ios.{due_found}
use Rattle.sa_vp_model.proofs.Main as main
use Rattle.sa_vp_model.proofs.Turns as turns
use Rattle.sa_vp_model.proofs.Safe as safe

module _ (w : WorkloadView) (valid : IsWorkload w) (v : Virtuals) (good : Good w v) (x : Own) (fits : Mirrors w v x) (p : ProcNo) (inside : p.0 < w.processors)
    (room : HasRoom v.base.state.spaces) (first : v.base.last ≡ None) (event : v.base.number ≤ MAX_EVENTS) (bounds : IsBounded v x) where
  -- an I/O that is due
  back : (o : Option Io) → due_of v.base.number v.base.under_way ≡ o → (n : IoNo) (reason : IoKind) → option_map io_no o ≡ Some n
      → option_map (λ (io : Io). io.kind) (io_at n.0 v.base.under_way) ≡ Some reason → CanComeBack p (rules.of_io reason) (board_of w v x)
  back None is n reason due found = cc
  back (Some io) is n reason due found =
      let number : io.number ≡ n.0 = ap (λ (m : IoNo). m.0) (same_Some _ _ due) in
      let at : io_at n.0 v.base.under_way ≡ Some io =
      ap (λ k. io_at k v.base.under_way) (sym number) ∙ due_found v.base.number v.base.io_count v.base.under_way io fits.numbered is in
      let same : io.kind ≡ reason = same_Some _ _ (sym (ap (option_map (λ (y : Io). y.kind)) at) ∙ found) in
      subst (λ k. CanComeBack p (rules.of_io k) (board_of w v x)) same (safe.comes_back w valid v good x fits p io is)

  -- the first of the queue
  places : placed_on v p ≡ None → (a : ℕ) → slice_get (act_numbers v.queue) 0 ≡ Some a → CanPlaceOn p (act a) (board_of w v x)
  places free a found = go v.queue refl found where
    go : (q : List ActNo) → v.queue ≡ q → slice_get (act_numbers q) 0 ≡ Some a → CanPlaceOn p (act a) (board_of w v x)
    go [] is e = cc
    go (b ∷ rest) is e = subst (λ n. CanPlaceOn p (act n) (board_of w v x)) (same_Some _ _ e) (safe.places_it w valid v good x fits p inside b rest free is)

  -- a step
  module _ (a : ActNo) (at : placed_on v p ≡ Some a) where
    abbrev now : Virtuals
    now = main.now w valid p inside v good x fits first room a at

    abbrev more : Own
    more = main.more w valid p inside v good x fits first room a at

    abbrev good' : Good w now
    good' = main.good' w valid p inside v good x fits first room a at

    fits' : Mirrors w now more
    fits' = main.fits' w valid p inside v good x fits first room a at

    reads : (ts : List ThreadNo) → v.work a.0 ≡ ts → (u : ℕ) → slice_get (numbers ts) 0 ≡ Some u → CanReady p a (thread u) (board_of w now more)
    reads [] work u found = cc
    reads (t ∷ ts) work u found =
        subst (λ n. CanReady p a (thread n) (board_of w now more)) (same_Some _ _ found) (safe.readies_it w valid now good' more fits' p a at t ts work)

    runs : (t : ThreadNo) → rules.carried_on v p ≡ Some t → CanRunOn p a t (board_of w now more)
    runs t carried = record {
      tabled = safe.tabled w valid now good' more fits';
      virtual = safe.is_virtual_here w valid now good' more fits' p a at;
      goes = safe.goes_it w valid now good' more fits' p a at room t carried bounds.due event;
      faults = safe.faults_it w valid now good' more fits' p a at room t carried event bounds.io_count bounds.blocked;
      blocks = safe.blocks_it w valid now good' more fits' p a at room t carried event bounds.io_count bounds.blocked;
    }

    pub steps : CanStep p a (board_of w v x)
    steps = record {
      tabled = safe.tabled w valid v good x fits;
      virtual = safe.is_virtual_here w valid v good x fits p a at;
      few = omega (arith, bounds.steps a.0, event);
      readies = λ u found. reads (v.work a.0) refl u (sym (ap (λ ys. slice_get ys 0) (safe.work_list w valid v good x fits p a at)) ∙ found);
      runs = runs;
      looks = safe.looks_it w valid now good' more fits' p a at;
    }

  pub acts : CanAct p (board_of w v x)
  acts = record {
    tabled = safe.tabled w valid v good x fits;
    inside = inside;
    back = back (due_of v.base.number v.base.under_way) refl;
    first = places;
    gives_way =
        λ a at turn. safe.gives_way w valid v good x fits p inside a at
        (and_parts (nat_le rules.quantum (v.steps a.0)) (rules.some_wait v.queue) (sym (main.turn_same w valid p inside v good x fits first room a) ∙ turn)).1;
    steps = steps;
  }

-- a board that is read can act at each turn
pub can_act : (w : WorkloadView) (p : ProcNo) (b : Board) → IsRead w b → p.0 < w.processors → b.number ≤ MAX_EVENTS → CanAct p (after_evictions b)
can_act w p b read inside few =
    subst (λ (c : Board). CanAct p (after_evictions c)) (sym read.is)
    (acts w read.valid (turns.now w p b read inside few) (turns.good w p b read inside few) read.own (turns.fits w p b read inside few) p inside
    (turns.room w p b read inside few) refl (omega (arith, few, turns.number_is w p b read inside few))
    (record { io_count = read.bounded.io_count; steps = read.bounded.steps; blocked = read.bounded.blocked; lost = read.bounded.lost; due = read.bounded.due }))
