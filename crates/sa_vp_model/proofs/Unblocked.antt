-- An I/O is over.
use Rattle.std.proofs.Common.{◌≡◌, ℕ, ◌+◌, ◌-◌, ◌<◌, ◌≤◌, true, cond, eqb, List, [], ◌∷◌, ◌++◌, length, get_or, set, filter, Option, Some, None, inl, inr, refl, sym, ap, ◌∙◌, arith}
use Rattle.std.specs.Prelude.{find}
use Rattle.std.specs.Option.{option_map}
use Rattle.std.proofs.lemmas.Bool.{cases_eq, cases_lt, ne_eqb, eq-eqb, eqb-true}
use Rattle.std.proofs.lemmas.List.{length-set, get_or-set_same, get_or-set_other, get_or_past, map-append}
use Rattle.sa_base.specs.declared.number.ProcNo.{ProcNo}
use Rattle.sa_base.specs.declared.number.SpaceNo.{SpaceNo}
use Rattle.sa_base.specs.declared.number.ThreadNo.{ThreadNo}
use Rattle.sa_base.specs.declared.number.ActNo.{ActNo}
use Rattle.sa_base.specs.declared.record.Record.TheVariants as rec
use Rattle.sa_spaces.specs.Workload.{WorkloadView}
use Rattle.sa_devices.specs.declared.kind.IoKind.{IoKind}
use Rattle.sa_devices.specs.declared.kind.IoKind.TheVariants.{Plain, Page, Upcall}
use Rattle.sa_devices.specs.Ios.{Io, due_of, io_at, io_no, without}
use Rattle.sa_devices.specs.Pages.{completed}
use Rattle.sa_devices.proofs.SoundLemmas.{length-completed}
use Rattle.sa_laws.specs.declared.place.Place.TheVariants as places
use Rattle.sa_laws.specs.State.{placed_if}
use Rattle.sa_laws.specs.Life.{with_hand}
use Rattle.sa_laws.specs.Record.{is_io_of, is_io_of_other, is_kind_of, with_page, one_thread}
use Rattle.sa_virtual.specs.Virtual.{Virtuals, space_of, thread_of}
use Rattle.sa_virtual.specs.Turn.{of_io, unblocked}
use Rattle.sa_virtual.specs.Legal.{is_of, blocked_in}
use Rattle.sa_virtual.specs.Holding.{in_ios, is_virtual, one_where}
use Rattle.sa_virtual.specs.Turning.{Good}
use Rattle.sa_virtual.proofs.Sums as sums
use Rattle.sa_virtual.proofs.Kept.{threads_same}
use Rattle.sa_virtual.proofs.Turns.{IsAmong, due_among, own_kind}
use Rattle.sa_virtual.proofs.Sums.{one_or_none}
use Rattle.sa_vp_model.specs.declared.limits.TheConstants.{VIRTUALS}
use Rattle.sa_vp_model.specs.Board.{Board, act_numbers}
use Rattle.sa_vp_model.specs.Turn.{completes, completed_by, one_less}
use Rattle.sa_vp_model.specs.Mirror.{Own, board_of, Mirrors}
use Rattle.sa_vp_model.proofs.Fitting.{fit, steps-of, ready-of, work-of}
use Rattle.sa_vp_model.proofs.Ios.{due_found, over, IsOver, numbered_over}
use Rattle.sa_vp_model.proofs.Follows.{Follows, behind}

-- an I/O of a virtual processor counts for its space
pub counts_for : (s : ℕ) (a : ActNo) (k : IoKind) → is_kind_of a k ≡ true → one_where (is_of (record { 0 = s }) k) ≡ one_where (eqb (space_of a).0 s)
counts_for s a (Plain r b) is = ap (λ n. one_where (eqb (space_of (record { 0 = n })).0 s)) (eqb-true b.0 a.0 is)
counts_for s a (Page r b k) is = ap (λ n. one_where (eqb (space_of (record { 0 = n })).0 s)) (eqb-true b.0 a.0 is)
counts_for s a (Upcall r) is = cc

-- its space has one that is blocked
pub some_blocked : (v : Virtuals) (a : ActNo) → in_ios v.base.under_way a.0 ≡ 1 → 1 ≤ blocked_in v (record { 0 = (space_of a).0 })
some_blocked v a once =
    let s = (space_of a).0 in
    let less = sums.over (λ (y : Io). one_where (is_of (record { 0 = s }) y.kind)) a (one_where (eqb s s))
    (λ y of. counts_for s a y.kind of) v.base.under_way once in
    let one : one_where (eqb s s) ≡ 1 = ap one_where (eq-eqb s s refl) in
    omega (arith, less, one)

-- one less is no more
pub less_most : (xs : List ℕ) (i k : ℕ) → get_or (set xs i (get_or xs i 0 - 1)) k 0 ≤ get_or xs k 0 + 1
less_most xs i k = elim (cases_eq k i) [
  | inl e ↦ elim (cases_lt i (length xs)) [
    | inl within ↦
        let there : get_or (set xs i (get_or xs i 0 - 1)) k 0 ≡ get_or xs i 0 - 1 =
        ap (λ n. get_or (set xs i (get_or xs i 0 - 1)) n 0) e ∙ get_or-set_same xs i (get_or xs i 0 - 1) 0 within in
        let same : get_or xs k 0 ≡ get_or xs i 0 = ap (λ n. get_or xs n 0) e in omega (arith, there, same)
    | inr past ↦
        let none : get_or (set xs i (get_or xs i 0 - 1)) k 0 ≡ 0 =
        get_or_past (set xs i (get_or xs i 0 - 1)) k 0 (omega (arith, past, e, length-set xs i (get_or xs i 0 - 1))) in omega (arith, none)
  ]
  | inr ne ↦ let same : get_or (set xs i (get_or xs i 0 - 1)) k 0 ≡ get_or xs k 0 = get_or-set_other xs i k (get_or xs i 0 - 1) 0 ne in omega (arith, same)
]

module _ (w : WorkloadView) (p : ProcNo) (v : Virtuals) (good : Good w v) (x : Own) (fits : Mirrors w v x) (io : Io)
    (due : due_of v.base.number v.base.under_way ≡ Some io) where
  abbrev a : ActNo
  a = of_io io.kind

  abbrev s : SpaceNo
  s = space_of a

  abbrev ios : List Io
  ios = v.base.under_way

  among : IsAmong ios io
  among = due_among v.base.number ios io due good.stands.holds.ios

  once : in_ios ios a.0 ≡ 1
  once = omega (arith, among.1, good.stands.holds.once a.0, one_or_none (is_virtual w (record { 0 = a.0 })))

  at : io_at io.number ios ≡ Some io
  at = due_found v.base.number v.base.io_count ios io fits.numbered due

  gone : IsOver a io.number io ios
  gone = over a io.number io ios at (own_kind io.kind among.0) once

  abbrev own : Own
  own = record x {
    blocked = one_less x.blocked s;
    items = x.items ++ record { event = v.base.number; proc = p; what = rec.Unblock s (thread_of v a) a } ∷ [];
  }

  abbrev next : Virtuals
  next = behind w p v (unblocked v a)

  abbrev made : Option ThreadNo → List Io → List ℕ → List ℕ → Board
  made t us ps qs = record (board_of w v own) {
    state = placed_if v.base.state s t places.Carried;
    devices = record { ios = record { io_count = v.base.io_count; under_way = us; spare = x.spare }; pages = ps; evictions = w.evictions };
    queue = record { nodes = VIRTUALS; lists = qs ∷ [] };
    items = x.items ++ record { event = v.base.number; proc = p; what = rec.Unblock s t a } ∷ [];
  }

  held : get_or x.threads a.0 None ≡ thread_of v a
  held = ap (λ (f : ℕ → Option ThreadNo). f a.0) fits.threads

  same : completes p (io_no io) (board_of w v x) ≡ board_of w next own
  same =
      ap (λ o. completed_by p io.number (option_map (λ (y : Io). y.kind) o) (board_of w v x)) at
      ∙ ap (λ t. made t (without io.number ios) (completed io.kind v.base.pages) (act_numbers v.queue ++ a.0 ∷ [])) held
      ∙ ap (λ us. made (thread_of v a) us (completed io.kind v.base.pages) (act_numbers v.queue ++ a.0 ∷ [])) (sym gone.left)
      ∙ ap (λ o. made (thread_of v a) (filter (is_io_of_other a) ios) (with_page v.base.pages o) (act_numbers v.queue ++ a.0 ∷ [])) (sym gone.found)
      ∙ ap (λ qs. made (thread_of v a) (filter (is_io_of_other a) ios) (with_page v.base.pages (find (is_io_of a) ios)) qs)
      (sym (map-append (λ (b : ActNo). b.0) v.queue (a ∷ [])))

  blocked : (r : ℕ) → r < length w.spaces → get_or own.blocked r 0 ≡ blocked_in next (record { 0 = r })
  blocked r below =
      let was = fits.blocked r below in
      let less = sums.over (λ (y : Io). cond (is_of (record { 0 = r }) y.kind) 1 0) a (one_where (eqb s.0 r)) (λ y of. counts_for r a y.kind of) ios once in
      elim (cases_eq r s.0) [
        | inl e ↦
            let one : one_where (eqb s.0 r) ≡ 1 = ap one_where (eq-eqb s.0 r (sym e)) in
            let there : get_or own.blocked r 0 ≡ get_or x.blocked r 0 - 1 =
            ap (λ n. get_or (set x.blocked n (get_or x.blocked n 0 - 1)) r 0) (sym e)
            ∙ get_or-set_same x.blocked r (get_or x.blocked r 0 - 1) 0 (omega (arith, below, fits.many_blocked)) in
            omega (arith, was, less, one, there)
        | inr ne ↦
            let none : one_where (eqb s.0 r) ≡ 0 = ap one_where (ne_eqb s.0 r (λ e. ne (sym e))) in
            let there = get_or-set_other x.blocked s.0 r (get_or x.blocked s.0 0 - 1) 0 ne in
            omega (arith, was, less, none, there)
      ]

  pub unblocks : Follows w p v (unblocked v a) x (completes p (io_no io) (board_of w v x))
  unblocks = record {
    own = own;
    is = same;
    fits = fit
        (fits.threads ∙ sym (threads_same (with_hand (one_thread (thread_of v a))) a v.base.lives (λ life. refl)), fits.many_threads)
        (steps-of fits) (ready-of fits) (work-of fits)
        (blocked, length-set x.blocked s.0 (get_or x.blocked s.0 0 - 1) ∙ fits.many_blocked)
        (numbered_over v.base.io_count (is_io_of_other a) ios fits.numbered) fits.many_lost
        (ap (λ o. length (with_page v.base.pages o)) gone.found ∙ length-completed io.kind v.base.pages ∙ fits.many_pages);
    lost = refl;
    items = refl;
    io_count = omega arith;
    steps = λ b. omega arith;
    blocked = λ r. less_most x.blocked s.0 r;
    due = omega arith;
  }
