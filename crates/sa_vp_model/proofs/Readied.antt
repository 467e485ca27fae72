-- The first thread of a work list becomes ready.
use Rattle.std.proofs.Common.{◌≡◌, ◌≢◌, ℕ, ◌+◌, ◌-◌, ◌*◌, ◌<◌, ◌≤◌, List, [], ◌∷◌, ◌++◌, append_assoc, length, drop, get_or, set, Option, Some, refl, sym, ap, ◌∙◌, arith}
use Rattle.std.proofs.lemmas.List.{get_or-set_same, get_or-set_other}
use Rattle.sa_base.specs.declared.number.ProcNo.{ProcNo}
use Rattle.sa_base.specs.declared.number.SpaceNo.{SpaceNo}
use Rattle.sa_base.specs.declared.number.ThreadNo.{ThreadNo}
use Rattle.sa_base.specs.declared.number.ActNo.{ActNo}
use Rattle.sa_base.specs.declared.limits.TheConstants.{MAX_PROCESSORS}
use Rattle.sa_base.specs.declared.record.Record.TheVariants as rec
use Rattle.sa_spaces.specs.Workload.{WorkloadView}
use Rattle.sa_lemmas.specs.Function.{put}
use Rattle.sa_lemmas.proofs.FunctionUpdates.{put-at, put-other}
use Rattle.sa_laws.specs.Life.{without_lock}
use Rattle.sa_laws.specs.Readings.{Listed}
use Rattle.sa_laws.specs.Record.{with_life, made_ready, locks}
use Rattle.sa_virtual.specs.Virtual.{Virtuals, space_of, list_of, placed_on, ready_of}
use Rattle.sa_virtual.specs.Turn.{pushed}
use Rattle.sa_virtual.specs.Holding.{threads_of, numbers, parts_of}
use Rattle.sa_virtual.specs.Turning.{Good}
use Rattle.sa_virtual.proofs.Pushed.{known, number_is, number_other}
use Rattle.sa_vp_model.specs.Board.{list_in, with_list_in}
use Rattle.sa_vp_model.specs.Turn.{readies}
use Rattle.sa_vp_model.specs.Mirror.{Own, board_of, Mirrors, AreLists, newest_first, rows}
use Rattle.sa_vp_model.proofs.Fitting.{fit, steps-of, blocked-of}
use Rattle.sa_vp_model.proofs.Tables.{lists_with, many_with, total_with, newest_own, newest_other}
use Rattle.sa_vp_model.proofs.Follows.{Follows}
use Rattle.sa_vp_model.proofs.Placed.{item}

-- no other place of this space, and none of another, has this number
pub number_else : (a : ActNo) (k : ℕ) → k ≢ (list_of a).0 → MAX_PROCESSORS * (space_of a).0 + k ≢ a.0
number_else a k ne is = absurd (ne (omega (arith, is, number_is a)))

module _ (w : WorkloadView) (p : ProcNo) (v : Virtuals) (good : Good w v) (x : Own) (fits : Mirrors w v x) (a : ActNo) (at : placed_on v p ≡ Some a)
    (few : w.processors ≤ MAX_PROCESSORS) where
  abbrev s : SpaceNo
  s = space_of a

  abbrev l : ProcNo
  l = list_of a

  pub inside : s.0 < length w.spaces
  inside = (known w (parts_of v) good.stands.runners good.stands.holds p a at).0

  pub within : l.0 < w.processors
  within = (known w (parts_of v) good.stands.runners good.stands.holds p a at).1

  -- its work list
  pub work_is : list_in x.work s l ≡ numbers (v.work a.0)
  work_is = (fits.work s.0 inside).each l.0 within ∙ ap (λ n. numbers (v.work n)) (sym (number_is a))

  -- its work list becomes another
  pub work_with : (ts : List ThreadNo) (ys : List ℕ) → ys ≡ numbers ts → (r : ℕ) → r < length w.spaces
      → AreLists w.processors (λ k. numbers (put v.work a.0 ts (MAX_PROCESSORS * r + k))) (rows (with_list_in x.work s l ys) r)
  work_with ts ys is = lists_with w.processors (length w.spaces) x.work s l ys fits.many_work inside within
      (λ r k. numbers (v.work (MAX_PROCESSORS * r + k))) (λ r k. numbers (put v.work a.0 ts (MAX_PROCESSORS * r + k))) fits.work
      (λ k e. is ∙ ap numbers (sym (put-at v.work a.0 (MAX_PROCESSORS * s.0 + k) ts (omega (arith, e, number_is a)))))
      (λ r k below ne. ap numbers (sym (put-other v.work a.0 (MAX_PROCESSORS * r + k) ts (number_other a r k ne (omega (arith, below, few))))))
      (λ k below ne. ap numbers (sym (put-other v.work a.0 (MAX_PROCESSORS * s.0 + k) ts (number_else a k ne))))

  module _ (t : Option ThreadNo) (first : ThreadNo) (others : List ThreadNo) (work : v.work a.0 ≡ first ∷ others) where
    abbrev listed : Listed
    listed = record { thread = first; list = l }

    old_work : list_in x.work s l ≡ first.0 ∷ numbers others
    old_work = work_is ∙ ap numbers work

    abbrev ready : List (List Listed)
    ready = set v.ready s.0 (ready_of v s ++ listed ∷ [])

    ready_here : get_or ready s.0 [] ≡ ready_of v s ++ listed ∷ []
    ready_here = get_or-set_same v.ready s.0 (ready_of v s ++ listed ∷ []) [] (omega (arith, inside, good.stands.holds.spaces))

    ready_with : (r : ℕ) → r < length w.spaces
        → AreLists w.processors (newest_first (get_or ready r [])) (rows (with_list_in x.ready s l (first.0 ∷ list_in x.ready s l)) r)
    ready_with = lists_with w.processors (length w.spaces) x.ready s l (first.0 ∷ list_in x.ready s l) fits.many_ready inside within
        (λ r. newest_first (get_or v.ready r [])) (λ r. newest_first (get_or ready r [])) fits.ready
        (λ k e. ap (λ ys. first.0 ∷ ys) ((fits.ready s.0 inside).each l.0 within) ∙ sym (newest_own (ready_of v s) listed l.0 refl)
        ∙ ap (newest_first (ready_of v s ++ listed ∷ [])) (sym e) ∙ ap (λ xs. newest_first xs k) (sym ready_here))
        (λ r k below ne. ap (λ xs. newest_first xs k) (sym (get_or-set_other v.ready s.0 r (ready_of v s ++ listed ∷ []) [] ne)))
        (λ k below ne. sym (newest_other (ready_of v s) listed k (λ e. ne (sym e))) ∙ ap (λ xs. newest_first xs k) (sym ready_here))

    abbrev own : Own
    own = record x {
      work = with_list_in x.work s l (drop 1 (list_in x.work s l));
      ready = with_list_in x.ready s l (first.0 ∷ list_in x.ready s l);
      due = x.due - 1;
      items = ((x.items ++ item v p (rec.Take s l t) ∷ []) ++ item v p (rec.Ready s first) ∷ []) ++ item v p (rec.Free s l t) ∷ [];
    }

    pub readied : Follows w p v (pushed v a t first others) x (readies p a t first (board_of w v x))
    readied = record {
      own = own;
      is = refl;
      fits = fit (
        fits.threads
            ∙ sym (ap (λ o. threads_of (with_life without_lock o (with_life (made_ready first) o (with_life (locks v.base p l t) o v.base.lives))))
            (good.quiet p)),
        fits.many_threads,
      )
          (steps-of fits)
          (ready_with, many_with w.processors (length w.spaces) x.ready s l (first.0 ∷ list_in x.ready s l) fits.many_ready inside within) (
            work_with others (drop 1 (list_in x.work s l)) (ap (drop 1) old_work),
            omega (
              arith,
              fits.due,
              total_with w.processors (length w.spaces) x.work s l (drop 1 (list_in x.work s l)) fits.many_work inside within (fits.work s.0 inside).many,
              ap length old_work,
              ap (λ ys. length (drop 1 ys)) old_work,
            ),
            many_with w.processors (length w.spaces) x.work s l (drop 1 (list_in x.work s l)) fits.many_work inside within,
          )
          (blocked-of fits) fits.numbered fits.many_lost fits.many_pages;
      lost = refl;
      items = ap (λ is. is ++ item v p (rec.Free s l t) ∷ []) (append_assoc x.items (item v p (rec.Take s l t) ∷ []) (item v p (rec.Ready s first) ∷ []))
          ∙ append_assoc x.items (item v p (rec.Take s l t) ∷ item v p (rec.Ready s first) ∷ []) (item v p (rec.Free s l t) ∷ []);
      io_count = omega arith;
      steps = λ b. omega arith;
      blocked = λ r. omega arith;
      due = omega arith;
    }
