-- One that has made its steps gives way to the first of the queue.
use Rattle.std.proofs.Common.{◌≡◌, ℕ, ◌<◌, true, List, [], ◌∷◌, ◌++◌, append_assoc, get_or, set, Option, Some, None, refl, sym, ap, ◌∙◌, arith}
use Rattle.std.specs.Prelude.{All, slice_get}
use Rattle.std.proofs.lemmas.List.{length-set, get_or-set_other, map-append}
use Rattle.std.proofs.lemmas.List.Elements.{All-head}
use Rattle.sa_base.specs.declared.number.ProcNo.{ProcNo}
use Rattle.sa_base.specs.declared.number.SpaceNo.{SpaceNo}
use Rattle.sa_base.specs.declared.number.ThreadNo.{ThreadNo}
use Rattle.sa_base.specs.declared.number.ActNo.{ActNo}
use Rattle.sa_base.specs.declared.record.Record.{Record}
use Rattle.sa_base.specs.declared.record.Record.TheVariants as rec
use Rattle.sa_base.specs.declared.record.Item.{Item}
use Rattle.sa_spaces.specs.Workload.{WorkloadView}
use Rattle.sa_lemmas.specs.Function.{put}
use Rattle.sa_laws.specs.declared.place.Place.TheVariants as places
use Rattle.sa_laws.specs.State.{State, owner_at, placed_if}
use Rattle.sa_laws.specs.Life.{with_cont}
use Rattle.sa_laws.specs.Record.{with_life, stopped_with}
use Rattle.sa_virtual.specs.Virtual.{Virtuals, space_of, thread_of, placed_on}
use Rattle.sa_virtual.specs.Turn.{Turned, placing, stopped, some_wait}
use Rattle.sa_virtual.specs.Holding.{threads_of}
use Rattle.sa_virtual.specs.Turning.{Good}
use Rattle.sa_virtual.proofs.Kept.{threads_new}
use Rattle.sa_virtual.proofs.MoreTurns.{same_owners, quiet_set, differs}
use Rattle.sa_vp_model.specs.declared.limits.TheConstants.{VIRTUALS}
use Rattle.sa_vp_model.specs.Board.{Board, act_numbers, said}
use Rattle.sa_vp_model.specs.Turn.{continued, stops, gives_way}
use Rattle.sa_vp_model.specs.Mirror.{Own, Mirrors}
use Rattle.sa_vp_model.proofs.Fitting.{fit, ready-of, work-of, blocked-of}
use Rattle.sa_vp_model.proofs.Tables.{table_put}
use Rattle.sa_vp_model.proofs.Follows.{Follows}
use Rattle.sa_vp_model.proofs.Placed.{zero_most, item, restarted, queue_of}

module _ (w : WorkloadView) (p : ProcNo) (v : Virtuals) (good : Good w v) (x : Own) (fits : Mirrors w v x) (a : ActNo) (at : placed_on v p ≡ Some a)
    (within : a.0 < VIRTUALS)
    (t : Option ThreadNo) where
  abbrev s : SpaceNo
  s = space_of a

  abbrev stop : Record
  stop = rec.Stop s t a

  -- what it does
  abbrev gives : List ActNo → Board
  gives q = gives_way p a (slice_get (act_numbers q) 0) (stops p a t (queue_of w v x (act_numbers q)))

  module _ (first : ActNo) (rest : List ActNo) (queue : v.queue ≡ first ∷ rest) (small : first.0 < VIRTUALS) where
    abbrev now : State
    now = placed_if v.base.state s t places.Carried

    owner : owner_at now p ≡ Some s
    owner = ap (λ owners. get_or owners p.0 None) (same_owners v.base.state s t) ∙ (good.stands.holds.fits p).owned a at

    held : get_or (set x.threads a.0 t) first.0 None ≡ thread_of v first
    held = get_or-set_other x.threads a.0 first.0 t None (differs w p v good a at first rest queue) ∙ ap (λ (f : ℕ → Option ThreadNo). f first.0) fits.threads

    abbrev move : Record
    move = rec.Move (Some s) (Some (space_of first))

    abbrev said' : List Item
    said' = (x.items ++ item v p stop ∷ []) ++ item v p move ∷ []

    abbrev own : List Item → Own
    own items = record x { threads = set x.threads a.0 t; steps = set x.steps first.0 0; items = items }

    -- with this owner before, this thread, and this queue
    abbrev made : Option SpaceNo → List ℕ → Option ThreadNo → Board
    made o qs u =
        continued p (space_of first) u (said p (rec.Move o (Some (space_of first))) (record (queue_of w v x qs) {
          state = now;
          items = x.items ++ item v p stop ∷ [];
          threads = set x.threads a.0 t;
          placed = set v.placed p.0 (Some first);
          steps = set x.steps first.0 0;
        }))

    abbrev turn : Option ThreadNo → Turned
    turn u = placing p (Some s) u first (stop ∷ []) (rest ++ a ∷ []) v

    goes : (u : Option ThreadNo) → thread_of v first ≡ u → gives v.queue ≡ made (Some s) (act_numbers (rest ++ a ∷ [])) u
    goes u is =
        ap gives queue ∙ ap (λ o. made o (act_numbers rest ++ a.0 ∷ []) (get_or (set x.threads a.0 t) first.0 None)) owner
        ∙ ap (made (Some s) (act_numbers rest ++ a.0 ∷ [])) (held ∙ is)
        ∙ ap (λ qs. made (Some s) qs u) (sym (map-append (λ (b : ActNo). b.0) rest (a ∷ [])))

    threads : (λ b. get_or (set x.threads a.0 t) b None) ≡ threads_of (with_life (stopped_with t) (Some a) v.base.lives)
    threads =
        table_put x.threads a.0 t None (omega (arith, within, fits.many_threads)) ∙ ap (λ f. put f a.0 t) fits.threads
        ∙ sym (threads_new w (stopped_with t) a v.base.lives t good.stands.holds.lives (λ life. refl))

    follows : (u : Option ThreadNo) → thread_of v first ≡ u → Follows w p v (turn u) x (gives v.queue)
    follows None is = record {
      own = own said';
      is = goes None is;
      fits = fit (threads, length-set x.threads a.0 t ∙ fits.many_threads) (restarted w v x fits first small)
          (ready-of fits) (work-of fits) (blocked-of fits) fits.numbered fits.many_lost fits.many_pages;
      lost = refl;
      items = append_assoc x.items (item v p stop ∷ []) (item v p move ∷ []);
      io_count = omega arith;
      steps = λ b. zero_most x.steps first.0 b;
      blocked = λ r. omega arith;
      due = omega arith;
    }
    follows (Some u) is = record {
      own = own (said' ++ item v p (rec.Cont (space_of first) (Some u)) ∷ []);
      is = goes (Some u) is;
      fits = fit (
        threads ∙ sym (ap (λ o. threads_of (with_life (with_cont true) o (with_life (stopped_with t) (Some a) v.base.lives)))
            (quiet_set v.base.running p good.quiet p)),
        length-set x.threads a.0 t ∙ fits.many_threads,
      )
          (restarted w v x fits first small) (ready-of fits) (work-of fits) (blocked-of fits) fits.numbered
          fits.many_lost fits.many_pages;
      lost = refl;
      items = ap (λ is. is ++ item v p (rec.Cont (space_of first) (Some u)) ∷ []) (append_assoc x.items (item v p stop ∷ []) (item v p move ∷ []))
          ∙ append_assoc x.items (item v p stop ∷ item v p move ∷ []) (item v p (rec.Cont (space_of first) (Some u)) ∷ []);
      io_count = omega arith;
      steps = λ b. zero_most x.steps first.0 b;
      blocked = λ r. omega arith;
      due = omega arith;
    }

  pub relieved : (q : List ActNo) → v.queue ≡ q → some_wait q ≡ true → All (λ (b : ActNo). b.0 < VIRTUALS) q
      → Follows w p v (stopped v p a t q) x (gives v.queue)
  relieved [] is some small = cc
  relieved (first ∷ rest) is some small = follows first rest is (All-head (λ (b : ActNo). b.0 < VIRTUALS) first rest small) (thread_of v first) refl
