-- The first of the queue is placed, where the processor has none.
use Rattle.std.proofs.Common.{◌≡◌, ℕ, ◌<◌, ◌≤◌, List, [], ◌∷◌, ◌++◌, append_assoc, true, length, get_or, set, Option, Some, None, inl, inr, refl, sym, ap, subst, ◌∙◌, arith}
use Rattle.std.proofs.lemmas.Bool.{cases_eq, cases_lt}
use Rattle.std.proofs.lemmas.List.{length-set, get_or-set_same, get_or-set_other, get_or_past}
use Rattle.std.specs.Prelude.{All, slice_get}
use Rattle.std.proofs.lemmas.List.Elements.{All-head}
use Rattle.sa_base.specs.declared.number.ProcNo.{ProcNo}
use Rattle.sa_base.specs.declared.number.SpaceNo.{SpaceNo}
use Rattle.sa_base.specs.declared.number.ThreadNo.{ThreadNo}
use Rattle.sa_base.specs.declared.number.ActNo.{ActNo}
use Rattle.sa_base.specs.declared.record.Record.{Record}
use Rattle.sa_base.specs.declared.record.Record.TheVariants as rec
use Rattle.sa_base.specs.declared.record.Item.{Item}
use Rattle.sa_spaces.specs.Workload.{WorkloadView}
use Rattle.sa_lemmas.specs.Function.{put}
use Rattle.sa_laws.specs.State.{owner_at}
use Rattle.sa_laws.specs.Life.{with_cont}
use Rattle.sa_laws.specs.Record.{with_life}
use Rattle.sa_virtual.specs.Virtual.{Virtuals, space_of, thread_of}
use Rattle.sa_virtual.specs.Turn.{Turned, placing, placed_first}
use Rattle.sa_virtual.specs.Holding.{threads_of}
use Rattle.sa_virtual.specs.Turning.{Good}
use Rattle.sa_vp_model.specs.declared.limits.TheConstants.{VIRTUALS}
use Rattle.sa_vp_model.specs.Board.{Board, act_numbers, said}
use Rattle.sa_vp_model.specs.Turn.{continued, places, places_first}
use Rattle.sa_vp_model.specs.Mirror.{Own, board_of, Mirrors}
use Rattle.sa_vp_model.proofs.Fitting.{StepsFit, fit, threads-of, steps-of, ready-of, work-of, blocked-of}
use Rattle.sa_vp_model.proofs.Tables.{table_put}
use Rattle.sa_vp_model.proofs.Follows.{Follows}

-- a place that is set to 0 is no more than it was
pub zero_most : (xs : List ℕ) (i k : ℕ) → get_or (set xs i 0) k 0 ≤ get_or xs k 0
zero_most xs i k = elim (cases_eq k i) [
  | inl e ↦ elim (cases_lt i (length xs)) [
    | inl within ↦ let there : get_or (set xs i 0) k 0 ≡ 0 = ap (λ n. get_or (set xs i 0) n 0) e ∙ get_or-set_same xs i 0 0 within in omega (arith, there)
    | inr past ↦ let none : get_or (set xs i 0) k 0 ≡ 0 = get_or_past (set xs i 0) k 0 (omega (arith, past, e, length-set xs i 0)) in omega (arith, none)
  ]
  | inr ne ↦ let same : get_or (set xs i 0) k 0 ≡ get_or xs k 0 = get_or-set_other xs i k 0 0 ne in omega (arith, same)
]

abbrev pub item : Virtuals → ProcNo → Record → Item
item v p what = record { event = v.base.number; proc = p; what = what }

-- one that is placed begins to count its steps
pub restarted : (w : WorkloadView) (v : Virtuals) (x : Own) → Mirrors w v x → (a : ActNo) → a.0 < VIRTUALS
    → StepsFit (record v { steps = put v.steps a.0 0 }) (record x { steps = set x.steps a.0 0 })
restarted w v x fits a within = (
  table_put x.steps a.0 0 0 (omega (arith, within, fits.many_steps)) ∙ ap (λ f. put f a.0 0) fits.steps,
  length-set x.steps a.0 0 ∙ fits.many_steps,
)

-- the board with this queue
abbrev pub queue_of : WorkloadView → Virtuals → Own → List ℕ → Board
queue_of w v x qs = record (board_of w v x) { queue = record { nodes = VIRTUALS; lists = qs ∷ [] } }

module _ (w : WorkloadView) (p : ProcNo) (v : Virtuals) (good : Good w v) (x : Own) (fits : Mirrors w v x) where
  held : (a : ActNo) → get_or x.threads a.0 None ≡ thread_of v a
  held a = ap (λ (f : ℕ → Option ThreadNo). f a.0) fits.threads

  module _ (a : ActNo) (rest : List ActNo) (within : a.0 < VIRTUALS) where
    abbrev s : SpaceNo
    s = space_of a

    abbrev move : Record
    move = rec.Move (owner_at v.base.state p) (Some s)

    abbrev own : List Item → Own
    own items = record x { steps = set x.steps a.0 0; items = items }

    abbrev before : Board
    before = record (queue_of w v x (act_numbers rest)) { placed = set v.placed p.0 (Some a); steps = set x.steps a.0 0 }

    abbrev turn : Option ThreadNo → Turned
    turn t = placing p (owner_at v.base.state p) t a [] rest v

    goes_on_with : (t : Option ThreadNo) → thread_of v a ≡ t → places p a (queue_of w v x (act_numbers rest)) ≡ continued p s t (said p move before)
    goes_on_with t is = ap (λ u. continued p s u (said p move before)) (held a ∙ is)

    pub placed_with : (t : Option ThreadNo) → thread_of v a ≡ t → Follows w p v (turn t) x (places p a (queue_of w v x (act_numbers rest)))
    placed_with None is = record {
      own = own (x.items ++ item v p move ∷ []);
      is = goes_on_with None is;
      fits = fit (threads-of fits) (restarted w v x fits a within) (ready-of fits) (work-of fits) (blocked-of fits) fits.numbered fits.many_lost
          fits.many_pages;
      lost = refl;
      items = refl;
      io_count = omega arith;
      steps = λ b. zero_most x.steps a.0 b;
      blocked = λ r. omega arith;
      due = omega arith;
    }
    placed_with (Some t) is = record {
      own = own ((x.items ++ item v p move ∷ []) ++ item v p (rec.Cont s (Some t)) ∷ []);
      is = goes_on_with (Some t) is;
      fits = fit (fits.threads ∙ sym (ap (λ o. threads_of (with_life (with_cont true) o v.base.lives)) (good.quiet p)), fits.many_threads)
          (restarted w v x fits a within) (ready-of fits) (work-of fits) (blocked-of fits) fits.numbered fits.many_lost fits.many_pages;
      lost = refl;
      items = append_assoc x.items (item v p move ∷ []) (item v p (rec.Cont s (Some t)) ∷ []);
      io_count = omega arith;
      steps = λ b. zero_most x.steps a.0 b;
      blocked = λ r. omega arith;
      due = omega arith;
    }

  -- whoever is first
  abbrev begins : List ActNo → Board
  begins q = places_first p (slice_get (act_numbers q) 0) (queue_of w v x (act_numbers q))

  pub places_it : (q : List ActNo) → v.queue ≡ q → All (λ (a : ActNo). a.0 < VIRTUALS) q → Follows w p v (placed_first v p q) x (begins v.queue)
  places_it [] is small = record {
    own = record x { items = x.items ++ item v p rec.Tick ∷ [] };
    is = ap begins is ∙ ap (λ q. said p rec.Tick (queue_of w v x (act_numbers q))) (sym is);
    fits = fit (threads-of fits) (steps-of fits) (ready-of fits) (work-of fits) (blocked-of fits) fits.numbered fits.many_lost
        fits.many_pages;
    lost = refl;
    items = refl;
    io_count = omega arith;
    steps = λ b. omega arith;
    blocked = λ r. omega arith;
    due = omega arith;
  }
  places_it (a ∷ rest) is small =
      subst (Follows w p v (placed_first v p (a ∷ rest)) x) (sym (ap begins is))
      (placed_with a rest (All-head (λ (b : ActNo). b.0 < VIRTUALS) a rest small) (thread_of v a) refl)
