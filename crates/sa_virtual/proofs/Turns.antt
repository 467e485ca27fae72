-- The four kinds of turn, each from where everything holds.
use Rattle.std.proofs.Common.{◌≡◌, ℕ, ◌<◌, ◌≤◌, Bool, true, false, cond, List, [], ◌∷◌, get_or, set, Option, Some, None, inl, inr, ◌⊎◌, refl, sym, ap, subst, ◌∙◌, arith}
use Rattle.std.specs.Prelude.{All, nat_le}
use Rattle.std.specs.Option.{option_map}
use Rattle.std.proofs.lemmas.Bool.{eq-eqb}
use Rattle.std.proofs.lemmas.Option.{same_Some}
use Rattle.std.proofs.lemmas.List.Elements.{All-head, All-tail}
use Rattle.std.proofs.lemmas.List.Sums.{sum_by-cons}
use Rattle.sa_base.specs.declared.number.ProcNo.{ProcNo}
use Rattle.sa_base.specs.declared.number.SpaceNo.{SpaceNo}
use Rattle.sa_base.specs.declared.number.ThreadNo.{ThreadNo}
use Rattle.sa_base.specs.declared.number.ActNo.{ActNo}
use Rattle.sa_base.specs.declared.limits.TheConstants.{MAX_PROCESSORS}
use Rattle.sa_spaces.specs.Workload.{WorkloadView}
use Rattle.sa_devices.specs.Ios.{Io, due_of, sooner_of, is_sooner}
use Rattle.sa_devices.specs.declared.kind.IoKind.{IoKind}
use Rattle.sa_devices.specs.declared.kind.IoKind.TheVariants.{Plain, Page, Upcall}
use Rattle.sa_laws.specs.declared.place.Place.TheVariants as places
use Rattle.sa_laws.specs.State.{Runner, owner_at, runner_on, runner_of, with_owner}
use Rattle.sa_laws.specs.Life.{Life, with_cont, without_lock, with_first, ran}
use Rattle.sa_laws.specs.Readings.{Listed}
use Rattle.sa_laws.specs.Record.{with_life, made_ready, locks, is_kind_of, is_io_of}
use Rattle.sa_replay.specs.Index.{runner_at}
use Rattle.sa_replay.proofs.IndexLemmas.{runner, index-finds}
use Rattle.sa_virtual.specs.Virtual.{Virtuals, space_of, list_of, placed_on, thread_of}
use Rattle.sa_virtual.specs.Turn.{of_io, unblocked, placing, placed_first, pushed, taken_from, carried_on}
use Rattle.sa_virtual.specs.Holding.{parts_of, Holds, IsOwn, in_ios, is_virtual, one_where, listed}
use Rattle.sa_virtual.specs.Turning.{IsQuiet, Good, Met}
use Rattle.sa_virtual.proofs.Room.{weaker, put_event}
use Rattle.sa_virtual.proofs.Unblocked as over
use Rattle.sa_virtual.proofs.PlacedOn as on
use Rattle.sa_virtual.proofs.Pushed as push
use Rattle.sa_virtual.proofs.Sums.{one_or_none}

-- 1. AN I/O IS OVER
pub own_kind : (k : IoKind) → IsOwn k → is_kind_of (of_io k) k ≡ true
own_kind (Plain s a) is = eq-eqb a.0 a.0 refl
own_kind (Page s a k) is = eq-eqb a.0 a.0 refl
own_kind (Upcall s) is = absurd is

-- the one that is due is one of those under way
pub sooner_one : (io : Io) (o : Option Io) → (sooner_of io o ≡ io) ⊎ (Some (sooner_of io o) ≡ o)
sooner_one io None = inl refl
sooner_one io (Some other) = go (is_sooner other io) where
  go : (b : Bool) → (cond b other io ≡ io) ⊎ (Some (cond b other io) ≡ Some other)
  go true = inr refl
  go false = inl refl

abbrev pub IsAmong : List Io → Io → Type 0
IsAmong ios io = IsOwn io.kind × (1 ≤ in_ios ios (of_io io.kind).0)

among_first : (x : Io) (xs : List Io) → IsOwn x.kind → IsAmong (x ∷ xs) x
among_first x xs own =
    let one : one_where (is_kind_of (of_io x.kind) x.kind) ≡ 1 = ap one_where (own_kind x.kind own) in
    (own, omega (arith, one, sum_by-cons (λ (y : Io). cond (is_io_of (of_io x.kind) y) 1 0) x xs))

among_more : (x : Io) (xs : List Io) (io : Io) → IsAmong xs io → IsAmong (x ∷ xs) io
among_more x xs io is = (is.0, omega (arith, is.1, sum_by-cons (λ (y : Io). cond (is_io_of (of_io io.kind) y) 1 0) x xs))

pub due_among : (e : ℕ) (ios : List Io) (io : Io) → due_of e ios ≡ Some io → All (λ (x : Io). IsOwn x.kind) ios → IsAmong ios io
due_among e [] io due all = cc
due_among e (x ∷ xs) io due all =
    let head : IsOwn x.kind = All-head (λ (y : Io). IsOwn y.kind) x xs all in
    let rest : (y : Io) → due_of e xs ≡ Some y → IsAmong xs y = λ y is. due_among e xs y is (All-tail (λ (z : Io). IsOwn z.kind) x xs all) in
    elim (nat_le x.ends e) as (λ b. cond b (Some (sooner_of x (due_of e xs))) (due_of e xs) ≡ Some io → IsAmong (x ∷ xs) io) [
      | true ↦ λ is.
          let same : sooner_of x (due_of e xs) ≡ io = same_Some _ _ is in
          elim (sooner_one x (due_of e xs)) [
            | inl first ↦ subst (IsAmong (x ∷ xs)) (sym first ∙ same) (among_first x xs head)
            | inr later ↦ among_more x xs io (rest io (sym later ∙ ap Some same))
          ]
      | false ↦ λ is. among_more x xs io (rest io is)
    ] due

module _ (w : WorkloadView) (e : ℕ) (p : ProcNo) (v : Virtuals) (good : Good w v) where
  abbrev runners : List (Option Runner)
  runners = good.stands.runners

  abbrev h : Holds w (parts_of v) runners
  h = good.stands.holds

  -- 1. AN I/O IS OVER
  pub unblocks : (io : Io) → due_of e v.base.under_way ≡ Some io → Met w e p v.base (unblocked v (of_io io.kind))
  unblocks io due =
      let a = of_io io.kind in
      let among = due_among e v.base.under_way io due h.ios in
      let once : in_ios v.base.under_way a.0 ≡ 1 = omega (arith, among.1, h.once a.0, one_or_none (is_virtual w (record { 0 = a.0 }))) in
      record {
        steps = (over.needs w (parts_of v) a runners h once v.base refl refl refl (thread_of v a) refl, tt);
        stands = record { runners = runners; holds = over.over_holds w (parts_of v) a runners h once (thread_of v a) refl };
        quiet = good.quiet;
        some = omega arith;
        counts = λ c below. put_event c v.base.state (space_of a) (thread_of v a) places.Carried below;
      }

  -- nobody runs, so no life changes
  same_lives : (f : Life → Life) (running : List (Option ActNo)) → IsQuiet running → with_life f (get_or running p.0 None) v.base.lives ≡ v.base.lives
  same_lives f running quiet = ap (λ o. with_life f o v.base.lives) (quiet p)

  -- 2. THE FIRST OF THE QUEUE IS PLACED
  abbrev Placing : ActNo → List ActNo → Option ThreadNo → Type 0
  Placing a rest t = Met w e p v.base (placing p (owner_at v.base.state p) t a [] rest v)

  pub places_one : (a : ActNo) (rest : List ActNo) → p.0 < w.processors → placed_on v p ≡ None → v.queue ≡ a ∷ rest → (t : Option ThreadNo)
      → thread_of v a ≡ t → Placing a rest t
  places_one a rest inside free queue None is = record {
    steps = ((refl, on.nobody w (parts_of v) runners h p inside free a rest queue), tt);
    stands = record { runners = runners; holds = on.none_holds w (parts_of v) runners h p inside free a rest queue is };
    quiet = good.quiet;
    some = omega arith;
    counts = λ c below. weaker c v.base.state.spaces below;
  }
  places_one a rest inside free queue (Some t) is =
      let nobody = on.nobody w (parts_of v) runners h p inside free a rest queue in
      record {
        steps = (
          (refl, nobody),
          (
            (
              on.owns w (parts_of v) runners h p inside free a rest queue,
              nobody,
              on.place w (parts_of v) runners h p inside free a rest queue t is,
            ),
            tt,
          ),
        );
        stands = record {
          runners = set runners p.0 (Some (runner (space_of a) t));
          holds =
              subst (λ lives. Holds w (record (on.places' w (parts_of v) runners h p inside free a rest queue (Some t)) { lives = lives })
              (set runners p.0 (Some (runner (space_of a) t))))
              (sym (same_lives (with_cont true) v.base.running good.quiet)) (on.some_holds w (parts_of v) runners h p inside free a rest queue t is);
        };
        quiet = good.quiet;
        some = omega arith;
        counts = λ c below. put_event c (with_owner v.base.state p (Some (space_of a))) (space_of a) (Some t) (places.Running p) below;
      }

  pub places_first : p.0 < w.processors → placed_on v p ≡ None → Met w e p v.base (placed_first v p v.queue)
  places_first inside free = elim v.queue as (λ q. q ≡ v.queue → Met w e p v.base (placed_first v p q)) [
    | [] ↦ λ is. record {
      steps = (tt, tt);
      stands = good.stands;
      quiet = good.quiet;
      some = omega arith;
      counts = λ c below. weaker c v.base.state.spaces below;
    }
    | a ∷ rest ↦ λ is. places_one a rest inside free (sym is) (thread_of v a) refl
  ] refl

  -- WHO IS PLACED
  module _ (a : ActNo) (at : placed_on v p ≡ Some a) (few : w.processors ≤ MAX_PROCESSORS) where
    abbrev s : SpaceNo
    s = space_of a

    -- whom it carries
    carries : (o : Option Runner) → runner_at runners p ≡ o → o ≡ runner_of s (option_map (λ (x : Runner). x.thread) o)
    carries None is = refl
    carries (Some x) is =
        let old = (h.fits p).runs x is in
        let same : a ≡ old.0 = same_Some _ _ (sym at ∙ old.1) in
        ap (λ (r : SpaceNo). Some (record { space = r; thread = x.thread })) (old.2 ∙ ap space_of (sym same))

    found : runner_at runners p ≡ runner_on v.base.state p
    found = index-finds p v.base.state.spaces runners h.replay.index

    pub carrier : runner_at runners p ≡ runner_of s (carried_on v p)
    carrier = carries (runner_at runners p) refl ∙ ap (λ o. runner_of s (option_map (λ (x : Runner). x.thread) o)) found

    -- 4. A PUSH
    pub pushes : (t : Option ThreadNo) (first : ThreadNo) (others : List ThreadNo) → v.work a.0 ≡ first ∷ others → Met w e p v.base (pushed v a t first others)
    pushes t first others work = record {
      steps = (tt, (push.push_needs w (parts_of v) runners h p a at few first others work, (tt, tt)));
      stands = record {
        runners = runners;
        holds =
            subst (λ o. Holds w (record (push.pushed w (parts_of v) runners h p a at few first others work) {
              lives = with_life without_lock o (with_life (made_ready first) o (with_life (locks v.base p (list_of a) t) o v.base.lives));
            }) runners)
            (sym (good.quiet p)) (push.push_holds w (parts_of v) runners h p a at few first others work);
      };
      quiet = good.quiet;
      some = omega arith;
      counts = λ c below. put_event c v.base.state s (Some first) places.Ready below;
    }

    -- 4. A POP
    pub takes : (l : ProcNo) (x : Listed) → 1 ≤ listed v.ready s.0 x.thread.0 → carried_on v p ≡ None → Met w e p v.base (taken_from v a l (Some x))
    takes l x some idle =
        let free : runner_at runners p ≡ None = carrier ∙ ap (runner_of s) idle in
        record {
          steps = (tt, (push.pop_needs w (parts_of v) runners h p a at x.thread some free, (tt, tt)));
          stands = record {
            runners = set runners p.0 (Some (runner s x.thread));
            holds =
                subst (λ o. Holds w (record (push.popped w (parts_of v) runners h p a at x.thread some free) {
                  lives = with_life without_lock o (with_life (with_first (ran x.thread)) o (with_life (locks v.base p l None) o v.base.lives));
                }) (set runners p.0 (Some (runner s x.thread))))
                (sym (good.quiet p)) (push.pop_holds w (parts_of v) runners h p a at x.thread some free);
          };
          quiet = good.quiet;
          some = omega arith;
          counts = λ c below. put_event c v.base.state s (Some x.thread) (places.Running p) below;
        }
