-- Counts and places go on to agree where one thread is put elsewhere, and where one runs its instruction.
use Rattle.std.proofs.Common.{◌≡◌, ◌≢◌, ℕ, ◌+◌, ◌<◌, Bool, true, false, cond, eqb, ◌&&◌, List, length, inl, inr, refl, sym, ap, subst, ◌∙◌, arith}
use Rattle.std.proofs.lemmas.Bool.{cases_eq, ne_eqb, eq-eqb}
use Rattle.std.proofs.lemmas.List.{get_or-set_same, get_or-set_other}
use Rattle.sa_base.specs.declared.number.SpaceNo.{SpaceNo}
use Rattle.sa_base.specs.declared.number.ThreadNo.{ThreadNo}
use Rattle.sa_links.specs.Lists.{count_in}
use Rattle.sa_sync.specs.Sync.{waits_of}
use Rattle.sa_laws.specs.declared.place.Place.{Place}
use Rattle.sa_laws.specs.declared.place.Place.TheVariants as places
use Rattle.sa_laws.specs.State.{SpaceState, put_thread, is_waiting, no_threads}
use Rattle.sa_laws.specs.Effect.{Effect}
use Rattle.sa_replay.specs.Spaces.{space_in, with_space_in, place_in}
use Rattle.sa_replay.proofs.ChangeLemmas.{is_there, put_own, put_other}
use Rattle.sa_replay.proofs.ShapeLemmas.{was_made}
use Rattle.sa_virtual.specs.Holding.{one_where, one_if, kind, numbers, place_no, at_no, Counts, Agrees, AgreesAt, AllAgree}
use Rattle.sa_virtual.proofs.Effects.{Tells}

-- n for one thread, and 0 for each other
abbrev pub if_at : ℕ → ℕ → ℕ → ℕ → ℕ → ℕ
if_at s t r u n = cond (eqb r s && eqb u t) n 0

pub at_self : (s t n : ℕ) → if_at s t s t n ≡ n
at_self s t n = ap (λ b. cond (b && eqb t t) n 0) (eq-eqb s s refl) ∙ ap (λ b. cond b n 0) (eq-eqb t t refl)

none_second : (b : Bool) (n : ℕ) → (cond (b && false) n 0) + 0 ≡ 0
none_second true n = refl
none_second false n = refl

pub at_space : (s t r u n : ℕ) → r ≢ s → if_at s t r u n ≡ 0
at_space s t r u n ne = ap (λ b. cond (b && eqb u t) n 0) (ne_eqb r s ne)

pub at_thread : (s t r u n : ℕ) → u ≢ t → if_at s t r u n ≡ 0
at_thread s t r u n ne = let e : if_at s t r u n + 0 ≡ 0 = ap (λ b. cond (eqb r s && b) n 0 + 0) (ne_eqb u t ne) ∙ none_second (eqb r s) n in omega (arith, e)

-- one thread's place becomes another, and the counts change with it
pub record Moves (s t : ℕ) (old new : Place) (c d : Counts) : Type 0 where
  pub ready : (r u : ℕ) → d.ready r u + if_at s t r u (one_if (kind old) 1) ≡ c.ready r u + if_at s t r u (one_if (kind new) 1)
  pub carries : (r u : ℕ) → d.carries r u + if_at s t r u (one_if (kind old) 2) ≡ c.carries r u + if_at s t r u (one_if (kind new) 2)
  pub blocks : (r u : ℕ) → d.blocks r u + if_at s t r u (one_if (kind old) 3) ≡ c.blocks r u + if_at s t r u (one_if (kind new) 3)
  pub works : (r u : ℕ) → d.works r u + if_at s t r u (one_where (is_waiting old)) ≡ c.works r u + if_at s t r u (one_where (is_waiting new))

module _ (spaces : List SpaceState) (s : SpaceNo) (x : SpaceState) (inside : s.0 < length spaces) where
  pub this_space : at_no (with_space_in spaces s x) s.0 ≡ x
  this_space = get_or-set_same spaces s.0 x no_threads inside

  pub other_space : (r : ℕ) → r ≢ s.0 → at_no (with_space_in spaces s x) r ≡ at_no spaces r
  other_space r ne = get_or-set_other spaces s.0 r x no_threads ne

module _ (c d : Counts) (spaces : List SpaceState) (s : SpaceNo) (t : ThreadNo) (old new : Place) (agree : AllAgree c spaces)
    (is : place_in spaces s t ≡ old) (live : old ≢ places.Done) (moves : Moves s.0 t.0 old new c d) where
  abbrev x : SpaceState
  x = space_in spaces s

  abbrev y : SpaceState
  y = put_thread new x t

  inside : s.0 < length spaces
  inside = is_there spaces s t (λ e. live (sym is ∙ e))

  made : t.0 < length x.threads
  made = was_made x t (λ e. live (sym is ∙ e))

  -- the thread
  mine : Agrees (d.ready s.0 t.0) (d.carries s.0 t.0) (d.blocks s.0 t.0) (waits_of x.sync t.0 + d.works s.0 t.0) new
  mine =
      let a : Agrees (c.ready s.0 t.0) (c.carries s.0 t.0) (c.blocks s.0 t.0) (waits_of x.sync t.0 + c.works s.0 t.0) old =
      subst (λ place. Agrees (c.ready s.0 t.0) (c.carries s.0 t.0) (c.blocks s.0 t.0) (waits_of x.sync t.0 + c.works s.0 t.0) place) is (agree s.0 t.0) in
      record {
        in_lists = omega (arith, a.in_lists, moves.ready s.0 t.0, at_self s.0 t.0 (one_if (kind old) 1), at_self s.0 t.0 (one_if (kind new) 1));
        in_queue = omega (arith, a.in_queue, moves.carries s.0 t.0, at_self s.0 t.0 (one_if (kind old) 2), at_self s.0 t.0 (one_if (kind new) 2));
        in_ios = omega (arith, a.in_ios, moves.blocks s.0 t.0, at_self s.0 t.0 (one_if (kind old) 3), at_self s.0 t.0 (one_if (kind new) 3));
        in_work = omega (arith, a.in_work, moves.works s.0 t.0, at_self s.0 t.0 (one_where (is_waiting old)), at_self s.0 t.0 (one_where (is_waiting new)));
      }

  -- any other
  rest : (r u : ℕ) → ((n : ℕ) → if_at s.0 t.0 r u n ≡ 0) → AgreesAt c spaces r u
      → Agrees (d.ready r u) (d.carries r u) (d.blocks r u) (waits_of (at_no spaces r).sync u + d.works r u) (place_no (at_no spaces r) u)
  rest r u none a = record {
    in_lists = omega (arith, a.in_lists, moves.ready r u, none (one_if (kind old) 1), none (one_if (kind new) 1));
    in_queue = omega (arith, a.in_queue, moves.carries r u, none (one_if (kind old) 2), none (one_if (kind new) 2));
    in_ios = omega (arith, a.in_ios, moves.blocks r u, none (one_if (kind old) 3), none (one_if (kind new) 3));
    in_work = omega (arith, a.in_work, moves.works r u, none (one_where (is_waiting old)), none (one_where (is_waiting new)));
  }

  in_space : (u : ℕ) → Agrees (d.ready s.0 u) (d.carries s.0 u) (d.blocks s.0 u) (waits_of y.sync u + d.works s.0 u) (place_no y u)
  in_space u = elim (cases_eq u t.0) [
    | inl e ↦ subst (λ n. Agrees (d.ready s.0 n) (d.carries s.0 n) (d.blocks s.0 n) (waits_of y.sync n + d.works s.0 n) (place_no y n)) (sym e)
        (subst (λ place. Agrees (d.ready s.0 t.0) (d.carries s.0 t.0) (d.blocks s.0 t.0) (waits_of y.sync t.0 + d.works s.0 t.0) place)
        (sym (put_own new x t made)) mine)
    | inr ne ↦ subst (λ place. Agrees (d.ready s.0 u) (d.carries s.0 u) (d.blocks s.0 u) (waits_of y.sync u + d.works s.0 u) place)
        (sym (put_other new x t made (record { 0 = u }) ne))
        (rest s.0 u (λ n. at_thread s.0 t.0 s.0 u n ne) (agree s.0 u))
  ]

  pub moved : AllAgree d (with_space_in spaces s (put_thread new (space_in spaces s) t))
  moved r u = elim (cases_eq r s.0) [
    | inl e ↦ subst (λ n. AgreesAt d (with_space_in spaces s y) n u) (sym e)
        (subst (λ (z : SpaceState). Agrees (d.ready s.0 u) (d.carries s.0 u) (d.blocks s.0 u) (waits_of z.sync u + d.works s.0 u) (place_no z u))
        (sym (this_space spaces s y inside)) (in_space u))
    | inr ne ↦
        subst (λ (z : SpaceState). Agrees (d.ready r u) (d.carries r u) (d.blocks r u) (waits_of z.sync u + d.works r u) (place_no z u))
        (sym (other_space spaces s y inside r ne))
        (rest r u (λ n. at_space s.0 t.0 r u n ne) (agree r u))
  ]

-- an instruction: what it rouses comes into a work list
pub record Rouses (s : ℕ) (roused : List ThreadNo) (c d : Counts) : Type 0 where
  pub ready : (r u : ℕ) → d.ready r u ≡ c.ready r u
  pub carries : (r u : ℕ) → d.carries r u ≡ c.carries r u
  pub blocks : (r u : ℕ) → d.blocks r u ≡ c.blocks r u
  pub here : (u : ℕ) → d.works s u ≡ c.works s u + count_in u (numbers roused)
  pub elsewhere : (r u : ℕ) → r ≢ s → d.works r u ≡ c.works r u

module _ (c d : Counts) (spaces : List SpaceState) (s : SpaceNo) (inside' : s.0 < length spaces) (run : Effect) (agree : AllAgree c spaces)
    (tells : Tells (space_in spaces s) run) (rouses : Rouses s.0 run.roused c d) where
  ran_here : (u : ℕ) → Agrees (d.ready s.0 u) (d.carries s.0 u) (d.blocks s.0 u) (waits_of run.space.sync u + d.works s.0 u) (place_no run.space u)
  ran_here u =
      let a = agree s.0 u in
      let same = tells.kinds u in
      record {
        in_lists = rouses.ready s.0 u ∙ a.in_lists ∙ sym (ap (λ k. one_if k 1) same);
        in_queue = rouses.carries s.0 u ∙ a.in_queue ∙ sym (ap (λ k. one_if k 2) same);
        in_ios = rouses.blocks s.0 u ∙ a.in_ios ∙ sym (ap (λ k. one_if k 3) same);
        in_work = omega (arith, a.in_work, tells.waits u, rouses.here u);
      }

  pub ran : AllAgree d (with_space_in spaces s run.space)
  ran r u = elim (cases_eq r s.0) [
    | inl e ↦ subst (λ n. AgreesAt d (with_space_in spaces s run.space) n u) (sym e)
        (subst (λ (z : SpaceState). Agrees (d.ready s.0 u) (d.carries s.0 u) (d.blocks s.0 u) (waits_of z.sync u + d.works s.0 u) (place_no z u))
        (sym (this_space spaces s run.space inside')) (ran_here u))
    | inr ne ↦
        let a = agree r u in
        subst (λ (z : SpaceState). Agrees (d.ready r u) (d.carries r u) (d.blocks r u) (waits_of z.sync u + d.works r u) (place_no z u))
        (sym (other_space spaces s run.space inside' r ne)) (record {
          in_lists = rouses.ready r u ∙ a.in_lists;
          in_queue = rouses.carries r u ∙ a.in_queue;
          in_ios = rouses.blocks r u ∙ a.in_ios;
          in_work = omega (arith, a.in_work, rouses.elsewhere r u ne);
        })
  ]
