-- The replies that ask the kernel for something: a hint, the return of activations, a line.
use Rattle.std.proofs.Common.{le-ltb, ◌≡◌, ◌≢◌, ℕ, zero, suc, ◌+◌, ◌-◌, ◌≤◌, ◌<◌, Bool, true, false, not, ◌||◌, ◌&&◌, nat_lt, nat_le, List, [], ◌∷◌, map, length, Contains, Option, Some, None, IsSome, refl, sym, ap, ◌∙◌, subst, inl, inr, arith}
use Rattle.std.specs.Prelude.{◌==◌}
use Rattle.std.specs.Int.{bit_at}
use Rattle.std.specs.List.{list_any}
use Rattle.std.proofs.lemmas.Bool.{cases_eq, and_parts, lt-ltb, ltb-true, eqb-true}
use Rattle.std.proofs.lemmas.Bool.Decides.{nat_tests}
use Rattle.std.proofs.lemmas.List.{get_or-set_other}
use Rattle.std.proofs.lemmas.Option.{none-some}
use Rattle.sa_base.specs.declared.context.Seen.{Seen}
use Rattle.sa_base.specs.declared.number.ActNo.{ActNo}
use Rattle.sa_base.specs.declared.number.ProcNo.{ProcNo}
use Rattle.sa_base.specs.declared.number.SpaceNo.{SpaceNo}
use Rattle.sa_base.specs.declared.record.Record.{Record}
use Rattle.sa_base.specs.declared.record.Record.TheVariants as records
use Rattle.sa_lemmas.proofs.FunctionUpdates.{put-same, put-other}
use Rattle.sa_lemmas.specs.Function.{put}
use Rattle.sa_spaces.specs.Workload.{WorkloadView}
use Rattle.sa_fast.specs.declared.shared.Shared.{Shared}
use Rattle.sa_abstract.specs.Calls.{Contexts}
use Rattle.sa_abstract.specs.Setting.{Setting}
use Rattle.sa_abstract.specs.declared.answer.Step.TheVariants as asks
use Rattle.sa_driven_model.specs.declared.context.DrivenContext.{DrivenContext}
use Rattle.sa_driven_model.specs.declared.reply.Reply.TheVariants as reply
use Rattle.sa_driven_model.specs.declared.space.DrivenSpace.{DrivenSpace}
use Rattle.sa_driven_model.specs.Reply.{can, can_want}
use Rattle.sa_driven_model.specs.Step.{answered_by, wants, done}
use Rattle.sa_laws.specs.Any.{is_inside_any}
use Rattle.sa_laws.specs.History.{is_up, after_records, settles}
use Rattle.sa_laws.specs.Life.{Life}
use Rattle.sa_laws.specs.Readings.{Readings, life_of, demand_of, taken_of, untold_of, stopped_thread}
use Rattle.sa_laws.specs.Record.{after_record}
use Rattle.sa_laws.specs.State.{space_at}
use Rattle.sa_user_laws.specs.Scene.{event_begun_at}
use Rattle.sa_user_laws.specs.Steps.{event_with}
use Rattle.sa_fast_laws.proofs.relation.NoteLists.{notes-same}
use Rattle.sa_fast_laws.specs.Stage.{is_gone}
use Rattle.sa_driven_laws.specs.DrivenFits.{Holds, RestBut}
use Rattle.sa_driven_laws.proofs.Frames.{SameHeld, held-holds, held-others}
use Rattle.sa_driven_laws.proofs.Inside.{inside-settled, inside-idle}
use Rattle.sa_driven_laws.proofs.Moves.{IsLegal, IsBehind, ask-legal}
use Rattle.sa_driven_laws.proofs.Moves as moves
use Rattle.sa_driven_laws.proofs.Replies.{unlowered}
use Rattle.sa_driven_laws.proofs.Scenes.{IsScene}
use Rattle.sa_driven_laws.proofs.Scenes as scene
use Rattle.sa_driven_laws.proofs.Turned.{IsLike}

-- A LIFE IS GIVEN BACK that has no context any more
module _ (s : SpaceNo) (r : Readings) (u : Shared) (cs : Contexts DrivenContext) (k : Holds s r u cs) (w : WorkloadView) (number : ℕ) (p : ProcNo)
    (b : ActNo) (none : cs b.0 ≡ None) where
  abbrev q : Readings
  q = after_record w number p r (records.GiveBack b)

  give-there : (x : ActNo) (d : DrivenContext) → cs x.0 ≡ Some d → life_of q x ≡ life_of r x
  give-there x d at = put-other r.lives b.0 x.0 None (λ same. none-some d (sym none ∙ ap cs (sym same) ∙ at))

  back_to : (x : ActNo) (l : Life) → life_of q x ≡ Some l → life_of r x ≡ Some l
  back_to x l at = elim (cases_eq x.0 b.0) [
    | inl e ↦ absurd (none-some l (sym (put-same r.lives b.0 None) ∙ ap (put r.lives b.0 None) (sym e) ∙ at))
    | inr ne ↦ sym (put-other r.lives b.0 x.0 None ne) ∙ at
  ]

  give-holds : Holds s q u cs
  give-holds = record {
    space = k.space;
    load =
        let sums = notes-same r q (untold_of r s) (λ x has. by x (cs x.0) refl (k.noted x (inl has))) in
        let was = k.load in omega (arith, sums, was);
    lives = λ x d at. let its = k.lives x d at in (its.0, give-there x d at ∙ its.1, its.2);
    others = λ x l at of no_ctx. k.others x l (back_to x l at) of no_ctx;
    noted = k.noted;
    single = k.single;
    runs = λ y x l at its of. k.runs y x l at (back_to x l its) of;
  } where
    by : (x : ActNo) (o : Option DrivenContext) → cs x.0 ≡ o → IsSome (cs x.0) → stopped_thread (life_of q x) ≡ stopped_thread (life_of r x)
    by x None at some = absurd (let no_such = subst IsSome at some in cc)
    by x (Some d) at some = ap stopped_thread (give-there x d at)

  give-others : (a : ActNo) → RestBut s r a cs → RestBut s q a cs
  give-others a rest x d l ne at is = rest x d l ne at (sym (give-there x d at) ∙ is)

record AreGiven (s : SpaceNo) (r q : Readings) (u : Shared) (cs : Contexts DrivenContext) (a : ActNo) : Type 0 where
  pub holds : Holds s q u cs
  pub others : RestBut s q a cs
  pub lives : (x : ActNo) (d : DrivenContext) → cs x.0 ≡ Some d → life_of q x ≡ life_of r x
  pub state : q.state ≡ r.state
  pub running : q.running ≡ r.running

gives : (s : SpaceNo) (u : Shared) (cs : Contexts DrivenContext) (w : WorkloadView) (number : ℕ) (p : ProcNo) (a : ActNo) (bs : List ActNo) (r : Readings)
    → ((b : ActNo) → Contains bs b → cs b.0 ≡ None) → Holds s r u cs → RestBut s r a cs
    → AreGiven s r (after_records w number p r (map records.GiveBack bs)) u cs a
gives s u cs w number p a [] r none k rest = record { holds = k; others = rest; lives = λ x d at. refl; state = refl; running = refl }
gives s u cs w number p a (b ∷ bs) r none k rest =
    let here = none b (zero, omega arith, refl) in
    let q = after_record w number p r (records.GiveBack b) in
    let more = gives s u cs w number p a bs q (λ x has. none x (let inside = has.1 in (suc has.0, omega (arith, inside), has.2)))
    (give-holds s r u cs k w number p b here) (give-others s r u cs k w number p b here a rest) in
    record {
      holds = more.holds;
      others = more.others;
      lives = λ x d at. more.lives x d at ∙ give-there s r u cs k w number p b here x d at;
      state = more.state;
      running = more.running;
    }

gives-plain : (bs : List ActNo) → list_any is_up (map records.GiveBack bs) ≡ false
gives-plain [] = refl
gives-plain (b ∷ bs) = gives-plain bs

-- HINTS
raise : (d n most : ℕ) → nat_lt d n ≡ true → ((nat_lt d n && nat_le n most) || n + 1 == d) ≡ true → (d < d + (n - d)) × (d + (n - d) ≤ most)
raise d n most more is =
    let below : d < n = ltb-true d n more in
    let few : n ≤ most = grind (arith, nat_tests) in
    (omega (arith, below), omega (arith, below, few))

lower : (d n most : ℕ) → nat_lt d n ≡ false → ((nat_lt d n && nat_le n most) || n + 1 == d) ≡ true → 1 ≤ d
lower d n most less is = grind (arith, nat_tests)

module _ (set : Setting) (e : ℕ) (u : DrivenSpace) (cs : Contexts DrivenContext) (w : WorkloadView) (r : Readings) (p : ProcNo) (a : ActNo) (life : Life)
    (c : DrivenContext) (seen : Seen) (i : IsScene set e u cs w r p a life c seen) where
  abbrev r0 : Readings
  r0 = event_begun_at w seen.event p r

  k0 : Holds set.space (event_begun_at w seen.event p r) u.base.shared cs
  k0 = moves.k0 set e u cs w r p a life c seen i

  rest0 : RestBut set.space (event_begun_at w seen.event p r) a cs
  rest0 = moves.rest0 set e u cs w r p a life c seen i

  low : c.lowers ≡ false
  low = unlowered set e u cs w r p a life c seen i

  processors : u.base.processors ≡ w.processors
  processors = scene.processors set e u cs w r p a life c seen i

  -- what it does where it does not lower
  pub like-settled : (later : Seen) → IsLike c (answered_by u later c c.lowers)
  like-settled later = subst (λ b. IsLike c (answered_by u later c b)) (sym low) (record { thread = refl; locks = refl; continues = refl; hand = refl })

  low-settled : (later : Seen) → (answered_by u later c c.lowers).lowers ≡ false
  low-settled later = ap (λ b. (answered_by u later c b).lowers) low ∙ low

  settled-so : (x : Record) (xs : List Record) (q last : Readings) (later : Seen) (closing : List Record) → IsBehind set e u cs a c life later q last
      → settles r last x ≡ true
      → is_inside_any w r (event_with seen.event p (x ∷ xs) closing) last (settles r last x) life ≡ (answered_by u later c c.lowers).inside
  settled-so x xs q last later closing b is_so =
      ap (λ z. is_inside_any w r (event_with seen.event p (x ∷ xs) closing) last z life) is_so
      ∙ inside-settled set e u cs b.stands last b.holds a c b.mine life b.there (ap is_gone b.stage) w later processors b.demand b.taken b.carries r
      (event_with seen.event p (x ∷ xs) closing)
      ∙ sym (ap (λ z. (answered_by u later c z).inside) low)

  same-held : (q : Readings) → q.state ≡ r.state → q.untold ≡ r.untold → q.running ≡ r.running → q.lives ≡ r.lives → SameHeld set.space r0 q
  same-held q state untold running lives = record {
    space = ap (λ z. space_at z set.space) state;
    untold = ap (λ ls. untold_of (record r { untold = ls }) set.space) untold;
    running = running;
    lives = lives;
  }

  -- WANT
  abbrev d : ℕ
  d = demand_of r set.space

  want-legal : (n : ℕ) (more : Bool) → nat_lt seen.demand n ≡ more → can_want u seen n ≡ true → IsLegal w set r p seen.event a cs (wants u seen c n more)
  want-legal n true test able =
      let demand : seen.demand ≡ demand_of r set.space = i.sees.demand in
      let m = demand_of r set.space + (n - seen.demand) in
      let fits = raise seen.demand n u.base.processors test able in
      let above : demand_of r set.space < m = (let f = fits.0 in omega (arith, f, demand)) in
      let most : m ≤ w.processors = (let f = fits.1 in let same = processors in omega (arith, f, demand, same)) in
      let x = records.Want set.space m in
      let q = after_record w seen.event p r0 x in
      let held = same-held q refl refl refl refl in
      record {
        steps = tt;
        answer = ask-legal set e u cs w r p a life c seen i (asks.More (n - seen.demand)) c x [] (record {
          like = record { thread = refl; locks = refl; continues = refl; hand = refl };
          records = refl;
          first = refl;
          no_up = refl;
          table = (refl, (sym i.on.space, inl (above, most)));
          heard = λ behind. tt;
          holds = held-holds set.space r0 q held u.base.shared cs k0;
          others = held-others set.space r0 q held a cs rest0;
          running = refl;
          there = i.on.is;
          elsewhere = λ z. refl;
          lowers = low-settled;
          still = like-settled;
          inside = λ closing last later b. settled-so x [] q last later closing b
              (ap not (le-ltb m (demand_of r set.space) (let f = above in omega (arith, f))));
        });
      }
  want-legal n false test able =
      let demand : seen.demand ≡ demand_of r set.space = i.sees.demand in
      let some : 1 ≤ demand_of r set.space = (let f = lower seen.demand n u.base.processors test able in omega (arith, f, demand)) in
      let m = demand_of r set.space - 1 in
      let under : nat_lt m (demand_of r set.space) ≡ true = lt-ltb m (demand_of r set.space) (let f = some in omega (arith, f)) in
      let asking : DrivenContext = record c { lowers = true } in
      let x = records.Want set.space m in
      let q = after_record w seen.event p r0 x in
      let held = same-held q refl refl refl refl in
      record {
        steps = tt;
        answer = ask-legal set e u cs w r p a life c seen i asks.Idle asking x [] (record {
          like = record { thread = refl; locks = refl; continues = refl; hand = refl };
          records = refl;
          first = refl;
          no_up = refl;
          table = (refl, (sym i.on.space, inr (let f = some in omega (arith, f))));
          heard = λ behind. tt;
          holds = held-holds set.space r0 q held u.base.shared cs k0;
          others = held-others set.space r0 q held a cs rest0;
          running = refl;
          there = i.on.is;
          elsewhere = λ z. refl;
          lowers = λ later. refl;
          still = λ later. record { thread = refl; locks = refl; continues = refl; hand = refl };
          inside = λ closing last later b.
              ap (λ z. is_inside_any w r (event_with seen.event p (x ∷ []) closing) last (not z) life) under
              ∙ inside-idle set e u cs b.stands last b.holds a c b.mine life b.there (ap is_gone b.stage) w r (event_with seen.event p (x ∷ []) closing) refl
              under;
        });
      }

  pub wants-legal : (n : ℕ) → can u seen c (reply.Want n) ≡ true → IsLegal w set r p seen.event a cs (done u seen c (reply.Want n))
  wants-legal n able = want-legal n (nat_lt seen.demand n) refl able

  -- GIVEBACK
  pub gives-legal : can u seen c reply.GiveBack ≡ true → IsLegal w set r p seen.event a cs (done u seen c reply.GiveBack)
  gives-legal able = by (taken_of r set.space) refl where
    by : (bs : List ActNo) → taken_of r set.space ≡ bs → IsLegal w set r p seen.event a cs (done u seen c reply.GiveBack)
    by [] at = absurd (
        let some = ltb-true 0 seen.taken able in let same = i.sees.taken in let none : length (taken_of r set.space) ≡ 0 = ap length at in
        omega (arith, some, same, none))
    by (b ∷ bs) at =
        let x = records.GiveBack b in
        let g = gives set.space u.base.shared cs w seen.event p a (b ∷ bs) r0 (λ y has. i.given y (subst (λ ys. Contains ys y) (sym at) has)) k0 rest0 in
        record {
          steps = tt;
          answer = ask-legal set e u cs w r p a life c seen i asks.GiveBack c x (map records.GiveBack bs) (record {
            like = record { thread = refl; locks = refl; continues = refl; hand = refl };
            records = ap (map records.GiveBack) at;
            first = refl;
            no_up = gives-plain bs;
            table = sym (ap (λ s. map records.GiveBack (taken_of r s)) i.on.space ∙ ap (map records.GiveBack) at);
            heard = λ behind. tt;
            holds = g.holds;
            others = g.others;
            running = g.running;
            there = g.lives a c i.on.mine ∙ i.on.is;
            elsewhere = λ z. ap (λ y. space_at y z) g.state;
            lowers = low-settled;
            still = like-settled;
            inside = λ closing last later b. settled-so x (map records.GiveBack bs) _ last later closing b refl;
          });
        }

  -- LINE
  pub line-legal : (q : ProcNo) → can u seen c (reply.Line q) ≡ true → IsLegal w set r p seen.event a cs (done u seen c (reply.Line q))
  line-legal q able =
      let outer = and_parts (not (q.0 == seen.proc.0) && nat_lt q.0 u.base.processors) (bit_at seen.low q.0 == 1) able in
      let inner = and_parts (not (q.0 == seen.proc.0)) (nat_lt q.0 u.base.processors) outer.0 in
      let differ : not (q.0 == seen.proc.0) ≡ true = inner.0 in
      let proc : seen.proc.0 ≡ p.0 = ap (λ (z : ProcNo). z.0) i.sees.proc in
      let apart : q.0 ≢ p.0 = λ same. not-same q.0 seen.proc.0 differ (same ∙ sym proc) in
      let own = (i.sees.low q).0 (eqb-true (bit_at seen.low q.0) 1 outer.1) in
      let x = records.Line q in
      let after = after_record w seen.event p r0 x in
      let held = same-held after refl refl refl refl in
      record {
        steps = tt;
        answer = (
          ask-legal set e u cs w r p a life c seen i (asks.InterruptOwn q) c x [] (record {
            like = record { thread = refl; locks = refl; continues = refl; hand = refl };
            records = refl;
            first = refl;
            no_up = refl;
            table = (
              refl,
              record {
                apart = λ same. apart (ap (λ (z : ProcNo). z.0) same);
                owned = own.0 ∙ ap Some (sym i.on.space);
                low = own.1;
              },
            );
            heard = λ behind. tt;
            holds = held-holds set.space r0 after held u.base.shared cs k0;
            others = held-others set.space r0 after held a cs rest0;
            running = refl;
            there = i.on.is;
            elsewhere = λ z. refl;
            lowers = low-settled;
            still = like-settled;
            inside = λ closing last later b. settled-so x [] after last later closing b refl;
          }),
          sym (get_or-set_other r.lines p.0 q.0 None None apart) ∙ own.1,
        );
      } where
        not-same : (m n : ℕ) → not (m == n) ≡ true → m ≢ n
        not-same m n is same = grind (arith, nat_tests)
